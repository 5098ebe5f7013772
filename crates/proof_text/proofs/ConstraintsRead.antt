-- Written constraints: the term that stands next, and what closes them.
use Rattle.std.proofs.Common.{◌≡◌, ℕ, ℤ, Bool, true, false, ◌&&◌, if◌then◌else◌, Option, Some, None, List, [], ◌∷◌, ◌++◌, is_some, refl, sym, ap, subst, ◌∙◌, arith}
use Rattle.std.proofs.lemmas.List.{append-nil}
use Rattle.std.specs.Option.{option_map}
use Rattle.pb_text.specs.Lexeme.{kind_of}
use Rattle.pb_text.specs.Word.{name_of}
use Rattle.pb_text.specs.Number.{integer_value}
use Rattle.pb_text.specs.declared.kind.Kind.{Kind}
use Rattle.pb_text.specs.declared.kind.Kind.TheVariants.{Symbol, Stray, Integer, Literal, Misspelt, Other}
use Rattle.linear.specs.declared.term.Lit.{Lit}
use Rattle.linear.specs.declared.term.Term.{Term}
use Rattle.linear.specs.declared.constraint.Signed.{Signed}
use Rattle.linear.specs.declared.constraint.Relation.TheVariants as relations
use Rattle.proof_text.specs.Kinds.{is_integer, is_literal, is_at_least}
use Rattle.proof_text.specs.Words.{IsSmall, AreSmall, begins_integer}
use Rattle.proof_text.specs.NamesMet.{NamesMet, met, met_in}
use Rattle.proof_text.specs.Numbering.{lit_of}
use Rattle.proof_text.specs.Forms.{is_term, term_of, terms_of, behind_terms, closing_of}
use Rattle.proof_text.specs.Next.{begins_literal}
use Rattle.proof_text.specs.PartsRead.{IsConstraintRead, Takes, SoFar}
use Rattle.proof_text.specs.PartsDenied.{Denies}
use Rattle.proof_text.specs.declared.fault.ProofFault.{ProofFault}
use Rattle.proof_text.proofs.WordsByKind.{all_small, none_small, rest_small, small_other, integer_alone, literal_alone, denied_more}
use Rattle.proof_text.proofs.NamesNumbered.{met_literal, met_other}
use Rattle.proof_text.proofs.PartsInTurn.{lit_met}

-- an integer and a literal are a term
pub pair_is_term : (a b : List ℕ) → is_integer (kind_of a) ≡ true → is_literal (kind_of b) ≡ true → is_term a b ≡ true
pair_is_term a b h l = ap (λ i. i && is_literal (kind_of b)) h ∙ l

no_term : (a b : List ℕ) → is_integer (kind_of a) ≡ true → is_literal (kind_of b) ≡ false → is_term a b ≡ false
no_term a b h l = ap (λ i. i && is_literal (kind_of b)) h ∙ l

abbrev term_from : ℤ → Lit → Term
term_from n l = record { coef = n; var = l.var; negated = l.negated }

-- the term that stands next
pub next_term : (k new : NamesMet) (a b : List ℕ) (left rest : List (List ℕ)) (n : ℤ) (l : Lit) → left ≡ b ∷ rest
    → is_integer (kind_of a) ≡ true → n ≡ integer_value a → IsSmall a → is_literal (kind_of b) ≡ true → new ≡ met k (name_of b) → l ≡ lit_of new.names b
    → Takes behind_terms terms_of k (a ∷ left) (record { coef = n; var = l.var; negated = l.negated }) new rest
next_term k new a b left rest n l at h e small lit g f =
    let pair : is_term a b ≡ true = pair_is_term a b h lit in
    let x : Term = record { coef = n; var = l.var; negated = l.negated } in
    let whole : met_in k (a ∷ b ∷ rest) ≡ met_in k (b ∷ rest) = met_other k a (b ∷ rest) (integer_alone (kind_of a) h).0 in
    let t : Takes behind_terms terms_of k (a ∷ b ∷ rest) x new rest = record {
      same = ap (λ t. if t then behind_terms rest else a ∷ b ∷ rest) pair;
      first = λ more.
          let names = (met_in (met_in k (a ∷ b ∷ rest)) more).names in
          let number : lit_of names b ≡ l = ap (λ (m : NamesMet). lit_of (met_in m more).names b) whole ∙ lit_met k new b rest more l lit g f in
          ap (λ t. if t then term_of names a b ∷ terms_of names rest else []) pair
          ∙ ap (λ (y : Lit). term_from (integer_value a) y ∷ terms_of names rest) number
          ∙ ap (λ (v : ℤ). term_from v l ∷ terms_of names rest) (sym e);
      known = whole ∙ met_literal k b rest lit ∙ ap (λ m. met_in m rest) (sym g);
      small = λ s. all_small a (b ∷ rest) small (all_small b rest (small_other b (literal_alone (kind_of b) lit).0) s);
      later = λ s. rest_small b rest (rest_small a (b ∷ rest) s);
      shorter = omega arith;
    } in
    subst (λ ws. Takes behind_terms terms_of k (a ∷ ws) x new rest) (sym at) t

no_at_least : (k : Kind) → is_integer k ≡ true → is_at_least k ≡ false
no_at_least (Symbol s) h = cc
no_at_least Stray h = cc
no_at_least Integer h = refl
no_at_least Literal h = cc
no_at_least Misspelt h = cc
no_at_least Other h = cc

-- what an integer begins closes no constraint
open_end : (a : List ℕ) (rest : List (List ℕ)) → is_integer (kind_of a) ≡ true → closing_of (a ∷ rest) ≡ None
open_end a [] h = refl
open_end a (b ∷ []) h = ap (λ t. if t && is_integer (kind_of b) then Some (integer_value b) else None) (no_at_least (kind_of a) h)
open_end a (b ∷ c ∷ rest) h = refl

-- an integer that no literal follows
pub cut_term : (a : List ℕ) (left : List (List ℕ)) → is_integer (kind_of a) ≡ true → left ≡ [] → is_some (closing_of (behind_terms (a ∷ left))) ≡ false
cut_term a left h e = ap (λ ws. is_some (closing_of (behind_terms (a ∷ ws)))) e ∙ ap is_some (open_end a [] h)

-- a fault at the literal of a term
pub denied_term : (f : ProofFault) (a : List ℕ) (left : List (List ℕ)) → is_integer (kind_of a) ≡ true → Denies f (begins_literal left) left
    → Denies f (is_some (closing_of (behind_terms (a ∷ left)))) (a ∷ left)
denied_term f a [] h d = denied_more f false _ [] (a ∷ []) (λ e. cut_term a [] h refl) (rest_small a []) d
denied_term f a (b ∷ rest) h d =
    denied_more f (is_literal (kind_of b)) _ (b ∷ rest) (a ∷ b ∷ rest)
    (λ e. ap (λ t. is_some (closing_of (if t then behind_terms rest else a ∷ b ∷ rest))) (no_term a b h e) ∙ ap is_some (open_end a (b ∷ rest) h))
    (rest_small a (b ∷ rest)) d

-- where no integer stands next, no term does
pub ends_terms : (names left : List (List ℕ)) → begins_integer left ≡ false → (terms_of names left ≡ []) × (behind_terms left ≡ left)
ends_terms names [] h = (refl, refl)
ends_terms names (a ∷ []) h = (refl, refl)
ends_terms names (a ∷ b ∷ rest) h =
    let e : is_term a b ≡ false = ap (λ p. p && is_literal (kind_of b)) h in
    (ap (λ p. if p then term_of names a b ∷ terms_of names rest else []) e, ap (λ p. if p then behind_terms rest else a ∷ b ∷ rest) e)

-- `>=`, an integer and no more
pub closed_by : (a b : List ℕ) (ws rest more : List (List ℕ)) (n : ℤ) → ws ≡ a ∷ rest → rest ≡ b ∷ more → more ≡ [] → is_at_least (kind_of a) ≡ true → is_integer (kind_of b) ≡ true → n ≡ integer_value b
    → closing_of ws ≡ Some n
closed_by a b ws rest more n e f g h i v =
    ap closing_of (e ∙ ap (λ x. a ∷ x) (f ∙ ap (λ x. b ∷ x) g))
    ∙ ap (λ t. if t && is_integer (kind_of b) then Some (integer_value b) else None) h
    ∙ ap (λ t. if t then Some (integer_value b) else None) i
    ∙ ap (λ x. Some x) (sym v)

pub two_small : (a b : List ℕ) (ws rest more : List (List ℕ)) → ws ≡ a ∷ rest → rest ≡ b ∷ more → more ≡ [] → is_at_least (kind_of a) ≡ true → IsSmall b → AreSmall ws
two_small a b ws rest more e f g h s =
    subst AreSmall (sym (e ∙ ap (λ x. a ∷ x) (f ∙ ap (λ x. b ∷ x) g)))
    (all_small a (b ∷ []) (small_other a (at_least_alone (kind_of a) h)) (all_small b [] s none_small))
  where
    at_least_alone : (k : Kind) → is_at_least k ≡ true → is_integer k ≡ false
    at_least_alone (Symbol s) h = refl
    at_least_alone Stray h = cc
    at_least_alone Integer h = cc
    at_least_alone Literal h = cc
    at_least_alone Misspelt h = cc
    at_least_alone Other h = cc

-- a fault of an integer, which says of no form that it is missing
pub denied_number : (f : ProofFault) (form : Bool) (a : List ℕ) (ws rest : List (List ℕ)) → ws ≡ a ∷ rest → Denies f true rest → Denies f form ws
denied_number f form a ws rest at d = denied_more f true form rest ws (λ e. absurd (cc e)) (λ s. rest_small a rest (subst AreSmall at s)) d

-- a fault of a part of a constraint is one of the whole
pub denied_front : (f : ProofFault) (b c : Bool) (ws : List (List ℕ)) → Denies f c ws → Denies f (b && c) ws
denied_front f b c ws d = denied_more f c (b && c) ws ws (λ e. by b c e) (λ s. s) d
  where
    by : (b c : Bool) → c ≡ false → (b && c) ≡ false
    by true c e = e
    by false c e = refl

-- what is left of the terms is what closes them
pub denied_rest : (f : ProofFault) (old k : NamesMet) (whole left : List (List ℕ)) (done : List Term) → SoFar behind_terms terms_of old whole done k left → begins_integer left ≡ false
    → Denies f (is_some (closing_of left)) left → Denies f (is_some (closing_of (behind_terms whole))) whole
denied_rest f old k whole left done s n d =
    let at : behind_terms whole ≡ left = sym s.same ∙ (ends_terms [] left n).1 in
    denied_more f (is_some (closing_of left)) _ left whole (λ e. ap (λ ws. is_some (closing_of ws)) at ∙ e) s.later d

-- a term's fault is one of the whole
pub denied_terms : (f : ProofFault) (old k : NamesMet) (whole left : List (List ℕ)) (done : List Term) → SoFar behind_terms terms_of old whole done k left
    → Denies f (is_some (closing_of (behind_terms left))) left → Denies f (is_some (closing_of (behind_terms whole))) whole
denied_terms f old k whole left done s d =
    denied_more f (is_some (closing_of (behind_terms left))) _ left whole (λ e. ap (λ ws. is_some (closing_of ws)) (sym s.same) ∙ e) s.later d

-- the constraint that was read
pub constraint_read : (old k : NamesMet) (whole left : List (List ℕ)) (done : List Term) (n : ℤ) → SoFar behind_terms terms_of old whole done k left → begins_integer left ≡ false
    → closing_of left ≡ Some n → AreSmall left → met_in k left ≡ k → IsConstraintRead old whole (record { terms = done; relation = relations.AtLeast; right = n }) k
constraint_read old k whole left done n s none close small same =
    let at : behind_terms whole ≡ left = sym s.same ∙ (ends_terms [] left none).1 in
    let known : k ≡ met_in old whole = sym same ∙ s.known in
    record {
      says = λ more.
          let names = (met_in k more).names in
          let parts : done ++ terms_of names left ≡ terms_of names whole = subst (λ (m : NamesMet). done ++ terms_of (met_in m more).names left ≡ terms_of (met_in m more).names whole) (sym known) (s.parts more) in
          let terms : terms_of names whole ≡ done = sym parts ∙ ap (λ x. done ++ x) (ends_terms names left none).0 ∙ append-nil done in
          let closing : closing_of (behind_terms whole) ≡ Some n = ap closing_of at ∙ close in
          ap (λ o. option_map (λ right. let c : Signed = record { terms = terms_of names whole; relation = relations.AtLeast; right = right } in c) o) closing
          ∙ ap (λ ts. let c : Option Signed = Some (record { terms = ts; relation = relations.AtLeast; right = n }) in c) terms;
      known = known;
      small = s.small small;
    }

-- what closes a constraint brings no name
pub closing_meets_none : (k : NamesMet) (ws : List (List ℕ)) (n : ℤ) → closing_of ws ≡ Some n → met_in k ws ≡ k
closing_meets_none k [] n h = cc
closing_meets_none k (a ∷ []) n h = cc
closing_meets_none k (a ∷ b ∷ []) n h = by (is_at_least (kind_of a)) (is_integer (kind_of b)) refl refl h
  where
    at_least_other : (k : Kind) → is_at_least k ≡ true → is_literal k ≡ false
    at_least_other (Symbol s) h = refl
    at_least_other Stray h = cc
    at_least_other Integer h = cc
    at_least_other Literal h = cc
    at_least_other Misspelt h = cc
    at_least_other Other h = cc

    by : (t u : Bool) → is_at_least (kind_of a) ≡ t → is_integer (kind_of b) ≡ u → (if t && u then Some (integer_value b) else None) ≡ Some n → met_in k (a ∷ b ∷ []) ≡ k
    by true true e f h = met_other k a (b ∷ []) (at_least_other (kind_of a) e) ∙ met_other k b [] (integer_alone (kind_of b) f).0
    by true false e f h = cc
    by false u e f h = cc
closing_meets_none k (a ∷ b ∷ c ∷ rest) n h = cc
