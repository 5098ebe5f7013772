-- Reading part after part.
use Rattle.std.proofs.Common.{◌≡◌, ℕ, ℤ, Bool, true, ◌&&◌, List, [], ◌∷◌, ◌++◌, refl, sym, ap, subst, ◌∙◌, arith, append_assoc}
use Rattle.std.proofs.lemmas.List.{append-nil}
use Rattle.pb_text.specs.Lexeme.{kind_of}
use Rattle.pb_text.specs.Word.{name_of, is_negated}
use Rattle.pb_text.specs.Number.{integer_value}
use Rattle.linear.specs.declared.term.Lit.{Lit}
use Rattle.proof_text.specs.Kinds.{is_integer, is_literal}
use Rattle.proof_text.specs.Words.{IsSmall, AreSmall}
use Rattle.proof_text.specs.NamesMet.{NamesMet, met, met_in}
use Rattle.proof_text.specs.Numbering.{lit_of}
use Rattle.proof_text.specs.Forms.{are_literals, literals_of, are_integers, integers_of}
use Rattle.proof_text.specs.PartsRead.{Takes, SoFar, IsRead}
use Rattle.proof_text.specs.PartsDenied.{Denies}
use Rattle.proof_text.specs.declared.fault.ProofFault.{ProofFault}
use Rattle.proof_text.proofs.WordsByKind.{all_small, none_small, rest_small, small_other, literal_alone, integer_alone, denied_more}
use Rattle.proof_text.proofs.NamesNumbered.{number_later, met_literal, met_other, before_stays}

pub begun : {F X : Type 0} (form : List (List ℕ) → F) (values : List (List ℕ) → List (List ℕ) → List X) (old : NamesMet) (whole : List (List ℕ)) → SoFar form values old whole [] old whole
begun form values old whole = record { same = refl; parts = λ more. refl; known = refl; small = λ h. h; later = λ h. h; before = refl }

more_parts : {X : Type 0} (n : List (List ℕ)) (values : List (List ℕ) → List (List ℕ) → List X) (whole left rest : List (List ℕ)) (done more : List X) (x : X)
    → values n left ≡ x ∷ values n rest → done ++ values n left ≡ values n whole → more ≡ done ++ x ∷ [] → more ++ values n rest ≡ values n whole
more_parts n values whole left rest done more x f h e =
    ap (λ xs. xs ++ values n rest) e ∙ append_assoc done (x ∷ []) (values n rest) ∙ ap (λ xs. done ++ xs) (sym f) ∙ h

pub one_more : {F X : Type 0} (form : List (List ℕ) → F) (values : List (List ℕ) → List (List ℕ) → List X) (old : NamesMet) (whole : List (List ℕ)) (done more : List X) (x : X) (k new : NamesMet) (left rest : List (List ℕ))
    → SoFar form values old whole done k left → Takes form values k left x new rest → more ≡ done ++ x ∷ [] → SoFar form values old whole more new rest
one_more form values old whole done more x k new left rest s t e = record {
  same = sym t.same ∙ s.same;
  parts = λ later.
      more_parts (met_in (met_in old whole) later).names values whole left rest done more x
      (subst (λ (m : NamesMet). values (met_in m later).names left ≡ x ∷ values (met_in m later).names rest) s.known (t.first later))
      (s.parts later)
      e;
  known = sym t.known ∙ s.known;
  small = λ h. s.small (t.small h);
  later = λ h. t.later (s.later h);
  before = sym (before_stays new rest) ∙ ap (λ (m : NamesMet). m.before) (sym t.known) ∙ before_stays k left ∙ s.before;
}

-- at the end, all are read
read_parts : {X : Type 0} (n : List (List ℕ)) (values : List (List ℕ) → List (List ℕ) → List X) (whole left : List (List ℕ)) (done : List X)
    → left ≡ [] → values n [] ≡ [] → done ++ values n left ≡ values n whole → done ≡ values n whole
read_parts n values whole left done e g h = sym (append-nil done) ∙ ap (λ xs. done ++ xs) (sym (ap (values n) e ∙ g)) ∙ h

pub all_read : {F X : Type 0} (form : List (List ℕ) → F) (values : List (List ℕ) → List (List ℕ) → List X) (old : NamesMet) (whole : List (List ℕ)) (done : List X) (k : NamesMet) (left : List (List ℕ))
    → SoFar form values old whole done k left → left ≡ [] → ((n : List (List ℕ)) → values n [] ≡ []) → IsRead form values old whole done k
all_read form values old whole done k left s e g =
    let known : k ≡ met_in old whole = ap (met_in k) (sym e) ∙ s.known in
    record {
      same = sym s.same ∙ ap form e;
      parts = λ more.
          subst (λ (m : NamesMet). done ≡ values (met_in m more).names whole) (sym known)
          (read_parts (met_in (met_in old whole) more).names values whole left done e (g (met_in (met_in old whole) more).names) (s.parts more));
      known = known;
      small = s.small (subst AreSmall (sym e) none_small);
    }

-- a fault of what is left is one of the whole
pub denied_left : {X : Type 0} (form : List (List ℕ) → Bool) (values : List (List ℕ) → List (List ℕ) → List X) (old : NamesMet) (whole : List (List ℕ)) (done : List X) (k : NamesMet) (left : List (List ℕ)) (f : ProofFault)
    → SoFar form values old whole done k left → Denies f (form left) left → Denies f (form whole) whole
denied_left form values old whole done k left f s h = denied_more f (form left) (form whole) left whole (λ e. sym s.same ∙ e) s.later h

-- the literal of a word is numbered by any table that has met it
pub lit_met : (k new : NamesMet) (w : List ℕ) (rest more : List (List ℕ)) (l : Lit) → is_literal (kind_of w) ≡ true → new ≡ met k (name_of w) → l ≡ lit_of new.names w
    → lit_of (met_in (met_in k (w ∷ rest)) more).names w ≡ l
lit_met k new w rest more l h e f =
    ap (λ (m : NamesMet). lit_of (met_in m more).names w) (met_literal k w rest h)
    ∙ ap (λ n. let y : Lit = record { var = record { 0 = n }; negated = is_negated w } in y) (number_later k (name_of w) rest more)
    ∙ ap (λ (m : NamesMet). lit_of m.names w) (sym e)
    ∙ sym f

-- the literal that stands next
pub next_lit : (k new : NamesMet) (w : List ℕ) (left rest : List (List ℕ)) (l : Lit) → left ≡ w ∷ rest → is_literal (kind_of w) ≡ true → new ≡ met k (name_of w) → l ≡ lit_of new.names w
    → Takes are_literals literals_of k left l new rest
next_lit k new w left rest l at h e f =
    let name = name_of w in
    let whole : met_in k (w ∷ rest) ≡ met_in (met k name) rest = met_literal k w rest h in
    let t : Takes are_literals literals_of k (w ∷ rest) l new rest = record {
      same = ap (λ b. b && are_literals rest) h;
      first = λ more. ap (λ x. x ∷ literals_of (met_in (met_in k (w ∷ rest)) more).names rest) (lit_met k new w rest more l h e f);
      known = whole ∙ ap (λ m. met_in m rest) (sym e);
      small = all_small w rest (small_other w (literal_alone (kind_of w) h).0);
      later = rest_small w rest;
      shorter = omega arith;
    } in
    subst (λ ws. Takes are_literals literals_of k ws l new rest) (sym at) t

-- the integer that stands next; it meets no name
pub next_number : (k : NamesMet) (w : List ℕ) (left rest : List (List ℕ)) (n : ℤ) → left ≡ w ∷ rest → is_integer (kind_of w) ≡ true → n ≡ integer_value w → IsSmall w
    → Takes are_integers (λ names. integers_of) k left n k rest
next_number k w left rest n at h e small =
    let t : Takes are_integers (λ names. integers_of) k (w ∷ rest) n k rest = record {
      same = ap (λ b. b && are_integers rest) h;
      first = λ more. ap (λ x. x ∷ integers_of rest) (sym e);
      known = met_other k w rest (integer_alone (kind_of w) h).0;
      small = all_small w rest small;
      later = rest_small w rest;
      shorter = omega arith;
    } in
    subst (λ ws. Takes are_integers (λ names. integers_of) k ws n k rest) (sym at) t
