-- What stands behind `conclusion`.
use Rattle.std.proofs.Common.{◌≡◌, ℕ, Bool, true, false, not, ◌&&◌, ◌||◌, if◌then◌else◌, Option, Some, None, List, [], ◌∷◌, drop, is_some, refl, sym, ap, subst, ◌∙◌, codes}
use Rattle.std.specs.Str.{bytes_eq}
use Rattle.pb_text.specs.Lexeme.{kind_of, kind_of_word}
use Rattle.pb_text.specs.Name.{is_name}
use Rattle.pb_text.specs.Word.{is_integer as integer_word, is_literal as literal_word, is_misspelt}
use Rattle.pb_text.specs.Number.{integer_value}
use Rattle.pb_text.specs.declared.kind.Kind.{Kind}
use Rattle.pb_text.specs.declared.kind.Kind.TheVariants.{Symbol, Stray, Integer, Literal, Misspelt, Other}
use Rattle.linear.specs.declared.term.Lit.{Lit}
use Rattle.proof_steps.specs.declared.conclusion.Lower.{Lower}
use Rattle.proof_steps.specs.declared.conclusion.Lower.TheVariants as lowers
use Rattle.proof_steps.specs.declared.conclusion.Upper.TheVariants as uppers
use Rattle.proof_steps.specs.declared.conclusion.Conclusion.{Conclusion}
use Rattle.proof_steps.specs.declared.conclusion.Conclusion.TheVariants as conclusions
use Rattle.proof_text.specs.declared.keyword.ConclusionKind.{ConclusionKind}
use Rattle.proof_text.specs.declared.keyword.ConclusionKind.TheVariants as kinds
use Rattle.proof_text.specs.Kinds.{is_integer, is_colon}
use Rattle.proof_text.specs.Words.{is_first, unclosed, AreSmall}
use Rattle.proof_text.specs.NamesMet.{NamesMet, met_in}
use Rattle.proof_text.specs.Forms.{are_literals, literals_of}
use Rattle.proof_text.specs.PartsRead.{IsRead}
use Rattle.proof_text.specs.Conclusions.{conclusion_kind_of, is_hint, hint_of, past_id, is_lower, lower_of, is_upper, upper_of, bounds_by, bounds_of, conclusion_by, literals_by, is_conclusion, conclusion_said, literals_said, conclusion_of, conclusion_literals}
use Rattle.proof_text.specs.ConclusionsRead.{begins_right, IsHintRead, IsConclusionRead, IsConclusionLineRead}
use Rattle.proof_text.specs.PartsDenied.{Denies}
use Rattle.proof_text.specs.declared.fault.ProofFault.{ProofFault}
use Rattle.proof_text.proofs.ByFirstWord.{judged_with, literals_with}
use Rattle.proof_text.proofs.PolItems.{same_word, and_false_left}
use Rattle.proof_text.proofs.WordsByKind.{all_small, none_small, rest_small, only_small, small_other, denied_more}

inf_kind : is_integer (kind_of (codes "INF")) ≡ false
unfolding kind_of kind_of_word integer_word literal_word is_misspelt is_name
inf_kind = refl

minus_kind : is_integer (kind_of (codes "-INF")) ≡ false
unfolding kind_of kind_of_word integer_word literal_word is_misspelt is_name
minus_kind = refl

pub inf_lower : (w : List ℕ) → bytes_eq w (codes "INF") ≡ true → (lowers.Inf ≡ lower_of w) × AreSmall (w ∷ [])
inf_lower w h =
    subst (λ v. (lowers.Inf ≡ lower_of v) × AreSmall (v ∷ [])) (sym (same_word w (codes "INF") h))
    (sym (ap (λ t. if t then lowers.At (integer_value (codes "INF")) else lowers.Inf) inf_kind), all_small (codes "INF") [] (small_other (codes "INF") inf_kind) none_small)

pub minus_lower : (w : List ℕ) → bytes_eq w (codes "-INF") ≡ true → (lowers.MinusInf ≡ lower_of w) × AreSmall (w ∷ [])
minus_lower w h =
    subst (λ v. (lowers.MinusInf ≡ lower_of v) × AreSmall (v ∷ [])) (sym (same_word w (codes "-INF") h))
    (sym (ap (λ t. if t then lowers.At (integer_value (codes "-INF")) else lowers.MinusInf) minus_kind), all_small (codes "-INF") [] (small_other (codes "-INF") minus_kind) none_small)

pub inf_upper : (w : List ℕ) → bytes_eq w (codes "INF") ≡ true → (uppers.Inf ≡ upper_of w) × AreSmall (w ∷ [])
inf_upper w h =
    subst (λ v. (uppers.Inf ≡ upper_of v) × AreSmall (v ∷ [])) (sym (same_word w (codes "INF") h))
    (sym (ap (λ t. if t then uppers.At (integer_value (codes "INF")) else uppers.Inf) inf_kind), all_small (codes "INF") [] (small_other (codes "INF") inf_kind) none_small)

-- a word that is no `:` begins no hint
colon_alone : (k : Kind) → is_colon k ≡ true → is_integer k ≡ false
colon_alone (Symbol s) h = refl
colon_alone Stray h = cc
colon_alone Integer h = cc
colon_alone Literal h = cc
colon_alone Misspelt h = cc
colon_alone Other h = cc

pub wrong_id : (a b : List ℕ) (ws rest more : List (List ℕ)) (f : ProofFault) → ws ≡ a ∷ rest → rest ≡ b ∷ more → is_colon (kind_of a) ≡ true → Denies f (is_integer (kind_of b)) (b ∷ []) → Denies f (begins_right ws) ws
wrong_id a b ws rest more f e g h d =
    subst (λ x. Denies f (begins_right x) x) (sym (e ∙ ap (λ x. a ∷ x) g))
    (denied_more f (is_integer (kind_of b)) _ (b ∷ []) (a ∷ b ∷ more) (λ n. ap (λ t. not t || is_integer (kind_of b)) h ∙ n) (λ s. only_small b more (rest_small a (b ∷ more) s)) d)

pub two_passed : (a b : List ℕ) (ws rest more : List (List ℕ)) → ws ≡ a ∷ rest → rest ≡ b ∷ more → AreSmall ws → AreSmall more
two_passed a b ws rest more e g s = rest_small b more (rest_small a (b ∷ more) (subst AreSmall (e ∙ ap (λ x. a ∷ x) g) s))

-- a hint of literals
pub hint_read : (k new : NamesMet) (w : List ℕ) (ws rest : List (List ℕ)) (lits : List Lit) → ws ≡ w ∷ rest → is_colon (kind_of w) ≡ true → IsRead are_literals literals_of k rest lits new
    → IsHintRead k ws (Some lits) new
hint_read k new w ws rest lits at h r =
    subst (λ x. IsHintRead k x (Some lits) new) (sym at) (record {
      form = ap (λ t. t && are_literals rest) h ∙ r.same;
      value = ap (λ x. Some x) (r.parts []);
      known = r.known;
      small = all_small w rest (small_other w (colon_alone (kind_of w) h)) r.small;
    })

pub denied_hint : (f : ProofFault) (w : List ℕ) (ws rest : List (List ℕ)) → ws ≡ w ∷ rest → Denies f (are_literals rest) rest → Denies f (is_hint ws) ws
denied_hint f w ws rest at d =
    subst (λ x. Denies f (is_hint x) x) (sym at) (denied_more f (are_literals rest) _ rest (w ∷ rest) (λ e. by (is_colon (kind_of w)) e) (λ s. rest_small w rest s) d)
  where
    by : (t : Bool) → are_literals rest ≡ false → (t && are_literals rest) ≡ false
    by true e = e
    by false e = refl

choice : {A : Type 0} (t : Bool) (x : A) → is_some (if t then Some x else None) ≡ t
choice true x = refl
choice false x = refl

either : (t : Bool) (o : Option Conclusion) → is_some o ≡ false → is_some (if t then o else None) ≡ false
either true o h = h
either false o h = refl

-- no bounds where the second part is none
no_bounds : (l : List ℕ) (rest : List (List ℕ)) → is_some (bounds_by [] (lower_of l) (past_id rest)) ≡ false → is_some (bounds_of [] (l ∷ rest)) ≡ false
no_bounds l rest h = either (is_lower l) (bounds_by [] (lower_of l) (past_id rest)) h

inf_no_colon : is_colon (kind_of (codes "INF")) ≡ false
unfolding kind_of kind_of_word integer_word literal_word is_misspelt is_name
inf_no_colon = refl

colon_no_upper : (w : List ℕ) → is_colon (kind_of w) ≡ true → is_upper w ≡ false
colon_no_upper w h =
    ap (λ t. t || bytes_eq w (codes "INF")) (colon_alone (kind_of w) h)
    ∙ (elim (bytes_eq w (codes "INF")) as (λ t. bytes_eq w (codes "INF") ≡ t → t ≡ false) [
      | true ↦ λ f. absurd (cc (sym h ∙ ap (λ v. is_colon (kind_of v)) (same_word w (codes "INF") f) ∙ inf_no_colon))
      | false ↦ λ f. refl
    ] refl)

-- a `:` without an integer behind it is no bound
colon_stays : (rest : List (List ℕ)) (lower : Lower) → begins_right rest ≡ false → is_some (bounds_by [] lower (past_id rest)) ≡ false
colon_stays [] lower h = cc
colon_stays (a ∷ []) lower h = by (is_colon (kind_of a)) refl h
  where
    by : (t : Bool) → is_colon (kind_of a) ≡ t → (not t || false) ≡ false → is_some (if is_upper a && true then Some (conclusions.Bounds lower (upper_of a) None) else None) ≡ false
    by true e h = choice (is_upper a && true) (conclusions.Bounds lower (upper_of a) None) ∙ ap (λ t. t && true) (colon_no_upper a e)
    by false e h = cc
colon_stays (a ∷ b ∷ more) lower h = by (is_colon (kind_of a)) (is_integer (kind_of b)) refl h
  where
    by : (t u : Bool) → is_colon (kind_of a) ≡ t → (not t || u) ≡ false → is_some (bounds_by [] lower (if t && u then more else a ∷ b ∷ more)) ≡ false
    by true true e h = cc
    by true false e h =
        choice (is_upper a && is_hint (b ∷ more)) (conclusions.Bounds lower (upper_of a) (hint_of [] (b ∷ more))) ∙ ap (λ t. t && is_hint (b ∷ more)) (colon_no_upper a e)
    by false u e h = cc

pub denied_id : (f : ProofFault) (l : List ℕ) (ws rest : List (List ℕ)) → ws ≡ l ∷ rest → Denies f (begins_right rest) rest → Denies f (is_conclusion kinds.Bounds ws) ws
denied_id f l ws rest at d =
    subst (λ x. Denies f (is_some (bounds_of [] x)) x) (sym at)
    (denied_more f (begins_right rest) _ rest (l ∷ rest) (λ e. no_bounds l rest (colon_stays rest (lower_of l) e)) (λ s. rest_small l rest s) d)

and_later : (p q : Bool) → q ≡ false → (p && q) ≡ false
and_later true q h = h
and_later false q h = refl

pub denied_upper : (f : ProofFault) (l u : List ℕ) (ws rest left more : List (List ℕ)) → ws ≡ l ∷ rest → left ≡ past_id rest → left ≡ u ∷ more → (AreSmall rest → AreSmall left)
    → Denies f (is_upper u) (u ∷ []) → Denies f (is_conclusion kinds.Bounds ws) ws
denied_upper f l u ws rest left more at past e later d =
    subst (λ x. Denies f (is_some (bounds_of [] x)) x) (sym at)
    (denied_more f (is_upper u) _ (u ∷ []) (l ∷ rest)
    (λ n. no_bounds l rest (ap (λ x. is_some (bounds_by [] (lower_of l) x)) (sym past ∙ e) ∙ choice (is_upper u && is_hint more) _ ∙ and_false_left (is_upper u) (is_hint more) n))
    (λ s. only_small u more (subst AreSmall e (later (rest_small l rest s)))) d)

pub denied_upper_hint : (f : ProofFault) (l u : List ℕ) (ws rest left more : List (List ℕ)) → ws ≡ l ∷ rest → left ≡ past_id rest → left ≡ u ∷ more → (AreSmall rest → AreSmall left)
    → Denies f (is_hint more) more → Denies f (is_conclusion kinds.Bounds ws) ws
denied_upper_hint f l u ws rest left more at past e later d =
    subst (λ x. Denies f (is_some (bounds_of [] x)) x) (sym at)
    (denied_more f (is_hint more) _ more (l ∷ rest)
    (λ n. no_bounds l rest (ap (λ x. is_some (bounds_by [] (lower_of l) x)) (sym past ∙ e) ∙ choice (is_upper u && is_hint more) _ ∙ and_later (is_upper u) (is_hint more) n))
    (λ s. rest_small u more (subst AreSmall e (later (rest_small l rest s)))) d)

kind_at : (names : List (List ℕ)) (w : List ℕ) (rest : List (List ℕ)) (v : ConclusionKind) → conclusion_kind_of w ≡ Some v
    → (conclusion_said names (w ∷ rest) ≡ conclusion_by v names rest) × (literals_said (w ∷ rest) ≡ literals_by v rest)
kind_at names w rest v h = (ap (judged_with names rest) h, ap (literals_with rest) h)

pub no_conclusion_kind : (w : List ℕ) (ws rest : List (List ℕ)) → ws ≡ w ∷ rest → conclusion_kind_of w ≡ None → is_some (conclusion_said [] ws) ≡ false
no_conclusion_kind w ws rest at h = ap (λ x. is_some (conclusion_said [] x)) at ∙ ap (λ o. is_some (judged_with [] rest o)) h

-- a line that begins with `conclusion` and the word of a kind
pub conclusion_read : (k new : NamesMet) (w v : List ℕ) (ws rest more : List (List ℕ)) (kind : ConclusionKind) (c : Conclusion) → ws ≡ w ∷ rest → bytes_eq w (codes "conclusion") ≡ true → unclosed rest ≡ v ∷ more
    → conclusion_kind_of v ≡ Some kind → IsConclusionRead kind k more c new → IsConclusionLineRead k ws c new
unfolding conclusion_of conclusion_literals
conclusion_read k new w v ws rest more kind c at h behind is r =
    subst (λ x. IsConclusionLineRead k x c new) (sym at) (record {
      says =
          ap (λ t. if t then conclusion_said new.names (unclosed rest) else None) h
          ∙ ap (conclusion_said new.names) behind
          ∙ (kind_at new.names v more kind is).0
          ∙ r.says;
      known = r.known ∙ ap (met_in k) (sym (ap literals_said behind ∙ (kind_at [] v more kind is).1));
      small = subst AreSmall (sym (ap (drop 1) behind)) r.small;
    })

pub denied_conclusion : (f : ProofFault) (w v : List ℕ) (ws rest more : List (List ℕ)) (kind : ConclusionKind) → ws ≡ w ∷ rest → bytes_eq w (codes "conclusion") ≡ true → unclosed rest ≡ v ∷ more → conclusion_kind_of v ≡ Some kind
    → Denies f (is_conclusion kind more) more → Denies f (is_some (conclusion_of [] ws)) (drop 1 (unclosed (drop 1 ws)))
unfolding conclusion_of
denied_conclusion f w v ws rest more kind at h behind is d =
    subst (λ x. Denies f (is_some (conclusion_of [] x)) (drop 1 (unclosed (drop 1 x)))) (sym at)
    (denied_more f (is_conclusion kind more) _ more (drop 1 (unclosed rest))
    (λ e.
    ap (λ t. is_some (if t then conclusion_said [] (unclosed rest) else None)) h
    ∙ ap (λ x. is_some (conclusion_said [] x)) behind
    ∙ ap is_some (kind_at [] v more kind is).0
    ∙ e)
    (λ s. subst AreSmall (ap (drop 1) behind) s) d)

-- and one that says no conclusion behind the first
pub nothing_said : (w : List ℕ) (ws rest : List (List ℕ)) → ws ≡ w ∷ rest → bytes_eq w (codes "conclusion") ≡ true → is_some (conclusion_said [] (unclosed rest)) ≡ false → is_some (conclusion_of [] ws) ≡ false
unfolding conclusion_of
nothing_said w ws rest at h none =
    ap (λ x. is_some (conclusion_of [] x)) at ∙ ap (λ t. is_some (if t then conclusion_said [] (unclosed rest) else None)) h ∙ none

pub no_conclusion : (ws : List (List ℕ)) → is_first (codes "conclusion") ws ≡ false → is_some (conclusion_of [] ws) ≡ false
unfolding conclusion_of
no_conclusion ws h = ap (λ t. is_some (if t then conclusion_said [] (unclosed (drop 1 ws)) else None)) h
