-- A text has at most one line where a fault stands, whatever its code: of two, the one that comes first would let nothing
-- go on as far as the other.
use Rattle.std.proofs.Common.{◌≡◌, ◌⊎◌, inl, inr, ℕ, Bool, true, false, ◌&&◌, if◌then◌else◌, Option, Some, None, List, [], ◌∷◌, ◌++◌, drop, refl, sym, ap, subst, ◌∙◌, append_assoc, codes}
use Rattle.std.specs.Prelude.{All, bytes_eq}
use Rattle.std.proofs.lemmas.List.Elements.{All-head, All-tail}
use Rattle.std.proofs.lemmas.Slice.Eq.{bytes_eq-Decides}
use Rattle.pb_text.specs.Lexeme.{Lexeme, lexemes, kind_of, kind_of_word}
use Rattle.pb_text.specs.Name.{is_name}
use Rattle.pb_text.specs.Span.{StandsIn}
use Rattle.pb_text.specs.Word.{is_integer as integer_word, is_literal as literal_word, is_misspelt}
use Rattle.pb_text.specs.declared.kind.Kind.{Kind}
use Rattle.pb_text.specs.declared.kind.Kind.TheVariants as kinds
use Rattle.pb_text.proofs.Spans.{lexemes_stand}
use Rattle.linear.specs.Opb.{Opb}
use Rattle.opb_read.specs.Kinds.{is_integer, is_colon, begins_objective, statements_of, IsLargeInteger}
use Rattle.opb_read.specs.Spells.{problem_of}
use Rattle.opb_read.specs.Codes.{Tells}
use Rattle.opb_read.specs.FaultLine.{CanGoOn, AreCountsWithin, IsWithinSoFar, next_token, IsNoForm, IsTooLarge, IsTooMany, line_of_next, IsFaultAt}
use Rattle.opb_read.specs.declared.fault.OpbCode.{OpbCode}
use Rattle.opb_read.specs.declared.fault.OpbCode.TheVariants.{BadToken, NoRelation, NoSemicolon, BadName, ObjectiveLate, UnsupportedForm, IntegerTooLarge, TooMany, OutOfMemory}
use Rattle.opb_read.proofs.CountsOfBeginnings.{beginning_counts}
use Rattle.opb_read.proofs.Within.{IsSmall}

-- what can go on further has no fault of form before
no_later : (before : List Lexeme) (t : Lexeme) (middle rest : List Lexeme) → CanGoOn (begins_objective ((before ++ t ∷ middle) ++ rest)) (before ++ t ∷ middle)
    → IsNoForm before (t ∷ (middle ++ rest)) → ⊥
no_later before t middle rest k h =
    let more = lexemes k.more in
    let at : (before ++ t ∷ middle) ++ more ≡ before ++ t ∷ (middle ++ more) = append_assoc before (t ∷ middle) more in
    let whole : (before ++ t ∷ middle) ++ rest ≡ before ++ t ∷ (middle ++ rest) = append_assoc before (t ∷ middle) rest in
    let front : begins_objective (before ++ t ∷ (middle ++ more)) ≡ begins_objective (before ++ t ∷ (middle ++ rest)) =
    ap begins_objective (sym at) ∙ k.front ∙ ap begins_objective whole in
    let none : problem_of (before ++ t ∷ (middle ++ more)) ≡ None = h (t ∷ (middle ++ more)) (record { token = refl; front = front }) in
    let some : ◌≡◌ {A = Option Opb} None (Some k.problem) = sym none ∙ ap problem_of (sym at) ∙ k.says in
    cc

-- one beginning of a list is longer than another
record Extends (short rest long left : List Lexeme) : Type 0 where
  next : Lexeme
  middle : List Lexeme
  longer : long ≡ short ++ next ∷ middle
  shorter : rest ≡ next ∷ (middle ++ left)

Compared : List Lexeme → List Lexeme → List Lexeme → List Lexeme → Type 0
Compared a r b q = (r ≡ q) ⊎ (Extends a r b q ⊎ Extends b q a r)

compared : (a r b q : List Lexeme) → a ++ r ≡ b ++ q → Compared a r b q
unfolding Compared
compared [] r [] q e = inl e
compared [] r (b ∷ bs) q e = inr (inl (record { next = b; middle = bs; longer = refl; shorter = e }))
compared (a ∷ as_) r [] q e = inr (inr (record { next = a; middle = as_; longer = refl; shorter = sym e }))
compared (a ∷ as_) r (b ∷ bs) q e =
    let head : a ≡ b = cc in
    let tail : as_ ++ r ≡ bs ++ q = cc in
    by head (compared as_ r bs q tail)
  where
    by : a ≡ b → Compared as_ r bs q → Compared (a ∷ as_) r (b ∷ bs) q
    by head (inl h) = inl h
    by head (inr (inl h)) = inr (inl (record { next = h.next; middle = h.middle; longer = ap (λ l. b ∷ l) h.longer ∙ ap (λ x. x ∷ (as_ ++ h.next ∷ h.middle)) (sym head); shorter = h.shorter }))
    by head (inr (inr h)) = inr (inr (record { next = h.next; middle = h.middle; longer = ap (λ l. a ∷ l) h.longer ∙ ap (λ x. x ∷ (bs ++ h.next ∷ h.middle)) head; shorter = h.shorter }))

clash_form : (a r b q : List Lexeme) → Extends a r b q → CanGoOn (begins_objective (b ++ q)) b → IsNoForm a r → ⊥
clash_form a r b q x k h =
    no_later a x.next x.middle q (subst (λ l. CanGoOn (begins_objective (l ++ q)) l) x.longer k) (subst (IsNoForm a) x.shorter h)

-- what stands within the limits further on has no count that is too large before
clash_many : (a r b q : List Lexeme) → Extends a r b q → IsWithinSoFar b → IsTooMany a r → ⊥
clash_many a r b q x w m =
    let same : ◌≡◌ {A = Option Lexeme} (Some m.token) (Some x.next) = sym m.next ∙ ap next_token x.shorter in
    let token : x.next ≡ m.token = cc in
    m.counts (subst (λ (t : Lexeme). AreCountsWithin (a ++ t ∷ [])) token (by a (subst AreCountsWithin x.longer w.counts)))
  where
    by : (before : List Lexeme) → AreCountsWithin (before ++ x.next ∷ x.middle) → AreCountsWithin (before ++ x.next ∷ [])
    by [] h = beginning_counts x.next [] x.middle h
    by (u ∷ before) h =
        beginning_counts u (before ++ x.next ∷ []) x.middle (subst (λ (l : List Lexeme). AreCountsWithin (u ∷ l)) (sym (append_assoc before (x.next ∷ []) x.middle)) h)

min_is_literal : is_integer (kind_of (codes "min")) ≡ false
unfolding kind_of kind_of_word integer_word literal_word is_misspelt is_name
min_is_literal = refl

-- an integer is not the mark of an objective
integer_no_mark : (t : Lexeme) (middle : List Lexeme) → t.kind ≡ kind_of t.text → is_integer t.kind ≡ true → begins_objective (t ∷ middle) ≡ false
integer_no_mark t [] k i = refl
integer_no_mark t (u ∷ middle) k i = by (bytes_eq t.text (codes "min")) refl
  where
    by : (b : Bool) → bytes_eq t.text (codes "min") ≡ b → (b && is_colon u.kind) ≡ false
    by false e = refl
    by true e =
        let text : t.text ≡ codes "min" = (bytes_eq-Decides t.text (codes "min")).0 e in
        let none : is_integer t.kind ≡ false = ap is_integer (k ∙ ap kind_of text) ∙ min_is_literal in
        let both : ◌≡◌ {A = Bool} true false = sym i ∙ none in
        cc

integer_no_colon : (k : Kind) → is_integer k ≡ true → is_colon k ≡ false
integer_no_colon kinds.Integer h = refl
integer_no_colon kinds.Literal h = refl
integer_no_colon kinds.Stray h = refl
integer_no_colon kinds.Misspelt h = refl
integer_no_colon kinds.Other h = refl
integer_no_colon (kinds.Symbol s) h = absurd (cc h)

never_marked : (b c : Bool) → c ≡ false → (b && c) ≡ false
never_marked true c h = h
never_marked false c h = refl

-- an integer that stands behind others stands in the statements
small_inside : (a : List Lexeme) (t : Lexeme) (middle : List Lexeme) → (a ≡ [] → t.kind ≡ kind_of t.text) → is_integer t.kind ≡ true → All IsSmall (statements_of (a ++ t ∷ middle)) → IsSmall t
small_inside [] t middle k i h =
    All-head IsSmall t middle (subst (λ (b : Bool). All IsSmall (if b then drop 2 (t ∷ middle) else t ∷ middle)) (integer_no_mark t middle (k refl) i) h)
small_inside (u ∷ []) t middle k i h =
    let none : begins_objective (u ∷ t ∷ middle) ≡ false = never_marked (bytes_eq u.text (codes "min")) (is_colon t.kind) (integer_no_colon t.kind i) in
    All-head IsSmall t middle (All-tail IsSmall u (t ∷ middle) (subst (λ (b : Bool). All IsSmall (if b then middle else u ∷ t ∷ middle)) none h))
small_inside (u ∷ v ∷ a) t middle k i h = by (begins_objective (u ∷ v ∷ [])) h
  where
    last : (xs : List Lexeme) → All IsSmall (xs ++ t ∷ middle) → IsSmall t
    last [] g = All-head IsSmall t middle g
    last (x ∷ xs) g = last xs (All-tail IsSmall x (xs ++ t ∷ middle) g)

    by : (b : Bool) → All IsSmall (if b then a ++ t ∷ middle else u ∷ v ∷ (a ++ t ∷ middle)) → IsSmall t
    by true g = last a g
    by false g = last (u ∷ v ∷ a) g

-- what stands within the limits further on has no integer that is too large before
clash_large : (text : List ℕ) (a r b q : List Lexeme) → lexemes text ≡ a ++ r → Extends a r b q → IsWithinSoFar b → IsTooLarge a r → ⊥
clash_large text a r b q split x w l =
    let same : ◌≡◌ {A = Option Lexeme} (Some l.token) (Some x.next) = sym l.next ∙ ap next_token x.shorter in
    let token : l.token ≡ x.next = cc in
    let large : IsLargeInteger x.next = subst IsLargeInteger token l.integer in
    small_inside a x.next x.middle first large.0 (subst (λ (ts : List Lexeme). All IsSmall (statements_of ts)) x.longer w.integers) large
  where
    first : a ≡ [] → x.next.kind ≡ kind_of x.next.text
    first e =
        let whole : lexemes text ≡ x.next ∷ (x.middle ++ q) = split ∙ ap (λ (l : List Lexeme). l ++ r) e ∙ x.shorter in
        (All-head (StandsIn text) x.next (x.middle ++ q) (subst (All (StandsIn text)) whole (lexemes_stand text))).kind

-- of two faults, the first would end what the other stands behind
clash : (text : List ℕ) (c : OpbCode) (a r b q : List Lexeme) → (c ≡ OutOfMemory → ⊥) → lexemes text ≡ a ++ r → Extends a r b q → CanGoOn (begins_objective (b ++ q)) b → IsWithinSoFar b
    → Tells c (IsNoForm a r) (IsTooLarge a r) (IsTooMany a r) → ⊥
clash text BadToken a r b q known split x k w h = clash_form a r b q x k h
clash text NoRelation a r b q known split x k w h = clash_form a r b q x k h
clash text NoSemicolon a r b q known split x k w h = clash_form a r b q x k h
clash text BadName a r b q known split x k w h = clash_form a r b q x k h
clash text ObjectiveLate a r b q known split x k w h = clash_form a r b q x k h
clash text UnsupportedForm a r b q known split x k w h = clash_form a r b q x k h
clash text IntegerTooLarge a r b q known split x k w h = clash_large text a r b q split x w h
clash text TooMany a r b q known split x k w h = clash_many a r b q x w h
clash text OutOfMemory a r b q known split x k w h = known refl

-- two faults of one text stand on one line
pub one_fault_line : (text : List ℕ) (c d : OpbCode) (k l : ℕ) → (c ≡ OutOfMemory → ⊥) → (d ≡ OutOfMemory → ⊥) → IsFaultAt text c k → IsFaultAt text d l → k ≡ l
unfolding Compared
one_fault_line text c d k l fc fd f g = by (compared f.before f.rest g.before g.rest (sym f.split ∙ g.split))
  where
    by : Compared f.before f.rest g.before g.rest → k ≡ l
    by (inl e) = f.stands ∙ ap (line_of_next text) e ∙ sym g.stands
    by (inr (inl x)) = absurd (clash text c f.before f.rest g.before g.rest fc f.split x g.begins g.within f.stops)
    by (inr (inr x)) = absurd (clash text d g.before g.rest f.before f.rest fd g.split x f.begins f.within g.stops)
