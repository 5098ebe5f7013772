-- Normal constraints as keys: what is found is there, and what is put in is added.
use Rattle.std.proofs.Common.{◌≡◌, ℕ, ◌+◌, ◌<◌, ◌⊎◌, inl, inr, ◌&&◌, ◌||◌, Bool, true, false, List, [], ◌∷◌, ◌++◌, take, drop, length, get_or, Contains, Any, if◌then◌else◌, refl, sym, ap, subst, ◌∙◌, arith}
use Rattle.std.specs.Prelude.{◌↔◌}
use Rattle.std.specs.List.{list_any}
use Rattle.std.specs.Cmp.Lexicographic.{pointwise}
use Rattle.std.proofs.lemmas.Bool.{false≢true}
use Rattle.std.proofs.lemmas.List.{get_or-map, length-map, map-append, take_more}
use Rattle.std.proofs.lemmas.List.Elements.{Contains-append_right, Contains-get_or, Contains-push, Contains-push_cases, Contains-append_left}
use Rattle.std.proofs.lemmas.List.Folds.{list_any_at}
use Rattle.std.proofs.lemmas.List.Quantifiers.{Any-push}
use Rattle.indexmap.specs.IndexSet.{insert_key}
use Rattle.linear.specs.declared.constraint.Signed.{Signed}
use Rattle.linear.specs.declared.constraint.Relation.TheVariants as relations
use Rattle.normal_form.specs.declared.term.NormalTerm.{NormalTerm}
use Rattle.normal_form.specs.Normal.{NormalConstraint}
use Rattle.normal_form.specs.NormalOf.{IsBothOf, IsNormalOf, signs_changed}
use Rattle.normal_form.proofs.NormalForm.{one_form}
use Rattle.normal_form.proofs.OneList.{same_constraint}
use Rattle.presolve.specs.Forms.{Adds, AreKeysOf, constraint_of, constraints_of}
use Rattle.presolve.specs.Standing.{IsFormAs, IsFormOf}
use Rattle.presolve.specs.declared.form.Form.{Form}

-- a test tells keys apart by their constraints
abbrev pub TellsApart : (Form → Form → Bool) → Type 0
TellsApart same = (a b : Form) → (same a b ≡ true) ↔ (constraint_of a ≡ constraint_of b)

pub found : (same : Form → Form → Bool) → TellsApart same → (ks : List Form) (k : Form) → list_any (same k) ks ≡ true → Contains (constraints_of ks) (constraint_of k)
found same tells [] k h = absurd (false≢true h)
found same tells (x ∷ xs) k h = by (same k x) refl h (found same tells xs k)
  where
    by : (b : Bool) → same k x ≡ b → (b || list_any (same k) xs) ≡ true → (list_any (same k) xs ≡ true → Contains (constraints_of xs) (constraint_of k)) → Contains (constraints_of (x ∷ xs)) (constraint_of k)
    by true e h rest = subst (Contains (constraints_of (x ∷ xs))) (sym ((tells k x).0 e)) (Contains-get_or (constraints_of (x ∷ xs)) 0 (constraint_of x) (omega arith))
    by false e h rest = Contains-append_right (constraint_of x ∷ []) (constraints_of xs) (constraint_of k) (rest h)

pub looked_up : (same : Form → Form → Bool) → TellsApart same → (ks : List Form) (k : Form) → Contains (constraints_of ks) (constraint_of k) → list_any (same k) ks ≡ true
looked_up same tells ks k c =
    let inside : c.0 < length ks = omega (arith, c.1, length-map ks constraint_of) in
    list_any_at (same k) ks c.0 k inside ((tells k (get_or ks c.0 k)).1 (sym c.2 ∙ get_or-map constraint_of ks c.0 k (constraint_of k) inside))

-- a key that is put in
pub inserted : (same : Form → Form → Bool) → TellsApart same → (ks : List Form) (k : Form) → Adds (λ n. n ≡ constraint_of k) ks (insert_key same ks k)
inserted same tells ks k = by (list_any (same k) ks) refl
  where
    by : (b : Bool) → list_any (same k) ks ≡ b → Adds (λ n. n ≡ constraint_of k) ks (if b then ks else ks ++ k ∷ [])
    by true e n = (λ h. inl h, there)
      where
        there : Contains (constraints_of ks) n ⊎ (n ≡ constraint_of k) → Contains (constraints_of ks) n
        there (inl h) = h
        there (inr h) = subst (Contains (constraints_of ks)) (sym h) (found same tells ks k e)
    by false e n = (λ h. out (Contains-push_cases (constraints_of ks) (constraint_of k) n (subst (λ xs. Contains xs n) longer h)), λ h. subst (λ xs. Contains xs n) (sym longer) (into h))
      where
        longer : constraints_of (ks ++ k ∷ []) ≡ constraints_of ks ++ constraint_of k ∷ []
        longer = map-append constraint_of ks (k ∷ [])

        out : Contains (constraints_of ks) n ⊎ (constraint_of k ≡ n) → Contains (constraints_of ks) n ⊎ (n ≡ constraint_of k)
        out (inl h) = inl h
        out (inr h) = inr (sym h)

        into : Contains (constraints_of ks) n ⊎ (n ≡ constraint_of k) → Contains (constraints_of ks ++ constraint_of k ∷ []) n
        into (inl h) = Contains-append_left (constraints_of ks) (constraint_of k ∷ []) n h
        into (inr h) = subst (Contains (constraints_of ks ++ constraint_of k ∷ [])) (sym h) (Contains-push (constraints_of ks) (constraint_of k))

-- what is added one after the other
pub adds_both : (P Q : NormalConstraint → Type 0) (old between new : List Form) → Adds P old between → Adds Q between new → Adds (λ n. P n ⊎ Q n) old new
adds_both P Q old between new first second n = (λ h. out ((second n).0 h), λ h. (second n).1 (into h))
  where
    out : Contains (constraints_of between) n ⊎ Q n → Contains (constraints_of old) n ⊎ (P n ⊎ Q n)
    out (inr h) = inr (inr h)
    out (inl h) = elim ((first n).0 h) as (λ _. Contains (constraints_of old) n ⊎ (P n ⊎ Q n)) [ inl k ↦ inl k | inr k ↦ inr (inl k) ]

    into : Contains (constraints_of old) n ⊎ (P n ⊎ Q n) → Contains (constraints_of between) n ⊎ Q n
    into (inl h) = inl ((first n).1 (inl h))
    into (inr (inl h)) = inl ((first n).1 (inr h))
    into (inr (inr h)) = inr h

-- the same said in other words
pub adds_as : (P Q : NormalConstraint → Type 0) (old new : List Form) → ((n : NormalConstraint) → P n ↔ Q n) → Adds P old new → Adds Q old new
adds_as P Q old new same adds n = (λ h. out ((adds n).0 h), λ h. (adds n).1 (into h))
  where
    out : Contains (constraints_of old) n ⊎ P n → Contains (constraints_of old) n ⊎ Q n
    out (inl h) = inl h
    out (inr h) = inr ((same n).0 h)

    into : Contains (constraints_of old) n ⊎ Q n → Contains (constraints_of old) n ⊎ P n
    into (inl h) = inl h
    into (inr h) = inr ((same n).1 h)

-- the form of a `>=`
pub form_added : (c : Signed) (m : NormalConstraint) (old new : List Form) → c.relation ≡ relations.AtLeast → IsNormalOf c m → Adds (λ n. n ≡ m) old new → Adds (IsFormOf c) old new
form_added c m old new e form = adds_as (λ n. n ≡ m) (IsFormOf c) old new one
  where
    one : (n : NormalConstraint) → (n ≡ m) ↔ IsFormOf c n
    one n = subst (λ r. (n ≡ m) ↔ IsFormAs r c n) (sym e) (λ h. subst (IsNormalOf c) (sym h) form, λ h. one_form c n m h form)

-- the two forms of an equality
pub forms_added : (c : Signed) (k m : NormalConstraint) (old between new : List Form) → c.relation ≡ relations.Equal → IsBothOf c k m
    → Adds (λ n. n ≡ k) old between → Adds (λ n. n ≡ m) between new → Adds (IsFormOf c) old new
forms_added c k m old between new e forms first second =
    adds_as (λ n. (n ≡ k) ⊎ (n ≡ m)) (IsFormOf c) old new (λ n. subst (λ r. ((n ≡ k) ⊎ (n ≡ m)) ↔ IsFormAs r c n) (sym e) (out n, into n))
    (adds_both (λ n. n ≡ k) (λ n. n ≡ m) old between new first second)
  where
    out : (n : NormalConstraint) → (n ≡ k) ⊎ (n ≡ m) → IsNormalOf c n ⊎ IsNormalOf (signs_changed c) n
    out n (inl h) = inl (subst (IsNormalOf c) (sym h) forms.at_least)
    out n (inr h) = inr (subst (IsNormalOf (signs_changed c)) (sym h) forms.at_most)

    into : (n : NormalConstraint) → IsNormalOf c n ⊎ IsNormalOf (signs_changed c) n → (n ≡ k) ⊎ (n ≡ m)
    into n (inl h) = inl (one_form c n k h forms.at_least)
    into n (inr h) = inr (one_form (signs_changed c) n m h forms.at_most)

-- lists are the same where a test of their items says so at each place
pub lists_same : (same : NormalTerm → NormalTerm → Bool) → ((t u : NormalTerm) → (same t u ≡ true) ↔ (t ≡ u)) → (ts us : List NormalTerm) → (pointwise same ts us ≡ true) ↔ (ts ≡ us)
lists_same same tells [] [] = (λ h. refl, λ h. refl)
lists_same same tells [] (u ∷ us) = (λ h. absurd (false≢true h), λ h. absurd (omega (arith, ap length h)))
lists_same same tells (t ∷ ts) [] = (λ h. absurd (false≢true h), λ h. absurd (omega (arith, ap length h)))
lists_same same tells (t ∷ ts) (u ∷ us) = let rest = lists_same same tells ts us in (λ h. by (same t u) refl h rest, λ h. back (ap (λ xs. get_or xs 0 t) h) (ap (drop 1) h) rest)
  where
    by : (b : Bool) → same t u ≡ b → (b && pointwise same ts us) ≡ true → (pointwise same ts us ≡ true) ↔ (ts ≡ us) → t ∷ ts ≡ u ∷ us
    by true e h r = ap (λ x. x ∷ ts) ((tells t u).0 e) ∙ ap (λ xs. u ∷ xs) (r.0 h)
    by false e h r = absurd (false≢true h)

    back : t ≡ u → ts ≡ us → (pointwise same ts us ≡ true) ↔ (ts ≡ us) → (same t u && pointwise same ts us) ≡ true
    back e f r = ap (λ b. b && pointwise same ts us) ((tells t u).1 e) ∙ r.1 f

-- so constraints are, where their terms and degrees are
pub both_same : (a b : Form) (terms degrees : Bool) → (terms ≡ true) ↔ (a.terms.items ≡ b.terms.items) → (degrees ≡ true) ↔ (a.degree ≡ b.degree) → ((terms && degrees) ≡ true) ↔ (constraint_of a ≡ constraint_of b)
both_same a b true true t d = (λ h. same_constraint (constraint_of a) (constraint_of b) (t.0 refl) (d.0 refl), λ h. refl)
both_same a b true false t d = (λ h. absurd (false≢true h), λ h. d.1 (ap (λ (n : NormalConstraint). n.degree) h))
both_same a b false degrees t d = (λ h. absurd (false≢true h), λ h. absurd (false≢true (t.1 (ap (λ (n : NormalConstraint). n.terms) h))))

-- something holds of one of more items where it holds of one of the first, or of the next
any_out : (P : Signed → Type 0) (cs : List Signed) (i : ℕ) (d : Signed) → i < length cs → Any P (take (i + 1) cs) → Any P (take i cs) ⊎ P (get_or cs i d)
any_out P cs i d h a = by (Contains-push_cases (take i cs) (get_or cs i d) a.1 (subst (λ l. Contains l a.1) (take_more cs i d h) (a.0, a.2, a.3)))
  where
    by : Contains (take i cs) a.1 ⊎ (get_or cs i d ≡ a.1) → Any P (take i cs) ⊎ P (get_or cs i d)
    by (inl c) = inl (c.0, a.1, c.1, c.2, a.4)
    by (inr e) = inr (subst P (sym e) a.4)

any_into : (P : Signed → Type 0) (cs : List Signed) (i : ℕ) (d : Signed) → i < length cs → Any P (take i cs) ⊎ P (get_or cs i d) → Any P (take (i + 1) cs)
any_into P cs i d h (inl a) =
    let c = Contains-append_left (take i cs) (get_or cs i d ∷ []) a.1 (a.0, a.2, a.3) in
    subst (Any P) (sym (take_more cs i d h)) (c.0, a.1, c.1, c.2, a.4)
any_into P cs i d h (inr p) = subst (Any P) (sym (take_more cs i d h)) (Any-push P (take i cs) (get_or cs i d) p)

-- one more constraint of the file
pub keys_more : (cs : List Signed) (i : ℕ) (d : Signed) (old new : List Form) → i < length cs → AreKeysOf (take i cs) old → Adds (IsFormOf (get_or cs i d)) old new → AreKeysOf (take (i + 1) cs) new
keys_more cs i d old new h before adds n = (λ a. (adds n).1 (into (any_out (λ c. IsFormOf c n) cs i d h a)), λ c. any_into (λ c. IsFormOf c n) cs i d h (out ((adds n).0 c)))
  where
    into : Any (λ c. IsFormOf c n) (take i cs) ⊎ IsFormOf (get_or cs i d) n → Contains (constraints_of old) n ⊎ IsFormOf (get_or cs i d) n
    into (inl a) = inl ((before n).0 a)
    into (inr f) = inr f

    out : Contains (constraints_of old) n ⊎ IsFormOf (get_or cs i d) n → Any (λ c. IsFormOf c n) (take i cs) ⊎ IsFormOf (get_or cs i d) n
    out (inl c) = inl ((before n).1 c)
    out (inr f) = inr f

pub no_keys : (cs : List Signed) → AreKeysOf (take 0 cs) []
no_keys cs n = (λ a. absurd (omega (arith, a.2)), λ c. absurd (omega (arith, c.1)))
