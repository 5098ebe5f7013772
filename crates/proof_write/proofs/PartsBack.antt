-- Written numbers, literals, terms and items read back as what was written.
use Rattle.std.proofs.Common.{◌≡◌, ℕ, ℤ, Bool, true, false, not, ◌&&◌, ◌||◌, if◌then◌else◌, Option, Some, None, List, [], ◌∷◌, ◌++◌, length, refl, sym, ap, ◌∙◌, arith, append_assoc, codes}
use Rattle.std.specs.Prelude.{All, ⊤}
use Rattle.std.specs.List.{flat_map}
use Rattle.std.specs.Option.{option_map}
use Rattle.std.specs.Str.{bytes_eq}
use Rattle.std.specs.Fmt.{signed_decimal}
use Rattle.std.proofs.lemmas.List.Elements.{All-head, All-tail}
use Rattle.pb_text.specs.Lexeme.{kind_of, kind_of_word}
use Rattle.pb_text.specs.Name.{is_name}
use Rattle.pb_text.specs.Word.{is_negated, name_of, is_integer as integer_word, is_literal as literal_word, is_misspelt}
use Rattle.pb_text.specs.Number.{integer_value}
use Rattle.pb_text.specs.declared.kind.Kind.{Kind}
use Rattle.pb_text.specs.declared.kind.Kind.TheVariants.{Symbol, Misspelt, Other}
use Rattle.pb_text.specs.declared.kind.Symbol.TheVariants.{Semicolon, AtLeast}
use Rattle.linear.specs.Table.{with_name, place_of, IsTable}
use Rattle.linear.specs.declared.term.Var.{Var}
use Rattle.linear.specs.declared.term.Lit.{Lit}
use Rattle.linear.specs.declared.term.Term.{Term}
use Rattle.linear.specs.declared.constraint.Signed.{Signed}
use Rattle.linear.specs.declared.constraint.Relation.TheVariants as relations
use Rattle.linear.proofs.SameTerm.{same_term}
use Rattle.proof_steps.specs.declared.step.Item.{Item}
use Rattle.proof_steps.specs.declared.step.Item.TheVariants as items
use Rattle.proof_text.specs.Kinds.{is_integer, is_literal, is_semicolon, is_at_least}
use Rattle.proof_text.specs.Words.{Halves, halves, unclosed, is_first, IsSmall, AreSmall}
use Rattle.proof_text.specs.Numbering.{names_in, lit_of}
use Rattle.proof_text.specs.Forms.{are_literals, literals_of, are_integers, integers_of, is_variable, variable_of, is_term, term_of, terms_of, behind_terms, closing_of, is_pair, is_single, single_of, pair_of, are_items, items_of}
use Rattle.proof_text.specs.Steps.{constraint_of}
use Rattle.proof_write.specs.Writing
use Rattle.proof_write.specs.Writing.{name_at, lit_words, number_words, item_words, term_words, constraint_words}
use Rattle.proof_text.specs.Writable.{IsWritable, IsNamed, IsTermWritable, IsConstraintWritable, IsItemWritable, IsLitWritable}
use Rattle.proof_write.proofs.WordsCut.{IsToken, plain_token, at_least_token, AreTokens}
use Rattle.proof_write.proofs.NumeralsBack.{numeral}
use Rattle.proof_write.proofs.NamesBack.{named_by, literal_written}
use Rattle.proof_text.proofs.WordsByKind.{all_small, none_small, small_other, integer_alone, literal_alone}
use Rattle.proof_text.proofs.PolItems.{items_pair, items_single, pairs, same_word}
use Rattle.proof_text.proofs.ClosingSemicolon.{stays_open}

-- a written word: a token, no `;`, no integer that is too large, and no new name
pub record IsGood (names : List (List ℕ)) (w : List ℕ) : Type 0 where
  pub token : IsToken w
  pub mark : is_semicolon (kind_of w) ≡ false
  pub small : IsSmall w
  pub known : (if is_literal (kind_of w) then with_name names (name_of w) else names) ≡ names

abbrev pub AreGood : List (List ℕ) → List (List ℕ) → Type 0
AreGood names [] = ⊤
AreGood names (w ∷ ws) = IsGood names w × AreGood names ws

pub AreGood-append : (names xs ys : List (List ℕ)) → AreGood names xs → AreGood names ys → AreGood names (xs ++ ys)
AreGood-append names [] ys h k = k
AreGood-append names (x ∷ xs) ys h k = (h.0, AreGood-append names xs ys h.1 k)

pub good_tokens : (names ws : List (List ℕ)) → AreGood names ws → AreTokens ws
good_tokens names [] h = tt
good_tokens names (w ∷ ws) h = (h.0.token, good_tokens names ws h.1)

pub good_small : (names ws : List (List ℕ)) → AreGood names ws → AreSmall ws
good_small names [] h = none_small
good_small names (w ∷ ws) h = all_small w ws h.0.small (good_small names ws h.1)

pub good_names : (names ws : List (List ℕ)) → AreGood names ws → names_in names ws ≡ names
good_names names [] h = refl
good_names names (w ∷ ws) h = ap (λ n. names_in n ws) h.0.known ∙ good_names names ws h.1

pub good_open : (names ws : List (List ℕ)) → AreGood names ws → unclosed ws ≡ ws
good_open names [] h = refl
good_open names (w ∷ ws) h = stays_open w ws h.0.mark ∙ ap (λ x. w ∷ x) (good_open names ws h.1)

abbrev by_mark : Bool → List ℕ → List (List ℕ) → Halves
by_mark t w rest = if t then record { front = []; behind = Some rest } else record { front = w ∷ (halves rest).front; behind = (halves rest).behind }

semicolon_kind : kind_of (codes ";") ≡ Symbol Semicolon
unfolding kind_of
semicolon_kind = refl

pub good_halves : (names ws rest : List (List ℕ)) → AreGood names ws → halves (ws ++ codes ";" ∷ rest) ≡ record { front = ws; behind = Some rest }
good_halves names [] rest h = ap (λ k. by_mark (is_semicolon k) (codes ";") rest) semicolon_kind
good_halves names (w ∷ ws) rest h =
    ap (λ t. by_mark t w (ws ++ codes ";" ∷ rest)) h.0.mark
    ∙ ap (λ (x : Halves). let y : Halves = record { front = w ∷ x.front; behind = x.behind } in y) (good_halves names ws rest h.1)

-- integers
pub good_number : (names : List (List ℕ)) (n : ℤ) → IsWritable n → IsGood names (signed_decimal n)
good_number names n h =
    let m = numeral n h in
    let i : is_integer (kind_of (signed_decimal n)) ≡ true = ap is_integer m.kind in
    let a = integer_alone (kind_of (signed_decimal n)) i in
    record {
      token = m.token;
      mark = a.1;
      small = m.small;
      known = ap (λ t. if t then with_name names (name_of (signed_decimal n)) else names) a.0;
    }

-- literals
pub good_literal : (names : List (List ℕ)) (negated : Bool) (v : Var) → IsTable names → IsNamed (length names) v → IsGood names (Writing.literal_word names negated v)
good_literal names negated v t h =
    let w = Writing.literal_word names negated v in
    let l = literal_written names negated v t h in
    let n = named_by names v t h in
    let k : is_literal (kind_of w) ≡ true = ap is_literal l.kind in
    let a = literal_alone (kind_of w) k in
    record {
      token = l.token;
      mark = a.1;
      small = small_other w a.0;
      known = ap (λ t. if t then with_name names (name_of w) else names) k ∙ ap (with_name names) l.name_is ∙ n.known;
    }

pub lit_back : (names : List (List ℕ)) (l : Lit) → IsTable names → IsNamed (length names) l.var
    → (is_literal (kind_of (Writing.literal_word names l.negated l.var)) ≡ true) × (lit_of names (Writing.literal_word names l.negated l.var) ≡ l)
lit_back names l t h =
    let w = literal_written names l.negated l.var t h in
    let n = named_by names l.var t h in (
      ap is_literal w.kind,
      ap (λ x. let y : Lit = record { var = record { 0 = x }; negated = is_negated (Writing.literal_word names l.negated l.var) } in y) (ap (place_of names) w.name_is ∙ n.number)
          ∙ ap (λ x. let y : Lit = record { var = record { 0 = l.var.0 }; negated = x } in y) w.sign,
    )

pub lits_good : (names : List (List ℕ)) (ls : List Lit) → IsTable names → All (IsLitWritable (length names)) ls → AreGood names (flat_map (lit_words names) ls)
lits_good names [] t h = tt
lits_good names (l ∷ ls) t h =
    (good_literal names l.negated l.var t (All-head (IsLitWritable (length names)) l ls h), lits_good names ls t (All-tail (IsLitWritable (length names)) l ls h))

pub lits_back : (names : List (List ℕ)) (ls : List Lit) → IsTable names → All (IsLitWritable (length names)) ls
    → (are_literals (flat_map (lit_words names) ls) ≡ true) × (literals_of names (flat_map (lit_words names) ls) ≡ ls)
lits_back names [] t h = (refl, refl)
lits_back names (l ∷ ls) t h =
    let p = lit_back names l t (All-head (IsLitWritable (length names)) l ls h) in
    let q = lits_back names ls t (All-tail (IsLitWritable (length names)) l ls h) in (
      ap (λ b. b && are_literals (flat_map (lit_words names) ls)) p.0 ∙ q.0,
      ap (λ x. x ∷ literals_of names (flat_map (lit_words names) ls)) p.1 ∙ ap (λ xs. l ∷ xs) q.1,
    )

pub numbers_good : (names : List (List ℕ)) (ns : List ℤ) → All IsWritable ns → AreGood names (flat_map number_words ns)
numbers_good names [] h = tt
numbers_good names (n ∷ ns) h = (good_number names n (All-head IsWritable n ns h), numbers_good names ns (All-tail IsWritable n ns h))

pub numbers_back : (ns : List ℤ) → All IsWritable ns → (are_integers (flat_map number_words ns) ≡ true) × (integers_of (flat_map number_words ns) ≡ ns)
numbers_back [] h = (refl, refl)
numbers_back (n ∷ ns) h =
    let m = numeral n (All-head IsWritable n ns h) in
    let q = numbers_back ns (All-tail IsWritable n ns h) in (
      ap (λ k. is_integer k && are_integers (flat_map number_words ns)) m.kind ∙ q.0,
      ap (λ x. x ∷ integers_of (flat_map number_words ns)) m.value ∙ ap (λ xs. n ∷ xs) q.1,
    )

-- fixed words
operation_kinds : (kind_of (codes "+") ≡ Other) × (kind_of (codes "*") ≡ Other) × (kind_of (codes "d") ≡ Misspelt) × (kind_of (codes "s") ≡ Misspelt) × (kind_of (codes "w") ≡ Misspelt)
unfolding kind_of kind_of_word integer_word literal_word is_misspelt is_name
operation_kinds = (refl, refl, refl, refl, refl)

pub good_other : (names : List (List ℕ)) (w : List ℕ) (k : Kind) → kind_of w ≡ k → is_semicolon k ≡ false → is_integer k ≡ false → is_literal k ≡ false → IsToken w → IsGood names w
good_other names w k e s i l t = record {
  token = t;
  mark = ap is_semicolon e ∙ s;
  small = small_other w (ap is_integer e ∙ i);
  known = ap (λ x. if is_literal x then with_name names (name_of w) else names) e ∙ ap (λ x. if x then with_name names (name_of w) else names) l;
}

-- terms
pub terms_good : (names : List (List ℕ)) (ts : List Term) → IsTable names → All (IsTermWritable (length names)) ts → AreGood names (flat_map (term_words names) ts)
terms_good names [] t h = tt
terms_good names (x ∷ ts) t h =
    let w = All-head (IsTermWritable (length names)) x ts h in
    (good_number names x.coef w.coef, (good_literal names x.negated x.var t w.named, terms_good names ts t (All-tail (IsTermWritable (length names)) x ts h)))

term_back : (names : List (List ℕ)) (x : Term) → IsTable names → IsTermWritable (length names) x
    → (is_term (signed_decimal x.coef) (Writing.literal_word names x.negated x.var) ≡ true) × (term_of names (signed_decimal x.coef) (Writing.literal_word names x.negated x.var) ≡ x)
term_back names x t w =
    let m = numeral x.coef w.coef in
    let l = literal_written names x.negated x.var t w.named in
    let n = named_by names x.var t w.named in (
      ap (λ k. is_integer k && is_literal (kind_of (Writing.literal_word names x.negated x.var))) m.kind ∙ ap is_literal l.kind,
      same_term _ _ _ _ _ _ m.value (ap (place_of names) l.name_is ∙ n.number) l.sign,
    )

-- terms, and what stands behind them
pub terms_back : (names rest : List (List ℕ)) (ts : List Term) → IsTable names → All (IsTermWritable (length names)) ts → terms_of names rest ≡ [] → behind_terms rest ≡ rest
    → (terms_of names (flat_map (term_words names) ts ++ rest) ≡ ts) × (behind_terms (flat_map (term_words names) ts ++ rest) ≡ rest)
terms_back names rest [] t h e f = (e, f)
terms_back names rest (x ∷ ts) t h e f =
    let a = signed_decimal x.coef in
    let b = Writing.literal_word names x.negated x.var in
    let p = term_back names x t (All-head (IsTermWritable (length names)) x ts h) in
    let q = terms_back names rest ts t (All-tail (IsTermWritable (length names)) x ts h) e f in
    let more = flat_map (term_words names) ts ++ rest in (
      ap (λ c. if c then term_of names a b ∷ terms_of names more else []) p.0 ∙ ap (λ y. y ∷ terms_of names more) p.1 ∙ ap (λ ys. x ∷ ys) q.0,
      ap (λ c. if c then behind_terms more else a ∷ b ∷ more) p.0 ∙ q.1,
    )

at_least_kind : kind_of (codes ">=") ≡ Symbol AtLeast
unfolding kind_of
at_least_kind = refl

-- the words of a constraint before its `;`
abbrev pub front_words : List (List ℕ) → Signed → List (List ℕ)
front_words names c = flat_map (term_words names) c.terms ++ codes ">=" ∷ signed_decimal c.right ∷ []

pub front_good : (names : List (List ℕ)) (c : Signed) → IsTable names → IsConstraintWritable (length names) c → AreGood names (front_words names c)
front_good names c t h =
    AreGood-append names (flat_map (term_words names) c.terms) (codes ">=" ∷ signed_decimal c.right ∷ []) (terms_good names c.terms t h.terms)
    (good_other names (codes ">=") (Symbol AtLeast) at_least_kind refl refl refl at_least_token, (good_number names c.right h.right, tt))

pub whole_front : (names rest : List (List ℕ)) (c : Signed) → constraint_words names c ++ rest ≡ front_words names c ++ codes ";" ∷ rest
whole_front names rest c =
    append_assoc (flat_map (term_words names) c.terms) (codes ">=" ∷ signed_decimal c.right ∷ codes ";" ∷ []) rest
    ∙ sym (append_assoc (flat_map (term_words names) c.terms) (codes ">=" ∷ signed_decimal c.right ∷ []) (codes ";" ∷ rest))

same_signed : (c : Signed) → c.relation ≡ relations.AtLeast → ◌≡◌ {A = Signed} (record { terms = c.terms; relation = relations.AtLeast; right = c.right }) c
same_signed c h = ap (λ x. let s : Signed = record { terms = c.terms; relation = x; right = c.right } in s) (sym h)

pub constraint_back : (names : List (List ℕ)) (c : Signed) → IsTable names → IsConstraintWritable (length names) c → constraint_of names (front_words names c) ≡ Some c
constraint_back names c t h =
    let end = codes ">=" ∷ signed_decimal c.right ∷ [] in
    let no : is_term (codes ">=") (signed_decimal c.right) ≡ false = ap (λ k. is_integer k && is_literal (kind_of (signed_decimal c.right))) at_least_kind in
    let p = terms_back names end c.terms t h.terms
    (ap (λ b. if b then term_of names (codes ">=") (signed_decimal c.right) ∷ terms_of names [] else []) no)
    (ap (λ b. if b then behind_terms [] else end) no) in
    let m = numeral c.right h.right in
    let closing : closing_of end ≡ Some c.right =
    ap (λ k. if is_at_least k && is_integer (kind_of (signed_decimal c.right)) then Some (integer_value (signed_decimal c.right)) else None) at_least_kind
    ∙ ap (λ k. if is_integer k then Some (integer_value (signed_decimal c.right)) else None) m.kind
    ∙ ap (λ n. Some n) m.value in
    ap (λ ws. option_map (λ right. let s : Signed = record { terms = terms_of names (front_words names c); relation = relations.AtLeast; right = right } in s) (closing_of ws)) p.1
    ∙ ap (λ o. option_map (λ right. let s : Signed = record { terms = terms_of names (front_words names c); relation = relations.AtLeast; right = right } in s) o) closing
    ∙ ap (λ ts. let s : Option Signed = Some (record { terms = ts; relation = relations.AtLeast; right = c.right }) in s) p.0
    ∙ ap (λ x. Some x) (same_signed c h.relation)

-- items
item_good : (names : List (List ℕ)) (i : Item) → IsTable names → IsItemWritable (length names) i → AreGood names (item_words names i)
item_good names (items.Id n) t h = (good_number names n h, tt)
item_good names (items.Axiom l) t h = (good_literal names l.negated l.var t h, tt)
item_good names items.Add t h = (good_other names (codes "+") Other operation_kinds.0 refl refl refl (plain_token (codes "+") refl (omega arith)), tt)
item_good names (items.Multiply n) t h = (good_number names n h, (good_other names (codes "*") Other operation_kinds.1 refl refl refl (plain_token (codes "*") refl (omega arith)), tt))
item_good names (items.Divide n) t h = (good_number names n h, (good_other names (codes "d") Misspelt operation_kinds.2 refl refl refl (plain_token (codes "d") refl (omega arith)), tt))
item_good names items.Saturate t h = (good_other names (codes "s") Misspelt operation_kinds.3 refl refl refl (plain_token (codes "s") refl (omega arith)), tt)
item_good names (items.Weaken v) t h = (good_literal names false v t h, (good_other names (codes "w") Misspelt operation_kinds.4 refl refl refl (plain_token (codes "w") refl (omega arith)), tt))

pub all_items_good : (names : List (List ℕ)) (is : List Item) → IsTable names → All (IsItemWritable (length names)) is → AreGood names (flat_map (item_words names) is)
all_items_good names [] t h = tt
all_items_good names (i ∷ is) t h =
    AreGood-append names (item_words names i) (flat_map (item_words names) is) (item_good names i t (All-head (IsItemWritable (length names)) i is h)) (all_items_good names is t (All-tail (IsItemWritable (length names)) i is h))

-- no operation stands first
record NoOperation (ws : List (List ℕ)) : Type 0 where
  star : is_first (codes "*") ws ≡ false
  divide : is_first (codes "d") ws ≡ false
  weaken : is_first (codes "w") ws ≡ false

other_word : (w v : List ℕ) (k : Kind) (test : Kind → Bool) → kind_of v ≡ k → test (kind_of w) ≡ true → test k ≡ false → bytes_eq w v ≡ false
other_word w v k test e h f =
    elim (bytes_eq w v) as (λ t. bytes_eq w v ≡ t → t ≡ false) [
      | true ↦ λ g. absurd (cc (sym h ∙ ap (λ x. test (kind_of x)) (same_word w v g) ∙ ap test e ∙ f))
      | false ↦ λ g. refl
    ] refl

by_kind : (w : List ℕ) (ws : List (List ℕ)) (test : Kind → Bool) → test (kind_of w) ≡ true → test Other ≡ false → test Misspelt ≡ false → NoOperation (w ∷ ws)
by_kind w ws test h o m = record {
  star = other_word w (codes "*") Other test operation_kinds.1 h o;
  divide = other_word w (codes "d") Misspelt test operation_kinds.2 h m;
  weaken = other_word w (codes "w") Misspelt test operation_kinds.4 h m;
}

no_operation : (names : List (List ℕ)) (is : List Item) → IsTable names → All (IsItemWritable (length names)) is → NoOperation (flat_map (item_words names) is)
no_operation names [] t h = record { star = refl; divide = refl; weaken = refl }
no_operation names (items.Id n ∷ is) t h = by_kind _ _ is_integer (ap is_integer (numeral n (All-head (IsItemWritable (length names)) (items.Id n) is h)).kind) refl refl
no_operation names (items.Axiom l ∷ is) t h = by_kind _ _ is_literal (ap is_literal (literal_written names l.negated l.var t (All-head (IsItemWritable (length names)) (items.Axiom l) is h)).kind) refl refl
no_operation names (items.Add ∷ is) t h = record { star = refl; divide = refl; weaken = refl }
no_operation names (items.Multiply n ∷ is) t h = by_kind _ _ is_integer (ap is_integer (numeral n (All-head (IsItemWritable (length names)) (items.Multiply n) is h)).kind) refl refl
no_operation names (items.Divide n ∷ is) t h = by_kind _ _ is_integer (ap is_integer (numeral n (All-head (IsItemWritable (length names)) (items.Divide n) is h)).kind) refl refl
no_operation names (items.Saturate ∷ is) t h = record { star = refl; divide = refl; weaken = refl }
no_operation names (items.Weaken v ∷ is) t h = by_kind _ _ is_literal (ap is_literal (literal_written names false v t (All-head (IsItemWritable (length names)) (items.Weaken v) is h)).kind) refl refl

no_pair : (a : List ℕ) (ws : List (List ℕ)) → NoOperation ws → pairs a ws ≡ false
no_pair a [] n = refl
no_pair a (b ∷ ws) n =
    ap (λ s. (is_integer (kind_of a) && (s || bytes_eq b (codes "d"))) || (is_variable a && bytes_eq b (codes "w"))) n.star
    ∙ ap (λ s. (is_integer (kind_of a) && (false || s)) || (is_variable a && bytes_eq b (codes "w"))) n.divide
    ∙ ap (λ s. (is_integer (kind_of a) && false) || (is_variable a && s)) n.weaken
    ∙ by (is_integer (kind_of a)) (is_variable a)
  where
    by : (i v : Bool) → ((i && false) || (v && false)) ≡ false
    by true true = refl
    by true false = refl
    by false true = refl
    by false false = refl

record ItemBack (names : List (List ℕ)) (i : Item) (rest : List (List ℕ)) : Type 0 where
  form : are_items (item_words names i ++ rest) ≡ are_items rest
  value : items_of names (item_words names i ++ rest) ≡ i ∷ items_of names rest

one_back : (names : List (List ℕ)) (a : List ℕ) (i : Item) (rest : List (List ℕ)) → NoOperation rest → is_single a ≡ true → single_of names a ≡ i
    → (are_items (a ∷ rest) ≡ are_items rest) × (items_of names (a ∷ rest) ≡ i ∷ items_of names rest)
one_back names a i rest n one value =
    let p = items_single names a rest (no_pair a rest n) in
    (p.1 ∙ ap (λ t. t && are_items rest) one, p.0 ∙ ap (λ x. x ∷ items_of names rest) value)

two_back : (names : List (List ℕ)) (a b : List ℕ) (i : Item) (rest : List (List ℕ)) → is_pair a b ≡ true → pair_of names a b ≡ i
    → (are_items (a ∷ b ∷ rest) ≡ are_items rest) × (items_of names (a ∷ b ∷ rest) ≡ i ∷ items_of names rest)
two_back names a b i rest pair value =
    let p = items_pair names a b rest pair in
    (p.1, p.0 ∙ ap (λ x. x ∷ items_of names rest) value)

pub var_back : (names : List (List ℕ)) (v : Var) → IsTable names → IsNamed (length names) v → (is_variable (name_at names v) ≡ true) × (variable_of names (name_at names v) ≡ v)
var_back names v t h =
    let w = literal_written names false v t h in
    let n = named_by names v t h in (
      ap (λ k. is_literal k && not (is_negated (name_at names v))) w.kind ∙ ap not w.sign,
      ap (λ x. let y : Var = record { 0 = x } in y) (ap (place_of names) w.name_is ∙ n.number),
    )

item_back : (names : List (List ℕ)) (i : Item) (rest : List (List ℕ)) → IsTable names → IsItemWritable (length names) i → NoOperation rest
    → (are_items (item_words names i ++ rest) ≡ are_items rest) × (items_of names (item_words names i ++ rest) ≡ i ∷ items_of names rest)
item_back names (items.Id n) rest t h o =
    let a = signed_decimal n in
    let m = numeral n h in
    one_back names a (items.Id n) rest o (ap (λ k. is_integer k || is_literal (kind_of a) || bytes_eq a (codes "+") || bytes_eq a (codes "s")) m.kind)
    (ap (λ k. if is_integer k then items.Id (integer_value a) else if is_literal (kind_of a) then items.Axiom (lit_of names a) else if bytes_eq a (codes "+") then items.Add else items.Saturate) m.kind
    ∙ ap (λ x. items.Id x) m.value)
item_back names (items.Axiom l) rest t h o =
    let a = Writing.literal_word names l.negated l.var in
    let w = literal_written names l.negated l.var t h in
    one_back names a (items.Axiom l) rest o
    (ap (λ k. is_integer k || is_literal k || bytes_eq a (codes "+") || bytes_eq a (codes "s")) w.kind)
    (ap (λ k. if is_integer k then items.Id (integer_value a) else if is_literal k then items.Axiom (lit_of names a) else if bytes_eq a (codes "+") then items.Add else items.Saturate) w.kind
    ∙ ap (λ x. items.Axiom x) (lit_back names l t h).1)
item_back names items.Add rest t h o =
    one_back names (codes "+") items.Add rest o
    (ap (λ k. is_integer k || is_literal k || true || false) operation_kinds.0)
    (ap (λ k. if is_integer k then items.Id (integer_value (codes "+")) else if is_literal k then items.Axiom (lit_of names (codes "+")) else items.Add) operation_kinds.0)
item_back names (items.Multiply n) rest t h o =
    let a = signed_decimal n in
    let m = numeral n h in
    two_back names a (codes "*") (items.Multiply n) rest (ap (λ k. (is_integer k && true) || (is_variable a && false)) m.kind) (ap (λ x. items.Multiply x) m.value)
item_back names (items.Divide n) rest t h o =
    let a = signed_decimal n in
    let m = numeral n h in
    two_back names a (codes "d") (items.Divide n) rest (ap (λ k. (is_integer k && true) || (is_variable a && false)) m.kind) (ap (λ x. items.Divide x) m.value)
item_back names items.Saturate rest t h o =
    one_back names (codes "s") items.Saturate rest o
    (ap (λ k. is_integer k || is_literal k || false || true) operation_kinds.3)
    (ap (λ k. if is_integer k then items.Id (integer_value (codes "s")) else if is_literal k then items.Axiom (lit_of names (codes "s")) else items.Saturate) operation_kinds.3)
item_back names (items.Weaken v) rest t h o =
    let a = name_at names v in
    let p = var_back names v t h in
    two_back names a (codes "w") (items.Weaken v) rest (ap (λ x. (is_integer (kind_of a) && false) || (x && true)) p.0 ∙ or_last (is_integer (kind_of a))) (ap (λ x. items.Weaken x) p.1)
  where
    or_last : (i : Bool) → ((i && false) || true) ≡ true
    or_last true = refl
    or_last false = refl

pub items_back : (names : List (List ℕ)) (is : List Item) → IsTable names → All (IsItemWritable (length names)) is
    → (are_items (flat_map (item_words names) is) ≡ true) × (items_of names (flat_map (item_words names) is) ≡ is)
items_back names [] t h = (refl, refl)
items_back names (i ∷ is) t h =
    let later = All-tail (IsItemWritable (length names)) i is h in
    let p = item_back names i (flat_map (item_words names) is) t (All-head (IsItemWritable (length names)) i is h) (no_operation names is t later) in
    let q = items_back names is t later in
    (p.0 ∙ q.0, p.1 ∙ ap (λ xs. i ∷ xs) q.1)
