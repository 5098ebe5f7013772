-- Names as they are written.
use Rattle.std.proofs.Common.{◌≡◌, ℕ, zero, suc, ◌+◌, ◌<◌, Bool, true, false, not, cond, ◌&&◌, ◌||◌, if◌then◌else◌, List, [], ◌∷◌, ◌++◌, length, get_or, refl, sym, ap, ◌∙◌, arith}
use Rattle.std.specs.Prelude.{◌==◌, nat_lt}
use Rattle.std.specs.List.{list_all, IsDistinct}
use Rattle.std.specs.Cmp.Lexicographic.{nat_list_eq_equiv}
use Rattle.std.proofs.lemmas.Bool.Decides.{nat_tests}
use Rattle.std.proofs.lemmas.List.Elements.{All-get_or, All-from_recursion}
use Rattle.pb_text.specs.Name.{begins_name, continues_name, is_name}
use Rattle.pb_text.specs.Word.{is_negated, name_of, is_literal}
use Rattle.pb_text.specs.Lexeme.{kind_of}
use Rattle.pb_text.specs.declared.kind.Kind.TheVariants.{Literal}
use Rattle.pb_text.proofs.KindTests.{literal_is}
use Rattle.linear.specs.Table.{same_name, has_name, place_of, with_name, IsTable}
use Rattle.linear.specs.declared.term.Var.{Var}
use Rattle.proof_write.specs.Writing.{name_at, literal_word}
use Rattle.proof_write.proofs.WordsCut.{plain, IsToken, plain_token}

both_true : (p q : Bool) → (p && q) ≡ true → (p ≡ true) × (q ≡ true)
both_true true q h = (refl, h)
both_true false q h = cc

begins_plain : (b : ℕ) → begins_name b ≡ true → plain b ≡ true
begins_plain b h = grind (arith, nat_tests)

continues_plain : (b : ℕ) → continues_name b ≡ true → plain b ≡ true
continues_plain b h = grind (arith, nat_tests)

begins_other : (b : ℕ) → begins_name b ≡ true → (b == 126) ≡ false
begins_other b h = grind (arith, nat_tests)

all_plain : (ws : List ℕ) → list_all continues_name ws ≡ true → list_all plain ws ≡ true
all_plain [] h = refl
all_plain (b ∷ ws) h =
    let t = both_true (continues_name b) (list_all continues_name ws) h in
    ap (λ x. x && list_all plain ws) (continues_plain b t.0) ∙ all_plain ws t.1

-- what a name's bytes are
record Name (name : List ℕ) : Type 0 where
  clear : list_all plain name ≡ true
  some : 0 < length name
  same : name_of name ≡ name
  sign : is_negated name ≡ false

name_bytes : (name : List ℕ) → is_name name ≡ true → Name name
unfolding is_name
name_bytes [] h = cc
name_bytes (b ∷ rest) h =
    let t = both_true (begins_name b && nat_lt 0 (length rest)) (list_all continues_name rest) h in
    let u = both_true (begins_name b) (nat_lt 0 (length rest)) t.0 in
    record {
      clear = ap (λ x. x && list_all plain rest) (begins_plain b u.0) ∙ all_plain rest t.1;
      some = omega arith;
      same = ap (λ x. if x then rest else b ∷ rest) (begins_other b u.0);
      sign = begins_other b u.0;
    }

-- a literal's word
pub record IsLiteralWord (name : List ℕ) (negated : Bool) (w : List ℕ) : Type 0 where
  pub token : IsToken w
  pub kind : kind_of w ≡ Literal
  pub name_is : name_of w ≡ name
  pub sign : is_negated w ≡ negated

pub name_word : (name : List ℕ) → is_name name ≡ true → IsLiteralWord name false name
unfolding is_literal
name_word name h =
    let n = name_bytes name h in
    record {
      token = plain_token name n.clear n.some;
      kind = literal_is name (ap is_name n.same ∙ h);
      name_is = n.same;
      sign = n.sign;
    }

pub negated_word : (name : List ℕ) → is_name name ≡ true → IsLiteralWord name true (126 ∷ name)
unfolding is_literal
negated_word name h =
    let n = name_bytes name h in
    record {
      token = plain_token (126 ∷ name) n.clear (omega arith);
      kind = literal_is (126 ∷ name) h;
      name_is = refl;
      sign = refl;
    }

-- the names of a table have their own numbers
place_at : (names : List (List ℕ)) (v : ℕ) → IsDistinct same_name names → v < length names → (has_name names (get_or names v []) ≡ true) × (place_of names (get_or names v []) ≡ v)
unfolding IsDistinct
place_at [] v d h = absurd (omega arith)
place_at (n ∷ ns) zero d h = by (same_name n n) (nat_list_eq_equiv.refl n)
  where
    by : (t : Bool) → t ≡ true → ((t || has_name ns n) ≡ true) × (cond (not t) (1 + place_of ns n) 0 ≡ 0)
    by true e = (refl, refl)
    by false e = cc
place_at (n ∷ ns) (suc k) d h =
    let name = get_or ns k [] in
    let l : k < length ns = omega arith in
    let p = place_at ns k d.1 l in
    let other : same_name n name ≡ false = All-get_or (λ y. same_name n y ≡ false) ns k [] l (All-from_recursion (λ y. same_name n y ≡ false) ns d.0) in
    by (same_name name n) refl other p
  where
    by : (t : Bool) → same_name (get_or ns k []) n ≡ t → same_name n (get_or ns k []) ≡ false → (has_name ns (get_or ns k []) ≡ true) × (place_of ns (get_or ns k []) ≡ k)
        → ((t || has_name ns (get_or ns k [])) ≡ true) × (cond (not t) (1 + place_of ns (get_or ns k [])) 0 ≡ suc k)
    by true e o p = absurd (cc (sym o ∙ nat_list_eq_equiv.symm n (get_or ns k []) ∙ e))
    by false e o p = let q = p.1 in (p.0, omega (arith, q))

-- a variable of a table, and its name
pub record IsNamedBy (names : List (List ℕ)) (v : Var) : Type 0 where
  pub spelled : is_name (name_at names v) ≡ true
  pub known : with_name names (name_at names v) ≡ names
  pub number : place_of names (name_at names v) ≡ v.0

pub named_by : (names : List (List ℕ)) (v : Var) → IsTable names → v.0 < length names → IsNamedBy names v
named_by names v t h =
    let p = place_at names (v.0) t.distinct h in
    record {
      spelled = All-get_or (λ name. is_name name ≡ true) names (v.0) [] h t.spelled;
      known = ap (λ b. if b then names else names ++ name_at names v ∷ []) p.0;
      number = p.1;
    }

-- a literal's word, by the sign
pub literal_written : (names : List (List ℕ)) (negated : Bool) (v : Var) → IsTable names → v.0 < length names → IsLiteralWord (name_at names v) negated (literal_word names negated v)
literal_written names true v t h = negated_word (name_at names v) (named_by names v t h).spelled
literal_written names false v t h = name_word (name_at names v) (named_by names v t h).spelled
