-- Written conclusions read back as what was written.
use Rattle.std.proofs.Common.{◌≡◌, ℕ, ℤ, true, false, ◌&&◌, ◌||◌, if◌then◌else◌, Option, Some, None, List, [], ◌∷◌, drop, length, refl, sym, ap, subst, ◌∙◌, arith, codes}
use Rattle.std.specs.List.{flat_map}
use Rattle.std.specs.Option.{option_map}
use Rattle.std.specs.Str.{bytes_eq}
use Rattle.std.specs.Fmt.{signed_decimal}
use Rattle.pb_text.specs.Lexeme.{kind_of, kind_of_word}
use Rattle.pb_text.specs.Name.{is_name}
use Rattle.pb_text.specs.Word.{is_integer as integer_word, is_literal as literal_word, is_misspelt}
use Rattle.pb_text.specs.Number.{integer_value}
use Rattle.pb_text.specs.declared.kind.Kind.{Kind}
use Rattle.pb_text.specs.declared.kind.Kind.TheVariants.{Symbol, Literal, Other}
use Rattle.pb_text.specs.declared.kind.Symbol.TheVariants.{Colon}
use Rattle.linear.specs.Table.{IsTable}
use Rattle.linear.specs.declared.term.Lit.{Lit}
use Rattle.proof_steps.specs.declared.conclusion.Lower.{Lower}
use Rattle.proof_steps.specs.declared.conclusion.Lower.TheVariants as lowers
use Rattle.proof_steps.specs.declared.conclusion.Upper.{Upper}
use Rattle.proof_steps.specs.declared.conclusion.Upper.TheVariants as uppers
use Rattle.proof_steps.specs.declared.conclusion.Conclusion.{Conclusion}
use Rattle.proof_steps.specs.declared.conclusion.Conclusion.TheVariants as conclusions
use Rattle.proof_text.specs.declared.keyword.ConclusionKind.TheVariants as kinds
use Rattle.proof_text.specs.declared.line.Line.TheVariants as lines
use Rattle.proof_text.specs.declared.line.Section.TheVariants as sections
use Rattle.proof_text.specs.Kinds.{is_integer, is_semicolon, is_colon}
use Rattle.std.proofs.lemmas.List.Elements.{All-head}
use Rattle.proof_text.specs.Words.{unclosed, IsSmall, AreSmall, words}
use Rattle.proof_lines.specs.Lines.{parted}
use Rattle.proof_text.specs.Numbering.{names_in}
use Rattle.proof_text.specs.Forms.{are_literals}
use Rattle.proof_text.specs.Conclusions.{conclusion_kind_of, is_hint, hinted, hint_of, past_id, is_lower, lower_of, is_upper, upper_of, bounds_by, conclusion_said, literals_said, conclusion_of, conclusion_literals}
use Rattle.proof_text.specs.Spells.{IsLine}
use Rattle.proof_write.specs.Writing.{lit_words, hint_words, lower_word, upper_word, conclusion_words, line_text}
use Rattle.proof_text.specs.Writable.{IsWritable, IsLowerWritable, IsUpperWritable, IsHintWritable, IsConclusionWritable}
use Rattle.proof_write.proofs.WordsCut.{IsToken, plain_token, colon_token, AreTokens, line_words, line_alone}
use Rattle.proof_text.proofs.ByFirstWord.{judged_with, literals_with}
use Rattle.proof_text.proofs.WordsByKind.{none_small, all_small, small_other, integer_alone}
use Rattle.proof_write.proofs.NumeralsBack.{numeral}
use Rattle.proof_text.proofs.ClosingSemicolon.{stays_open}
use Rattle.proof_write.proofs.PartsBack.{AreGood, good_tokens, good_small, good_names, lits_good, lits_back}

-- a word of a conclusion: a token, no `;` and no integer that is too large
record IsFair (w : List ℕ) : Type 0 where
  token : IsToken w
  mark : is_semicolon (kind_of w) ≡ false
  small : AreSmall (w ∷ [])

colon_kind : kind_of (codes ":") ≡ Symbol Colon
unfolding kind_of
colon_kind = refl

word_kinds : (kind_of (codes "NONE") ≡ Literal) × (kind_of (codes "SAT") ≡ Literal) × (kind_of (codes "UNSAT") ≡ Literal) × (kind_of (codes "BOUNDS") ≡ Literal) × (kind_of (codes "INF") ≡ Literal) × (kind_of (codes "-INF") ≡ Other)
unfolding kind_of kind_of_word integer_word literal_word is_misspelt is_name
word_kinds = (refl, refl, refl, refl, refl, refl)

kind_words : (conclusion_kind_of (codes "NONE") ≡ Some kinds.Nothing) × (conclusion_kind_of (codes "SAT") ≡ Some kinds.Sat) × (conclusion_kind_of (codes "UNSAT") ≡ Some kinds.Unsat) × (conclusion_kind_of (codes "BOUNDS") ≡ Some kinds.Bounds)
unfolding conclusion_kind_of
kind_words = (refl, refl, refl, refl)

-- what the words behind `conclusion` are, read back
record IsBack (names : List (List ℕ)) (c : Conclusion) : Type 0 where
  tokens : AreTokens (conclusion_words names c)
  open_words : unclosed (conclusion_words names c) ≡ conclusion_words names c
  says : conclusion_said names (conclusion_words names c) ≡ Some c
  known : names_in names (literals_said (conclusion_words names c)) ≡ names
  small : AreSmall (drop 1 (conclusion_words names c))

good_unclosed : (names ws : List (List ℕ)) → AreGood names ws → unclosed ws ≡ ws
good_unclosed names [] h = refl
good_unclosed names (w ∷ ws) h = stays_open w ws h.0.mark ∙ ap (λ x. w ∷ x) (good_unclosed names ws h.1)

-- a hint, read back
record HintBack (names : List (List ℕ)) (hint : Option (List Lit)) : Type 0 where
  tokens : AreTokens (hint_words names hint)
  open_words : unclosed (hint_words names hint) ≡ hint_words names hint
  form : is_hint (hint_words names hint) ≡ true
  value : hint_of names (hint_words names hint) ≡ hint
  known : names_in names (hinted (hint_words names hint)) ≡ names
  small : AreSmall (hint_words names hint)

hint_back : (names : List (List ℕ)) (hint : Option (List Lit)) → IsTable names → IsHintWritable (length names) hint → HintBack names hint
hint_back names None t h = record { tokens = tt; open_words = refl; form = refl; value = refl; known = refl; small = none_small }
hint_back names (Some ls) t h =
    let ws = flat_map (lit_words names) ls in
    let g = lits_good names ls t h in
    let b = lits_back names ls t h in
    record {
      tokens = (colon_token, good_tokens names ws g);
      open_words = stays_open (codes ":") ws (ap is_semicolon colon_kind) ∙ ap (λ x. codes ":" ∷ x) (good_unclosed names ws g);
      form = ap (λ k. is_colon k && are_literals ws) colon_kind ∙ b.0;
      value = ap (λ x. Some x) b.1;
      known = good_names names ws g;
      small = all_small (codes ":") ws (small_other (codes ":") (ap is_integer colon_kind)) (good_small names ws g);
    }

-- a fixed word
fair_word : (w : List ℕ) (k : Kind) → kind_of w ≡ k → is_semicolon k ≡ false → is_integer k ≡ false → IsToken w → IsFair w
fair_word w k e s i t = record { token = t; mark = ap is_semicolon e ∙ s; small = all_small w [] (small_other w (ap is_integer e ∙ i)) none_small }

fair_number : (n : ℤ) → IsWritable n → IsFair (signed_decimal n)
fair_number n h =
    let m = numeral n h in
    record { token = m.token; mark = (integer_alone (kind_of (signed_decimal n)) (ap is_integer m.kind)).1; small = all_small (signed_decimal n) [] m.small none_small }

-- a lower bound, read back
record LowerBack (l : Lower) : Type 0 where
  fair : IsFair (lower_word l)
  form : is_lower (lower_word l) ≡ true
  value : lower_of (lower_word l) ≡ l

lower_back : (l : Lower) → IsLowerWritable l → LowerBack l
lower_back lowers.MinusInf h = record {
  fair = fair_word (codes "-INF") Other word_kinds.5 refl refl (plain_token (codes "-INF") refl (omega arith));
  form = ap (λ k. is_integer k || false || true) word_kinds.5;
  value = ap (λ k. if is_integer k then lowers.At (integer_value (codes "-INF")) else lowers.MinusInf) word_kinds.5;
}
lower_back (lowers.At n) h =
    let w = signed_decimal n in
    let m = numeral n h in
    record {
      fair = fair_number n h;
      form = ap (λ k. is_integer k || bytes_eq w (codes "INF") || bytes_eq w (codes "-INF")) m.kind;
      value = ap (λ k. if is_integer k then lowers.At (integer_value w) else if bytes_eq w (codes "INF") then lowers.Inf else lowers.MinusInf) m.kind ∙ ap (λ x. lowers.At x) m.value;
    }
lower_back lowers.Inf h = record {
  fair = fair_word (codes "INF") Literal word_kinds.4 refl refl (plain_token (codes "INF") refl (omega arith));
  form = ap (λ k. is_integer k || true || false) word_kinds.4;
  value = ap (λ k. if is_integer k then lowers.At (integer_value (codes "INF")) else lowers.Inf) word_kinds.4;
}

-- an upper bound, read back
record UpperBack (u : Upper) : Type 0 where
  fair : IsFair (upper_word u)
  form : is_upper (upper_word u) ≡ true
  value : upper_of (upper_word u) ≡ u
  no_colon : is_colon (kind_of (upper_word u)) ≡ false

upper_back : (u : Upper) → IsUpperWritable u → UpperBack u
upper_back (uppers.At n) h =
    let w = signed_decimal n in
    let m = numeral n h in
    record {
      fair = fair_number n h;
      form = ap (λ k. is_integer k || bytes_eq w (codes "INF")) m.kind;
      value = ap (λ k. if is_integer k then uppers.At (integer_value w) else uppers.Inf) m.kind ∙ ap (λ x. uppers.At x) m.value;
      no_colon = ap is_colon m.kind;
    }
upper_back uppers.Inf h = record {
  fair = fair_word (codes "INF") Literal word_kinds.4 refl refl (plain_token (codes "INF") refl (omega arith));
  form = ap (λ k. is_integer k || true) word_kinds.4;
  value = ap (λ k. if is_integer k then uppers.At (integer_value (codes "INF")) else uppers.Inf) word_kinds.4;
  no_colon = ap is_colon word_kinds.4;
}

no_id : (u : List ℕ) (rest : List (List ℕ)) → is_colon (kind_of u) ≡ false → past_id (u ∷ rest) ≡ u ∷ rest
no_id u [] h = refl
no_id u (b ∷ more) h = ap (λ t. if t && is_integer (kind_of b) then more else u ∷ b ∷ more) h

joined : (w : List ℕ) (rest : List (List ℕ)) → AreSmall (w ∷ []) → AreSmall rest → AreSmall (w ∷ rest)
joined w rest h k = all_small w rest (All-head IsSmall w [] h) k

conclusion_back : (names : List (List ℕ)) (c : Conclusion) → IsTable names → IsConclusionWritable (length names) c → IsBack names c
conclusion_back names conclusions.Nothing t h =
    let f = fair_word (codes "NONE") Literal word_kinds.0 refl refl (plain_token (codes "NONE") refl (omega arith)) in
    record {
      tokens = (f.token, tt);
      open_words = stays_open (codes "NONE") [] f.mark;
      says = ap (judged_with names []) kind_words.0;
      known = ap (λ o. names_in names (literals_with [] o)) kind_words.0;
      small = none_small;
    }
conclusion_back names (conclusions.Sat hint) t h =
    let f = fair_word (codes "SAT") Literal word_kinds.1 refl refl (plain_token (codes "SAT") refl (omega arith)) in
    let b = hint_back names hint t h in
    let ws = hint_words names hint in
    record {
      tokens = (f.token, b.tokens);
      open_words = stays_open (codes "SAT") ws f.mark ∙ ap (λ x. codes "SAT" ∷ x) b.open_words;
      says = ap (judged_with names ws) kind_words.1 ∙ ap (λ x. if x then Some (conclusions.Sat (hint_of names ws)) else None) b.form ∙ ap (λ x. Some (conclusions.Sat x)) b.value;
      known = ap (λ o. names_in names (literals_with ws o)) kind_words.1 ∙ b.known;
      small = b.small;
    }
conclusion_back names conclusions.Unsat t h =
    let f = fair_word (codes "UNSAT") Literal word_kinds.2 refl refl (plain_token (codes "UNSAT") refl (omega arith)) in
    record {
      tokens = (f.token, tt);
      open_words = stays_open (codes "UNSAT") [] f.mark;
      says = ap (judged_with names []) kind_words.2;
      known = ap (λ o. names_in names (literals_with [] o)) kind_words.2;
      small = none_small;
    }
conclusion_back names (conclusions.Bounds l u hint) t h =
    let f = fair_word (codes "BOUNDS") Literal word_kinds.3 refl refl (plain_token (codes "BOUNDS") refl (omega arith)) in
    let low = lower_back l h.0 in
    let up = upper_back u h.1 in
    let b = hint_back names hint t h.2 in
    let hs = hint_words names hint in
    let lw = lower_word l in
    let uw = upper_word u in
    let past : past_id (uw ∷ hs) ≡ uw ∷ hs = no_id uw hs up.no_colon in
    record {
      tokens = (f.token, (low.fair.token, (up.fair.token, b.tokens)));
      open_words =
          stays_open (codes "BOUNDS") (lw ∷ uw ∷ hs) f.mark
          ∙ ap (λ x. codes "BOUNDS" ∷ x) (stays_open lw (uw ∷ hs) low.fair.mark ∙ ap (λ x. lw ∷ x) (stays_open uw hs up.fair.mark ∙ ap (λ x. uw ∷ x) b.open_words));
      says =
          ap (judged_with names (lw ∷ uw ∷ hs)) kind_words.3
          ∙ ap (λ x. if x then bounds_by names (lower_of lw) (past_id (uw ∷ hs)) else None) low.form
          ∙ ap (bounds_by names (lower_of lw)) past
          ∙ ap (λ x. if x && is_hint hs then Some (conclusions.Bounds (lower_of lw) (upper_of uw) (hint_of names hs)) else None) up.form
          ∙ ap (λ x. if x then Some (conclusions.Bounds (lower_of lw) (upper_of uw) (hint_of names hs)) else None) b.form
          ∙ ap (λ x. Some (conclusions.Bounds x (upper_of uw) (hint_of names hs))) low.value
          ∙ ap (λ x. Some (conclusions.Bounds l x (hint_of names hs))) up.value
          ∙ ap (λ x. Some (conclusions.Bounds l u x)) b.value;
      known = ap (λ o. names_in names (literals_with (lw ∷ uw ∷ hs) o)) kind_words.3 ∙ ap (λ ws. names_in names (hinted (drop 1 ws))) past ∙ b.known;
      small = joined lw (uw ∷ hs) low.fair.small (joined uw hs up.fair.small b.small);
    }

-- what the conclusion's line says, and that it is one line
pub record EndLine (names : List (List ℕ)) (c : Conclusion) : Type 0 where
  pub says : IsLine sections.Conclusion names (words (line_text (codes "conclusion" ∷ conclusion_words names c))) (lines.Conclusion c) names
  pub one : (parted (line_text (codes "conclusion" ∷ conclusion_words names c))).others ≡ []

pub end_back : (names : List (List ℕ)) (c : Conclusion) → IsTable names → IsConclusionWritable (length names) c → EndLine names c
unfolding conclusion_of conclusion_literals
end_back names c t h =
    let b = conclusion_back names c t h in
    let ws = conclusion_words names c in
    let tok : IsToken (codes "conclusion") = plain_token (codes "conclusion") refl (omega arith) in
    let e : words (line_text (codes "conclusion" ∷ ws)) ≡ codes "conclusion" ∷ ws = line_words (codes "conclusion") ws tok b.tokens refl in
    record {
      says = subst (λ x. IsLine sections.Conclusion names x (lines.Conclusion c) names) (sym e) (record {
        names = sym b.known ∙ ap (λ u. names_in names (literals_said u)) (sym b.open_words);
        few = t.numbered;
        says = ap (λ u. option_map (λ x. lines.Conclusion x) (conclusion_said names u)) b.open_words ∙ ap (λ o. option_map (λ x. lines.Conclusion x) o) b.says;
        proper = tt;
        small = subst (λ u. AreSmall (drop 1 u)) (sym b.open_words) b.small;
      });
      one = line_alone (codes "conclusion") ws tok b.tokens;
    }
