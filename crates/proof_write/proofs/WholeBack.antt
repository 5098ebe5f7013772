-- A whole written proof reads back: its lines are those that were written, and each says what it was made of.
use Rattle.std.proofs.Common.{◌≡◌, ℕ, pos, ◌+◌, ◌==◌, Bool, true, false, if◌then◌else◌, Some, None, List, [], ◌∷◌, ◌++◌, drop, length, refl, sym, ap, subst, ◌∙◌, arith, append_assoc, codes}
use Rattle.std.specs.Prelude.{All, ◌≤◌}
use Rattle.std.specs.List.{flat_map}
use Rattle.std.specs.Option.{option_map}
use Rattle.std.specs.Fmt.{signed_decimal}
use Rattle.std.proofs.lemmas.List.Elements.{All-head, All-tail}
use Rattle.pb_text.specs.Lexeme.{Lexeme, kind_of, kind_of_word, lexemes}
use Rattle.pb_text.specs.Name.{is_name}
use Rattle.pb_text.specs.Number.{largest_number, integer_value}
use Rattle.pb_text.specs.TokensOf.{texts_of}
use Rattle.pb_text.specs.Word.{is_integer as integer_word, is_literal as literal_word, is_misspelt}
use Rattle.linear.specs.Table.{IsTable}
use Rattle.proof_steps.specs.declared.conclusion.Conclusion.{Conclusion}
use Rattle.proof_steps.specs.declared.step.Step.{Step}
use Rattle.proof_text.specs.Conclusions.{conclusion_of}
use Rattle.proof_text.specs.Frame.{count_of, header, output, ending}
use Rattle.proof_text.specs.Kinds.{is_integer, is_semicolon}
use Rattle.proof_lines.specs.Lines.{Numbered, Parted, parted, counts, counting, counting_from}
use Rattle.proof_text.specs.ProofSpells.{AreSteps, SpellsProof}
use Rattle.proof_text.specs.Spells.{IsLine, line_of}
use Rattle.proof_text.specs.Sections.{StepStands, AreNested, behind_step}
use Rattle.proof_text.specs.Steps.{IsProper, step_of}
use Rattle.proof_text.specs.Words.{are_words, unclosed, words, AreSmall}
use Rattle.proof_text.specs.Writable.{IsConclusionWritable, IsStepWritable}
use Rattle.proof_text.specs.declared.line.Line.{Line}
use Rattle.proof_text.specs.declared.line.Line.TheVariants as lines
use Rattle.proof_text.specs.declared.line.Section.{Section}
use Rattle.proof_text.specs.declared.line.Section.TheVariants as sections
use Rattle.proof_text.proofs.LinesOfSections.{output_placed}
use Rattle.proof_lines.proofs.LinesParted.{nothing_left}
use Rattle.proof_text.proofs.WordsByKind.{none_small, all_small, small_other, integer_alone}
use Rattle.proof_write.specs.Whole.{first_lines, step_line, last_lines, whole_text}
use Rattle.proof_write.specs.Writing.{spaced, number_words, step_words, conclusion_words, line_text}
use Rattle.proof_write.proofs.ConclusionsBack.{end_back}
use Rattle.proof_write.proofs.NumeralsBack.{numeral}
use Rattle.proof_write.proofs.StepsBack.{step_back, placed_back}
use Rattle.proof_write.proofs.WordsCut.{AreTokens, IsToken, plain_token, line_words, line_alone}

-- a line with its LF, in front of others: it is the first one, and they are behind it
parted_line : (line rest : List ℕ) → (parted line).others ≡ [] → parted (line ++ 10 ∷ rest) ≡ record { first = line; others = (parted rest).first ∷ (parted rest).others }
parted_line [] rest h = refl
parted_line (b ∷ line) rest h = by (b == 10) h (parted_line line rest)
  where
    put : Bool → Parted → Parted
    put t p = if t then record { first = []; others = p.first ∷ p.others } else record { first = b ∷ p.first; others = p.others }

    by : (t : Bool) → (put t (parted line)).others ≡ [] → ((parted line).others ≡ [] → parted (line ++ 10 ∷ rest) ≡ record { first = line; others = (parted rest).first ∷ (parted rest).others })
        → put t (parted (line ++ 10 ∷ rest)) ≡ record { first = b ∷ line; others = (parted rest).first ∷ (parted rest).others }
    by true h later = cc
    by false h later = ap (put false) (later h)

-- a line in front of others, where it counts
abbrev in_front : Numbered → List Numbered → Bool → List Numbered
in_front line more t = if t then line ∷ more else more

-- one line of a text, which says this at its section and leaves the names as they are
record Says (section : Section) (names : List (List ℕ)) (line : List ℕ) (said : Line) : Type 0 where
  one : (parted line).others ≡ []
  is : IsLine section names (words line) said names

no_words : (section : Section) (names : List (List ℕ)) (said : Line) → line_of section names [] ≡ Some said → ⊥
unfolding step_of conclusion_of
no_words sections.Header names said h = cc
no_words sections.Count names said h = cc
no_words sections.Step names said h = cc
no_words sections.Block names said h = cc
no_words sections.Goal names said h = cc
no_words sections.Conclusion names said h = cc
no_words sections.End names said h = cc
no_words sections.After names said h = cc

some_lexeme : (ts : List Lexeme) (w : List ℕ) (ws : List (List ℕ)) → texts_of ts ≡ w ∷ ws → elim ts [ [] ↦ false | t ∷ rest ↦ true ] ≡ true
some_lexeme [] w ws h = cc
some_lexeme (t ∷ ts) w ws h = refl

with_word : (line w : List ℕ) (ws : List (List ℕ)) → words line ≡ w ∷ ws → counts line ≡ true
unfolding words
with_word line w ws h = some_lexeme (lexemes line) w ws h

-- what says something counts
said_counts : (section : Section) (names : List (List ℕ)) (line : List ℕ) (said : Line) → IsLine section names (words line) said names → counts line ≡ true
said_counts section names line said h = by (words line) refl h
  where
    by : (ws : List (List ℕ)) → words line ≡ ws → IsLine section names ws said names → counts line ≡ true
    by [] e h = absurd (no_words section names said h.says)
    by (w ∷ ws) e h = with_word line w ws e

line_ahead : (number : ℕ) (section : Section) (names : List (List ℕ)) (line rest : List ℕ) (said : Line) → Says section names line said
    → counting_from number (line ++ 10 ∷ rest) ≡ record { number = number; text = line } ∷ counting_from (number + 1) rest
unfolding counting_from
line_ahead number section names line rest said h =
    ap (λ (p : Parted). counting number (p.first ∷ p.others)) (parted_line line rest h.one)
    ∙ ap (in_front (record { number = number; text = line }) (counting (number + 1) ((parted rest).first ∷ (parted rest).others))) (said_counts section names line said h.is)

step_says : (section : Section) (names : List (List ℕ)) (step : Step) → IsTable names → IsStepWritable (length names) step → IsProper step → StepStands section step
    → Says section names (line_text (step_words names step)) (lines.Step step)
step_says section names step t h p stands = record { one = (step_back names step t h p).one; is = placed_back section names step t h p stands }

-- the lines of steps from a section on, and what stands behind them
record Behind (section : Section) (names : List (List ℕ)) (number : ℕ) (steps : List Step) (rest : List ℕ) : Type 0 where
  between : List Numbered
  next : ℕ
  in_order : counting_from number (flat_map (step_line names) steps ++ rest) ≡ between ++ counting_from next rest
  are : AreSteps section names between steps names

steps_ahead : (section : Section) (names : List (List ℕ)) (number : ℕ) (steps : List Step) (rest : List ℕ) → IsTable names → All (IsStepWritable (length names)) steps → All IsProper steps → AreNested section steps
    → Behind section names number steps rest
steps_ahead section names number [] rest t h p n = record { between = []; next = number; in_order = refl; are = (n, refl) }
steps_ahead section names number (step ∷ more) rest t h p n =
    let later = steps_ahead (behind_step section step) names (number + 1) more rest t (All-tail (IsStepWritable (length names)) step more h) (All-tail IsProper step more p) n.1 in
    let line = line_text (step_words names step) in
    let behind = flat_map (step_line names) more in
    let says = step_says section names step t (All-head (IsStepWritable (length names)) step more h) (All-head IsProper step more p) n.0 in
    record {
      between = record { number = number; text = line } ∷ later.between;
      next = later.next;
      in_order =
          ap (counting_from number) (append_assoc (line ++ 10 ∷ []) behind rest ∙ append_assoc line (10 ∷ []) (behind ++ rest))
          ∙ line_ahead number section names line (behind ++ rest) (lines.Step step) says
          ∙ ap (λ ls. record { number = number; text = line } ∷ ls) later.in_order;
      are = (names, says.is, later.are);
    }

-- the fixed lines
abbrev header_line : List ℕ
header_line = codes "pseudo-Boolean proof version 2.0"

abbrev output_line : List ℕ
output_line = codes "output NONE"

abbrev ending_line : List ℕ
ending_line = codes "end pseudo-Boolean proof"

frame_kinds : (is_semicolon (kind_of (codes "2.0")) ≡ false) × (is_semicolon (kind_of (codes "NONE")) ≡ false) × (is_semicolon (kind_of (codes "proof")) ≡ false)
unfolding kind_of kind_of_word integer_word literal_word is_misspelt is_name
frame_kinds = (refl, refl, refl)

header_says : (names : List (List ℕ)) → IsTable names → Says sections.Header names header_line lines.Header
header_says names t =
    let rest : AreTokens (drop 1 header) = (plain_token (codes "proof") refl (omega arith), (plain_token (codes "version") refl (omega arith), (plain_token (codes "2.0") refl (omega arith), tt))) in
    let first : IsToken (codes "pseudo-Boolean") = plain_token (codes "pseudo-Boolean") refl (omega arith) in
    let e : words header_line ≡ header = line_words (codes "pseudo-Boolean") (drop 1 header) first rest refl in
    record {
      one = line_alone (codes "pseudo-Boolean") (drop 1 header) first rest;
      is = subst (λ ws. IsLine sections.Header names ws lines.Header names) (sym e) (record {
        names = refl;
        few = t.numbered;
        says = ap (λ b. if are_words header (codes "pseudo-Boolean" ∷ codes "proof" ∷ codes "version" ∷ (if b then [] else codes "2.0" ∷ [])) then Some lines.Header else None) frame_kinds.0;
        proper = tt;
        small = none_small;
      });
    }

output_says : (names : List (List ℕ)) → IsTable names → Says sections.Step names output_line lines.Output
output_says names t =
    let rest : AreTokens (drop 1 output) = (plain_token (codes "NONE") refl (omega arith), tt) in
    let first : IsToken (codes "output") = plain_token (codes "output") refl (omega arith) in
    let e : words output_line ≡ output = line_words (codes "output") (drop 1 output) first rest refl in
    record {
      one = line_alone (codes "output") (drop 1 output) first rest;
      is = subst (λ ws. IsLine sections.Step names ws lines.Output names) (sym e)
          (output_placed names output refl (ap (λ b. are_words output (codes "output" ∷ (if b then [] else codes "NONE" ∷ []))) frame_kinds.1) t.numbered);
    }

ending_says : (names : List (List ℕ)) → IsTable names → Says sections.End names ending_line lines.End
ending_says names t =
    let rest : AreTokens (drop 1 ending) = (plain_token (codes "pseudo-Boolean") refl (omega arith), (plain_token (codes "proof") refl (omega arith), tt)) in
    let first : IsToken (codes "end") = plain_token (codes "end") refl (omega arith) in
    let e : words ending_line ≡ ending = line_words (codes "end") (drop 1 ending) first rest refl in
    record {
      one = line_alone (codes "end") (drop 1 ending) first rest;
      is = subst (λ ws. IsLine sections.End names ws lines.End names) (sym e) (record {
        names = refl;
        few = t.numbered;
        says = ap (λ b. if are_words ending (codes "end" ∷ codes "pseudo-Boolean" ∷ (if b then [] else codes "proof" ∷ [])) then Some lines.End else None) frame_kinds.2;
        proper = tt;
        small = none_small;
      });
    }

f_kind : is_integer (kind_of (codes "f")) ≡ false
unfolding kind_of kind_of_word integer_word literal_word is_misspelt is_name
f_kind = refl

-- the line of the count
abbrev count_line : ℕ → List ℕ
count_line count = line_text (codes "f" ∷ number_words (pos count))

count_says : (names : List (List ℕ)) (count : ℕ) → IsTable names → count ≤ largest_number → Says sections.Count names (count_line count) (lines.Count (pos count))
count_says names count t h =
    let n = signed_decimal (pos count) in
    let m = numeral (pos count) h in
    let ws : List (List ℕ) = codes "f" ∷ n ∷ [] in
    let first : IsToken (codes "f") = plain_token (codes "f") refl (omega arith) in
    let e : words (count_line count) ≡ ws = line_words (codes "f") (n ∷ []) first (m.token, tt) refl in
    let o : unclosed ws ≡ ws = ap (λ b. codes "f" ∷ (if b then [] else n ∷ [])) (integer_alone (kind_of n) (ap is_integer m.kind)).1 in
    record {
      one = line_alone (codes "f") (n ∷ []) first (m.token, tt);
      is = subst (λ ws. IsLine sections.Count names ws (lines.Count (pos count)) names) (sym e) (record {
        names = refl;
        few = t.numbered;
        says =
            ap (λ us. option_map (λ x. lines.Count x) (count_of us)) o
            ∙ ap (λ k. option_map (λ x. lines.Count x) (if is_integer k then Some (integer_value n) else None)) m.kind
            ∙ ap (λ x. Some (lines.Count x)) m.value;
        proper = tt;
        small = subst AreSmall (sym o) (all_small (codes "f") (n ∷ []) (small_other (codes "f") f_kind) (all_small n [] m.small none_small));
      });
    }

conclusion_says : (names : List (List ℕ)) (c : Conclusion) → IsTable names → IsConclusionWritable (length names) c
    → Says sections.Conclusion names (line_text (codes "conclusion" ∷ conclusion_words names c)) (lines.Conclusion c)
conclusion_says names c t h = let b = end_back names c t h in record { one = b.one; is = b.says }

-- the lines behind the steps, one after another
last_apart : (names : List (List ℕ)) (c : Conclusion)
    → last_lines names c ≡ output_line ++ 10 ∷ (line_text (codes "conclusion" ∷ conclusion_words names c) ++ 10 ∷ (ending_line ++ 10 ∷ []))
last_apart names c = ap (λ t. output_line ++ 10 ∷ t) (sym (append_assoc (codes "conclusion") (spaced (conclusion_words names c)) (codes "\nend pseudo-Boolean proof\n")))

-- the whole, line by line
whole_apart : (names : List (List ℕ)) (count : ℕ) (steps : List Step) (c : Conclusion)
    → whole_text names count steps c ≡ header_line ++ 10 ∷ (count_line count ++ 10 ∷ (flat_map (step_line names) steps ++ last_lines names c))
whole_apart names count steps c =
    append_assoc (first_lines count) (flat_map (step_line names) steps) (last_lines names c)
    ∙ ap (λ t. header_line ++ 10 ∷ t) (append_assoc (count_line count) (10 ∷ []) (flat_map (step_line names) steps ++ last_lines names c))

pub whole_back : (names : List (List ℕ)) (count : ℕ) (steps : List Step) (c : Conclusion) → IsTable names → count ≤ largest_number → All (IsStepWritable (length names)) steps → All IsProper steps
    → AreNested sections.Step steps → IsConclusionWritable (length names) c → SpellsProof (whole_text names count steps c) names (pos count) steps c
whole_back names count steps c t small h p nested w =
    let concluded = line_text (codes "conclusion" ∷ conclusion_words names c) in
    let middle = steps_ahead sections.Step names 3 steps (last_lines names c) t h p nested in
    let n = middle.next in
    let first = header_says names t in
    let counted = count_says names count t small in
    let out = output_says names t in
    let conclusion = conclusion_says names c t w in
    let end = ending_says names t in
    let tail : counting_from n (last_lines names c) ≡ record { number = n; text = output_line } ∷ record { number = n + 1; text = concluded } ∷ record { number = n + 1 + 1; text = ending_line } ∷ [] =
    ap (counting_from n) (last_apart names c)
    ∙ line_ahead n sections.Step names output_line (concluded ++ 10 ∷ (ending_line ++ 10 ∷ [])) lines.Output out
    ∙ ap (λ ls. record { number = n; text = output_line } ∷ ls)
    (line_ahead (n + 1) sections.Conclusion names concluded (ending_line ++ 10 ∷ []) (lines.Conclusion c) conclusion
    ∙ ap (λ ls. record { number = n + 1; text = concluded } ∷ ls)
    (line_ahead (n + 1 + 1) sections.End names ending_line [] lines.End end
    ∙ ap (λ ls. record { number = n + 1 + 1; text = ending_line } ∷ ls) (nothing_left (n + 1 + 1 + 1)))) in
    record {
      header = record { number = 1; text = header_line };
      counted = record { number = 2; text = count_line count };
      output = record { number = n; text = output_line };
      concluded = record { number = n + 1; text = concluded };
      ended = record { number = n + 1 + 1; text = ending_line };
      between = middle.between;
      in_order =
          ap (counting_from 1) (whole_apart names count steps c)
          ∙ line_ahead 1 sections.Header names header_line (count_line count ++ 10 ∷ (flat_map (step_line names) steps ++ last_lines names c)) lines.Header first
          ∙ ap (λ ls. record { number = 1; text = header_line } ∷ ls)
          (line_ahead 2 sections.Count names (count_line count) (flat_map (step_line names) steps ++ last_lines names c) (lines.Count (pos count)) counted
          ∙ ap (λ ls. record { number = 2; text = count_line count } ∷ ls) (middle.in_order ∙ ap (λ ls. middle.between ++ ls) tail));
      named = names;
      after = names;
      all = names;
      header_is = first.is;
      count_is = counted.is;
      steps_are = middle.are;
      output_is = out.is;
      conclusion_is = conclusion.is;
      end_is = end.is;
    }
