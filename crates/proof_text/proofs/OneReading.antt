-- A line, the lines of steps and a whole text have one reading.
use Rattle.std.proofs.Common.{◌≡◌, ℕ, ℤ, Option, Some, List, [], ◌∷◌, ◌++◌, length, length-append, refl, sym, ap, subst, ◌∙◌, arith}
use Rattle.proof_steps.specs.declared.step.Step.{Step}
use Rattle.proof_steps.specs.declared.conclusion.Conclusion.{Conclusion}
use Rattle.proof_text.specs.declared.line.Line.{Line}
use Rattle.proof_text.specs.declared.line.Line.TheVariants as lines
use Rattle.proof_text.specs.declared.line.Section.{Section}
use Rattle.proof_text.specs.declared.line.Section.TheVariants as sections
use Rattle.proof_lines.specs.Lines.{Numbered}
use Rattle.proof_text.specs.Words.{words}
use Rattle.proof_text.specs.Sections.{behind_step}
use Rattle.proof_text.specs.Spells.{line_of, IsLine}
use Rattle.proof_text.specs.ProofSpells.{AreSteps, SpellsProof}

one_value : (x y : Line) → ◌≡◌ {A = Option Line} (Some x) (Some y) → x ≡ y
one_value x y e = cc

pub one_line : (section : Section) (old ws : List (List ℕ)) (x y : Line) (n m : List (List ℕ)) → IsLine section old ws x n → IsLine section old ws y m → (x ≡ y) × (n ≡ m)
one_line section old ws x y n m a b =
    let names : n ≡ m = a.names ∙ sym b.names in
    (one_value x y (sym a.says ∙ ap (λ t. line_of section t ws) names ∙ b.says), names)

one_step : (x y : Step) → lines.Step x ≡ lines.Step y → x ≡ y
one_step x y e = cc

one_number : (x y : ℤ) → lines.Count x ≡ lines.Count y → x ≡ y
one_number x y e = cc

one_conclusion : (x y : Conclusion) → lines.Conclusion x ≡ lines.Conclusion y → x ≡ y
one_conclusion x y e = cc

same_lists : (x y : Step) (xs ys : List Step) → x ≡ y → xs ≡ ys → x ∷ xs ≡ y ∷ ys
same_lists x y xs ys e f = cc

pub one_list_of_steps : (section : Section) (old : List (List ℕ)) (ls : List Numbered) (xs ys : List Step) (n m : List (List ℕ)) → AreSteps section old ls xs n → AreSteps section old ls ys m → (xs ≡ ys) × (n ≡ m)
one_list_of_steps section old [] [] [] n m a b = (refl, a.1 ∙ sym b.1)
one_list_of_steps section old [] [] (y ∷ ys) n m a b = absurd b
one_list_of_steps section old [] (x ∷ xs) ys n m a b = absurd a
one_list_of_steps section old (l ∷ ls) [] ys n m a b = absurd a
one_list_of_steps section old (l ∷ ls) (x ∷ xs) [] n m a b = absurd b
one_list_of_steps section old (l ∷ ls) (x ∷ xs) (y ∷ ys) n m a b =
    let first = one_line section old (words l.text) (lines.Step x) (lines.Step y) a.0 b.0 a.1 b.1 in
    let same : x ≡ y = one_step x y first.0 in
    let again : AreSteps (behind_step section x) b.0 ls ys m = subst (λ s. AreSteps (behind_step section s) b.0 ls ys m) (sym same) b.2 in
    let rest = one_list_of_steps (behind_step section x) a.0 ls xs ys n m a.2 (subst (λ t. AreSteps (behind_step section x) t ls ys m) (sym first.1) again) in
    (same_lists x y xs ys same rest.0, rest.1)

-- two names of one list that ends with three lines
pub one_parting : (xs ys : List Numbered) (a b c d e f : Numbered) → xs ++ a ∷ b ∷ c ∷ [] ≡ ys ++ d ∷ e ∷ f ∷ [] → (xs ≡ ys) × (a ≡ d) × (b ≡ e) × (c ≡ f)
one_parting [] [] a b c d e f h = (refl, cc, cc, cc)
one_parting [] (y ∷ ys) a b c d e f h =
    let count : 3 ≡ length ((y ∷ ys) ++ d ∷ e ∷ f ∷ []) = ap length h in
    absurd (omega (arith, length-append (y ∷ ys) (d ∷ e ∷ f ∷ []), count))
one_parting (x ∷ xs) [] a b c d e f h =
    let count : length ((x ∷ xs) ++ a ∷ b ∷ c ∷ []) ≡ 3 = ap length h in
    absurd (omega (arith, length-append (x ∷ xs) (a ∷ b ∷ c ∷ []), count))
one_parting (x ∷ xs) (y ∷ ys) a b c d e f h =
    let rest = one_parting xs ys a b c d e f (later x y _ _ h) in
    (joined x y xs ys (first x y _ _ h) rest.0, rest.1, rest.2, rest.3)
  where
    first : (x y : Numbered) (xs ys : List Numbered) → x ∷ xs ≡ y ∷ ys → x ≡ y
    first x y xs ys h = cc

    later : (x y : Numbered) (xs ys : List Numbered) → x ∷ xs ≡ y ∷ ys → xs ≡ ys
    later x y xs ys h = cc

    joined : (x y : Numbered) (xs ys : List Numbered) → x ≡ y → xs ≡ ys → x ∷ xs ≡ y ∷ ys
    joined x y xs ys e f = cc

behind_two : (a b c d : Numbered) (xs ys : List Numbered) → a ∷ b ∷ xs ≡ c ∷ d ∷ ys → (b ≡ d) × (xs ≡ ys)
behind_two a b c d xs ys h = (cc, cc)

pub one_proof : (text : List ℕ) (file : List (List ℕ)) (count other : ℤ) (xs ys : List Step) (c d : Conclusion) → SpellsProof text file count xs c → SpellsProof text file other ys d
    → (count ≡ other) × (xs ≡ ys) × (c ≡ d)
one_proof text file count other xs ys c d p q =
    let two = behind_two p.header p.counted q.header q.counted (p.between ++ p.output ∷ p.concluded ∷ p.ended ∷ []) (q.between ++ q.output ∷ q.concluded ∷ q.ended ∷ []) (sym p.in_order ∙ q.in_order) in
    let parts = one_parting p.between q.between p.output p.concluded p.ended q.output q.concluded q.ended two.1 in
    let counted = one_line sections.Count file (words p.counted.text) (lines.Count count) (lines.Count other) file file p.count_is
    (subst (λ (l : Numbered). IsLine sections.Count file (words l.text) (lines.Count other) file) (sym two.0) q.count_is) in
    let steps = one_list_of_steps sections.Step file p.between xs ys p.named q.named p.steps_are (subst (λ ls. AreSteps sections.Step file ls ys q.named) (sym parts.0) q.steps_are) in
    let output = one_line sections.Step p.named (words p.output.text) lines.Output lines.Output p.after q.after p.output_is
    (subst (λ n. IsLine sections.Step n (words p.output.text) lines.Output q.after) (sym steps.1) (subst (λ (l : Numbered). IsLine sections.Step q.named (words l.text) lines.Output q.after) (sym parts.1) q.output_is)) in
    let concluded = one_line sections.Conclusion p.after (words p.concluded.text) (lines.Conclusion c) (lines.Conclusion d) p.all q.all p.conclusion_is
    (subst (λ n. IsLine sections.Conclusion n (words p.concluded.text) (lines.Conclusion d) q.all) (sym output.1)
    (subst (λ (l : Numbered). IsLine sections.Conclusion q.after (words l.text) (lines.Conclusion d) q.all) (sym parts.2) q.conclusion_is)) in
    (one_number count other counted.0, steps.0, one_conclusion c d concluded.0)
