-- A legal proof is a walk that comes to the end.
use Rattle.std.proofs.Common.{ℕ, pos, Option, Some, None, List, [], ◌∷◌, ◌++◌, refl, subst, sym}
use Rattle.linear.specs.Opb.{Opb}
use Rattle.kernel.specs.Accepted.{Judgement}
use Rattle.proof_rules.specs.Forms.{problem_ids}
use Rattle.proof_rules.specs.Justified.{IsJustified}
use Rattle.proof_rules.specs.Legal.{Leads}
use Rattle.proof_rules.specs.State.{State}
use Rattle.proof_steps.specs.declared.step.Step.{Step}
use Rattle.proof_lines.specs.Lines.{Numbered, lines_of}
use Rattle.proof_text.specs.ProofSpells.{AreSteps}
use Rattle.proof_text.specs.Sections.{behind_step}
use Rattle.proof_text.specs.Spells.{IsLine}
use Rattle.proof_text.specs.Words.{words}
use Rattle.proof_text.specs.declared.line.Line.TheVariants as lines
use Rattle.proof_text.specs.declared.line.Section.{Section}
use Rattle.proof_text.specs.declared.line.Section.TheVariants as sections
use Rattle.checker.specs.Verdicts.{IsProved}
use Rattle.checker.specs.Walk.{Advances, IsOver, Position, Reaches, Walks, beginning}

-- the walk over these lines comes to the end from here
record Ends (p : Opb) (lines : List Numbered) (at : Position) : Type 0 where
  end : Position
  walks : Walks p at lines end
  over : IsOver end

ahead : (p : Opb) (line : Numbered) (more : List Numbered) (old new : Position) → Advances p line old new → Ends p more new → Ends p (line ∷ more) old
ahead p line more old new on rest = record { end = rest.end; walks = (new, on, rest.walks); over = rest.over }

abbrev position : Section → List (List ℕ) → State → Option Judgement → Position
position section names state concluded = record { section = section; names = names; state = state; concluded = concluded }

from_after : (p : Opb) (names : List (List ℕ)) (s : State) (concluded : Option Judgement) → Ends p [] (position sections.After names s concluded)
from_after p names s concluded = record { end = position sections.After names s concluded; walks = refl; over = refl }

from_end : (p : Opb) (names all : List (List ℕ)) (l : Numbered) (s : State) (concluded : Option Judgement) → IsLine sections.End names (words l.text) lines.End all → Ends p (l ∷ []) (position sections.End names s concluded)
from_end p names all l s concluded is =
    let on : Advances p l (position sections.End names s concluded) (position sections.After all s concluded) = record {
      next = record { said = lines.End; names = all; is = is };
      section = refl;
      names = refl;
      accepts = record { state = refl; concluded = refl };
    } in
    ahead p l [] (position sections.End names s concluded) (position sections.After all s concluded) on (from_after p all s concluded)

from_conclusion : (p : Opb) (a : Judgement) (names all last : List (List ℕ)) (l end : Numbered) (s : State) → IsLine sections.Conclusion names (words l.text) (lines.Conclusion a.conclusion) all
    → IsLine sections.End all (words end.text) lines.End last → IsJustified p s a.conclusion a.best → Ends p (l ∷ end ∷ []) (position sections.Conclusion names s None)
from_conclusion p a names all last l end s is ended justified =
    let old : Position = position sections.Conclusion names s None in
    let new : Position = position sections.End all s (Some a) in
    let on : Advances p l old new = record {
      next = record { said = lines.Conclusion a.conclusion; names = all; is = is };
      section = refl;
      names = refl;
      accepts = record { best = a.best; justified = justified; state = refl; concluded = refl };
    } in
    ahead p l (end ∷ []) old new on (from_end p all last end s (Some a) ended)

from_output : (p : Opb) (a : Judgement) (names after all last : List (List ℕ)) (output l end : Numbered) (s : State) → IsLine sections.Step names (words output.text) lines.Output after
    → IsLine sections.Conclusion after (words l.text) (lines.Conclusion a.conclusion) all → IsLine sections.End all (words end.text) lines.End last → IsJustified p s a.conclusion a.best
    → Ends p (output ∷ l ∷ end ∷ []) (position sections.Step names s None)
from_output p a names after all last output l end s put is ended justified =
    let old : Position = position sections.Step names s None in
    let new : Position = position sections.Conclusion after s None in
    let on : Advances p output old new = record {
      next = record { said = lines.Output; names = after; is = put };
      section = refl;
      names = refl;
      accepts = record { state = refl; concluded = refl };
    } in
    ahead p output (l ∷ end ∷ []) old new on (from_conclusion p a after all last l end s is ended justified)

-- among the steps: what stands behind them comes to the end from the state to which they lead
from_steps : (p : Opb) (s t : State) (section : Section) (names named : List (List ℕ)) (between behind : List Numbered) (steps : List Step) → AreSteps section names between steps named → Leads p s steps t
    → Ends p behind (position sections.Step named t None) → Ends p (between ++ behind) (position section names s None)
from_steps p s t section names named [] behind [] says leads rest =
    let there : Ends p behind (position sections.Step named s None) = subst (λ u. Ends p behind (position sections.Step named u None)) leads rest in
    let before : Ends p behind (position sections.Step names s None) = subst (λ n. Ends p behind (position sections.Step n s None)) says.1 there in
    subst (λ q. Ends p behind (position q names s None)) (sym says.0) before
from_steps p s t section names named [] behind (x ∷ xs) says leads rest = absurd says
from_steps p s t section names named (b ∷ bs) behind [] says leads rest = absurd says
from_steps p s t section names named (b ∷ bs) behind (x ∷ xs) says leads rest =
    let old : Position = position section names s None in
    let new : Position = position (behind_step section x) says.0 leads.0 None in
    let on : Advances p b old new = record {
      next = record { said = lines.Step x; names = says.0; is = says.1 };
      section = refl;
      names = refl;
      accepts = record { legal = leads.1; concluded = refl };
    } in
    ahead p b (bs ++ behind) old new on (from_steps p leads.0 t (behind_step section x) says.0 named bs behind xs says.2 leads.2 rest)

-- the walk of a proof
pub walk_of : (p : Opb) (proof : List ℕ) (a : Judgement) (proved : IsProved p proof a) → (end : Position) × Reaches p (lines_of proof).lines end × IsOver end
walk_of p proof a proved =
    let sp = proved.spelled in
    let s : State = proved.legal.start in
    let t : State = proved.legal.end in
    let behind : List Numbered = sp.output ∷ sp.concluded ∷ sp.ended ∷ [] in
    let first : Position = beginning p s in
    let second : Position = position sections.Count p.names s None in
    let third : Position = position sections.Step p.names s None in
    let at_output : Ends p behind (position sections.Step sp.named t None) =
    from_output p a sp.named sp.after sp.all sp.all sp.output sp.concluded sp.ended t sp.output_is sp.conclusion_is sp.end_is proved.legal.justified in
    let at_steps : Ends p (sp.between ++ behind) third = from_steps p s t sections.Step p.names sp.named sp.between behind proved.steps sp.steps_are proved.legal.leads at_output in
    let counted : Advances p sp.counted second third = record {
      next = record { said = lines.Count (pos (problem_ids p.constraints)); names = p.names; is = sp.count_is };
      section = refl;
      names = refl;
      accepts = (refl, record { state = refl; concluded = refl });
    } in
    let begun : Advances p sp.header first second = record {
      next = record { said = lines.Header; names = p.names; is = sp.header_is };
      section = refl;
      names = refl;
      accepts = record { state = refl; concluded = refl };
    } in
    let rest : Ends p (sp.counted ∷ (sp.between ++ behind)) second = ahead p sp.counted (sp.between ++ behind) second third counted at_steps in
    let whole : Ends p (sp.header ∷ sp.counted ∷ (sp.between ++ behind)) first = ahead p sp.header (sp.counted ∷ (sp.between ++ behind)) first second begun rest in
    let walks : Walks p first (lines_of proof).lines whole.end = subst (λ ls. Walks p first ls whole.end) (sym sp.in_order) whole.walks in
    (whole.end, record { start = s; starts = proved.legal.starts; walks = walks }, whole.over)
