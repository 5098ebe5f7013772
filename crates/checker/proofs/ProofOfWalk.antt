-- A walk that comes to the end has read a legal proof: what is left of a proof is gathered section by
-- section, from the last position back to the first.
use Rattle.std.proofs.Common.{◌≡◌, ℕ, pos, inl, inr, Option, Some, None, List, [], ◌∷◌, ◌++◌, refl, sym, ap, subst, ◌∙◌}
use Rattle.linear.specs.Opb.{Opb}
use Rattle.kernel.specs.Accepted.{Judgement}
use Rattle.proof_rules.specs.Forms.{problem_ids}
use Rattle.proof_rules.specs.Justified.{IsJustified}
use Rattle.proof_rules.specs.Legal.{Leads}
use Rattle.proof_rules.specs.State.{State, IsStart}
use Rattle.proof_steps.specs.declared.step.Step.{Step}
use Rattle.proof_lines.specs.Lines.{Numbered, lines_of}
use Rattle.proof_text.specs.ProofSpells.{AreSteps}
use Rattle.proof_text.specs.Sections.{HasSteps, behind_step, section_behind}
use Rattle.proof_text.specs.Spells.{IsLine}
use Rattle.proof_text.specs.Words.{words}
use Rattle.proof_text.specs.declared.line.Line.{Line}
use Rattle.proof_text.specs.declared.line.Line.TheVariants as lines
use Rattle.proof_text.specs.declared.line.Section.{Section}
use Rattle.proof_text.specs.declared.line.Section.TheVariants as sections
use Rattle.checker.specs.Verdicts.{IsProved}
use Rattle.checker.specs.Walk.{Accepts, Advances, IsOver, Next, Position, Reaches, Walks, beginning}
use Rattle.checker.proofs.Sections.{Says, says, no_steps, steps_behind, steps_there}

-- what is left of a proof at its end line
record FromEnd (left : List Numbered) (at : Position) : Type 0 where
  ended : Numbered
  in_order : left ≡ ended ∷ []
  end_is : IsLine sections.End at.names (words ended.text) lines.End at.names

-- from its conclusion on
record FromConclusion (p : Opb) (a : Judgement) (left : List Numbered) (at : Position) : Type 0 where
  concluded : Numbered
  ended : Numbered
  all : List (List ℕ)
  in_order : left ≡ concluded ∷ ended ∷ []
  conclusion_is : IsLine sections.Conclusion at.names (words concluded.text) (lines.Conclusion a.conclusion) all
  end_is : IsLine sections.End all (words ended.text) lines.End all
  justified : IsJustified p at.state a.conclusion a.best

-- from among its steps on, this section of steps being due
record FromSteps (section : Section) (p : Opb) (a : Judgement) (left : List Numbered) (at : Position) : Type 0 where
  steps : List Step
  between : List Numbered
  output : Numbered
  named : List (List ℕ)
  behind : Position
  more : List Numbered
  in_order : left ≡ between ++ output ∷ more
  says : AreSteps section at.names between steps named
  output_is : IsLine sections.Step named (words output.text) lines.Output behind.names
  leads : Leads p at.state steps behind.state
  rest : FromConclusion p a more behind

-- from its count on
record FromCount (p : Opb) (a : Judgement) (left : List Numbered) (at : Position) : Type 0 where
  counted : Numbered
  behind : Position
  more : List Numbered
  in_order : left ≡ counted ∷ more
  names_are : behind.names ≡ at.names
  state_is : behind.state ≡ at.state
  count_is : IsLine sections.Count at.names (words counted.text) (lines.Count (pos (problem_ids p.constraints))) at.names
  rest : FromSteps sections.Step p a more behind

-- a whole proof
record FromHeader (p : Opb) (a : Judgement) (left : List Numbered) (at : Position) : Type 0 where
  header : Numbered
  behind : Position
  more : List Numbered
  in_order : left ≡ header ∷ more
  names_are : behind.names ≡ at.names
  state_is : behind.state ≡ at.state
  header_is : IsLine sections.Header at.names (words header.text) lines.Header at.names
  rest : FromCount p a more behind

abbrev From : Section → Opb → Judgement → List Numbered → Position → Type 0
From sections.Header p a left at = FromHeader p a left at
From sections.Count p a left at = FromCount p a left at
From sections.Step p a left at = FromSteps sections.Step p a left at
From sections.Block p a left at = FromSteps sections.Block p a left at
From sections.Goal p a left at = FromSteps sections.Goal p a left at
From sections.Conclusion p a left at = FromConclusion p a left at
From sections.End p a left at = (at.concluded ≡ Some a) × FromEnd left at
From sections.After p a left at = (at.concluded ≡ Some a) × (left ≡ [])

-- the line says this, at this section
read_as : (at : Position) (line : Numbered) (n : Next at line) (section : Section) (said : Line) → at.section ≡ section → n.said ≡ said → IsLine section at.names (words line.text) said n.names
read_as at line n section said stands same =
    subst (λ l. IsLine section at.names (words line.text) l n.names) same (subst (λ q. IsLine q at.names (words line.text) n.said n.names) stands n.is)

-- the same where the line brings no names
read_still : (at : Position) (line : Numbered) (n : Next at line) (section : Section) (said : Line) → at.section ≡ section → n.said ≡ said → n.names ≡ at.names → IsLine section at.names (words line.text) said at.names
read_still at line n section said stands same names = subst (λ m. IsLine section at.names (words line.text) said m) names (read_as at line n section said stands same)

accepted_as : (p : Opb) (line : Numbered) (old new : Position) (on : Advances p line old new) (said : Line) → on.next.said ≡ said → Accepts p old said new
accepted_as p line old new on said same = subst (λ l. Accepts p old l new) same on.accepts

-- the section behind a line that says this
behind_as : (p : Opb) (line : Numbered) (old new : Position) (on : Advances p line old new) (section : Section) (said : Line) → old.section ≡ section → on.next.said ≡ said
    → new.section ≡ section_behind section said
behind_as p line old new on section said stands same = on.section ∙ ap (λ q. section_behind q on.next.said) stands ∙ ap (section_behind section) same

some_judgement : (a b : Judgement) → Some a ≡ Some b → a ≡ b
some_judgement a b e = cc

before_after : (p : Opb) (a : Judgement) (l : Numbered) (ls : List Numbered) (old new : Position) → Advances p l old new → old.section ≡ sections.End → From new.section p a ls new → From sections.End p a (l ∷ ls) old
before_after p a l ls old new on stands rest =
    let said : on.next.said ≡ lines.End = says sections.End old.names (words l.text) on.next.said on.next.names (read_as old l on.next sections.End on.next.said stands refl) in
    let stays = accepted_as p l old new on lines.End said in
    let over : From sections.After p a ls new = subst (λ q. From q p a ls new) (behind_as p l old new on sections.End lines.End stands said) rest in
    let is = read_as old l on.next sections.End lines.End stands said in
    (sym stays.concluded ∙ over.0, record { ended = l; in_order = ap (λ ks. l ∷ ks) over.1; end_is = read_still old l on.next sections.End lines.End stands said is.names })

before_end : (p : Opb) (a : Judgement) (l : Numbered) (ls : List Numbered) (old new : Position) → Advances p l old new → old.section ≡ sections.Conclusion → From new.section p a ls new
    → FromConclusion p a (l ∷ ls) old
before_end p a l ls old new on stands rest =
    let said = says sections.Conclusion old.names (words l.text) on.next.said on.next.names (read_as old l on.next sections.Conclusion on.next.said stands refl) in
    let takes = accepted_as p l old new on (lines.Conclusion said.0) said.1 in
    let ending : From sections.End p a ls new = subst (λ q. From q p a ls new) (behind_as p l old new on sections.Conclusion (lines.Conclusion said.0) stands said.1) rest in
    let made : Judgement = record { conclusion = said.0; best = takes.best } in
    let same : made ≡ a = some_judgement made a (sym takes.concluded ∙ ending.0) in
    let is = read_as old l on.next sections.Conclusion (lines.Conclusion said.0) stands said.1 in
    let here : IsLine sections.Conclusion old.names (words l.text) (lines.Conclusion said.0) new.names =
    subst (λ n. IsLine sections.Conclusion old.names (words l.text) (lines.Conclusion said.0) n) (sym on.names) is in
    let end : FromEnd ls new = ending.1 in
    subst (λ b. FromConclusion p b (l ∷ ls) old) same
    (record {
      concluded = l;
      ended = end.ended;
      all = new.names;
      in_order = ap (λ ks. l ∷ ks) end.in_order;
      conclusion_is = here;
      end_is = end.end_is;
      justified = takes.justified;
    })

-- what is left from a section of steps on
from_steps : (section : Section) (p : Opb) (a : Judgement) (left : List Numbered) (at : Position) → HasSteps section → From section p a left at → FromSteps section p a left at
from_steps sections.Step p a left at here from = from
from_steps sections.Block p a left at here from = from
from_steps sections.Goal p a left at here from = from
from_steps sections.Header p a left at here from = absurd (no_steps sections.Header here (λ e. cc) (λ e. cc) (λ e. cc))
from_steps sections.Count p a left at here from = absurd (no_steps sections.Count here (λ e. cc) (λ e. cc) (λ e. cc))
from_steps sections.Conclusion p a left at here from = absurd (no_steps sections.Conclusion here (λ e. cc) (λ e. cc) (λ e. cc))
from_steps sections.End p a left at here from = absurd (no_steps sections.End here (λ e. cc) (λ e. cc) (λ e. cc))
from_steps sections.After p a left at here from = absurd (no_steps sections.After here (λ e. cc) (λ e. cc) (λ e. cc))

before_step : (p : Opb) (a : Judgement) (l : Numbered) (ls : List Numbered) (old new : Position) (section : Section) (step : Step) (on : Advances p l old new) → HasSteps section → old.section ≡ section
    → on.next.said ≡ lines.Step step → From new.section p a ls new → FromSteps section p a (l ∷ ls) old
before_step p a l ls old new section step on here stands said rest =
    let takes = accepted_as p l old new on (lines.Step step) said in
    let next : From (behind_step section step) p a ls new = subst (λ q. From q p a ls new) (behind_as p l old new on section (lines.Step step) stands said) rest in
    let behind : FromSteps (behind_step section step) p a ls new = from_steps (behind_step section step) p a ls new (steps_behind section step here) next in
    let is = read_as old l on.next section (lines.Step step) stands said in
    record {
      steps = step ∷ behind.steps;
      between = l ∷ behind.between;
      output = behind.output;
      named = behind.named;
      behind = behind.behind;
      more = behind.more;
      in_order = ap (λ ks. l ∷ ks) behind.in_order;
      says = (new.names, subst (λ n. IsLine section old.names (words l.text) (lines.Step step) n) (sym on.names) is, behind.says);
      output_is = behind.output_is;
      leads = (new.state, takes.legal, behind.leads);
      rest = behind.rest;
    }

before_steps : (p : Opb) (a : Judgement) (l : Numbered) (ls : List Numbered) (old new : Position) → Advances p l old new → old.section ≡ sections.Step → From new.section p a ls new
    → FromSteps sections.Step p a (l ∷ ls) old
before_steps p a l ls old new on stands rest =
    by (says sections.Step old.names (words l.text) on.next.said on.next.names (read_as old l on.next sections.Step on.next.said stands refl))
  where
    by : Says sections.Step on.next.said → FromSteps sections.Step p a (l ∷ ls) old
    by (inl said) =
        let stays = accepted_as p l old new on lines.Output said in
        let behind : FromConclusion p a ls new = subst (λ q. From q p a ls new) (behind_as p l old new on sections.Step lines.Output stands said) rest in
        let is = read_as old l on.next sections.Step lines.Output stands said in
        record {
          steps = [];
          between = [];
          output = l;
          named = old.names;
          behind = new;
          more = ls;
          in_order = refl;
          says = (refl, refl);
          output_is = subst (λ n. IsLine sections.Step old.names (words l.text) lines.Output n) (sym on.names) is;
          leads = stays.state;
          rest = behind;
        }
    by (inr said) = before_step p a l ls old new sections.Step said.0 on (inl refl) stands said.1 rest

before_count : (p : Opb) (a : Judgement) (l : Numbered) (ls : List Numbered) (old new : Position) → Advances p l old new → old.section ≡ sections.Count → From new.section p a ls new
    → FromCount p a (l ∷ ls) old
before_count p a l ls old new on stands rest =
    let said = says sections.Count old.names (words l.text) on.next.said on.next.names (read_as old l on.next sections.Count on.next.said stands refl) in
    let takes = accepted_as p l old new on (lines.Count said.0) said.1 in
    let is = read_as old l on.next sections.Count (lines.Count said.0) stands said.1 in
    let still = read_still old l on.next sections.Count (lines.Count said.0) stands said.1 is.names in
    record {
      counted = l;
      behind = new;
      more = ls;
      in_order = refl;
      names_are = on.names ∙ is.names;
      state_is = takes.1.state;
      count_is = subst (λ n. IsLine sections.Count old.names (words l.text) (lines.Count n) old.names) takes.0 still;
      rest = subst (λ q. From q p a ls new) (behind_as p l old new on sections.Count (lines.Count said.0) stands said.1) rest;
    }

before_header : (p : Opb) (a : Judgement) (l : Numbered) (ls : List Numbered) (old new : Position) → Advances p l old new → old.section ≡ sections.Header → From new.section p a ls new
    → FromHeader p a (l ∷ ls) old
before_header p a l ls old new on stands rest =
    let said = says sections.Header old.names (words l.text) on.next.said on.next.names (read_as old l on.next sections.Header on.next.said stands refl) in
    let stays = accepted_as p l old new on lines.Header said in
    let is = read_as old l on.next sections.Header lines.Header stands said in
    record {
      header = l;
      behind = new;
      more = ls;
      in_order = refl;
      names_are = on.names ∙ is.names;
      state_is = stays.state;
      header_is = read_still old l on.next sections.Header lines.Header stands said is.names;
      rest = subst (λ q. From q p a ls new) (behind_as p l old new on sections.Header lines.Header stands said) rest;
    }

-- one line back
before : (p : Opb) (a : Judgement) (l : Numbered) (ls : List Numbered) (old new : Position) (section : Section) → old.section ≡ section → Advances p l old new → From new.section p a ls new
    → From section p a (l ∷ ls) old
before p a l ls old new sections.Header stands on rest = before_header p a l ls old new on stands rest
before p a l ls old new sections.Count stands on rest = before_count p a l ls old new on stands rest
before p a l ls old new sections.Step stands on rest = before_steps p a l ls old new on stands rest
before p a l ls old new sections.Block stands on rest =
    let said = says sections.Block old.names (words l.text) on.next.said on.next.names (read_as old l on.next sections.Block on.next.said stands refl) in
    before_step p a l ls old new sections.Block said.0 on (inr (inl refl)) stands said.1 rest
before p a l ls old new sections.Goal stands on rest =
    let said = says sections.Goal old.names (words l.text) on.next.said on.next.names (read_as old l on.next sections.Goal on.next.said stands refl) in
    before_step p a l ls old new sections.Goal said.0 on (inr (inr refl)) stands said.1 rest
before p a l ls old new sections.Conclusion stands on rest = before_end p a l ls old new on stands rest
before p a l ls old new sections.End stands on rest = before_after p a l ls old new on stands rest
before p a l ls old new sections.After stands on rest =
    absurd (says sections.After old.names (words l.text) on.next.said on.next.names (read_as old l on.next sections.After on.next.said stands refl))

-- all the way back
gathered : (p : Opb) (a : Judgement) (at end : Position) (read : List Numbered) → Walks p at read end → IsOver end → end.concluded ≡ Some a → From at.section p a read at
gathered p a at end [] walks over concluded =
    subst (λ (x : Position). From x.section p a [] x) walks (subst (λ q. From q p a [] end) (sym over) (concluded, refl))
gathered p a at end (l ∷ ls) walks over concluded = before p a l ls at walks.0 at.section refl walks.1 (gathered p a walks.0 end ls walks.2 over concluded)

-- what a whole walk proves
proved_by : (p : Opb) (proof : List ℕ) (a : Judgement) (start : State) → IsStart p start → FromHeader p a (lines_of proof).lines (beginning p start) → IsProved p proof a
proved_by p proof a start starts whole =
    let counting : FromCount p a whole.more whole.behind = whole.rest in
    let stepping : FromSteps sections.Step p a counting.more counting.behind = counting.rest in
    let concluding : FromConclusion p a stepping.more stepping.behind = stepping.rest in
    let names : counting.behind.names ≡ p.names = counting.names_are ∙ whole.names_are in
    let state : counting.behind.state ≡ start = counting.state_is ∙ whole.state_is in
    record {
      steps = stepping.steps;
      spelled = record {
        header = whole.header;
        counted = counting.counted;
        output = stepping.output;
        concluded = concluding.concluded;
        ended = concluding.ended;
        between = stepping.between;
        in_order = whole.in_order ∙ ap (λ ls. whole.header ∷ ls) (counting.in_order ∙ ap (λ ls. counting.counted ∷ ls)
            (stepping.in_order ∙ ap (λ ls. stepping.between ++ stepping.output ∷ ls) concluding.in_order));
        named = stepping.named;
        after = stepping.behind.names;
        all = concluding.all;
        header_is = whole.header_is;
        count_is = subst (λ n. IsLine sections.Count n (words counting.counted.text) (lines.Count (pos (problem_ids p.constraints))) n) whole.names_are counting.count_is;
        steps_are = subst (λ n. AreSteps sections.Step n stepping.between stepping.steps stepping.named) names stepping.says;
        output_is = stepping.output_is;
        conclusion_is = concluding.conclusion_is;
        end_is = concluding.end_is;
      };
      legal = record {
        start = start;
        end = stepping.behind.state;
        starts = starts;
        leads = subst (λ s. Leads p s stepping.steps stepping.behind.state) state stepping.leads;
        justified = concluding.justified;
      };
    }

-- where judging all lines comes to the end, the proof is one
pub proved_at_end : (p : Opb) (proof : List ℕ) (at : Position) (a : Judgement) → Reaches p (lines_of proof).lines at → IsOver at → at.concluded ≡ Some a → IsProved p proof a
proved_at_end p proof at a reached over concluded =
    proved_by p proof a reached.start reached.starts (gathered p a (beginning p reached.start) at (lines_of proof).lines reached.walks over concluded)

-- something was concluded where the end line is due, and behind it
abbrev Settled : Section → Option Judgement → Type 0
Settled sections.End concluded = (a : Judgement) × (concluded ≡ Some a)
Settled sections.After concluded = (a : Judgement) × (concluded ≡ Some a)
Settled _ concluded = Unit {0}

-- the end line stands at the end's section
ends_there : (section : Section) → Says section lines.End → section ≡ sections.End
ends_there sections.Header e = cc
ends_there sections.Count e = let no_count = e.1 in cc
ends_there sections.Step (inl e) = cc
ends_there sections.Step (inr e) = let no_step = e.1 in cc
ends_there sections.Conclusion e = let no_conclusion = e.1 in cc
ends_there sections.Block e = let no_step = e.1 in cc
ends_there sections.Goal e = let no_step = e.1 in cc
ends_there sections.End e = refl
ends_there sections.After e = absurd e

-- nothing need be concluded where a step is due
settled_steps : (section : Section) (concluded : Option Judgement) → HasSteps section → Settled section concluded
settled_steps section concluded (inl is) = subst (λ q. Settled q concluded) (sym is) tt
settled_steps section concluded (inr (inl is)) = subst (λ q. Settled q concluded) (sym is) tt
settled_steps section concluded (inr (inr is)) = subst (λ q. Settled q concluded) (sym is) tt

settled_behind : (p : Opb) (old new : Position) (said : Line) → new.section ≡ section_behind old.section said → Accepts p old said new → Says old.section said → Settled old.section old.concluded
    → Settled new.section new.concluded
settled_behind p old new lines.Header section stays there settled = subst (λ q. Settled q new.concluded) (sym section) tt
settled_behind p old new (lines.Count n) section stays there settled = subst (λ q. Settled q new.concluded) (sym section) tt
settled_behind p old new (lines.Step step) section takes there settled =
    subst (λ q. Settled q new.concluded) (sym section) (settled_steps (behind_step old.section step) new.concluded (steps_behind old.section step (steps_there old.section step there)))
settled_behind p old new lines.Output section stays there settled = subst (λ q. Settled q new.concluded) (sym section) tt
settled_behind p old new (lines.Conclusion c) section takes there settled = subst (λ q. Settled q new.concluded) (sym section) (record { conclusion = c; best = takes.best }, takes.concluded)
settled_behind p old new lines.End section stays there settled =
    let before : Settled sections.End old.concluded = subst (λ q. Settled q old.concluded) (ends_there old.section there) settled in
    subst (λ q. Settled q new.concluded) (sym section) (before.0, stays.concluded ∙ before.1)

settled_next : (p : Opb) (line : Numbered) (old new : Position) → Advances p line old new → Settled old.section old.concluded → Settled new.section new.concluded
settled_next p line old new on settled =
    settled_behind p old new on.next.said on.section on.accepts (says old.section old.names (words line.text) on.next.said on.next.names on.next.is) settled

settled_along : (p : Opb) (at end : Position) (read : List Numbered) → Walks p at read end → Settled at.section at.concluded → Settled end.section end.concluded
settled_along p at end [] walks settled = subst (λ (x : Position). Settled x.section x.concluded) (sym walks) settled
settled_along p at end (l ∷ ls) walks settled = settled_along p walks.0 end ls walks.2 (settled_next p l at walks.0 walks.1 settled)

-- behind the end something was concluded
pub concluded_at_end : (p : Opb) (read : List Numbered) (at : Position) → Reaches p read at → at.section ≡ sections.After → (a : Judgement) × (at.concluded ≡ Some a)
concluded_at_end p read at reached stands =
    let settled = settled_along p (beginning p reached.start) at read reached.walks tt in
    subst (λ q. Settled q at.concluded) stands settled

pub none_concluded : (concluded : Option Judgement) (a : Judgement) → concluded ≡ None → concluded ≡ Some a → ⊥
none_concluded concluded a none some = cc
