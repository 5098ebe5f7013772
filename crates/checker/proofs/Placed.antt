-- What stands in the wrong place of a text is no line of it, so no step is judged where a block has to be open and is not, nor the other
-- way round: the section that is due says what the state has open.
use Rattle.std.proofs.Common.{◌≡◌, ◌⊎◌, inl, inr, ℕ, ℤ, Option, Some, None, List, [], ◌∷◌, refl, sym, ap, subst, ◌∙◌}
use Rattle.linear.specs.Opb.{Opb}
use Rattle.linear.specs.declared.constraint.Signed.{Signed}
use Rattle.linear.specs.declared.term.Lit.{Lit}
use Rattle.linear.specs.declared.term.Term.{Term}
use Rattle.proof_rules.specs.Block.{EndsOpen, LegalEnd, LegalGoal, LegalRedBegin, new_block, with_goal}
use Rattle.proof_rules.specs.Expression.{Given}
use Rattle.proof_rules.specs.Fault.{IsBoundsFault, IsConclusionFault, IsEndFault, IsHintFault, IsItemFault, IsLowerFault, IsPolFault, IsRedFault, IsStepFault, IsUnjustified}
use Rattle.proof_rules.specs.Legal.{Legal, LegalDel, LegalPol, LegalRed, LegalRup, LegalSol, LegalSoli, without}
use Rattle.proof_rules.specs.State.{State, Block, constraint_of, id_of}
use Rattle.proof_rules.specs.declared.fault.StepFault.{StepFault}
use Rattle.proof_rules.specs.declared.fault.StepFault.TheVariants as faults
use Rattle.proof_steps.specs.declared.conclusion.Conclusion.{Conclusion}
use Rattle.proof_steps.specs.declared.conclusion.Conclusion.TheVariants as conclusions
use Rattle.proof_steps.specs.declared.conclusion.Lower.{Lower}
use Rattle.proof_steps.specs.declared.conclusion.Lower.TheVariants as lowers
use Rattle.proof_steps.specs.declared.conclusion.Upper.{Upper}
use Rattle.proof_steps.specs.declared.step.GoalName.{GoalName}
use Rattle.proof_steps.specs.declared.step.GoalName.TheVariants as goals
use Rattle.proof_steps.specs.declared.step.Item.{Item}
use Rattle.proof_steps.specs.declared.step.Item.TheVariants as items
use Rattle.proof_steps.specs.declared.step.Step.{Step}
use Rattle.proof_steps.specs.declared.step.Step.TheVariants as steps
use Rattle.proof_text.proofs.Placed.{placed}
use Rattle.proof_lines.specs.Lines.{Numbered, lines_of}
use Rattle.proof_text.specs.Sections.{LineStands, StepStands, behind_step, section_behind}
use Rattle.proof_text.specs.Words.{words}
use Rattle.proof_text.specs.declared.fault.ProofFault.{ProofFault}
use Rattle.proof_text.specs.declared.fault.ProofFault.TheVariants as readings
use Rattle.proof_text.specs.declared.line.Line.{Line}
use Rattle.proof_text.specs.declared.line.Line.TheVariants as lines
use Rattle.proof_text.specs.declared.line.Section.{Section}
use Rattle.proof_text.specs.declared.line.Section.TheVariants as sections
use Rattle.checker.specs.Stopped.{IsStopped, LeadsNowhere, Refuses, Stops}
use Rattle.checker.specs.Stopped.{unread, refused}
use Rattle.checker.specs.Walk.{Accepts, Advances, Position, Reaches, Walks, beginning}
use Rattle.checker.specs.declared.verdict.Code.{Code}
use Rattle.checker.specs.declared.verdict.Code.TheVariants.{Reading, Judging}

-- what the section that is due says of the block
abbrev Agrees : Section → Option Block → Type 0
Agrees sections.Block block = (k : Block) × (block ≡ Some k) × (k.goal ≡ None)
Agrees sections.Goal block = (k : Block) × (goal : ℕ) × (block ≡ Some k) × (k.goal ≡ Some goal)
Agrees _ block = block ≡ None

-- the faults that say that a step stands in the wrong place
abbrev IsMisplaced : StepFault → Type 0
IsMisplaced f = (f ≡ faults.BlockOpen) ⊎ (f ≡ faults.NoBlock)

some_block : (k j : Block) → Some k ≡ Some j → k ≡ j
some_block k j e = cc

none_some : (block : Option Block) (k : Block) → block ≡ None → block ≡ Some k → ⊥
none_some block k none some = cc

-- outside blocks none is open
outside : (section : Section) (block : Option Block) → section ≡ sections.Step → Agrees section block → block ≡ None
outside section block is agrees = subst (λ q. Agrees q block) is agrees

-- what is open where a goal may be opened, and where something may end
opened : (section : Section) (block : Option Block) → section ≡ sections.Block → Agrees section block → (k : Block) × (block ≡ Some k) × (k.goal ≡ None)
opened section block is agrees = subst (λ q. Agrees q block) is agrees

opened_goal : (section : Section) (block : Option Block) → section ≡ sections.Goal → Agrees section block → (k : Block) × (goal : ℕ) × (block ≡ Some k) × (k.goal ≡ Some goal)
opened_goal section block is agrees = subst (λ q. Agrees q block) is agrees

ends_something : (section : Section) (block : Option Block) → (section ≡ sections.Block) ⊎ (section ≡ sections.Goal) → Agrees section block → block ≡ None → ⊥
ends_something section block (inl is) agrees none = let open_one = opened section block is agrees in none_some block open_one.0 none open_one.1
ends_something section block (inr is) agrees none = let open_one = opened_goal section block is agrees in none_some block open_one.0 none open_one.2

-- a `pol` line has neither fault
item_open : (given : Given) (i : Item) (stack : _) → IsItemFault given i stack faults.BlockOpen → ⊥
item_open given (items.Id id) stack h = h
item_open given (items.Axiom l) stack h = h
item_open given items.Add stack h = h
item_open given (items.Multiply k) stack h = h
item_open given (items.Divide k) stack h = h
item_open given items.Saturate stack h = h
item_open given (items.Weaken x) stack h = h

item_none : (given : Given) (i : Item) (stack : _) → IsItemFault given i stack faults.NoBlock → ⊥
item_none given (items.Id id) stack h = h
item_none given (items.Axiom l) stack h = h
item_none given items.Add stack h = h
item_none given (items.Multiply k) stack h = h
item_none given (items.Divide k) stack h = h
item_none given items.Saturate stack h = h
item_none given (items.Weaken x) stack h = h

pol_open : (s : State) (written : List Item) → IsPolFault s written faults.BlockOpen → ⊥
pol_open s written (before, i, behind, stack, text, runs, fault) = item_open (constraint_of s) i stack fault

pol_none : (s : State) (written : List Item) → IsPolFault s written faults.NoBlock → ⊥
pol_none s written (before, i, behind, stack, text, runs, fault) = item_none (constraint_of s) i stack fault

-- nor the end of what is open
end_open : (p : Opb) (s : State) (k : Block) (goal : Option ℕ) → IsEndFault p s k goal faults.BlockOpen → ⊥
end_open p s k (Some goal) h = h
end_open p s k None h = h.1

red_none : (p : Opb) (s : State) (c : Signed) (images : _) → IsRedFault p s c images faults.NoBlock → ⊥
red_none p s c images (inl h) = h
red_none p s c images (inr (n, m, admitted, room, negated, h)) = h

-- no step that stands where it may finds a block open that may not be
never_open : (p : Opb) (s : State) (step : Step) (section : Section) → StepStands section step → Agrees section s.block → IsStepFault p s step faults.BlockOpen → ⊥
never_open p s (steps.Pol written) section stands agrees h = pol_open s written h
never_open p s (steps.Rup c) section stands agrees h = h
never_open p s (steps.Red c images) section stands agrees h = h (outside section s.block stands agrees)
never_open p s (steps.Sol assigned) section stands agrees h = h (outside section s.block stands agrees)
never_open p s (steps.Soli assigned) section stands agrees h = h (outside section s.block stands agrees)
never_open p s (steps.Del ids) section stands agrees h = h (outside section s.block stands agrees)
never_open p s (steps.RedBegin c images) section stands agrees h = h (outside section s.block stands agrees)
never_open p s (steps.Goal name) section stands agrees (k, is, h) =
    let here = opened section s.block stands agrees in
    let same : k ≡ here.0 = some_block k here.0 (sym is ∙ here.1) in
    h (ap (λ (b : Block). b.goal) same ∙ here.2)
never_open p s steps.End section stands agrees (k, is, h) = end_open p s k k.goal h

-- nor misses one that has to be
never_none : (p : Opb) (s : State) (step : Step) (section : Section) → StepStands section step → Agrees section s.block → IsStepFault p s step faults.NoBlock → ⊥
never_none p s (steps.Pol written) section stands agrees h = pol_none s written h
never_none p s (steps.Rup c) section stands agrees h = h
never_none p s (steps.Red c images) section stands agrees h = red_none p s c images h.1
never_none p s (steps.Sol assigned) section stands agrees h = h.1
never_none p s (steps.Soli assigned) section stands agrees h = h.1.1
never_none p s (steps.Del ids) section stands agrees h = h.1
never_none p s (steps.RedBegin c images) section stands agrees h = h.1
never_none p s (steps.Goal name) section stands agrees h = let here = opened section s.block stands agrees in none_some s.block here.0 h here.1
never_none p s steps.End section stands agrees h = ends_something section s.block stands agrees h

step_placed : (p : Opb) (s : State) (step : Step) (section : Section) (f : StepFault) → StepStands section step → Agrees section s.block → IsStepFault p s step f → IsMisplaced f → ⊥
step_placed p s step section f stands agrees fault (inl is) = never_open p s step section stands agrees (subst (IsStepFault p s step) is fault)
step_placed p s step section f stands agrees fault (inr is) = never_none p s step section stands agrees (subst (IsStepFault p s step) is fault)

-- nor does a conclusion
hint_none : (p : Opb) (s : State) (hint : Option (List Lit)) → IsHintFault p s hint faults.NoBlock → ⊥
hint_none p s None h = h
hint_none p s (Some assigned) h = h

lower_none : (p : Opb) (s : State) (objective : List Term) (lower : Lower) → IsLowerFault s objective lower faults.NoBlock → ⊥
lower_none p s objective lowers.MinusInf h = h
lower_none p s objective (lowers.At bound) h = h
lower_none p s objective lowers.Inf h = h

bounds_none : (p : Opb) (s : State) (objective : List Term) (lower : Lower) (upper : Upper) → IsBoundsFault p s objective lower upper faults.NoBlock → ⊥
bounds_none p s objective lower upper (inl h) = lower_none p s objective lower h
bounds_none p s objective lower upper (inr h) = h.1

unjustified_none : (p : Opb) (s : State) (c : Conclusion) → IsUnjustified p s c faults.NoBlock → ⊥
unjustified_none p s conclusions.Nothing h = h
unjustified_none p s (conclusions.Sat hint) (inl h) = hint_none p s hint h
unjustified_none p s (conclusions.Sat hint) (inr (taken, h)) = h taken.0 taken.1
unjustified_none p s conclusions.Unsat h = h
unjustified_none p s (conclusions.Bounds lower upper hint) (objective, is, inl h) = hint_none p s hint h
unjustified_none p s (conclusions.Bounds lower upper hint) (objective, is, inr (taken, h)) = bounds_none p taken.0 objective lower upper (h taken.0 taken.1)

conclusion_placed : (p : Opb) (s : State) (c : Conclusion) (f : StepFault) → s.block ≡ None → IsConclusionFault p s c f → IsMisplaced f → ⊥
conclusion_placed p s c f none fault (inl is) = (subst (IsConclusionFault p s c) is fault) none
conclusion_placed p s c f none fault (inr is) = unjustified_none p s c (subst (IsConclusionFault p s c) is fault).1

-- a legal step leaves open what the section behind it says
del_block : (ids : List ℤ) (s t : State) → LegalDel s ids t → t.block ≡ s.block
del_block [] s t is = ap (λ (x : State). x.block) is
del_block (id ∷ ids) s t (some, rest) = del_block ids (without (id_of s.next id) s) t rest

goal_is : (name : GoalName) (next : ℕ) (k : Block) → (with_goal next name k).goal ≡ Some next
goal_is (goals.Live number) next k = refl
goal_is goals.Itself next k = refl
goal_is goals.Objective next k = refl

rup_block : (s t : State) (c : Signed) → LegalRup s c t → t.block ≡ s.block
rup_block s t c (n, admitted, shown, adds) = ap (λ (x : State). x.block) adds.1

pol_block : (s t : State) (written : List Item) → LegalPol s written t → t.block ≡ s.block
pol_block s t written (n, written_so, adds) = ap (λ (x : State). x.block) adds.1

red_block : (p : Opb) (s t : State) (c : Signed) (images : _) → LegalRed p s c images t → t.block ≡ s.block
red_block p s t c images (n, m, admitted, redundant, adds) = ap (λ (x : State). x.block) adds.1

sol_block : (p : Opb) (s t : State) (assigned : List Lit) → LegalSol p s assigned t → t.block ≡ s.block
sol_block p s t assigned (g, logs, is) = ap (λ (x : State). x.block) is

soli_block : (p : Opb) (s t : State) (assigned : List Lit) → LegalSoli p s assigned t → t.block ≡ s.block
soli_block p s t assigned (objective, g, n, improves, is) = ap (λ (x : State). x.block) is

begins_block : (s t : State) (c : Signed) (images : _) → LegalRedBegin s c images t → Agrees sections.Block t.block
begins_block s t c images (n, m, admitted, negated, fits, room, is) = (new_block n images s.next, ap (λ (x : State). x.block) is, refl)

begins_goal : (p : Opb) (s t : State) (name : GoalName) → LegalGoal p s name t → Agrees sections.Goal t.block
begins_goal p s t name (k, r, m, is, none, asks, negated, fits, room, becomes) =
    (with_goal s.next name k, s.next, ap (λ (x : State). x.block) becomes, goal_is name s.next k)

ends_block : (p : Opb) (s t : State) → Agrees sections.Block s.block → LegalEnd p s t → t.block ≡ None
ends_block p s t here (k, is, ends) =
    let same : k ≡ here.0 = some_block k here.0 (sym is ∙ here.1) in
    let none : k.goal ≡ None = ap (λ (b : Block). b.goal) same ∙ here.2 in
    let block : EndsOpen p s k None t = subst (λ o. EndsOpen p s k o t) none ends in
    ap (λ (x : State). x.block) block.becomes

ends_goal : (p : Opb) (s t : State) → Agrees sections.Goal s.block → LegalEnd p s t → Agrees sections.Block t.block
ends_goal p s t here (k, is, ends) =
    let same : k ≡ here.0 = some_block k here.0 (sym is ∙ here.2) in
    let some : k.goal ≡ Some here.1 = ap (λ (b : Block). b.goal) same ∙ here.3 in
    let goal : EndsOpen p s k (Some here.1) t = subst (λ o. EndsOpen p s k o t) some ends in
    (record k { goal = None }, ap (λ (x : State). x.block) goal.1, refl)

ends_there : (p : Opb) (s t : State) (section : Section) → (section ≡ sections.Block) ⊎ (section ≡ sections.Goal) → Agrees section s.block → LegalEnd p s t → Agrees (behind_step section steps.End) t.block
ends_there p s t section (inl is) agrees legal =
    subst (λ q. Agrees (behind_step q steps.End) t.block) (sym is) (ends_block p s t (subst (λ q. Agrees q s.block) is agrees) legal)
ends_there p s t section (inr is) agrees legal =
    subst (λ q. Agrees (behind_step q steps.End) t.block) (sym is) (ends_goal p s t (subst (λ q. Agrees q s.block) is agrees) legal)

agrees_behind : (p : Opb) (s t : State) (step : Step) (section : Section) → StepStands section step → Agrees section s.block → Legal p s step t → Agrees (behind_step section step) t.block
agrees_behind p s t (steps.Pol written) section stands agrees legal = subst (Agrees section) (sym (pol_block s t written legal)) agrees
agrees_behind p s t (steps.Rup c) section stands agrees legal = subst (Agrees section) (sym (rup_block s t c legal)) agrees
agrees_behind p s t (steps.Red c images) section stands agrees legal = subst (Agrees section) (sym (red_block p s t c images legal.1)) agrees
agrees_behind p s t (steps.Sol assigned) section stands agrees legal = subst (Agrees section) (sym (sol_block p s t assigned legal.1)) agrees
agrees_behind p s t (steps.Soli assigned) section stands agrees legal = subst (Agrees section) (sym (soli_block p s t assigned legal.1)) agrees
agrees_behind p s t (steps.Del ids) section stands agrees legal = subst (Agrees section) (sym (del_block ids s t legal.1)) agrees
agrees_behind p s t (steps.RedBegin c images) section stands agrees legal = begins_block s t c images legal.1
agrees_behind p s t (steps.Goal name) section stands agrees legal = begins_goal p s t name legal
agrees_behind p s t steps.End section stands agrees legal = ends_there p s t section stands agrees legal

-- and so does a line
line_agrees : (p : Opb) (old new : Position) (said : Line) → LineStands old.section said → Agrees old.section old.state.block → Accepts p old said new → Agrees (section_behind old.section said) new.state.block
line_agrees p old new lines.Header stands agrees stays =
    ap (λ (x : State). x.block) stays.state ∙ subst (λ q. Agrees q old.state.block) stands agrees
line_agrees p old new (lines.Count count) stands agrees taken =
    ap (λ (x : State). x.block) taken.1.state ∙ subst (λ q. Agrees q old.state.block) stands agrees
line_agrees p old new (lines.Step step) stands agrees takes = agrees_behind p old.state new.state step old.section stands agrees takes.legal
line_agrees p old new lines.Output stands agrees stays =
    ap (λ (x : State). x.block) stays.state ∙ subst (λ q. Agrees q old.state.block) stands agrees
line_agrees p old new (lines.Conclusion c) stands agrees takes =
    ap (λ (x : State). x.block) takes.state ∙ subst (λ q. Agrees q old.state.block) stands agrees
line_agrees p old new lines.End stands agrees stays =
    ap (λ (x : State). x.block) stays.state ∙ subst (λ q. Agrees q old.state.block) stands agrees

one_agrees : (p : Opb) (line : Numbered) (old new : Position) → Advances p line old new → Agrees old.section old.state.block → Agrees new.section new.state.block
one_agrees p line old new on agrees =
    let stands = placed old.section old.names (words line.text) on.next.said on.next.names on.next.is in
    subst (λ q. Agrees q new.state.block) (sym on.section) (line_agrees p old new on.next.said stands agrees on.accepts)

all_agree : (p : Opb) (at end : Position) (read : List Numbered) → Walks p at read end → Agrees at.section at.state.block → Agrees end.section end.state.block
all_agree p at end [] walks agrees = subst (λ (x : Position). Agrees x.section x.state.block) (sym walks) agrees
all_agree p at end (l ∷ ls) walks agrees = all_agree p walks.0 end ls walks.2 (one_agrees p l at walks.0 walks.1 agrees)

reached_agrees : (p : Opb) (read : List Numbered) (at : Position) → Reaches p read at → Agrees at.section at.state.block
reached_agrees p read at reached =
    all_agree p (beginning p reached.start) at read reached.walks (ap (λ (x : State). x.block) reached.starts.2)

-- so where judging stops, it is not for a step in the wrong place
faulty_placed : (f g : StepFault) (code : Code) → code ≡ Judging f → code ≡ Judging g → f ≡ g
faulty_placed f g code x y = cc

read_not_judged : (f : ProofFault) (g : StepFault) (code : Code) → code ≡ Reading f → code ≡ Judging g → ⊥
read_not_judged f g code x y = cc

said_placed : (p : Opb) (at : Position) (said : Line) (code : Code) (g : StepFault) → LineStands at.section said → Agrees at.section at.state.block → Refuses p at.state said code → code ≡ Judging g → IsMisplaced g → ⊥
said_placed p at lines.Header code g stands agrees refuses is misplaced = refuses
said_placed p at (lines.Count count) code g stands agrees refuses is misplaced = read_not_judged readings.BadCount g code refuses.1 is
said_placed p at (lines.Step step) code g stands agrees (f, named, sure, fault) is misplaced =
    step_placed p at.state step at.section g stands agrees (subst (IsStepFault p at.state step) (faulty_placed f g code named is) fault) misplaced
said_placed p at lines.Output code g stands agrees refuses is misplaced = refuses
said_placed p at (lines.Conclusion c) code g stands agrees (f, named, sure, fault) is misplaced =
    conclusion_placed p at.state c g (subst (λ q. Agrees q at.state.block) stands agrees) (subst (IsConclusionFault p at.state c) (faulty_placed f g code named is) fault) misplaced
said_placed p at lines.End code g stands agrees refuses is misplaced = refuses

nowhere_placed : (p : Opb) (at : Position) (line : Numbered) (code : Code) (g : StepFault) → Agrees at.section at.state.block → LeadsNowhere p at line code → code ≡ Judging g → IsMisplaced g → ⊥
nowhere_placed p at line code g agrees (unread why) is misplaced = read_not_judged why.fault g code why.code_is is
nowhere_placed p at line code g agrees (refused why) is misplaced =
    let stands = placed at.section at.names (words line.text) why.next.said why.next.names why.next.is in
    said_placed p at why.next.said code g stands agrees why.refuses is misplaced

stops_placed : (p : Opb) (at : Position) (left : List Numbered) (last line : ℕ) (code : Code) (g : StepFault) → Agrees at.section at.state.block → Stops p at left last line code → code ≡ Judging g → IsMisplaced g → ⊥
stops_placed p at [] last line code g agrees stops is misplaced = read_not_judged readings.Truncated g code stops.code_is is
stops_placed p at (l ∷ ls) last line code g agrees stops is misplaced = nowhere_placed p at l code g agrees stops.1 is misplaced

pub no_misplaced : (p : Opb) (proof : List ℕ) (line : ℕ) (g : StepFault) → IsMisplaced g → IsStopped p proof line (Judging g) → ⊥
no_misplaced p proof line g misplaced stopped =
    let reached = reached_agrees p stopped.read stopped.at stopped.reached in
    stops_placed p stopped.at stopped.left (lines_of proof).last line (Judging g) g reached stopped.stops refl misplaced
