-- There is one walk: lines say one thing, legal steps lead to one state, and what has a fault is not legal. So where a
-- walk stops, none comes to the end, and all walks stop at one position: on one line, and with one code, but for the codes of
-- a line that says nothing.
use Rattle.std.proofs.Common.{◌≡◌, ◌≢◌, ℕ, Option, Some, None, List, [], ◌∷◌, ◌++◌, length, refl, sym, ap, subst, ◌∙◌, arith}
use Rattle.linear.specs.Opb.{Opb}
use Rattle.kernel.specs.Accepted.{Judgement}
use Rattle.proof_rules.specs.State.{State}
use Rattle.proof_rules.proofs.NotLegal.{step_never, conclusion_never}
use Rattle.proof_rules.proofs.OneConclusionFault.{one_conclusion_fault}
use Rattle.proof_rules.proofs.OneStart.{one_start}
use Rattle.proof_rules.proofs.OneStepFault.{one_step_fault}
use Rattle.proof_rules.proofs.OneState.{one_state, one_justified}
use Rattle.proof_text.proofs.OneReading.{one_line}
use Rattle.proof_text.specs.Faults.{DeniesLine, DeniesAt}
use Rattle.proof_lines.specs.Lines.{Numbered, lines_of}
use Rattle.proof_text.specs.Numbering.{names_in}
use Rattle.proof_text.specs.Sections.{section_behind}
use Rattle.proof_text.specs.Spells.{IsLine, line_of, naming}
use Rattle.proof_text.specs.Words.{words}
use Rattle.proof_text.specs.declared.fault.ProofFault.{ProofFault}
use Rattle.proof_text.specs.declared.fault.ProofFault.TheVariants as readings
use Rattle.proof_text.specs.declared.line.Line.{Line}
use Rattle.proof_text.specs.declared.line.Line.TheVariants as lines
use Rattle.proof_text.specs.declared.line.Section.{Section}
use Rattle.proof_text.specs.declared.line.Section.TheVariants as sections
use Rattle.checker.specs.Stopped.{IsLeftOpen, IsRefused, IsStopped, IsUnread, LeadsNowhere, Refuses, Stops}
use Rattle.checker.specs.Stopped.{unread, refused}
use Rattle.checker.specs.Walk.{Accepts, Advances, IsOver, Next, Position, Reaches, Walks, beginning}
use Rattle.checker.specs.declared.verdict.Code.{Code}
use Rattle.checker.specs.declared.verdict.Code.TheVariants.{Reading, Judging}

-- two names of the line that stands next
same_first : (l k : Numbered) (ls ks : List Numbered) → (l ∷ ls) ≡ (k ∷ ks) → (l ≡ k) × (ls ≡ ks)
same_first l k ls ks e = (cc, cc)

none_first : (l : Numbered) (ls : List Numbered) → [] ≡ (l ∷ ls) → ⊥
none_first l ls e = cc

-- there is one reading of a line
pub one_next : (at : Position) (line : Numbered) (a b : Next at line) → (a.said ≡ b.said) × (a.names ≡ b.names)
one_next at line a b = one_line at.section at.names (words line.text) a.said b.said a.names b.names a.is b.is

-- what is accepted leads to one state and one conclusion
one_accepted : (p : Opb) (old a b : Position) (said : Line) → Accepts p old said a → Accepts p old said b → (a.state ≡ b.state) × (a.concluded ≡ b.concluded)
one_accepted p old a b lines.Header x y = (x.state ∙ sym y.state, x.concluded ∙ sym y.concluded)
one_accepted p old a b (lines.Count count) x y = (x.1.state ∙ sym y.1.state, x.1.concluded ∙ sym y.1.concluded)
one_accepted p old a b (lines.Step step) x y = (one_state p old.state a.state b.state step x.legal y.legal, x.concluded ∙ sym y.concluded)
one_accepted p old a b lines.Output x y = (x.state ∙ sym y.state, x.concluded ∙ sym y.concluded)
one_accepted p old a b (lines.Conclusion c) x y =
    let best = one_justified p old.state c x.best y.best x.justified y.justified in
    (x.state ∙ sym y.state, x.concluded ∙ ap (λ g. Some (record { conclusion = c; best = g })) best ∙ sym y.concluded)
one_accepted p old a b lines.End x y = (x.state ∙ sym y.state, x.concluded ∙ sym y.concluded)

same_position : (a b : Position) → a.section ≡ b.section → a.names ≡ b.names → a.state ≡ b.state → a.concluded ≡ b.concluded → a ≡ b
same_position a b section names state concluded =
    ap (λ x. made x a.names a.state a.concluded) section
    ∙ ap (λ x. made b.section x a.state a.concluded) names
    ∙ ap (λ x. made b.section b.names x a.concluded) state
    ∙ ap (λ x. made b.section b.names b.state x) concluded
  where
    made : Section → List (List ℕ) → State → Option Judgement → Position
    made section names state concluded = record { section = section; names = names; state = state; concluded = concluded }

-- there is one next position
pub one_advance : (p : Opb) (line : Numbered) (old a b : Position) → Advances p line old a → Advances p line old b → a ≡ b
one_advance p line old a b x y =
    let same = one_next old line x.next y.next in
    let both = one_accepted p old a b x.next.said x.accepts (subst (λ said. Accepts p old said b) (sym same.0) y.accepts) in
    same_position a b (x.section ∙ ap (section_behind old.section) same.0 ∙ sym y.section) (x.names ∙ same.1 ∙ sym y.names) both.0 both.1

-- what a fault denies is no line
one_denied_never : (f : ProofFault) (section : Section) (old ws : List (List ℕ)) (line : Line) (new : List (List ℕ)) → DeniesAt f section old ws → f ≢ readings.OutOfMemory → IsLine section old ws line new → ⊥
one_denied_never f section old ws line new denies sure is = by f denies sure
  where
    says : line_of section (names_in old (naming section ws)) ws ≡ Some line
    says = ap (λ t. line_of section t ws) (sym is.names) ∙ is.says

    by : (g : ProofFault) → DeniesAt g section old ws → g ≢ readings.OutOfMemory → ⊥
    by readings.UnknownRule d n = d line says is.proper
    by readings.RuleLeftOut d n = d line says is.proper
    by readings.BadLine d n = d line says is.proper
    by readings.IntegerTooLarge d n = d is.small
    by readings.TooManyIds d n = let many = d.2 in let same = ap length is.names in let few = is.few in absurd (omega (arith, many, same, few))
    by readings.OutOfMemory d n = n refl
    by readings.BadHeader d n = absurd d
    by readings.BadCount d n = absurd d
    by readings.Truncated d n = absurd d
    by readings.TextAfterEnd d n = absurd d

denied_never : (f : ProofFault) (section : Section) (old ws : List (List ℕ)) (line : Line) (new : List (List ℕ)) → DeniesLine f section old ws → f ≢ readings.OutOfMemory → IsLine section old ws line new → ⊥
unfolding DeniesLine
denied_never f sections.Header old ws line new d sure is = d.1 line (ap (λ t. line_of sections.Header t ws) (sym is.names) ∙ is.says) is.proper
denied_never f sections.Count old ws line new d sure is = d.1 line (ap (λ t. line_of sections.Count t ws) (sym is.names) ∙ is.says) is.small
denied_never f sections.Step old ws line new d sure is = one_denied_never f sections.Step old ws line new d.1 sure is
denied_never f sections.Block old ws line new d sure is = one_denied_never f sections.Block old ws line new d.1 sure is
denied_never f sections.Goal old ws line new d sure is = one_denied_never f sections.Goal old ws line new d.1 sure is
denied_never f sections.Conclusion old ws line new d sure is = one_denied_never f sections.Conclusion old ws line new d.1 sure is
denied_never f sections.End old ws line new d sure is = d.1 line (ap (λ t. line_of sections.End t ws) (sym is.names) ∙ is.says) is.proper
denied_never f sections.After old ws line new d sure is = let none : ◌≡◌ {A = Option Line} None (Some line) = is.says in cc

-- what is accepted is not refused
refuses_never : (p : Opb) (old new : Position) (said : Line) (code : Code) → Accepts p old said new → Refuses p old.state said code → ⊥
refuses_never p old new lines.Header code a r = absurd r
refuses_never p old new (lines.Count count) code a r = r.0 a.0
refuses_never p old new (lines.Step step) code a r = step_never p old.state step r.0 new.state r.3 a.legal
refuses_never p old new lines.Output code a r = absurd r
refuses_never p old new (lines.Conclusion c) code a r = conclusion_never p old.state c r.0 a.best r.3 a.justified
refuses_never p old new lines.End code a r = absurd r

-- a line that leads on does not lead nowhere
leads_on : (p : Opb) (line : Numbered) (old new : Position) (code : Code) → Advances p line old new → LeadsNowhere p old line code → ⊥
leads_on p line old new code on (unread why) =
    denied_never why.fault old.section old.names (words line.text) on.next.said on.next.names why.denied why.no_memory on.next.is
leads_on p line old new code on (refused why) =
    let same = one_next old line on.next why.next in
    refuses_never p old new on.next.said code on.accepts (subst (λ said. Refuses p old.state said code) (sym same.0) why.refuses)

-- lines that were read and lines that are left, of which one leads on
stops_never : (p : Opb) (old stop new : Position) (l : Numbered) (ls left : List Numbered) (last line : ℕ) (code : Code) → stop ≡ old → left ≡ l ∷ ls → Advances p l old new → Stops p stop left last line code → ⊥
stops_never p old stop new l ls left last line code stands in_order on stops =
    let here : Stops p old (l ∷ ls) last line code = subst (λ q. Stops p q (l ∷ ls) last line code) stands (subst (λ xs. Stops p stop xs last line code) in_order stops) in
    leads_on p l old new code on here.1

-- a walk over all lines that comes to the end, and one that stops
walk_never : (p : Opb) (at end stop : Position) (all read left : List Numbered) (last line : ℕ) (code : Code) → all ≡ read ++ left → Walks p at all end → IsOver end → Walks p at read stop
    → Stops p stop left last line code → ⊥
walk_never p at end stop [] [] [] last line code in_order walks over stopped stops = stops.due (ap (λ (x : Position). x.section) (stopped ∙ sym walks) ∙ over)
walk_never p at end stop [] [] (l ∷ ls) last line code in_order walks over stopped stops = none_first l ls in_order
walk_never p at end stop [] (l ∷ ls) left last line code in_order walks over stopped stops = none_first l (ls ++ left) in_order
walk_never p at end stop (k ∷ ks) [] left last line code in_order walks over stopped stops =
    stops_never p at stop walks.0 k ks left last line code stopped (sym in_order) walks.1 stops
walk_never p at end stop (k ∷ ks) (l ∷ ls) left last line code in_order walks over stopped stops =
    let first = same_first k l ks (ls ++ left) in_order in
    let also = subst (λ m. Advances p m at stopped.0) (sym first.0) stopped.1 in
    let same = one_advance p k at walks.0 stopped.0 walks.1 also in
    walk_never p walks.0 end stop ks ls left last line code first.1 walks.2 over (subst (λ q. Walks p q ls stop) (sym same) stopped.2) stops

-- where judging stops, no walk comes to the end
pub stopped_never : (p : Opb) (proof : List ℕ) (end : Position) (line : ℕ) (code : Code) → Reaches p (lines_of proof).lines end → IsOver end → IsStopped p proof line code → ⊥
stopped_never p proof end line code reached over stopped =
    let same = one_start p reached.start stopped.reached.start reached.starts stopped.reached.starts in
    let walks = subst (λ s. Walks p (beginning p s) (lines_of proof).lines end) same reached.walks in
    walk_never p (beginning p stopped.reached.start) end stopped.at (lines_of proof).lines stopped.read stopped.left (lines_of proof).last line code stopped.in_order walks over stopped.reached.walks stopped.stops

-- at one position judging stops on one line
stop_line : (p : Opb) (at : Position) (left : List Numbered) (last line other : ℕ) (code why : Code) → Stops p at left last line code → Stops p at left last other why → line ≡ other
stop_line p at [] last line other code why x y = x.line_is ∙ sym y.line_is
stop_line p at (l ∷ ls) last line other code why x y = x.0 ∙ sym y.0

-- what is refused has one fault
refused_code : (p : Opb) (s : State) (said : Line) (code why : Code) → Refuses p s said code → Refuses p s said why → why ≡ code
refused_code p s lines.Header code why x y = absurd x
refused_code p s (lines.Count count) code why x y = y.1 ∙ sym x.1
refused_code p s (lines.Step step) code why (g, is, sure, fault) (h, also, certain, other) =
    also ∙ ap Judging (one_step_fault p s step h g other fault) ∙ sym is
refused_code p s lines.Output code why x y = absurd x
refused_code p s (lines.Conclusion c) code why (g, is, sure, fault) (h, also, certain, other) =
    also ∙ ap Judging (one_conclusion_fault p s c h g other fault) ∙ sym is
refused_code p s lines.End code why x y = absurd x

-- where names are too many, the line is something, and its integers are small: no other fault denies it
many_alone : (g : ProofFault) (section : Section) (old ws : List (List ℕ)) → DeniesAt readings.TooManyIds section old ws
    → DeniesAt g section old ws → g ≢ readings.OutOfMemory → g ≡ readings.TooManyIds
many_alone readings.UnknownRule section old ws x y sure = absurd (y x.1.0 x.1.1 x.1.2)
many_alone readings.RuleLeftOut section old ws x y sure = absurd (y x.1.0 x.1.1 x.1.2)
many_alone readings.BadLine section old ws x y sure = absurd (y x.1.0 x.1.1 x.1.2)
many_alone readings.IntegerTooLarge section old ws x y sure = absurd (y x.0)
many_alone readings.TooManyIds section old ws x y sure = refl
many_alone readings.OutOfMemory section old ws x y sure = absurd (sure refl)
many_alone readings.BadHeader section old ws x y sure = absurd y
many_alone readings.BadCount section old ws x y sure = absurd y
many_alone readings.Truncated section old ws x y sure = absurd y
many_alone readings.TextAfterEnd section old ws x y sure = absurd y

-- among the faults of a step, a conclusion or an end, those of a line that says nothing are left open
one_denied_alone : (f g : ProofFault) (section : Section) (old ws : List (List ℕ)) → (IsLeftOpen (Reading f) → ⊥) → DeniesAt f section old ws
    → f ≢ readings.OutOfMemory → DeniesAt g section old ws → g ≢ readings.OutOfMemory → g ≡ f
one_denied_alone readings.UnknownRule g section old ws closed x sure y certain = absurd (closed tt)
one_denied_alone readings.RuleLeftOut g section old ws closed x sure y certain = absurd (closed tt)
one_denied_alone readings.BadLine g section old ws closed x sure y certain = absurd (closed tt)
one_denied_alone readings.IntegerTooLarge g section old ws closed x sure y certain = absurd (closed tt)
one_denied_alone readings.TooManyIds g section old ws closed x sure y certain = many_alone g section old ws x y certain
one_denied_alone readings.OutOfMemory g section old ws closed x sure y certain = absurd (sure refl)
one_denied_alone readings.BadHeader g section old ws closed x sure y certain = absurd x
one_denied_alone readings.BadCount g section old ws closed x sure y certain = absurd x
one_denied_alone readings.Truncated g section old ws closed x sure y certain = absurd x
one_denied_alone readings.TextAfterEnd g section old ws closed x sure y certain = absurd x

-- so each line has one fault of reading, but for those
denied_alone : (f g : ProofFault) (section : Section) (old ws : List (List ℕ)) → (IsLeftOpen (Reading f) → ⊥) → DeniesLine f section old ws
    → f ≢ readings.OutOfMemory → DeniesLine g section old ws → g ≢ readings.OutOfMemory → g ≡ f
unfolding DeniesLine
denied_alone f g sections.Header old ws closed x sure y certain = y.0 ∙ sym x.0
denied_alone f g sections.Count old ws closed x sure y certain = y.0 ∙ sym x.0
denied_alone f g sections.Step old ws closed x sure y certain = one_denied_alone f g sections.Step old ws closed x.1 sure y.1 certain
denied_alone f g sections.Block old ws closed x sure y certain = one_denied_alone f g sections.Block old ws closed x.1 sure y.1 certain
denied_alone f g sections.Goal old ws closed x sure y certain = one_denied_alone f g sections.Goal old ws closed x.1 sure y.1 certain
denied_alone f g sections.Conclusion old ws closed x sure y certain = one_denied_alone f g sections.Conclusion old ws closed x.1 sure y.1 certain
denied_alone f g sections.End old ws closed x sure y certain = y.0 ∙ sym x.0
denied_alone f g sections.After old ws closed x sure y certain = y ∙ sym x

unread_code : (at : Position) (line : Numbered) (code why : Code) → (IsLeftOpen code → ⊥) → IsUnread at line code → IsUnread at line why → why ≡ code
unread_code at line code why closed x y =
    let open_not = subst (λ k. IsLeftOpen k → ⊥) x.code_is closed in
    let fault = denied_alone x.fault y.fault at.section at.names (words line.text) open_not x.denied x.no_memory y.denied y.no_memory in
    y.code_is ∙ ap Reading fault ∙ sym x.code_is

-- what is read is not denied
read_never : (p : Opb) (at : Position) (line : Numbered) (code why : Code) → IsUnread at line code → IsRefused p at line why → ⊥
read_never p at line code why x y = denied_never x.fault at.section at.names (words line.text) y.next.said y.next.names x.denied x.no_memory y.next.is

-- a line leads nowhere with one code, but for those that are left open
nowhere_code : (p : Opb) (at : Position) (line : Numbered) (code why : Code) → (IsLeftOpen code → ⊥) → LeadsNowhere p at line code → LeadsNowhere p at line why → why ≡ code
nowhere_code p at line code why closed (unread x) (unread y) = unread_code at line code why closed x y
nowhere_code p at line code why closed (unread x) (refused y) = absurd (read_never p at line code why x y)
nowhere_code p at line code why closed (refused x) (unread y) = absurd (read_never p at line why code y x)
nowhere_code p at line code why closed (refused x) (refused y) =
    let said = subst (λ said. Refuses p at.state said why) (sym (one_next at line x.next y.next).0) y.refuses in
    refused_code p at.state x.next.said code why x.refuses said

-- and at one position judging stops with one code
stop_code : (p : Opb) (at : Position) (left : List Numbered) (last line other : ℕ) (code why : Code) → (IsLeftOpen code → ⊥) → Stops p at left last line code
    → Stops p at left last other why → why ≡ code
stop_code p at [] last line other code why closed x y = y.code_is ∙ sym x.code_is
stop_code p at (l ∷ ls) last line other code why closed x y = nowhere_code p at l code why closed x.1 y.1

-- two walks over the same lines that stop, stop at one position, with the same lines left
one_stop : (p : Opb) (at a b : Position) (read left more rest : List Numbered) (last line other : ℕ) (code why : Code) → read ++ left ≡ more ++ rest → Walks p at read a → Stops p a left last line code
    → Walks p at more b → Stops p b rest last other why → (a ≡ b) × (left ≡ rest)
one_stop p at a b [] left [] rest last line other code why in_order x stops y ends = (x ∙ sym y, in_order)
one_stop p at a b [] left (n ∷ ns) rest last line other code why in_order x stops y ends =
    absurd (stops_never p at a y.0 n (ns ++ rest) left last line code x in_order y.1 stops)
one_stop p at a b (n ∷ ns) left [] rest last line other code why in_order x stops y ends =
    absurd (stops_never p at b x.0 n (ns ++ left) rest last other why y (sym in_order) x.1 ends)
one_stop p at a b (n ∷ ns) left (m ∷ ms) rest last line other code why in_order x stops y ends =
    let first = same_first n m (ns ++ left) (ms ++ rest) in_order in
    let also = subst (λ l. Advances p l at y.0) (sym first.0) y.1 in
    let same = one_advance p n at x.0 y.0 x.1 also in
    one_stop p x.0 a b ns left ms rest last line other code why first.1 x.2 stops (subst (λ q. Walks p q ms b) (sym same) y.2) ends

one_place : (p : Opb) (proof : List ℕ) (line other : ℕ) (code why : Code) (x : IsStopped p proof line code) (y : IsStopped p proof other why) → (x.at ≡ y.at) × (x.left ≡ y.left)
one_place p proof line other code why x y =
    let same = one_start p y.reached.start x.reached.start y.reached.starts x.reached.starts in
    let walks = subst (λ s. Walks p (beginning p s) y.read y.at) same y.reached.walks in
    one_stop p (beginning p x.reached.start) x.at y.at x.read x.left y.read y.left (lines_of proof).last line other code why (sym x.in_order ∙ y.in_order) x.reached.walks x.stops walks y.stops

-- what stops at the one, where the other stops
there_too : (p : Opb) (proof : List ℕ) (line other : ℕ) (code why : Code) (x : IsStopped p proof line code) (y : IsStopped p proof other why) → Stops p y.at y.left (lines_of proof).last line code
there_too p proof line other code why x y =
    let last = (lines_of proof).last in
    let place = one_place p proof line other code why x y in
    subst (λ q. Stops p q y.left last line code) place.0 (subst (λ ls. Stops p x.at ls last line code) place.1 x.stops)

-- judging stops on one line
pub one_line_of_stop : (p : Opb) (proof : List ℕ) (line other : ℕ) (code why : Code) → IsStopped p proof line code → IsStopped p proof other why → line ≡ other
one_line_of_stop p proof line other code why x y =
    stop_line p y.at y.left (lines_of proof).last line other code why (there_too p proof line other code why x y) y.stops

-- and with one code, but for those that are left open
pub one_code_of_stop : (p : Opb) (proof : List ℕ) (line other : ℕ) (code why : Code) → (IsLeftOpen code → ⊥) → IsStopped p proof line code
    → IsStopped p proof other why → why ≡ code
one_code_of_stop p proof line other code why closed x y =
    stop_code p y.at y.left (lines_of proof).last line other code why closed (there_too p proof line other code why x y) y.stops
