use Rattle.std.proofs.Common.{ℕ, ◌<◌, ◌≡◌, ◌-◌, true, List, ap, drop, length, arith, subst, sym}
use Rattle.std.proofs.lemmas.Bool.{ltb-true}
use Rattle.std.proofs.lemmas.List.{length-drop}
use Rattle.proof_lines.specs.Buffered.{Buffered}
use Rattle.proof_lines.specs.Lines.{has_no_break}
use Rattle.proof_lines.proofs.LinesBuffered.{broken}
use Rattle.proof_lines.proofs.line_buffer.LineBuffer.is_ready.Goals as goal

pub returns-else-self-clause-ready : goal.returns-else-self-clause-ready
returns-else-self-clause-ready c some none =
    let b = c.self.inside in
    let rest : List ℕ = drop b.next b.bytes.items in
    let long = length-drop b.next b.bytes.items in
    let tested : b.known < c.len.result - b.next = ltb-true b.known (c.len.result - b.next) some in
    let size = c.len.ensures in
    let less : b.known < length rest = omega (arith, tested, size, long) in
    let same : has_no_break rest ≡ true = subst (λ (t : List ℕ). has_no_break t ≡ true) (sym (ap (λ (v : Buffered). v.bytes) c.self.view_is)) none in
    absurd (broken rest b.known c.self.invariant.first less same)
