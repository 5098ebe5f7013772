use Rattle.std.proofs.Common.{List, ℕ, ap, sym, ◌∙◌}
use Rattle.proof_lines.specs.Lines.{counts}
use Rattle.proof_lines.proofs.LinesBuffered.{comes, no_more, passed_over, passes_none}
use Rattle.proof_lines.proofs.line_buffer.LineBuffer.advance.Goals as goal

pub returns-then-counts-clause-comes : goal.returns-then-counts-clause-comes
returns-then-counts-clause-comes g c =
    comes c.in_ok-find.field-0 c.args.self.now c.loop-self.self c.find.new.self (g.S.Source.state c.args.source.now) (g.S.Source.state c.loop-self.source) (g.S.Source.state c.find.new.source)
    c.loop-self.invariant c.in_ok-find.ensures.finds c.if-branch.true (ap (λ (t : List ℕ). counts t) (sym c.text.ensures) ∙ sym c.counts.ensures ∙ c.if-counts.true)

pub loop-self-preserved : goal.loop-self-preserved
loop-self-preserved g c =
    passed_over c.in_ok-find.field-0 c.args.self.now c.loop-self.self c.find.new.self (g.S.Source.state c.args.source.now) (g.S.Source.state c.loop-self.source) (g.S.Source.state c.find.new.source)
    c.loop-self.invariant c.in_ok-find.ensures.finds c.if-branch.true (ap (λ (t : List ℕ). counts t) (sym c.text.ensures) ∙ sym c.counts.ensures ∙ c.if-counts.false)

pub returns-clause-comes : goal.returns-clause-comes
returns-clause-comes g c =
    no_more c.in_ok-find.field-0 c.args.self.now c.loop-self.self c.find.new.self (g.S.Source.state c.args.source.now) (g.S.Source.state c.loop-self.source) (g.S.Source.state c.find.new.source)
    c.loop-self.invariant c.in_ok-find.ensures.finds c.if-branch.false

pub loop-self-init : goal.loop-self-init
loop-self-init g c = passes_none c.args.self.now (g.S.Source.state c.args.source.now)
