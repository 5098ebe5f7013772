use Rattle.std.proofs.Common.{subst}
use Rattle.std.proofs.lemmas.Result.{err_from_is_err_and}
use Rattle.pb_text.specs.Token.{lexeme_of}
use Rattle.opb_read.specs.Progress.{Reaches}
use Rattle.opb_read.specs.Reading.{progress_of}
use Rattle.opb_read.proofs.Passing.{reaches_more, reaches_on, stops_behind, stops_here}
use Rattle.opb_read.proofs.reader.Reader.pass_all.Goals as goal

pub loop-found-preserved : goal.loop-found-preserved
loop-found-preserved c =
    let l = c.loop-found in
    let plain = reaches_on (progress_of c.args.self.now) (progress_of l.self) (progress_of c.pass_plain_tokens.new.self) c.args.self.now.left l.self.left c.pass_plain_tokens.new.self.left l.invariant.0 c.in_ok-pass_plain_tokens.ensures.passed in (
      reaches_more (progress_of c.args.self.now) (progress_of c.pass_plain_tokens.new.self) (progress_of c.pass.new.self) c.args.self.now.left c.pass_plain_tokens.new.self.left c.pass.new.self.left (lexeme_of c.in-Some.found.token) plain c.in_ok-pass.ensures.step c.in-Some.ensures.tokens c.in_ok-pass.ensures.left,
      c.in_ok-pass.ensures.step.counts,
    )

pub returns-in_err-pass_plain_tokens-clause-stops : goal.returns-in_err-pass_plain_tokens-clause-stops
returns-in_err-pass_plain_tokens-clause-stops c =
    let l = c.loop-found in
    let p = err_from_is_err_and c.from_residual.result c.from_residual.ensures.1 in
    rw (p.1, p.2)
    (stops_behind c.in_err-pass_plain_tokens.field-0.0 (progress_of c.args.self.now) (progress_of l.self) c.args.self.now.left l.self.left c.pass_plain_tokens.new.self.left l.invariant.0 c.in_err-pass_plain_tokens.ensures.stops)

pub returns-in_err-pass-clause-stops : goal.returns-in_err-pass-clause-stops
returns-in_err-pass-clause-stops c =
    let l = c.loop-found in
    let plain = reaches_on (progress_of c.args.self.now) (progress_of l.self) (progress_of c.pass_plain_tokens.new.self) c.args.self.now.left l.self.left c.pass_plain_tokens.new.self.left l.invariant.0 c.in_ok-pass_plain_tokens.ensures.passed in
    let p = err_from_is_err_and c.from_residual-in_err-pass.result c.from_residual-in_err-pass.ensures.1 in
    rw (p.1, p.2)
    (stops_here c.in_err-pass.field-0.0 (progress_of c.args.self.now) (progress_of c.pass_plain_tokens.new.self) c.args.self.now.left c.pass_plain_tokens.new.self.left c.pass.new.self.left plain c.in_err-pass.ensures.stays c.in_err-pass.ensures.refuses)

pub returns-in_default-clause-all : goal.returns-in_default-clause-all
returns-in_default-clause-all c =
    let l = c.loop-found in
    subst (λ to. Reaches (progress_of c.args.self.now) c.args.self.now.left (progress_of c.pass_plain_tokens.new.self) to) c.in_default.ensures.tokens
    (reaches_on (progress_of c.args.self.now) (progress_of l.self) (progress_of c.pass_plain_tokens.new.self) c.args.self.now.left l.self.left c.pass_plain_tokens.new.self.left l.invariant.0 c.in_ok-pass_plain_tokens.ensures.passed)
