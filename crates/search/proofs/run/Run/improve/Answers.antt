use Rattle.search.proofs.GoingOn.{goes_on_more}
use Rattle.search.proofs.run.Run.improve.Goals as goal

pub returns-clause-goes_on : goal.returns-clause-goes_on
returns-clause-goes_on g c =
    goes_on_more c.args.self.now.log c.improve.new.self c.forget_outdone.new.self.log c.improve.ensures.goes_on c.forget_outdone.ensures.goes_on

pub returns-in_err-forget_outdone-clause-goes_on : goal.returns-in_err-forget_outdone-clause-goes_on
returns-in_err-forget_outdone-clause-goes_on g c =
    goes_on_more c.args.self.now.log c.improve.new.self c.forget_outdone.new.self.log c.improve.ensures.goes_on c.forget_outdone.ensures.goes_on
