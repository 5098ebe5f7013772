use Rattle.std.proofs.Common.{sym, subst}
use Rattle.linear.specs.ShortNames.{IsShort}
use Rattle.linear.proofs.ShortPlaces.{one_place_more}
use Rattle.linear.proofs.short_names.ShortNames.keep.Goals as goal

pub returns-in-Some : goal.returns-in-Some
returns-in-Some c names within here short =
    one_place_more names c.args.self.now c.mark.new.self c.in-Some.number c.args.place short within
    (subst (λ name. IsShort name c.in-Some.number) (sym here) c.in-Some.ensures) c.mark.ensures
