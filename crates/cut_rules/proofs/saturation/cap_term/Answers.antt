-- A coefficient within the cap is the less of both.
use Rattle.std.proofs.Common.{◌≡◌, ◌∙◌, ◌≤◌, ℕ, min, ap, arith}
use Rattle.normal_form.specs.Terms.{with_coefficient}
use Rattle.cut_rules.proofs.InPlace.{with_own}
use Rattle.cut_rules.proofs.saturation.cap_term.Goals as goal

least : (c cap : ℕ) → c ≤ cap → c ≡ min c cap
least c cap h = omega (arith, h)

pub returns-else-coef-cap-clause-terms : goal.returns-else-coef-cap-clause-terms
returns-else-coef-cap-clause-terms c =
    with_own c.args.constraint.now.terms c.args.place c.args.coef c.requires.place c.requires.coefficient ∙ ap (with_coefficient c.args.constraint.now.terms c.args.place) (least c.args.coef c.args.cap (omega (arith, c.if-coef-cap.false)))
