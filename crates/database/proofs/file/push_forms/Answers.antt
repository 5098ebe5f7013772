use Rattle.normal_form.proofs.NormalForm.{small_never}
use Rattle.std.proofs.Common.{[], ◌∷◌, refl, sym, ap, subst, ◌∙◌}
use Rattle.proof_rules.specs.Forms.{AreFormsAs}
use Rattle.database.specs.Database.{pushed}
use Rattle.database.proofs.file.push_forms.Goals as goal

pub returns-in_ok-push-in-AtLeast : goal.returns-in_ok-push-in-AtLeast
returns-in_ok-push-in-AtLeast g c =
    let n = c.in_ok-normalize_fitting-in-AtLeast.field-0 in
    (n ∷ [], subst (λ r. AreFormsAs r c.args.constraint.now (n ∷ [])) (sym c.in-AtLeast.is) (n, refl, c.in_ok-normalize_fitting-in-AtLeast.ensures.form), c.in_ok-push-in-AtLeast.ensures.ok)

pub returns-in_ok-push-in-Equal-2 : goal.returns-in_ok-push-in-Equal-2
returns-in_ok-push-in-Equal-2 g c =
    let n = c.in_ok-at_least-in-Equal.at_least in
    let m = c.in_ok-at_least-in-Equal.at_most in (
      n ∷ m ∷ [],
      subst (λ r. AreFormsAs r c.args.constraint.now (n ∷ m ∷ [])) (sym c.in-Equal.is) (n, m, refl, c.in_ok-at_least-in-Equal.ensures.form),
      c.in_ok-push-in-Equal-2.ensures.ok ∙ ap (pushed m) c.in_ok-push-in-Equal.ensures.ok,
    )

pub normalize_fitting-requires-clause-fits : goal.normalize_fitting-requires-clause-fits
normalize_fitting-requires-clause-fits g c = small_never c.args.constraint.now c.requires.small
