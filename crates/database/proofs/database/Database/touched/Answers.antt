-- One variable of the witness after another.
use Rattle.std.proofs.Common.{false, get_or, length, refl, sym, subst, ap, ◌∙◌, arith}
use Rattle.linear.specs.declared.term.Var.{Var}
use Rattle.propagate.specs.Ids.{IdSet}
use Rattle.substitution.specs.declared.image.Image.{Image}
use Rattle.substitution.specs.declared.image.Image.TheVariants.{Lit}
use Rattle.substitution.specs.Images.{Images}
use Rattle.database.specs.Database.{Constraints}
use Rattle.database.specs.Touched.{AddsTouched}
use Rattle.database.proofs.Touched.{IsGatheringTouched, gathering_none, gathering_next, gathered_all}
use Rattle.database.proofs.database.Database.touched.Goals as goal

pub loop-image-init : goal.loop-image-init
loop-image-init g c =
    let live = c.args.self.now.live in
    let images = c.args.witness.now in (
      refl,
      subst (λ (ids : IdSet). IsGatheringTouched live images images ids) (sym c.empty-ids.ensures) (gathering_none live images),
    )

pub loop-image-preserved : goal.loop-image-preserved
loop-image-preserved g c =
    let d : Var × Image = (record { 0 = 0 }, Lit (record { var = record { 0 = 0 }; negated = false })) in
    let live = c.args.self.now.live in
    let i = c.loop-image.image-index in
    let count = ap length c.as_slice-image-items.ensures.images in
    let same = c.loop-image.invariant.0 in
    let adds = subst (λ (images : Images). AddsTouched c.loop-image.self.live (get_or images i d).0 (get_or images i d).1 c.loop-image.ids c.in_ok-ids.ids) c.as_slice-image-items.ensures.images c.in_ok-ids.ensures.added in
    let adds_live = subst (λ (s : Constraints). AddsTouched s.live (get_or c.args.witness.now i d).0 (get_or c.args.witness.now i d).1 c.loop-image.ids c.in_ok-ids.ids) same adds in (
      c.in_ok-ids.ensures.same ∙ same,
      gathering_next live c.args.witness.now i d c.loop-image.ids c.in_ok-ids.ids (omega (arith, count)) c.loop-image.invariant.1 adds_live,
    )

pub returns-clause-touched : goal.returns-clause-touched
returns-clause-touched g c =
    let count = ap length c.as_slice-image-items.ensures.images in
    gathered_all c.args.self.now.live c.args.witness.now c.loop-image.image-index c.loop-image.ids (omega (arith, count)) c.loop-image.invariant.1
