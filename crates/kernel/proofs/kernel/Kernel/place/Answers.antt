use Rattle.std.proofs.Common.{refl, sym, ap, ◌∙◌}
use Rattle.kernel.specs.Held.{Held}
use Rattle.kernel.proofs.OpenBlocks.{place_of}
use Rattle.kernel.proofs.kernel.Kernel.place.Goals as goal

pub returns-in-Some : goal.returns-in-Some
returns-in-Some g c =
    let block = sym (ap (λ (x : Held). x.state.block) c.self.view_is) ∙ c.in-Some.is in
    place_of c.args.self.now.state c.in-Some.block c.place.result block c.in-Some.block.goal refl c.place.ensures
