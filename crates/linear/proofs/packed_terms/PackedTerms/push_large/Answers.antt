use Rattle.std.proofs.Common.{[], ◌∷◌, ◌++◌, ap, refl, ◌∙◌, arith}
use Rattle.linear.specs.declared.packed_terms.PackedTerm.{PackedTerm}
use Rattle.linear.specs.Packed.{large_mark}
use Rattle.linear.proofs.LargeTerms.{large_put}
use Rattle.linear.proofs.packed_terms.PackedTerms.push_large.Goals as goal

pub returns-clause-ok : goal.returns-clause-ok
returns-clause-ok c =
    let inside = c.self.inside in
    let put : PackedTerm = record { packed = large_mark; number = c.in-Ok.number } in
    large_put inside.large.items c.push.new.self.items inside.packed.items c.push_reserved.new.self.items c.args.term put c.self.invariant c.in_ok-push.ensures.items (c.push_reserved.ensures.items ∙ ap (λ ps. ps ++ put ∷ []) c.in_ok-reserve.ensures.items) refl (omega arith)
    ∙ ap (λ ts. ts ++ c.args.term ∷ []) c.self.view_is
