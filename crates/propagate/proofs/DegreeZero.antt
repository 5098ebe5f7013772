-- The negation of a constraint of degree 0.
use Rattle.std.proofs.Common.{◌≡◌, List, [], Contains, ap, ◌∙◌, arith}
use Rattle.std.proofs.lemmas.Int.{ints}
use Rattle.normal_form.specs.Negation.{IsNegation}
use Rattle.normal_form.specs.Normal.{NormalConstraint, total, Rises}
use Rattle.normal_form.proofs.Negations.{negation_terms, flipped_total}
use Rattle.propagate.specs.Slack.{IsFalsified}
use Rattle.propagate.specs.Chain.{IsRefuted}

pub zero_falsified : (n m : NormalConstraint) → Rises 0 n.terms → n.degree ≡ 0 → IsNegation n m → IsFalsified [] m
zero_falsified n m r z g =
    let same : total m.terms ≡ total n.terms = ap total (negation_terms n m r g) ∙ flipped_total n.terms in
    omega (arith, ints, g.degree, z, same)

pub zero_refuted : (n m : NormalConstraint) → Rises 0 n.terms → n.degree ≡ 0 → IsNegation n m → (ns : List NormalConstraint) → Contains ns m → IsRefuted ns
zero_refuted n m r z g ns here = ([], tt, (here.0, m, here.1, here.2, zero_falsified n m r z g))
