use Rattle.std.proofs.Common.{sym, subst, arith}
use Rattle.substitution.specs.Images.{NamesOnce}
use Rattle.search.proofs.Trying.{two_named}
use Rattle.search.proofs.presolving.exchange.Goals as goal

pub unreachable-requires : goal.unreachable-requires
unreachable-requires c = c.in_ok-witness.ensures.none c.in_default.is (subst NamesOnce (sym c.in_ok-images.ensures.items) (two_named _ _ (λ e. omega (arith, c.requires, e))))
