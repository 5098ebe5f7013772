use Rattle.std.proofs.Common.{◌≡◌, ℕ, ◌++◌, length, get_or, sym, ap, ◌∙◌, arith}
use Rattle.std.proofs.lemmas.List.{length-append}
use Rattle.std.specs.Fmt.{digits}
use Rattle.proof_rules.specs.Cases.{cover_file}
use Rattle.propagate.specs.Cases.{x}
use Rattle.proof_write.specs.Whole.{first_lines, step_line}
use Rattle.search.specs.Presolving.{fixing}
use Rattle.search.proofs.BegunLogs.{begins_fixed}
use Rattle.search.proofs.cases.begun_by_a_fixed_literal.Goals as goal

pub returns-clause-fixed : goal.returns-clause-fixed
returns-clause-fixed c = begins_fixed

pub returns-clause-no_step : goal.returns-clause-no_step
returns-clause-no_step c l b is =
    let h = begins_fixed l b in
    let line = step_line cover_file.names (fixing (x 0)) in
    omega (arith, ap length (sym is ∙ h.1), length-append (first_lines 1 ++ line) h.0, length-append (first_lines 1) line)

-- the byte where the literal stands: `x` or `~`
pub returns-clause-other : goal.returns-clause-other
unfolding digits
returns-clause-other c l rest b is =
    let differ : ◌≡◌ {A = ℕ} 120 126 = ap (λ t. get_or t 43 0) (sym (begins_fixed l b).1 ∙ is) in omega (arith, differ)
