use Rattle.std.proofs.Common.{ℕ, ◌<◌, false, [], ◌∷◌, All, length, sym, subst, arith}
use Rattle.std.proofs.lemmas.List.Elements.{All-cons, All-head, All-nil}
use Rattle.linear.specs.declared.term.Lit.{Lit}
use Rattle.normal_form.specs.Cases.{plain}
use Rattle.normal_form.specs.declared.term.NormalTerm.{NormalTerm}
use Rattle.propagate.specs.Cases.{x, not_x}
use Rattle.proof_text.specs.Writable.{IsLitWritable}
use Rattle.proof_log.proofs.Naming.{terms_over}
use Rattle.proof_log.proofs.cases.variables_of_a_file.Goals as goal

abbrev IsBelow : ℕ → NormalTerm → Type 0
IsBelow count t = t.var.0 < count

pub returns-clause-within : goal.returns-clause-within
returns-clause-within _ =
    terms_over 3 (plain 1 0 ∷ plain 1 2 ∷ []) 1
    (All-cons (IsBelow 3) (plain 1 0) (plain 1 2 ∷ []) (omega arith) (All-cons (IsBelow 3) (plain 1 2) [] (omega arith) (All-nil (IsBelow 3))))

pub returns-clause-beyond : goal.returns-clause-beyond
returns-clause-beyond _ over = absurd (omega (arith, over 2 false (omega arith)))

pub returns-clause-named : goal.returns-clause-named
returns-clause-named _ l two =
    let P : Lit → Type 0 = IsLitWritable 2 in
    subst (λ n. All (IsLitWritable n) (x 0 ∷ not_x 1 ∷ [])) (sym two) (All-cons P (x 0) (not_x 1 ∷ []) (omega arith) (All-cons P (not_x 1) [] (omega arith) (All-nil P)))

pub returns-clause-other : goal.returns-clause-other
returns-clause-other _ l two named =
    let within : 2 < length l.problem.names = All-head (IsLitWritable (length l.problem.names)) (x 2) [] named in absurd (omega (arith, within, two))
