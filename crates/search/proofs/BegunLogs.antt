-- What a log of `1 x0 1 x1 >= 1` begins with, where it begins with what presolve tries: x0 is fixed.
use Rattle.std.proofs.Common.{◌≡◌, ℕ, zero, suc, true, List, [], ◌∷◌, ◌++◌, Contains, inl, inr, map, refl, sym, ap, subst, ◌∙◌, arith}
use Rattle.std.proofs.lemmas.Bool.{false≢true}
use Rattle.std.proofs.lemmas.List.Elements.{All-nil, All-cons}
use Rattle.linear.specs.declared.term.Lit.{Lit}
use Rattle.linear.specs.Opb.{Opb}
use Rattle.normal_form.specs.Cases.{normal}
use Rattle.normal_form.specs.Normal.{NormalConstraint}
use Rattle.normal_form.proofs.NormalForm.{is_form}
use Rattle.presolve.specs.Fixing.{AreFixed, IsFixed}
use Rattle.presolve.specs.Standing.{IsAbsent}
use Rattle.propagate.specs.Cases.{x, unit, unit_not}
use Rattle.substitution.specs.Cases.{single}
use Rattle.substitution.specs.Under.{substituted}
use Rattle.substitution.specs.declared.image.Image.TheVariants.{One}
use Rattle.proof_rules.specs.Cases.{cover_file, cover_written, cover, cover_start}
use Rattle.proof_rules.specs.Fault.{IsStepFault}
use Rattle.proof_rules.specs.Legal.{Legal}
use Rattle.proof_rules.specs.Redundant.{IsShownUnder, Redundant}
use Rattle.proof_rules.specs.State.{State, IsStart, with_constraint}
use Rattle.proof_rules.specs.declared.fault.StepFault.{StepFault}
use Rattle.proof_rules.proofs.NotLegal.{step_never}
use Rattle.proof_rules.proofs.OneStart.{one_start}
use Rattle.proof_rules.proofs.ShownHolds.{zero_shown}
use Rattle.proof_rules.proofs.SmallStates.{live_of}
use Rattle.proof_rules.proofs.SmallConstraints.{cover_admitted, first_admitted, first_is_one, first_negated}
use Rattle.proof_write.specs.Whole.{first_lines, step_line}
use Rattle.proof_log.specs.Log.{GoesOn, Logbook}
use Rattle.search.specs.Presolving.{BeginsPresolved, IsFirst, Tries, TriesAll, fixing, swapping}
use Rattle.search.proofs.GoingOn.{goes_on_more}
use Rattle.search.proofs.Trying.{tries_go_on}

is_fixed : IsFixed cover_file (x 0)
is_fixed = record {
  fixable = record {
    variable = omega arith;
    opposite = All-cons (IsAbsent 0 true) cover_written [] (λ n f. f.negated 0) (All-nil (IsAbsent 0 true));
    objective = tt;
  };
  first = λ e other. false≢true e;
}

-- it is the first one that is fixed, since no variable is below it
comes_first : (ls : List Lit) → AreFixed cover_file ls → (later : List Lit) × (ls ≡ x 0 ∷ later)
comes_first ls are = by ls are ((are.exact (x 0)).1 is_fixed)
  where
    by : (ls : List Lit) → AreFixed cover_file ls → Contains ls (x 0) → (later : List Lit) × (ls ≡ x 0 ∷ later)
    by [] are (i, within, same) = absurd (omega (arith, within))
    by (l ∷ ls) are (zero, within, same) = (ls, ap (λ k. k ∷ ls) same)
    by (l ∷ ls) are (suc i, within, same) = absurd (omega (arith, are.order 0 (suc i) (x 0) (omega arith) within, ap (λ (k : Lit). k.var.0) same))

itself : (from : List NormalConstraint) → IsShownUnder from (single 0 One) (unit 0)
itself from = (normal [] 0, is_form (substituted (unit 0) (single 0 One)) (normal [] 0) tt (λ set. refl) refl, zero_shown from (normal [] 0) tt refl)

redundant : Redundant cover_file (cover ∷ []) (single 0 One) (unit 0) (unit_not 0)
redundant = record {
  negation = first_negated;
  each_live = first_is_one (cover ∷ unit_not 0 ∷ []);
  itself = itself (cover ∷ unit_not 0 ∷ []);
  objective = tt;
}

legal : Legal cover_file cover_start (fixing (x 0)) (with_constraint (unit 0) cover_start)
legal = (
  refl,
  (
    unit 0,
    unit_not 0,
    first_admitted,
    subst (λ live. Redundant cover_file live (single 0 One) (unit 0) (unit_not 0)) (sym (live_of (cover ∷ []))) redundant,
    (omega arith, refl),
  ),
)

begun : IsStart cover_file cover_start
begun = (cover ∷ [], (cover ∷ [], [], refl, (cover, refl, cover_admitted.form), refl), refl)

never : (s : State) (f : StepFault) → IsStart cover_file s → IsStepFault cover_file s (fixing (x 0)) f → ⊥
never s f start h =
    step_never cover_file cover_start (fixing (x 0)) f (with_constraint (unit 0) cover_start)
    (subst (λ t. IsStepFault cover_file t (fixing (x 0)) f) (one_start cover_file s cover_start start begun) h) legal

abbrev fixed_line : List ℕ
fixed_line = step_line cover_file.names (fixing (x 0))

-- so the line of its step is there
entered : (a b : Logbook) → IsFirst cover_file a → Tries (fixing (x 0)) a b → b.text ≡ first_lines 1 ++ fixed_line
entered a b first (inl enters) =
    enters.text ∙ ap (λ t. t ++ step_line a.problem.names (fixing (x 0))) first.text ∙ ap (λ (p : Opb). first_lines 1 ++ step_line p.names (fixing (x 0))) first.problem
entered a b first (inr left) = absurd (never a.state left.fault first.start (subst (λ p. IsStepFault p a.state (fixing (x 0)) left.fault) first.problem left.faulty))

pub begins_fixed : (l : Logbook) → BeginsPresolved cover_file l → (rest : List ℕ) × (l.text ≡ (first_lines 1 ++ fixed_line) ++ rest)
begins_fixed l b =
    let fixed = comes_first b.tried.literals (subst (λ p. AreFixed p b.tried.literals) b.of_file.problem b.tried.fixed) in
    let tried : TriesAll (fixing (x 0) ∷ (map fixing fixed.0 ++ map swapping b.tried.pairs)) b.first b.presolved =
    subst (λ ls. TriesAll (map fixing ls ++ map swapping b.tried.pairs) b.first b.presolved) fixed.1 b.tried.tried in
    let behind : GoesOn tried.0 l =
    goes_on_more tried.0 b.presolved l (tries_go_on (map fixing fixed.0 ++ map swapping b.tried.pairs) tried.0 b.presolved tried.2) b.goes_on in
    (behind.rest, behind.text ∙ ap (λ t. t ++ behind.rest) (entered b.first tried.0 b.of_file tried.1))
