-- What stands where no variable of the file is free: literals without opposites that name all variables, and force no more.
use Rattle.std.proofs.Common.{◌≡◌, ℕ, ◌<◌, Bool, true, false, not, List, [], ◌++◌, length, get_or, refl, sym, subst, ◌∙◌, inl, inr}
use Rattle.std.proofs.lemmas.List.{get_or_default}
use Rattle.linear.specs.Literal.{opposite}
use Rattle.linear.specs.declared.term.Lit.{Lit}
use Rattle.normal_form.specs.Normal.{NormalConstraint}
use Rattle.propagate.specs.Chain.{IsChain, IsClosure, IsReached, LeadsToConflict}
use Rattle.propagate.specs.Content.{IsEnd}
use Rattle.propagate.specs.Literals.{IsConsistent, among, lists}
use Rattle.propagate.proofs.Assignments.{among_left, among_right}
use Rattle.propagate.proofs.ChainEnds.{given_within}
use Rattle.propagate.proofs.Closure.{closure_fixpoint}
use Rattle.propagate.proofs.Consistency.{chain_consistent}
use Rattle.propagate.proofs.JoinedChains.{joined}
use Rattle.proof_rules.specs.Solution.{NamesAll, literal_for}
use Rattle.proof_rules.specs.State.{constraints}
use Rattle.propagate.specs.Values.{AreValuesUnder, makes_true}
use Rattle.propagate.specs.declared.value.Value.{Value}
use Rattle.propagate.specs.declared.value.Value.TheVariants.{True, False, Free}
use Rattle.search.specs.Descents.{IsSettled}
use Rattle.proof_log.specs.Log.{Logbook}
use Rattle.proof_log.specs.Named.{LiveIsNamed}
use Rattle.search.specs.Values.{NoneIsFree}
use Rattle.search.proofs.Decisions.{closure_named}
use Rattle.search.specs.Decisions.{AreDecisions}

-- what is reached stands behind what is given and a chain
as_chain : (live : List NormalConstraint) (given : List Lit) (l : Lit) → IsReached live given l → (xs : List Lit) × IsChain live given xs × (lists (given ++ xs) l ≡ true)
as_chain live given l (inl here) = ([], tt, among_left given [] (l.var.0) l.negated here)
as_chain live given l (inr (xs, chain, here)) = (xs, chain, among_right given xs (l.var.0) l.negated here)

-- what follows without a conflict from literals without opposites has none
pub closure_consistent : (live : List NormalConstraint) (given closed : List Lit) → IsConsistent given → (LeadsToConflict live given → ⊥) → IsClosure live given closed → IsConsistent closed
closure_consistent live given closed consistent none closure (l, here, there) =
    let xs = as_chain live given l ((closure l).0 here) in
    let ys = as_chain live given (opposite l) ((closure (opposite l)).0 there) in
    let both = joined live given none ys.0 given xs.0 xs.1 (given_within given xs.0) ys.1 in
    chain_consistent live given both.0 consistent both.1.0 (l, both.1.1 (l.var.0) l.negated xs.2, both.1.2 (l.var.0) (not l.negated) ys.2)

-- a variable that is not free is named
named : (assigned : List Lit) (values : List Value) (count : ℕ) → AreValuesUnder assigned values → NoneIsFree values count → length values ≡ count → NamesAll count assigned
named assigned values count are none same v below =
    let inside : v < length values = subst (λ n. v < n) (sym same) below in
    by (get_or values v Free) (λ free. none v below (get_or_default values v True Free inside ∙ free)) (λ s. are v s inside)
  where
    by : (value : Value) → (value ≡ Free → ⊥) → ((s : Bool) → among assigned v s ≡ makes_true value s) → (b : Bool) × (lists assigned (literal_for v b) ≡ true)
    by True other h = (true, h false)
    by False other h = (false, h true)
    by Free other h = absurd (other refl)

pub settled : (l : Logbook) (decisions standing : List Lit) (table : List Value) (count : ℕ) → LiveIsNamed l.problem l.state → AreDecisions l decisions → IsEnd l.state.live decisions standing → AreValuesUnder standing table
    → length table ≡ count → count ≡ length l.problem.names → NoneIsFree table count → IsSettled l standing
settled l decisions standing table count over decided end are same all none = record {
  consistent = closure_consistent (constraints l.state) decisions standing decided.consistent end.no_conflict end.closure;
  named = closure_named (length l.problem.names) (constraints l.state) decisions standing over decided.named end.closure;
  names_all = subst (λ n. NamesAll n standing) all (named standing table count are none same);
  fixpoint = closure_fixpoint (constraints l.state) decisions standing end.closure end.no_conflict;
}
