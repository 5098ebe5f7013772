-- The conflict is one of the open decisions, and takes the last of them.
use Rattle.std.proofs.Common.{◌≡◌, ℕ, List, [], length, rules, sym, ap, subst, ◌∙◌}
use Rattle.std.specs.Bool.{◌==◌}
use Rattle.std.specs.Prelude.{vec_len}
use Rattle.std.proofs.lemmas.Bool.{false≢true}
use Rattle.std.proofs.lemmas.Bool.Decides.{Decides-eqb}
use Rattle.std.proofs.lemmas.List.{nil_from_length}
use Rattle.linear.specs.declared.term.Lit.{Lit}
use Rattle.propagate.specs.Chain.{LeadsToConflict}
use Rattle.proof_rules.specs.State.{constraints}
use Rattle.search.proofs.run.Run.meet_conflict.Goals as goal

pub returns-then-is_empty-clause-found : goal.returns-then-is_empty-clause-found
returns-then-is_empty-clause-found g c = c.in_ok-end_exhausted.ensures.found c.args.limit

pub may_stop-requires-clause-conflict : goal.may_stop-requires-clause-conflict
may_stop-requires-clause-conflict g c =
    let items : List Lit = c.args.self.now.decisions.items in
    let long : vec_len c.args.self.now.decisions ≡ length items = search rules in (
      items,
      λ empty. false≢true (sym c.if-is_empty.false ∙ c.is_empty.ensures ∙ ap (λ (n : ℕ). n == 0) (long ∙ ap length empty)),
      c.requires.decisions.consistent,
      c.requires.conflict,
    )

pub end_exhausted-requires : goal.end_exhausted-requires
end_exhausted-requires g c =
    let items : List Lit = c.args.self.now.decisions.items in
    let long : vec_len c.args.self.now.decisions ≡ length items = search rules in
    let none : items ≡ [] = nil_from_length items (sym long ∙ (Decides-eqb (vec_len c.args.self.now.decisions) 0).0 (sym c.is_empty.ensures ∙ c.if-is_empty.true)) in
    subst (λ xs. LeadsToConflict (constraints c.args.self.now.log.state) xs) none c.requires.conflict.0
