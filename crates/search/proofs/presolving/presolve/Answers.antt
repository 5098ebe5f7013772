use Rattle.std.proofs.Common.{◌<◌, List, All, length, map, get_or, sym, subst, ◌∙◌}
use Rattle.std.proofs.lemmas.List.Elements.{Contains-get_or}
use Rattle.std.proofs.lemmas.Result.{on_ok_weaker}
use Rattle.linear.specs.Opb.{Opb}
use Rattle.linear.specs.declared.term.Lit.{Lit}
use Rattle.presolve.specs.Fixing.{AreFixed}
use Rattle.presolve.specs.Swapping.{AreUsed}
use Rattle.presolve.specs.declared.swapping.Swap.{Swap}
use Rattle.proof_log.specs.Log.{Logbook}
use Rattle.proof_log.specs.Named.{AreNamed}
use Rattle.search.specs.Presolving.{IsNamedPair, TriesAll, fixing, swapping}
use Rattle.search.proofs.Trying.{tries_both, tries_no_lesson}
use Rattle.search.proofs.presolving.presolve.Goals as goal

pub order-requires : goal.order-requires
order-requires g c =
    let ss : List Swap = c.in_ok-swaps.swaps.items in
    let l : Logbook = c.fix.new.log in
    subst (All (IsNamedPair l)) (sym c.as_slice-3.ensures.value) (λ i d h.
    let used = (c.in_ok-swaps.ensures.exact (get_or ss i d)).0 (Contains-get_or ss i d h) in
    record { order = used.swappable.order; named = subst (λ (q : Opb). (get_or ss i d).second.0 < length q.names) c.problem-2.ensures used.swappable.variable })

pub fix-requires : goal.fix-requires
fix-requires g c =
    let l : Logbook = c.args.log.now in
    let ls : List Lit = c.in_ok-literals.literals.items in
    subst (AreNamed l) (sym c.as_slice.ensures.value) (λ i d h.
    let fixed = (c.in_ok-literals.ensures.exact (get_or ls i d)).0 (Contains-get_or ls i d h) in
    subst (λ (q : Opb). (get_or ls i d).var.0 < length q.names) c.problem.ensures fixed.fixable.variable)

pub returns-clause-tried : goal.returns-clause-tried
returns-clause-tried g c =
    let ls : List Lit = c.in_ok-literals.literals.items in
    let ss : List Swap = c.in_ok-swaps.swaps.items in
    let p : Opb = c.args.log.now.problem in
    let old : Logbook = c.args.log.now in
    let mid : Logbook = c.fix.new.log in
    let new : Logbook = c.order.new.log in
    let fixed : AreFixed p ls = subst (λ q. AreFixed q ls) c.problem.ensures c.in_ok-literals.ensures in
    let used : AreUsed p ls ss = subst (λ q. AreUsed q ls ss) (c.problem-2.ensures ∙ c.in_ok-fix.ensures.problem) (subst (λ us. AreUsed c.problem-2.result.now us ss) c.as_slice-2.ensures.value c.in_ok-swaps.ensures) in
    let first : TriesAll (map fixing ls) old mid = subst (λ us. TriesAll (map fixing us) old mid) c.as_slice.ensures.value c.in_ok-fix.ensures.tried in
    on_ok_weaker c.order.result
    (λ tried. record {
      literals = ls;
      pairs = ss;
      fixed = fixed;
      used = used;
      tried = tries_both (map fixing ls) (map swapping ss) old mid new first (subst (λ us. TriesAll (map swapping us) mid new) c.as_slice-3.ensures.value tried);
    }) c.order.ensures.tried

pub returns-clause-biting : goal.returns-clause-biting
returns-clause-biting g c =
    let fixed = tries_no_lesson (map fixing c.as_slice.result.now) c.args.log.now c.fix.new.log c.in_ok-fix.ensures.tried in
    on_ok_weaker c.order.result (λ tried. tries_no_lesson (map swapping c.as_slice-3.result.now) c.fix.new.log c.order.new.log tried ∙ fixed) c.order.ensures.tried
