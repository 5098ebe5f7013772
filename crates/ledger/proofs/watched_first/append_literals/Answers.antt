-- One literal more, unless it is one of the two.
use Rattle.std.proofs.Common.{◌≡◌, ◌⊎◌, ◌<◌, ◌≤◌, List, [], ◌∷◌, ◌++◌, length, refl, ap, subst, ◌∙◌, arith}
use Rattle.std.proofs.lemmas.List.{append_assoc}
use Rattle.linear.specs.declared.term.Lit.{Lit}
use Rattle.ledger.specs.Falls.{IsOneOf}
use Rattle.ledger.specs.declared.pair.Pair.{Pair}
use Rattle.ledger.proofs.ClauseLists.{all_listed, begun, grown_next, pair_listed}
use Rattle.ledger.proofs.watched_first.append_literals.Goals as goal

pub loop-index-init : goal.loop-index-init
loop-index-init c =
    let p : Pair = c.args.pair in
    let before : List Lit = c.args.literals.now.items in (
      p.first ∷ p.second ∷ [],
      c.in_ok-push-2.ensures.items ∙ ap (λ (ls : List Lit). ls ++ p.second ∷ []) c.in_ok-push.ensures.items ∙ append_assoc before (p.first ∷ []) (p.second ∷ []),
      begun c.args.clause.now p (p.first ∷ p.second ∷ []) c.requires refl,
    )

pub loop-index-preserved : goal.loop-index-preserved
loop-index-preserved c =
    let old : List Lit = c.loop-index.literals.items in
    let new : List Lit = c.push_other.new.literals.items in
    let low : c.loop-index.index < length c.args.clause.now.terms = omega (arith, c.loop-index-test.true, c.len-index-end.ensures.value) in
    let i = c.loop-index.invariant in
    grown_next c.args.clause.now c.args.pair c.loop-index.index c.args.literals.now.items old new i.0 c.term.result c.len-index-end.ensures.normal.rises low c.term.ensures.value i.1 i.2
    (subst (λ (l : Lit). ((new ≡ old) × IsOneOf c.args.pair l) ⊎ (new ≡ old ++ l ∷ [])) c.literal.ensures c.in_ok-push_other.ensures.ok)

pub returns-in_err-push_other-clause-more : goal.returns-in_err-push_other-clause-more
returns-in_err-push_other-clause-more c =
    let i = c.loop-index.invariant in
    let more = c.in_err-push_other.ensures.more in
    (i.0 ++ more.0, more.1 ∙ ap (λ (ls : List Lit). ls ++ more.0) i.1 ∙ append_assoc c.args.literals.now.items i.0 more.0)

pub returns-clause-more : goal.returns-clause-more
returns-clause-more c = (c.loop-index.invariant.0, c.loop-index.invariant.1)

pub returns-clause-ok : goal.returns-clause-ok
returns-clause-ok c =
    let i = c.loop-index.invariant in
    let all : length c.args.clause.now.terms ≤ c.loop-index.index = omega (arith, c.loop-index-test.false, c.len-index-end.ensures.value) in
    (i.0, i.1, pair_listed c.args.clause.now c.args.pair c.loop-index.index i.0 i.2, all_listed c.args.clause.now c.args.pair c.loop-index.index i.0 i.2 all)
