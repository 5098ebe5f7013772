use Rattle.std.proofs.Common.{rules, FitsSigned, ◌≡◌, ◌<◌, ◌≤◌, ◌∷◌, ◌++◌, ℕ, List, [], ap, arith, length, subst, sym, take, ◌∙◌}
use Rattle.std.proofs.lemmas.Int.{to_z-of_z}
use Rattle.std.proofs.lemmas.Result.{err_from_is_err_and}
use mir.Syntax.{w128}
use Rattle.linear.specs.declared.term.Term.{Term}
use Rattle.linear.specs.Packed.{closing_term, constraints_cut, start_at, ArePlaces}
use Rattle.linear.proofs.CutConstraints.{constraint_put, cut_same, longer_put, places_end, places_more, places_put, places_short, start_same}
use Rattle.linear.proofs.constraints.Constraints.push.Goals as goal

pub put-requires : goal.put-requires
put-requires c =
    let es : List ℕ = c.self.inside.ends.items in
    let start = start_same c.start_of-start.result es c.as_slice.result.now c.len.result c.start_of-start.ensures (c.as_slice.ensures.value ∙ c.in_ok-reserve.ensures.items) (omega (arith, c.len.ensures, ap length c.as_slice.ensures.value)) in
    omega (arith, start, places_end 0 es (length c.self.inside.terms) c.self.invariant)

pub invariant_of-self-in_err-put : goal.invariant_of-self-in_err-put
invariant_of-self-in_err-put c =
    let es : List ℕ = c.self.inside.ends.items in
    let kept : List Term = c.put.new.kept in
    let start = start_same c.start_of-start.result es c.as_slice.result.now c.len.result c.start_of-start.ensures (c.as_slice.ensures.value ∙ c.in_ok-reserve.ensures.items) (omega (arith, c.len.ensures, ap length c.as_slice.ensures.value)) in
    subst (λ fs. ArePlaces 0 fs (length kept)) (sym c.in_ok-reserve.ensures.items)
    (places_more 0 es (start_at 0 es (length es)) (length kept) (places_short 0 es (length c.self.inside.terms) c.self.invariant) (omega (arith, start, c.in_err-put.ensures.longer)))

pub returns-in_err-put-clause-err : goal.returns-in_err-put-clause-err
returns-in_err-put-clause-err c =
    let es : List ℕ = c.self.inside.ends.items in
    let ts : List Term = c.self.inside.terms in
    let kept : List Term = c.put.new.kept in
    let n : ℕ = start_at 0 es (length es) in
    let start = start_same c.start_of-start.result es c.as_slice.result.now c.len.result c.start_of-start.ensures (c.as_slice.ensures.value ∙ c.in_ok-reserve.ensures.items) (omega (arith, c.len.ensures, ap length c.as_slice.ensures.value)) in
    let same : take n kept ≡ take n ts = ap (λ k. take k kept) (sym start) ∙ c.in_err-put.ensures.before ∙ ap (λ k. take k ts) start in
    let p = err_from_is_err_and c.from_residual-in_err-put.result c.from_residual-in_err-put.ensures.1 in
    rw p.1 (ap (constraints_cut kept 0) c.in_ok-reserve.ensures.items ∙ cut_same ts kept 0 es n (places_short 0 es (length ts) c.self.invariant) same ∙ c.self.view_is)

-- the next one begins behind the last
start : (c : goal.After-push_reserved) → c.start_of-start.result ≡ start_at 0 c.self.inside.ends.items (length c.self.inside.ends.items)
start c =
    start_same c.start_of-start.result c.self.inside.ends.items c.as_slice.result.now c.len.result c.start_of-start.ensures (c.as_slice.ensures.value ∙ c.in_ok-reserve.ensures.items) (omega (arith, c.len.ensures, ap length c.as_slice.ensures.value))

-- what stands there behind the last
is_put : (c : goal.After-push_reserved) → c.put.new.kept ≡ (take (start_at 0 c.self.inside.ends.items (length c.self.inside.ends.items)) c.self.inside.terms ++ c.args.terms.now) ++ closing_term c.args.relation c.args.right ∷ []
is_put c =
    let fits : FitsSigned w128 c.args.right = search rules in
    c.in_ok-put.ensures.ok
    ∙ ap (λ k. (take k c.self.inside.terms ++ c.args.terms.now) ++ c.closing.result ∷ []) (start c)
    ∙ ap (λ t. (take (start_at 0 c.self.inside.ends.items (length c.self.inside.ends.items)) c.self.inside.terms ++ c.args.terms.now) ++ t ∷ [])
    (c.closing.ensures ∙ ap (closing_term c.args.relation) (to_z-of_z w128 c.args.right fits))

places : (c : goal.After-push_reserved) → c.push_reserved.new.self.items ≡ c.self.inside.ends.items ++ c.len-2.result ∷ []
places c = c.push_reserved.ensures.items ∙ ap (λ fs. fs ++ c.len-2.result ∷ []) c.in_ok-reserve.ensures.items

pub invariant_of-self-2 : goal.invariant_of-self-2
invariant_of-self-2 c =
    let es : List ℕ = c.self.inside.ends.items in
    let ts : List Term = c.self.inside.terms in
    let kept : List Term = c.put.new.kept in
    let more = longer_put (start_at 0 es (length es)) ts kept c.args.terms.now (closing_term c.args.relation c.args.right) (places_end 0 es (length ts) c.self.invariant) (is_put c) in
    subst (λ fs. ArePlaces 0 fs (length kept)) (sym (places c))
    (places_more 0 (es ++ c.len-2.result ∷ []) c.len-2.result (length kept) (places_put 0 es (length ts) c.len-2.result c.self.invariant (omega (arith, more, c.len-2.ensures))) (omega (arith, c.len-2.ensures)))

pub returns-clause-ok : goal.returns-clause-ok
returns-clause-ok c =
    let es : List ℕ = c.self.inside.ends.items in
    let ts : List Term = c.self.inside.terms in
    let kept : List Term = c.put.new.kept in
    ap (constraints_cut kept 0) (places c)
    ∙ constraint_put ts kept c.args.terms.now es c.args.relation c.args.right c.len-2.result c.self.invariant (is_put c) c.len-2.ensures
    ∙ ap (λ cs. cs ++ (record { terms = c.args.terms.now; relation = c.args.relation; right = c.args.right }) ∷ []) c.self.view_is
