-- One decision after another.
use Rattle.std.proofs.Common.{◌≡◌, ◌∙◌, ◌++◌, ◌<◌, ℕ, false, [], ◌∷◌, Contains, List, get_or, ap, sym, append-nil, append_assoc, length, refl}
use Rattle.std.proofs.lemmas.List.{get_or_default}
use Rattle.linear.specs.declared.term.Lit.{Lit}
use Rattle.propagate.specs.declared.trace.Decided.{Decided}
use Rattle.watch.proofs.Underlying.{none_decided, one_decided}
use Rattle.watch.proofs.continuing.decide_more.Goals as goal
use Rattle.watch.proofs.continuing.decide_more.Goals.{then-leaves_free+in_ok-one+in_ok-push+else-ends, else-leaves_free}

abbrev none : Lit
none = record { var = record { 0 = 0 }; negated = false }

-- the literal of a turn is one of them
there : (more : List Lit) (k : ℕ) → k < length more → Contains more (get_or more k none)
there more k low = (k, low, get_or_default more k (get_or more k none) none low)

-- one element more behind the rest
behind : (all first rest : List Decided) (d : Decided) → all ≡ first ++ rest → all ++ d ∷ [] ≡ first ++ (rest ++ d ∷ [])
behind all first rest d is = ap (λ (ds : List Decided). ds ++ d ∷ []) is ∙ append_assoc first rest (d ∷ [])

pub loop-literal-init : goal.loop-literal-init
loop-literal-init c = record {
  slots = refl;
  variables = refl;
  kept = c.requires.kept;
  rest = [];
  taken = sym (append-nil c.args.decided.now.items);
  decides = none_decided c.args.more.now c.args.ids.now c.args.ledger.now;
}

pub returns-then-ends-clause-taken : goal.returns-then-ends-clause-taken
returns-then-ends-clause-taken c =
    let i = c.loop-literal.invariant in
    let d = c.in_ok-one.one in
    let e = c.in_ok-one.ensures in
    let after = one_decided c.args.more.now c.args.ids.now c.args.ledger.now c.loop-literal.ledger c.decide_one.new.ledger i.rest d (get_or c.args.more.now c.loop-literal.literal-index none) i.slots
    (there c.args.more.now c.loop-literal.literal-index c.loop-literal-test.true) e.literal e.traced e.given i.decides in
    (i.rest ++ d ∷ [], c.in_ok-push.ensures.items ∙ behind c.loop-literal.decided.items c.args.decided.now.items i.rest d i.taken, after.among, after.traced)

pub loop-literal-preserved : goal.loop-literal-preserved
loop-literal-preserved c =
    let i = c.loop-literal.invariant in
    elim c.if-leaves_free.branch [
      | then-leaves_free+in_ok-one+in_ok-push+else-ends w ↦
          let d = w.in_ok-one.one in
          let e = w.in_ok-one.ensures in
          rw (w.ledger-is, w.queue-is, w.levels-is, w.decided-is) (record {
            slots = e.slots ∙ i.slots;
            variables = e.variables ∙ i.variables;
            kept = e.kept;
            rest = i.rest ++ d ∷ [];
            taken = w.in_ok-push.ensures.items ∙ behind c.loop-literal.decided.items c.args.decided.now.items i.rest d i.taken;
            decides = one_decided c.args.more.now c.args.ids.now c.args.ledger.now c.loop-literal.ledger w.decide_one.new.ledger i.rest d (get_or c.args.more.now c.loop-literal.literal-index none) i.slots
                (there c.args.more.now c.loop-literal.literal-index c.loop-literal-test.true) e.literal e.traced e.given i.decides;
          })
      | else-leaves_free w ↦ rw (w.ledger-is, w.queue-is, w.levels-is, w.decided-is) i
    ]
