-- The first literal, and behind it the others.
use Rattle.std.proofs.Common.{◌≡◌, ◌∙◌, ◌++◌, [], ◌∷◌, List, Option, ap, subst, sym}
use Rattle.linear.specs.declared.term.Lit.{Lit}
use Rattle.normal_form.specs.Normal.{NormalConstraint}
use Rattle.propagate.specs.declared.trace.Decided.{Decided}
use Rattle.propagate.specs.Content.{Content, AreDecided, IsTraceOfLast}
use Rattle.propagate.specs.Literals.{IsConsistent}
use Rattle.watch.specs.Named.{AreNamed, content_at}
use Rattle.watch.proofs.continuing.decide_all.Goals as goal
use Rattle.watch.proofs.continuing.decide_all.Goals.{then-not-ends+in_ok-decide_more, else-not-ends}

-- a decision, and others behind it
one_and_more : (content : Content) (before : List Lit) (d : Decided) (l : Lit) (rest : List Decided) → d.literal ≡ l → IsConsistent (before ++ l ∷ []) × IsTraceOfLast content before l d.trace → AreDecided content (before ++ l ∷ []) rest → AreDecided content before (d ∷ rest)
one_and_more content before d l rest is one more = (
  subst (λ (m : Lit). IsConsistent (before ++ m ∷ [])) (sym is) one.0,
  subst (λ (m : Lit). IsTraceOfLast content before m d.trace) (sym is) one.1,
  subst (λ (m : Lit). AreDecided content (before ++ m ∷ []) rest) (sym is) more,
)

pub returns-clause-decided : goal.returns-clause-decided
returns-clause-decided c places before named u =
    let slots = c.args.ledger.now.slots in
    let content = content_at slots places in
    let d = c.in_ok-one.one in
    let e = c.in_ok-one.ensures in
    let first = c.args.first in
    let alone : c.push.new.self.items ≡ d ∷ [] = c.in_ok-push.ensures.items ∙ ap (λ (ds : List Decided). ds ++ d ∷ []) c.new-decided.ensures.items in
    elim c.if-not-ends.branch [
      | then-not-ends+in_ok-decide_more w ↦
          let taken = w.decide_more.ensures.taken in
          let here = subst (λ (os : List (Option NormalConstraint)). AreNamed places c.args.ids.now os) (sym e.slots) named in
          let more : AreDecided content (before ++ first ∷ []) taken.0 =
          subst (λ (os : List (Option NormalConstraint)). AreDecided (content_at os places) (before ++ first ∷ []) taken.0) e.slots (taken.3 places (before ++ first ∷ []) here (e.given before u)) in
          subst (λ (ds : List Decided). AreDecided content before ds) (sym (ap (λ v. v.items) w.decided-is ∙ taken.1 ∙ ap (λ (ds : List Decided). ds ++ taken.0) alone)) (one_and_more content before d first taken.0 e.literal (e.traced places before named u) more)
      | else-not-ends w ↦
          subst (λ (ds : List Decided). AreDecided content before ds) (sym (ap (λ v. v.items) w.decided-is ∙ alone)) (one_and_more content before d first [] e.literal (e.traced places before named u) tt)
    ]
