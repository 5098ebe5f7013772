-- What stands on the trail when one literal more is decided.
use Rattle.std.proofs.Common.{◌≡◌, ℕ, All, Contains, inl, inr, Bool, true, false, Option, None, List, [], ◌∷◌, ◌++◌, length, refl, sym, ap, subst, ◌∙◌, append-nil, append_assoc, length-append, map, arith}
use Rattle.std.proofs.lemmas.Bool.{false≢true}
use Rattle.std.proofs.lemmas.List.{map-append}
use Rattle.std.proofs.lemmas.List.Elements.{All-append, All-cons, All-nil}
use Rattle.linear.specs.declared.term.Lit.{Lit}
use Rattle.linear.specs.Literal.{opposite}
use Rattle.normal_form.specs.Normal.{NormalConstraint}
use Rattle.propagate.specs.declared.trace.Decided.{Decided}
use Rattle.propagate.specs.Content.{Content, AreDecided, IsTraceOfLast}
use Rattle.propagate.specs.Literals.{lists, IsConsistent}
use Rattle.propagate.proofs.Assignments.{among_cases, among_left, among_right}
use Rattle.propagate.proofs.Consistency.{push_consistent}
use Rattle.watch.specs.Givens.{IsDecided}
use Rattle.ledger.specs.Ledgers.{State}
use Rattle.watch.specs.Named.{AreNamed, content_at}
use Rattle.watch.specs.Steps.{AreGiven, Underlies}
use Rattle.watch.proofs.GivenReasons.{given_added, given_walked}

-- with one literal more given
given_wider : (xs : List Lit) (rs : List (Option ℕ)) (before more : List Lit) → AreGiven xs rs before → AreGiven xs rs (before ++ more)
given_wider xs rs before more a k d low none = among_left before more _ _ (a k d low none)

pub underlies_one : (old new : State) (before : List Lit) (l : Lit) → length old.reasons ≡ length old.assigned → length new.reasons ≡ length new.assigned → IsDecided old new l → Underlies before old → Underlies (before ++ l ∷ []) new
underlies_one old new before l many all d u =
    let given : List Lit = before ++ l ∷ [] in
    let mid : List Lit = old.assigned ++ l ∷ [] in
    let rs : List (Option ℕ) = old.reasons ++ None ∷ [] in
    let none : List (Option ℕ) = None ∷ [] in
    let short : length rs ≡ length mid = omega (arith, many, length-append old.reasons none, length-append old.assigned (l ∷ [])) in
    let there : AreGiven mid rs given = given_added old.assigned (l ∷ []) old.reasons (None ∷ []) given many (given_wider old.assigned old.reasons before (l ∷ []) u.others) (λ v s e. among_right before (l ∷ []) v s e) in
    record {
      all = λ m e. subst (λ (xs : List Lit). lists xs m ≡ true) (sym d.assigned) (among_left mid d.chain (m.var.0) m.negated (elim (among_cases before (l ∷ []) (m.var.0) m.negated e) [
        | inl x ↦ among_left old.assigned (l ∷ []) (m.var.0) m.negated (u.all m x)
        | inr x ↦ among_right old.assigned (l ∷ []) (m.var.0) m.negated x
      ]));
      others = rw (d.assigned, d.reasons) (given_walked mid d.chain rs d.places given short (sym (ap (length {A = Option ℕ}) d.reasons) ∙ all ∙ ap (length {A = Lit}) d.assigned) there);
    }

not_listed : (xs : List Lit) (l : Lit) (b : Bool) → lists xs l ≡ b → (lists xs l ≡ true → ⊥) → lists xs l ≡ false
not_listed xs l true e h = absurd (h e)
not_listed xs l false e h = e

-- what is free on the trail can be decided behind what the trail stands on
pub free_consistent : (s : State) (before : List Lit) (l : Lit) → IsConsistent s.assigned → lists s.assigned (opposite l) ≡ false → Underlies before s → IsConsistent (before ++ l ∷ [])
free_consistent s before l c free u =
    push_consistent before l (λ both. c (both.0, u.all both.0 both.1, u.all (opposite both.0) both.2))
    (not_listed before (opposite l) (lists before (opposite l)) refl (λ e. false≢true (sym free ∙ u.all (opposite l) e)))

-- the literals that were decided
abbrev pub decisions : List Decided → List Lit
decisions = map (λ d. d.literal)

pub decided_push : (content : Content) (before : List Lit) (ds : List Decided) (d : Decided) → AreDecided content before ds → IsConsistent ((before ++ decisions ds) ++ d.literal ∷ []) → IsTraceOfLast content (before ++ decisions ds) d.literal d.trace
    → AreDecided content before (ds ++ d ∷ [])
decided_push content before [] d a c t = (
  subst (λ (xs : List Lit). IsConsistent (xs ++ d.literal ∷ [])) (append-nil before) c,
  subst (λ (xs : List Lit). IsTraceOfLast content xs d.literal d.trace) (append-nil before) t,
  tt,
)
decided_push content before (e ∷ es) d a c t =
    let same : before ++ decisions (e ∷ es) ≡ (before ++ e.literal ∷ []) ++ decisions es = sym (append_assoc before (e.literal ∷ []) (decisions es)) in (
      a.0,
      a.1,
      decided_push content (before ++ e.literal ∷ []) es d a.2 (subst (λ (xs : List Lit). IsConsistent (xs ++ d.literal ∷ [])) same c) (subst (λ (xs : List Lit). IsTraceOfLast content xs d.literal d.trace) same t),
    )

-- some of the literals that were asked about were decided, from one state of the trail to another
pub record Decides (more : List Lit) (ids : List ℕ) (start s : State) (rest : List Decided) : Type 0 where
  pub among : All (λ d. Contains more d.literal) rest
  pub under : (before : List Lit) → Underlies before start → Underlies (before ++ decisions rest) s
  pub traced : (places : List (ℕ × ℕ)) (before : List Lit) → AreNamed places ids start.slots → Underlies before start → AreDecided (content_at start.slots places) before rest

pub none_decided : (more : List Lit) (ids : List ℕ) (s : State) → Decides more ids s s []
none_decided more ids s = record {
  among = All-nil (λ (d : Decided). Contains more d.literal);
  under = λ before u. subst (λ (xs : List Lit). Underlies xs s) (sym (append-nil before)) u;
  traced = λ places before named u. tt;
}

pub one_decided : (more : List Lit) (ids : List ℕ) (start s new : State) (rest : List Decided) (d : Decided) (l : Lit) → s.slots ≡ start.slots → Contains more l → d.literal ≡ l
    → ((places : List (ℕ × ℕ)) (before : List Lit) → AreNamed places ids s.slots → Underlies before s → IsConsistent (before ++ l ∷ []) × IsTraceOfLast (content_at s.slots places) before l d.trace)
    → ((before : List Lit) → Underlies before s → Underlies (before ++ l ∷ []) new) → Decides more ids start s rest → Decides more ids start new (rest ++ d ∷ [])
one_decided more ids start s new rest d l slots here is traced given h = record {
  among = All-append (λ e. Contains more e.literal) rest (d ∷ []) h.among (All-cons (λ e. Contains more e.literal) d [] (subst (Contains more) (sym is) here) (All-nil (λ e. Contains more e.literal)));
  under = λ before u.
      let same : (before ++ decisions rest) ++ l ∷ [] ≡ before ++ decisions (rest ++ d ∷ []) =
      append_assoc before (decisions rest) (l ∷ []) ∙ ap (λ (xs : List Lit). before ++ xs) (ap (λ (m : Lit). decisions rest ++ m ∷ []) (sym is) ∙ sym (map-append (λ (e : Decided). e.literal) rest (d ∷ []))) in
      subst (λ (xs : List Lit). Underlies xs new) same (given (before ++ decisions rest) (h.under before u));
  traced = λ places before named u.
      let it = traced places (before ++ decisions rest) (subst (λ (os : List (Option NormalConstraint)). AreNamed places ids os) (sym slots) named) (h.under before u) in
      decided_push (content_at start.slots places) before rest d (h.traced places before named u)
      (subst (λ (m : Lit). IsConsistent ((before ++ decisions rest) ++ m ∷ [])) (sym is) it.0)
      (subst (λ (m : Lit). IsTraceOfLast (content_at start.slots places) (before ++ decisions rest) m d.trace) (sym is) (subst (λ (os : List (Option NormalConstraint)). IsTraceOfLast (content_at os places) (before ++ decisions rest) l d.trace) slots it.1));
}
