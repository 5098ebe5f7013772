-- A trace by ids is a chain of the constraints that have the ids, and its end is theirs.
use Rattle.std.proofs.Common.{◌≡◌, ℕ, Bool, true, false, cond, List, [], ◌∷◌, ◌++◌, Any, Option, Some, None, MatchOption, sym, subst, ◌∙◌}
use Rattle.std.specs.Ordering.{nat_cmp, eq_by_cmp}
use Rattle.std.specs.FinMap as fin
use Rattle.linear.specs.declared.term.Lit.{Lit}
use Rattle.normal_form.specs.Normal.{NormalConstraint}
use Rattle.propagate.specs.declared.trace.Trace.{Trace}
use Rattle.propagate.specs.Chain.{IsChain, LeadsToConflict}
use Rattle.propagate.specs.Content.{Content, IsFalsifiedIn, AreForcedIn, traced, IsEnd, IsTrace}
use Rattle.propagate.specs.Slack.{IsFalsified, IsForced}
use Rattle.propagate.proofs.AnyOf.{any_here, any_there}
use Rattle.propagate.proofs.Entries.{Entries, values_of}

here_or_later : (P : NormalConstraint → Type 0) (e : ℕ × NormalConstraint) (es : Entries) (b : Bool) (n : NormalConstraint) (later : Option NormalConstraint) → cond b (Some e.1) later ≡ Some n → P n → (later ≡ Some n → Any P (values_of es)) → Any P (values_of (e ∷ es))
here_or_later P e es true n later is p rest = let same : n ≡ e.1 = cc in any_here P e.1 (values_of es) (subst P same p)
here_or_later P e es false n later is p rest = any_there P e.1 (values_of es) (rest is)

found_there : (P : NormalConstraint → Type 0) (es : Entries) (k : ℕ) (n : NormalConstraint) → fin.find nat_cmp k es ≡ Some n → P n → Any P (values_of es)
found_there P [] k n is p = absurd (cc)
found_there P (e ∷ es) k n is p =
    here_or_later P e es (eq_by_cmp nat_cmp k e.0) n (fin.find nat_cmp k es) is p (λ later. found_there P es k n later p)

-- the constraint of an id is one of all
pub got_there : (P : NormalConstraint → Type 0) (content : Content) (k : ℕ) (n : NormalConstraint) → fin.get content k ≡ Some n → P n → Any P (fin.values content)
got_there P content k n is p = found_there P (fin.entries content) k n (sym (fin.get-entries content k) ∙ is) p

pub chain_traced : (content : Content) (given : List Lit) (ps : List (Lit × ℕ)) → AreForcedIn content given ps → IsChain (fin.values content) given (traced ps)
chain_traced content given [] c = tt
chain_traced content given (p ∷ ps) c =
    (got_there (IsForced given p.0) content p.1 c.0.0 c.0.1 c.0.2, chain_traced content (given ++ p.0 ∷ []) ps c.1)

pub conflict_traced : (content : Content) (given : List Lit) (t : Trace) (id : ℕ) → IsTrace content given t → t.conflict ≡ Some id → LeadsToConflict (fin.values content) given
conflict_traced content given t id h is =
    let assigned = given ++ traced t.forced in
    let falsified : IsFalsifiedIn content assigned id = subst (λ (o : Option ℕ). MatchOption o (IsEnd content given assigned) (IsFalsifiedIn content assigned)) is h.end in
    (traced t.forced, chain_traced content given t.forced h.chain, got_there (IsFalsified assigned) content id falsified.0 falsified.1 falsified.2)

pub end_traced : (content : Content) (given : List Lit) (t : Trace) → IsTrace content given t → t.conflict ≡ None → IsEnd content given (given ++ traced t.forced)
end_traced content given t h is =
    let assigned = given ++ traced t.forced in
    subst (λ (o : Option ℕ). MatchOption o (IsEnd content given assigned) (IsFalsifiedIn content assigned)) is h.end
