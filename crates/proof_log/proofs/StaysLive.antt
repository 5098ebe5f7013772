-- Steps that spare the file's constraints, and the one that asks for a better solution, leave these live.
use Rattle.std.proofs.Common.{◌≡◌, ◌≢◌, ℕ, zero, suc, ◌+◌, ◌<◌, ◌≤◌, inl, inr, ℤ, pos, ◌-ℤ◌, Bool, true, false, cond, List, [], ◌∷◌, length, get_or, All, Contains, Option, Some, None, IfSome, refl, sym, ap, subst, ◌∙◌, arith}
use Rattle.std.specs.declared.cmp.Ordering.TheVariants.{Less, Equal, Greater}
use Rattle.std.specs.Ordering.{nat_cmp, eq_by_cmp, is_eq}
use Rattle.std.specs.Cmp.{nat_cmp_is}
use Rattle.std.specs.List.{slice_get}
use Rattle.std.specs.FinMap as fin
use Rattle.std.proofs.lemmas.Bool.{cases_lt}
use Rattle.std.proofs.lemmas.Cmp.{nat_cmp_total}
use Rattle.std.proofs.lemmas.List.Elements.{All-head, All-tail}
use Rattle.linear.specs.Opb.{Opb}
use Rattle.linear.specs.declared.term.Lit.{Lit}
use Rattle.linear.specs.declared.term.Term.{Term}
use Rattle.normal_form.specs.Normal.{NormalConstraint}
use Rattle.normal_form.specs.NormalOf.{IsNormalOf}
use Rattle.proof_steps.specs.declared.step.Step.{Step}
use Rattle.proof_steps.specs.declared.step.Step.TheVariants as kinds
use Rattle.proof_rules.specs.Block.{EndsOpen, new_block, with_block, with_goal}
use Rattle.proof_rules.specs.Forms.{problem_ids}
use Rattle.proof_rules.specs.Legal.{Legal, LegalDel, LegalSoli, Adds, without, with_improvement, worth_of}
use Rattle.proof_rules.specs.Solution.{at_most}
use Rattle.proof_rules.specs.State.{State, Block, Live, IsStart, constraints, id_of, numbered, up_to, with_constraint}
use Rattle.proof_rules.proofs.FileForms.{all_count}
use Rattle.proof_rules.proofs.LiveConstraints.{Any-from_get, found_up_to, key_of}
use Rattle.proof_log.specs.Kept.{AsksForLess, FileIsLive, FileStands, ImprovementIsLive, ImprovementStands, IsSpare, KeepsLive, Spares, first_gone}
use Rattle.proof_log.specs.Log.{ImprovesNothing, Logbook, StepBites}

same_key : (k q : ℕ) → k ≡ q → eq_by_cmp nat_cmp k q ≡ true
same_key k q h = ap is_eq (sym (nat_cmp_is k q Equal h))

higher_key : (k q : ℕ) → q < k → eq_by_cmp nat_cmp k q ≡ false
higher_key k q h = ap is_eq (sym (nat_cmp_is k q Greater h))

lower_key : (k q : ℕ) → k < q → eq_by_cmp nat_cmp k q ≡ false
lower_key k q h = ap is_eq (sym (nat_cmp_is k q Less h))

other_key : (k q : ℕ) → (k ≡ q → ⊥) → eq_by_cmp nat_cmp k q ≡ false
other_key k q other = by (eq_by_cmp nat_cmp k q) refl
  where
    by : (b : Bool) → eq_by_cmp nat_cmp k q ≡ b → eq_by_cmp nat_cmp k q ≡ false
    by false e = e
    by true e = absurd (other (key_of k q e))

find_numbered : (id k q : ℕ) (ns : List NormalConstraint) → q ≡ id + k → fin.find nat_cmp q (numbered id ns) ≡ slice_get ns k
find_numbered id k q [] h = refl
find_numbered id zero q (n ∷ ns) h = ap (λ b. cond b (Some n) (fin.find nat_cmp q (numbered (id + 1) ns))) (same_key q id (omega (arith, h)))
find_numbered id (suc k) q (n ∷ ns) h =
    ap (λ b. cond b (Some n) (fin.find nat_cmp q (numbered (id + 1) ns))) (higher_key q id (omega (arith, h)))
    ∙ find_numbered (id + 1) k q ns (omega (arith, h))

-- an element's place is within the list
in_list : (ns : List NormalConstraint) (i : ℕ) (n : NormalConstraint) → slice_get ns i ≡ Some n → i < length ns
in_list [] i n h = absurd (cc)
in_list (m ∷ ms) zero n h = omega arith
in_list (m ∷ ms) (suc i) n h = omega (arith, in_list ms i n h)

at_place : (ns : List NormalConstraint) (i : ℕ) (d : NormalConstraint) → i < length ns → slice_get ns i ≡ Some (get_or ns i d)
at_place [] i d h = absurd (omega (arith, h))
at_place (m ∷ ms) zero d h = refl
at_place (m ∷ ms) (suc i) d h = at_place ms i d (omega (arith, h))

file_first : (p : Opb) (s : State) → IsStart p s → FileStands p s
file_first p s (ns, forms, is) =
    subst (FileStands p) (sym is)
    (ns, forms, omega arith, λ i n here. fin.get-from_entries nat_cmp_total (numbered 1 ns) (i + 1) ∙ find_numbered 1 i (i + 1) ns (omega arith) ∙ here)

-- one more, under the next id
file_added : (p : Opb) (s : State) (m : NormalConstraint) → FileStands p s → FileStands p (with_constraint m s)
file_added p s m (ns, forms, below, there) = (
  ns,
  forms,
  omega (arith, below),
  λ i n here.
      fin.get-insert nat_cmp_total s.live s.next m (i + 1)
      ∙ ap (λ b. cond b (Some m) (fin.get s.live (i + 1))) (lower_key (i + 1) s.next (omega (arith, in_list ns i n here, below))) ∙ there i n here,
)

-- one less, of an id behind them
file_removed : (p : Opb) (s : State) (id : ℕ) → problem_ids p.constraints < id → FileStands p s → FileStands p (without id s)
file_removed p s id behind (ns, forms, below, there) = (
  ns,
  forms,
  below,
  λ i n here.
      fin.get-remove nat_cmp_total s.live id (i + 1)
      ∙ ap (λ b. cond b None (fin.get s.live (i + 1))) (lower_key (i + 1) id (omega (arith, in_list ns i n here, all_count p.constraints ns forms, behind))) ∙ there i n here,
)

weaker : {X : Type 0} (o : Option X) (P Q : X → Type 0) → ((x : X) → P x → Q x) → IfSome o P → IfSome o Q
weaker None P Q f h = tt
weaker (Some x) P Q f h = f x h

-- the constraint of this id asks for less than a value
abbrev Asks : Option ℕ → State → List Term → ℤ → Type 0
Asks asking s objective least = (id : ℕ) × (asking ≡ Some id) × AsksForLess objective least s id

improvement_kept : (p : Opb) (asking : Option ℕ) (s t : State) → t.least ≡ s.least
    → ((objective : List Term) (least : ℤ) (id : ℕ) → asking ≡ Some id → AsksForLess objective least s id → AsksForLess objective least t id)
    → ImprovementStands p asking s → ImprovementStands p asking t
improvement_kept p asking s t same keeps h =
    weaker p.objective (λ objective. IfSome s.least (Asks asking s objective)) (λ objective. IfSome t.least (Asks asking t objective))
    (λ objective f. subst (λ o. IfSome o (Asks asking t objective)) (sym same)
    (weaker s.least (Asks asking s objective) (Asks asking t objective) (λ least a. (a.0, a.1, keeps objective least a.0 a.1 a.2)) f)) h

improvement_added : (p : Opb) (asking : Option ℕ) (s : State) (m : NormalConstraint) → ImprovementStands p asking s → ImprovementStands p asking (with_constraint m s)
improvement_added p asking s m =
    improvement_kept p asking s (with_constraint m s) refl (λ objective least id is a. (
      omega (arith, a.0),
      a.1,
      fin.get-insert nat_cmp_total s.live s.next m id ∙ ap (λ b. cond b (Some m) (fin.get s.live id)) (lower_key id s.next a.0) ∙ a.2,
      a.3,
    ))

improvement_removed : (p : Opb) (asking : Option ℕ) (s : State) (gone : ℕ) → asking ≢ Some gone → ImprovementStands p asking s → ImprovementStands p asking (without gone s)
improvement_removed p asking s gone other =
    improvement_kept p asking s (without gone s) refl (λ objective least id is a. (
      a.0,
      a.1,
      fin.get-remove nat_cmp_total s.live gone id ∙ ap (λ b. cond b None (fin.get s.live id)) (other_key id gone (λ e. other (is ∙ ap Some e))) ∙ a.2,
      a.3,
    ))

-- without the constraints from an id on, and with another block, or none
abbrev ended : ℕ → Option Block → State → State
ended end block s = record s { live = up_to end s.live; block = block }

-- both stand
abbrev Stand : Opb → Option ℕ → State → Type 0
Stand p asking s = FileStands p s × ImprovementStands p asking s

stand_added : (p : Opb) (asking : Option ℕ) (s t : State) (m : NormalConstraint) → Stand p asking s → Adds m s t → Stand p asking t
stand_added p asking s t m (file, improvement) (room, is) =
    subst (Stand p asking) (sym is) (file_added p s m file, improvement_added p asking s m improvement)

stand_deleted : (p : Opb) (asking : Option ℕ) (s t : State) (ids : List ℤ) → All (λ id. IsSpare p asking (id_of s.next id)) ids → Stand p asking s → LegalDel s ids t → Stand p asking t
stand_deleted p asking s t [] spare stand same = subst (Stand p asking) (sym same) stand
stand_deleted p asking s t (id ∷ ids) spare (file, improvement) (deletable, rest) =
    let gone = id_of s.next id in
    let first : IsSpare p asking gone = All-head (λ k. IsSpare p asking (id_of s.next k)) id ids spare in
    stand_deleted p asking (without gone s) t ids (All-tail (λ k. IsSpare p asking (id_of s.next k)) id ids spare)
    (file_removed p s gone first.0 file, improvement_removed p asking s gone first.1 improvement) rest

-- a negation is added, and a block opened or changed
stand_in_block : (p : Opb) (asking : Option ℕ) (s t : State) (k : Block) (m : NormalConstraint) → Stand p asking s → t ≡ with_block k m s → Stand p asking t
stand_in_block p asking s t k m (file, improvement) is =
    subst (Stand p asking) (sym is) (file_added p s m file, improvement_added p asking s m improvement)

-- what is spare from an id on goes
file_up_to : (p : Opb) (s : State) (end : ℕ) (block : Option Block) → ((id : ℕ) → end ≤ id → problem_ids p.constraints < id) → FileStands p s → FileStands p (ended end block s)
file_up_to p s end block behind (ns, forms, below, there) =
    (ns, forms, below, λ i n here. found_up_to s.live end (i + 1) n (before i (in_list ns i n here)) (there i n here))
  where
    before : (i : ℕ) → i < length ns → i + 1 < end
    before i inside = elim (cases_lt (i + 1) end) as (λ _. i + 1 < end) [
      | inl less ↦ less
      | inr gone ↦ absurd (omega (arith, inside, all_count p.constraints ns forms, behind (i + 1) gone))
    ]

improvement_up_to : (p : Opb) (asking : Option ℕ) (s : State) (end : ℕ) (block : Option Block) → ((id : ℕ) → end ≤ id → asking ≢ Some id) → ImprovementStands p asking s → ImprovementStands p asking (ended end block s)
improvement_up_to p asking s end block behind =
    improvement_kept p asking s (ended end block s) refl (λ objective least id is a. (a.0, a.1, found_up_to s.live end id a.1 (before id is) a.2, a.3))
  where
    before : (id : ℕ) → asking ≡ Some id → id < end
    before id is = elim (cases_lt id end) as (λ _. id < end) [ inl less ↦ less | inr gone ↦ absurd (behind id gone is) ]

stand_up_to : (p : Opb) (asking : Option ℕ) (s : State) (end : ℕ) (block : Option Block) → ((id : ℕ) → end ≤ id → IsSpare p asking id) → Stand p asking s → Stand p asking (ended end block s)
stand_up_to p asking s end block spare (file, improvement) =
    (file_up_to p s end block (λ id h. (spare id h).0) file, improvement_up_to p asking s end block (λ id h. (spare id h).1) improvement)

-- what a block's end spares
abbrev EndSpares : Opb → Option ℕ → Block → Type 0
EndSpares p asking k = (id : ℕ) → first_gone k.first k.goal ≤ id → IsSpare p asking id

stand_ended : (p : Opb) (asking : Option ℕ) (s t : State) (k : Block) → Stand p asking s → (o : Option ℕ) → ((id : ℕ) → first_gone k.first o ≤ id → IsSpare p asking id) → EndsOpen p s k o t → Stand p asking t
stand_ended p asking s t k stand (Some goal) spare (shown, is) =
    subst (Stand p asking) (sym is) (stand_up_to p asking s goal (Some (record k { goal = None })) spare stand)
stand_ended p asking s t k stand None spare ends =
    let left : Stand p asking (ended k.first None s) = stand_up_to p asking s k.first None spare stand in
    subst (Stand p asking) (sym ends.becomes)
    (file_added p (ended k.first None s) k.constraint left.0, improvement_added p asking (ended k.first None s) k.constraint left.1)

stand_step : (l : Logbook) (t : State) (step : Step) → Stand l.problem l.asking l.state → Spares l step → ImprovesNothing step → Legal l.problem l.state step t → Stand l.problem l.asking t
stand_step l t (kinds.Pol items) stand spares other (m, written, adds) = stand_added l.problem l.asking l.state t m stand adds
stand_step l t (kinds.Rup c) stand spares other (m, admitted, shown, adds) = stand_added l.problem l.asking l.state t m stand adds
stand_step l t (kinds.Red c images) stand spares other (outside, (m, k, admitted, redundant, adds)) = stand_added l.problem l.asking l.state t m stand adds
stand_step l t (kinds.Sol assigned) stand spares other (outside, (g, logs, is)) = subst (Stand l.problem l.asking) (sym is) stand
stand_step l t (kinds.Soli assigned) stand spares other legal = absurd other
stand_step l t (kinds.Del ids) stand spares other (outside, legal) = stand_deleted l.problem l.asking l.state t ids spares stand legal
stand_step l t (kinds.RedBegin c images) stand spares other (outside, (n, m, admitted, negated, fits, room, is)) =
    stand_in_block l.problem l.asking l.state t (new_block n images l.state.next) m stand is
stand_step l t (kinds.Goal name) stand spares other (k, r, m, some, none, asks, negated, fits, room, is) =
    stand_in_block l.problem l.asking l.state t (with_goal l.state.next name k) m stand is
stand_step l t kinds.End stand spares other (k, some, ends) =
    stand_ended l.problem l.asking l.state t k stand k.goal (subst (λ o. IfSome o (EndSpares l.problem l.asking)) some spares) ends

-- what bites deletes nothing
pub spares_biting : (l : Logbook) (step : Step) → StepBites l.state step → Spares l step
spares_biting l (kinds.Pol items) bites = tt
spares_biting l (kinds.Rup c) bites = tt
spares_biting l (kinds.Red c images) bites = absurd bites
spares_biting l (kinds.Sol assigned) bites = absurd bites
spares_biting l (kinds.Soli assigned) bites = absurd bites
spares_biting l (kinds.Del ids) bites = absurd bites
spares_biting l (kinds.RedBegin c images) bites = absurd bites
spares_biting l (kinds.Goal name) bites = absurd bites
spares_biting l kinds.End bites = absurd bites

-- where nothing was logged as an improving solution yet
pub kept_first : (l : Logbook) → IsStart l.problem l.state → KeepsLive l
kept_first l start = record {
  file = file_first l.problem l.state start;
  improvement = nothing l.problem.objective l.state.least (ap (λ (u : State). u.least) start.2);
}
  where
    nothing : (o : Option (List Term)) (least : Option ℤ) → least ≡ None → IfSome o (λ objective. IfSome least (Asks l.asking l.state objective))
    nothing None least is = tt
    nothing (Some objective) least is = subst (λ z. IfSome z (Asks l.asking l.state objective)) (sym is) tt

-- a step that spares them
pub kept_spared : (l : Logbook) (step : Step) (t : State) → KeepsLive l → Spares l step → ImprovesNothing step → Legal l.problem l.state step t → KeepsLive (record l { state = t })
kept_spared l step t kept spares other legal =
    let stand = stand_step l t step (kept.file, kept.improvement) spares other legal in record { file = stand.0; improvement = stand.1 }

-- a better solution, which brings the constraint that is asked of from then on
pub kept_improved : (l : Logbook) (assigned : List Lit) (t : State) → KeepsLive l → LegalSoli l.problem l.state assigned t
    → KeepsLive (record l { state = t; asking = Some l.state.next })
kept_improved l assigned t kept (objective, g, m, improves, is) =
    let p : Opb = l.problem in
    let s : State = l.state in
    record {
      file = subst (FileStands p) (sym is) (file_added p s m kept.file);
      improvement = subst (ImprovementStands p (Some s.next)) (sym is)
          (subst (λ o. IfSome o (λ xs. IfSome (Some (worth_of p g)) (Asks (Some s.next) (with_improvement p g m s) xs))) (sym improves.minimises) (
            s.next,
            refl,
            (
              omega arith,
              m,
              fin.get-insert nat_cmp_total s.live s.next m s.next ∙ ap (λ b. cond b (Some m) (fin.get s.live s.next)) (same_key s.next s.next refl),
              improves.form,
            ),
          ));
    }

-- what is found under an id is a live constraint
found_live : (live : Live) (id : ℕ) (n : NormalConstraint) → fin.get live id ≡ Some n → Contains (fin.values live) n
found_live live id n is =
    let a = Any-from_get (λ (x : NormalConstraint). x ≡ n) live id n is refl in
    subst (Contains (fin.values live)) a.4 (a.0, a.2, a.3)

pub file_live : (l : Logbook) → KeepsLive l → FileIsLive l.problem (constraints l.state)
file_live l kept = by kept.file
  where
    by : FileStands l.problem l.state → FileIsLive l.problem (constraints l.state)
    by (ns, forms, below, there) = (ns, forms, λ n here. found_live l.state.live (here.0 + 1) n (there here.0 n (at_place ns here.0 n here.1 ∙ ap Some here.2)))

pub improvement_live : (l : Logbook) (objective : List Term) → KeepsLive l → l.problem.objective ≡ Some objective → ImprovementIsLive objective l.state
improvement_live l objective kept is =
    let h : IfSome l.state.least (Asks l.asking l.state objective) =
    subst (λ o. IfSome o (λ xs. IfSome l.state.least (Asks l.asking l.state xs))) is kept.improvement in
    weaker l.state.least (Asks l.asking l.state objective)
    (λ least. (n : NormalConstraint) × IsNormalOf (at_most objective (least -ℤ pos 1)) n × Contains (constraints l.state) n)
    (λ least a. (a.2.1, a.2.3, found_live l.state.live a.0 a.2.1 a.2.2)) h
