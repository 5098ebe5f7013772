-- The clause of a place where a literal that watches it falls, with its list.
use Rattle.std.proofs.Common.{◌≡◌, ◌≤◌, inl, inr, true, ℕ, Option, None, Some, List, [], Contains, get_or, map, ap, sym, subst, ◌∙◌, arith}
use Rattle.std.proofs.lemmas.Bool.{cases_eq, cases_lt}
use Rattle.linear.specs.declared.term.Lit.{Lit}
use Rattle.normal_form.specs.Normal.{NormalConstraint, variable_bound}
use Rattle.linear.specs.Literal.{opposite}
use Rattle.propagate.specs.Literals.{lists}
use Rattle.ledger.specs.declared.pair.Pair.{Pair}
use Rattle.ledger.specs.Falls.{IsAt, IsBeside}
use Rattle.ledger.specs.Watched.{AreLiteralsOf, AreOthersFalse, AreRestFalse, AreWatched, AreWithin, IsFalseBeside, IsOpenAt, IsOpenBeside, IsPairOf, Tell, Watching, pair_of}
use Rattle.ledger.proofs.ClauseLists.{first_is, pair_at, second_is}
use Rattle.ledger.proofs.FallingRows.{variable_below}
use Rattle.ledger.proofs.WatchMoves.{beside_some}
use Rattle.ledger.proofs.WatchedQuiet.{whole}

-- two literals watch the clause, and its list begins with them
pub record IsWatchedHere (slots : List (Option NormalConstraint)) (assigned : List Lit) (variables : ℕ) (w : Watching) (place : ℕ) (fallen other : Lit) (ls : List Lit) : Type 0 where
  pub clause : NormalConstraint
  pub pair : Pair
  pub at : IsAt slots w.pairs place clause pair
  pub beside : IsBeside (Some pair) fallen other
  pub first_two : pair_of ls ≡ Some pair
  pub same : ls ≡ get_or w.literals place []
  pub listed : AreLiteralsOf clause ls
  pub of_it : IsPairOf clause pair
  pub tell : Tell assigned clause pair
  pub within : AreWithin variables ls

pub watched_here : (slots : List (Option NormalConstraint)) (assigned : List Lit) (variables : ℕ) (w : Watching) (inside : List (List Lit)) (place : ℕ) (fallen other : Lit) (ls : List Lit) → AreWatched slots assigned variables w
    → ((k : ℕ) (m : NormalConstraint) → get_or slots k None ≡ Some m → variable_bound m.terms ≤ variables) → map pair_of inside ≡ w.pairs → inside ≡ w.literals → ls ≡ get_or inside place [] → IsBeside (get_or w.pairs place None) fallen other
    → IsWatchedHere slots assigned variables w place fallen other ls
watched_here slots assigned variables w inside place fallen other ls a within pairs lists is beside =
    let found = beside_some (get_or w.pairs place None) fallen other beside in
    let clause = a.there place found.0 found.1 in
    let n : NormalConstraint = clause.0 in
    let slot = clause.1 in
    let i = a.each place n found.0 slot found.1 in
    let same : ls ≡ get_or w.literals place [] = is ∙ ap (λ (xs : List (List Lit)). get_or xs place []) lists in
    let listed : AreLiteralsOf n ls = subst (AreLiteralsOf n) (sym same) (a.listed place n found.0 slot found.1) in
    record {
      clause = n;
      pair = found.0;
      at = (slot, found.1);
      beside = found.2;
      first_two = ap pair_of is ∙ sym (pair_at inside place) ∙ ap (λ (ps : List (Option Pair)). get_or ps place None) pairs ∙ found.1;
      same = same;
      listed = listed;
      of_it = i.of_it;
      tell = whole assigned n found.0 i.tell;
      within = λ k d low. variable_below n (get_or ls k d) variables (listed.own k d low) (within place n slot);
    }

-- the literals behind the first two are all but two
pub others_of_rest : (xs : List Lit) (n : NormalConstraint) (ls : List Lit) (p : Pair) (fallen other : Lit) → AreLiteralsOf n ls → pair_of ls ≡ Some p → IsBeside (Some p) fallen other → AreRestFalse xs ls (record { first = fallen; second = other })
    → AreOthersFalse xs n (record { first = fallen; second = other })
others_of_rest xs n ls p fallen other a two beside rest l some not_fallen not_other = by (a.all l some)
  where
    apart : IsBeside (Some p) fallen other → ((l ≡ p.first → ⊥) × (l ≡ p.second → ⊥))
    apart (inl b) = (λ e. not_fallen (e ∙ b.0), λ e. not_other (e ∙ b.1))
    apart (inr b) = (λ e. not_other (e ∙ b.1), λ e. not_fallen (e ∙ b.0))

    by : Contains ls l → lists xs (opposite l) ≡ true
    by (k, low, is) = elim (cases_lt k 2) [
      | inl early ↦ elim (cases_eq k 1) [
        | inl e ↦ absurd ((apart beside).1 (sym (sym (second_is ls p l two) ∙ ap (λ (j : ℕ). get_or ls j l) (sym e) ∙ is)))
        | inr differs ↦ absurd ((apart beside).0 (sym (sym (first_is ls p l two) ∙ ap (λ (j : ℕ). get_or ls j l) (omega (arith, early, differs, cases_eq k 1)) ∙ is)))
      ]
      | inr late ↦ subst (IsFalseBeside xs (record { first = fallen; second = other })) is (rest k l late low) not_fallen not_other
    ]

-- an open literal of the list is one of the clause
pub open_of_list : (xs : List Lit) (n : NormalConstraint) (ls : List Lit) (p : Pair) (index : ℕ) (d : Lit) → AreLiteralsOf n ls → IsOpenAt xs ls p index → IsOpenBeside xs n p (get_or ls index d)
open_of_list xs n ls p index d a o = record { occurs = a.own index d o.below; unset = o.unset d; not_first = (o.apart d).0; not_second = (o.apart d).1 }
