-- A deletion gives no id, and it is legal where its constraints are live and differ.
use Rattle.std.proofs.Common.{◌≡◌, ◌≢◌, ◌≤◌, ℕ, ℤ, pos, false, List, [], ◌∷◌, ◌++◌, All, sym, ap, subst, ◌∙◌}
use Rattle.std.proofs.lemmas.Bool.{false≢true}
use Rattle.std.proofs.lemmas.List.Elements.{All-append, All-cons, All-nil, All-weaker}
use Rattle.std.proofs.lemmas.List.Quantifiers.{all_pairs_push}
use Rattle.std.specs.FinMap as map
use Rattle.std.specs.FinSet as set
use Rattle.std.specs.Prelude.{IsSome}
use Rattle.pb_text.specs.Number.{largest_number}
use Rattle.propagate.specs.Ids.{HasId, IdSet}
use Rattle.propagate.proofs.Gathered.{inserted_here, inserted_keeps}
use Rattle.proof_text.specs.Writable.{IsWritable}
use Rattle.proof_log.specs.Deleting.{AreNoted}
use Rattle.proof_log.specs.Kept.{IsSpare}
use Rattle.proof_log.specs.Log.{Logbook}
use Rattle.linear.specs.Opb.{Opb}
use Rattle.proof_rules.specs.Legal.{LegalDel, without}
use Rattle.proof_rules.specs.State.{State, constraint_of, id_of}

pub next_stays : (p : Opb) (s t : State) (ids : List ℤ) → LegalDel s ids t → t.next ≡ s.next
next_stays p s t [] same = ap (λ (u : State). u.next) same
next_stays p s t (id ∷ ids) (deletable, rest) = next_stays p (without (id_of s.next id) s) t ids rest

one_more : (P : ℤ → Type 0) (numbers : List ℤ) (id : ℕ) → All P numbers → P (pos id) → All P (numbers ++ pos id ∷ [])
one_more P numbers id all here = All-append P numbers (pos id ∷ []) all (All-cons P (pos id) [] here (All-nil P))

-- one more, which was not noted yet
pub noted_more : (l : Logbook) (numbers : List ℤ) (seen new : IdSet) (id : ℕ) → AreNoted l numbers seen → IsSpare l.problem l.asking id → IsSome (map.get l.state.live id) → set.contains seen id ≡ false
    → id ≤ largest_number → new ≡ set.insert seen id → AreNoted l (numbers ++ pos id ∷ []) new
noted_more l numbers seen new id before spare live unseen small put = record {
  spare = one_more (λ number. IsSpare l.problem l.asking (id_of l.state.next number)) numbers id before.spare spare;
  at_once = record {
    each = one_more (λ number. IsSome (constraint_of l.state number)) numbers id before.at_once.each live;
    apart = all_pairs_push (λ number other. id_of l.state.next number ≢ id_of l.state.next other) numbers (pos id) before.at_once.apart
        (λ k d low same. false≢true (sym unseen ∙ subst (HasId seen) same (before.seen_all k d low)));
  };
  writable = one_more IsWritable numbers id before.writable small;
  seen_all = one_more (λ number. HasId new (id_of l.state.next number)) numbers id
      (All-weaker (λ number. HasId seen (id_of l.state.next number)) (λ number. HasId new (id_of l.state.next number))
      (λ number h. subst (λ s. HasId s (id_of l.state.next number)) (sym put) (inserted_keeps seen id (id_of l.state.next number) h)) numbers before.seen_all)
      (subst (λ s. HasId s id) (sym put) (inserted_here seen id));
}
