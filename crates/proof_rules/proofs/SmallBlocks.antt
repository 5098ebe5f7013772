-- The states of the worked cases of blocks: how they become one another, and what is live in them.
use Rattle.std.proofs.Common.{◌≡◌, ◌≢◌, ℕ, ◌+◌, nat_lt, cond, [], ◌∷◌, ◌++◌, map, Option, Some, None, sym, ap, ◌∙◌}
use Rattle.std.specs.Ordering.{nat_cmp}
use Rattle.std.specs.FinMap as fin
use Rattle.std.specs.FinMap.Entries.{where_key, find-where_key}
use Rattle.std.proofs.lemmas.Cmp.{nat_cmp_total}
use Rattle.normal_form.specs.Normal.{NormalConstraint}
use Rattle.propagate.proofs.SmallContent.{Entries, placed, entries_placed}
use Rattle.proof_rules.specs.BlockCases.{block_state}
use Rattle.proof_rules.specs.State.{Block, Live, up_to, with_constraint}
use Rattle.proof_rules.proofs.LiveConstraints.{get_up_to}

-- the live constraints, computed
pub live_in : (es : Entries) → fin.values (fin.from_entries {R = nat_cmp} es) ≡ map (λ e. e.1) (placed es)
live_in es = ap (λ (ds : Entries). map (λ e. e.1) ds) (entries_placed es)

-- look-ups
pub found_at : (es : Entries) (id : ℕ) → fin.get (fin.from_entries {R = nat_cmp} es) id ≡ fin.find nat_cmp id es
found_at es id = fin.get-from_entries nat_cmp_total es id

-- one constraint more
pub pushed : (es : Entries) (next : ℕ) (k j : Option Block) (n : NormalConstraint) → fin.find nat_cmp next es ≡ None
    → block_state (es ++ (next, n) ∷ []) (next + 1) k ≡ record (with_constraint n (block_state es next j)) { block = k }
pushed es next k j n none =
    ap (λ (live : Live). record { live = live; next = next + 1; least = None; logged = []; block = k }) (fin.from_entries_push nat_cmp_total fin.nat_cmp-IsAntisymmetric es next n none)

-- the constraints under ids from a number on go
cut : (end : ℕ) (es : Entries) → fin.from_entries {R = nat_cmp} (where_key nat_cmp (λ k. nat_lt k end) es) ≡ up_to end (fin.from_entries es)
cut end es =
    fin.same_map nat_cmp_total fin.nat_cmp-IsAntisymmetric (fin.from_entries (where_key nat_cmp (λ k. nat_lt k end) es)) (up_to end (fin.from_entries es))
    (λ q. found_at (where_key nat_cmp (λ k. nat_lt k end) es) q
    ∙ find-where_key nat_cmp (λ k. nat_lt k end) q (λ x tied. ap (λ z. nat_lt z end) (sym (fin.nat_cmp-IsAntisymmetric q x tied))) es
    ∙ ap (λ o. cond (nat_lt q end) o None) (sym (found_at es q))
    ∙ sym (get_up_to (fin.from_entries es) end q))

-- a goal's constraints go
pub left : (end next : ℕ) (es : Entries) (k j : Option Block)
    → block_state (where_key nat_cmp (λ q. nat_lt q end) es) next k ≡ record (block_state es next j) { live = up_to end (block_state es next j).live; block = k }
left end next es k j = ap (λ (live : Live). record { live = live; next = next; least = None; logged = []; block = k }) (cut end es)

-- a block's constraints go, and one more comes
pub left_with : (end next : ℕ) (es : Entries) (j : Option Block) (n : NormalConstraint) → fin.find nat_cmp next (where_key nat_cmp (λ q. nat_lt q end) es) ≡ None
    → block_state (where_key nat_cmp (λ q. nat_lt q end) es ++ (next, n) ∷ []) (next + 1) None
    ≡ record (block_state es next j) { live = fin.insert (up_to end (block_state es next j).live) next n; next = next + 1; block = None }
left_with end next es j n none =
    ap (λ (live : Live). record { live = live; next = next + 1; least = None; logged = []; block = None })
    (fin.from_entries_push nat_cmp_total fin.nat_cmp-IsAntisymmetric (where_key nat_cmp (λ q. nat_lt q end) es) next n none ∙ ap (λ (live : Live). fin.insert live next n) (cut end es))

-- a block is open
pub is_open : (k : Block) → ◌≢◌ {A = Option Block} (Some k) None
is_open k same = absurd (cc)
