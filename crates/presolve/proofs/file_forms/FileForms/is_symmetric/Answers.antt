use Rattle.std.proofs.Common.{◌≡◌, ◌<◌, ℕ, List, get_or, length, subst, sym, ◌∙◌}
use Rattle.std.proofs.lemmas.List.{get_or_default}
use Rattle.std.proofs.lemmas.Bool.{false≢true}
use Rattle.presolve.proofs.Symmetry.{at_places, symmetric_by}
use Rattle.presolve.proofs.Weighing.{equally_heavy}
use Rattle.presolve.proofs.file_forms.FileForms.is_symmetric.Goals as goal

pub returns-in_ok-all_exchange-2 : goal.returns-in_ok-all_exchange-2
returns-in_ok-all_exchange-2 c cs are =
    let keys = c.args.self.now.keys.keys in
    let table = c.args.self.now.places.items in
    let placed = c.requires.indexed.places in (
      λ e. symmetric_by cs keys (length table) table (c.args.x.0) (c.args.y.0) are placed c.requires.first c.requires.second (c.in_ok-all_exchange.ensures.0 c.if-branch.true) (c.in_ok-all_exchange-2.ensures.0 e),
      λ symmetric. c.in_ok-all_exchange-2.ensures.1 (at_places cs keys (length table) table (c.args.x.0) (c.args.y.0) (c.args.y.0) are placed c.requires.second symmetric),
    )

pub returns-else-branch : goal.returns-else-branch
returns-else-branch c cs are =
    let keys = c.args.self.now.keys.keys in
    let table = c.args.self.now.places.items in (
      λ e. absurd (false≢true (sym c.if-branch.false ∙ e)),
      λ symmetric. c.in_ok-all_exchange.ensures.1 (at_places cs keys (length table) table (c.args.x.0) (c.args.y.0) (c.args.x.0) are c.requires.indexed.places c.requires.first symmetric),
    )

pub returns-then-index : goal.returns-then-index
returns-then-index c cs are =
    let keys = c.args.self.now.keys.keys in
    let ws : List ℕ = c.args.self.now.weights.items in
    let indexed = c.requires.indexed in
    let weight_of = λ (v : ℕ) (w : ℕ) (h : v < length c.args.self.now.places.items) (is : w ≡ get_or ws v w). is ∙ get_or_default ws v w 0 (subst (λ n. v < n) (sym indexed.weighed) h) ∙ indexed.weights v h in (
      λ e. absurd (false≢true e),
      λ symmetric. absurd (c.if-index.true (weight_of (c.args.x.0) c.index.result.now c.requires.first c.index.ensures ∙ equally_heavy cs keys (c.args.x.0) (c.args.y.0) are symmetric
          ∙ sym (weight_of (c.args.y.0) c.index-2.result.now c.requires.second c.index-2.ensures))),
    )
