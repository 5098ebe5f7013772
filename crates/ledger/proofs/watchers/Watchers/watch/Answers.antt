-- Two entries more, where they are not there yet.
use Rattle.std.proofs.Common.{◌≡◌, ℕ, List, length, ap, sym, subst, ◌∙◌}
use Rattle.std.proofs.lemmas.List.{length-map}
use Rattle.ledger.specs.Watched.{Watching, pair_of}
use Rattle.ledger.proofs.RowPlaces.{AreTwoPut, on_ok_anyway}
use Rattle.ledger.proofs.watchers.Watchers.watch.Goals as goal

pub returns-in_err-put_once-2-clause-kept : goal.returns-in_err-put_once-2-clause-kept
returns-in_err-put_once-2-clause-kept c = λ l k s. c.put_once-2.ensures.kept l k (c.put_once.ensures.kept l k s)

both : (c : goal.After-push) → AreTwoPut c.args.self.now.rows c.self-2.inside.rows c.args.pair (length c.args.self.now.pairs)
both c =
    let place : c.len-place.result ≡ length c.args.self.now.pairs = c.len-place.ensures ∙ sym (length-map c.self.inside.literals pair_of) ∙ ap (λ (w : Watching). length w.pairs) c.self.view_is in
    let same : c.put_once-2.new.self.rows ≡ c.self-2.inside.rows = sym (ap (λ (w : Watching). w.rows) c.self-2.view_is) in
    subst (λ (k : ℕ). AreTwoPut c.args.self.now.rows c.self-2.inside.rows c.args.pair k) place
    (subst (λ (rows : List (List ℕ)). AreTwoPut c.args.self.now.rows rows c.args.pair c.len-place.result) same (record {
      kept = λ l k s. c.put_once-2.ensures.kept l k (c.put_once.ensures.kept l k s);
      first = c.put_once-2.ensures.kept c.args.pair.first c.len-place.result c.in_ok-put_once.ensures.there;
      second = c.in_ok-put_once-2.ensures.there;
    }))

pub returns-clause-kept : goal.returns-clause-kept
returns-clause-kept c = (both c).kept

pub returns-clause-first_there : goal.returns-clause-first_there
returns-clause-first_there c = on_ok_anyway c.push.result (both c).first

pub returns-clause-second_there : goal.returns-clause-second_there
returns-clause-second_there c = on_ok_anyway c.push.result (both c).second
