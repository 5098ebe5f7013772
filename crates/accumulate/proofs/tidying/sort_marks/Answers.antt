-- The filter keeps what is live, the sort its order, and the last step each once.
use Rattle.std.proofs.Common.{rules, ◌≡◌, ℕ, List, true, subst, sym}
use Rattle.std.specs.Prelude.{All}
use Rattle.std.specs.List.{filter}
use Rattle.std.proofs.lemmas.Fn.{filter_same}
use Rattle.std.proofs.lemmas.List.Filters.{dedup_is}
use Rattle.std.proofs.lemmas.List.Sorted.{All-permutation}
use Rattle.accumulate.specs.Nets.{AreTidy, IsMarked, is_live}
use Rattle.accumulate.proofs.Taking.{marked_permuted}
use Rattle.accumulate.proofs.Tidied.{all_live, each_once, kept_live}
use Rattle.accumulate.proofs.tidying.sort_marks.Goals as goal

pub returns-in_err-sort-clause-marks : goal.returns-in_err-sort-clause-marks
returns-in_err-sort-clause-marks c =
    let kept : c.retain.new.self.items ≡ filter (is_live c.args.nets.now.items) c.args.touched.now.items = filter_same _ _ _ (λ x b f' k. search rules) _ _ c.retain.ensures.filtered in
    marked_permuted c.retain.new.self.items c.sort.new.self.items c.args.nets.now.items c.sort.ensures.permutation (subst (λ (xs : List ℕ). IsMarked xs c.args.nets.now.items) (sym kept) (kept_live c.args.touched.now.items c.args.nets.now.items c.requires.marks))

pub returns-clause-tidy : goal.returns-clause-tidy
returns-clause-tidy c =
    let ns : List _ = c.args.nets.now.items in
    let kept : c.retain.new.self.items ≡ filter (is_live ns) c.args.touched.now.items = filter_same _ _ _ (λ x b f' k. search rules) _ _ c.retain.ensures.filtered in
    let marked : IsMarked c.sort.new.self.items ns = marked_permuted c.retain.new.self.items c.sort.new.self.items ns c.sort.ensures.permutation (subst (λ (xs : List ℕ). IsMarked xs ns) (sym kept) (kept_live c.args.touched.now.items ns c.requires.marks)) in
    let live : All (λ v. is_live ns v ≡ true) c.sort.new.self.items = All-permutation (λ v. is_live ns v ≡ true) c.retain.new.self.items c.sort.new.self.items c.sort.ensures.permutation (subst (λ (xs : List ℕ). All (λ v. is_live ns v ≡ true) xs) (sym kept) (all_live c.args.touched.now.items ns)) in
    subst (λ (xs : List ℕ). AreTidy xs ns) (sym (dedup_is _ c.sort.new.self.items c.dedup.new.self.items c.dedup.ensures.filtered)) (each_once c.sort.new.self.items ns c.in_ok-sort.ensures.sorted marked live)

pub returns-clause-marks : goal.returns-clause-marks
returns-clause-marks c = (returns-clause-tidy c).marked
