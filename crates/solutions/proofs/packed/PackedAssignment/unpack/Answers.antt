use Rattle.std.proofs.Common.{◌≡◌, ◌<◌, ◌-◌, ◌++◌, ℕ, List, Bool, get_or, length, min, take, sym, ap, ◌∙◌, arith, rules}
use Rattle.std.proofs.lemmas.List.{take_more}
use Rattle.solutions.specs.Packed.{packed_values, word_values}
use Rattle.solutions.proofs.Packing.{word_appended}
use Rattle.solutions.proofs.packed.PackedAssignment.unpack.Goals as goal

pub loop-word-preserved : goal.loop-word-preserved
loop-word-preserved c =
    let words : List ℕ = c.self.inside.words.items in
    let n : ℕ = c.self.inside.length in
    let i : ℕ = c.loop-word.word-index in
    let count : ℕ = c.min-count.result in
    let before : List Bool = packed_values (take i words) n in
    let read = c.as_slice-word-items.ensures.value in
    let inside : i < length words = omega (arith, c.loop-word-test.true, ap length read) in
    let word : ℕ = get_or words i 0 in
    let appended : c.append_values.new.values.items ≡ c.loop-word.values.items ++ word_values count (get_or c.as_slice-word-items.result.now i 0) = c.in_ok-append_values.ensures in
    let long : c.len.result ≡ length c.loop-word.values.items = search rules in
    let wanted : count ≡ min 64 (n - length before) =
    c.min-count.ensures ∙ ap (λ k. min 64 (n - k)) (long ∙ ap length c.loop-word.invariant) in
    appended
    ∙ ap (λ ws. c.loop-word.values.items ++ word_values count (get_or ws i 0)) read
    ∙ ap (λ vs. vs ++ word_values count word) c.loop-word.invariant
    ∙ sym (word_appended n (take i words) word count wanted)
    ∙ ap (λ ws. packed_values ws n) (sym (take_more words i 0 inside))
