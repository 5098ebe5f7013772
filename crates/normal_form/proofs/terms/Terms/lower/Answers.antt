-- The term stands among the packed ones, or behind them.
use Rattle.std.proofs.Common.{◌≡◌, ℕ, ◌∙◌, ◌++◌, ◌+◌, ◌-◌, ◌<◌, ◌≤◌, ap, sym, arith, List, map, set, length, get_or, length-append}
use Rattle.std.proofs.lemmas.List.{length-map, get_or_append_left, get_or-map}
use Rattle.normal_form.specs.declared.term.NormalTerm.{NormalTerm}
use Rattle.normal_form.specs.declared.terms.PackedTerm.{PackedTerm}
use Rattle.normal_form.specs.declared.wide_term.WideTerm.{WideTerm}
use Rattle.normal_form.specs.Terms.{unpacked, widened, with_coefficient}
use Rattle.normal_form.proofs.Coefficients.{with_made, with_before, with_behind}
use Rattle.normal_form.proofs.terms.Terms.lower.Goals as goal

-- a packed term has the coefficient of its place
packed_at : (ps : List PackedTerm) (rest ts : List NormalTerm) (i c : ℕ) (p : PackedTerm) → i < length ps → p ≡ get_or ps i p → map unpacked ps ++ rest ≡ ts → ((d : NormalTerm) → c ≤ (get_or ts i d).coef) → c ≤ (unpacked p).coef
packed_at ps rest ts i c p h e v k =
    let first : get_or (map unpacked ps ++ rest) i (unpacked p) ≡ get_or (map unpacked ps) i (unpacked p) = get_or_append_left (map unpacked ps) rest (unpacked p) i (omega (arith, h, length-map ps unpacked)) in
    let second : get_or (map unpacked ps) i (unpacked p) ≡ unpacked (get_or ps i p) = get_or-map unpacked ps i p (unpacked p) h in
    let whole : get_or ts i (unpacked p) ≡ unpacked p = ap (λ (us : List NormalTerm). get_or us i (unpacked p)) (sym v) ∙ first ∙ second ∙ ap unpacked (sym e) in
    omega (arith, k (unpacked p), ap (λ (t : NormalTerm). t.coef) whole)

pub lowered-requires : goal.lowered-requires
lowered-requires c = packed_at c.self.inside.packed.items (map widened c.self.inside.rest.items) c.args.self.now c.args.place c.args.coef c.index.result.now (omega arith) c.index.ensures c.self.view_is c.requires.no_greater

pub returns-then-place-packed : goal.returns-then-place-packed
returns-then-place-packed c =
    let ps : List PackedTerm = c.self.inside.packed.items in
    let rest : List NormalTerm = map widened c.self.inside.rest.items in
    let long : length (map unpacked ps) ≡ length ps = length-map ps unpacked in
    ap (λ ts. ts ++ rest) (with_made unpacked ps c.args.place c.args.coef c.index.result.now c.lowered.result (omega arith) c.index.ensures c.lowered.ensures)
    ∙ with_before (map unpacked ps) rest c.args.place c.args.coef (omega (arith, long))
    ∙ ap (λ ts. with_coefficient ts c.args.place c.args.coef) c.self.view_is

pub returns-else-place-packed : goal.returns-else-place-packed
returns-else-place-packed c =
    let ps : List PackedTerm = c.self.inside.packed.items in
    let ws : List WideTerm = c.self.inside.rest.items in
    let j : ℕ = c.args.place - c.len-packed.result in
    let long : length (map unpacked ps) ≡ length ps = length-map ps unpacked in
    let inside : j < length ws =
    omega (arith, c.requires.place, c.len-packed.ensures, c.if-place-packed.false, long, length-map ws widened, ap (λ (ts : List NormalTerm). length ts) c.self.view_is, length-append (map unpacked ps) (map widened ws)) in
    let made : widened c.of.result ≡ record (widened c.index-else-place-packed.result.now) { coef = c.args.coef } = c.of.ensures ∙ ap (λ (t : NormalTerm). record t { coef = c.args.coef }) c.widened-term.ensures in
    ap (λ ts. map unpacked ps ++ ts) (with_made widened ws j c.args.coef c.index-else-place-packed.result.now c.of.result inside c.index-else-place-packed.ensures made)
    ∙ with_behind (map unpacked ps) (map widened ws) c.args.place j c.args.coef (omega (arith, long, c.len-packed.ensures, c.if-place-packed.false))
    ∙ ap (λ ts. with_coefficient ts c.args.place c.args.coef) c.self.view_is
