-- One literal more.
use Rattle.std.proofs.Common.{◌≡◌, ◌+◌, ◌++◌, ◌∷◌, [], ℕ, List, take, drop, ap, ◌∙◌}
use Rattle.linear.specs.declared.term.Lit.{Lit}
use Rattle.trail.proofs.AssignedLiterals.{step}
use Rattle.trail.proofs.assignment.Assignment.advance.Goals as goal

abbrev Whole : Type 0
Whole = List Lit × ℕ × List Lit

pub returns-then-self-len : goal.returns-then-self-len
returns-then-self-len c l e =
    let a = c.self.inside in
    let pending : drop a.propagated a.trail.0 ≡ c.args.self.now.2 = ap (λ (w : Whole). w.2) c.self.view_is in
    let s = step a.propagated a.trail.0 l (drop 1 c.args.self.now.2) (pending ∙ e) in
    parts (take (a.propagated + 1) a.trail.0) (c.args.self.now.0 ++ l ∷ []) a.trail.1 c.args.self.now.1 (drop (a.propagated + 1) a.trail.0) (drop 1 c.args.self.now.2)
    (s.longer ∙ ap (λ (w : Whole). w.0 ++ l ∷ []) c.self.view_is) (ap (λ (w : Whole). w.1) c.self.view_is) s.left
  where
    parts : (xs ys : List Lit) (v w : ℕ) (ps qs : List Lit) → xs ≡ ys → v ≡ w → ps ≡ qs → ◌≡◌ {A = Whole} (xs, v, ps) (ys, w, qs)
    parts xs ys v w ps qs e f g = cc
