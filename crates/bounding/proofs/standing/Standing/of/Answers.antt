use Rattle.std.proofs.Common.{◌∷◌, ◌++◌, ◌<◌, [], List, Bool, false, get_or, length, take, sym, ap, subst, ◌∙◌, arith}
use Rattle.std.proofs.lemmas.List.{length-set, take_more}
use Rattle.std.proofs.lemmas.List.Elements.{All-get_or}
use Rattle.linear.specs.declared.term.Lit.{Lit}
use Rattle.linear.specs.Literal.{code}
use Rattle.bounding.specs.Standing.{AreJust}
use Rattle.bounding.proofs.StandingTable.{code_below, noted}
use Rattle.bounding.proofs.standing.Standing.of.Goals as goal

abbrev first : Lit
first = record { var = record { 0 = 0 }; negated = false }

pub loop-literal-preserved : goal.loop-literal-preserved
loop-literal-preserved c =
    let at = c.loop-literal in
    let literals = c.args.literals.now in
    let place = at.literal-index in
    let literal : Lit = get_or literals place first in
    let before : List Lit = take place literals in
    let known : literal.var.0 < c.literal_count-count.result = All-get_or (λ (l : Lit). l.var.0 < c.literal_count-count.result) literals place first (omega arith) c.literal_count-count.ensures.each in
    let room : code literal < length at.stands.items = subst (λ n. code literal < n) (sym at.invariant.room) (code_below literal c.literal_count-count.result known) in
    record {
      just = subst (λ (xs : List Lit). AreJust xs c.note.new.stands.items) (sym (take_more literals place first (omega arith)))
          (subst (λ (stands : List Bool). AreJust (before ++ literal ∷ []) stands) (sym c.note.ensures) (noted before at.stands.items literal room at.invariant.just));
      room = ap length c.note.ensures ∙ length-set at.stands.items _ _ ∙ at.invariant.room;
    }
