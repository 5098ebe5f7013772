-- What the forms mean, and that they are not too large and within the limits, are laws.
use Rattle.std.proofs.Common.{◌≡◌, inl, inr, List, ap, subst, sym, ◌∙◌, map}
use Rattle.linear.specs.declared.term.Term.{Term}
use Rattle.normal_form.specs.declared.term.NormalTerm.{NormalTerm}
use Rattle.normal_form.specs.NormalOf.{sign_changed}
use Rattle.normal_form.specs.Balance.{Balances, flipped}
use Rattle.normal_form.proofs.NormalForm.{small_never}
use Rattle.normal_form.proofs.SignChanges.{both_meaning, flipped_balances, signs_changed_never}
use Rattle.normal_form.proofs.conversion.Normalizer.both.Goals as goal

pub returns-in_err-at_least-clause-small : goal.returns-in_err-at_least-clause-small
returns-in_err-at_least-clause-small c small e = small_never c.args.constraint.now small c.in_err-at_least.ensures.too_large.0

turned : (terms read : List Term) (merged seen made : List NormalTerm) → read ≡ terms → seen ≡ merged → Balances read merged → made ≡ flipped seen → Balances (map sign_changed terms) made
turned terms read merged seen made r s b m =
    subst (λ (us : List NormalTerm). Balances (map sign_changed terms) us) (ap flipped (sym s) ∙ sym m) (flipped_balances terms merged (subst (λ (ts : List Term). Balances ts merged) r b))

pub at_most-requires-clause-balance : goal.at_most-requires-clause-balance
at_most-requires-clause-balance c = turned c.args.constraint.now.terms c.as_slice-terms.result.now c.in_ok-merged.merged c.terms.result.now c.in_ok-turned.turned c.as_slice-terms.ensures c.terms.ensures.value c.in_ok-merged.ensures c.in_ok-turned.ensures

pub returns-in_err-at_most-clause-small : goal.returns-in_err-at_most-clause-small
returns-in_err-at_most-clause-small c small e = signs_changed_never c.args.constraint.now small c.in_err-at_most.ensures.too_large.0

pub returns-clause-same : goal.returns-clause-same
returns-clause-same c = both_meaning c.args.constraint.now c.in_ok-at_least.field-0 c.in_ok-at_most.field-0 c.requires (record { at_least = c.in_ok-at_least.ensures.form; at_most = c.in_ok-at_most.ensures.form })

pub returns-clause-within : goal.returns-clause-within
returns-clause-within c (inl h) = c.in_ok-at_least.ensures.within h
returns-clause-within c (inr h) = c.in_ok-at_most.ensures.within h
