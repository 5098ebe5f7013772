-- The literals of two terms of a clause, which outlast all others.
use Rattle.std.proofs.Common.{◌≡◌, ◌∙◌, ◌<◌, ℕ, ap, subst, sym, arith, rules}
use Rattle.std.proofs.lemmas.List.{get_or_default}
use Rattle.linear.specs.declared.term.Lit.{Lit}
use Rattle.normal_form.specs.declared.term.NormalTerm.{NormalTerm}
use Rattle.normal_form.specs.Normal.{NormalConstraint}
use Rattle.propagate.specs.Literals.{coefficient_of}
use Rattle.propagate.specs.Passes.{literal_of}
use Rattle.ledger.proofs.ChosenLiterals.{occurs_at}
use Rattle.ledger.proofs.Latest.{latest_tell, terms_differ}
use Rattle.ledger.proofs.choosing.latest_pair.Goals as goal

pub returns : goal.returns
returns c =
    let n : NormalConstraint = c.args.constraint.now in
    let rises = c.degree.ensures.normal.rises in
    let t : NormalTerm = c.term.result in
    let u : NormalTerm = c.term-2.result in
    let i : ℕ = c.latest_but-first.result in
    let j : ℕ = c.latest_but-second.result in
    let first = c.latest_but-first.ensures in
    let second = c.latest_but-second.ensures in
    let one : c.literal.result ≡ literal_of t = c.literal.ensures in
    let two : c.literal-2.result ≡ literal_of u = c.literal-2.ensures in (
      record {
        clause = c.is_clause.ensures (search rules);
        asks = search rules;
        first = subst (λ (l : Lit). 0 < coefficient_of n l) (sym one) (occurs_at n i t rises first.there c.term.ensures.value);
        second = subst (λ (l : Lit). 0 < coefficient_of n l) (sym two) (occurs_at n j u rises second.there c.term-2.ensures.value);
        differ = λ e. terms_differ n.terms i j t u rises (λ same. second.apart (sym same)) first.there second.there (sym (one ∙ ap literal_of c.term.ensures.value) ∙ e ∙ two ∙ ap literal_of c.term-2.ensures.value);
      },
      latest_tell c.args.trail.now.0 n (record { first = c.literal.result; second = c.literal-2.result }) i j first.there second.there
          (λ d. one ∙ ap literal_of (c.term.ensures.value ∙ get_or_default n.terms i t d first.there)) (λ d. two ∙ ap literal_of (c.term-2.ensures.value ∙ get_or_default n.terms j u d second.there))
          (λ k low. first.latest k low (λ e. omega (arith, low, e, c.len-2.ensures.value))) second.latest,
    )
