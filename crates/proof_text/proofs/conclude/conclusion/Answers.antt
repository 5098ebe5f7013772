use Rattle.std.proofs.Common.{◌≡◌, [], is_some, true, false, codes, drop, sym, ap, ◌∙◌, rules}
use Rattle.std.proofs.lemmas.Result.{IfOk-weaker, IfErr-weaker}
use Rattle.std.specs.Str.{bytes_eq}
use Rattle.pb_text.specs.TokensOf.{texts_of}
use Rattle.proof_text.specs.Words.{unclosed, is_first}
use Rattle.proof_text.specs.Conclusions.{conclusion_of, conclusion_said, is_conclusion}
use Rattle.proof_text.specs.ConclusionsRead.{IsConclusionRead, IsConclusionLineRead}
use Rattle.proof_text.specs.PartsDenied.{Denies}
use Rattle.proof_text.proofs.ConclusionsRead.{conclusion_read, denied_conclusion, no_conclusion, no_conclusion_kind, nothing_said}
use Rattle.proof_text.proofs.conclude.conclusion.Goals as goal

pub returns-in_default-clause-denies : goal.returns-in_default-clause-denies
returns-in_default-clause-denies c = no_conclusion (texts_of c.args.words) (ap (is_first (codes "conclusion")) (ap texts_of c.in_default.ensures.tokens.0))

pub returns-then-ne-clause-denies : goal.returns-then-ne-clause-denies
returns-then-ne-clause-denies c =
    let other : bytes_eq c.in-Some.token.text.now (codes "conclusion") ≡ false = search rules in
    no_conclusion (texts_of c.args.words) (ap (is_first (codes "conclusion")) (ap texts_of c.in-Some.ensures.tokens) ∙ other)

pub returns-in_default-take-clause-denies : goal.returns-in_default-take-clause-denies
returns-in_default-take-clause-denies c =
    let w = c.in-Some.token.text.now in
    let here : bytes_eq w (codes "conclusion") ≡ true = search rules in
    nothing_said w (texts_of c.args.words) (texts_of c.next.new.self) (ap texts_of c.in-Some.ensures.tokens) here
    (ap (λ u. is_some (conclusion_said [] u)) (sym c.new-words.ensures ∙ c.in_default-take.ensures.0))

pub returns-in_default-conclusion_kind_of-clause-denies : goal.returns-in_default-conclusion_kind_of-clause-denies
returns-in_default-conclusion_kind_of-clause-denies c =
    let w = c.in-Some.token.text.now in
    let rest = texts_of c.next.new.self in
    let here : bytes_eq w (codes "conclusion") ≡ true = search rules in
    nothing_said w (texts_of c.args.words) rest (ap texts_of c.in-Some.ensures.tokens) here
    (no_conclusion_kind c.in-Some-take.token.text.now (unclosed rest) c.take.new.self (sym c.new-words.ensures ∙ c.in-Some-take.ensures) (sym c.in_default-conclusion_kind_of.ensures))

pub returns-clause-read : goal.returns-clause-read
returns-clause-read c =
    let k = c.args.table.now in
    let new = c.of_kind.new.table in
    let ws = texts_of c.args.words in
    let more = c.take.new.self in
    let w = c.in-Some.token.text.now in
    let v = c.in-Some-take.token.text.now in
    let kind = c.in-Some-conclusion_kind_of.kind in
    let here : bytes_eq w (codes "conclusion") ≡ true = search rules in
    IfOk-weaker c.of_kind.result (λ x. IsConclusionRead kind k more x new) (λ x. IsConclusionLineRead k ws x new)
    (λ x h.
    conclusion_read k new w v ws (texts_of c.next.new.self) more kind x (ap texts_of c.in-Some.ensures.tokens) here (sym c.new-words.ensures ∙ c.in-Some-take.ensures)
    (sym c.in-Some-conclusion_kind_of.ensures) h)
    c.of_kind.ensures.read

pub returns-clause-denies : goal.returns-clause-denies
returns-clause-denies c =
    let ws = texts_of c.args.words in
    let more = c.take.new.self in
    let w = c.in-Some.token.text.now in
    let v = c.in-Some-take.token.text.now in
    let kind = c.in-Some-conclusion_kind_of.kind in
    let here : bytes_eq w (codes "conclusion") ≡ true = search rules in
    IfErr-weaker c.of_kind.result (λ f. Denies f (is_conclusion kind more) more) (λ f. Denies f (is_some (conclusion_of [] ws)) (drop 1 (unclosed (drop 1 ws))))
    (λ f h.
    denied_conclusion f w v ws (texts_of c.next.new.self) more kind (ap texts_of c.in-Some.ensures.tokens) here (sym c.new-words.ensures ∙ c.in-Some-take.ensures)
    (sym c.in-Some-conclusion_kind_of.ensures) h)
    c.of_kind.ensures.denies
