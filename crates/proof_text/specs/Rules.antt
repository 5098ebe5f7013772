-- The rules of steps, by the words with which their lines begin.
use Rattle.std.specs.Prelude.{ℕ, ◌||◌, if◌then◌else◌, Option, Some, None, List, codes, bytes_eq}
use Rattle.proof_text.specs.declared.keyword.Rule.{Rule}
use Rattle.proof_text.specs.declared.keyword.Rule.TheVariants as rules

-- the rules of subproofs
abbrev pub subproof_rule_of : List ℕ → Option Rule
subproof_rule_of word =
    if bytes_eq word (codes "proofgoal") then Some rules.Goal
    else if bytes_eq word (codes "end") then Some rules.End
    else None

unfoldable pub rule_of : List ℕ → Option Rule
rule_of word =
    if bytes_eq word (codes "pol") || bytes_eq word (codes "p") then Some rules.Pol
    else if bytes_eq word (codes "rup") || bytes_eq word (codes "u") then Some rules.Rup
    else if bytes_eq word (codes "red") then Some rules.Red
    else if bytes_eq word (codes "sol") then Some rules.Sol
    else if bytes_eq word (codes "soli") then Some rules.Soli
    else if bytes_eq word (codes "del") then Some rules.Del
    else subproof_rule_of word
