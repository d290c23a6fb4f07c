-- What a file declares, by its bytes: its rules, how many steps, and whether it has a rule of a number (01, "Rule file"
-- and refusal 14).
use Rattle.std.specs.Prelude.{List, Bool, cond, ◌&&◌, ℕ, length, leb}
use Rattle.refusals.specs.Refusal.{first_refusal}
use Rattle.rule.specs.declared.Rule.{Rule}
use Rattle.rule_file.specs.Decode.{read_file}

-- a refused file has none
abbrev pub rules_of : List ℕ → List Rule
rules_of bs = (read_file bs).decoded.rules

abbrev pub steps_of : List ℕ → ℕ
steps_of bs = length (read_file bs).decoded.names

-- a refusal, and where there is none 14 for a number that is none of so many rules; rules are numbered from 1
abbrev pub number_refusal : ℕ → ℕ → ℕ → ℕ
number_refusal refusal count n = first_refusal refusal (cond (leb 1 n && leb n count) 0 14)

unfoldable pub has_rule : List ℕ → ℕ → Bool
has_rule bs n = leb 1 n && leb n (length (rules_of bs))

-- the refusal of a file and a rule number: 2 to 13, then 14
unfoldable pub rule_refusal : List ℕ → ℕ → ℕ
rule_refusal bs n = number_refusal (read_file bs).refusal (length (rules_of bs)) n
