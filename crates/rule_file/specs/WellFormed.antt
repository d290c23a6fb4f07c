-- What a rule file is (01, "Rule file"): the bytes of 1 to 24 distinct well_formed names, then of 0 to 32 well_formed
-- rules.
use Rattle.std.specs.Prelude.{List, ◌∷◌, ◌++◌, ◌≡◌, ℕ, ◌≤◌, T, length, Float}
use Rattle.std.specs.Float.Ieee.{to_bits}
use Rattle.std.specs.Float.{binary32}
use Rattle.lists.specs.Members.{All, Distinct}
use Rattle.lists.specs.Elements.{concat_map}
use Rattle.template.specs.Number.{number}
use Rattle.rule.specs.declared.Rule.{Rule}
use Rattle.rule.specs.Good.{GoodRule}
use Rattle.rule.specs.Limits.{most_steps, most_rules}
use Rattle.fields.specs.Field.{field_bytes}
use Rattle.fields.specs.Bytes.{four_bytes}
use Rattle.rule_file.specs.Fault.{good_name}
use Rattle.rule_file.specs.Decode.{read_file}

-- at most 24 distinct names and 32 rules
pub record Formed (names : List (List ℕ)) (rules : List Rule) : Type 0 where
  pub few_steps : length names ≤ most_steps
  pub good_names : All (λ n. T (good_name n)) names
  pub distinct : Distinct names
  pub few_rules : length rules ≤ most_rules
  pub good_rules : All (GoodRule (length names)) rules

-- and at least one name
pub record WellFormed (names : List (List ℕ)) (rules : List Rule) : Type 0 where
  pub some_step : 1 ≤ length names
  pub formed : Formed names rules

-- the bytes of a step and of a rule
abbrev pub step_bytes : List ℕ → List ℕ
step_bytes name = field_bytes 0x53 name

abbrev pub weight_bytes : Float → List ℕ
weight_bytes w = four_bytes (to_bits binary32 w)

abbrev pub rule_content : Rule → List ℕ
rule_content r =
    number r.template ∷ r.x ∷ r.y
    ∷ (weight_bytes r.weights.support ++ weight_bytes r.weights.confidence ++ weight_bytes r.weights.interest)

abbrev pub rule_bytes : Rule → List ℕ
rule_bytes r = field_bytes 0x52 (rule_content r)

-- the bytes of a file
unfoldable pub file_bytes : List (List ℕ) → List Rule → List ℕ
file_bytes names rules = concat_map step_bytes names ++ concat_map rule_bytes rules

-- a list of bytes is what names and rules are written as
pub record Writes (bs : List ℕ) (names : List (List ℕ)) (rules : List Rule) : Type 0 where
  pub well_formed : WellFormed names rules
  pub bytes : bs ≡ file_bytes names rules

-- what reading makes of the bytes of names and rules
pub record ReadsBack (bs : List ℕ) (names : List (List ℕ)) (rules : List Rule) : Type 0 where
  pub accepted : (read_file bs).refusal ≡ 0
  pub same_names : (read_file bs).decoded.names ≡ names
  pub same_rules : (read_file bs).decoded.rules ≡ rules
