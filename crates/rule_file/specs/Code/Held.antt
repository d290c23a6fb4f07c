-- What the record of a file stands for, and how it grows by a step and by a rule.
use Rattle.std.specs.Prelude.{◌≡◌, List, map, ℕ, ◌+◌, ◌≤◌, length, take, set}
use Rattle.lists.specs.Laws.Padded.{HoldsFirst}
use Rattle.rule.specs.declared.Rule.{Rule}
use Rattle.rule.specs.Behaviour.{no_rule}
use Rattle.rule.specs.Limits.{most_steps, most_rules}
use Rattle.fields.specs.Bytes.{part_at}
use Rattle.fields.specs.Field.{Field}
use Rattle.rule_file.specs.declared.Place.{Place}
use Rattle.rule_file.specs.declared.RuleFile.{RuleFile}
use Rattle.rule_file.specs.Decode.{added}
use Rattle.rule_file.specs.Fault.{Decoded}
use Rattle.rule_file.specs.Held.{no_place}

-- the name of a step by its place in the file
abbrev pub name_in : List ℕ → Place → List ℕ
name_in bs p = part_at bs p.start p.size

-- the place of the name that a field declares
abbrev pub place_of : Field → Place
place_of f = record { start = f.start; size = length f.content }

-- what the record of a file stands for
unfoldable pub decoded_in : List ℕ → RuleFile → Decoded
decoded_in bs s =
    record {
      names = map (name_in bs) (take s.steps s.names);
      places = take s.steps s.names;
      rules = take s.count s.rules;
    }

-- the record with a step more, and with a rule more
abbrev pub held_step : RuleFile → Place → RuleFile
held_step s p = record { steps = s.steps + 1; names = set s.names s.steps p; count = s.count; rules = s.rules }

abbrev pub held_rule : RuleFile → Rule → RuleFile
held_rule s r = record { steps = s.steps; names = s.names; count = s.count + 1; rules = set s.rules s.count r }

-- the counts are within the limits, and the arrays hold nothing past them
pub record WithinLimits (s : RuleFile) : Type 0 where
  pub steps : s.steps ≤ most_steps
  pub count : s.count ≤ most_rules
  pub names : HoldsFirst most_steps no_place s.steps s.names
  pub rules : HoldsFirst most_rules no_rule s.count s.rules

-- what is held after a field, given what was held before: what the field adds is there too
pub record Grown (bs : List ℕ) (f : Field) (before after : RuleFile) : Type 0 where
  pub within : WithinLimits after
  pub decoded : decoded_in bs after ≡ added (decoded_in bs before) f
