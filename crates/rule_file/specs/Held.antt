-- How the records of the code hold what was decoded (01, "Rule file").
use Rattle.std.specs.Prelude.{length}
use Rattle.lists.specs.Padded.{padded}
use Rattle.rule.specs.Behaviour.{no_rule}
use Rattle.rule.specs.Limits.{most_steps, most_rules}
use Rattle.rule_file.specs.declared.Place.{Place}
use Rattle.rule_file.specs.declared.RuleFile.{RuleFile}
use Rattle.rule_file.specs.Fault.{Decoded}

-- what stands in the arrays past the last step and past the last rule
abbrev pub no_place : Place
no_place = record { start = 0; size = 0 }

unfoldable pub held_file : Decoded → RuleFile
held_file d =
    record {
      steps = length d.places;
      names = padded most_steps no_place d.places;
      count = length d.rules;
      rules = padded most_rules no_rule d.rules;
    }
