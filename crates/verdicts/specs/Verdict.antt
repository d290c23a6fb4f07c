-- The verdict area (01, "Second pass" and "Refused inputs"; M-104), worked out from the bytes of a file.
use Rattle.std.specs.Prelude.{List, ◌∷◌, ◌++◌, map, ℕ, ◌-◌, ◌*◌, length, take, drop}
use Rattle.lists.specs.Elements.{concat_map}
use Rattle.lists.specs.Permuted.{one_to}
use Rattle.refusals.specs.Refusal.{written_over}
use Rattle.rule.specs.Behaviour.{rule_at}
use Rattle.rule.specs.declared.Rule.{Rule}
use Rattle.fields.specs.Bytes.{two_bytes}
use Rattle.rule_file.specs.Contents.{rules_of}
use Rattle.deciding.specs.declared.Report.{Report}
use Rattle.deciding.specs.Fate.{fate_number}
use Rattle.deciding.specs.Reports.{reports_of}
use Rattle.verdicts.specs.Limits.{bytes_each}

-- five bytes a rule: fate, first count, second count
abbrev pub report_bytes : Report → List ℕ
report_bytes r = fate_number r.fate ∷ (two_bytes r.first ++ two_bytes r.second)

unfoldable pub verdict_bytes : List ℕ → List ℕ
verdict_bytes bs = concat_map report_bytes (reports_of bs)

-- the verdict area afterwards: the rest keeps its bytes
unfoldable pub verdict_area : List ℕ → List ℕ → List ℕ
verdict_area bs area = written_over (verdict_bytes bs) area

-- the five bytes that a verdict area has for rule n
abbrev pub bytes_of_rule : List ℕ → ℕ → List ℕ
bytes_of_rule area n = take bytes_each (drop (bytes_each * (n - 1)) area)

-- the rules of a file in file order, each with its five bytes (M-104)
abbrev pub rules_with_bytes : List ℕ → List ℕ → List (Rule × List ℕ)
rules_with_bytes bs area = map (λ n. (rule_at (rules_of bs) n, bytes_of_rule area n)) (one_to (length (rules_of bs)))
