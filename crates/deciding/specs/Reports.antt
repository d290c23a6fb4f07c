-- What is reported of the rules of a file (01, "Second pass"; M-104).
use Rattle.std.specs.Prelude.{List, map, ℕ, suc, length}
use Rattle.lists.specs.Elements.{listed}
use Rattle.rule.specs.Behaviour.{rule_at}
use Rattle.rule.specs.declared.Rule.{Rule}
use Rattle.rule_file.specs.Contents.{rules_of, steps_of}
use Rattle.ranking.specs.Ranked.{decision_order}
use Rattle.deciding.specs.declared.Report.{Report}
use Rattle.deciding.specs.Outcome.{outcome}
use Rattle.deciding.specs.Passes.{report_on}

-- what is reported of rule n
abbrev pub reported : List ℕ → ℕ → Report
reported bs = report_on (outcome (rules_of bs) (steps_of bs)) (decision_order bs)

-- rules in an order, each with what is reported of it
abbrev pub with_reports : List Rule → (ℕ → Report) → List ℕ → List (Rule × Report)
with_reports rules report order = map (λ n. (rule_at rules n, report n)) order

-- the rules of a file in their order of decision, each with its fate and both counts (M-104)
abbrev pub decided_reports : List ℕ → List (Rule × Report)
decided_reports bs = with_reports (rules_of bs) (reported bs) (decision_order bs)

-- what is reported of each rule, in file order; a refused file has no rule
unfoldable pub reports_of : List ℕ → List Report
reports_of bs = listed (length (rules_of bs)) (λ k. reported bs (suc k))
