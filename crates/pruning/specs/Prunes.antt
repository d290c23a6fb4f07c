-- What pruning promises (01, "Second pass" and "Refused inputs"), and the third demand of the bytes that it writes.
use Rattle.std.specs.Prelude.{◌≡◌, List, Bool, cond, ◌&&◌, ℕ, ◌≤◌, length, leb}
use Rattle.rule_file.specs.Contents.{rules_of, steps_of}
use Rattle.rule_file.specs.Decode.{read_file}
use Rattle.ranking.specs.Ranked.{decision_order}
use Rattle.search.specs.Areas.{RestKept, work_areas_fit}
use Rattle.deciding.specs.declared.Report.{Report}
use Rattle.deciding.specs.Demand.{Demanded}
use Rattle.verdicts.specs.Verdict.{report_bytes, bytes_of_rule, verdict_area}
use Rattle.verdicts.specs.Limits.{area_bytes}

-- of a file's bytes and of the bytes in a verdict area: what they report meets the demand
pub record ThirdDemand (file verdicts : List ℕ) : Type 0 where
  pub report : ℕ → Report
  -- the bytes of each rule are those of its report; no report has a first byte over 5
  pub bytes : (n : ℕ) → 1 ≤ n → n ≤ length (rules_of file) → bytes_of_rule verdicts n ≡ report_bytes (report n)
  pub demanded : Demanded (rules_of file) (steps_of file) (decision_order file) report

-- the lengths of areas that are long enough
unfoldable pub prune_areas_fit : ℕ → ℕ → ℕ → Bool
prune_areas_fit found links verdicts = work_areas_fit found links && leb area_bytes verdicts

-- the refusal, by the lengths of the areas lent and the bytes of the file: number 1 comes first
unfoldable pub prune_refusal : ℕ → ℕ → ℕ → List ℕ → ℕ
prune_refusal found links verdicts bs = cond (prune_areas_fit found links verdicts) (read_file bs).refusal 1

-- ---- what a call promises, of the areas before it and after it and of its answer
pub record Prunes (file found links verdicts found' links' verdicts' : List ℕ) (answer : ℕ) : Type 0 where
  pub returned : answer ≡ prune_refusal (length found) (length links) (length verdicts) file
  -- an accepted file: the verdict area is fixed, and the work areas are free in content
  pub written : answer ≡ 0 → verdicts' ≡ verdict_area file verdicts
  pub demand : answer ≡ 0 → ThirdDemand file verdicts'
  -- longer work areas keep their rest
  pub rest : RestKept found links found' links'
  -- a refused one: nothing is written anywhere
  pub untouched : ¬ (answer ≡ 0) → (found' ≡ found) × (links' ≡ links) × (verdicts' ≡ verdicts)
