-- Files with reordered rules have the same rules in their order of decision, each with the same fate and counts (M-104,
-- `reordered_reports`): they list equal rules (`reordered_rules`), and the demand fixes what is reported
-- (`same_reports`).
use Rattle.std.specs.Prelude.{List, ◌≡◌, ℕ}
use Rattle.std.proofs.Common.{subst}
use Rattle.rule_file.specs.Contents.{rules_of, steps_of}
use Rattle.ranking.proofs.Laws.Reordered.{reordered_steps, reordered_rules}
use Rattle.ranking.specs.Ranked.{decision_order}
use Rattle.ranking.specs.Reordered.{Reordered}
use Rattle.deciding.specs.Demand.{Decided}
use Rattle.deciding.proofs.Laws.Demand.{file_demanded}
use Rattle.deciding.proofs.Laws.Fixed.{same_reports}
use Rattle.deciding.specs.Reports.{reported, decided_reports}

pub reordered_reports : (bs cs : List ℕ) → Reordered bs cs → decided_reports bs ≡ decided_reports cs
reordered_reports bs cs q =
    same_reports (rules_of bs) (rules_of cs) (steps_of cs) (decision_order bs) (decision_order cs)
    (reported bs) (reported cs)
    (subst (λ (steps : ℕ). Decided (rules_of bs) steps (decision_order bs) (reported bs)) (reordered_steps bs cs q)
    (file_demanded bs).decided)
    (file_demanded cs).decided (reordered_rules bs cs q)
