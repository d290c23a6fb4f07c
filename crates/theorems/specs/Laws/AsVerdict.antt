-- What is to be shown of a rule agrees with the fate in the verdict area of its file.
use Rattle.std.specs.Prelude.{Bool, true, ◌≡◌, List, ℕ}
use Rattle.std.proofs.Math.Option.{Option}
use Rattle.std.proofs.Common.{sym, ap, ◌∙◌}
use Rattle.rule_file.specs.Contents.{has_rule}
use Rattle.rule_file.proofs.Laws.Contents.{has_rule_lem}
use Rattle.deciding.specs.declared.Report.{Report}
use Rattle.deciding.specs.Reports.{reported}
use Rattle.verdicts.specs.Verdict.{report_bytes, verdict_area, bytes_of_rule}
use Rattle.pruning.specs.Laws.Verdict.{report_at, fate_of_bytes}
use Rattle.shown.specs.Answer.{has_sequence}
use Rattle.shown.specs.Shows.{is_present, IsShown}

-- what is to be shown agrees with the report whose bytes stand in the verdict area of the file
pub as_verdict : (bs : List ℕ) (n : ℕ) → has_rule bs n ≡ true → (area : List ℕ) (r : Report)
    → bytes_of_rule (verdict_area bs area) n ≡ report_bytes r
    → (wanted : Bool) (shown : Option (List ℕ)) → IsShown bs n wanted shown
    → is_present shown ≡ has_sequence wanted r.fate
as_verdict bs n h area r e wanted shown s =
    let is = has_rule_lem bs n h in
    s.present
    ∙ ap (has_sequence wanted) (fate_of_bytes (reported bs n) r (sym (report_at bs area n is.0 is.1) ∙ e))
