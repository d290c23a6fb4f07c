-- What `reports_of` unfolds to where the reports on a file are computed: others cite the one name.
use Rattle.std.specs.Prelude.{List, ℕ}
use Rattle.lists.specs.Parts.{before, after}
use Rattle.ranking.specs.Laws.Computed.{computed_order}
use Rattle.search.specs.Laws.Computed.{computed_search}
use Rattle.deciding.specs.declared.Report.{Report}
use Rattle.deciding.specs.Fate.{first_fate, second_fate}
use Rattle.deciding.specs.Outcome.{among_few, outcome_of, outcome}
use Rattle.deciding.specs.Passes.{kept_after, kept_of, left_of, first_outcome, still_kept, second_outcome, report_of}
use Rattle.deciding.specs.Passes.{report_on}
use Rattle.deciding.specs.Reports.{reports_of}

unfoldable pub computed_reports : List ℕ → List Report
unfolding computed_order computed_search first_fate second_fate among_few outcome_of outcome before after
    kept_after kept_of
    left_of first_outcome still_kept second_outcome report_of report_on reports_of
computed_reports bs = reports_of bs
