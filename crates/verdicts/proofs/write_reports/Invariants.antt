-- The reports of the first i rules are written, and the rest is as it was.
use Rattle.std.proofs.Common.{length, ◌≡◌}
use Rattle.verdicts.specs.Code.Written.{report_in, reports_over}
use Rattle.verdicts.proofs.write_reports.Given as goal

abbrev pub invariant-loop-i : goal.invariant-loop-i
invariant-loop-i l =
    (length l.verdicts ≡ length l.fn.verdicts)
    × (l.verdicts ≡ reports_over (report_in l.firsts l.seconds) l.fn.verdicts l.i)
