-- A report a turn (`reports_more`).
use Rattle.std.proofs.Common.{refl, sym, arith}
use Rattle.verdicts.specs.Code.Written.{report_in, reports_none, reports_more}
use Rattle.verdicts.proofs.write_reports.Goals as goal

pub loop-i-init : goal.loop-i-init
loop-i-init c = (refl, sym (reports_none _ _))

pub loop-i-preserved : goal.loop-i-preserved
unfolding report_in
loop-i-preserved c =
    let l = c.loop-i in (
      omega arith,
      reports_more _ _ l.i l.verdicts _ c.report_of-report.result l.invariant.1 c.report_of-report.ensures
          c.write_report.ensures,
    )
