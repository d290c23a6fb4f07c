-- `put_lines_at` meets its contract: a line a turn (`lines_more`).
use Rattle.std.proofs.Common.{refl, arith}
use Rattle.printing.specs.Code.Put.{put_none, put_as, put_then}
use Rattle.printing.specs.Laws.Printed.{lines_none, lines_more}
use Rattle.printing.proofs.put_lines_at.Goals as goal

pub loop-k-init : goal.loop-k-init
loop-k-init c = (refl, omega arith, put_as (lines_none _) (put_none _ _))

pub loop-k-preserved : goal.loop-k-preserved
loop-k-preserved c = (
  omega arith,
  omega arith,
  put_as (lines_more _ _) (put_then c.loop-k.invariant.2 c.put_line-end.ensures.0),
)
