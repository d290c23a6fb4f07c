-- `rows_of` meets its contract: a row a turn, by the laws of `Filled`.
use Rattle.std.proofs.Common.{refl, arith}
use Rattle.lists.specs.Laws.Elements.{filled_none, filled_more, filled_whole}
use Rattle.template.specs.Code.Columns.{columns, rows_in, rows_of}
use Rattle.table.proofs.rows_of.Goals as goal

pub loop-standing-init : goal.loop-standing-init
loop-standing-init c = filled_none refl

pub loop-standing-preserved : goal.loop-standing-preserved
loop-standing-preserved c = filled_more c.loop-standing.invariant (omega arith) _ c.row_of.ensures

pub returns : goal.returns
unfolding columns rows_in rows_of
returns c = filled_whole c.loop-standing.invariant c.loop-standing-test.false
