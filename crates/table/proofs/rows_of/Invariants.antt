-- `rows_of` writes a row a turn: so far the rows are those of the template (`Filled`).
use Rattle.lists.specs.Laws.Elements.{Filled}
use Rattle.template.specs.Code.Columns.{columns}
use Rattle.table.proofs.rows_of.Given as goal

abbrev pub invariant-loop-standing : goal.invariant-loop-standing
invariant-loop-standing l = Filled 16 (columns l.template) l.initial.rows l.rows l.standing
