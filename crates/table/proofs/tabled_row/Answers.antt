-- `tabled_row` meets its contract: the constant is the table of `specs/`, which is computed, and the test is that of
-- the definition.
use Rattle.std.proofs.Common.{rules}
use Rattle.template.specs.Table.{table, digit, next, satisfied, broken, standings}
use Rattle.table.proofs.tabled_row.Goals as goal

pub returns-then-standing-ge-TABLED_STANDINGS : goal.returns-then-standing-ge-TABLED_STANDINGS
unfolding table digit next satisfied broken standings
returns-then-standing-ge-TABLED_STANDINGS c = search rules

pub returns : goal.returns
unfolding table digit next satisfied broken standings
returns c = search rules
