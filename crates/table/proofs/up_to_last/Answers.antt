-- `up_to_last` meets its contract: the test is that of the definition.
use Rattle.std.proofs.Common.{rules}
use Rattle.template.specs.Table.{up_to_last}
use Rattle.table.proofs.up_to_last.Goals as goal

pub returns-then-standing-last : goal.returns-then-standing-last
unfolding up_to_last
returns-then-standing-last c = search rules

pub returns : goal.returns
unfolding up_to_last
returns c = search rules
