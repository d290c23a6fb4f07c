-- Before turn i the first i entries are moved, and the others are as they were.
use Rattle.std.proofs.Common.{◌≡◌}
use Rattle.watch_list.specs.Watching.{moved_first}
use Rattle.watch.proofs.move_all.Given as goal

abbrev pub invariant-loop-i : goal.invariant-loop-i
invariant-loop-i l = l.list ≡ moved_first l.rules l.steps l.i l.step l.fn.list
