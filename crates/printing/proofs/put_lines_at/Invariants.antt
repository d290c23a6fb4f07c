-- The lines of the first k rules are put.
use Rattle.std.proofs.Common.{length, ◌+◌, ◌*◌, ◌≡◌, ◌≤◌}
use Rattle.printing.specs.Code.Put.{Put}
use Rattle.printing.specs.Printed.{lines}
use Rattle.printing.proofs.put_lines_at.Given as goal

abbrev pub invariant-loop-k : goal.invariant-loop-k
invariant-loop-k l =
    (length l.out ≡ length l.fn.out)
    × (l.end ≤ l.at + 24 * l.k)
    × Put l.fn.out l.at l.out l.end (lines l.verdicts l.k)
