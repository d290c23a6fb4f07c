-- `next_word` has placed what each row so far has for the kind.
use Rattle.std.proofs.Common.{◌≡◌, get_or}
use Rattle.places.specs.Places.{placed}
use Rattle.template.specs.Code.Columns.{next_of, no_row}
use Rattle.rule_moves.proofs.next_word.Given as goal

abbrev pub invariant-loop-standing : goal.invariant-loop-standing
invariant-loop-standing l =
    (l.word ≡ placed 4 (λ q. next_of (get_or l.rows q no_row) l.kind) l.standing)
