-- `changes_word` has placed whether the activation states before and after differ, for each standing so far.
use Rattle.std.proofs.Common.{◌≡◌, not, eqb, get_or}
use mir.Val.{bool_byte}
use Rattle.places.specs.Places.{place, placed}
use Rattle.rule_moves.proofs.changes_word.Given as goal

abbrev pub invariant-loop-standing : goal.invariant-loop-standing
invariant-loop-standing l =
    (l.word
    ≡ placed 4 (λ q. bool_byte (not (eqb (get_or l.states q 0) (get_or l.states (place 4 l.next q) 0)))) l.standing)
