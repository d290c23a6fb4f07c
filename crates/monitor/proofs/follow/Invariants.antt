-- `follow` has followed the run so far (`Following`), and has counted no more steps than it read.
use Rattle.std.proofs.Common.{◌≡◌, ◌≤◌}
use Rattle.rule.specs.declared.Rule.{Rule}
use Rattle.values.specs.Code.Moves.{moves_of}
use Rattle.values.specs.Code.Following.{Following, passed}
use Rattle.values.specs.Progress.{has_other}
use Rattle.monitor.proofs.follow.Given as goal

abbrev pub invariant-loop-step : goal.invariant-loop-step
invariant-loop-step l =
    (l.relevant ≤ l.step-index)
    × ((r : Rule) → l.moves ≡ moves_of r (has_other r l.steps)
    → Following r l.steps l.run l.step-index (passed l.standing l.relevant))
