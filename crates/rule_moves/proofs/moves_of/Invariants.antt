-- `moves_of` has written the words of each step so far (`Filled`).
use Rattle.std.proofs.Common.{◌≡◌, ℕ, Bool}
use Rattle.lists.specs.Laws.Elements.{Filled}
use Rattle.template.specs.Sequence.{is}
use Rattle.template.specs.declared.Kind.{Kind}
use Rattle.template.specs.Standing.{kind_of}
use Rattle.rule.specs.declared.Rule.{Rule}
use Rattle.values.specs.Code.Activations.{activations_of}
use Rattle.values.specs.Code.Moves.{next_word, changes_word}
use Rattle.rule_moves.proofs.moves_of.Given as goal

abbrev pub kind : Rule → ℕ → Kind
kind r z = kind_of r.template (is r.x) (is r.y) z

abbrev pub invariant-loop-step : goal.invariant-loop-step
invariant-loop-step l =
    Filled 24 (λ z. next_word l.rule.template (kind l.rule z)) l.initial.next l.next l.step
    × ((other : Bool) → l.states ≡ activations_of l.rule.template other
    → Filled 24 (λ z. changes_word l.rule.template other (kind l.rule z)) l.initial.changes l.changes l.step)
