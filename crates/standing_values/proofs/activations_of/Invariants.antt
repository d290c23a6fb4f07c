-- `activations_of` writes the activation state in a standing a turn: so far the states are those (`Filled`).
use Rattle.std.proofs.Common.{◌≡◌}
use Rattle.lists.specs.Laws.Elements.{Filled}
use Rattle.template.specs.declared.Template.{Template}
use Rattle.template.specs.Table.{lacks_y}
use Rattle.template.specs.Code.Columns.{rows_of}
use Rattle.values.specs.Activation.{activation_of}
use Rattle.standing_values.proofs.activations_of.Given as goal

abbrev pub invariant-loop-standing : goal.invariant-loop-standing
invariant-loop-standing l =
    (t : Template) → l.lacking ≡ lacks_y t → l.rows ≡ rows_of t
    → Filled 16 (activation_of t l.other) l.initial.states l.states l.standing
