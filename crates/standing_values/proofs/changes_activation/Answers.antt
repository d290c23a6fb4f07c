-- `changes_activation` meets its contract: a standing that is kept has one activation state, and two are told apart by
-- their numbers.
use Rattle.std.proofs.Common.{sym, ap, ap₂, not, eqb, eq-eqb, ℕ, arith}
use Rattle.template.proofs.Laws.Columns.{rows_low}
use Rattle.values.specs.Activation.{activation_of, changes_activation}
use Rattle.standing_values.proofs.changes_activation.Goals as goal

pub returns-then-before-after : goal.returns-then-before-after
unfolding changes_activation
returns-then-before-after c =
    ap not (sym (eq-eqb _ _ (ap (activation_of c.args.template c.args.other) c.if-before-after.true)))

pub activation_in-state-requires : goal.activation_in-state-requires
activation_in-state-requires c = (rows_low c.rows_of-rows.result _ c.rows_of-rows.ensures, omega arith)

pub activation_in-requires : goal.activation_in-requires
activation_in-requires c = (rows_low c.rows_of-rows.result _ c.rows_of-rows.ensures, omega arith)

pub returns : goal.returns
unfolding changes_activation
returns c =
    let l = c.lacks_y-lacking.ensures in
    let r = c.rows_of-rows.ensures in
    ap₂ (λ (p q : ℕ). not (eqb p q)) (c.activation_in-state.ensures _ l r) (c.activation_in.ensures _ l r)
