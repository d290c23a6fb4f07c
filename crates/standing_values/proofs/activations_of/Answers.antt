-- `activations_of` meets its contract: the activation state in a standing a turn, by the laws of `Filled`.
use Rattle.std.proofs.Common.{refl, arith}
use Rattle.lists.specs.Laws.Elements.{filled_none, filled_more, filled_whole}
use Rattle.values.specs.Code.Activations.{activations_of}
use Rattle.standing_values.proofs.activations_of.Goals as goal

pub loop-standing-init : goal.loop-standing-init
loop-standing-init c t l e = filled_none refl

pub loop-standing-preserved : goal.loop-standing-preserved
loop-standing-preserved c t l e =
    filled_more (c.loop-standing.invariant t l e) (omega arith) _ (c.activation_in.ensures t l e)

pub returns : goal.returns
unfolding activations_of
returns c t l e = filled_whole (c.loop-standing.invariant t l e) c.loop-standing-test.false
