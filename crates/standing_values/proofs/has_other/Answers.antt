-- `has_other` meets its contract: a template without y has one step of its own, any other two.
use Rattle.std.proofs.Common.{sym, ◌∙◌}
use Rattle.values.specs.Progress.{has_other}
use Rattle.standing_values.proofs.has_other.Goals as goal

pub returns-then-lacking : goal.returns-then-lacking
unfolding has_other
returns-then-lacking c r e = rw (sym e ∙ c.if-lacking.true)

pub returns : goal.returns
unfolding has_other
returns c r e = rw (sym e ∙ c.if-lacking.false)
