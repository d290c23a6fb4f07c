-- `activation_in` meets its contract: the number of the value, and 4, 8 and 16 for the kinds that are permitted.
use Rattle.std.proofs.Common.{◌≡◌, Bool, not, cond, refl, ap, ◌∙◌, ◌+◌, ◌*◌}
use mir.Val.{bool_byte}
use Rattle.lists.specs.Laws.Decides.{byte_flag}
use Rattle.values.specs.Value.{value_number}
use Rattle.values.specs.Activation.{activation_of}
use Rattle.standing_values.proofs.activation_in.Goals as goal

flag : {a b : Bool} → a ≡ b → bool_byte a ≡ cond b 1 0
flag {a} {b} e = ap bool_byte e ∙ byte_flag b

pub returns : goal.returns
unfolding activation_of
returns c t l e =
    let other = c.args.other in
    λ i. (c.value_number-value.ensures ∙ ap value_number (c.value_in.ensures t l e)) i
    + 4 * (c.from.ensures ∙ flag (c.permits-on_x.ensures t other e refl)) i
    + 8 * (c.from-2.ensures ∙ flag (c.permits-on_y.ensures t other e (ap not l))) i
    + 16 * (c.from-3.ensures ∙ flag (c.permits-on_other.ensures t other e refl)) i
