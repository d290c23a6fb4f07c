-- What the moves of a template unfold to where they are computed: others cite the one name.
use Rattle.std.specs.Prelude.{ℕ}
use Rattle.template.specs.declared.Template.{Template}
use Rattle.template.specs.declared.Kind.{Kind}
use Rattle.template.specs.Table.{table, digit, up_to_last, next, satisfied, broken, standings}
use Rattle.template.specs.Standing.{kind_of}
use Rattle.template.specs.Settled.{settled}

unfoldable pub computed_next : Template → ℕ → Kind → ℕ
unfolding table digit up_to_last next satisfied broken standings kind_of settled
computed_next t q k = next t q k
