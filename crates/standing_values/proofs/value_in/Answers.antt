-- `value_in` meets its contract: the row of the standing says whether it is satisfied (`row_satisfied`) and settled.
use Rattle.std.proofs.Common.{ap₂, ◌∙◌}
use Rattle.template.proofs.Laws.Columns.{row_of, row_satisfied}
use Rattle.values.specs.Value.{value_by, value_of}
use Rattle.standing_values.proofs.value_in.Goals as goal

pub returns : goal.returns
unfolding value_of
returns c t l e =
    let q = c.args.standing in
    c.value_by.ensures
    ∙ ap₂ value_by (row_satisfied _ t e q _ c.requires) (c.is_settled-settled.ensures t l (row_of _ t e q _ c.requires))
