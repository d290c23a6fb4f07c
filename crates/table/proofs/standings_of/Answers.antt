-- `standings_of` meets its contract: each row holds the number of standings (`columns_standings`).
use Rattle.std.proofs.Common.{ap, ◌∙◌}
use Rattle.template.specs.declared.StandingRow.{StandingRow}
use Rattle.template.proofs.Laws.Columns.{columns_standings}
use Rattle.table.proofs.standings_of.Goals as goal

pub returns : goal.returns
returns c = ap (λ (r : StandingRow). r.standings) c.row_of.ensures ∙ columns_standings c.args.template 0
