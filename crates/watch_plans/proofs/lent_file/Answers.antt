-- `lent_file` meets its contract: its test of the length is that of the definition (`lent_refused`, `lent_passed`).
use Rattle.std.proofs.Common.{◌∙◌}
use Rattle.refusals.proofs.Laws.Number.{number_not_zero}
use Rattle.values.proofs.Laws.Given.{handed_on}
use Rattle.rule_file.specs.Decode.{read_file}
use Rattle.watch_list.specs.Watching.{begin_refusal}
use Rattle.watch_list.proofs.Laws.Calls.{lent_refused, lent_passed}
use Rattle.watch_plans.proofs.lent_file.Goals as goal

pub returns-in_err-refuse_if-clause-number : goal.returns-in_err-refuse_if-clause-number
unfolding begin_refusal
returns-in_err-refuse_if-clause-number c =
    let e = c.in_err-refuse_if.field-0.0 in
    handed_on _ e c.from_residual.ensures.1
    ∙ lent_refused c.args.size (read_file c.args.file.now).refusal _ c.in_err-refuse_if.ensures (number_not_zero e)

pub returns-clause-number : goal.returns-clause-number
unfolding begin_refusal
returns-clause-number c =
    c.read.ensures.number ∙ lent_passed c.args.size (read_file c.args.file.now).refusal c.in_ok-refuse_if.ensures
