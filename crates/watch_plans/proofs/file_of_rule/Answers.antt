-- `file_of_rule` meets its contract: its test of the rule number comes after those of the list and the file
-- (`read_before`), and is that of the definition (`read_tested`).
use Rattle.std.proofs.Common.{◌∙◌}
use Rattle.refusals.proofs.Laws.Number.{number_not_zero}
use Rattle.values.proofs.Laws.Given.{handed_on}
use Rattle.watch_list.proofs.Laws.Calls.{read_before, read_tested}
use Rattle.watch_plans.proofs.file_of_rule.Goals as goal

pub returns-in_err-held-clause-number : goal.returns-in_err-held-clause-number
returns-in_err-held-clause-number c =
    let a = c.args in
    let e = c.in_err-held.field-0.0 in
    handed_on _ e c.from_residual.ensures.1
    ∙ read_before a.file.now a.size a.rule _ c.in_err-held.ensures.number (number_not_zero e)

pub returns-in_err-rule_refusal-clause-number : goal.returns-in_err-rule_refusal-clause-number
returns-in_err-rule_refusal-clause-number c =
    let a = c.args in
    let held = c.in_ok-held.ensures in
    handed_on _ c.in_err-rule_refusal.field-0.0 c.from_residual-in_err-rule_refusal.ensures.1
    ∙ read_tested a.file.now a.size a.rule held.number _ held.file _ c.in_err-rule_refusal.ensures

pub returns-clause-number : goal.returns-clause-number
returns-clause-number c =
    let a = c.args in
    let held = c.in_ok-held.ensures in
    read_tested a.file.now a.size a.rule held.number _ held.file _ c.in_ok-rule_refusal.ensures
