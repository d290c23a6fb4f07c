-- `stepped_file` meets its contract: its test of the step comes after those of the list and the file
-- (`refused_before`), and is that of the definition (`step_tested`).
use Rattle.std.proofs.Common.{ℕ, ◌≡◌, ap, ◌∙◌, leb, cond}
use Rattle.rule_file.proofs.Laws.Name.{steps_held}
use Rattle.rule_file.specs.Contents.{steps_of}
use Rattle.refusals.proofs.Laws.Number.{number_not_zero}
use Rattle.values.proofs.Laws.Given.{handed_on}
use Rattle.watch_list.proofs.Laws.Calls.{refused_before, step_tested}
use Rattle.watch_plans.proofs.stepped_file.Goals as goal
use Rattle.watch_plans.proofs.stepped_file.Goals.{In_ok-held}

-- the file declares the steps that are held of it
tested : (c : In_ok-held) (k : ℕ) → k ≡ cond (leb c.in_ok-held.held.steps c.args.step) 15 0
    → k ≡ cond (leb (steps_of c.args.file.now) c.args.step) 15 0
tested c k e =
    e ∙ ap (λ (n : ℕ). cond (leb n c.args.step) 15 0) (steps_held c.args.file.now _ c.in_ok-held.ensures.file)

pub returns-in_err-held-clause-number : goal.returns-in_err-held-clause-number
returns-in_err-held-clause-number c =
    let e = c.in_err-held.field-0.0 in
    handed_on _ e c.from_residual.ensures.1
    ∙ refused_before _ (steps_of c.args.file.now) c.args.step _ c.in_err-held.ensures.number (number_not_zero e)

pub returns-in_err-refuse_if-clause-number : goal.returns-in_err-refuse_if-clause-number
returns-in_err-refuse_if-clause-number c =
    let k = (goal.at.returns-in_err-refuse_if-clause-number c).In_ok-held in
    let e = c.in_err-refuse_if.field-0.0 in
    handed_on _ e c.from_residual-in_err-refuse_if.ensures.1
    ∙ step_tested _ (steps_of c.args.file.now) c.args.step _ c.in_ok-held.ensures.number
    (tested k _ c.in_err-refuse_if.ensures)

pub returns-clause-number : goal.returns-clause-number
returns-clause-number c =
    let k = (goal.at.returns-clause-number c).In_ok-held in
    step_tested _ (steps_of c.args.file.now) c.args.step _ c.in_ok-held.ensures.number
    (tested k _ c.in_ok-refuse_if.ensures)
