-- `write_state` meets its contract: it refuses an area that is too short (`short_monitors`), hands on a refusal
-- (`refused_monitors`), and writes the state that it is given (`state_monitors`).
use Rattle.std.proofs.Common.{ℕ, refl, sym, subst, set, ◌∙◌}
use Rattle.refusals.proofs.Laws.Number.{number_not_zero}
use Rattle.values.specs.Answer.{Monitors}
use Rattle.values.proofs.Laws.Given.{handed_on}
use Rattle.values.proofs.Laws.Answer.{short_monitors, long_enough, refused_monitors, state_monitors}
use Rattle.monitor.proofs.write_state.Goals as goal

pub returns-in_err-refuse_if : goal.returns-in_err-refuse_if
returns-in_err-refuse_if c =
    let a = c.args in
    let e = c.in_err-refuse_if.field-0.0 in
    subst (Monitors a.file.now a.run.now a.rule a.answer.now a.answer.now)
    (sym (handed_on _ e c.from_residual.ensures.1))
    (short_monitors a.file.now a.run.now a.rule a.answer.now _ c.in_err-refuse_if.ensures (number_not_zero e))

pub returns-in_err-state : goal.returns-in_err-state
returns-in_err-state c =
    let a = c.args in
    let e = c.in_err-state.field-0.0 in
    let long = long_enough a.file.now a.run.now a.rule a.answer.now c.in_ok-refuse_if.ensures in
    subst (Monitors a.file.now a.run.now a.rule a.answer.now a.answer.now)
    (sym (handed_on _ e c.from_residual-in_err-state.ensures.1))
    (refused_monitors a.file.now a.run.now a.rule a.answer.now long _ c.in_err-state.ensures _ refl)

pub returns : goal.returns
returns c =
    let a = c.args in
    let long = long_enough a.file.now a.run.now a.rule a.answer.now c.in_ok-refuse_if.ensures in
    subst (λ (k : ℕ). Monitors a.file.now a.run.now a.rule a.answer.now (set (set a.answer.now 0 c.from.result) 1 k) 0)
    (sym c.from-2.ensures)
    (state_monitors a.file.now a.run.now a.rule a.answer.now long _ c.in_ok-state.ensures _ c.from.result _ refl
    (c.from.ensures ∙ c.value_number.ensures))
