-- `step` meets its contract: a refusal is that of the list, the file or the step (`step_refused`), or of an entry
-- (`entry_refused`), and the entries that are moved are those of the rules (`steps`).
use Rattle.std.proofs.Common.{sym, subst, length}
use Rattle.refusals.proofs.Laws.Number.{number_not_zero}
use Rattle.values.proofs.Laws.Given.{handed_on}
use Rattle.watch_list.specs.Watching.{Steps}
use Rattle.watch_list.proofs.Laws.Calls.{within, step_begun, step_refused, entries_there, entry_refused, entries_known, steps}
use Rattle.watch.proofs.step.Goals as goal

pub returns-in_err-held : goal.returns-in_err-held
returns-in_err-held c =
    let a = c.args in
    let e = c.in_err-held.field-0.0 in
    subst (Steps a.file.now a.step a.list.now a.list.now) (sym (handed_on _ e c.from_residual.ensures.1))
    (step_refused a.file.now a.list.now a.step _ c.in_err-held.ensures.number (number_not_zero e))

pub shared_ref_as_front-rules : goal.shared_ref_as_front-rules
shared_ref_as_front-rules c =
    let file = c.args.file.now in
    let size = length c.args.list.now in
    let held = c.in_ok-held.ensures in
    (within file size (step_begun file size c.args.step held.number) _ held.file).1

pub all_known-every-requires : goal.all_known-every-requires
all_known-every-requires c =
    let held = c.in_ok-held.ensures in
    entries_there c.args.file.now c.args.list.now c.args.step _ held.file held.number

pub returns-in_err-refuse_if : goal.returns-in_err-refuse_if
returns-in_err-refuse_if c =
    let a = c.args in
    let held = c.in_ok-held.ensures in
    let e = c.in_err-refuse_if.field-0.0 in
    subst (Steps a.file.now a.step a.list.now a.list.now)
    (sym (handed_on _ e c.from_residual-in_err-refuse_if.ensures.1))
    (entry_refused a.file.now a.list.now a.step _ held.file held.number _ c.all_known-every.ensures _
    c.in_err-refuse_if.ensures (number_not_zero e))

pub move_all-requires : goal.move_all-requires
move_all-requires c =
    let a = c.args in
    let held = c.in_ok-held.ensures in (
      entries_there a.file.now a.list.now a.step _ held.file held.number,
      entries_known a.file.now a.list.now a.step _ held.file held.number _ c.all_known-every.ensures
          c.in_ok-refuse_if.ensures,
    )

pub returns : goal.returns
returns c =
    let a = c.args in
    let held = c.in_ok-held.ensures in
    steps a.file.now a.list.now a.step _ held.file held.number _ c.all_known-every.ensures c.in_ok-refuse_if.ensures _
    c.move_all.ensures
