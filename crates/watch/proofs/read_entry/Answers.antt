-- `read_entry` meets its contract: a refusal is that of the call (`reading_refused`), and what is said is of the rule's
-- entry (`reads`), which is there.
use Rattle.std.proofs.Common.{length, sym, ap, subst, arith}
use Rattle.refusals.proofs.Laws.Number.{number_not_zero}
use Rattle.values.proofs.Laws.Given.{handed}
use Rattle.watch_list.specs.Given.{entry_state_of}
use Rattle.watch_list.specs.Watching.{Reads}
use Rattle.watch_list.proofs.Laws.Calls.{read_there, reading_refused, reads}
use Rattle.watch.proofs.read_entry.Goals as goal

pub returns-in_err-held : goal.returns-in_err-held
returns-in_err-held c =
    let a = c.args in
    let e = c.in_err-held.field-0.0 in
    subst (Reads a.file.now a.list.now a.rule) (sym (ap entry_state_of (handed _ e c.from_residual.ensures.1)))
    (reading_refused a.file.now a.list.now a.rule _ c.in_err-held.ensures.number (number_not_zero e))

pub overflow_sub-place : goal.overflow_sub-place
overflow_sub-place c =
    (read_there c.args.file.now (length c.args.list.now) c.args.rule c.in_ok-held.ensures.number).0

pub bounds-held-place : goal.bounds-held-place
bounds-held-place c =
    let there = read_there c.args.file.now (length c.args.list.now) c.args.rule c.in_ok-held.ensures.number in
    omega (arith, there.0, there.1)

pub bounds-list-place : goal.bounds-list-place
bounds-list-place c =
    let there = read_there c.args.file.now (length c.args.list.now) c.args.rule c.in_ok-held.ensures.number in
    omega (arith, there.0, there.1, there.2)

pub returns : goal.returns
returns c =
    reads c.args.file.now c.args.list.now c.args.rule c.in_ok-held.held c.in_ok-held.ensures.file
    c.in_ok-held.ensures.number _ _ c.state_of.ensures
