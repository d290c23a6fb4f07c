-- `begin` meets its contract: a refusal is that of the list and the file (`begin_refused`), and the entries that are
-- filled are those of the rules (`begins`).
use Rattle.std.proofs.Common.{length, sym, subst}
use Rattle.std.proofs.lemmas.List.{length-take-le}
use Rattle.refusals.proofs.Laws.Number.{number_not_zero}
use Rattle.values.proofs.Laws.Given.{handed_on}
use Rattle.watch_list.specs.Watching.{Begins}
use Rattle.watch_list.proofs.Laws.Calls.{within, begin_refused, begins}
use Rattle.watch_list.proofs.Laws.List.{begun_filled}
use Rattle.watch.proofs.begin.Goals as goal

pub returns-in_err-held : goal.returns-in_err-held
returns-in_err-held c =
    let file = c.args.file.now in
    let list = c.args.list.now in
    let e = c.in_err-held.field-0.0 in
    subst (Begins file list list) (sym (handed_on _ e c.from_residual.ensures.1))
    (begin_refused file list _ c.in_err-held.ensures.number (number_not_zero e))

pub slice_bounds-fill-end : goal.slice_bounds-fill-end
slice_bounds-fill-end c =
    (within c.args.file.now (length c.args.list.now) c.in_ok-held.ensures.number _ c.in_ok-held.ensures.file).0

pub slice_bounds-fill-end-2 : goal.slice_bounds-fill-end-2
slice_bounds-fill-end-2 c =
    let list = c.args.list.now in
    sym (length-take-le _ list
    (within c.args.file.now (length list) c.in_ok-held.ensures.number _ c.in_ok-held.ensures.file).0)

pub returns : goal.returns
returns c =
    let file = c.args.file.now in
    let list = c.args.list.now in
    let held = c.in_ok-held.ensures in
    let n = c.in_ok-held.held.count in
    begins file list _ held.file held.number _
    (begun_filled list n _ (within file (length list) held.number _ held.file).0 (c.fill.ensures.after (λ y e. e)))
