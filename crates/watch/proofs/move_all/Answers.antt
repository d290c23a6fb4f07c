-- `move_all` meets its contract: a turn moves one entry more (`moved_further`). It reads that entry as it was, whose
-- standing is one of the rows of a template (`moved_low`).
use Rattle.std.proofs.Common.{List, length, sym, subst, ◌<◌, arith}
use Rattle.watch_list.specs.declared.Watch.{Watch}
use Rattle.watch_list.specs.Watching.{watch_at}
use Rattle.watch_list.proofs.Laws.List.{moved_none, moved_low, moved_further}
use Rattle.watch.proofs.move_all.Goals as goal

pub loop-i-init : goal.loop-i-init
loop-i-init c = let a = c.args in sym (moved_none a.rules.now a.list.now a.steps a.step)

pub moved_entry-requires : goal.moved_entry-requires
moved_entry-requires c =
    let a = c.args in
    let i = c.loop-i.i in
    subst (λ (l : List Watch). (watch_at l i).standing < 16) (sym c.loop-i.invariant)
    (moved_low a.rules.now a.list.now a.steps a.step (length a.rules.now) i c.requires.1 (omega arith)
    (omega arith))

pub loop-i-preserved : goal.loop-i-preserved
loop-i-preserved c =
    let a = c.args in
    moved_further a.rules.now a.list.now a.steps a.step _ c.loop-i.i _ _ c.loop-i.invariant (omega arith)
    (omega arith) c.moved_entry.ensures
