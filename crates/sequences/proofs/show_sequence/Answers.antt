-- `show_sequence` meets its contract: a look for the place, and what is read back from there (`looked_none`,
-- `looked_here`).
use Rattle.std.proofs.Common.{refl, ◌∙◌, arith}
use Rattle.joint.specs.Joint.{packed}
use Rattle.search.specs.Code.JointSearch.{fitting_by}
use Rattle.search.specs.Code.Areas.{standing_in}
use Rattle.shown.proofs.Laws.SequencesLaws.{looked_none, looked_here}
use Rattle.sequences.proofs.show_sequence.Goals as goal

pub returns-in_err-at : goal.returns-in_err-at
returns-in_err-at c =
    let a = c.args in
    let none = looked_none (fitting_by a.table.now (packed a.kept) a.candidate a.wanted) (standing_in a.found.now)
    a.links.now a.count _ refl (let e = c.in_err-at.ensures in omega (arith, e)) a.area.now in
    (c.from_residual.ensures ∙ none.0, none.1)

pub returns : goal.returns
returns c =
    let a = c.args in
    let at = c.in_ok-at.ensures in
    let back = c.read_back-length in
    looked_here (fitting_by a.table.now (packed a.kept) a.candidate a.wanted) (standing_in a.found.now) _ _
    c.in_ok-at.at at.0 at.1 back.result back.ensures.0 c.standing_at.result c.standing_at.ensures _ _ back.ensures.1
