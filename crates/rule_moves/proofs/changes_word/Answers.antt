-- `changes_word` meets its contract: the loop places whether the activation states before and after differ
-- (`placed_more`, `change_marked`).
use Rattle.std.proofs.Common.{not, refl, ap, ◌∙◌, ℕ, eqb, get_or, arith}
use mir.Val.{bool_byte}
use Rattle.places.specs.Places.{replace, placed}
use Rattle.places.specs.Laws.Places.{place_lt, placed_more, placed_whole}
use Rattle.values.specs.Code.Moves.{change_marked}
use Rattle.rule_moves.proofs.changes_word.Goals as goal

pub loop-standing-init : goal.loop-standing-init
unfolding placed
loop-standing-init c = refl

pub bounds-states-after : goal.bounds-states-after
bounds-states-after c =
    omega (arith, c.at_place-after.ensures, place_lt 4 c.args.next c.loop-standing.standing)

pub loop-standing-preserved : goal.loop-standing-preserved
loop-standing-preserved c =
    let l = c.loop-standing in
    let q = l.standing in
    let states = c.args.states.now in
    placed_more 4 _ q l.word l.invariant _
    (c.with_place-word.ensures
    ∙ ap (λ (v : ℕ). replace 4 l.word q v) c.from.ensures
    ∙ ap (λ (k : ℕ). replace 4 l.word q (bool_byte (not (eqb (get_or states q 0) (get_or states k 0)))))
    c.at_place-after.ensures)

pub returns : goal.returns
returns c t other k e f =
    let l = c.loop-standing in
    placed_whole 4 _ l.standing _ l.invariant _ 16 (omega arith) (change_marked t other k _ _ e f)
