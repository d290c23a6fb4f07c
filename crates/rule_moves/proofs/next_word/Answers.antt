-- `next_word` meets its contract: the loop places what each row has for the kind (`placed_more`, `row_next`).
use Rattle.std.proofs.Common.{refl, ap, ◌∙◌, ◌<◌, ℕ, arith}
use Rattle.std.proofs.Math.Path.{subst⁻¹}
use Rattle.places.specs.Places.{replace, placed}
use Rattle.places.specs.Laws.Places.{placed_more, placed_whole}
use Rattle.template.specs.Code.Columns.{no_row}
use Rattle.template.proofs.Laws.Columns.{row_next}
use Rattle.rule_moves.proofs.next_word.Goals as goal

pub loop-standing-init : goal.loop-standing-init
unfolding placed
loop-standing-init c = refl

pub with_place-word-requires : goal.with_place-word-requires
with_place-word-requires c =
    let h = c.loop-standing-test.true in
    (h, subst⁻¹ (λ (n : ℕ). n < 16) c.next.ensures (c.requires c.loop-standing.standing c.args.kind h))

pub loop-standing-preserved : goal.loop-standing-preserved
loop-standing-preserved c =
    let l = c.loop-standing in
    placed_more 4 _ l.standing l.word l.invariant _
    (c.with_place-word.ensures ∙ ap (λ (v : ℕ). replace 4 l.word l.standing v) c.next.ensures)

pub returns : goal.returns
returns c t e =
    let l = c.loop-standing in
    placed_whole 4 _ l.standing _ l.invariant _ 16 (omega arith) (λ q h. row_next c.args.rows.now t e q no_row _ h)
