-- `follow` meets its contract: a step a turn by the words of the rule's moves (`follow_words`), by the laws of
-- `Following`.
use Rattle.std.proofs.Common.{◌≡◌, ap, ap₂, ◌∙◌, ℕ, ◌+◌, ◌≤◌, ◌<◌, get_or, arith}
use Rattle.std.proofs.Math.Path.{subst⁻¹}
use Rattle.template.proofs.Laws.Columns.{rows_low}
use Rattle.values.specs.Code.Moves.{moves_of, change_low}
use Rattle.values.specs.Code.Following.{Following, passed, follow_begins, follow_words, follow_refused, follow_ended}
use Rattle.values.specs.Progress.{has_other}
use Rattle.monitor.proofs.follow.Goals as goal
use Rattle.monitor.proofs.follow.Goals.{At-loop-step}

pub activations_of-states-requires : goal.activations_of-states-requires
activations_of-states-requires c = rows_low _ _ c.rows_of-rows.ensures

pub loop-step-init : goal.loop-step-init
loop-step-init c = (omega arith, λ r e. follow_begins r _ _)

other_is : (c : At-loop-step) → c.has_other-other.result ≡ has_other c.args.rule c.args.steps
other_is c = c.has_other-other.ensures c.args.rule c.lacks_y-lacking.ensures

-- the moves of the rule
moves_are : (c : At-loop-step) → c.moves_of-moves.result ≡ moves_of c.args.rule (has_other c.args.rule c.args.steps)
moves_are c =
    let r = c.args.rule in
    c.moves_of-moves.ensures _
    (c.activations_of-states.ensures r.template c.lacks_y-lacking.ensures c.rows_of-rows.ensures)
    ∙ ap (moves_of r) (other_is c)

followed_so_far : (c : At-loop-step)
    → let l = c.loop-step in
    Following c.args.rule c.args.steps c.args.run.now l.step-index (passed l.standing l.relevant)
followed_so_far c = c.loop-step.invariant.1 c.args.rule (moves_are c)

pub returns-then-steps-step : goal.returns-then-steps-step
returns-then-steps-step c =
    let k = (goal.at.returns-then-steps-step c).At-loop-step in
    follow_refused _ _ _ _ _ (followed_so_far k) c.loop-step-test.true c.if-steps-step.true

pub loop-step-preserved : goal.loop-step-preserved
loop-step-preserved c =
    let k = (goal.at.loop-step-preserved c).At-loop-step in
    let l = c.loop-step in
    let a = c.args in
    -- a declared step is one of 24, and is counted once, or not at all
    let few : get_or a.run.now l.step-index 0 < 24 = omega arith in
    let once : c.at_place.result ≤ 1 =
    (let low = change_low _ _ _ l.standing few (followed_so_far k).low _ (moves_are k) in
    omega (arith, c.at_place.ensures, low)) in (
      omega arith,
      λ r f.
          subst⁻¹ (Following r a.steps a.run.now (l.step-index + 1))
          (ap₂ (λ (q k : ℕ). passed q (l.relevant + k)) c.at_place-standing.ensures c.at_place.ensures)
          (follow_words _ _ _ _ _ _ (l.invariant.1 r f) _ f c.requires c.loop-step-test.true c.if-steps-step.false),
    )

pub returns : goal.returns
returns c =
    let k = (goal.at.returns c).At-loop-step in
    follow_ended _ _ _ _ _ (followed_so_far k) _ _ _ (other_is k) c.loop-step-test.false
    (c.value_in.ensures _ c.lacks_y-lacking.ensures c.rows_of-rows.ensures) c.held_relevant.ensures
