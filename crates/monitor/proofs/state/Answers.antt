-- `state` meets its contract: the refusal of the file and the rule number first (`refused_answers`), then the run
-- (`followed_answers`).
use Rattle.std.proofs.Common.{◌≡◌, ◌≤◌, length, sym, ap, subst, ◌∙◌, arith}
use Rattle.refusals.proofs.Laws.Number.{number_not_zero}
use Rattle.rule_file.specs.Contents.{rules_of, rule_refusal}
use Rattle.rule_file.proofs.Laws.Contents.{count_held, rule_held, refusal_of, file_refused, accepted_rule, has_rule_lem}
use Rattle.rule_file.proofs.Laws.Accepted.{file_formed}
use Rattle.rule_file.proofs.Laws.Name.{steps_held, steps_few}
use Rattle.values.specs.Answer.{Answers}
use Rattle.values.specs.Given.{answer_of}
use Rattle.values.proofs.Laws.Given.{handed}
use Rattle.values.proofs.Laws.Answer.{refused_answers, followed_answers}
use Rattle.monitor.proofs.state.Goals as goal
use Rattle.monitor.proofs.state.Goals.{In_ok-rule_refusal}

pub returns-in_err-held : goal.returns-in_err-held
returns-in_err-held c =
    let a = c.args in
    let e = c.in_err-held.field-0.0 in
    let f = c.in_err-held.ensures.number in
    let later = file_refused a.file.now a.rule (λ z. number_not_zero e (f ∙ z)) in
    subst (Answers a.file.now a.run.now a.rule) (sym (ap answer_of (handed _ e c.from_residual.ensures.1)))
    (refused_answers a.file.now a.run.now a.rule _ (f ∙ later) (number_not_zero e))

pub returns-in_err-rule_refusal : goal.returns-in_err-rule_refusal
returns-in_err-rule_refusal c =
    let a = c.args in
    let bs = a.file.now in
    let e = c.in_err-rule_refusal.field-0.0 in
    let held = c.in_ok-held.ensures in
    subst (Answers bs a.run.now a.rule)
    (sym (ap answer_of (handed _ e c.from_residual-in_err-rule_refusal.ensures.1)))
    (refused_answers bs a.run.now a.rule _
    (c.in_err-rule_refusal.ensures ∙ refusal_of bs a.rule _ _ held.number (count_held bs _ held.file))
    (number_not_zero e))

-- neither the file nor the rule number is refused, so that the rule is there
accepted : (c : In_ok-rule_refusal) → 0 ≡ rule_refusal c.args.file.now c.args.rule
accepted c =
    let bs = c.args.file.now in
    let held = c.in_ok-held.ensures in
    c.in_ok-rule_refusal.ensures ∙ refusal_of bs c.args.rule _ _ held.number (count_held bs _ held.file)

there : (c : In_ok-rule_refusal) → (1 ≤ c.args.rule) × (c.args.rule ≤ length (rules_of c.args.file.now))
there c = has_rule_lem _ _ (accepted_rule _ _ (accepted c))

pub bounds-held-place : goal.bounds-held-place
bounds-held-place c =
    let here = there (goal.at.bounds-held-place c).In_ok-rule_refusal in
    omega (arith, here.0, here.1, (file_formed c.args.file.now).few_rules)

pub follow-requires : goal.follow-requires
follow-requires c = steps_few c.args.file.now _ c.in_ok-held.ensures.file

pub returns : goal.returns
returns c =
    let k = (goal.at.returns c).In_ok-rule_refusal in
    let here = there k in
    let a = c.args in
    let bs = a.file.now in
    let e = c.in_ok-held.ensures.file in
    followed_answers bs a.run.now a.rule _ _ _ (accepted k) (rule_held bs _ e a.rule _ here.0 here.1)
    (steps_held bs _ e) c.follow.ensures
