-- The tests are those of `name_refusal`, and the place that is held is that of the name (`name_held`).
use Rattle.std.proofs.Common.{ℕ, ◌≡◌, ◌<◌, length, cond, nat_le, sym, ap, ap₂, ◌∙◌, arith, rules}
use Rattle.std.proofs.lemmas.Bool.Decides.{nat_tests}
use Rattle.refusals.specs.Number.{refusal_number}
use Rattle.refusals.specs.Refusal.{first_refusal}
use Rattle.refusals.proofs.Laws.Number.{refused_by}
use Rattle.rule_file.specs.Name.{name_refusal}
use Rattle.rule_file.specs.Decode.{read_file}
use Rattle.rule_file.proofs.Laws.Name.{steps_held, steps_few, name_held}
use Rattle.reading.proofs.named_step.Goals as goal

-- a test of the number of steps that refuses nothing
declared : (steps step : ℕ) → ◌≡◌ {A = ℕ} (cond (nat_le steps step) 15 0) 0 → step < steps
declared steps step e = grind (arith, nat_tests)

pub returns-in_err-held-clause-number : goal.returns-in_err-held-clause-number
unfolding name_refusal
returns-in_err-held-clause-number c =
    let e = c.in_err-held.field-0.0 in
    let later : ℕ = cond (nat_le (length (read_file c.args.file.now).decoded.names) c.args.step) 15 0 in
    let number : refusal_number e ≡ first_refusal (read_file c.args.file.now).refusal later =
    sym (refused_by (λ n. n) e later) ∙ ap (λ (n : ℕ). first_refusal n later) c.in_err-held.ensures.number in
    search (rules, number)

pub returns-in_err-refuse_if-clause-number : goal.returns-in_err-refuse_if-clause-number
unfolding name_refusal
returns-in_err-refuse_if-clause-number c =
    let bs = c.args.file.now in
    let number : refusal_number c.in_err-refuse_if.field-0.0
    ≡ first_refusal (read_file bs).refusal (cond (nat_le (length (read_file bs).decoded.names) c.args.step) 15 0) =
    c.in_err-refuse_if.ensures
    ∙ ap₂ (λ (r n : ℕ). first_refusal r (cond (nat_le n c.args.step) 15 0)) c.in_ok-held.ensures.number
    (steps_held bs c.in_ok-held.held c.in_ok-held.ensures.file) in
    search (rules, number)

pub offset_bounds-held-step : goal.offset_bounds-held-step
offset_bounds-held-step c =
    omega (
      arith,
      declared _ _ (sym c.in_ok-refuse_if.ensures),
      steps_few c.args.file.now c.in_ok-held.held c.in_ok-held.ensures.file,
    )

pub bounds-held-step : goal.bounds-held-step
bounds-held-step c =
    omega (
      arith,
      declared _ _ (sym c.in_ok-refuse_if.ensures),
      steps_few c.args.file.now c.in_ok-held.held c.in_ok-held.ensures.file,
    )

pub returns-clause-number : goal.returns-clause-number
unfolding name_refusal
returns-clause-number c =
    c.in_ok-refuse_if.ensures
    ∙ ap₂ (λ (r n : ℕ). first_refusal r (cond (nat_le n c.args.step) 15 0)) c.in_ok-held.ensures.number
    (steps_held c.args.file.now c.in_ok-held.held c.in_ok-held.ensures.file)

pub returns-clause-name : goal.returns-clause-name
returns-clause-name c =
    c.part.ensures
    ∙ name_held c.args.file.now c.in_ok-held.held c.in_ok-held.ensures.file c.args.step _
    (declared _ _ (sym c.in_ok-refuse_if.ensures))
