-- It refuses as reading does, after the areas, and what it writes meets the third demand (`third_demand`).
use Rattle.std.proofs.Common.{Bool, true, false, not, cond, ℕ, ◌≡◌, List, refl, sym, ap, ◌∙◌, subst, arith, rules}
use Rattle.refusals.specs.Number.{refusal_number, result_number}
use Rattle.refusals.proofs.Laws.Number.{number_not_zero}
use Rattle.rule_file.specs.Decode.{read_file}
use Rattle.pruning.specs.Prunes.{prune_areas_fit, prune_refusal, Prunes, ThirdDemand}
use Rattle.pruning.specs.Code.Pruned.{as_read, prune_areas_fit_lengths, prunes_refused}
use Rattle.pruning.specs.Laws.Verdict.{third_demand}
use Rattle.pruning.proofs.prune.Goals as goal

-- a test of the areas that refuses them
too_short : (found links verdicts : ℕ) (bs : List ℕ) (fit : Bool) → fit ≡ prune_areas_fit found links verdicts
    → (number : ℕ) → number ≡ cond (not fit) 1 0 → ¬ (number ≡ 0) → number ≡ prune_refusal found links verdicts bs
unfolding prune_refusal
too_short found links verdicts bs true is number e n = absurd (n e)
too_short found links verdicts bs false is number e n = e ∙ ap (λ (b : Bool). cond b (read_file bs).refusal 1) is

-- and one that does not
long_enough : (fit : Bool) → ◌≡◌ {A = ℕ} 0 (cond (not fit) 1 0) → fit ≡ true
long_enough true e = refl
long_enough false e = absurd (omega arith)

pub returns-in_err-refuse_if : goal.returns-in_err-refuse_if
returns-in_err-refuse_if c =
    let bs = c.args.file.now in
    let e = c.in_err-refuse_if.field-0.0 in
    let number : refusal_number e ≡ result_number c.from_residual.result = search rules in
    subst (Prunes bs _ _ _ _ _ _) number
    (prunes_refused _ _ _ _ _
    (too_short _ _ _ bs _ c.areas_fit-fit.ensures _ c.in_err-refuse_if.ensures (number_not_zero e))
    (number_not_zero e))

pub returns-in_err-ranked : goal.returns-in_err-ranked
returns-in_err-ranked c =
    let bs = c.args.file.now in
    let e = c.in_err-ranked.field-0.0 in
    let number : refusal_number e ≡ result_number c.from_residual-in_err-ranked.result = search rules in
    let fit = long_enough _ c.in_ok-refuse_if.ensures in
    subst (Prunes bs _ _ _ _ _ _) number
    (prunes_refused _ _ _ _ _
    (c.in_err-ranked.ensures.number ∙ as_read _ _ _ bs _ c.areas_fit-fit.ensures (ap not fit))
    (number_not_zero e))

pub prune_ranked-requires-clause-work_areas : goal.prune_ranked-requires-clause-work_areas
prune_ranked-requires-clause-work_areas c =
    prune_areas_fit_lengths _ _ _ (sym c.areas_fit-fit.ensures ∙ long_enough _ c.in_ok-refuse_if.ensures)

pub returns : goal.returns
returns c =
    let file = c.args.file.now in
    let verdicts = c.args.verdicts.now in
    let written = c.prune_ranked.ensures.written file c.in_ok-ranked.ensures.ranked in
    let fit = long_enough _ c.in_ok-refuse_if.ensures in
    record {
      returned = c.in_ok-ranked.ensures.number ∙ as_read _ _ _ file _ c.areas_fit-fit.ensures (ap not fit);
      written = λ e. written;
      demand = λ e. subst (ThirdDemand file) (sym written) (third_demand file verdicts);
      rest = c.prune_ranked.ensures.kept;
      untouched = λ n. absurd (n refl);
    }
