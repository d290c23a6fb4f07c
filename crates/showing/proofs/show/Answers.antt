-- `show` meets its contract: it refuses areas, then the file, then the rule number; and it shows what is to be shown
-- (`shown_for`).
use Rattle.std.proofs.Common.{Bool, true, false, not, cond, List, ◌≡◌, refl, ℕ, ◌≤◌, sym, ap, ◌∙◌, subst, arith, rules}
use Rattle.refusals.specs.Number.{refusal_number, result_number}
use Rattle.refusals.proofs.Laws.Number.{number_not_zero}
use Rattle.rule_file.specs.Contents.{has_rule, number_refusal, rule_refusal}
use Rattle.rule_file.specs.Decode.{read_file}
use Rattle.rule_file.proofs.Laws.Contents.{refusal_of, file_refused, accepted_rule, has_rule_lem}
use Rattle.rule_file.proofs.Laws.Accepted.{file_formed}
use Rattle.ranking.specs.Ranked.{ranked_file}
use Rattle.ranking.specs.declared.RankedFile.{RankedFile}
use Rattle.ranking.proofs.Laws.Ranked.{ranked_count}
use Rattle.shown.proofs.Laws.Refused.{too_short, long_enough, show_areas_fit_lengths, shows_refused}
use Rattle.shown.proofs.Laws.Given.{shown_for}
use Rattle.shown.specs.Shows.{Shows, show_areas_fit}
use Rattle.showing.proofs.show.Goals as goal

-- a test of the areas that refuses them
short : (b : Bool) (number : ℕ) → number ≡ cond b 1 0 → ¬ (number ≡ 0) → (b ≡ true) × (number ≡ 1)
short true number e n = (refl, e)
short false number e n = absurd (n e)

-- and one that does not
long : (fit : Bool) → ◌≡◌ {A = ℕ} 0 (cond (not fit) 1 0) → fit ≡ true
long true e = refl
long false e = absurd (omega arith)

-- they are long enough then
lengths : (found links satisfying violating answer : ℕ) (fit : Bool)
    → fit ≡ show_areas_fit found links satisfying violating answer → ◌≡◌ {A = ℕ} 0 (cond (not fit) 1 0)
    → ((8192 ≤ found) × (16384 ≤ links)) × ((4095 ≤ satisfying) × (4095 ≤ violating)) × (8 ≤ answer)
lengths found links satisfying violating answer fit is h =
    show_areas_fit_lengths found links satisfying violating answer (sym is ∙ long fit h)

-- the refusal of a rule number of a file that is accepted
numbered : (bs : List ℕ) (n : ℕ) (r : RankedFile) → r ≡ ranked_file bs → 0 ≡ (read_file bs).refusal
    → number_refusal 0 r.file.count n ≡ rule_refusal bs n
numbered bs n r e read = refusal_of bs n 0 _ read (ranked_count bs r e)

-- accepted, the file has the rule
there : (bs : List ℕ) (n : ℕ) (r : RankedFile) → r ≡ ranked_file bs → 0 ≡ (read_file bs).refusal
    → 0 ≡ number_refusal 0 r.file.count n → has_rule bs n ≡ true
there bs n r e read is = accepted_rule bs n (is ∙ numbered bs n r e read)

pub returns-in_err-refuse_if : goal.returns-in_err-refuse_if
returns-in_err-refuse_if c =
    let e = c.in_err-refuse_if.field-0.0 in
    let number : refusal_number e ≡ result_number c.from_residual.result = search rules in
    let is = short _ _ c.in_err-refuse_if.ensures (number_not_zero e) in
    subst (Shows c.args.file.now c.args.rule _ _ _ _ _ _ _ _ _ _) number
    (shows_refused _ _ _ _ _ _ _ _
    (is.1 ∙ too_short _ _ _ _ _ c.args.file.now c.args.rule _ c.areas_fit-fit.ensures is.0)
    (number_not_zero e))

pub returns-in_err-ranked : goal.returns-in_err-ranked
returns-in_err-ranked c =
    let bs = c.args.file.now in
    let e = c.in_err-ranked.field-0.0 in
    let number : refusal_number e ≡ result_number c.from_residual-in_err-ranked.result = search rules in
    let read = c.in_err-ranked.ensures.number in
    subst (Shows bs c.args.rule _ _ _ _ _ _ _ _ _ _) number
    (shows_refused _ _ _ _ _ _ _ _
    (read ∙ file_refused bs c.args.rule (λ z. number_not_zero e (read ∙ z))
    ∙ long_enough _ _ _ _ _ bs c.args.rule _ c.areas_fit-fit.ensures (ap not (long _ c.in_ok-refuse_if.ensures)))
    (number_not_zero e))

pub returns-in_err-rule_refusal : goal.returns-in_err-rule_refusal
returns-in_err-rule_refusal c =
    let bs = c.args.file.now in
    let rule = c.args.rule in
    let e = c.in_err-rule_refusal.field-0.0 in
    let number : refusal_number e ≡ result_number c.from_residual-in_err-rule_refusal.result = search rules in
    let r = c.in_ok-ranked.ensures in
    subst (Shows bs rule _ _ _ _ _ _ _ _ _ _) number
    (shows_refused _ _ _ _ _ _ _ _
    (c.in_err-rule_refusal.ensures ∙ numbered bs rule c.in_ok-ranked.ranked r.ranked r.number
    ∙ long_enough _ _ _ _ _ bs rule _ c.areas_fit-fit.ensures (ap not (long _ c.in_ok-refuse_if.ensures)))
    (number_not_zero e))

pub overflow_cast-rule : goal.overflow_cast-rule
overflow_cast-rule c =
    let bs = c.args.file.now in
    let rule = c.args.rule in
    let r = c.in_ok-ranked.ensures in
    let has = there bs rule c.in_ok-ranked.ranked r.ranked r.number c.in_ok-rule_refusal.ensures in
    omega (arith, (has_rule_lem bs rule has).1, (file_formed bs).few_rules)

pub show_ranked-shown-requires-clause-work_areas : goal.show_ranked-shown-requires-clause-work_areas
show_ranked-shown-requires-clause-work_areas c =
    (lengths _ _ _ _ _ _ c.areas_fit-fit.ensures c.in_ok-refuse_if.ensures).0

pub show_ranked-shown-requires-clause-sequence_bytes_in_bounds :
    goal.show_ranked-shown-requires-clause-sequence_bytes_in_bounds
show_ranked-shown-requires-clause-sequence_bytes_in_bounds c =
    (lengths _ _ _ _ _ _ c.areas_fit-fit.ensures c.in_ok-refuse_if.ensures).1

pub show_ranked-shown-requires-clause-by_index : goal.show_ranked-shown-requires-clause-by_index
show_ranked-shown-requires-clause-by_index c =
    let bs = c.args.file.now in
    let rule = c.args.rule in
    let r = c.in_ok-ranked.ensures in (
      _,
      r.ranked,
      there bs rule c.in_ok-ranked.ranked r.ranked r.number c.in_ok-rule_refusal.ensures,
    )

pub write_answer-requires : goal.write_answer-requires
write_answer-requires c =
    (lengths _ _ _ _ _ _ c.areas_fit-fit.ensures c.in_ok-refuse_if.ensures).2

pub returns : goal.returns
returns c =
    let bs = c.args.file.now in
    let rule = c.args.rule in
    let r = c.in_ok-ranked.ensures in
    let v = c.show_ranked-shown in
    let has = there bs rule c.in_ok-ranked.ranked r.ranked r.number c.in_ok-rule_refusal.ensures in
    record {
      returned =
          c.in_ok-rule_refusal.ensures
          ∙ numbered bs rule c.in_ok-ranked.ranked r.ranked r.number
          ∙ long_enough _ _ _ _ _ bs rule _ c.areas_fit-fit.ensures (ap not (long _ c.in_ok-refuse_if.ensures));
      written =
          λ e.
          shown_for bs rule has _ _ _ _ _ _ v.result (v.ensures.shows bs r.ranked has) c.write_answer.ensures;
      rest = v.ensures.kept;
      untouched = λ n. absurd (n refl);
    }
