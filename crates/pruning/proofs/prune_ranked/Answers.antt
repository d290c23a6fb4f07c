-- The ranked file gives the passes what they need, the first pass notes for the second the outcome of the worst kept
-- rule (`worst_noted`), and their outcomes are written as the verdicts (`pruned_by`).
use Rattle.std.proofs.Common.{◌∙◌, length-take, arith}
use Rattle.rule_file.specs.Contents.{rules_of}
use Rattle.ranking.proofs.Laws.Ranked.{ranked_few_rules, ranked_few_steps, ranked_numbers, ranked_distinct}
use Rattle.search.proofs.Laws.JointAreas.{kept_more}
use Rattle.deciding.specs.Code.Table.{table_is}
use Rattle.deciding.specs.Outcome.{outcome}
use Rattle.deciding.proofs.Laws.Turns.{kept_listed, worst_noted}
use Rattle.pruning.specs.Code.Pruned.{pruned_by}
use Rattle.pruning.proofs.prune_ranked.Goals as goal

pub overflow_cast-steps : goal.overflow_cast-steps
overflow_cast-steps c =
    let file = c.requires.by_index in
    omega (arith, ranked_few_steps file.0 c.args.ranked.now file.1)

pub first_pass-first-requires-clause-count_le_most_rules :
    goal.first_pass-first-requires-clause-count_le_most_rules
first_pass-first-requires-clause-count_le_most_rules c =
    let file = c.requires.by_index in
    let r = c.args.ranked.now in (
      omega (arith, length-take r.file.count r.order, ranked_few_rules file.0 r file.1),
      ranked_few_steps file.0 r file.1,
    )

pub shared_ref_as_front-first_pass : goal.shared_ref_as_front-first_pass
shared_ref_as_front-first_pass c =
    let file = c.requires.by_index in
    ranked_few_rules file.0 c.args.ranked.now file.1

pub first_pass-first-requires-clause-all : goal.first_pass-first-requires-clause-all
first_pass-first-requires-clause-all c =
    let file = c.requires.by_index in
    let r = c.args.ranked.now in
    (ranked_numbers file.0 r file.1, ranked_distinct file.0 r file.1)

pub second_pass-seconds-requires-clause-steps_le_most_steps :
    goal.second_pass-seconds-requires-clause-steps_le_most_steps
second_pass-seconds-requires-clause-steps_le_most_steps c =
    let file = c.requires.by_index in
    let r = c.args.ranked.now in
    let passed =
    c.first_pass-first.ensures.passed (rules_of file.0) (c.table_of-table.ensures ∙ table_is file.0 r file.1) in
    let kept =
    kept_listed (outcome (rules_of file.0) r.file.steps) c.first_pass-first.result.kept _
    (ranked_numbers file.0 r file.1) (ranked_distinct file.0 r file.1) passed.0 in (
      ranked_few_steps file.0 r file.1,
      omega (arith, ranked_few_rules file.0 r file.1),
      kept.keeps,
    )

pub second_pass-seconds-requires-clause-all : goal.second_pass-seconds-requires-clause-all
second_pass-seconds-requires-clause-all c =
    let file = c.requires.by_index in
    let r = c.args.ranked.now in
    let passed =
    c.first_pass-first.ensures.passed (rules_of file.0) (c.table_of-table.ensures ∙ table_is file.0 r file.1) in
    let kept =
    kept_listed (outcome (rules_of file.0) r.file.steps) c.first_pass-first.result.kept _
    (ranked_numbers file.0 r file.1) (ranked_distinct file.0 r file.1) passed.0 in
    (kept.numbered, kept.distinct)

pub write_reports-requires : goal.write_reports-requires
write_reports-requires c =
    let file = c.requires.by_index in
    (ranked_few_rules file.0 c.args.ranked.now file.1, omega arith)

pub returns-clause-written : goal.returns-clause-written
returns-clause-written c = λ bs e.
    let r = c.args.ranked.now in
    let kept = c.first_pass-first.result.kept in
    let firsts = c.first_pass-first.result.outcomes in
    let table = c.table_of-table.ensures ∙ table_is bs r e in
    let passed = c.first_pass-first.ensures.passed (rules_of bs) table in
    let worst =
    worst_noted (outcome (rules_of bs) r.file.steps) kept _ firsts (ranked_distinct bs r e) passed.0 passed.1 in
    pruned_by bs r e kept firsts c.second_pass-seconds.result passed
    (c.second_pass-seconds.ensures.passed (rules_of bs) table worst) _ _ c.write_reports.ensures

pub returns-clause-kept : goal.returns-clause-kept
returns-clause-kept c = kept_more _ _ _ _ _ _ c.first_pass-first.ensures.kept c.second_pass-seconds.ensures.kept
