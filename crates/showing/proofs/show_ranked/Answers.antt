-- `show_ranked` meets its contract: the first pass over the rules before the given one leaves those that are kept
-- before it.
use Rattle.std.proofs.Common.{ℕ, ◌∙◌, subst, arith}
use Rattle.rule_file.proofs.Laws.Contents.{has_rule_lem}
use Rattle.rule_file.specs.Contents.{rules_of}
use Rattle.ranking.proofs.Laws.Ranked.{ranked_count, ranked_steps, ranked_few_rules, ranked_few_steps}
use Rattle.search.proofs.Laws.JointAreas.{kept_more}
use Rattle.deciding.specs.Code.Table.{table_is}
use Rattle.shown.proofs.Laws.Given.{front_short, front_numbers, front_distinct, kept_given}
use Rattle.shown.specs.Shows.{kept_before}
use Rattle.shown.proofs.Laws.Shows.{others_before}
use Rattle.shown.specs.Code.Sequences.{BothSequences}
use Rattle.showing.proofs.show_ranked.Goals as goal

pub overflow_cast-steps : goal.overflow_cast-steps
overflow_cast-steps c =
    let i = c.requires.by_index in
    omega (arith, ranked_few_steps i.0 c.args.ranked.now i.1)

pub shared_ref_as_front-before : goal.shared_ref_as_front-before
shared_ref_as_front-before c =
    let i = c.requires.by_index in
    ranked_few_rules i.0 c.args.ranked.now i.1

pub first_pass-first-requires-clause-count_le_most_rules :
    goal.first_pass-first-requires-clause-count_le_most_rules
first_pass-first-requires-clause-count_le_most_rules c =
    let i = c.requires.by_index in
    let r = c.args.ranked.now in (
      omega (arith, front_short i.0 r i.1 _ _ c.before-better.ensures, ranked_few_rules i.0 r i.1),
      ranked_few_steps i.0 r i.1,
    )

pub first_pass-first-requires-clause-all : goal.first_pass-first-requires-clause-all
first_pass-first-requires-clause-all c =
    let i = c.requires.by_index in
    let r = c.args.ranked.now in
    let is = c.before-better.ensures in
    (front_numbers i.0 r i.1 _ _ is, front_distinct i.0 r i.1 _ _ is)

pub show_candidate-requires-clause-rule_number : goal.show_candidate-requires-clause-rule_number
show_candidate-requires-clause-rule_number c =
    let i = c.requires.by_index in
    let r = c.args.ranked.now in
    let n = has_rule_lem i.0 c.args.rule i.2 in (
      (n.0, omega (arith, n.1, ranked_count i.0 r i.1, ranked_few_rules i.0 r i.1)),
      ranked_few_steps i.0 r i.1,
    )

pub returns-clause-shows : goal.returns-clause-shows
returns-clause-shows c =
    λ bs e h.
    let r = c.args.ranked.now in
    let n = c.args.rule in
    let v = c.show_candidate in
    let first = c.first_pass-first in
    let table = c.table_of-table.ensures ∙ table_is bs r e in
    let kept =
    kept_given bs r e n _ c.before-better.ensures h first.result.kept (first.ensures.passed (rules_of bs) table).0 in
    subst
    (λ (k : ℕ).
    BothSequences (rules_of bs) k (kept_before bs n) n c.args.satisfying.now c.args.violating.now
    v.new.first v.new.second v.result)
    (ranked_steps bs r e)
    (v.ensures.shows (rules_of bs) (kept_before bs n) table kept.holds (others_before bs n h))

pub returns-clause-kept : goal.returns-clause-kept
returns-clause-kept c = kept_more _ _ _ _ _ _ c.first_pass-first.ensures.kept c.show_candidate.ensures.kept
