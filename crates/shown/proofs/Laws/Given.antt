-- What a ranked file gives to showing: the rules before a rule in the order of decision, and those of them that are
-- kept. The sequences of the rule's test against these are what showing promises (`is_shown`).
use Rattle.std.specs.Prelude.{true, false, ◌≡◌, List, ℕ, ◌≤◌, eqb, length, take, drop}
use Rattle.std.proofs.Common.{sym, ap, ap₂, ◌∙◌, subst, arith, length-take, take-append-drop, take-take}
use Rattle.lists.specs.First.{first_index}
use Rattle.lists.specs.Members.{All, Distinct}
use Rattle.lists.specs.Laws.First.{first_within}
use Rattle.lists.specs.Laws.Members.{all_take, distinct_front}
use Rattle.lists.specs.Parts.{before}
use Rattle.lists.specs.Laws.Parts.{before_first}
use Rattle.refusals.specs.Refusal.{written_over}
use Rattle.rule.specs.Behaviour.{RuleNumber}
use Rattle.rule_file.specs.Contents.{rules_of, steps_of, has_rule}
use Rattle.ranking.specs.declared.RankedFile.{RankedFile}
use Rattle.ranking.specs.Ranked.{ranked_file}
use Rattle.ranking.proofs.Laws.Ranked.{ranked_steps, ranked_order, ranked_numbers, ranked_distinct}
use Rattle.deciding.specs.declared.Kept.{Kept}
use Rattle.deciding.specs.Code.Kept.{Keeps}
use Rattle.deciding.specs.Outcome.{outcome}
use Rattle.deciding.specs.Passes.{kept_of}
use Rattle.shown.specs.Shows.{kept_before, ShownFor}
use Rattle.shown.proofs.Laws.Shows.{kept_before_lem, is_shown}
use Rattle.shown.specs.declared.BothShown.{BothShown}
use Rattle.shown.specs.Answer.{answer_numbers}
use Rattle.shown.specs.Code.Sequences.{BothSequences}

module _ (bs : List ℕ) (r : RankedFile) (e : r ≡ ranked_file bs) (n : ℕ) (front : List ℕ)
    (is : front ≡ before n (take r.file.count r.order)) where
  abbrev order : List ℕ
  order = take r.file.count r.order

  abbrev place : ℕ
  place = first_index (λ m. eqb m n) order

  -- the front is a part of the order
  part : front ≡ take place order
  part = is ∙ sym (before_first n order)

  pub front_short : length front ≤ r.file.count
  front_short = omega (arith, ap length part, length-take place order, length-take r.file.count r.order)

  pub front_numbers : All RuleNumber front
  front_numbers = subst (All RuleNumber) (sym part) (all_take RuleNumber place order (ranked_numbers bs r e))

  pub front_distinct : Distinct front
  front_distinct =
      subst Distinct (sym part)
      (distinct_front (take place order) (drop place order)
      (subst Distinct (sym (take-append-drop place order)) (ranked_distinct bs r e)))

  -- and those of them that are kept
  pub kept_given : has_rule bs n ≡ true → (k : Kept) → Keeps k (kept_of (outcome (rules_of bs) r.file.steps) front)
      → Keeps k (kept_before bs n)
  kept_given h k d =
      subst (Keeps k)
      (ap₂ (λ (s : ℕ) (l : List ℕ). kept_of (outcome (rules_of bs) s) l) (ranked_steps bs r e)
      (is ∙ ap (before n) (ranked_order bs r e))
      ∙ kept_before_lem bs n h)
      d

-- by the place of the rule in the order
module _ (bs : List ℕ) (r : RankedFile) (e : r ≡ ranked_file bs) (n place : ℕ)
    (is : place ≡ first_index (λ m. eqb m n) (take r.file.count r.order)) where
  pub place_low : place ≤ r.file.count
  place_low =
      omega (
        arith,
        first_within (λ m. eqb m n) 0 (take r.file.count r.order),
        length-take r.file.count
            r.order,
      )

  -- the rules before it
  front_placed : take place r.order ≡ before n (take r.file.count r.order)
  front_placed =
      sym (take-take place r.file.count r.order place_low)
      ∙ ap (λ (k : ℕ). take k (take r.file.count r.order)) is
      ∙ before_first n (take r.file.count r.order)

  pub front_numbers_placed : All RuleNumber (take place r.order)
  front_numbers_placed = front_numbers bs r e n (take place r.order) front_placed

  pub front_distinct_placed : Distinct (take place r.order)
  front_distinct_placed = front_distinct bs r e n (take place r.order) front_placed

  -- and those of them that are kept
  pub kept_given_placed : has_rule bs n ≡ true → (k : Kept)
      → Keeps k (kept_of (outcome (rules_of bs) r.file.steps) (take place r.order)) → Keeps k (kept_before bs n)
  kept_given_placed = kept_given bs r e n (take place r.order) front_placed

-- what a test's sequences are and write is what showing promises
pub shown_for : (bs : List ℕ) (n : ℕ) → has_rule bs n ≡ true
    → (satisfying violating answer satisfying' violating' answer' : List ℕ) (a : BothShown)
    → BothSequences (rules_of bs) (steps_of bs) (kept_before bs n) n satisfying violating satisfying' violating' a
    → answer' ≡ written_over (answer_numbers a) answer
    → ShownFor bs n satisfying violating answer satisfying' violating' answer'
shown_for bs n h satisfying violating answer satisfying' violating' answer' a c e =
    record {
      satisfying_is = is_shown bs n h true;
      violating_is = is_shown bs n h false;
      satisfying_area = c.satisfies.1;
      violating_area = c.violates.1;
      numbers =
          e
          ∙ (λ i. written_over (answer_numbers (record { satisfying = c.satisfies.0 i; violating = c.violates.0 i }))
          answer);
    }
