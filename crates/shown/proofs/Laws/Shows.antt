-- The sequences that the test of a file's rule gives are the ones to be shown (`is_shown`), and no others are
-- (`shown_only`). They are the first that fit, by the laws of the test's sequences; and each is present exactly by the
-- rule's fate, since the first pass tests the rule against the rules kept before it (`first_at`) and its fate tells
-- what the test found. Only a conflicting rule's fate does not tell of a violating sequence; there is one, since the
-- rules kept before it are satisfied together (`conflicting_violable`), and so the test found one.
use Rattle.std.specs.Prelude.{Bool, ◌≡◌, List, ◌∷◌, ◌++◌, ℕ, ◌<◌, leb, length}
use Rattle.std.proofs.Math.Bool.{true, false, cond}
use Rattle.std.proofs.Common.{true≢false, sym, ap₂, ◌∙◌, subst, leb-true}
use Rattle.std.proofs.Math.Path.{refl, ap}
use Rattle.std.proofs.Math.Option.{Option, none, some}
use Rattle.lists.specs.Laws.Decides.{passes}
use Rattle.lists.proofs.Laws.Order.{first_only}
use Rattle.lists.specs.Members.{All, Member, Distinct}
use Rattle.lists.specs.Laws.Members.{all_member}
use Rattle.lists.specs.Parts.{before, after}
use Rattle.lists.specs.Laws.Parts.{before_after}
use Rattle.refusals.specs.Refusal.{written_over}
use Rattle.rule.specs.declared.Rule.{Rule}
use Rattle.rule.specs.Behaviour.{RuleNumber}
use Rattle.rule_file.proofs.Laws.Accepted.{file_formed}
use Rattle.rule_file.specs.Contents.{rules_of, steps_of, has_rule}
use Rattle.rule_file.proofs.Laws.Contents.{has_rule_lem}
use Rattle.ranking.specs.Ranked.{decision_order}
use Rattle.ranking.proofs.Laws.Ranked.{decision_order_lem, decided_numbers}
use Rattle.deciding.specs.declared.Fate.{Fate}
use Rattle.deciding.specs.declared.Fate.TheVariants.{Kept, Conflicting, Implied, SetAside, Dropped, Untested}
use Rattle.deciding.specs.Fate.{in_first_pass, first_fate}
use Rattle.deciding.specs.declared.Outcome.{Outcome}
use Rattle.deciding.specs.Outcome.{among_few, outcome_of, test_found, test_fits, outcome}
use Rattle.deciding.specs.Passes.{kept_of, first_outcome, second_outcome, report_on}
use Rattle.deciding.proofs.Laws.Passes.{report_count, report_fate, kept_are, first_at}
use Rattle.deciding.specs.Reports.{reported}
use Rattle.deciding.proofs.Laws.Found.{outcome_tells}
use Rattle.deciding.proofs.Laws.Demand.{file_demanded}
use Rattle.deciding.proofs.Laws.Consequences.{conflicting_violable}
use Rattle.deciding.specs.Code.Kept.{Others}
use Rattle.deciding.proofs.Laws.Turns.{others_mid, others_front, others_kept_lem}
use Rattle.shown.specs.Answer.{has_sequence, answer_numbers}
use Rattle.shown.specs.Shows.{kept_before, FitsRule, IsShown, ShownFor, shown_over, shown_sequence, both_of}
use Rattle.shown.proofs.Laws.Sequence.{FirstThatFits, sequence_present, sequence_first}

-- ---- which sequences are there, by the fate

-- only the first-pass fate counts
has_first : (wanted : Bool) (f : Fate) → has_sequence wanted (in_first_pass f) ≡ has_sequence wanted f
has_first wanted Kept = refl
has_first wanted Conflicting = refl
has_first wanted Implied = refl
has_first wanted SetAside = refl
has_first wanted Dropped = refl
has_first wanted Untested = refl

-- what an outcome found is what its fate says, if it found nothing where there are over 4,096
module _ (o : Outcome) where
  has_satisfying : (leb o.count 4096 ≡ false → o.satisfying ≡ false) → o.satisfying
      ≡ has_sequence true (first_fate o)
  unfolding first_fate
  has_satisfying over = go (leb o.count 4096) o.satisfying o.violating over
    where
      go : (few satisfying violating : Bool) → (few ≡ false → satisfying ≡ false)
          → satisfying ≡ has_sequence true (cond few
          (cond satisfying (cond violating Kept Implied) Conflicting) SetAside)
      go true true true over = refl
      go true true false over = refl
      go true false violating over = refl
      go false satisfying violating over = over refl

  -- and, for a violating one, if it found one where the candidate conflicts
  has_violating : (leb o.count 4096 ≡ false → o.violating ≡ false)
      → (leb o.count 4096 ≡ true → first_fate o ≡ Conflicting → o.violating ≡ true) → o.violating
      ≡ has_sequence false (first_fate o)
  unfolding first_fate
  has_violating over conflicting = go (leb o.count 4096) o.satisfying o.violating over conflicting
    where
      go : (few satisfying violating : Bool) → (few ≡ false → violating ≡ false)
          → (few ≡ true → cond few (cond satisfying (cond violating Kept Implied) Conflicting) SetAside ≡ Conflicting
          → violating ≡ true)
          → violating ≡ has_sequence false (cond few
          (cond satisfying (cond violating Kept Implied) Conflicting) SetAside)
      go true true true over conflicting = refl
      go true true false over conflicting = refl
      go true false violating over conflicting = conflicting refl refl
      go false satisfying violating over conflicting = over refl

-- ---- no other can be shown

pub shown_only : (bs : List ℕ) (n : ℕ) (wanted : Bool) (a b : Option (List ℕ)) → IsShown bs n wanted a
    → IsShown bs n wanted b → a ≡ b
shown_only bs n wanted none none f g = refl
shown_only bs n wanted none (some t) f g = absurd (true≢false (g.present ∙ sym f.present))
shown_only bs n wanted (some s) none f g = absurd (true≢false (f.present ∙ sym g.present))
shown_only bs n wanted (some s) (some t) f g =
    ap some (first_only (FitsRule bs n wanted) s t (f.first s refl) (g.first t refl))

-- so whatever is to be shown is what a call writes, however it is found
pub shown_are : (bs : List ℕ) (n : ℕ) (satisfying violating answer satisfying' violating' answer' : List ℕ)
    → ShownFor bs n satisfying violating answer satisfying' violating' answer'
    → (a b : Option (List ℕ)) → IsShown bs n true a → IsShown bs n false b
    → (satisfying' ≡ shown_over a satisfying) × (violating' ≡ shown_over b violating)
    × (answer' ≡ written_over (answer_numbers (both_of bs n a b)) answer)
shown_are bs n satisfying violating answer satisfying' violating' answer' w a b f g =
    let p = shown_only bs n true (shown_sequence bs n true) a w.satisfying_is f in
    let q = shown_only bs n false (shown_sequence bs n false) b w.violating_is g in (
      w.satisfying_area ∙ ap (λ (s : Option (List ℕ)). shown_over s satisfying) p,
      w.violating_area ∙ ap (λ (s : Option (List ℕ)). shown_over s violating) q,
      w.numbers
          ∙ ap₂ (λ (s t : Option (List ℕ)). written_over (answer_numbers (both_of bs n s t)) answer) p q,
    )

-- ---- a rule of a file

module _ (bs : List ℕ) (n : ℕ) (h : has_rule bs n ≡ true) where
  abbrev rules : List Rule
  rules = rules_of bs

  abbrev steps : ℕ
  steps = steps_of bs

  abbrev order : List ℕ
  order = decision_order bs

  abbrev kept : List ℕ
  kept = kept_before bs n

  in_order : Member n order
  in_order = ((decision_order_lem bs).members n).1 (has_rule_lem bs n h)

  -- its place in the order of decision
  rule_place : decision_order bs ≡ before n (decision_order bs) ++ (n ∷ after n (decision_order bs))
  rule_place = before_after order n in_order

  -- the first pass keeps these rules before it
  pub kept_before_lem : kept_of (outcome (rules_of bs) (steps_of bs)) (before n (decision_order bs)) ≡ kept_before bs n
  kept_before_lem = kept_are (outcome rules steps) order (decision_order_lem bs).distinct (before n order)
      (n ∷ after n order) rule_place

  pub others_before : Others n (kept_before bs n)
  others_before =
      subst (Others n) kept_before_lem
      (others_kept_lem (outcome rules steps) n (before n order)
      (others_front n (before n order) (after n order)
      (others_mid (before n order) n (after n order)
      (subst (All RuleNumber) rule_place (decided_numbers bs))
      (subst Distinct rule_place (decision_order_lem bs).distinct))))

  numbered : All RuleNumber (n ∷ kept)
  numbered = (all_member RuleNumber order n (decided_numbers bs) in_order, others_before.numbered)

  distinct : Distinct (n ∷ kept)
  distinct = (others_before.other, others_before.distinct)

  -- it is tested against them
  tested : first_outcome (outcome rules steps) order n ≡ outcome rules steps kept n
  tested = first_at (outcome rules steps) order (decision_order_lem bs).distinct (before n order) n
      (after n order) rule_place

  fate_is : in_first_pass (reported bs n).fate ≡ first_fate (outcome rules steps kept n)
  unfolding report_on
  fate_is =
      report_fate (first_outcome (outcome rules steps) order n) (second_outcome (outcome rules steps) order n)
      ∙ ap first_fate tested

  count_is : (reported bs n).first ≡ length (test_found rules steps kept n)
  unfolding report_on outcome outcome_of
  count_is =
      report_count (first_outcome (outcome rules steps) order n) (second_outcome (outcome rules steps) order n)
      ∙ ap (λ (o : Outcome). o.count) tested

  -- a conflicting rule is violated by some sequence, and the test found one
  conflicting_found : leb (outcome rules steps kept n).count 4096 ≡ true → first_fate (outcome rules steps kept n)
      ≡ Conflicting
      → (outcome rules steps kept n).violating ≡ true
  conflicting_found few c =
      let o = outcome rules steps kept n in
      let formed = file_formed bs in
      passes o.violating
      (((outcome_tells rules steps formed.good_rules kept n numbered distinct).violating
      (leb-true o.count 4096 few)).complete
      (conflicting_violable rules steps order (reported bs) (file_demanded bs) (before n order) n
      (after n order) rule_place (fate_is ∙ c)))

  -- what the test found is what the fate says
  found_is : (wanted : Bool) → among_few (test_fits rules steps kept n wanted) (test_found rules steps kept n)
      ≡ has_sequence wanted (first_fate (outcome rules steps kept n))
  unfolding outcome outcome_of among_few
  found_is true = has_satisfying (outcome rules steps kept n) (λ over. rw over)
  found_is false = has_violating (outcome rules steps kept n) (λ over. rw over) conflicting_found

  pub is_shown : (wanted : Bool) → IsShown bs n wanted (shown_sequence bs n wanted)
  is_shown wanted =
      record {
        present =
            sequence_present rules steps kept n wanted ∙ found_is wanted ∙ ap (has_sequence wanted) (sym fate_is)
            ∙ has_first wanted (reported bs n).fate;
        first = λ s e. (first_one s e).0;
        short = λ s e. subst (λ (k : ℕ). length s < k) (sym count_is) (first_one s e).1;
      }
    where
      first_one : (s : List ℕ) → shown_sequence bs n wanted ≡ some s
          → FirstThatFits (rules_of bs) (steps_of bs) (kept_before bs n) n numbered distinct (file_formed bs).good_rules
          wanted s
      first_one = sequence_first rules steps kept n numbered distinct (file_formed bs).good_rules wanted

  -- ---- so there are such sequences

  sequence_there : (wanted : Bool) → has_sequence wanted (reported bs n).fate ≡ true
      → (s : List ℕ) × FitsRule bs n wanted s
  sequence_there wanted e = go (shown_sequence bs n wanted) (is_shown wanted)
    where
      go : (shown : Option (List ℕ)) → IsShown bs n wanted shown → (s : List ℕ) × FitsRule bs n wanted s
      go none r = absurd (true≢false (sym e ∙ sym r.present))
      go (some s) r = (s, (r.first s refl).it)

  -- an implied rule has a satisfying one
  pub implied_satisfied : (reported bs n).fate ≡ Implied → (s : List ℕ) × FitsRule bs n true s
  implied_satisfied e = sequence_there true (ap (has_sequence true) e)

  -- a conflicting one has a violating one
  pub conflicting_violated : (reported bs n).fate ≡ Conflicting → (s : List ℕ) × FitsRule bs n false s
  conflicting_violated e = sequence_there false (ap (has_sequence false) e)
