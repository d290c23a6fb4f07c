-- A test of a candidate against kept rules sees rules only by what they are, not by their numbers: where the candidate
-- and the kept rules of two lists are equal, one after another, what the demand says of the one test it says of the
-- other.
use Rattle.std.specs.Prelude.{List, ◌∷◌, ◌≡◌, ℕ}
use Rattle.std.proofs.Common.{sym, ap₂, ◌∙◌}
use Rattle.lists.specs.Laws.Members.{all_map}
use Rattle.rule.specs.Behaviour.{rule_at, rules_at, SatisfiesRule}
use Rattle.rule.specs.Laws.Same.{satisfies_same, satisfies_alike, unbroken_alike, standings_alike}
use Rattle.rule.specs.declared.Rule.{Rule}
use Rattle.deciding.specs.Demand.{Satisfying, standings_after, JointStanding, Over, Counted, Conflicts, Implies}
use Rattle.deciding.specs.Demand.{Together, Violable, FirstFate, SecondFate}
use Rattle.deciding.specs.declared.Fate.{Fate}

pub record SameTest (rules : List Rule) (kept : List ℕ) (c : ℕ) (rules' : List Rule) (kept' : List ℕ)
    (c' : ℕ) : Type 0 where
  pub candidate : rule_at rules c ≡ rule_at rules' c'
  pub others : rules_at rules kept ≡ rules_at rules' kept'

other_way : {rules rules' : List Rule} {kept kept' : List ℕ} {c c' : ℕ} → SameTest rules kept c rules' kept' c'
    → SameTest rules' kept' c' rules kept c
other_way same = record { candidate = sym same.candidate; others = sym same.others }

-- one way; the other way is the same law of `other_way`
module _ {rules rules' : List Rule} (steps : ℕ) {kept kept' : List ℕ} {c c' : ℕ}
    (same : SameTest rules kept c rules' kept' c') where
  satisfying_to : (s : List ℕ) → Satisfying rules steps kept s → Satisfying rules' steps kept' s
  satisfying_to s a =
      record { declared = a.declared; all = satisfies_alike rules rules' kept kept' same.others s a.all }

  satisfies_to_lem : (s : List ℕ) → SatisfiesRule rules c s → SatisfiesRule rules' c' s
  satisfies_to_lem = satisfies_same rules rules' c c' same.candidate

  same_standings : (s : List ℕ) → standings_after rules steps kept c s ≡ standings_after rules' steps kept' c' s
  same_standings =
      standings_alike rules rules' (c ∷ kept) (c' ∷ kept')
      (ap₂ (λ (r : Rule) (l : List Rule). r ∷ l) same.candidate same.others)

  joint_to : (j : List ℕ) → JointStanding rules steps kept c j → JointStanding rules' steps kept' c' j
  joint_to j r = (
    r.0,
    r.1,
    unbroken_alike rules rules' kept kept' same.others r.0 r.2,
    sym (same_standings r.0) ∙ r.3,
  )

  over_to : Over rules steps kept c → Over rules' steps kept' c'
  over_to o =
      record {
        list = o.list;
        number = o.number;
        each = all_map joint_to o.list o.each;
        distinct = o.distinct;
      }

  together_to : Together rules steps kept c → Together rules' steps kept' c'
  together_to t = (t.0, satisfying_to t.0 t.1, satisfies_to_lem t.0 t.2)

module _ {rules rules' : List Rule} (steps : ℕ) {kept kept' : List ℕ} {c c' : ℕ}
    (same : SameTest rules kept c rules' kept' c') where
  conflicts_to : Conflicts rules steps kept c → Conflicts rules' steps kept' c'
  conflicts_to k s a x = k s (satisfying_to steps (other_way same) s a) (satisfies_to_lem steps (other_way same) s x)

  implies_to : Implies rules steps kept c → Implies rules' steps kept' c'
  implies_to i s a = satisfies_to_lem steps same s (i s (satisfying_to steps (other_way same) s a))

  violable_to : Violable rules steps kept c → Violable rules' steps kept' c'
  violable_to v =
      (v.0, satisfying_to steps same v.0 v.1, λ x. v.2 (satisfies_to_lem steps (other_way same) v.0 x))

  pub counted_to : (n : ℕ) → Counted rules steps kept c n → Counted rules' steps kept' c' n
  counted_to n k =
      record {
        list = k.list;
        number = k.number;
        each = all_map (joint_to steps same) k.list k.each;
        distinct = k.distinct;
        held = k.held;
        all = λ few j r. k.all few j (joint_to steps (other_way same) j r);
      }

module _ {rules rules' : List Rule} (steps : ℕ) {kept kept' : List ℕ} {c c' : ℕ}
    (same : SameTest rules kept c rules' kept' c') where
  -- what does not hold of the other does not hold of the one
  no_over : ¬ Over rules' steps kept' c' → ¬ Over rules steps kept c
  no_over n o = n (over_to steps same o)

  no_conflicts : ¬ Conflicts rules' steps kept' c' → ¬ Conflicts rules steps kept c
  no_conflicts n k = n (conflicts_to steps same k)

  no_implies : ¬ Implies rules' steps kept' c' → ¬ Implies rules steps kept c
  no_implies n i = n (implies_to steps same i)

  pub first_to : (f : Fate) → FirstFate rules steps kept c f → FirstFate rules' steps kept' c' f
  first_to f a =
      record {
        aside = (λ e. over_to steps same (a.aside.0 e), λ o. a.aside.1 (over_to steps (other_way same) o));
        conflicting = λ o.
            let h = a.conflicting (no_over o) in
            (λ e. conflicts_to steps same (h.0 e), λ k. h.1 (conflicts_to steps (other_way same) k));
        implied = λ o k.
            let h = a.implied (no_over o) (no_conflicts k) in
            (λ e. implies_to steps same (h.0 e), λ i. h.1 (implies_to steps (other_way same) i));
        keeps = λ o k i. a.keeps (no_over o) (no_conflicts k) (no_implies i);
        together = λ e. together_to steps same (a.together e);
        violable = λ e. violable_to steps same (a.violable e);
      }

  pub second_to : (f : Fate) → SecondFate rules steps kept c f → SecondFate rules' steps kept' c' f
  second_to f a =
      record {
        untested = (
          λ e. over_to steps same (a.untested.0 e),
          λ o. a.untested.1 (over_to steps (other_way same) o),
        );
        dropped = λ o.
            let h = a.dropped (no_over o) in
            (λ e. implies_to steps same (h.0 e), λ i. h.1 (implies_to steps (other_way same) i));
        keeps = λ o i. a.keeps (no_over o) (no_implies i);
        violable = λ e. violable_to steps same (a.violable e);
      }
