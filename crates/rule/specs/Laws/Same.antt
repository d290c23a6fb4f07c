-- A good rule is known by the six numbers of its field, those of its template, x and y and the bits of its weights
-- (`same_rule`). What sequences make of a rule is known by the rule: equal rules of two lists are satisfied and broken
-- alike, whatever their numbers.
use Rattle.std.specs.Prelude.{List, map, ◌≡◌, ℕ, Float}
use Rattle.std.proofs.Common.{sym, ap, ◌∙◌}
use Rattle.std.proofs.Math.Path.{subst}
use Rattle.std.proofs.Math.Dec.{T}
use Rattle.std.specs.Float.Ieee.{of_bits, to_bits}
use Rattle.std.specs.Float.{binary32}
use Rattle.std.specs.Float.Ieee.Bits.{of_bits-to_bits}
use Rattle.lists.specs.Laws.Mapped.{all_alike, map_alike}
use Rattle.lists.specs.Members.{All}
use Rattle.template.specs.Laws.Number.{same_template}
use Rattle.template.specs.Meaning.{Meaning}
use Rattle.template.specs.Number.{number, counting_number}
use Rattle.template.specs.Sequence.{is}
use Rattle.template.specs.Standing.{standing}
use Rattle.template.specs.Table.{broken}
use Rattle.rule.specs.Behaviour.{rule_at, rules_at, SatisfiesRule, breaks, standing_after}
use Rattle.rule.specs.Good.{AcceptedWeight, GoodRule}
use Rattle.rule.specs.declared.Rule.{Rule}

same_weight : {v w : Float} → AcceptedWeight v → AcceptedWeight w → to_bits binary32 v ≡ to_bits binary32 w → v ≡ w
same_weight {v} {w} g h e =
    sym (of_bits-to_bits binary32 v g.single) ∙ ap (of_bits binary32) e ∙ of_bits-to_bits binary32 w h.single

-- the six numbers of two rules are the same
pub record SameField (a b : Rule) : Type 0 where
  pub template : number a.template ≡ number b.template
  pub x : a.x ≡ b.x
  pub y : a.y ≡ b.y
  pub support : to_bits binary32 a.weights.support ≡ to_bits binary32 b.weights.support
  pub confidence : to_bits binary32 a.weights.confidence ≡ to_bits binary32 b.weights.confidence
  pub interest : to_bits binary32 a.weights.interest ≡ to_bits binary32 b.weights.interest

-- y is the count of a template that counts
pub same_rule : {steps steps' : ℕ} {a b : Rule} → GoodRule steps a → GoodRule steps' b → SameField a b → a ≡ b
same_rule {a = a} {b = b} g h e =
    let same =
    same_template a.template b.template e.template
    (λ i. g.counted i ∙ e.y ∙ sym (h.counted (subst (λ (n : ℕ). T (counting_number n)) e.template i)))
    in
    let support = same_weight g.weights.support h.weights.support e.support in
    let confidence = same_weight g.weights.confidence h.weights.confidence e.confidence in
    let interest = same_weight g.weights.interest h.weights.interest e.interest in
    λ k. record {
      template = same k;
      x = e.x k;
      y = e.y k;
      weights = record { support = support k; confidence = confidence k; interest = interest k };
    }

-- ---- equal rules of two lists, after a sequence

abbrev Means : List ℕ → Rule → Type 0
Means s r = Meaning r.template (is r.x) (is r.y) s

abbrev standing_by : List ℕ → Rule → ℕ
standing_by s r = standing r.template (is r.x) (is r.y) 0 s

module _ (rules rules' : List Rule) where
  pub satisfies_same : (n n' : ℕ) → rule_at rules n ≡ rule_at rules' n' → (s : List ℕ) → SatisfiesRule rules n s
      → SatisfiesRule rules' n' s
  unfolding SatisfiesRule
  satisfies_same n n' same s = subst (Means s) same

  -- one after another
  module _ (ns ns' : List ℕ) (same : rules_at rules ns ≡ rules_at rules' ns') (s : List ℕ) where
    pub satisfies_alike : All (λ n. SatisfiesRule rules n s) ns → All (λ n. SatisfiesRule rules' n s) ns'
    unfolding SatisfiesRule
    satisfies_alike = all_alike (rule_at rules) (rule_at rules') (Means s) ns ns' same

    pub unbroken_alike : All (λ n. ¬ T (breaks rules n (standing_after rules n s))) ns
        → All (λ n. ¬ T (breaks rules' n (standing_after rules' n s))) ns'
    unfolding breaks standing_after
    unbroken_alike =
        all_alike (rule_at rules) (rule_at rules') (λ r. ¬ T (broken r.template (standing_by s r))) ns ns' same

    pub standings_alike : map (λ n. standing_after rules n s) ns ≡ map (λ n. standing_after rules' n s) ns'
    unfolding standing_after
    standings_alike = map_alike (rule_at rules) (rule_at rules') (standing_by s) ns ns' same
