-- What is held of a file, by its bytes. A rule number is refused after the file, and a rule that is not refused is
-- there.
use Rattle.std.proofs.Math.Path.{◌≡◌, refl, ap, ap₂}
use Rattle.std.proofs.Common.{sym, ◌∙◌, arith}
use Rattle.std.specs.Prelude.{List, Bool, ◌&&◌, ℕ, ◌-◌, ◌≤◌, length, leb}
use Rattle.std.proofs.Math.Bool.{true, false, cond, and-eq-true_iff}
use Rattle.std.proofs.Math.ListN.{get_or}
use borrow.Author.Tests.{leb-true}
use Rattle.lists.specs.Laws.Elements.{at_default}
use Rattle.lists.specs.Laws.Padded.{padded_at}
use Rattle.refusals.proofs.Laws.Refusal.{refused_or_lem, first_accepted}
use Rattle.rule.specs.declared.Rule.{Rule}
use Rattle.rule.specs.Behaviour.{no_rule, rule_at}
use Rattle.rule_file.specs.Decode.{read_file}
use Rattle.rule_file.specs.Held.{held_file}
use Rattle.rule_file.specs.declared.RuleFile.{RuleFile}
use Rattle.rule_file.specs.Contents.{rules_of, number_refusal, has_rule, rule_refusal}

module _ (bs : List ℕ) (s : RuleFile) (e : s ≡ held_file (read_file bs).decoded) where
  pub count_held : s.count ≡ length (rules_of bs)
  unfolding held_file
  count_held = ap (λ (q : RuleFile). q.count) e

  pub rule_held : (n : ℕ) (d : Rule) → 1 ≤ n → n ≤ length (rules_of bs) → get_or s.rules (n - 1) d
      ≡ rule_at (rules_of bs) n
  unfolding held_file rule_at
  rule_held n d a b =
      ap (λ (q : RuleFile). get_or q.rules (n - 1) d) e
      ∙ padded_at 32 no_rule (rules_of bs) (n - 1) d (omega arith)
      ∙ at_default (rules_of bs) (n - 1) d no_rule (omega arith)

-- ---- the refusal of a rule number, after another refusal

module _ (refusal count n : ℕ) where
  pub number_refused : ¬ (refusal ≡ 0) → refusal ≡ number_refusal refusal count n
  number_refused h = sym (refused_or_lem (λ k. k) refusal (cond (leb 1 n && leb n count) 0 14) h)

  -- where there was none
  module _ (h : refusal ≡ 0) where
    -- by whether there is a rule of this number
    pub number_tested : (b : Bool) → (leb 1 n && leb n count) ≡ b → cond b 0 14 ≡ number_refusal refusal count n
    number_tested b e = rw (h, e)

-- ---- of a file

module _ (bs : List ℕ) (n : ℕ) where
  -- of what was read of it
  pub refusal_of : (refusal count : ℕ) → refusal ≡ (read_file bs).refusal → count ≡ length (rules_of bs)
      → number_refusal refusal count n ≡ rule_refusal bs n
  unfolding rule_refusal
  refusal_of refusal count e q = ap₂ (λ (r k : ℕ). number_refusal r k n) e q

  -- of a refused file
  pub file_refused : ¬ ((read_file bs).refusal ≡ 0) → (read_file bs).refusal ≡ rule_refusal bs n
  unfolding rule_refusal
  file_refused h = number_refused (read_file bs).refusal (length (rules_of bs)) n h

  -- what is not refused
  pub accepted_rule : 0 ≡ rule_refusal bs n → has_rule bs n ≡ true
  unfolding rule_refusal has_rule
  accepted_rule e = go (has_rule bs n) refl
    where
      go : (b : Bool) → has_rule bs n ≡ b → has_rule bs n ≡ true
      go true q = q
      go false q =
          let z : ◌≡◌ {A = ℕ} 14 0 =
          ap (λ (b : Bool). cond b 0 14) (sym q)
          ∙ (first_accepted (read_file bs).refusal (cond (has_rule bs n) 0 14) (sym e)).1 in
          absurd (omega arith)

  pub has_rule_lem : has_rule bs n ≡ true → (1 ≤ n) × (n ≤ length (rules_of bs))
  unfolding has_rule
  has_rule_lem h =
      let r = (and-eq-true_iff (leb 1 n) (leb n (length (rules_of bs)))).0 h in
      (leb-true 1 n r.0, leb-true n (length (rules_of bs)) r.1)
