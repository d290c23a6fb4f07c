-- After a sequence a rule is satisfied exactly when the sequence satisfies it (`rule_means`); its standings are below
-- 16, and a broken one is never left.
use Rattle.std.specs.Prelude.{◌≡◌, refl, Bool, true, false, not, cond, ◌&&◌, ◌||◌, T, leb, ltb, eqb, get_or}
use Rattle.std.proofs.Common.{sym, subst, lt_of_lt_of_le, arith, ltb→lt}
use mathlib.Core.List.{List, [], ◌∷◌, foldl}
use Prim.Native.Nat.{ℕ, ◌-◌, ◌≤◌, ◌<◌, zero-le}
use Rattle.std.proofs.Math.Decide.{dec_lt}
use Rattle.std.proofs.Math.ListN.{length, get_or-eq_default}
use Rattle.lists.specs.Laws.Decides.{decides_test, decides_not, decides_and, decides_implies, decides_equal, decides_le}
use Rattle.lists.specs.Laws.Exhaustive.{and_left, and_right}
use Rattle.lists.specs.Decides.{Decides}
use Rattle.lists.specs.Members.{All}
use Rattle.lists.specs.Laws.Members.{all_at}
use Rattle.template.specs.declared.Kind.TheVariants.{X}
use Rattle.template.specs.Table.{without_y, broken}
use Rattle.template.specs.Sequence.{is}
use Rattle.template.specs.Standing.{kind_of, standing}
use Rattle.template.proofs.Laws.Moves.{most_standings_lem, next_sixteen, standing_low, broken_stays, broken_known}
use Rattle.template.proofs.Laws.Moves.{begins_unbroken}
use Rattle.template.specs.Number.{number, count, counting, counting_number}
use Rattle.template.specs.Laws.Number.{count_none}
use Rattle.template.specs.Rule.{Proper, RuleOver}
use Rattle.template.specs.Laws.Rule.{plain_rule}
use Rattle.template.proofs.Laws.Fact.{table_fact}
use Rattle.rule.specs.declared.Rule.{Rule}
use Rattle.rule.specs.Behaviour.{no_rule, rule_goes, goes, rule_at, standing_after, breaks, satisfies, SatisfiesRule}
use Rattle.rule.specs.Good.{good_steps, GoodRule}

pub goes_low : (r : Rule) (q z : ℕ) → rule_goes r q z < 16
unfolding rule_goes
goes_low r q z =
    next_sixteen r.template q (kind_of r.template (is r.x) (is r.y) z)

fold_from : (rules : List Rule) (n : ℕ) (s : List ℕ) (q : ℕ)
    → foldl (goes rules n) q s ≡ standing (rule_at rules n).template (is (rule_at rules n).x)
    (is (rule_at rules n).y) q s
unfolding rule_goes
fold_from rules n [] q = refl
fold_from rules n (z ∷ s) q = fold_from rules n s (goes rules n q z)

-- it is where the moves lead from 0
pub fold_moves : (rules : List Rule) (n : ℕ) (s : List ℕ) → foldl (goes rules n) 0 s ≡ standing_after rules n s
unfolding standing_after
fold_moves rules n s = fold_from rules n s 0

pub standing_after_low : (rules : List Rule) (n : ℕ) (s : List ℕ) → standing_after rules n s < 16
unfolding standing_after
standing_after_low rules n s =
    let r = rule_at rules n in
    lt_of_lt_of_le (standing_low r.template (is r.x) (is r.y) s) (most_standings_lem r.template)

-- a broken rule stays broken, and no rule begins so
pub breaks_stays : (rules : List Rule) (n q z : ℕ) → T (breaks rules n q) → T (breaks rules n (goes rules n q z))
unfolding breaks rule_goes
breaks_stays rules n q z b =
    let r = rule_at rules n in
    let e = (broken_stays r.template q (kind_of r.template (is r.x) (is r.y) z)
    (broken_known r.template q b) b).0 in
    subst (λ (k : ℕ). T (broken r.template k)) (sym e) b

pub breaks_later : (rules : List Rule) (n : ℕ) → ¬ T (breaks rules n 0)
unfolding breaks
breaks_later rules n = begins_unbroken (rule_at rules n).template

-- a satisfied rule is not broken
pub satisfied_unbroken : (rules : List Rule) (n q : ℕ) → T (satisfies rules n q) → ¬ T (breaks rules n q)
unfolding satisfies breaks
satisfied_unbroken rules n q s b =
    let t = (rule_at rules n).template in
    (broken_stays t q X (broken_known t q b) b).1 s

-- x is declared; where the template has a y, y is declared too and differs from x
module _ (steps t x y : ℕ) (g : T (good_steps steps t x y)) where
  x_declared : x < steps
  x_declared =
      ltb→lt x steps (and_left (ltb x steps)
      (cond (leb t 4) (eqb y 0xFF) (counting_number t || (ltb y steps && not (eqb x y)))) g)

  of_y : T (not (without_y t)) → T (ltb y steps && not (eqb x y))
  of_y =
      go (leb t 4) (counting_number t) (eqb y 0xFF) (ltb y steps && not (eqb x y))
      (and_right (ltb x steps) (cond (leb t 4) (eqb y 0xFF) (counting_number t || (ltb y steps && not (eqb x y)))) g)
    where
      go : (a b c e : Bool) → T (cond a c (b || e)) → T (not (a || b)) → T e
      go true b c e h n = absurd n
      go false true c e h n = absurd n
      go false false c e h n = h

  y_declared : T (not (without_y t)) → y < steps
  y_declared h = ltb→lt y steps (and_left (ltb y steps) (not (eqb x y)) (of_y h))

  steps_differ : T (not (without_y t)) → ¬ (x ≡ y)
  steps_differ h = (decides_not (decides_equal x y)).sound (and_right (ltb y steps) (not (eqb x y)) (of_y h))

-- a count is at most 14
few_times : (steps : ℕ) (r : Rule) → GoodRule steps r → count r.template ≤ 14
few_times steps r good = go (counting r.template) refl
  where
    go : (b : Bool) → counting r.template ≡ b → count r.template ≤ 14
    go true e =
        let in_limits_lem =
        (decides_implies (decides_test (counting r.template))
        (decides_and (decides_le 1 r.y) (decides_le r.y 14))).sound good.few
        (subst T (sym e) tt) in
        omega (arith, good.counted (subst T (sym e) tt), in_limits_lem.1)
    go false e = omega (arith, count_none r.template (subst (λ (b : Bool). T (not b)) (sym e) tt))

-- a rule of a file is one over the declared steps
pub rule_over : (steps : ℕ) (r : Rule) → GoodRule steps r
    → RuleOver (λ k. k < steps) r.template (is r.x) (is r.y)
rule_over steps r good =
    let t = number r.template in
    let g = good.declared in
    plain_rule r.template r.x r.y (x_declared steps t r.x r.y g) (y_declared steps t r.x r.y g)
    (steps_differ steps t r.x r.y g)
    (few_times steps r good)

module _ (steps : ℕ) (rules : List Rule) (good : All (GoodRule steps) rules) (n : ℕ) where
  rule_proper : Proper (rule_at rules n).template (is (rule_at rules n).x) (is (rule_at rules n).y)
  unfolding rule_at
  rule_proper = go (dec_lt (n - 1) (length rules))
    where
      go : Dec (n - 1 < length rules)
          → Proper (get_or rules (n - 1) no_rule).template (is (get_or rules (n - 1) no_rule).x)
          (is (get_or rules (n - 1) no_rule).y)
      go (yes h) =
          (rule_over steps (get_or rules (n - 1) no_rule) (all_at (GoodRule steps) rules (n - 1) no_rule good h)).proper
      go (no h) =
          rw (get_or-eq_default rules no_rule {n = n - 1} (omega arith))
          (record { apart = λ l. absurd l; few = zero-le })

  pub rule_good : 1 ≤ n → n ≤ length rules → GoodRule steps (rule_at rules n)
  unfolding rule_at
  rule_good a b = all_at (GoodRule steps) rules (n - 1) no_rule good (omega arith)

  -- after a sequence a rule is satisfied exactly when the sequence satisfies it
  pub rule_means : (s : List ℕ) → Decides (satisfies rules n (standing_after rules n s)) (SatisfiesRule rules n s)
  unfolding satisfies standing_after SatisfiesRule
  rule_means s =
      let r = rule_at rules n in
      table_fact r.template (is r.x) (is r.y) s rule_proper
