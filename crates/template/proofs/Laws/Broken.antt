-- Column B of 01's table: a broken standing is never left and not satisfied, and a standing is broken exactly when no
-- continuation satisfies the template from there.
use Rattle.std.specs.Prelude.{◌≡◌, refl, List, [], ◌∷◌, ◌++◌, map, ◌⊎◌, ℕ, zero, suc, ◌≤◌, ◌<◌, T}
use Rattle.std.proofs.Common.{subst, inl, inr, ⊎_elim, arith, le_of_suc-le-suc}
use Rattle.std.proofs.Math.Dec.{not_T}
use Rattle.lists.specs.Laws.Decides.{decides_iff, passes}
use Rattle.lists.specs.Elements.{listed}
use Rattle.lists.specs.Decides.{Decides}
use Rattle.template.specs.declared.Template.{Template}
use Rattle.template.specs.declared.Kind.{Kind}
use Rattle.template.specs.declared.Kind.TheVariants.{X}
use Rattle.template.specs.Table.{Row, lacks_y, HasY, standings_in, satisfied, broken, standings}
use Rattle.template.specs.Standing.{kind_of, along, standing}
use Rattle.template.proofs.Laws.Moves.{standing_low, broken_stays, OneStepAway, one_step_away_lem}
use Rattle.template.specs.Sequence.{Test, is, OverSteps, times}
use Rattle.template.specs.Rule.{RuleOver}
use Rattle.template.proofs.Laws.Standing.{kind_x, kind_y, standing_append}
use Rattle.template.proofs.Laws.Counts.{counts_recovers}
use Rattle.template.proofs.Laws.Sort.{Sort, in_table, counts_x, sort}
use Rattle.template.proofs.Laws.Fact.{standing_counts, table_fact}
use Rattle.template.specs.Number.{count}
use Rattle.template.specs.Laws.Rule.{plain_rule}
use Rattle.template.specs.Meaning.{Meaning}

broken_along : (t : Template) (w : List Kind) (q : ℕ) → q < standings t → T (broken t q) → along t q w ≡ q
broken_along t [] q h b = refl
broken_along t (k ∷ w) q h b = rw (broken_stays t q k h b).0 (broken_along t w q h b)

-- from a broken standing no sequence satisfies the template
pub broken_never : (t : Template) (x y : Test) (q : ℕ) (v : List ℕ) → q < standings t → T (broken t q)
    → ¬ T (satisfied t (standing t x y q v))
broken_never t x y q v h b = rw (broken_along t (map (kind_of t x y) v) q h b) (broken_stays t q X h b).1

-- x so many times
times_step : (x : Test) (a : ℕ) → T (x a) → (k : ℕ) → times x (listed k (λ i. a)) ≡ k
times_step x a h zero = refl
times_step x a h (suc k) = rw (passes (x a) h) (omega (arith, times_step x a h k))

over_step : (d : ℕ → Type 0) (a : ℕ) → d a → (k : ℕ) → OverSteps d (listed k (λ i. a))
over_step d a h zero = tt
over_step d a h (suc k) = (h, over_step d a h k)

-- from any other standing some sequence of the rule's own steps does
pub recovers : {d : ℕ → Type 0} (t : Template) (x y : Test) (q : ℕ) → RuleOver d t x y → q < standings t
    → T (broken t q) ⊎ ((v : List ℕ) × OverSteps d v × T (satisfied t (standing t x y q v)))
unfolding satisfied broken standings
recovers {d} t x y q r h = go (sort t)
  where
    by_step : OneStepAway t q → (v : List ℕ) × OverSteps d v × T (satisfied t (standing t x y q v))
    by_step (inl s) = ([], tt, s)
    by_step (inr (inl s)) =
        let a = r.some_x in
        (a.0 ∷ [], (a.1, tt), rw (kind_x t x y a.0 a.2) s)
    by_step (inr (inr s)) =
        let g : HasY t = not_T (lacks_y t) s.0 in
        let b = r.some_y g in
        (b.0 ∷ [], (b.1, tt), rw (kind_y t x y b.0 s.0 (λ e. r.proper.apart g b.0 e b.2) b.2) s.1)

    go : Sort t → T (broken t q) ⊎ ((v : List ℕ) × OverSteps d v × T (satisfied t (standing t x y q v)))
    go (in_table n) = ⊎_elim inl (λ a. inr (by_step a)) (one_step_away_lem t q n h)
    go (counts_x f m l g) =
        let low : q ≤ l = le_of_suc-le-suc (subst (λ (r : Row). q < standings_in r) g.is_row h) in
        let a = r.some_x in
        ⊎_elim (λ b. inl (rw g.is_row b))
        (λ s. inr (
          listed s.0 (λ i. a.0),
          over_step d a.0 a.1 s.0,
          rw (
            standing_counts t f m l g.is_row x y q (listed s.0 (λ i. a.0)) low,
            times_step x a.0 a.2
                s.0,
            g.is_row,
          ) s.1,
        ))
        (counts_recovers f m l g.limits q low)

-- a standing is broken exactly when no continuation over the declared steps satisfies the template from there
pub broken_exactly : {d : ℕ → Type 0} (t : Template) (x y : Test) (q : ℕ) → RuleOver d t x y → q < standings t
    → Decides (broken t q) ((v : List ℕ) → OverSteps d v → ¬ T (satisfied t (standing t x y q v)))
broken_exactly t x y q r h =
    record {
      sound = λ b v o. broken_never t x y q v h b;
      complete = λ n. ⊎_elim (λ b. b) (λ w. absurd (n w.0 w.1 w.2)) (recovers t x y q r h);
    }

-- one of three steps
abbrev pub OneOf : ℕ → ℕ → ℕ → ℕ → Type 0
OneOf x y z s = (s ≡ x) ⊎ ((s ≡ y) ⊎ (s ≡ z))

-- the same of a plain rule: continuations over x, y and a further step z
pub broken_plain : (t : Template) (x y z q : ℕ) → (HasY t → ¬ (x ≡ y)) → count t ≤ 14 → q < standings t
    → Decides (broken t q) ((v : List ℕ) → OverSteps (OneOf x y z) v → ¬ T (satisfied t (standing t (is x) (is y) q v)))
broken_plain t x y z q e n = broken_exactly t (is x) (is y) q (plain_rule t x y (inl refl) (λ h. inr (inl refl)) e n)

-- in the words of the meanings: the standing after s is broken exactly when no continuation of s satisfies the rule
pub broken_means : {d : ℕ → Type 0} (t : Template) (x y : Test) (s : List ℕ) → RuleOver d t x y
    → Decides (broken t (standing t x y 0 s)) ((v : List ℕ) → OverSteps d v → ¬ Meaning t x y (s ++ v))
broken_means {d} t x y s r =
    decides_iff
    (λ n v o m. n v o ((decided v).complete m), λ n v o e. n v o ((decided v).sound e))
    (broken_exactly t x y (standing t x y 0 s) r (standing_low t x y s))
  where
    decided : (v : List ℕ) → Decides (satisfied t (standing t x y (standing t x y 0 s) v)) (Meaning t x y (s ++ v))
    decided v = rw (← standing_append t x y s v 0) (table_fact t x y (s ++ v) r.proper)
