-- The templates that count x (M-100), over every count: laws of a row that counts, and the standing after a word.
use Rattle.std.specs.Prelude.{◌≡◌, refl, Bool, true, false, not, cond, ◌⊎◌, T}
use Rattle.std.proofs.Common.{◌∙◌, inl, inr, le-leb}
use mathlib.Core.List.{List, [], ◌∷◌}
use Prim.Native.Nat.{ℕ, zero, suc, ◌+◌, ◌-◌, ◌≤◌, ◌<◌, min}
use native.Mathlib.Omega.{arith}
use Rattle.std.proofs.Math.Decide.{dec_le}
use Rattle.std.proofs.lemmas.Bool.{lt-leb}
use Rattle.lists.specs.Decides.{Decides}
use Rattle.lists.specs.Laws.Decides.{decides_and, decides_le, fails, passes, holds, holds_not}
use Rattle.lists.specs.Elements.{listed}
use Rattle.template.specs.declared.Kind.{Kind}
use Rattle.template.specs.declared.Kind.TheVariants.{X, Y, Other}
use Rattle.template.specs.Table.{counts, table, lacks_y, up_to_last, next_in, satisfied_in}
use Rattle.template.specs.Table.{broken_in, next}
use Rattle.template.specs.Laws.Word.{is_x}
use Rattle.template.specs.Sequence.{times}
use Rattle.template.specs.declared.Template.{Template}
use Rattle.template.specs.Standing.{along}

-- what the fewest, the most and the last of a template are
pub record Limits (f m l : ℕ) : Type 0 where
  pub ordered : f ≤ m
  pub within : m ≤ l
  pub one_over : l ≤ suc m
  pub stops : l ≤ m → l ≤ f
  pub few : l ≤ 15

-- a standing is satisfied from the fewest to the most, and broken above
pub decides_satisfied : (f m l q : ℕ) → Decides (satisfied_in (counts f m l) q) ((f ≤ q) × (q ≤ m))
decides_satisfied f m l q = decides_and (decides_le f q) (decides_le q m)

pub decides_broken : (f m l q : ℕ) → Decides (broken_in (counts f m l) q) ((m < q) × (q ≤ l))
decides_broken f m l q = decides_and (decides_le (suc m) q) (decides_le q l)

within_last : (l q n : ℕ) → q ≤ l → up_to_last l q n ≡ min n l
unfolding up_to_last
within_last l q n h = rw (le-leb q l h)

-- one more on x
pub next_counts : (f m l : ℕ) (b : Bool) (q : ℕ) (k : Kind) → q ≤ l
    → next_in (counts f m l) b q k ≡ min (cond (is_x k) 1 0 + q) l
next_counts f m l b q X h = omega (arith, within_last l q (suc q) h)
next_counts f m l b q Y h = omega (arith, within_last l q q h)
next_counts f m l b q Other h = omega (arith, within_last l q q h)

past_last : (l q n : ℕ) → l < q → up_to_last l q n ≡ 0
unfolding up_to_last
past_last l q n h = rw (lt-leb q l h)

-- 0 after a standing that it lacks
pub next_past : (f m l : ℕ) (b : Bool) (q : ℕ) (k : Kind) → l < q → next_in (counts f m l) b q k ≡ 0
next_past f m l b q X h = past_last l q (suc q) h
next_past f m l b q Y h = past_last l q q h
next_past f m l b q Other h = past_last l q q h

pub counts_low : (f m l : ℕ) (b : Bool) (q : ℕ) (k : Kind) → next_in (counts f m l) b q k ≤ l
counts_low f m l b q k = go (dec_le q l)
  where
    go : Dec (q ≤ l) → next_in (counts f m l) b q k ≤ l
    go (yes h) = omega (arith, next_counts f m l b q k h)
    go (no h) = omega (arith, next_past f m l b q k (omega arith))

module _ (f m l : ℕ) (g : Limits f m l) where
  -- a broken standing is never left, and is not satisfied
  pub counts_stuck : (b : Bool) (q : ℕ) (k : Kind) → T (broken_in (counts f m l) q)
      → (next_in (counts f m l) b q k ≡ q) × ¬ T (satisfied_in (counts f m l) q)
  counts_stuck b q k h =
      let o = (decides_broken f m l q).sound h in
      (next_counts f m l b q k o.1 ∙ go (is_x k) o, λ s. let w = (decides_satisfied f m l q).sound s in omega arith)
    where
      go : (x : Bool) → (m < q) × (q ≤ l) → min (cond x 1 0 + q) l ≡ q
      go true o = omega arith
      go false o = omega arith

  -- a standing is broken, or some more x lead to a satisfied one
  pub counts_recovers : (q : ℕ) → q ≤ l
      → T (broken_in (counts f m l) q) ⊎ ((k : ℕ) × T (satisfied_in (counts f m l) (min (q + k) l)))
  counts_recovers q h = go (dec_le q m)
    where
      go : Dec (q ≤ m) → T (broken_in (counts f m l) q) ⊎ ((k : ℕ) × T (satisfied_in (counts f m l) (min (q + k) l)))
      go (yes a) = inr (f - q, (decides_satisfied f m l (min (q + (f - q)) l)).complete (omega arith))
      go (no a) = inl ((decides_broken f m l q).complete (omega arith))

  -- before the last standing some more x lead to one that is satisfied otherwise
  pub counts_change : (q : ℕ) → q < l
      → (k : ℕ) × (satisfied_in (counts f m l) (min (q + k) l) ≡ not (satisfied_in (counts f m l) q))
  counts_change q h = go (satisfied_in (counts f m l) q) refl
    where
      go : (b : Bool) → satisfied_in (counts f m l) q ≡ b
          → (k : ℕ) × (satisfied_in (counts f m l) (min (q + k) l) ≡ not b)
      go true e =
          let w = holds (decides_satisfied f m l q) e in (
            l - q,
            fails _ (decides_satisfied f m l (min (q + (l - q)) l))
                (λ s. let j = g.stops (omega arith) in omega arith),
          )
      go false e =
          let low : q < f = below (dec_le f q) (holds_not (decides_satisfied f m l q) e) in
          (f - q, passes _ ((decides_satisfied f m l (min (q + (f - q)) l)).complete (omega arith)))
        where
          below : Dec (f ≤ q) → ((f ≤ q) × (q ≤ m) → ⊥) → q < f
          below (yes a) n = absurd (n (omega arith))
          below (no a) n = omega arith

-- a word of x alone
pub times_x : (k : ℕ) → times is_x (listed k (λ i. X)) ≡ k
times_x zero = refl
times_x (suc k) = omega (arith, times_x k)

-- the standing after a word counts its x
module _ (t : Template) (f m l : ℕ) (e : table t ≡ counts f m l) where
  pub along_counts : (w : List Kind) (q : ℕ) → q ≤ l → along t q w ≡ min (q + times is_x w) l
  unfolding next
  along_counts [] q h = omega arith
  along_counts (k ∷ w) q h = along_counts w (next t q k) low ∙ more
    where
      one : next t q k ≡ min (cond (is_x k) 1 0 + q) l
      one = rw e (next_counts f m l (lacks_y t) q k h)

      low : next t q k ≤ l
      low = omega (arith, one)

      more : min (next t q k + times is_x w) l ≡ min (q + (cond (is_x k) 1 0 + times is_x w)) l
      more = omega (arith, one)
