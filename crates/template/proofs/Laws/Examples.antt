-- 01, "Traps in the literature", as far as they concern meanings of templates; M-100's "at least three flats"; and a
-- count that is no step (M-101).
use Rattle.std.specs.Prelude.{List, [], ◌∷◌, ◌≡◌, refl, ℕ, T}
use Rattle.std.proofs.Common.{zero-le, arith}
use Rattle.lists.specs.Laws.Decides.{passes, fails, decides_test}
use Rattle.template.specs.Sequence.{Test, is, Occurs}
use Rattle.template.specs.Laws.Decided.{no_step}
use Rattle.template.specs.declared.Template.TheVariants.{CoExistence, NotCoExistence, ChainPrecedence}
use Rattle.template.specs.declared.Template.TheVariants.{AlternatePrecedence, Succession, AtLeast, Exactly}
use Rattle.template.specs.declared.Template.TheVariants.{ExclusiveChoice}
use Rattle.template.specs.Meaning.{Meaning}
use Rattle.template.specs.declared.Kind.TheVariants.{Y, Other}
use Rattle.template.specs.Table.{table, digit, next, satisfied}
use Rattle.template.specs.Standing.{kind_of}
use Rattle.template.specs.Rule.{Apart, Proper}
use Rattle.template.proofs.Laws.Standing.{kind_x, kind_y}
use Rattle.template.proofs.Laws.Fact.{table_fact}

none_on_empty : (a : Test) → ¬ Occurs a []
none_on_empty a o = no_step o.1 o.2 o.0 o.4

-- the empty sequence satisfies CoExistence and NotCoExistence together
pub both_on_empty : (x y : Test) → Meaning CoExistence x y [] × Meaning NotCoExistence x y []
both_on_empty x y = ((λ o. absurd (none_on_empty x o), λ o. absurd (none_on_empty y o)), λ o. none_on_empty x o.0)

-- ChainPrecedence fails wherever the first step is y
pub first_y_fails : (x y : Test) (b : ℕ) (s : List ℕ) → T (y b) → ¬ Meaning ChainPrecedence x y (b ∷ s)
first_y_fails x y b s h m = let l = m b [] s h refl in no_step l.1 [] l.0 l.3

-- AlternatePrecedence holds where y is last after an x
pub last_y_holds : (x y : Test) (a b : ℕ) → Apart x y → T (x a) → T (y b) → Meaning AlternatePrecedence x y (a ∷ b ∷ [])
unfolding table digit next satisfied
last_y_holds x y a b d ha hb =
    (table_fact AlternatePrecedence x y (a ∷ b ∷ []) (record { apart = λ h. d; few = zero-le })).sound
    (rw (kind_x AlternatePrecedence x y a ha, kind_y AlternatePrecedence x y b (λ l. l) (λ e. d b e hb) hb) tt)

-- at least three x: two are too few and three are enough, whatever stands between them
pub three_needed : (x y : Test) (a b : ℕ) → T (x a) → ¬ T (x b)
    → (¬ Meaning (AtLeast 3) x y (a ∷ b ∷ a ∷ [])) × Meaning (AtLeast 3) x y (a ∷ b ∷ a ∷ b ∷ a ∷ [])
three_needed x y a b h n = rw (passes (x a) h, fails (x b) (decides_test (x b)) n) (λ m. omega arith, omega arith)

-- exactly one of two: of none, one and both only one will do
pub one_of_two : (x y : Test) (a b : ℕ) → Apart x y → T (x a) → T (y b)
    → (¬ Meaning ExclusiveChoice x y []) × Meaning ExclusiveChoice x y (a ∷ [])
    × (¬ Meaning ExclusiveChoice x y (a ∷ b ∷ []))
unfolding table digit next satisfied
one_of_two x y a b d ha hb =
    let p : Proper ExclusiveChoice x y = record { apart = λ h. d; few = zero-le } in
    let kx = kind_x ExclusiveChoice x y a ha in
    let ky = kind_y ExclusiveChoice x y b (λ l. l) (λ e. d b e hb) hb in (
      (table_fact ExclusiveChoice x y [] p).complete,
      (table_fact ExclusiveChoice x y (a ∷ []) p).sound (rw kx tt),
      λ m. rw (kx, ky) at ((table_fact ExclusiveChoice x y (a ∷ b ∷ []) p).complete m),
    )

-- Exactly(a, 2), a the step 0: the step 2 is another step; in Succession(a, c), with c the step 2, it is y
pub equal_count : (kind_of (Exactly 2) (is 0) (is 2) 2 ≡ Other) × (kind_of Succession (is 0) (is 2) 2 ≡ Y)
unfolding kind_of
equal_count = (refl, refl)
