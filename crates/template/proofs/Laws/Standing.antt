-- The kind of x, of y and of any other step, and the standing after one sequence and then another.
use Rattle.std.specs.Prelude.{Bool, true, false, not, ◌&&◌, ◌≡◌, refl, List, [], ◌∷◌, ◌++◌, ℕ, T, leb}
use Rattle.std.proofs.Common.{inr, ap, arith}
use Rattle.lists.specs.Laws.Decides.{decides_or, decides_test, passes}
use Rattle.template.specs.declared.Template.{Template}
use Rattle.template.specs.declared.Kind.TheVariants.{X, Y, Other}
use Rattle.template.specs.Table.{lacks_y, HasY, next}
use Rattle.template.specs.Number.{number, counting}
use Rattle.template.specs.Sequence.{Test}
use Rattle.template.specs.Standing.{kind_by, kind_in, kind_of, standing}

-- a step that is x is of kind x
pub kind_x : (t : Template) (x y : Test) (a : ℕ) → T (x a) → kind_of t x y a ≡ X
unfolding kind_of
kind_x t x y a h = go (x a) h
  where
    go : (b : Bool) → T b → kind_by b (not (lacks_y t) && y a) ≡ X
    go true h = refl
    go false h = absurd h

-- a step that is y and not x is of kind y, where the template has a y
pub kind_y : (t : Template) (x y : Test) (a : ℕ) → (T (lacks_y t) → ⊥) → (T (x a) → ⊥) → T (y a) → kind_of t x y a ≡ Y
unfolding kind_of
kind_y t x y a = go (x a) (lacks_y t) (y a)
  where
    go : (b l c : Bool) → (T l → ⊥) → (T b → ⊥) → T c → kind_by b (not l && c) ≡ Y
    go true l c n m h = absurd (m tt)
    go false true c n m h = absurd (n tt)
    go false false true n m h = refl
    go false false false n m h = absurd h

-- and only there is a step of kind y
pub kind_y_only : (t : Template) (x y : Test) (z : ℕ) → kind_of t x y z ≡ Y → HasY t
unfolding kind_of
kind_y_only t x y z = go (x z) (lacks_y t) (y z)
  where
    go : (b l c : Bool) → kind_by b (not l && c) ≡ Y → T (not l)
    go b false c e = tt
    go true true c e = let n : ◌≡◌ {A = ℕ} 0 1 = cc in absurd (omega arith)
    go false true c e = let n : ◌≡◌ {A = ℕ} 0 1 = cc in absurd (omega arith)

-- a step that is neither is of the third kind
pub kind_other : (t : Template) (x y : Test) (a : ℕ) → (T (x a) → ⊥) → (T (not (lacks_y t)) → T (y a) → ⊥)
    → kind_of t x y a ≡ Other
unfolding kind_of
kind_other t x y a = go (x a) (lacks_y t) (y a)
  where
    go : (b l c : Bool) → (T b → ⊥) → (T (not l) → T c → ⊥) → kind_by b (not l && c) ≡ Other
    go true l c n m = absurd (n tt)
    go false true c n m = refl
    go false false true n m = absurd (m tt tt)
    go false false false n m = refl

-- "the count in 19 to 21 never read as a step" (02, M-101): x alone tells the kind, so that no step is of kind y
pub count_no_step : (t : Template) (x y : Test) (z : ℕ) → T (counting t) → kind_of t x y z ≡ kind_by (x z) false
unfolding kind_of
count_no_step t x y z h =
    let lacks = (decides_or (decides_test (leb (number t) 4)) (decides_test (counting t))).complete (inr h) in
    rw (passes (lacks_y t) lacks)

-- by whether the template lacks y, as the code finds it once a rule
pub kind_in_lem : (t : Template) (x y : Test) (z : ℕ) (lacking : Bool) → lacking ≡ lacks_y t
    → kind_in lacking x y z ≡ kind_of t x y z
unfolding kind_of
kind_in_lem t x y z lacking e = ap (λ (l : Bool). kind_in l x y z) e

-- a sequence and then another
pub standing_append : (t : Template) (x y : Test) (s v : List ℕ) (q : ℕ)
    → standing t x y q (s ++ v) ≡ standing t x y (standing t x y q s) v
standing_append t x y [] v q = refl
standing_append t x y (z ∷ s) v q = standing_append t x y s v (next t q (kind_of t x y z))
