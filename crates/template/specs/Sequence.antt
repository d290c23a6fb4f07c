-- Sequences of steps, and what stands in them where, over a test of a step. `T (a z)` says that the step z passes the
-- test a.
use Rattle.std.specs.Prelude.{Bool, cond, List, [], ◌∷◌, ◌++◌, ◌≡◌, ℕ, ◌+◌, T, eqb}
use Rattle.lists.specs.Members.{All}

-- a test of a step: which steps are the x of a rule, say
abbrev pub Test : Type 0
Test = ℕ → Bool

-- 01: a sequence is a finite list of declared steps, the empty one included; here the steps of d are the declared ones
abbrev pub OverSteps : (ℕ → Type 0) → List ℕ → Type 0
OverSteps d s = All d s

-- the step a itself, as in a plain rule
abbrev pub is : ℕ → Test
is a z = eqb z a

-- each step of s that passes a, with what stands before and after it
abbrev pub Each : Test → List ℕ → (List ℕ → List ℕ → Type 0) → Type 0
Each a s P = (z : ℕ) (before after : List ℕ) → T (a z) → s ≡ before ++ (z ∷ after) → P before after

-- some step of s that passes a, with what stands before and after it
abbrev pub Some : Test → List ℕ → (List ℕ → List ℕ → Type 0) → Type 0
Some a s P = (z : ℕ) × (before : List ℕ) × (after : List ℕ) × T (a z) × (s ≡ before ++ (z ∷ after)) × P before after

-- some step of s passes a
abbrev pub Occurs : Test → List ℕ → Type 0
Occurs a s = Some a s (λ before after. Unit {0})

-- the first step of s passes a
abbrev pub First : Test → List ℕ → Type 0
First a s = (z : ℕ) × (after : List ℕ) × T (a z) × (s ≡ z ∷ after)

-- the last step of s passes a
abbrev pub Last : Test → List ℕ → Type 0
Last a s = (z : ℕ) × (before : List ℕ) × T (a z) × (s ≡ before ++ (z ∷ []))

-- how often a test passes in a list: of steps, how many are x (M-100)
abbrev pub times : {A : Type 0} → (A → Bool) → List A → ℕ
times a [] = 0
times a (z ∷ s) = cond (a z) 1 0 + times a s
