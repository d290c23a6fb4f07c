-- The order of sequences (M-102): the shorter one goes first, and of two that are as long the one that has the smaller
-- number where they first differ. Interface: `GoesBefore`, `NotAfter`, `IsFirst`.
use Rattle.std.specs.Prelude.{List, [], ◌∷◌, ◌⊎◌, ◌≡◌, ℕ, ◌<◌, length}

-- where s and t first differ, s has the smaller number
abbrev pub SmallerFirst : List ℕ → List ℕ → Type 0
SmallerFirst [] t = ⊥
SmallerFirst (a ∷ s) [] = ⊥
SmallerFirst (a ∷ s) (b ∷ t) = (a < b) ⊎ ((a ≡ b) × SmallerFirst s t)

-- s is shorter than t, or as long and smaller where they first differ
abbrev pub GoesBefore : List ℕ → List ℕ → Type 0
GoesBefore s t = (length s < length t) ⊎ ((length s ≡ length t) × SmallerFirst s t)

-- s is t, or goes before it
abbrev pub NotAfter : List ℕ → List ℕ → Type 0
NotAfter s t = (s ≡ t) ⊎ GoesBefore s t

-- s is the first of those of which P holds: it holds of s, and s goes before every other of them
pub record IsFirst (P : List ℕ → Type 0) (s : List ℕ) : Type 0 where
  pub it : P s
  pub others : (t : List ℕ) → P t → NotAfter s t
