-- The place of the first element that passes a test.
use Rattle.std.specs.Prelude.{Bool, cond, List, [], ◌∷◌, ℕ, suc}

-- the index of the first element that passes the test, or the length where none does
abbrev pub first_index : {A : Type 0} → (A → Bool) → List A → ℕ
first_index p [] = 0
first_index p (a ∷ l) = cond (p a) 0 (suc (first_index p l))
