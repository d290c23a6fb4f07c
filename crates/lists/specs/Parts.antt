-- The elements that pass a test, and those before and after a number.
use Rattle.std.specs.Prelude.{Bool, cond, List, [], ◌∷◌, ℕ, eqb}

abbrev pub filter : {A : Type 0} → (A → Bool) → List A → List A
filter p [] = []
filter p (a ∷ l) = cond (p a) (a ∷ filter p l) (filter p l)

-- those before the first n
unfoldable pub before : ℕ → List ℕ → List ℕ
before n [] = []
before n (m ∷ l) = cond (eqb m n) [] (m ∷ before n l)

-- those after the first n
unfoldable pub after : ℕ → List ℕ → List ℕ
after n [] = []
after n (m ∷ l) = cond (eqb m n) l (after n l)
