-- Lists with the same members in any order, each as often (M-104: rules "as a collection").
use Rattle.std.specs.Prelude.{List, [], ◌∷◌, ◌++◌, ◌≡◌, ℕ, suc}
use Rattle.lists.specs.Elements.{listed}

-- m is l in another order: each member of l in turn is taken out of m, and nothing is left
abbrev pub Permuted : {A : Type 0} → List A → List A → Type 0
Permuted [] m = m ≡ []
Permuted {A} (a ∷ l) m = (u : List A) × (v : List A) × (m ≡ u ++ (a ∷ v)) × Permuted l (u ++ v)

-- the numbers 1 to k
abbrev pub one_to : ℕ → List ℕ
one_to k = listed k suc
