-- What holds of every element, what is an element, and lists without an element twice.
use Rattle.std.specs.Prelude.{List, [], ◌∷◌, ◌≡◌, ◌⊎◌, ◌↔◌}

-- P holds of every member
abbrev pub All : {A : Type 0} → (A → Type 0) → List A → Type 0
All P [] = Unit
All P (a ∷ l) = P a × All P l

-- a is a member
abbrev pub Member : {A : Type 0} → A → List A → Type 0
Member a [] = ⊥
Member a (b ∷ l) = (a ≡ b) ⊎ Member a l

-- no two members are equal
abbrev pub Distinct : {A : Type 0} → List A → Type 0
Distinct [] = Unit
Distinct (a ∷ l) = (¬ Member a l) × Distinct l

-- what is a member of one is a member of the other
abbrev pub SameMembers : {A : Type 0} → List A → List A → Type 0
SameMembers {A} l m = (a : A) → Member a l ↔ Member a m
