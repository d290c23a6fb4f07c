-- Lists by their elements: with one put in, listed by a function, written over from the start, joined.
use Rattle.std.specs.Prelude.{List, [], ◌∷◌, ◌++◌, ℕ, zero, suc, take, drop}

-- the list with a put in at place k
unfoldable pub put_at : {A : Type 0} → ℕ → A → List A → List A
put_at k a l = take k l ++ a ∷ drop k l

-- the list of what f gives below n
abbrev pub listed : {A : Type 0} → ℕ → (ℕ → A) → List A
listed zero f = []
listed (suc n) f = f zero ∷ listed n (λ k. f (suc k))

-- a list with its first k elements written over by those of f, the rest as they were
unfoldable pub listed_over : {A : Type 0} → ℕ → (ℕ → A) → List A → List A
listed_over k f l = listed k f ++ drop k l

-- what f gives of each element, one after the other
abbrev pub concat_map : {A B : Type 0} → (A → List B) → List A → List B
concat_map f [] = []
concat_map f (a ∷ l) = f a ++ concat_map f l
