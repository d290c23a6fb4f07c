-- A list filled up to a length.
use Rattle.std.specs.Prelude.{List, ◌++◌, ℕ, ◌-◌, length, replicate}

unfoldable pub padded : {A : Type 0} → ℕ → A → List A → List A
padded n d l = l ++ replicate (n - length l) d
