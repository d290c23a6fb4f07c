-- Places of w binary digits in a number: place i has the digits w * i to w * i + w - 1.
use Rattle.std.specs.Prelude.{ℕ, zero, suc, ◌+◌, ◌*◌, ◌/◌, ◌%◌, ◌^◌}

-- what stands at place i of n
unfoldable pub place : ℕ → ℕ → ℕ → ℕ
place w n i = n / 2 ^ (w * i) % 2 ^ w

-- n with the digits k to k + w - 1 replaced by v
unfoldable pub replace_at : ℕ → ℕ → ℕ → ℕ → ℕ
replace_at w k n v = (n / 2 ^ k / 2 ^ w * 2 ^ w + v) * 2 ^ k + n % 2 ^ k

-- n with place i replaced by v
unfoldable pub replace : ℕ → ℕ → ℕ → ℕ → ℕ
unfolding replace_at
replace w n i v = replace_at w (w * i) n v

-- the number with what f gives at the places below m, and 0 above
unfoldable pub placed : ℕ → (ℕ → ℕ) → ℕ → ℕ
placed w f zero = 0
placed w f (suc m) = replace w (placed w f m) m (f m)
