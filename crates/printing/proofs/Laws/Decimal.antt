-- A number of at most five digits has as many as `places` says: the fewest that hold it, by the kit's definition of its
-- decimal digits.
use Rattle.std.specs.Prelude.{◌≡◌, List, ℕ, ◌-◌, ◌^◌, ◌≤◌, ◌<◌}
use Rattle.std.proofs.Common.{ap, ◌∙◌, arith, le-leb}
use Rattle.std.proofs.Math.Decide.{dec_lt}
use Rattle.std.proofs.Math.Nat.{pow-le-pow_right}
use Rattle.std.proofs.lemmas.Bool.{lt-leb}
use Rattle.io.specs.Digits.{last_digits, IsDigitCount}
use Rattle.printing.specs.Printed.{places, decimal}

-- the fewest digits are no more than any count that holds the number
pub no_more : (n j k : ℕ) → 1 ≤ j → n < 10 ^ j → IsDigitCount 10 1 n k → k ≤ j
no_more n j k l h f = go (dec_lt j k)
  where
    go : Dec (j < k) → k ≤ j
    go (yes m) =
        let power : 10 ^ j ≤ 10 ^ (k - 1) = pow-le-pow_right (omega arith) (omega arith) in
        let least : 10 ^ (k - 1) ≤ n = f.2 (omega arith) in
        omega (arith, power, least)
    go (no m) = omega arith

-- so that there is one such count
fewest_only : (n j k : ℕ) → IsDigitCount 10 1 n j → IsDigitCount 10 1 n k → j ≡ k
fewest_only n j k f g = omega (arith, no_more n j k f.0 f.1 g, no_more n k j g.0 g.1 f)

pub places_fewest : (n : ℕ) → n < 100000 → IsDigitCount 10 1 n (places n)
places_fewest n h = go (dec_lt n 10) (dec_lt n 100) (dec_lt n 1000) (dec_lt n 10000)
  where
    go : Dec (n < 10) → Dec (n < 100) → Dec (n < 1000) → Dec (n < 10000) → IsDigitCount 10 1 n (places n)
    go (yes a) b c d =
        rw (lt-leb 10000 n (omega arith), lt-leb 1000 n (omega arith), lt-leb 100 n (omega arith), lt-leb 10 n a)
        (omega arith, a, λ z. omega arith)
    go (no a) (yes b) c d =
        rw (lt-leb 10000 n (omega arith), lt-leb 1000 n (omega arith), lt-leb 100 n b, le-leb 10 n (omega arith))
        (omega arith, b, λ z. omega arith)
    go (no a) (no b) (yes c) d =
        rw (lt-leb 10000 n (omega arith), lt-leb 1000 n c, le-leb 100 n (omega arith))
        (omega arith, c, λ z. omega arith)
    go (no a) (no b) (no c) (yes d) =
        rw (lt-leb 10000 n d, le-leb 1000 n (omega arith)) (omega arith, d, λ z. omega arith)
    go (no a) (no b) (no c) (no d) = rw (le-leb 10000 n (omega arith)) (omega arith, h, λ z. omega arith)

-- the fewest digits that hold a number are its decimal text
pub as_decimal : (n k : ℕ) (text : List ℕ) → n < 100000 → IsDigitCount 10 1 n k → text ≡ last_digits 10 k n
    → text ≡ decimal n
unfolding decimal
as_decimal n k text h f e = e ∙ ap (λ (m : ℕ). last_digits 10 m n) (fewest_only n k (places n) f (places_fewest n h))
