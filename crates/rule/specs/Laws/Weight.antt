-- The bits of an accepted weight are no NaN's, and the float made of them has these bits.
use Rattle.std.specs.Prelude.{Bool, true, not, ◌≡◌, ℕ, ◌%◌, ◌^◌, T, ltb}
use Rattle.std.proofs.Common.{subst, arith, ltb→lt, leb-true}
use Rattle.std.proofs.Math.Dec.{not_T}
use Rattle.std.specs.Float.Ieee.{nan_bits, of_bits, to_bits}
use Rattle.std.specs.Float.{binary32}
use Rattle.std.specs.Float.Ieee.Bits.{nan_bits_above, nan_bits_is, to_bits-of_bits}
use Rattle.rule.specs.Good.{good_weight}

pub no_nan : (n : ℕ) → good_weight n ≡ true → T (not (nan_bits binary32 n))
no_nan n h =
    rw (nan_bits_above binary32 n)
    (not_T (ltb 0x7F800000 (n % 2 ^ 31)) (λ t.
    omega (arith, leb-true n 0x3F800000 h, ltb→lt 0x7F800000 (n % 2 ^ 31) t)))

pub bits_back : (n : ℕ) → good_weight n ≡ true → to_bits binary32 (of_bits binary32 n) ≡ n
bits_back n h =
    to_bits-of_bits binary32 n (omega (arith, leb-true n 0x3F800000 h))
    (subst (λ (b : Bool). T (not b)) (nan_bits_is binary32 n) (no_nan n h))
