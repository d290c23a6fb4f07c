-- Each of the three weights of a content that was tested is good.
use Rattle.std.specs.Prelude.{Bool, true, false, ◌&&◌, ◌≡◌, refl, List, ℕ}
use Rattle.std.proofs.Common.{true≢false, sym}
use Rattle.rule.specs.Good.{good_weight}
use Rattle.fields.specs.Bytes.{four_at}
use Rattle.rule_file.specs.Fault.{good_weights}

-- the three weights of a rule
pub each_good : (c : List ℕ) → good_weights c ≡ true → (good_weight (four_at c 3) ≡ true)
    × (good_weight (four_at c 7) ≡ true) × (good_weight (four_at c 11) ≡ true)
each_good c = three (good_weight (four_at c 3)) (good_weight (four_at c 7)) (good_weight (four_at c 11))
  where
    three : (x y z : Bool) → (x && (y && z)) ≡ true → (x ≡ true) × (y ≡ true) × (z ≡ true)
    three true true true e = (refl, refl, refl)
    three true true false e = absurd (true≢false (sym e))
    three true false z e = absurd (true≢false (sym e))
    three false y z e = absurd (true≢false (sym e))
