-- There are more joint standings than are counted exactly when an outcome counts more than 4,096.
use Rattle.std.specs.Prelude.{◌≡◌, List, ℕ}
use Rattle.std.proofs.Math.Bool.{true, false}
use Rattle.std.proofs.Common.{arith, leb-true, leb-false}
use Rattle.std.proofs.Math.Dec.{leb}
use Rattle.rule.specs.declared.Rule.{Rule}
use Rattle.deciding.specs.declared.Outcome.{Outcome}
use Rattle.deciding.specs.Demand.{Over}
use Rattle.deciding.proofs.Laws.Found.{Tells, over_exactly}

module _ (rules : List Rule) (steps : ℕ) (kept : List ℕ) (c : ℕ) (o : Outcome) (tells : Tells rules steps kept c o) where
  pub over : leb o.count 4096 ≡ false → Over rules steps kept c
  over p = (over_exactly rules steps kept c o.count tells.counted).0 (leb-false o.count 4096 p)

  pub not_over : leb o.count 4096 ≡ true → ¬ Over rules steps kept c
  not_over p many =
      omega (arith, (over_exactly rules steps kept c o.count tells.counted).1 many, leb-true o.count 4096 p)
