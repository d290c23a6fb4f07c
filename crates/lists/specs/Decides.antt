-- Tests that decide a statement, and statements that hold or not as wanted.
use Rattle.std.specs.Prelude.{Bool, true, false, T}

-- the test passes exactly when the statement holds
pub record Decides (test : Bool) (P : Type 0) : Type 0 where
  pub sound : T test → P
  pub complete : P → T test

-- the statement where it is wanted, and that it does not hold where it is not
abbrev pub Wanted : Bool → Type 0 → Type 0
Wanted true P = P
Wanted false P = ¬ P
