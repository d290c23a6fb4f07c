-- A run has at most one value: two that it has are equal.
use Rattle.std.specs.Prelude.{◌≡◌, ℕ}
use Rattle.std.proofs.Common.{sym, ap₂, ◌∙◌}
use mathlib.Core.List.{List}
use Rattle.lists.specs.Laws.Decides.{decides_one}
use Rattle.values.specs.Value.{HasValue, value_by}
use Rattle.values.specs.declared.Value.{Value}
use Rattle.values.proofs.Laws.Value.{is_satisfied, is_permanent, by_both, says_satisfied, says_permanent}

module _ (steps : ℕ) (P : List ℕ → Type 0) (run : List ℕ) where
  pub value_only : (v w : Value) → HasValue steps P run v → HasValue steps P run w → v ≡ w
  value_only v w h k =
      sym (by_both v)
      ∙ ap₂ value_by
      (decides_one (is_satisfied v) (is_satisfied w) (says_satisfied steps P run v h) (says_satisfied steps P run w k))
      (decides_one (is_permanent v) (is_permanent w) (says_permanent steps P run v h) (says_permanent steps P run w k))
      ∙ by_both w
