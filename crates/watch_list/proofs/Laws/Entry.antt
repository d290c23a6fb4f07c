-- One entry: a standing of its template is one of four rows, a count at the maximum stays, and what the code reads is
-- what the definition says.
use Rattle.std.specs.Prelude.{Bool, true, false, ◌≡◌, ℕ, ◌≤◌, ◌<◌}
use Rattle.std.proofs.Math.Bool.{cond}
use Rattle.std.proofs.Common.{sym, ltb-true, lt-ltb, le-ltb}
use Rattle.std.proofs.Math.Path.{ap, ap₂}
use Rattle.std.proofs.Math.Nat.{lt_of_lt_of_le}
use native.Mathlib.Omega.{arith}
use Rattle.template.specs.Table.{standings}
use Rattle.template.proofs.Laws.Moves.{most_standings_lem}
use Rattle.rule.specs.declared.Rule.{Rule}
use Rattle.values.specs.declared.Value.{Value}
use Rattle.values.specs.Value.{value_of}
use Rattle.values.specs.Limits.{most_relevant}
use Rattle.values.specs.Progress.{has_other, counted, advanced_by}
use Rattle.watch_list.specs.declared.Watch.{Watch}
use Rattle.watch_list.specs.Entry.{NoStanding, State, moved_entry, known_entry, entry_state}

module _ (r : Rule) (e : Watch) where
  -- a standing of the template is one of the four rows
  pub known_low : known_entry r e ≡ true → e.standing < 16
  unfolding known_entry
  known_low h = lt_of_lt_of_le (ltb-true e.standing (standings r.template) h) (most_standings_lem r.template)

  -- a count at the maximum stays there
  pub moved_maximum : (steps z : ℕ) → e.relevant ≡ most_relevant → (moved_entry r steps z e).relevant ≡ most_relevant
  unfolding moved_entry advanced_by counted
  moved_maximum steps z h = omega arith

  pub state_known : (steps : ℕ) (v : Value) → known_entry r e ≡ true → v ≡ value_of r.template (has_other r steps) e.standing
      → State v e.relevant ≡ entry_state r steps e
  unfolding entry_state
  state_known steps v h q = ap₂ (λ (w : Value) (b : Bool). cond b (State w e.relevant) NoStanding) q (sym h)

  pub state_unknown : (steps : ℕ) → known_entry r e ≡ false → NoStanding ≡ entry_state r steps e
  unfolding entry_state
  state_unknown steps h =
      ap (λ (b : Bool). cond b (State (value_of r.template (has_other r steps) e.standing) e.relevant) NoStanding) (sym h)

  -- by its standing and the number of the template's
  pub state_known_below : (steps : ℕ) (v : Value) → e.standing < standings r.template
      → v ≡ value_of r.template (has_other r steps) e.standing → State v e.relevant ≡ entry_state r steps e
  unfolding known_entry
  state_known_below steps v h q = state_known steps v (lt-ltb e.standing (standings r.template) h) q

  pub state_unknown_past : (steps : ℕ) → standings r.template ≤ e.standing → NoStanding ≡ entry_state r steps e
  unfolding known_entry
  state_unknown_past steps h = state_unknown steps (le-ltb e.standing (standings r.template) h)
