-- The value read from a standing is the value over continuations, for every template: by the table fact and by what a
-- settled standing says. A run has one value alone.
use Rattle.std.specs.Prelude.{Bool, false, not, ◌≡◌, ◌↔◌, ℕ, ◌<◌}
use Rattle.std.proofs.Math.Bool.{true}
use Rattle.std.proofs.Math.Path.{refl, ap}
use Rattle.std.proofs.Common.{sym, ◌∙◌, subst}
use mathlib.Core.List.{List, ◌++◌}
use Rattle.std.proofs.Math.Dec.{T}
use Rattle.lists.specs.Decides.{Decides}
use Rattle.lists.specs.Laws.Decides.{holds, holds_not}
use Rattle.template.specs.declared.Template.{Template}
use Rattle.template.specs.Table.{satisfied}
use Rattle.template.specs.Sequence.{Test}
use Rattle.template.specs.Meaning.{Meaning}
use Rattle.template.specs.Standing.{standing}
use Rattle.template.proofs.Laws.Fact.{table_fact}
use Rattle.template.specs.Settled.{settled}
use Rattle.template.proofs.Laws.Settled.{RuleAmong, settled_stays, unsettled_changes}
use Rattle.rule.specs.Behaviour.{Declared}
use Rattle.values.specs.Value.{HasValue, value_by, value_of}
use Rattle.values.specs.declared.Value.{Value}
use Rattle.values.specs.declared.Value.TheVariants.{TemporarilySatisfied, TemporarilyViolated}
use Rattle.values.specs.declared.Value.TheVariants.{PermanentlySatisfied, PermanentlyViolated}

-- for every template, number of declared steps, x and y: the value in the standing after a run is the value of the run
module _ (steps : ℕ) (t : Template) (x y : Test) (other : Bool) (r : RuleAmong (λ k. k < steps) t x y other)
    (s : List ℕ) where
  now : Decides (satisfied t (standing t x y 0 s)) (Meaning t x y s)
  now = table_fact t x y s r.rule.proper

  later : (v : List ℕ) → Decides (satisfied t (standing t x y 0 (s ++ v))) (Meaning t x y (s ++ v))
  later v = table_fact t x y (s ++ v) r.rule.proper

  pub value_holds : HasValue steps (Meaning t x y) s (value_of t other (standing t x y 0 s))
  unfolding value_of
  value_holds = go (satisfied t (standing t x y 0 s)) (settled t other (standing t x y 0 s)) refl refl
    where
      stays : settled t other (standing t x y 0 s) ≡ true → (v : List ℕ) → Declared steps v
          → satisfied t (standing t x y 0 (s ++ v)) ≡ satisfied t (standing t x y 0 s)
      stays e v o = ap (satisfied t) (settled_stays t x y other r s v (subst T (sym e) tt) o)

      changes : settled t other (standing t x y 0 s) ≡ false
          → (v : List ℕ) × Declared steps v
          × (satisfied t (standing t x y 0 (s ++ v)) ≡ not (satisfied t (standing t x y 0 s)))
      changes e = unsettled_changes t x y other r s (λ h. subst T e h)

      go : (a b : Bool) → satisfied t (standing t x y 0 s) ≡ a → settled t other (standing t x y 0 s) ≡ b
          → HasValue steps (Meaning t x y) s (value_by a b)
      go true false e f =
          let c = changes f in
          (holds now e, (c.0, c.1, holds_not (later c.0) (c.2 ∙ ap not e)))
      go false false e f =
          let c = changes f in
          (holds_not now e, (c.0, c.1, holds (later c.0) (c.2 ∙ ap not e)))
      go true true e f = (holds now e, λ v o. holds (later v) (stays f v o ∙ e))
      go false true e f = (holds_not now e, λ v o. holds_not (later v) (stays f v o ∙ e))

-- ---- a run has one value

-- whether a run with this value satisfies the rule, and whether each continuation then does as the run
pub is_satisfied : Value → Bool
is_satisfied TemporarilySatisfied = true
is_satisfied TemporarilyViolated = false
is_satisfied PermanentlySatisfied = true
is_satisfied PermanentlyViolated = false

pub is_permanent : Value → Bool
is_permanent TemporarilySatisfied = false
is_permanent TemporarilyViolated = false
is_permanent PermanentlySatisfied = true
is_permanent PermanentlyViolated = true

pub by_both : (v : Value) → value_by (is_satisfied v) (is_permanent v) ≡ v
unfolding is_satisfied is_permanent
by_both TemporarilySatisfied = refl
by_both TemporarilyViolated = refl
by_both PermanentlySatisfied = refl
by_both PermanentlyViolated = refl

module _ (steps : ℕ) (P : List ℕ → Type 0) (run : List ℕ) where
  pub says_satisfied : (v : Value) → HasValue steps P run v → Decides (is_satisfied v) (P run)
  unfolding is_satisfied
  says_satisfied TemporarilySatisfied h = record { sound = λ t. h.0; complete = λ p. tt }
  says_satisfied TemporarilyViolated h = record { sound = λ t. absurd t; complete = λ p. h.0 p }
  says_satisfied PermanentlySatisfied h = record { sound = λ t. h.0; complete = λ p. tt }
  says_satisfied PermanentlyViolated h = record { sound = λ t. absurd t; complete = λ p. h.0 p }

  abbrev pub Lasting : Type 0
  Lasting = (u : List ℕ) → Declared steps u → P run ↔ P (run ++ u)

  pub says_permanent : (v : Value) → HasValue steps P run v → Decides (is_permanent v) Lasting
  unfolding is_permanent
  says_permanent TemporarilySatisfied h =
      record { sound = λ t. absurd t; complete = λ l. h.1.2 ((l h.1.0 h.1.1).0 h.0) }
  says_permanent TemporarilyViolated h =
      record { sound = λ t. absurd t; complete = λ l. h.0 ((l h.1.0 h.1.1).1 h.1.2) }
  says_permanent PermanentlySatisfied h = record { sound = λ t u o. (λ p. h.1 u o, λ p. h.0); complete = λ l. tt }
  says_permanent PermanentlyViolated h =
      record { sound = λ t u o. (λ p. absurd (h.0 p), λ p. absurd (h.1 u o p)); complete = λ l. tt }
