-- The activation state of a rule (02, M-103; source document 002, Definitions 6 to 9): the value of a run and the steps
-- that are permitted after it, over continuations and by what the rule means; and as read from a standing.
use Rattle.std.specs.Prelude.{List, [], ◌∷◌, ◌++◌, Bool, not, cond, ◌&&◌, ◌≡◌, ◌↔◌, ℕ, ◌+◌, ◌*◌, ◌<◌, eqb}
use Rattle.template.specs.declared.Template.{Template}
use Rattle.template.specs.declared.Kind.TheVariants.{X, Y, Other}
use Rattle.template.specs.declared.Kind.{Kind}
use Rattle.template.specs.Table.{next, broken}
use Rattle.template.specs.Settled.{declared_kind}
use Rattle.values.specs.declared.Value.{Value}
use Rattle.values.specs.declared.Value.TheVariants.{PermanentlyViolated}
use Rattle.values.specs.Value.{value_number, HasValue, value_of}

-- over so many declared steps; P holds of the sequences that satisfy the rule
module _ (steps : ℕ) (P : List ℕ → Type 0) where
  -- "A step is permitted if the value after it is not 3": the step w after a run, of those that are declared
  pub record Permitted (run : List ℕ) (w : ℕ) : Type 0 where
    pub declared : w < steps
    pub not_violated : ¬ HasValue steps P (run ++ (w ∷ [])) PermanentlyViolated

  -- two runs have the same value and the same set of permitted steps
  pub record SameActivation (s u : List ℕ) : Type 0 where
    pub value : (v : Value) → HasValue steps P s v ↔ HasValue steps P u v
    pub permitted : (w : ℕ) → Permitted s w ↔ Permitted u w

  -- their values differ, or some step is permitted after one of them alone
  pub data ActivationDiffers (s u : List ℕ) : Type 0 where
    value_differs : (v w : Value) → HasValue steps P s v → HasValue steps P u w → ¬ (v ≡ w) → ActivationDiffers s u
    first_permits : (w : ℕ) → Permitted s w → ¬ Permitted u w → ActivationDiffers s u
    second_permits : (w : ℕ) → ¬ Permitted s w → Permitted u w → ActivationDiffers s u

-- in the standing q a step of kind k is permitted: such a step is declared, and does not break the rule
unfoldable pub permitted_kind : Template → Bool → ℕ → Kind → Bool
permitted_kind t other q k = declared_kind t other k && not (broken t (next t q k))

-- the activation state in a standing as one number: that of the value, and 4, 8 and 16 where x, y and any other step
-- are permitted
unfoldable pub activation_of : Template → Bool → ℕ → ℕ
activation_of t other q =
    let permitted : Kind → ℕ = λ k. cond (permitted_kind t other q k) 1 0 in
    value_number (value_of t other q) + 4 * permitted X + 8 * permitted Y + 16 * permitted Other

-- a step from one standing to another changes it
unfoldable pub changes_activation : Template → Bool → ℕ → ℕ → Bool
changes_activation t other before after = not (eqb (activation_of t other before) (activation_of t other after))
