-- The four values (01, "Monitor"): over the continuations of a run, by what the rule means; and as read from a
-- standing.
use Rattle.std.specs.Prelude.{List, ◌++◌, Bool, true, false, ℕ}
use Rattle.template.specs.declared.Template.{Template}
use Rattle.template.specs.Table.{satisfied}
use Rattle.template.specs.Settled.{settled}
use Rattle.rule.specs.Behaviour.{Declared}
use Rattle.values.specs.declared.Value.{Value}
use Rattle.values.specs.declared.Value.TheVariants.{TemporarilySatisfied, TemporarilyViolated}
use Rattle.values.specs.declared.Value.TheVariants.{PermanentlySatisfied, PermanentlyViolated}

-- 01's numbers
abbrev pub value_number : Value → ℕ
value_number TemporarilySatisfied = 0
value_number TemporarilyViolated = 1
value_number PermanentlySatisfied = 2
value_number PermanentlyViolated = 3

-- over so many declared steps; P holds of the sequences that satisfy the rule
module _ (steps : ℕ) (P : List ℕ → Type 0) (run : List ℕ) where
  -- a continuation is a sequence of declared steps, of any length
  abbrev pub SomeContinuation : (List ℕ → Type 0) → Type 0
  SomeContinuation Q = (v : List ℕ) × Declared steps v × Q (run ++ v)

  abbrev pub EveryContinuation : (List ℕ → Type 0) → Type 0
  EveryContinuation Q = (v : List ℕ) → Declared steps v → Q (run ++ v)

  -- the run has the value: "temporarily satisfied (satisfied, some continuation is not)", "temporarily violated (not
  -- satisfied, some continuation is)", "permanently satisfied", "permanently violated"
  abbrev pub HasValue : Value → Type 0
  HasValue TemporarilySatisfied = P run × SomeContinuation (λ s. ¬ P s)
  HasValue TemporarilyViolated = (¬ P run) × SomeContinuation P
  HasValue PermanentlySatisfied = P run × EveryContinuation P
  HasValue PermanentlyViolated = (¬ P run) × EveryContinuation (λ s. ¬ P s)

-- by whether the run satisfies the rule, and whether no declared step leaves its standing
abbrev pub value_by : Bool → Bool → Value
value_by true false = TemporarilySatisfied
value_by false false = TemporarilyViolated
value_by true true = PermanentlySatisfied
value_by false true = PermanentlyViolated

-- the value in a standing; `other` says whether a step other than the rule's own is declared
unfoldable pub value_of : Template → Bool → ℕ → Value
value_of t other q = value_by (satisfied t q) (settled t other q)
