-- The answer for a file, a run and a rule number (01, "Monitor" and "Refused inputs"), and what a call promises.
use Rattle.std.specs.Prelude.{List, [], ◌∷◌, Bool, cond, ◌≡◌, ℕ, leb, ltb, length}
use Rattle.lists.specs.Exhaustive.{every}
use Rattle.refusals.specs.Refusal.{refused_or, written_over}
use Rattle.rule.specs.declared.Rule.{Rule}
use Rattle.rule.specs.Behaviour.{rule_at, SatisfiesRule}
use Rattle.rule_file.specs.Contents.{rules_of, steps_of, rule_refusal}
use Rattle.values.specs.Limits.{state_size}
use Rattle.values.specs.Value.{value_number, value_of}
use Rattle.values.specs.Progress.{has_other, progress_after}
use Rattle.values.specs.declared.Value.{Value}
use Rattle.values.specs.Run.{StateOf}

-- the number of a refusal; or the value after a run and the count of its relevant steps
pub data Answer : Type 0 where
  Refused : (number : ℕ) → Answer
  State : (value : Value) → (relevant : ℕ) → Answer

-- the numbers of an answer: what a call returns, and what it writes
abbrev pub refusal_number : Answer → ℕ
refusal_number (Refused number) = number
refusal_number (State value relevant) = 0

abbrev pub state_numbers : Answer → List ℕ
state_numbers (Refused number) = []
state_numbers (State value relevant) = value_number value ∷ relevant ∷ []

-- the state of a rule of a file with so many steps after a run
unfoldable pub state_after : Rule → ℕ → List ℕ → Answer
state_after r steps run =
    let other = has_other r steps in
    let p = progress_after r other run in
    State (value_of r.template other p.standing) p.relevant

-- each byte of a run is the number of a declared step; a run with another byte is refused by 15
abbrev pub declared_run : ℕ → List ℕ → Bool
declared_run steps run = every (λ z. ltb z steps) run

unfoldable pub followed : Rule → ℕ → List ℕ → Answer
followed r steps run = cond (declared_run steps run) (state_after r steps run) (Refused 15)

-- 2 to 13, then 14, then 15
unfoldable pub run_answer : List ℕ → List ℕ → ℕ → Answer
run_answer bs run n = refused_or Refused (rule_refusal bs n) (followed (rule_at (rules_of bs) n) (steps_of bs) run)

-- a shorter area is refusal 1, first of all
unfoldable pub lent_answer : ℕ → List ℕ → List ℕ → ℕ → Answer
lent_answer size bs run n = cond (leb state_size size) (run_answer bs run n) (Refused 1)

-- what an answer says of a rule of a file: a state holds, over continuations and by what the rule means
abbrev pub Holds : List ℕ → List ℕ → ℕ → Answer → Type 0
Holds bs run n a =
    (value : Value) (relevant : ℕ) → a ≡ State value relevant
    → StateOf (steps_of bs) (SatisfiesRule (rules_of bs) n) run value relevant

-- what a call that is lent no area promises of its answer
pub record Answers (file run : List ℕ) (rule : ℕ) (answer : Answer) : Type 0 where
  pub returned : answer ≡ run_answer file run rule
  pub holds : Holds file run rule answer

-- what a call promises, of the area before it and after it and of the number it returns: both by equation, refused or
-- not
pub record Monitors (file run : List ℕ) (rule : ℕ) (area area' : List ℕ) (number : ℕ) : Type 0 where
  pub returned : number ≡ refusal_number (lent_answer (length area) file run rule)
  pub written : area' ≡ written_over (state_numbers (lent_answer (length area) file run rule)) area
  pub holds : Holds file run rule (lent_answer (length area) file run rule)
