-- What a rule's x, y and count have to be over the declared steps (01, refusal 11; M-100, refusal 17), for tests and
-- for a plain rule.
use Rattle.std.specs.Prelude.{ℕ, ◌≤◌, T}
use Rattle.template.specs.Sequence.{Test}
use Rattle.template.specs.declared.Template.{Template}
use Rattle.template.specs.Number.{count}
use Rattle.template.specs.Table.{HasY}
use Rattle.template.specs.Limits.{most_count}

-- no step is both x and y
abbrev pub Apart : Test → Test → Type 0
Apart x y = (z : ℕ) → T (x z) → T (y z) → ⊥

-- no step is both x and y where the template has a y, and a count is at most 14
pub record Proper (t : Template) (x y : Test) : Type 0 where
  pub apart : HasY t → Apart x y
  pub few : count t ≤ most_count

-- some step of d is x and, where the template has a y, some step of d is y and none is both
pub record RuleOver (d : ℕ → Type 0) (t : Template) (x y : Test) : Type 0 where
  pub some_x : (a : ℕ) × d a × T (x a)
  pub some_y : HasY t → (b : ℕ) × d b × T (y b)
  pub proper : Proper t x y
