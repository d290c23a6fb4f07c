-- How far a rule has come in a run (01, "Monitor"; M-103): its standing and its relevant steps, step by step.
use Rattle.std.specs.Prelude.{Bool, cond, ℕ, ◌+◌, min, ltb, length}
use mathlib.Core.List.{List, [], ◌∷◌, foldl}
use Rattle.template.specs.Table.{lacks_y}
use Rattle.rule.specs.declared.Rule.{Rule}
use Rattle.rule.specs.Behaviour.{rule_goes}
use Rattle.values.specs.Limits.{most_relevant}
use Rattle.values.specs.Activation.{changes_activation}

-- the rule's own steps: x, and y where the template has one
abbrev pub own_steps : Rule → List ℕ
own_steps r = cond (lacks_y r.template) (r.x ∷ []) (r.x ∷ r.y ∷ [])

-- of so many declared steps some one is none of these
unfoldable pub has_other : Rule → ℕ → Bool
has_other r steps = ltb (length (own_steps r)) steps

-- "held at 4,294,967,295"
abbrev pub held_relevant : ℕ → ℕ
held_relevant n = min n most_relevant

-- the count after one step more, which is relevant or not
unfoldable pub counted : ℕ → Bool → ℕ
counted n relevant = held_relevant (n + cond relevant 1 0)

-- the standing of a rule, and how many steps were relevant
pub record Progress : Type 0 where
  pub standing : ℕ
  pub relevant : ℕ

-- a rule begins in 0
abbrev pub begun : Progress
begun = record { standing = 0; relevant = 0 }

-- one step more
unfoldable pub advanced_by : Rule → Bool → Progress → ℕ → Progress
advanced_by r other p z =
    let after = rule_goes r p.standing z in
    let relevant = changes_activation r.template other p.standing after in
    record { standing = after; relevant = counted p.relevant relevant }

unfoldable pub progress_after : Rule → Bool → List ℕ → Progress
progress_after r other run = foldl (advanced_by r other) begun run
