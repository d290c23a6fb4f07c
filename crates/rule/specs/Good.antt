-- What a rule of a file of so many steps is (01, "Rule file" and "Refused inputs", 10 to 12; M-100, 17).
use Rattle.std.specs.Prelude.{Bool, not, cond, ◌&&◌, ◌||◌, ◌≡◌, ℕ, ◌≤◌, leb, ltb, eqb, T, Float}
use Rattle.std.specs.Float.Ieee.{fits, to_bits}
use Rattle.std.specs.Float.{binary32}
use Rattle.template.specs.Number.{counting_number, number, count, counting}
use Rattle.template.specs.Limits.{most_count, last_template}
use Rattle.rule.specs.Limits.{largest_weight}
use Rattle.rule.specs.declared.Weights.{Weights}
use Rattle.rule.specs.declared.Rule.{Rule}

-- a template is one of 1 to 23
abbrev pub good_template : ℕ → Bool
good_template t = leb 1 t && leb t last_template

-- M-100: y is the count in 19 to 21, from 1 to 14
abbrev pub good_count : ℕ → ℕ → Bool
good_count t y = not (counting_number t) || (leb 1 y && leb y most_count)

-- x is declared; y is hex FF in templates 1 to 4, is not looked at in 19 to 21, and in the others declared and not x
abbrev pub good_steps : ℕ → ℕ → ℕ → ℕ → Bool
good_steps steps t x y = ltb x steps
    && cond (leb t 4) (eqb y 0xFF) (counting_number t || (ltb y steps && not (eqb x y)))

-- the 32 bits of a weight as an unsigned number are at most those of 1.0
abbrev pub good_weight : ℕ → Bool
good_weight bits = leb bits largest_weight

-- a 32-bit float whose bits as an unsigned number are at most those of 1.0
pub record AcceptedWeight (w : Float) : Type 0 where
  pub single : T (fits binary32 w)
  pub low : to_bits binary32 w ≤ largest_weight

pub record AcceptedWeights (w : Weights) : Type 0 where
  pub support : AcceptedWeight w.support
  pub confidence : AcceptedWeight w.confidence
  pub interest : AcceptedWeight w.interest

-- a rule in a file of so many steps
pub record GoodRule (steps : ℕ) (r : Rule) : Type 0 where
  pub declared : T (good_steps steps (number r.template) r.x r.y)
  -- M-100: y is the count of a template that counts, and in its limits
  pub counted : T (counting r.template) → count r.template ≡ r.y
  pub few : T (good_count (number r.template) r.y)
  pub weights : AcceptedWeights r.weights
