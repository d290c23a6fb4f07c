-- The limits of a rule file (01, "Rule file").
use Rattle.std.specs.Prelude.{ℕ}

abbrev pub most_steps : ℕ
most_steps = 24

abbrev pub most_rules : ℕ
most_rules = 32

-- the bytes of a name
abbrev pub longest_name : ℕ
longest_name = 16

-- the 32 bits of the largest weight, 1.0
abbrev pub largest_weight : ℕ
largest_weight = 0x3F800000
