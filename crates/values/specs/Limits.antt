-- The limits of the monitor (01, "Monitor" and "Shown sequences").
use Rattle.std.specs.Prelude.{ℕ}

-- the numbers of a state: value and count
abbrev pub state_size : ℕ
state_size = 2

-- a count of relevant steps is held at this
abbrev pub most_relevant : ℕ
most_relevant = 4294967295
