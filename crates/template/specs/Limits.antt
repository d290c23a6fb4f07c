-- The limits of templates (01, "Templates"; M-100).
use Rattle.std.specs.Prelude.{ℕ}

-- no template has more standings
abbrev pub most_standings : ℕ
most_standings = 16

-- a row begins with the next standings: on x, on y and on any other step
abbrev pub move_columns : ℕ
move_columns = 3

-- a count is at most this
abbrev pub most_count : ℕ
most_count = 14

-- templates are numbered from 1 to this
abbrev pub last_template : ℕ
last_template = 23
