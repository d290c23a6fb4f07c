-- The limits of showing (01, "Shown sequences" and "Refused inputs"; M-100).
use Rattle.std.specs.Prelude.{ℕ}

-- the numbers of a sequence, and of an answer with two of them
abbrev pub shown_size : ℕ
shown_size = 4

abbrev pub answer_size : ℕ
answer_size = 8
