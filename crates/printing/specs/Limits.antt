-- How long the parts of what is printed can be (01, "Cases").
use Rattle.std.specs.Prelude.{ℕ}

-- numbers below this have at most five digits
abbrev pub number_limit : ℕ
number_limit = 100000

-- the bytes of a number with the character after it, of a rule's line with four of them, and of a refusal's line
abbrev pub longest_number : ℕ
longest_number = 6

abbrev pub longest_line : ℕ
longest_line = 24

abbrev pub longest_refusal : ℕ
longest_refusal = 14
