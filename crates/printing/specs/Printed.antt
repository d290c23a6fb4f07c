-- What the program prints (01, "Cases"), worked out from the bytes of a file. A text is the list of its characters'
-- codes.
use Rattle.std.specs.Prelude.{cond, List, [], ◌∷◌, ◌++◌, ℕ, ◌+◌, ◌*◌, leb, eqb, length, get_or}
use Rattle.lists.specs.Elements.{listed, concat_map}
use Rattle.fields.specs.Bytes.{two_at}
use Rattle.rule_file.specs.Contents.{rules_of}
use Rattle.rule_file.specs.Decode.{read_file}
use Rattle.verdicts.specs.Verdict.{verdict_bytes}
use Rattle.io.specs.Digits.{last_digits}

-- how many digits a number of at most five has
abbrev pub places : ℕ → ℕ
places n = cond (leb 10000 n) 5 (cond (leb 1000 n) 4 (cond (leb 100 n) 3 (cond (leb 10 n) 2 1)))

-- "in decimal": the codes of these digits, the first first
unfoldable pub decimal : ℕ → List ℕ
decimal n = last_digits 10 (places n) n

-- "with one space between": a number and the character after it
unfoldable pub number_then : ℕ → ℕ → List ℕ
number_then n end = decimal n ++ (end ∷ [])

abbrev pub space : ℕ
space = 32

abbrev pub newline : ℕ
newline = 10

-- "rule, fate, first count, second count": the line of the rule at a place, by the bytes of the verdict area
unfoldable pub line_at : List ℕ → ℕ → List ℕ
line_at bytes k =
    number_then (k + 1) space ++ number_then (get_or bytes (5 * k) 0) space
    ++ number_then (two_at bytes (5 * k + 1)) space ++ number_then (two_at bytes (5 * k + 3)) newline

-- "a line a rule in file order": those of the first n rules
unfoldable pub lines : List ℕ → ℕ → List ℕ
lines bytes n = concat_map (line_at bytes) (listed n (λ k. k))

-- those of a file's rules, by its verdicts
unfoldable pub lines_of : List ℕ → List ℕ
lines_of bs = lines (verdict_bytes bs) (length (rules_of bs))

-- "refused "
abbrev pub refused_text : List ℕ
refused_text = 114 ∷ 101 ∷ 102 ∷ 117 ∷ 115 ∷ 101 ∷ 100 ∷ 32 ∷ []

-- "`refused`, a space and the number"
unfoldable pub refused_line : ℕ → List ℕ
refused_line n = refused_text ++ number_then n newline

-- "long" and its newline
abbrev pub long_line : List ℕ
long_line = 108 ∷ 111 ∷ 110 ∷ 103 ∷ 10 ∷ []

-- the whole output: "an input over 65,535 bytes prints the line `long`"
unfoldable pub printed : List ℕ → List ℕ
printed bs = cond (leb (length bs) 65535) (cond (eqb (read_file bs).refusal 0) (lines_of bs)
    (refused_line (read_file bs).refusal)) long_line
