-- The whole outputs that 01 gives ("Cases", source document 000, and "Refused inputs", the empty file), computed.
use Rattle.std.specs.Prelude.{List, [], ◌∷◌, ◌++◌, ◌≡◌, refl, ℕ, length}
use Rattle.std.proofs.Common.{sym, ap₂, ◌∙◌, lit≤}
use Rattle.rule_file.specs.Laws.PlainFile.{first_case}
use Rattle.rule_file.specs.Decode.{read_file}
use Rattle.rule_file.specs.Contents.{rules_of}
use Rattle.rule_file.specs.Laws.Computed.{computed_read}
use Rattle.deciding.specs.Laws.Computed.{computed_reports}
use Rattle.verdicts.specs.Verdict.{verdict_bytes}
use Rattle.printing.specs.Printed.{decimal, number_then, line_at, lines, lines_of, refused_line, printed}
use Rattle.printing.specs.Laws.Printed.{printed_lines}

-- four digits with a space between
abbrev row : ℕ → ℕ → ℕ → ℕ → List ℕ
row a b c d = a ∷ 32 ∷ b ∷ 32 ∷ c ∷ 32 ∷ d ∷ 10 ∷ []

first_bytes : verdict_bytes first_case ≡ 0 ∷ 0 ∷ 2 ∷ 0 ∷ 2 ∷ 0 ∷ 0 ∷ 3 ∷ 0 ∷ 3 ∷ 1 ∷ 0 ∷ 3 ∷ 0 ∷ 0 ∷ []
unfolding computed_reports verdict_bytes
first_bytes = refl

first_rules : length (rules_of first_case) ≡ 3
unfolding computed_read
first_rules = refl

first_accepted : (read_file first_case).refusal ≡ 0
unfolding computed_read
first_accepted = refl

-- `1 0 2 2`, `2 0 3 3`, `3 1 3 0`
pub first_output : printed first_case ≡ row 49 48 50 50 ++ (row 50 48 51 51 ++ row 51 49 51 48)
unfolding lines_of lines line_at number_then decimal
first_output = sym (printed_lines first_case (lit≤ tt) first_accepted) ∙ ap₂ lines first_bytes first_rules

-- `refused 13`
pub empty_output : printed [] ≡ 114 ∷ 101 ∷ 102 ∷ 117 ∷ 115 ∷ 101 ∷ 100 ∷ 32 ∷ 49 ∷ 51 ∷ 10 ∷ []
unfolding printed refused_line number_then decimal computed_read
empty_output = refl
