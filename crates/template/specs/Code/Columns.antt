-- How the code holds the table: a row for each template and standing.
use Rattle.std.specs.Prelude.{Bool, false, cond, List, [], ◌∷◌, map, ℕ, ◌+◌, ◌-◌, ◌*◌, ◌/◌, ◌%◌, ◌<◌, eqb, leb, get_or}
use Rattle.lists.specs.Elements.{listed}
use Rattle.template.specs.Limits.{most_standings}
use Rattle.template.specs.declared.Kind.{Kind}
use Rattle.template.specs.declared.Kind.TheVariants.{X, Y, Other}
use Rattle.template.specs.Table.{kinds, Row, table, lacks_y, next_in, satisfied_in, broken_in}
use Rattle.template.specs.Table.{standings_in, next, satisfied, broken, standings}
use Rattle.template.specs.declared.Template.{Template}
use Rattle.template.specs.declared.StandingRow.{StandingRow}
use Rattle.template.specs.Number.{tabled}

-- where a list with an element for each kind has that of one
abbrev pub column : Kind → ℕ
column X = 0
column Y = 1
column Other = 2

-- the next standing on a step of kind k
unfoldable pub next_of : StandingRow → Kind → ℕ
next_of row k = get_or row.moves (column k) 0

-- by a row, with or without a y: the next standing on x, on y and on any other step, whether it is satisfied, whether
-- it is broken, and the number of standings
abbrev pub columns_in : Row → Bool → ℕ → StandingRow
columns_in r l q =
    record {
      moves = map (next_in r l q) kinds;
      satisfied = satisfied_in r q;
      broken = broken_in r q;
      standings = standings_in r;
    }

-- of a template
unfoldable pub columns : Template → ℕ → StandingRow
columns t q = columns_in (table t) (lacks_y t) q

-- the rows, one for each of sixteen standings
unfoldable pub rows_in : Row → Bool → List StandingRow
rows_in r l = listed most_standings (columns_in r l)

unfoldable pub rows_of : Template → List StandingRow
rows_of t = rows_in (table t) (lacks_y t)

-- how the code's table holds a standing of a template that does not count: as a number of four hex digits, from the
-- lowest the next standing on x, on y and on any other step, and a mark, which has 1 if the standing is satisfied, 2 if
-- it is broken, and 4 for each standing of the template but the first
abbrev standing_number : Template → ℕ → ℕ
standing_number t q =
    let mark = cond (satisfied t q) 1 0 + 2 * cond (broken t q) 1 0 + 4 * (standings t - 1) in
    next t q X + 16 * next t q Y + 256 * next t q Other + 4096 * mark

-- the code's table: the numbers of four standings of each such template
abbrev pub tables : List (List ℕ)
tables = map (λ t. listed 4 (standing_number t)) tabled

-- how many standings a number tells of, and the row that it tells
abbrev pub number_standings : ℕ → ℕ
number_standings n = n / 16384 + 1

abbrev pub number_row : ℕ → StandingRow
number_row n =
    record {
      moves = (n % 16) ∷ (n / 16 % 16) ∷ (n / 256 % 16) ∷ [];
      satisfied = eqb (n / 4096 % 2) 1;
      broken = eqb (n / 8192 % 2) 1;
      standings = number_standings n;
    }

-- of a standing that a template with so many lacks
abbrev pub lacked_row : ℕ → StandingRow
lacked_row n = record { moves = 0 ∷ 0 ∷ 0 ∷ []; satisfied = false; broken = false; standings = n }

-- the row of standing q by the numbers of a template
abbrev pub tabled_row : List ℕ → ℕ → StandingRow
tabled_row own q = cond (leb 4 q) (lacked_row (number_standings (get_or own 0 0))) (number_row (get_or own q 0))

-- what is read past the last row
abbrev pub no_row : StandingRow
no_row = record { moves = []; satisfied = false; broken = false; standings = 0 }

-- each next standing in the rows is one that a template can have
abbrev pub LowRows : List StandingRow → Type 0
LowRows rows = (q : ℕ) (k : Kind) → q < most_standings → next_of (get_or rows q no_row) k < most_standings
