-- The table of 01, "Templates": moves, satisfied and broken standings, as 01 writes them; and M-100's templates, of
-- which 19 to 21 count x.
use Rattle.std.specs.Prelude.{List, [], ◌∷◌, Bool, true, false, not, cond, ◌&&◌, ◌||◌, ℕ, suc, ◌-◌, ◌/◌, ◌%◌, min, T}
use Rattle.std.specs.Prelude.{eqb, leb, ltb, length, get_or}
use Rattle.template.specs.declared.Template.{Template}
use Rattle.template.specs.declared.Template.TheVariants.{Participation, AtMostOne, Init, End, RespondedExistence}
use Rattle.template.specs.declared.Template.TheVariants.{Response, AlternateResponse, ChainResponse, Precedence}
use Rattle.template.specs.declared.Template.TheVariants.{AlternatePrecedence, ChainPrecedence, CoExistence}
use Rattle.template.specs.declared.Template.TheVariants.{Succession, AlternateSuccession, ChainSuccession}
use Rattle.template.specs.declared.Template.TheVariants.{NotChainSuccession, NotSuccession, NotCoExistence}
use Rattle.template.specs.declared.Template.TheVariants.{AtLeast, AtMost, Exactly, Choice, ExclusiveChoice}
use Rattle.template.specs.declared.Kind.{Kind}
use Rattle.template.specs.declared.Kind.TheVariants.{X, Y, Other}
use Rattle.template.specs.Number.{number, counting_number}
use Rattle.template.specs.Limits.{most_standings, most_count}

-- the kinds of steps of a rule: its x, its y, any other
abbrev pub kinds : List Kind
kinds = X ∷ Y ∷ Other ∷ []

-- a row of 01's table is its columns Moves, S and B; or the standings count x up to a last one, are satisfied from the
-- fewest to the most, and broken above the most
pub data Row : Type 0 where
  row : (moves satisfied broken : List ℕ) → Row
  counts : (fewest most last : ℕ) → Row

-- M-100: a count is at most 14 (number 17), so that no template has more than 16 standings
abbrev pub held_count : ℕ → ℕ
held_count n = min n most_count

-- rows 1 to 23 in order: for each standing from 0, the next one on x, y, any other step (on x, other in 1 to 4) as the
-- digits of one number; then S; then B. 19 stops at n, 20 and 21 go to n+1 for too many
unfoldable pub table : Template → Row
table Participation = row (10 ∷ 11 ∷ []) (1 ∷ []) []
table AtMostOne = row (10 ∷ 21 ∷ 22 ∷ []) (0 ∷ 1 ∷ []) (2 ∷ [])
table Init = row (12 ∷ 11 ∷ 22 ∷ []) (1 ∷ []) (2 ∷ [])
table End = row (10 ∷ 10 ∷ []) (1 ∷ []) []
table RespondedExistence = row (120 ∷ 121 ∷ 222 ∷ []) (0 ∷ 2 ∷ []) []
table Response = row (100 ∷ 101 ∷ []) (0 ∷ []) []
table AlternateResponse = row (100 ∷ 201 ∷ 222 ∷ []) (0 ∷ []) (2 ∷ [])
table ChainResponse = row (100 ∷ 202 ∷ 222 ∷ []) (0 ∷ []) (2 ∷ [])
table Precedence = row (120 ∷ 111 ∷ 222 ∷ []) (0 ∷ 1 ∷ []) (2 ∷ [])
table AlternatePrecedence = row (120 ∷ 101 ∷ 222 ∷ []) (0 ∷ 1 ∷ []) (2 ∷ [])
table ChainPrecedence = row (120 ∷ 100 ∷ 222 ∷ []) (0 ∷ 1 ∷ []) (2 ∷ [])
table CoExistence = row (120 ∷ 131 ∷ 322 ∷ 333 ∷ []) (0 ∷ 3 ∷ []) []
table Succession = row (130 ∷ 121 ∷ 122 ∷ 333 ∷ []) (0 ∷ 2 ∷ []) (3 ∷ [])
table AlternateSuccession = row (120 ∷ 201 ∷ 222 ∷ []) (0 ∷ []) (2 ∷ [])
table ChainSuccession = row (120 ∷ 202 ∷ 222 ∷ []) (0 ∷ []) (2 ∷ [])
table NotChainSuccession = row (100 ∷ 120 ∷ 222 ∷ []) (0 ∷ 1 ∷ []) (2 ∷ [])
table NotSuccession = row (100 ∷ 121 ∷ 222 ∷ []) (0 ∷ 1 ∷ []) (2 ∷ [])
table NotCoExistence = row (120 ∷ 131 ∷ 322 ∷ 333 ∷ []) (0 ∷ 1 ∷ 2 ∷ []) (3 ∷ [])
table (AtLeast n) = counts (held_count n) (held_count n) (held_count n)
table (AtMost n) = counts 0 (held_count n) (suc (held_count n))
table (Exactly n) = counts (held_count n) (held_count n) (suc (held_count n))
table Choice = row (110 ∷ 111 ∷ []) (1 ∷ []) []
table ExclusiveChoice = row (120 ∷ 131 ∷ 322 ∷ 333 ∷ []) (1 ∷ 2 ∷ []) (3 ∷ [])

-- templates 1 to 4 have no y, and what stands there in 19 to 21 is a count
abbrev pub without_y : ℕ → Bool
without_y n = leb n 4 || counting_number n

abbrev pub lacks_y : Template → Bool
lacks_y t = without_y (number t)

abbrev pub HasY : Template → Type 0
HasY t = T (not (lacks_y t))

-- the digit of one kind in an entry of column Moves, of two digits where the template lacks y and of three where it has
-- one
unfoldable pub digit : Bool → Kind → ℕ → ℕ
digit true X n = n / 10
digit true Y n = n % 10
digit true Other n = n % 10
digit false X n = n / 100
digit false Y n = n / 10 % 10
digit false Other n = n % 10

-- the standing n after q, no further than the last one; 0 after a standing that the row lacks
unfoldable pub up_to_last : ℕ → ℕ → ℕ → ℕ
up_to_last last q n = cond (leb q last) (min n last) 0

-- by a row, with or without a y: the standing after q on a step of kind k
abbrev pub next_in : Row → Bool → ℕ → Kind → ℕ
next_in (row moves satisfied broken) l q k = digit l k (get_or moves q 0)
next_in (counts fewest most last) l q X = up_to_last last q (suc q)
next_in (counts fewest most last) l q Y = up_to_last last q q
next_in (counts fewest most last) l q Other = up_to_last last q q

abbrev pub moves_in : Row → List ℕ
moves_in (row moves satisfied broken) = moves
moves_in (counts fewest most last) = []

abbrev pub contains : List ℕ → ℕ → Bool
contains [] q = false
contains (n ∷ l) q = eqb q n || contains l q

abbrev pub satisfied_in : Row → ℕ → Bool
satisfied_in (row moves satisfied broken) q = contains satisfied q
satisfied_in (counts fewest most last) q = leb fewest q && leb q most

abbrev pub broken_in : Row → ℕ → Bool
broken_in (row moves satisfied broken) q = contains broken q
broken_in (counts fewest most last) q = ltb most q && leb q last

abbrev pub standings_in : Row → ℕ
standings_in (row moves satisfied broken) = length moves
standings_in (counts fewest most last) = suc last

-- the standing after q on a step of kind k
unfoldable pub next : Template → ℕ → Kind → ℕ
next t q k = next_in (table t) (lacks_y t) q k

-- column S
unfoldable pub satisfied : Template → ℕ → Bool
satisfied t q = satisfied_in (table t) q

-- column B
unfoldable pub broken : Template → ℕ → Bool
broken t q = broken_in (table t) q

-- a template's standings are numbered from 0 to one less than this
unfoldable pub standings : Template → ℕ
standings t = standings_in (table t)

-- the broken standing of a template, which is its last, or 16 where it has none
unfoldable pub broken_standing : Template → ℕ
broken_standing t = cond (broken t (standings t - 1)) (standings t - 1) most_standings
