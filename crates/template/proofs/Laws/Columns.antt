-- The laws of the columns: what the rows of a template say, and that the table of the code holds them (`tables_at`).
use Rattle.std.specs.Prelude.{◌≡◌, refl, Bool, true, false, not, ◌&&◌, ◌||◌, List, [], map, ℕ, ◌+◌, ◌<◌, T, eqb, get_or}
use Rattle.std.proofs.Common.{sym, ap, ◌∙◌, subst, lit<}
use Rattle.std.proofs.Math.Bool.{and-true}
use mir.Val.{bool_byte}
use Rattle.lists.specs.Elements.{listed}
use Rattle.lists.specs.Laws.Elements.{listed_get, map_at}
use Rattle.template.specs.declared.Kind.{Kind}
use Rattle.template.specs.declared.Kind.TheVariants.{X, Y, Other}
use Rattle.template.specs.Table.{kinds, table, digit, lacks_y}
use Rattle.template.specs.Table.{next, satisfied, broken, standings}
use Rattle.template.specs.declared.Template.{Template}
use Rattle.template.specs.declared.Template.TheVariants.{Participation}
use Rattle.template.specs.declared.StandingRow.{StandingRow}
use Rattle.template.specs.Number.{counting, tabled, table_place}
use Rattle.template.specs.Laws.Number.{tabled_at}
use Rattle.template.proofs.Laws.Moves.{next_sixteen}
use Rattle.template.specs.Standing.{kind_by}
use Rattle.template.specs.Settled.{settled}
use Rattle.template.specs.Code.Columns.{column, next_of, columns, rows_in, rows_of, tables, tabled_row, no_row}
use Rattle.template.specs.Code.Columns.{LowRows}

pub column_low : (k : Kind) → column k < 3
column_low X = lit< tt
column_low Y = lit< tt
column_low Other = lit< tt

-- the column of a kind is a sum of two comparisons (02, M-101): one for a step that is not x, one more if it is not y
-- either
pub column_sum : (is_x is_y : Bool) → bool_byte (not is_x) + bool_byte (not is_x && not is_y) ≡ column (kind_by is_x is_y)
column_sum true is_y = refl
column_sum false true = refl
column_sum false false = refl

-- what stands at the column of a kind in a list of what f gives for each
pub by_column : {A : Type 0} (f : Kind → A) (d : A) (k : Kind) → get_or (map f kinds) (column k) d ≡ f k
by_column f d X = refl
by_column f d Y = refl
by_column f d Other = refl

abbrev rows_by : List ℕ → List StandingRow
rows_by own = listed 16 (tabled_row own)

-- they are the template's rows: computed over the table
tables_rows : map rows_by tables ≡ map rows_of tabled
unfolding next satisfied broken standings rows_in rows_of table digit
tables_rows = refl

-- the row of a standing
row_at : (t : Template) (q : ℕ) (d : StandingRow) → q < 16 → get_or (rows_of t) q d ≡ columns t q
unfolding columns rows_in rows_of
row_at t q d h = listed_get 16 (columns t) q d h

pub columns_next : (t : Template) (q : ℕ) (k : Kind) → next_of (columns t q) k ≡ next t q k
unfolding columns next next_of
columns_next t q k = by_column (next t q) 0 k

pub columns_satisfied : (t : Template) (q : ℕ) → (columns t q).satisfied ≡ satisfied t q
unfolding columns satisfied
columns_satisfied t q = refl

pub columns_broken : (t : Template) (q : ℕ) → (columns t q).broken ≡ broken t q
unfolding columns broken
columns_broken t q = refl

pub columns_standings : (t : Template) (q : ℕ) → (columns t q).standings ≡ standings t
unfolding columns standings
columns_standings t q = refl

-- what the rows of a template say, read with any default
module _ (rows : List StandingRow) (t : Template) (e : rows ≡ rows_of t) where
  pub row_of : (q : ℕ) (d : StandingRow) → q < 16 → get_or rows q d ≡ columns t q
  row_of q d h = ap (λ (l : List StandingRow). get_or l q d) e ∙ row_at t q d h

  pub row_next : (q : ℕ) (d : StandingRow) (k : Kind) → q < 16 → next_of (get_or rows q d) k ≡ next t q k
  row_next q d k h = ap (λ (r : StandingRow). next_of r k) (row_of q d h) ∙ columns_next t q k

  pub rows_low : LowRows rows
  rows_low q k h = subst (λ (v : ℕ). v < 16) (sym (row_next q no_row k h)) (next_sixteen t q k)

  pub row_satisfied : (q : ℕ) (d : StandingRow) → q < 16 → (get_or rows q d).satisfied ≡ satisfied t q
  row_satisfied q d h = ap (λ (r : StandingRow). r.satisfied) (row_of q d h) ∙ columns_satisfied t q

  pub row_broken : (q : ℕ) (d : StandingRow) → q < 16 → (get_or rows q d).broken ≡ broken t q
  row_broken q d h = ap (λ (r : StandingRow). r.broken) (row_of q d h) ∙ columns_broken t q

  pub row_standings : (q : ℕ) (d : StandingRow) → q < 16 → (get_or rows q d).standings ≡ standings t
  row_standings q d h = ap (λ (r : StandingRow). r.standings) (row_of q d h) ∙ columns_standings t q

-- what the code's table says at the place of a template
pub tables_at : (t : Template) → T (not (counting t)) → (q : ℕ) → q < 16
    → tabled_row (get_or tables (table_place t) []) q ≡ columns t q
tables_at t h q i =
    let l = tabled_at t h in
    let own = get_or tables (table_place t) [] in
    sym (listed_get 16 (tabled_row own) q no_row i)
    ∙ row_of (rows_by own) t
    (sym (map_at rows_by tables (table_place t) [] [] l.0)
    ∙ ap (λ (m : List (List StandingRow)). get_or m (table_place t) []) tables_rows
    ∙ map_at rows_of tabled (table_place t) Participation [] l.0
    ∙ ap rows_of l.1) q no_row i

-- whether no declared step leaves a standing, by the row of it
pub row_settled : (t : Template) (other : Bool) (q : ℕ) (row : StandingRow) → row ≡ columns t q
    → (eqb (next_of row X) q && ((lacks_y t || eqb (next_of row Y) q) && (not other || eqb (next_of row Other) q)))
    ≡ settled t other q
unfolding settled
row_settled t other q row e =
    ap
    (λ (f : Kind → ℕ). eqb (f X) q && ((lacks_y t || eqb (f Y) q) && (not other || eqb (f Other) q)))
    (λ i k. (ap (λ (r : StandingRow). next_of r k) e ∙ columns_next t q k) i)
    ∙ go (eqb (next t q X) q) (lacks_y t) (eqb (next t q Y) q) (not other || eqb (next t q Other) q)
  where
    go : (a l b c : Bool) → (a && ((l || b) && c)) ≡ (a && ((not (not l) || b) && (c && true)))
    go a true b c = rw (and-true c)
    go a false b c = rw (and-true c)
