-- The table fact: from standing 0 the moves reach a satisfied standing exactly when the meaning holds.
use Rattle.std.specs.Prelude.{Bool, true, false, not, ◌&&◌, ◌≡◌, refl, ℕ, ◌+◌, ◌≤◌, ◌<◌, min, T}
use Rattle.std.specs.Bool.{beq}
use mathlib.Core.List.{List, [], ◌∷◌, map}
use Rattle.std.proofs.Math.Path.{sym, ap}
use Rattle.std.proofs.Common.{◌∙◌, arith, T_not}
use Rattle.std.proofs.Math.ListN.{get_or}
use Rattle.lists.specs.Laws.Elements.{map_at}
use Rattle.lists.specs.Laws.Decides.{decides_not, decides_and, decides_or, decides_implies, decides_iff, decides_same}
use Rattle.lists.specs.Decides.{Decides}
use Rattle.template.specs.declared.Template.{Template}
use Rattle.template.specs.declared.Kind.{Kind}
use Rattle.template.specs.declared.Kind.TheVariants.{X}
use Rattle.template.specs.Table.{Row, row, counts, table, lacks_y, HasY, digit, next_in, moves_in}
use Rattle.template.specs.Table.{standings_in, next, satisfied, standings}
use Rattle.template.proofs.Laws.Needed.{needed}
use Rattle.template.proofs.Laws.NeededMoves.{before_step}
use Rattle.template.specs.Number.{count, counting}
use Rattle.template.specs.Laws.Number.{every_tabled}
use Rattle.template.specs.Standing.{kind_by, kind_of, along, standing}
use Rattle.template.proofs.Laws.Moves.{everywhere, first_standing, next_low}
use Rattle.template.specs.Sequence.{Test, is, times}
use Rattle.template.specs.Laws.Word.{is_x, is_y, occurs, first}
use Rattle.template.specs.Laws.Decided.{TellsKind, decides_each, decides_occurs, decides_first}
use Rattle.template.specs.Laws.Decided.{decides_last, times_kinds}
use Rattle.template.specs.Rule.{Apart, Proper}
use Rattle.template.specs.Meaning.{Meaning}
use Rattle.template.specs.declared.Template.TheVariants.{Participation, AtMostOne, Init, End, RespondedExistence}
use Rattle.template.specs.declared.Template.TheVariants.{Response, AlternateResponse, ChainResponse, Precedence}
use Rattle.template.specs.declared.Template.TheVariants.{AlternatePrecedence, ChainPrecedence, CoExistence}
use Rattle.template.specs.declared.Template.TheVariants.{Succession, AlternateSuccession, ChainSuccession}
use Rattle.template.specs.declared.Template.TheVariants.{NotChainSuccession, NotSuccession, NotCoExistence}
use Rattle.template.specs.declared.Template.TheVariants.{AtLeast, AtMost, Exactly, Choice, ExclusiveChoice}
use Rattle.template.proofs.Laws.Counts.{decides_satisfied, along_counts}
use Rattle.template.proofs.Laws.Sort.{Sort, in_table, counts_x, sort}
use Rattle.template.specs.Laws.Rule.{proper_steps}
use Rattle.template.proofs.Laws.MeaningParts.{decides_response, decides_alternate_response, decides_chain_response}
use Rattle.template.proofs.Laws.MeaningParts.{decides_precedence, decides_alternate_precedence, decides_chain_precedence}

satisfied_at_end : Template → ℕ → Kind → Bool
satisfied_at_end t q k = beq (satisfied t q) (get_or (needed t []) q false)

-- ---- the templates of the table

has_row : Row → Bool
has_row (row m s b) = true
has_row (counts f m l) = false

-- the move of a row reads what is needed at the next standing
row_step : (r : Row) → T (has_row r) → (b : Bool) (q : ℕ) (k : Kind) (l : List Bool) → q < standings_in r
    → get_or (map (λ n. get_or l (digit b k n) false) (moves_in r)) q false ≡ get_or l (next_in r b q k) false
unfolding has_row
row_step (row m s o) i b q k l h = map_at (λ n. get_or l (digit b k n) false) m q 0 false h
row_step (counts f m n) i b q k l h = absurd i

module _ (t : Template) (n : T (not (counting t))) where
  at_end : (q : ℕ) → q < standings t → satisfied t q ≡ get_or (needed t []) q false
  unfolding satisfied_at_end table satisfied standings
  at_end q h = (decides_same (satisfied t q) (get_or (needed t []) q false)).sound (everywhere satisfied_at_end tt t n q X h)

  at_step : (q : ℕ) (k : Kind) (w : List Kind) → q < standings t
      → get_or (needed t w) (next t q k) false ≡ get_or (needed t (k ∷ w)) q false
  unfolding has_row table next standings
  at_step q k w h =
      sym (row_step (table t) (every_tabled (λ t. has_row (table t)) tt t n) (lacks_y t) q k (needed t w) h)
      ∙ ap (λ (l : List Bool). get_or l q false) (sym (before_step t k w))

  -- from any standing a word leads to a satisfied one exactly when it is what the standing needs: one induction for all
  -- templates
  satisfied_along : (w : List Kind) (q : ℕ) → q < standings t → satisfied t (along t q w) ≡ get_or (needed t w) q false
  satisfied_along [] q h = at_end q h
  satisfied_along (k ∷ w) q h = satisfied_along w (next t q k) (next_low t q k) ∙ at_step q k w h

tells_x : (t : Template) (x y : Test) → TellsKind (kind_of t x y) is_x x
unfolding kind_of
tells_x t x y = record { tells = λ z. go (x z) (not (lacks_y t) && y z) }
  where
    go : (a b : Bool) → is_x (kind_by a b) ≡ a
    go true b = refl
    go false true = refl
    go false false = refl

tells_y : (t : Template) (x y : Test) → HasY t → Apart x y → TellsKind (kind_of t x y) is_y y
unfolding kind_of
tells_y t x y h d = record { tells = λ z. go (x z) (lacks_y t) (y z) (T_not (lacks_y t) h) (d z) }
  where
    go : (a l b : Bool) → (T l → ⊥) → (T a → T b → ⊥) → is_y (kind_by a (not l && b)) ≡ b
    go true l true n d = absurd (d tt tt)
    go true l false n d = refl
    go false true b n d = absurd (n tt)
    go false false true n d = refl
    go false false false n d = refl

-- what standing 0 needs is the meaning; templates 1 to 4 do not look at y
means : (t : Template) → T (not (counting t)) → {kind : ℕ → Kind} {x y : Test} (s : List ℕ) → TellsKind kind is_x x
    → (HasY t → TellsKind kind is_y y)
    → Decides (get_or (needed t (map kind s)) 0 false) (Meaning t x y s)
means Participation n s tx ty = decides_occurs tx s
means AtMostOne n s tx ty = decides_each tx s (λ u v. not (occurs is_x v)) (λ u v. decides_not (decides_occurs tx v))
means Init n s tx ty = decides_first tx s
means End n s tx ty = decides_last tx s
means RespondedExistence n s tx ty = decides_implies (decides_occurs tx s) (decides_occurs (ty tt) s)
means Response n s tx ty = decides_response tx (ty tt) s
means AlternateResponse n s tx ty = decides_alternate_response tx (ty tt) s
means ChainResponse n s tx ty = decides_chain_response tx (ty tt) s
means Precedence n s tx ty = decides_precedence tx (ty tt) s
means AlternatePrecedence n s tx ty = decides_alternate_precedence tx (ty tt) s
means ChainPrecedence n s tx ty = decides_chain_precedence tx (ty tt) s
means CoExistence n s tx ty =
    decides_and
    (decides_implies (decides_occurs tx s) (decides_occurs (ty tt) s))
    (decides_implies (decides_occurs (ty tt) s) (decides_occurs tx s))
means Succession n s tx ty = decides_and (decides_response tx (ty tt) s) (decides_precedence tx (ty tt) s)
means AlternateSuccession n s tx ty =
    decides_and (decides_alternate_response tx (ty tt) s) (decides_alternate_precedence tx (ty tt) s)
means ChainSuccession n s tx ty =
    decides_and (decides_chain_response tx (ty tt) s) (decides_chain_precedence tx (ty tt) s)
means NotChainSuccession n s tx ty =
    decides_each tx s (λ u v. not (first is_y v)) (λ u v. decides_not (decides_first (ty tt) v))
means NotSuccession n s tx ty =
    decides_each tx s (λ u v. not (occurs is_y v)) (λ u v. decides_not (decides_occurs (ty tt) v))
means NotCoExistence n s tx ty = decides_not (decides_and (decides_occurs tx s) (decides_occurs (ty tt) s))
means (AtLeast c) n s tx ty = absurd n
means (AtMost c) n s tx ty = absurd n
means (Exactly c) n s tx ty = absurd n
means Choice n s tx ty = decides_or (decides_occurs tx s) (decides_occurs (ty tt) s)
means ExclusiveChoice n s tx ty =
    decides_or
    (decides_and (decides_occurs tx s) (decides_not (decides_occurs (ty tt) s)))
    (decides_and (decides_occurs (ty tt) s) (decides_not (decides_occurs tx s)))

-- ---- the templates that count: the standing after a sequence counts its x

pub standing_counts : (t : Template) (f m l : ℕ) → table t ≡ counts f m l → (x y : Test) (q : ℕ) (s : List ℕ) → q ≤ l
    → standing t x y q s ≡ min (q + times x s) l
standing_counts t f m l e x y q s h =
    along_counts t f m l e (map (kind_of t x y) s) q h
    ∙ ap (λ (n : ℕ). min (q + n) l) (times_kinds (tells_x t x y) s)

-- the table fact, for every template, every pair of tests that never both hold where the template has a y, every count
-- up to 14, and every sequence
pub table_fact : (t : Template) (x y : Test) (s : List ℕ) → Proper t x y
    → Decides (satisfied t (standing t x y 0 s)) (Meaning t x y s)
unfolding satisfied
table_fact t x y s p = go (sort t)
  where
    go : Sort t → Decides (satisfied t (standing t x y 0 s)) (Meaning t x y s)
    go (in_table n) =
        rw (satisfied_along t n (map (kind_of t x y) s) 0 (first_standing t))
        (means t n s (tells_x t x y) (λ h. tells_y t x y h (p.apart h)))
    go (counts_x f m l g) =
        let e : standing t x y 0 s ≡ min (times x s) l = omega
        (arith, standing_counts t f m l g.is_row x y 0 s (omega arith)) in
        rw (e, g.is_row)
        (decides_iff (g.means x y s p.few) (decides_satisfied f m l (min (times x s) l)))

-- the table fact of a plain rule
pub plain_fact : (t : Template) (x y : ℕ) (s : List ℕ) → (HasY t → ¬ (x ≡ y)) → count t ≤ 14
    → Decides (satisfied t (standing t (is x) (is y) 0 s)) (Meaning t (is x) (is y) s)
plain_fact t x y s d n = table_fact t (is x) (is y) s (proper_steps t x y d n)
