-- Templates with the same rows are satisfied by the same sequences: AtLeast 1 (M-100) by those of Participation, and
-- AtMost 1 by those of AtMostOne.
use Rattle.std.specs.Prelude.{◌≡◌, refl, List, [], ◌∷◌, map, ◌↔◌, ℕ, ◌<◌, T}
use Rattle.std.proofs.Common.{sym, ap, ◌∙◌, subst, zero-le, lt_of_lt_of_le, arith}
use Rattle.template.specs.declared.Template.{Template}
use Rattle.template.specs.declared.Kind.{Kind}
use Rattle.template.specs.Table.{table, digit, up_to_last, lacks_y, next, satisfied}
use Rattle.template.specs.Sequence.{Test}
use Rattle.template.specs.Meaning.{Meaning}
use Rattle.template.specs.Rule.{Proper}
use Rattle.template.specs.Standing.{kind_of, along, standing}
use Rattle.template.proofs.Laws.Moves.{next_sixteen, most_standings_lem, standing_low}
use Rattle.template.proofs.Laws.Fact.{table_fact}
use Rattle.template.specs.Code.Columns.{rows_in, rows_of, no_row}
use Rattle.template.proofs.Laws.Columns.{row_next, row_satisfied}
use Rattle.template.specs.declared.Template.TheVariants.{Participation, AtMostOne, AtLeast, AtMost}

module _ (t u : Template) (rows : rows_of t ≡ rows_of u) (lacks : lacks_y t ≡ lacks_y u) where
  -- the same moves
  same_next : (q : ℕ) (k : Kind) → q < 16 → next t q k ≡ next u q k
  same_next q k h =
      sym (row_next (rows_of t) t refl q no_row k h) ∙ row_next (rows_of t) u rows q no_row k h

  same_along : (w : List Kind) (q : ℕ) → q < 16 → along t q w ≡ along u q w
  same_along [] q h = refl
  same_along (k ∷ w) q h =
      same_along w (next t q k) (next_sixteen t q k)
      ∙ ap (λ (p : ℕ). along u p w) (same_next q k h)

  same_kind : (x y : Test) (z : ℕ) → kind_of t x y z ≡ kind_of u x y z
  unfolding kind_of
  same_kind x y z = rw lacks

  -- and the same satisfied standings
  same_satisfied : (x y : Test) (s : List ℕ) → satisfied t (standing t x y 0 s) ≡ satisfied u (standing u x y 0 s)
  same_satisfied x y s =
      let h = lt_of_lt_of_le (standing_low t x y s) (most_standings_lem t) in
      sym (row_satisfied (rows_of t) t refl (standing t x y 0 s) no_row h)
      ∙ row_satisfied (rows_of t) u rows (standing t x y 0 s) no_row h
      ∙ ap (satisfied u) (same_along (map (kind_of t x y) s) 0 (omega arith)
      ∙ (λ i. along u 0 (map (λ z. same_kind x y z i) s)))

  pub alike_exactly : (x y : Test) (s : List ℕ) → Proper t x y → Proper u x y → Meaning t x y s ↔ Meaning u x y s
  alike_exactly x y s p r = (
    λ m. (table_fact u x y s r).sound (subst T (same_satisfied x y s) ((table_fact t x y s p).complete m)),
    λ m. (table_fact t x y s p).sound (subst T (sym (same_satisfied x y s)) ((table_fact u x y s r).complete m)),
  )

-- x at least once: it occurs
pub once_at_least_exactly : (x y : Test) (s : List ℕ) → Meaning (AtLeast 1) x y s ↔ Meaning Participation x y s
unfolding rows_of rows_in table digit up_to_last
once_at_least_exactly x y s =
    alike_exactly (AtLeast 1) Participation refl refl x y s
    (record { apart = λ h. absurd h; few = omega arith }) (record { apart = λ h. absurd h; few = zero-le })

-- x at most once
pub once_at_most_exactly : (x y : Test) (s : List ℕ) → Meaning (AtMost 1) x y s ↔ Meaning AtMostOne x y s
unfolding rows_of rows_in table digit up_to_last
once_at_most_exactly x y s =
    alike_exactly (AtMost 1) AtMostOne refl refl x y s
    (record { apart = λ h. absurd h; few = omega arith }) (record { apart = λ h. absurd h; few = zero-le })
