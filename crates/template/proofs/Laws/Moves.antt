-- Laws of the table alone: tests that antt computes over every template that 01's table lists, each of its standings
-- and each kind, the laws of those that count, and what follows along a sequence.
use Rattle.std.specs.Prelude.{Bool, true, false, not, cond, ◌&&◌, ◌||◌, ◌≡◌, refl, List, [], ◌∷◌, map, ◌⊎◌, ℕ, suc, ◌-◌}
use Rattle.std.specs.Prelude.{◌<◌, ◌≤◌, T, eqb, leb, ltb, length}
use Rattle.std.proofs.Common.{sym, ap, ◌∙◌, subst, ⊎_elim, arith, lt_of_lt_of_le, leb→le, ltb→lt, lit<}
use Rattle.std.proofs.Math.Decide.{dec_lt}
use Rattle.std.proofs.Math.ListN.{get_or-eq_default}
use Rattle.lists.specs.Exhaustive.{every, below}
use Rattle.lists.specs.Laws.Exhaustive.{every_at, below_at, and_left, and_right}
use Rattle.lists.specs.Laws.Decides.{either_way, fails, decides_test, decides_not, decides_and, decides_or}
use Rattle.lists.specs.Laws.Decides.{decides_implies, decides_equal, decides_one}
use Rattle.template.specs.declared.Kind.{Kind}
use Rattle.template.specs.declared.Kind.TheVariants.{X, Y, Other}
use Rattle.template.specs.Table.{kinds, Row, row, counts, table, contains, lacks_y, digit}
use Rattle.template.specs.Table.{next_in, satisfied_in, broken_in, standings_in, next, satisfied, broken, standings}
use Rattle.template.specs.Table.{broken_standing}
use Rattle.template.specs.declared.Template.{Template}
use Rattle.template.specs.Number.{counting, tabled}
use Rattle.template.specs.Laws.Number.{every_template, every_tabled}
use Rattle.template.proofs.Laws.Sort.{Sort, in_table, counts_x, sort}
use Rattle.template.specs.Standing.{kind_of, along, standing}
use Rattle.template.proofs.Laws.Counts.{decides_satisfied, decides_broken, next_past, counts_low, counts_stuck}
use Rattle.template.specs.Sequence.{Test}

pub every_kind : (f : Kind → Bool) → T (every f kinds) → (k : Kind) → T (f k)
every_kind f t X = every_at f kinds X t 0 (lit< tt)
every_kind f t Y = every_at f kinds X t 1 (lit< tt)
every_kind f t Other = every_at f kinds X t 2 (lit< tt)

-- f passes at every template of the table, standing of it and kind
abbrev pub whole_table : (Template → ℕ → Kind → Bool) → Bool
whole_table f = every (λ t. below (standings t) (λ q. every (f t q) kinds)) tabled

pub everywhere : (f : Template → ℕ → Kind → Bool) → T (whole_table f) → (t : Template) → T (not (counting t))
    → (q : ℕ) (k : Kind) → q < standings t → T (f t q k)
everywhere f e t n q k h =
    every_kind (f t q)
    (below_at (standings t) (λ q. every (f t q) kinds)
    (every_tabled (λ t. below (standings t) (λ q. every (f t q) kinds)) e t n) q h)
    k

in_limits : Template → Bool
in_limits t = ltb 0 (standings t) && leb (standings t) 16

in_limits_lem : (t : Template) → (0 < standings t) × (standings t ≤ 16)
unfolding in_limits table standings
in_limits_lem t = go (sort t)
  where
    go : Sort t → (0 < standings t) × (standings t ≤ 16)
    go (in_table n) =
        let h = every_tabled in_limits tt t n in (
          ltb→lt 0 (standings t) (and_left (ltb 0 (standings t)) (leb (standings t) 16) h),
          leb→le (standings t) 16 (and_right (ltb 0 (standings t)) (leb (standings t) 16) h),
        )
    go (counts_x f m l g) = rw g.is_row (omega arith, omega (arith, g.limits.few))

-- each template has the standing 0, in which a rule begins
pub first_standing : (t : Template) → 0 < standings t
first_standing t = (in_limits_lem t).0

-- and no template has more than sixteen
pub most_standings_lem : (t : Template) → standings t ≤ 16
most_standings_lem t = (in_limits_lem t).1

stays_in : Template → ℕ → Kind → Bool
stays_in t q k = ltb (next t q k) (standings t)

no_digit : (b : Bool) (k : Kind) → digit b k 0 ≡ 0
unfolding digit
no_digit true X = refl
no_digit true Y = refl
no_digit true Other = refl
no_digit false X = refl
no_digit false Y = refl
no_digit false Other = refl

-- after a standing that the row lacks comes 0
beyond : (r : Row) (b : Bool) (q : ℕ) (k : Kind) → standings_in r ≤ q → next_in r b q k ≡ 0
beyond (row m s o) b q k h = rw (get_or-eq_default m 0 {n = q} h) (no_digit b k)
beyond (counts f m l) b q k h = next_past f m l b q k h

pub next_none : (t : Template) (q : ℕ) (k : Kind) → standings t ≤ q → next t q k ≡ 0
unfolding next standings
next_none t q k h = beyond (table t) (lacks_y t) q k h

-- a standing stays below its template's number of standings
pub next_low : (t : Template) (q : ℕ) (k : Kind) → next t q k < standings t
unfolding stays_in table digit next standings
next_low t q k = go (dec_lt q (standings t)) (sort t)
  where
    go : Dec (q < standings t) → Sort t → next t q k < standings t
    go (yes h) (in_table n) = ltb→lt (next t q k) (standings t) (everywhere stays_in tt t n q k h)
    go (yes h) (counts_x f m l g) = rw g.is_row (omega (arith, counts_low f m l (lacks_y t) q k))
    go (no n) s = omega (arith, next_none t q k (omega arith), first_standing t)

-- and so below sixteen
pub next_sixteen : (t : Template) (q : ℕ) (k : Kind) → next t q k < 16
next_sixteen t q k = lt_of_lt_of_le (next_low t q k) (most_standings_lem t)

along_low : (t : Template) (w : List Kind) (q : ℕ) → q < standings t → along t q w < standings t
along_low t [] q h = h
along_low t (k ∷ w) q h = along_low t w (next t q k) (next_low t q k)

pub standing_low : (t : Template) (x y : Test) (s : List ℕ) → standing t x y 0 s < standings t
standing_low t x y s = along_low t (map (kind_of t x y) s) 0 (first_standing t)

stuck : Template → ℕ → Kind → Bool
stuck t q k = not (broken t q) || (eqb (next t q k) q && not (satisfied t q))

-- a broken standing is never left, and is not satisfied
pub broken_stays : (t : Template) (q : ℕ) (k : Kind) → q < standings t → T (broken t q)
    → (next t q k ≡ q) × ¬ T (satisfied t q)
unfolding stuck table digit next satisfied broken standings
broken_stays t q k h = go (sort t)
  where
    go : Sort t → T (broken t q) → (next t q k ≡ q) × ¬ T (satisfied t q)
    go (in_table n) =
        (decides_implies
        (decides_test (broken t q))
        (decides_and (decides_equal (next t q k) q) (decides_not (decides_test (satisfied t q))))).sound
        (everywhere stuck tt t n q k h)
    go (counts_x f m l g) = rw g.is_row (counts_stuck f m l g.limits (lacks_y t) q k)

known_broken : Row → Bool
known_broken (row m s b) = every (λ q. ltb q (length m)) b
known_broken (counts f m l) = true

contained : (p : ℕ → Bool) (l : List ℕ) (q : ℕ) → T (every p l) → T (contains l q) → T (p q)
contained p [] q h c = absurd c
contained p (n ∷ l) q h c =
    ⊎_elim
    (λ (e : q ≡ n). subst (λ (k : ℕ). T (p k)) (sym e) (and_left (p n) (every p l) h))
    (λ (d : T (contains l q)). contained p l q (and_right (p n) (every p l) h) d)
    ((decides_or (decides_equal q n) (decides_test (contains l q))).sound c)

-- a broken standing is one of the template's
pub broken_known : (t : Template) (q : ℕ) → T (broken t q) → q < standings t
unfolding known_broken table broken standings
broken_known t q = go (table t) (every_template (λ t. known_broken (table t)) (λ c. tt) t)
  where
    go : (r : Row) → T (known_broken r) → T (broken_in r q) → q < standings_in r
    go (row m s b) h c = ltb→lt q (length m) (contained (λ k. ltb k (length m)) b q h c)
    go (counts f m l) h c = let o = (decides_broken f m l q).sound c in omega (arith, o.1)

known_satisfied : Row → Bool
known_satisfied (row m s b) = every (λ q. ltb q (length m)) s
known_satisfied (counts f m l) = leb m l

-- and so is a satisfied one
satisfied_known : (t : Template) (q : ℕ) → T (satisfied t q) → q < standings t
unfolding known_satisfied table satisfied standings
satisfied_known t q = go (sort t)
  where
    known : (r : Row) → T (known_satisfied r) → T (satisfied_in r q) → q < standings_in r
    known (row m s b) h c = ltb→lt q (length m) (contained (λ k. ltb k (length m)) s q h c)
    known (counts f m l) h c = let o = (decides_satisfied f m l q).sound c in omega (arith, o.1, leb→le m l h)

    go : Sort t → T (satisfied t q) → q < standings t
    go (in_table n) = known (table t) (every_tabled (λ t. known_satisfied (table t)) tt t n)
    go (counts_x f m l g) =
        rw g.is_row (λ s. let o = (decides_satisfied f m l q).sound s in omega (arith, o.1, g.limits.within))

pub satisfied_none : (t : Template) (q : ℕ) → standings t ≤ q → satisfied t q ≡ false
satisfied_none t q h =
    fails (satisfied t q) (decides_test (satisfied t q)) (λ s. let l = satisfied_known t q s in omega arith)

only_last : Template → ℕ → Kind → Bool
only_last t q k = not (broken t q) || eqb (suc q) (standings t)

-- and it is the last of them
pub broken_last : (t : Template) (q : ℕ) → T (broken t q) → suc q ≡ standings t
unfolding only_last table broken standings
broken_last t q b = go (sort t) b
  where
    go : Sort t → T (broken t q) → suc q ≡ standings t
    go (in_table n) =
        (decides_implies (decides_test (broken t q)) (decides_equal (suc q) (standings t))).sound
        (everywhere only_last tt t n q X (broken_known t q b))
    go (counts_x f m l g) = rw g.is_row (λ c. let o = (decides_broken f m l q).sound c in omega arith)

-- so a template has one broken standing or none
pub broken_standing_low : (t : Template) → broken_standing t ≤ 16
unfolding broken_standing
broken_standing_low t =
    let m = most_standings_lem t in
    either_way (λ v. v ≤ 16) (broken t (standings t - 1)) (omega arith) (omega arith)

pub broken_standing_exactly : (t : Template) (q : ℕ) → q < 16 → eqb q (broken_standing t) ≡ broken t q
unfolding broken_standing
broken_standing_exactly t q h = go (broken t (standings t - 1)) refl
  where
    last : T (broken t q) → q ≡ standings t - 1
    last b = omega (arith, broken_last t q b)

    go : (b : Bool) → broken t (standings t - 1) ≡ b → eqb q (cond b (standings t - 1) 16) ≡ broken t q
    go true e =
        decides_one (eqb q (standings t - 1)) (broken t q) (decides_equal q (standings t - 1))
        record { sound = last; complete = λ i. subst T (sym (ap (broken t) i ∙ e)) tt }
    go false e =
        decides_one (eqb q 16) (broken t q) (decides_equal q 16)
        record { sound = λ b. absurd (subst T (ap (broken t) (last b) ∙ e) b); complete = λ i. absurd (omega arith) }

whole_at_first : Row → Bool
whole_at_first (row m s b) = not (contains b 0)
whole_at_first (counts f m l) = true

-- no rule begins broken
pub begins_unbroken : (t : Template) → ¬ T (broken t 0)
unfolding whole_at_first table broken
begins_unbroken t = go (table t) (every_template (λ t. whole_at_first (table t)) (λ c. tt) t)
  where
    go : (r : Row) → T (whole_at_first r) → ¬ T (broken_in r 0)
    go (row m s b) h = (decides_not (decides_test (contains b 0))).sound h
    go (counts f m l) h = λ c. let o = (decides_broken f m l 0).sound c in omega (arith, o.0)

one_step_away : Template → ℕ → Kind → Bool
one_step_away t q k =
    broken t q || (satisfied t q || (satisfied t (next t q X) || (not (lacks_y t) && satisfied t (next t q Y))))

abbrev pub OneStepAway : Template → ℕ → Type 0
OneStepAway t q = T (satisfied t q) ⊎ (T (satisfied t (next t q X)) ⊎ (¬ T (lacks_y t) × T (satisfied t (next t q Y))))

-- of a template of the table, a standing that is not broken is satisfied, or becomes so by one x, or by one y where the
-- template has a y
pub one_step_away_lem : (t : Template) (q : ℕ) → T (not (counting t)) → q < standings t → T (broken t q) ⊎ OneStepAway t q
unfolding one_step_away table digit next satisfied broken standings
one_step_away_lem t q n h =
    (decides_or
    (decides_test (broken t q))
    (decides_or
    (decides_test (satisfied t q))
    (decides_or
    (decides_test (satisfied t (next t q X)))
    (decides_and (decides_not (decides_test (lacks_y t))) (decides_test (satisfied t (next t q Y))))))).sound
    (everywhere one_step_away tt t n q X h)
