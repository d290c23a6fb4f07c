-- From a settled standing every continuation is as satisfied as it is now (`settled_stays`), and from any other some
-- continuation is not (`unsettled_changes`).
use Rattle.std.specs.Prelude.{Bool, true, false, cond, ◌&&◌, ◌||◌, ◌≡◌, ℕ, zero, suc, ◌+◌, ◌≤◌, ◌<◌, min, T}
use Rattle.std.proofs.Math.Bool.{not}
use Rattle.std.specs.Bool.{beq}
use mathlib.Core.List.{List, [], ◌∷◌, ◌++◌, map}
use Rattle.std.proofs.Math.Path.{refl}
use Rattle.std.proofs.Common.{sym, ap, ap₂, ◌∙◌, subst, ⊎_elim, arith, le_of_suc-le-suc}
use Rattle.std.proofs.Math.Dec.{eqb}
use Rattle.lists.specs.Members.{All}
use Rattle.lists.specs.Laws.Decides.{decides_test, decides_and, decides_or, decides_not, decides_implies, decides_equal}
use Rattle.lists.specs.Laws.Decides.{decides_same}
use Rattle.lists.specs.Exhaustive.{every, some}
use Rattle.lists.specs.Laws.Exhaustive.{decides_some_member}
use Rattle.lists.specs.Elements.{listed}
use Rattle.lists.specs.Decides.{Decides}
use Rattle.template.specs.declared.Template.{Template}
use Rattle.template.specs.declared.Kind.{Kind}
use Rattle.template.specs.declared.Kind.TheVariants.{X, Y, Other}
use Rattle.template.specs.Table.{kinds, Row, counts, table, lacks_y, digit, satisfied_in}
use Rattle.template.specs.Table.{standings_in, next, satisfied, standings}
use Rattle.template.specs.Settled.{declared_kind, settled}
use Rattle.template.specs.Standing.{kind_of, along, standing}
use Rattle.template.proofs.Laws.Moves.{whole_table, everywhere, every_kind, standing_low}
use Rattle.template.specs.Laws.Word.{is_x}
use Rattle.template.proofs.Laws.Counts.{next_counts, counts_change, times_x, along_counts}
use Rattle.template.proofs.Laws.Sort.{Sort, in_table, counts_x, sort}
use Rattle.template.specs.Sequence.{Test, OverSteps}
use Rattle.template.specs.Rule.{RuleOver}
use Rattle.template.proofs.Laws.Standing.{kind_x, kind_y, kind_y_only, standing_append}

-- ---- along words of declared kinds

-- each of the kinds is declared
abbrev DeclaredKinds : Template → Bool → List Kind → Type 0
DeclaredKinds t other w = All (λ k. T (declared_kind t other k)) w

module _ (t : Template) (other : Bool) where
  settled_along : (w : List Kind) (q : ℕ) → T (settled t other q) → DeclaredKinds t other w → along t q w ≡ q
  unfolding settled
  settled_along [] q s d = refl
  settled_along (k ∷ w) q s d =
      let stays : next t q k ≡ q =
      (decides_implies (decides_test (declared_kind t other k)) (decides_equal (next t q k) q)).sound
      (every_kind (λ k. not (declared_kind t other k) || eqb (next t q k) q) s k) d.0 in
      rw stays (settled_along w q s d.1)

  -- in at most so many steps some standing is satisfied as wanted
  abbrev reaches : ℕ → Bool → ℕ → Bool
  reaches zero wanted q = beq (satisfied t q) wanted
  reaches (suc n) wanted q =
      beq (satisfied t q) wanted || some (λ k. declared_kind t other k && reaches n wanted (next t q k)) kinds

  abbrev Leads : Bool → ℕ → Type 0
  Leads wanted q = (w : List Kind) × DeclaredKinds t other w × (satisfied t (along t q w) ≡ wanted)

  found : (n : ℕ) (wanted : Bool) (q : ℕ) → T (reaches n wanted q) → Leads wanted q
  found zero wanted q h = ([], tt, (decides_same (satisfied t q) wanted).sound h)
  found (suc n) wanted q h =
      ⊎_elim (λ e. ([], tt, (decides_same (satisfied t q) wanted).sound e)) (λ r. step (found n wanted) r)
      ((decides_or (decides_test (beq (satisfied t q) wanted)) (decides_test (some onward kinds))).sound h)
    where
      onward : Kind → Bool
      onward k = declared_kind t other k && reaches n wanted (next t q k)

      step : ((p : ℕ) → T (reaches n wanted p) → Leads wanted p) → T (some onward kinds) → Leads wanted q
      step later r =
          let m = (decides_some_member onward kinds).sound r in
          let k = m.0 in
          let a = (decides_and (decides_test (declared_kind t other k))
          (decides_test (reaches n wanted (next t q k)))).sound m.2 in
          let l = later (next t q k) a.1 in
          (k ∷ l.0, (a.0, l.1), l.2)

-- a standing is settled, or at most two steps lead to one that is satisfied otherwise
left_soon : Bool → Template → ℕ → Kind → Bool
left_soon other t q k = settled t other q || reaches t other 2 (not (satisfied t q)) q

-- computed over the whole table, with and without a further step
left_soon_lem : (other : Bool) → T (whole_table (left_soon other))
unfolding left_soon settled table digit next satisfied standings
left_soon_lem true = tt
left_soon_lem false = tt

-- a template that counts is settled in its last standing
all_kinds : (f : Kind → Bool) → ((k : Kind) → T (f k)) → T (every f kinds)
all_kinds f h =
    (decides_and (decides_test (f X))
    (decides_and (decides_test (f Y)) (decides_and (decides_test (f Other)) (decides_test true)))).complete
    (h X, (h Y, (h Other, tt)))

last_settled : (t : Template) (other : Bool) (f m l : ℕ) → table t ≡ counts f m l → T (settled t other l)
unfolding next settled
last_settled t other f m l e =
    all_kinds (λ k. not (declared_kind t other k) || eqb (next t l k) l)
    (λ k. (decides_implies (decides_test (declared_kind t other k)) (decides_equal (next t l k) l)).complete
    (λ d. stays k))
  where
    stays : (k : Kind) → next t l k ≡ l
    stays k = rw e (next_counts f m l (lacks_y t) l k (omega arith) ∙ go (is_x k))
      where
        go : (b : Bool) → min (cond b 1 0 + l) l ≡ l
        go true = omega arith
        go false = omega arith

declared_x : (t : Template) (other : Bool) (k : ℕ) → DeclaredKinds t other (listed k (λ i. X))
declared_x t other zero = tt
declared_x t other (suc k) = (tt, declared_x t other k)

counts_lead : (t : Template) (other : Bool) (f m l q k : ℕ) → table t ≡ counts f m l → q ≤ l
    → satisfied_in (counts f m l) (min (q + k) l) ≡ not (satisfied_in (counts f m l) q)
    → Leads t other (not (satisfied t q)) q
unfolding satisfied
counts_lead t other f m l q k e h c =
    let w = listed k (λ i. X) in
    (w, declared_x t other k, rw (along_counts t f m l e w q h, times_x k, e) c)

unsettled_leads : (t : Template) (other : Bool) (q : ℕ) → q < standings t → ¬ T (settled t other q)
    → Leads t other (not (satisfied t q)) q
unfolding left_soon standings
unsettled_leads t other q h n = go (sort t)
  where
    go : Sort t → Leads t other (not (satisfied t q)) q
    go (in_table i) =
        ⊎_elim (λ s. absurd (n s)) (found t other 2 (not (satisfied t q)) q)
        ((decides_or (decides_test (settled t other q)) (decides_test (reaches t other 2 (not (satisfied t q)) q))).sound
        (everywhere (left_soon other) (left_soon_lem other) t i q X h))
    go (counts_x f m l g) =
        let low : q ≤ l = le_of_suc-le-suc (subst (λ (r : Row). q < standings_in r) g.is_row h) in
        let early : ¬ (q ≡ l) = λ e. n
        (subst (λ (k : ℕ). T (settled t other k)) (sym e) (last_settled t other f m l g.is_row)) in
        let c = counts_change f m l g.limits q (omega arith) in
        counts_lead t other f m l q c.0 g.is_row low c.1

-- ---- along sequences of declared steps

-- a rule over the steps of d, and whether one of these is neither its x nor its y
pub record RuleAmong (d : ℕ → Type 0) (t : Template) (x y : Test) (other : Bool) : Type 0 where
  pub rule : RuleOver d t x y
  pub others : Decides other ((z : ℕ) × d z × (kind_of t x y z ≡ Other))

module _ {d : ℕ → Type 0} (t : Template) (x y : Test) (other : Bool) (r : RuleAmong d t x y other) where
  -- the kind of a declared step is declared, and a declared kind has such a step
  pub kind_declared : (z : ℕ) → d z → T (declared_kind t other (kind_of t x y z))
  kind_declared z h = go (kind_of t x y z) refl
    where
      go : (k : Kind) → kind_of t x y z ≡ k → T (declared_kind t other k)
      go X e = tt
      go Y e = kind_y_only t x y z e
      go Other e = r.others.complete (z, h, e)

  kinds_declared : (v : List ℕ) → OverSteps d v → DeclaredKinds t other (map (kind_of t x y) v)
  kinds_declared [] o = tt
  kinds_declared (z ∷ v) o = (kind_declared z o.0, kinds_declared v o.1)

  pub step_of : (k : Kind) → T (declared_kind t other k) → (z : ℕ) × d z × (kind_of t x y z ≡ k)
  step_of X h =
      let a = r.rule.some_x in
      (a.0, a.1, kind_x t x y a.0 a.2)
  step_of Y h =
      let b = r.rule.some_y h in
      let lacks-none = (decides_not (decides_test (lacks_y t))).sound h in
      (b.0, b.1, kind_y t x y b.0 lacks-none (λ e. r.rule.proper.apart h b.0 e b.2) b.2)
  step_of Other h = r.others.sound h

  steps_of : (w : List Kind) → DeclaredKinds t other w → (v : List ℕ) × OverSteps d v × (map (kind_of t x y) v ≡ w)
  steps_of [] h = ([], tt, refl)
  steps_of (k ∷ w) h =
      let z = step_of k h.0 in
      let v = steps_of w h.1 in
      (z.0 ∷ v.0, (z.1, v.1), ap₂ (λ (j : Kind) (u : List Kind). j ∷ u) z.2 v.2)

  -- no continuation of s leaves a settled standing
  pub settled_stays : (s v : List ℕ) → T (settled t other (standing t x y 0 s)) → OverSteps d v
      → standing t x y 0 (s ++ v) ≡ standing t x y 0 s
  settled_stays s v h o =
      standing_append t x y s v 0
      ∙ settled_along t other (map (kind_of t x y) v) (standing t x y 0 s) h (kinds_declared v o)

  -- from any other some continuation of s is satisfied otherwise than s
  pub unsettled_changes : (s : List ℕ) → ¬ T (settled t other (standing t x y 0 s))
      → (v : List ℕ) × OverSteps d v × (satisfied t (standing t x y 0 (s ++ v))
      ≡ not (satisfied t (standing t x y 0 s)))
  unsettled_changes s n =
      let q = standing t x y 0 s in
      let l = unsettled_leads t other q (standing_low t x y s) n in
      let v = steps_of l.0 l.1 in
      (v.0, v.1, ap (satisfied t) (standing_append t x y s v.0 0 ∙ ap (along t q) v.2) ∙ l.2)
