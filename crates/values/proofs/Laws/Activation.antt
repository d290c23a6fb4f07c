-- The activation state read from a standing is that of the run, for every template (M-103): a step is permitted exactly
-- where the number says so (`permitted_exactly`), two numbers are equal exactly when value and permitted steps are
-- (`activation_exactly`), and they differ exactly when one of these does (`decides_differs`).
use Rattle.std.specs.Prelude.{Bool, not, ◌≡◌, ◌↔◌, get_or}
use Rattle.std.proofs.Math.Bool.{true, false, cond}
use Rattle.std.proofs.Math.Path.{refl, subst}
use Rattle.std.proofs.Common.{sym, ap, ◌∙◌, arith, lit<}
use mathlib.Core.List.{List, [], ◌∷◌, ◌++◌, append-nil}
use Rattle.std.proofs.Math.Logic.{dite}
use Prim.Native.Nat.{ℕ, ◌+◌, ◌*◌, ◌<◌, ◌≤◌}
use Rattle.std.proofs.Math.Decide.{ℕ_discrete}
use Rattle.std.proofs.Math.Dec.{T}
use Rattle.lists.specs.Decides.{Decides}
use Rattle.lists.specs.Laws.Decides.{decides_test, decides_and, decides_not, decides_equal, decides_iff, decides_one}
use Rattle.lists.specs.Laws.Decides.{holds, holds_not, bool_discrete, flag_same, flag_low}
use Rattle.lists.specs.Laws.Exhaustive.{and_left}
use Rattle.template.specs.declared.Template.{Template}
use Rattle.template.specs.declared.Kind.TheVariants.{X, Y, Other}
use Rattle.template.specs.declared.Kind.{Kind}
use Rattle.template.specs.Table.{next, broken}
use Rattle.template.specs.Sequence.{Test}
use Rattle.template.specs.Meaning.{Meaning}
use Rattle.template.specs.Settled.{declared_kind}
use Rattle.template.specs.Standing.{kind_of, standing}
use Rattle.template.proofs.Laws.Standing.{standing_append}
use Rattle.template.proofs.Laws.Broken.{broken_means}
use Rattle.template.proofs.Laws.Settled.{RuleAmong, kind_declared, step_of}
use Rattle.values.specs.declared.Value.{Value}
use Rattle.values.specs.declared.Value.TheVariants.{TemporarilySatisfied, TemporarilyViolated}
use Rattle.values.specs.declared.Value.TheVariants.{PermanentlySatisfied, PermanentlyViolated}
use Rattle.values.specs.Value.{value_number, HasValue, value_of}
use Rattle.values.proofs.Laws.Value.{value_holds}
use Rattle.values.proofs.Laws.OneValue.{value_only}
use Rattle.values.specs.Activation.{Permitted, SameActivation, ActivationDiffers, value_differs, first_permits}
use Rattle.values.specs.Activation.{second_permits, permitted_kind, activation_of, changes_activation}

-- ---- the number of an activation state

-- values of one number are equal
one_number : (v w : Value) → value_number v ≡ value_number w → v ≡ w
one_number v w e = sym (back v) ∙ ap (λ (n : ℕ). get_or values n TemporarilySatisfied) e ∙ back w
  where
    values : List Value
    values = TemporarilySatisfied ∷ TemporarilyViolated ∷ PermanentlySatisfied ∷ PermanentlyViolated ∷ []

    back : (v : Value) → get_or values (value_number v) TemporarilySatisfied ≡ v
    back TemporarilySatisfied = refl
    back TemporarilyViolated = refl
    back PermanentlySatisfied = refl
    back PermanentlyViolated = refl

pub value_low : (v : Value) → value_number v < 4
value_low TemporarilySatisfied = lit< tt
value_low TemporarilyViolated = lit< tt
value_low PermanentlySatisfied = lit< tt
value_low PermanentlyViolated = lit< tt

-- in two standings
module _ (t : Template) (other : Bool) (q p : ℕ) where
  -- the value is the same, and the same kinds are permitted: what the number is made of
  record SameParts : Type 0 where
    pub value : value_of t other q ≡ value_of t other p
    pub kinds : (k : Kind) → permitted_kind t other q k ≡ permitted_kind t other p k

  parts_exactly : (activation_of t other q ≡ activation_of t other p) ↔ SameParts
  unfolding activation_of
  parts_exactly = (
    λ e. record { value = one_number (value_of t other q) (value_of t other p) (numbers e).0; kinds = by_kind e },
    together,
  )
    where
      flag : ℕ → Kind → ℕ
      flag n k = cond (permitted_kind t other n k) 1 0

      low : (n : ℕ) → (flag n X ≤ 1) × (flag n Y ≤ 1) × (flag n Other ≤ 1)
      low n = (
        flag_low (permitted_kind t other n X),
        flag_low (permitted_kind t other n Y),
        flag_low (permitted_kind t other n Other),
      )

      numbers : activation_of t other q ≡ activation_of t other p
          → (value_number (value_of t other q) ≡ value_number (value_of t other p)) × (flag q X ≡ flag p X)
          × (flag q Y ≡ flag p Y) × (flag q Other ≡ flag p Other)
      numbers e =
          let v = value_low (value_of t other q) in
          let w = value_low (value_of t other p) in (
            omega (arith, e, v, w, low q, low p),
            omega (arith, e, v, w, low q, low p),
            omega (arith, e, v, w, low q, low p),
            omega (arith, e, v, w, low q, low p),
          )

      by_kind : activation_of t other q ≡ activation_of t other p → (k : Kind)
          → permitted_kind t other q k ≡ permitted_kind t other p k
      by_kind e X = flag_same (permitted_kind t other q X) (permitted_kind t other p X) (numbers e).1
      by_kind e Y = flag_same (permitted_kind t other q Y) (permitted_kind t other p Y) (numbers e).2
      by_kind e Other = flag_same (permitted_kind t other q Other) (permitted_kind t other p Other) (numbers e).3

      together : SameParts → activation_of t other q ≡ activation_of t other p
      together a =
          λ i.
          value_number (a.value i) + 4 * cond (a.kinds X i) 1 0 + 8 * cond (a.kinds Y i) 1 0
          + 16 * cond (a.kinds Other i) 1 0

-- ---- over continuations

-- for every template, number of declared steps, x and y
module _ (steps : ℕ) (t : Template) (x y : Test) (other : Bool) (r : RuleAmong (λ k. k < steps) t x y other) where
  abbrev Satisfies : List ℕ → Type 0
  Satisfies = Meaning t x y

  abbrev standing_of : List ℕ → ℕ
  standing_of = standing t x y 0

  -- a run has value 3 exactly when its standing is broken
  pub violated_exactly : (s : List ℕ)
      → Decides (broken t (standing_of s)) (HasValue steps Satisfies s PermanentlyViolated)
  violated_exactly s =
      decides_iff (λ n. (subst (λ (u : List ℕ). ¬ Satisfies u) (append-nil s) (n [] tt), n), λ h. h.1)
      (broken_means t x y s r.rule)

  -- a declared step is permitted exactly when its kind is in the standing
  pub permitted_exactly : (s : List ℕ) (w : ℕ) → w < steps
      → Decides (permitted_kind t other (standing_of s) (kind_of t x y w)) (Permitted steps Satisfies s w)
  unfolding permitted_kind
  permitted_exactly s w d =
      decides_iff (λ h. record { declared = d; not_violated = h.1 }, λ h. (declared, h.not_violated))
      (decides_and (decides_test (declared_kind t other (kind_of t x y w))) (decides_not violated))
    where
      declared : T (declared_kind t other (kind_of t x y w))
      declared = kind_declared t x y other r w d

      violated : Decides (broken t (next t (standing_of s) (kind_of t x y w)))
          (HasValue steps Satisfies (s ++ (w ∷ [])) PermanentlyViolated)
      violated = rw (← standing_append t x y s (w ∷ []) 0) (violated_exactly (s ++ (w ∷ [])))

  abbrev value_after : List ℕ → Value
  value_after s = value_of t other (standing_of s)

  abbrev permits : List ℕ → Kind → Bool
  permits s = permitted_kind t other (standing_of s)

  has_value : (s : List ℕ) → HasValue steps Satisfies s (value_after s)
  has_value s = value_holds steps t x y other r s

  -- what is read alike holds alike
  value_too : (s u : List ℕ) → value_after s ≡ value_after u → (v : Value) → HasValue steps Satisfies s v
      → HasValue steps Satisfies u v
  value_too s u e v h =
      let f = value_only steps Satisfies s v (value_after s) h (has_value s) ∙ e in
      subst (HasValue steps Satisfies u) (sym f) (has_value u)

  permitted_too : (s u : List ℕ) → ((k : Kind) → permits s k ≡ permits u k) → (w : ℕ) → Permitted steps Satisfies s w
      → Permitted steps Satisfies u w
  permitted_too s u e w h =
      let d = h.declared in
      (permitted_exactly u w d).sound (subst T (e (kind_of t x y w)) ((permitted_exactly s w d).complete h))

  -- two runs
  module _ (s u : List ℕ) where
    same : SameParts t other (standing_of s) (standing_of u) → SameActivation steps Satisfies s u
    same a =
        record {
          value = λ v. (value_too s u a.value v, value_too u s (sym a.value) v);
          permitted = λ w. (permitted_too s u a.kinds w, permitted_too u s (λ k. sym (a.kinds k)) w);
        }

    same_parts : SameActivation steps Satisfies s u → SameParts t other (standing_of s) (standing_of u)
    unfolding permitted_kind
    same_parts a =
        record {
          value = value_only steps Satisfies u (value_after s) (value_after u) ((a.value (value_after s)).0 (has_value s))
              (has_value u);
          kinds = λ k. by_declared k (declared_kind t other k) refl;
        }
      where
        -- a step of a declared kind is permitted after both or after neither; no other kind is
        by_declared : (k : Kind) (b : Bool) → declared_kind t other k ≡ b → permits s k ≡ permits u k
        by_declared k true e =
            let z = step_of t x y other r k (subst T (sym e) tt) in
            let w = z.0 in
            subst (λ (k : Kind). permits s k ≡ permits u k) z.2
            (decides_one (permits s (kind_of t x y w)) (permits u (kind_of t x y w))
            (decides_iff (a.permitted w) (permitted_exactly s w z.1)) (permitted_exactly u w z.1))
        by_declared k false e = rw e

    -- the numbers are equal exactly when the value and the set of permitted steps are
    pub activation_exactly : (activation_of t other (standing_of s) ≡ activation_of t other (standing_of u))
        ↔ SameActivation steps Satisfies s u
    activation_exactly =
        let e = parts_exactly t other (standing_of s) (standing_of u) in
        (λ q. same (e.0 q), λ a. e.1 (same_parts a))

    -- of a kind that is permitted after one run alone some step is so
    alone : (k : Kind) → ¬ (permits s k ≡ permits u k) → ActivationDiffers steps Satisfies s u
    unfolding permitted_kind
    alone k n = go (permits s k) (permits u k) refl refl
      where
        step : (v : List ℕ) → permits v k ≡ true → (w : ℕ) × (w < steps) × (kind_of t x y w ≡ k)
        step v e =
            step_of t x y other r k
            (and_left (declared_kind t other k) (not (broken t (next t (standing_of v) k))) (subst T (sym e) tt))

        go : (a b : Bool) → permits s k ≡ a → permits u k ≡ b → ActivationDiffers steps Satisfies s u
        go true true e f = absurd (n (e ∙ sym f))
        go true false e f =
            let z = step s e in
            first_permits z.0 (holds (permitted_exactly s z.0 z.1) (ap (permits s) z.2 ∙ e))
            (holds_not (permitted_exactly u z.0 z.1) (ap (permits u) z.2 ∙ f))
        go false true e f =
            let z = step u f in
            second_permits z.0 (holds_not (permitted_exactly s z.0 z.1) (ap (permits s) z.2 ∙ e))
            (holds (permitted_exactly u z.0 z.1) (ap (permits u) z.2 ∙ f))
        go false false e f = absurd (n (e ∙ sym f))

    other_parts : ¬ SameParts t other (standing_of s) (standing_of u) → ActivationDiffers steps Satisfies s u
    other_parts n =
        dite (ℕ_discrete (value_number (value_after s)) (value_number (value_after u)))
        (λ e. let v = one_number (value_after s) (value_after u) e in
        in_kind X (λ a. in_kind Y (λ b. in_kind Other (λ c. absurd (n (record { value = v; kinds = all a b c }))))))
        (λ d. value_differs (value_after s) (value_after u) (has_value s) (has_value u) (λ e. d (ap value_number e)))
      where
        in_kind : (k : Kind) → (permits s k ≡ permits u k → ActivationDiffers steps Satisfies s u)
            → ActivationDiffers steps Satisfies s u
        in_kind k later = dite (bool_discrete (permits s k) (permits u k)) later (alone k)

        all : permits s X ≡ permits u X → permits s Y ≡ permits u Y → permits s Other ≡ permits u Other → (k : Kind)
            → permits s k ≡ permits u k
        all a b c X = a
        all a b c Y = b
        all a b c Other = c

    not_same : ActivationDiffers steps Satisfies s u → ¬ SameActivation steps Satisfies s u
    not_same (value_differs v w h k n) a = n (value_only steps Satisfies u v w ((a.value v).0 h) k)
    not_same (first_permits w h n) a = n ((a.permitted w).0 h)
    not_same (second_permits w n h) a = n ((a.permitted w).1 h)

    -- the value or the set of permitted steps differs exactly when these are not the same
    pub differs_exactly : ActivationDiffers steps Satisfies s u ↔ (¬ SameActivation steps Satisfies s u)
    differs_exactly = (not_same, λ n. other_parts (λ a. n (same a)))

    -- and that is where the numbers differ
    pub decides_differs : Decides (changes_activation t other (standing_of s) (standing_of u))
        (ActivationDiffers steps Satisfies s u)
    unfolding changes_activation
    decides_differs =
        let q = activation_of t other (standing_of s) in
        let p = activation_of t other (standing_of u) in
        decides_iff (differs_exactly.1, differs_exactly.0)
        (decides_not (decides_iff activation_exactly (decides_equal q p)))
