-- The tests on words of kinds decide the statements on sequences.
use Rattle.std.specs.Prelude.{◌≡◌, refl, List, [], ◌∷◌, ◌++◌, map, Bool, true, cond, ◌⊎◌, ℕ, ◌+◌, T}
use Rattle.std.proofs.Common.{ap, ap₂, inl, inr, arith}
use Rattle.lists.specs.Decides.{Decides}
use Rattle.lists.specs.Laws.Decides.{decides_test, decides_and, decides_or, decides_implies, decides_iff}
use Rattle.template.specs.declared.Kind.{Kind}
use Rattle.template.specs.Sequence.{Test, Each, Some, Occurs, First, Last, times}
use Rattle.template.specs.Laws.Word.{is_empty, some, each, occurs, first, last}

-- the empty sequence has no step
pub no_step : (u v : List ℕ) (a : ℕ) → [] ≡ u ++ (a ∷ v) → ⊥
no_step [] v a e = let n : ◌≡◌ {A = ℕ} 0 1 = cc in omega arith
no_step (z ∷ u) v a e = let n : ◌≡◌ {A = ℕ} 0 1 = cc in omega arith

-- kind gives a step's kind, and c tells the kind of the steps that pass a from the others
pub record TellsKind (kind : ℕ → Kind) (c : Kind → Bool) (a : Test) : Type 0 where
  pub tells : (z : ℕ) → c (kind z) ≡ a z

module _ {kind : ℕ → Kind} {c : Kind → Bool} {a : Test} (ca : TellsKind kind c a) where
  decides_step : (z : ℕ) → Decides (c (kind z)) (T (a z))
  decides_step z = rw (ca.tells z) (decides_test (a z))

  pub decides_some : (s : List ℕ) (p : List Kind → List Kind → Bool) {P : List ℕ → List ℕ → Type 0}
      → ((u v : List ℕ) → Decides (p (map kind u) (map kind v)) (P u v)) → Decides (some c (map kind s) p) (Some a s P)
  decides_some [] p i = record { sound = λ t. absurd t; complete = λ h. no_step h.1 h.2 h.0 h.4 }
  decides_some (z ∷ s) p {P} i =
      decides_iff (to, λ h. from h.0 h.1 h.2 h.3 h.4 h.5)
      (decides_or (decides_and (decides_step z) (i [] s))
      (decides_some s (λ u v. p (kind z ∷ u) v) (λ u v. i (z ∷ u) v)))
    where
      to : (T (a z) × P [] s) ⊎ Some a s (λ u v. P (z ∷ u) v) → Some a (z ∷ s) P
      to (inl h) = (z, [], s, h.0, refl, h.1)
      to (inr h) = (h.0, z ∷ h.1, h.2, h.3, ap (λ (l : List ℕ). z ∷ l) h.4, h.5)

      from : (b : ℕ) (u v : List ℕ) → T (a b) → z ∷ s ≡ u ++ (b ∷ v) → P u v
          → (T (a z) × P [] s) ⊎ Some a s (λ u v. P (z ∷ u) v)
      from b [] v t e h = inl ((let q : z ≡ b = cc in rw q t), (let q : s ≡ v = cc in rw q h))
      from b (n ∷ u) v t e h = inr (b, u, v, t, cc, (let q : z ≡ n = cc in rw q h))

  pub decides_each : (s : List ℕ) (p : List Kind → List Kind → Bool) {P : List ℕ → List ℕ → Type 0}
      → ((u v : List ℕ) → Decides (p (map kind u) (map kind v)) (P u v)) → Decides (each c (map kind s) p) (Each a s P)
  decides_each [] p i = record { sound = λ t b u v h e. absurd (no_step u v b e); complete = λ h. tt }
  decides_each (z ∷ s) p {P} i =
      decides_iff (to, from)
      (decides_and (decides_implies (decides_step z) (i [] s))
      (decides_each s (λ u v. p (kind z ∷ u) v) (λ u v. i (z ∷ u) v)))
    where
      to : (T (a z) → P [] s) × Each a s (λ u v. P (z ∷ u) v) → Each a (z ∷ s) P
      to h b [] v t e = let q : s ≡ v = cc in let m : z ≡ b = cc in rw q at (h.0 (rw m t))
      to h b (n ∷ u) v t e = let q : z ≡ n = cc in rw q at (h.1 b u v t (cc))

      from : Each a (z ∷ s) P → (T (a z) → P [] s) × Each a s (λ u v. P (z ∷ u) v)
      from h = (λ t. h z [] s t refl, λ b u v t e. h b (z ∷ u) v t (ap (λ (l : List ℕ). z ∷ l) e))

  pub decides_occurs : (s : List ℕ) → Decides (occurs c (map kind s)) (Occurs a s)
  decides_occurs s = decides_some s (λ u v. true) (λ u v. decides_test true)

  pub decides_first : (s : List ℕ) → Decides (first c (map kind s)) (First a s)
  decides_first [] = record { sound = λ t. absurd t; complete = λ h. no_step [] h.1 h.0 h.3 }
  decides_first (z ∷ s) =
      decides_iff
      (λ t. (z, s, t, refl), λ h. let e : z ∷ s ≡ h.0 ∷ h.1 = h.3 in let q : z ≡ h.0 = cc in rw q h.2)
      (decides_step z)

  decides_empty : (s : List ℕ) → Decides (is_empty (map kind s)) (s ≡ [])
  decides_empty [] = record { sound = λ t. refl; complete = λ e. tt }
  decides_empty (z ∷ s) = record { sound = λ t. absurd t; complete = λ e. let n : ◌≡◌ {A = ℕ} 0 1 = cc in omega arith }

  pub decides_last : (s : List ℕ) → Decides (last c (map kind s)) (Last a s)
  decides_last [] = record { sound = λ t. absurd t; complete = λ h. no_step h.1 [] h.0 h.3 }
  decides_last (z ∷ s) =
      decides_iff (to, λ h. from h.0 h.1 h.2 h.3)
      (decides_or (decides_and (decides_step z) (decides_empty s)) (decides_last s))
    where
      to : (T (a z) × (s ≡ [])) ⊎ Last a s → Last a (z ∷ s)
      to (inl h) = (z, [], h.0, ap (λ (l : List ℕ). z ∷ l) h.1)
      to (inr h) = (h.0, z ∷ h.1, h.2, ap (λ (l : List ℕ). z ∷ l) h.3)

      from : (b : ℕ) (u : List ℕ) → T (a b) → z ∷ s ≡ u ++ (b ∷ []) → (T (a z) × (s ≡ [])) ⊎ Last a s
      from b [] t e = inl ((let q : z ≡ b = cc in rw q t), cc)
      from b (n ∷ u) t e = inr (b, u, t, cc)

  pub times_kinds : (s : List ℕ) → times c (map kind s) ≡ times a s
  times_kinds [] = refl
  times_kinds (z ∷ s) = ap₂ (λ (b : Bool) (n : ℕ). cond b 1 0 + n) (ca.tells z) (times_kinds s)
