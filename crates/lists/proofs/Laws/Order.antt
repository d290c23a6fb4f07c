-- The order of sequences is strict, and stays so where a number more is put at the end of both. So there is at most one
-- first of those of which something holds (`first_only`).
use Rattle.std.specs.Prelude.{List, [], ◌∷◌, ◌++◌, ◌↔◌, ◌≡◌, refl, ℕ, suc, ◌<◌, length}
use Rattle.std.proofs.Common.{inl, inr, sym, ap, ◌∙◌, subst, arith, length-append}
use Rattle.lists.specs.Order.{SmallerFirst, GoesBefore, NotAfter, IsFirst}

-- ---- a number more at the end

length_more : (s : List ℕ) (a : ℕ) → length (s ++ (a ∷ [])) ≡ suc (length s)
length_more s a = length-append s (a ∷ []) ∙ omega arith

smaller_more : (s t : List ℕ) (a b : ℕ) → SmallerFirst s t → SmallerFirst (s ++ (a ∷ [])) (t ++ (b ∷ []))
smaller_more [] t a b p = absurd p
smaller_more (x ∷ s) [] a b p = absurd p
smaller_more (x ∷ s) (y ∷ t) a b (inl l) = inl l
smaller_more (x ∷ s) (y ∷ t) a b (inr l) = inr (l.0, smaller_more s t a b l.1)

smaller_last : (s : List ℕ) (a b : ℕ) → a < b → SmallerFirst (s ++ (a ∷ [])) (s ++ (b ∷ []))
smaller_last [] a b l = inl l
smaller_last (x ∷ s) a b l = inr (refl, smaller_last s a b l)

pub before_more : (s t : List ℕ) (a b : ℕ) → GoesBefore s t → GoesBefore (s ++ (a ∷ [])) (t ++ (b ∷ []))
before_more s t a b (inl l) = inl (omega (arith, length_more s a, length_more t b))
before_more s t a b (inr l) =
    inr (omega (arith, length_more s a, length_more t b, l.0), smaller_more s t a b l.1)

pub before_last : (s : List ℕ) (a b : ℕ) → a < b → GoesBefore (s ++ (a ∷ [])) (s ++ (b ∷ []))
before_last s a b l = inr (length_more s a ∙ sym (length_more s b), smaller_last s a b l)

pub not_after_more : (s t : List ℕ) (c : ℕ) → NotAfter s t → NotAfter (s ++ (c ∷ [])) (t ++ (c ∷ []))
not_after_more s t c (inl e) = inl (ap (λ (x : List ℕ). x ++ (c ∷ [])) e)
not_after_more s t c (inr l) = inr (before_more s t c c l)

-- the empty one goes before every other
pub before_longer : (t : List ℕ) (c : ℕ) → GoesBefore [] (t ++ (c ∷ []))
before_longer t c = inl (omega (arith, length_more t c))

-- ---- one after another

smaller_trans : (s t u : List ℕ) → SmallerFirst s t → SmallerFirst t u → SmallerFirst s u
smaller_trans [] t u p q = p
smaller_trans (a ∷ s) [] u p q = absurd p
smaller_trans (a ∷ s) (b ∷ t) [] p q = q
smaller_trans (a ∷ s) (b ∷ t) (c ∷ u) (inl l) (inl m) = inl (omega arith)
smaller_trans (a ∷ s) (b ∷ t) (c ∷ u) (inl l) (inr m) = inl (omega (arith, m.0))
smaller_trans (a ∷ s) (b ∷ t) (c ∷ u) (inr l) (inl m) = inl (omega (arith, l.0))
smaller_trans (a ∷ s) (b ∷ t) (c ∷ u) (inr l) (inr m) = inr (l.0 ∙ m.0, smaller_trans s t u l.1 m.1)

before_trans : (s t u : List ℕ) → GoesBefore s t → GoesBefore t u → GoesBefore s u
before_trans s t u (inl l) (inl m) = inl (omega arith)
before_trans s t u (inl l) (inr m) = inl (omega (arith, m.0))
before_trans s t u (inr l) (inl m) = inl (omega (arith, l.0))
before_trans s t u (inr l) (inr m) = inr (l.0 ∙ m.0, smaller_trans s t u l.1 m.1)

pub not_after_trans : (s t u : List ℕ) → NotAfter s t → NotAfter t u → NotAfter s u
not_after_trans s t u (inl e) q = subst (λ (x : List ℕ). NotAfter x u) (sym e) q
not_after_trans s t u (inr l) (inl e) = inr (subst (GoesBefore s) e l)
not_after_trans s t u (inr l) (inr m) = inr (before_trans s t u l m)

-- ---- strict

smaller_other : (s : List ℕ) → ¬ SmallerFirst s s
smaller_other [] p = p
smaller_other (a ∷ s) (inl l) = omega arith
smaller_other (a ∷ s) (inr l) = smaller_other s l.1

before_other : (s : List ℕ) → ¬ GoesBefore s s
before_other s (inl l) = omega arith
before_other s (inr l) = smaller_other s l.1

-- there is at most one first
pub first_only : (P : List ℕ → Type 0) (s t : List ℕ) → IsFirst P s → IsFirst P t → s ≡ t
first_only P s t f g = go (f.others t g.it) (g.others s f.it)
  where
    go : NotAfter s t → NotAfter t s → s ≡ t
    go (inl e) q = e
    go (inr l) (inl e) = sym e
    go (inr l) (inr m) = absurd (before_other s (before_trans s t s l m))

-- where P and Q hold of the same, the first of the one is that of the other
pub first_same : (P Q : List ℕ → Type 0) → ((t : List ℕ) → P t ↔ Q t) → (s : List ℕ) → IsFirst P s → IsFirst Q s
first_same P Q same s f =
    record { it = (same s).0 f.it; others = λ t q. f.others t ((same t).1 q) }
