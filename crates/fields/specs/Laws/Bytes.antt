-- Laws of the comparison of two lists of bytes: it decides equality, is what `==` of two slices computes, and goes on
-- past equal first bytes.
use Rattle.std.specs.Prelude.{◌≡◌, refl, List, [], ◌∷◌, Bool, true, false, ◌&&◌, ℕ, suc, ◌+◌, ◌≤◌, ◌<◌, length, get_or}
use Rattle.std.specs.Prelude.{drop, eqb}
use Rattle.std.specs.Cmp.Lexicographic.{pointwise}
use Rattle.std.proofs.Common.{ap, ap₂, arith, add-one, drop_of_length-le, drop-cons, eq-eqb, ne_eqb}
use Rattle.lists.specs.Decides.{Decides}
use Rattle.lists.specs.Laws.Decides.{decides_iff, decides_and, decides_equal}
use Rattle.fields.specs.Bytes.{same}

pub decides_same_bytes : (a b : List ℕ) → Decides (same a b) (a ≡ b)
decides_same_bytes [] [] = record { sound = λ t. refl; complete = λ e. tt }
decides_same_bytes [] (y ∷ b) = record {
  sound = λ t. absurd t;
  complete = λ e. let z : ◌≡◌ {A = ℕ} 0 1 = cc in
      omega arith;
}
decides_same_bytes (x ∷ a) [] = record {
  sound = λ t. absurd t;
  complete = λ e. let z : ◌≡◌ {A = ℕ} 0 1 = cc in
      omega arith;
}
decides_same_bytes (x ∷ a) (y ∷ b) = decides_iff (joined, parted)
    (decides_and (decides_equal x y) (decides_same_bytes a b))
  where
    joined : (x ≡ y) × (a ≡ b) → x ∷ a ≡ y ∷ b
    joined h = ap₂ (λ (z : ℕ) (l : List ℕ). z ∷ l) h.0 h.1

    parted : x ∷ a ≡ y ∷ b → (x ≡ y) × (a ≡ b)
    parted e = (cc, cc)

pub same_length : (a b : List ℕ) → (length a ≡ length b → ⊥) → same a b ≡ false
same_length [] [] h = absurd (h refl)
same_length [] (y ∷ b) h = refl
same_length (x ∷ a) [] h = refl
same_length (x ∷ a) (y ∷ b) h = rw (same_length a b (λ e. h (ap suc e))) (and_no (eqb x y))
  where
    and_no : (t : Bool) → (t && false) ≡ false
    and_no true = refl
    and_no false = refl

module _ (a b : List ℕ) (i : ℕ) where
  pub same_step : i < length a → i < length b → get_or a i 0 ≡ get_or b i 0 → same (drop i a) (drop i b)
      ≡ same (drop (i + 1) a) (drop (i + 1) b)
  same_step h k e = rw (add-one, drop-cons a i 0, drop-cons b i 0, eq-eqb _ _ e)

  pub same_stop : i < length a → i < length b → (get_or a i 0 ≡ get_or b i 0 → ⊥) → same (drop i a) (drop i b) ≡ false
  same_stop h k e = rw (drop-cons a i 0, drop-cons b i 0, ne_eqb _ _ e)

  pub same_end : length a ≤ i → length b ≤ i → same (drop i a) (drop i b) ≡ true
  same_end h k = rw (drop_of_length-le a h, drop_of_length-le b k)

pub same_pointwise : (a b : List ℕ) → pointwise eqb a b ≡ same a b
same_pointwise [] [] = refl
same_pointwise [] (y ∷ b) = refl
same_pointwise (x ∷ a) [] = refl
same_pointwise (x ∷ a) (y ∷ b) = ap (λ (t : Bool). eqb x y && t) (same_pointwise a b)
