-- A list without equal members is no longer than a list that has them all; so some number is not among fewer than there
-- are.
use Rattle.std.specs.Prelude.{◌≡◌, refl, List, [], ◌∷◌, ◌⊎◌, ℕ, zero, suc, ◌≤◌, ◌<◌, length}
use Rattle.std.proofs.Common.{sym, ap, ◌∙◌, inl, inr, ⊎_elim, zero-le, arith}
use Rattle.lists.specs.Members.{All, Member, Distinct}
use Rattle.lists.specs.Laws.Members.{all_map, all_member, member_or_not}

module _ {A : Type 0} (x : A) where
  -- the list without the member x
  abbrev without : (l : List A) → Member x l → List A
  without [] m = absurd m
  without (b ∷ l) (inl e) = l
  without (b ∷ l) (inr m) = b ∷ without l m

  length_without : (l : List A) (m : Member x l) → length l ≡ suc (length (without l m))
  length_without [] m = absurd m
  length_without (b ∷ l) (inl e) = refl
  length_without (b ∷ l) (inr m) = ap suc (length_without l m)

  member_without : (l : List A) (m : Member x l) (y : A) → ¬ (x ≡ y) → Member y l → Member y (without l m)
  member_without [] m y n h = absurd m
  member_without (b ∷ l) (inl e) y n (inl f) = absurd (n (e ∙ sym f))
  member_without (b ∷ l) (inl e) y n (inr h) = h
  member_without (b ∷ l) (inr m) y n (inl f) = inl f
  member_without (b ∷ l) (inr m) y n (inr h) = inr (member_without l m y n h)

  all_without : (l : List A) (m : Member x l) (ys : List A) → ¬ Member x ys → All (λ y. Member y l) ys
      → All (λ y. Member y (without l m)) ys
  all_without l m [] n h = tt
  all_without l m (y ∷ ys) n h = (
    member_without l m y (λ e. n (inl e)) h.0,
    all_without l m ys (λ k. n (inr k)) h.1,
  )

pub distinct_fits : {A : Type 0} (xs ys : List A) → Distinct xs → All (λ x. Member x ys) xs → length xs ≤ length ys
distinct_fits [] ys d h = zero-le
distinct_fits (x ∷ xs) ys d h =
    let m = h.0 in
    let few = distinct_fits xs (without x ys m) d.1 (all_without x ys m xs d.0 h.1) in
    omega (arith, length_without x ys m)

-- the numbers below n
abbrev down_from : ℕ → List ℕ
down_from zero = []
down_from (suc n) = n ∷ down_from n

down_low : (n : ℕ) → All (λ k. k < n) (down_from n)
down_low zero = tt
down_low (suc n) = (omega arith, all_map (λ k h. omega arith) (down_from n) (down_low n))

down_distinct : (n : ℕ) → Distinct (down_from n)
down_distinct zero = tt
down_distinct (suc n) = (λ m. omega (arith, all_member (λ k. k < n) (down_from n) n (down_low n) m), down_distinct n)

length_down : (n : ℕ) → length (down_from n) ≡ n
length_down zero = refl
length_down (suc n) = ap suc (length_down n)

-- a number below n that is not a member of a list with fewer than n
pub fresh : (l : List ℕ) (n : ℕ) → length l < n → (k : ℕ) × (k < n) × ¬ Member k l
fresh l n few =
    ⊎_elim (λ a. absurd (omega (arith, distinct_fits (down_from n) l (down_distinct n) a, length_down n))) (λ r. r)
    (among n)
  where
    among : (m : ℕ) → All (λ k. Member k l) (down_from m) ⊎ ((k : ℕ) × (k < m) × ¬ Member k l)
    among zero = inl tt
    among (suc m) = go (member_or_not m l) (among m)
      where
        go : Dec (Member m l) → All (λ k. Member k l) (down_from m) ⊎ ((k : ℕ) × (k < m) × ¬ Member k l)
            → All (λ k. Member k l) (down_from (suc m)) ⊎ ((k : ℕ) × (k < suc m) × ¬ Member k l)
        go (no f) r = inr (m, omega arith, f)
        go (yes h) (inl a) = inl (h, a)
        go (yes h) (inr r) = inr (r.0, omega arith, r.2)
