-- To be permuted is an equivalence, and keeps what a function makes of the members and how often a test is passed. Two
-- permuted lists are equal if both are sorted by an order in which no two different members go before each other
-- (`sorted_same`). A list of the numbers 1 to k, each once, is these permuted (`ranked_permuted`).
use Rattle.std.specs.Prelude.{Bool, true, ◌⊎◌, ◌≡◌, refl, ℕ, zero, suc, ◌+◌, ◌-◌, ◌<◌, length}
use mathlib.Core.List.{List, [], ◌∷◌, ◌++◌, map, append_assoc, head-eq_of_cons-eq, tail-eq_of_cons-eq}
use Rattle.std.proofs.Common.{inl, inr, ⊎_elim, sym, ap, ap₂, ◌∙◌, subst, le_of_suc-le-suc, not-suc-le-zero, arith}
use Rattle.std.proofs.Common.{length-append}
use Rattle.lists.specs.Elements.{listed}
use Rattle.lists.specs.Laws.Elements.{map_append}
use Rattle.lists.specs.Laws.Members.{all_member, append_member, same_mid, distinct_less}
use Rattle.lists.specs.Laws.Parts.{filter_append}
use Rattle.lists.specs.Members.{All, Member, Distinct, SameMembers}
use Rattle.lists.specs.Parts.{filter}
use Rattle.lists.specs.Permuted.{Permuted, one_to}
use Rattle.lists.specs.Sorted.{Sorted, RankedList}

module _ {A : Type 0} where
  pub permuted_refl : (l : List A) → Permuted l l
  permuted_refl [] = refl
  permuted_refl (a ∷ l) = ([], l, refl, permuted_refl l)

  -- one more in the midst of the one, and at the front of the other
  permuted_more : (u : List A) (a : A) (v m : List A) → Permuted (u ++ v) m → Permuted (u ++ (a ∷ v)) (a ∷ m)
  permuted_more [] a v m h = ([], m, refl, h)
  permuted_more (x ∷ u) a v m h =
      (a ∷ h.0, h.1, ap (λ (t : List A). a ∷ t) h.2, permuted_more u a v (h.0 ++ h.1) h.3)

  pub permuted_sym : (l m : List A) → Permuted l m → Permuted m l
  permuted_sym [] m h = subst (λ (t : List A). Permuted t []) (sym h) refl
  permuted_sym (a ∷ l) m h =
      subst (λ (t : List A). Permuted t (a ∷ l)) (sym h.2)
      (permuted_more h.0 a h.1 l (permuted_sym l (h.0 ++ h.1) h.3))

  permuted_length : (l m : List A) → Permuted l m → length l ≡ length m
  permuted_length [] m h = ap length (sym h)
  permuted_length (a ∷ l) m h =
      omega (
        arith,
        permuted_length l (h.0 ++ h.1) h.3,
        ap length h.2,
        length-append h.0 h.1,
        length-append h.0 (a ∷ h.1),
      )

  -- a, between b and c in u and v joined, stands in u or in v
  abbrev InOne : (a : A) (u v b c : List A) → Type 0
  InOne a u v b c =
      ((w : List A) × (u ≡ b ++ (a ∷ w)) × (c ≡ w ++ v)) ⊎ ((w : List A) × (b ≡ u ++ w) × (v ≡ w ++ (a ∷ c)))

  in_one : (a : A) (u v b c : List A) → u ++ v ≡ b ++ (a ∷ c) → InOne a u v b c
  in_one a [] v b c e = inr (b, refl, e)
  in_one a (x ∷ u) v [] c e = inl (u, ap (λ (y : A). y ∷ u) (head-eq_of_cons-eq e), sym (tail-eq_of_cons-eq e))
  in_one a (x ∷ u) v (y ∷ b) c e = go (in_one a u v b c (tail-eq_of_cons-eq e))
    where
      go : InOne a u v b c → InOne a (x ∷ u) v (y ∷ b) c
      go (inl r) = inl (r.0, ap₂ (λ (z : A) (t : List A). z ∷ t) (head-eq_of_cons-eq e) r.1, r.2)
      go (inr r) = inr (r.0, ap₂ (λ (z : A) (t : List A). z ∷ t) (sym (head-eq_of_cons-eq e)) r.1, r.2)

  -- with a taken out, m is l permuted
  abbrev Without : (a : A) (l m : List A) → Type 0
  Without a l m = (u : List A) × (v : List A) × (m ≡ u ++ (a ∷ v)) × Permuted l (u ++ v)

  -- x stands between u and v, and a in u and v joined
  without_beside : (a x : A) (l u v b c : List A) → Permuted l (b ++ c) → InOne a u v b c
      → Without a (x ∷ l) (u ++ (x ∷ v))
  without_beside a x l u v b c h (inl r) =
      let w = r.0 in (
        b,
        w ++ (x ∷ v),
        ap (λ (t : List A). t ++ (x ∷ v)) r.1 ∙ append_assoc b (a ∷ w) (x ∷ v),
        (
          b ++ w,
          v,
          sym (append_assoc b w (x ∷ v)),
          subst (λ (t : List A). Permuted l t) (ap (λ (t : List A). b ++ t) r.2 ∙ sym (append_assoc b w v)) h,
        ),
      )
  without_beside a x l u v b c h (inr r) =
      let w = r.0 in (
        u ++ (x ∷ w),
        c,
        ap (λ (t : List A). u ++ (x ∷ t)) r.2 ∙ sym (append_assoc u (x ∷ w) (a ∷ c)),
        (
          u,
          w ++ c,
          append_assoc u (x ∷ w) c,
          subst (λ (t : List A). Permuted l t) (ap (λ (t : List A). t ++ c) r.1 ∙ append_assoc u w c) h,
        ),
      )

  without_mid : (b : List A) (a : A) (c m : List A) → Permuted (b ++ (a ∷ c)) m → Without a (b ++ c) m
  without_mid [] a c m h = h
  without_mid (x ∷ b) a c m h =
      let r = without_mid b a c (h.0 ++ h.1) h.3 in
      subst (λ (t : List A). Without a (x ∷ (b ++ c)) t) (sym h.2)
      (without_beside a x (b ++ c) h.0 h.1 r.0 r.1 r.3
      (in_one a h.0 h.1 r.0 r.1 r.2))

  pub permuted_trans : (l m n : List A) → Permuted l m → Permuted m n → Permuted l n
  permuted_trans [] m n h k = subst (λ (t : List A). Permuted t n) h k
  permuted_trans (a ∷ l) m n h k =
      let r = without_mid h.0 a h.1 n (subst (λ (t : List A). Permuted t n) h.2 k) in
      (r.0, r.1, r.2, permuted_trans l (h.0 ++ h.1) (r.0 ++ r.1) h.3 r.3)

  pub permuted_member : (l m : List A) → Permuted l m → (a : A) → Member a l → Member a m
  permuted_member [] m h a i = absurd i
  permuted_member (b ∷ l) m h a (inl e) =
      subst (λ (t : List A). Member a t) (sym h.2) (append_member h.0 (b ∷ h.1) a (inl e))
  permuted_member (b ∷ l) m h a (inr i) =
      subst (λ (t : List A). Member a t) (sym h.2)
      ((same_mid h.0 b h.1 a).1 (inr (permuted_member l (h.0 ++ h.1) h.3 a i)))

  -- of two with the same first member, the rests
  permuted_rest : (a : A) (l m : List A) → Permuted (a ∷ l) (a ∷ m) → Permuted l m
  permuted_rest a l m h = go h.0 h.2 h.3
    where
      go : (u : List A) → a ∷ m ≡ u ++ (a ∷ h.1) → Permuted l (u ++ h.1) → Permuted l m
      go [] e p = subst (λ (t : List A). Permuted l t) (sym (tail-eq_of_cons-eq e)) p
      go (x ∷ u) e p =
          let same : x ≡ a = sym (head-eq_of_cons-eq e) in
          permuted_trans l (a ∷ (u ++ h.1)) m (subst (λ (y : A). Permuted l (y ∷ (u ++ h.1))) same p)
          (u, h.1, tail-eq_of_cons-eq e, permuted_refl (u ++ h.1))

  -- ---- sorted lists

  module _ (order : A → A → Bool) (P : A → Type 0)
      (one : (a b : A) → P a → P b → order a b ≡ true → order b a ≡ true → a ≡ b) where
    first_same : (x y : A) (l m : List A) → All P (x ∷ l) → All P (y ∷ m) → Sorted order (x ∷ l) → Sorted order (y ∷ m)
        → Member x (y ∷ m) → Member y (x ∷ l) → x ≡ y
    first_same x y l m g h s t (inl e) j = e
    first_same x y l m g h s t (inr i) (inl e) = sym e
    first_same x y l m g h s t (inr i) (inr j) =
        one x y g.0 h.0 (all_member (λ b. order x b ≡ true) l y s.0 j)
        (all_member (λ b. order y b ≡ true) m x t.0 i)

    pub sorted_same : (l m : List A) → All P l → All P m → Permuted l m → Sorted order l → Sorted order m → l ≡ m
    sorted_same [] m g h p s t = sym p
    sorted_same (x ∷ l) [] g h p s t = let z = permuted_length (x ∷ l) [] p in absurd (omega arith)
    sorted_same (x ∷ l) (y ∷ m) g h p s t =
        let e =
        first_same x y l m g h s t (permuted_member (x ∷ l) (y ∷ m) p x (inl refl))
        (permuted_member (y ∷ m) (x ∷ l) (permuted_sym (x ∷ l) (y ∷ m) p) y (inl refl))
        in
        ap₂ (λ (a : A) (r : List A). a ∷ r) e
        (sorted_same l m g.1 h.1
        (permuted_rest y l m (subst (λ (a : A). Permuted (a ∷ l) (y ∷ m)) e p)) s.1 t.1)

  -- ---- lists in which each member stands once

  split : (m : List A) (a : A) → Member a m → (u : List A) × (v : List A) × (m ≡ u ++ (a ∷ v))
  split [] a i = absurd i
  split (b ∷ m) a (inl e) = ([], m, ap (λ (x : A). x ∷ m) (sym e))
  split (b ∷ m) a (inr i) = let r = split m a i in (b ∷ r.0, r.1, ap (λ (t : List A). b ∷ t) r.2)

  permuted_distinct : (l m : List A) → Distinct l → Distinct m → SameMembers l m → Permuted l m
  permuted_distinct [] [] d e s = refl
  permuted_distinct [] (b ∷ m) d e s = absurd ((s b).1 (inl refl))
  permuted_distinct (a ∷ l) m d e s =
      let r = split m a ((s a).0 (inl refl)) in
      let u = r.0 in
      let v = r.1 in
      let parts = distinct_less u a v (subst Distinct r.2 e) in
      let same : SameMembers l (u ++ v) = λ b. (to u v r.2 b, from u v r.2 parts.0 b) in
      (u, v, r.2, permuted_distinct l (u ++ v) d.1 parts.1 same)
    where
      to : (u v : List A) → m ≡ u ++ (a ∷ v) → (b : A) → Member b l → Member b (u ++ v)
      to u v q b i =
          ⊎_elim (λ (z : b ≡ a). absurd (d.0 (subst (λ (x : A). Member x l) z i))) (λ j. j)
          ((same_mid u a v b).0 (subst (λ (t : List A). Member b t) q ((s b).0 (inr i))))

      from : (u v : List A) → m ≡ u ++ (a ∷ v) → ¬ Member a (u ++ v) → (b : A) → Member b (u ++ v) → Member b l
      from u v q n b i =
          ⊎_elim (λ (z : b ≡ a). absurd (n (subst (λ (x : A). Member x (u ++ v)) z i))) (λ j. j)
          ((s b).1 (subst (λ (t : List A). Member b t) (sym q) ((same_mid u a v b).1 (inr i))))

  -- ---- the members of a list that a function gives

  listed_member : (n : ℕ) (f : ℕ → A) (a : A) → Member a (listed n f) → (k : ℕ) × (k < n) × (a ≡ f k)
  listed_member zero f a i = absurd i
  listed_member (suc n) f a (inl e) = (0, omega arith, e)
  listed_member (suc n) f a (inr i) =
      let r = listed_member n (λ i. f (suc i)) a i in (suc r.0, omega (arith, r.1), r.2)

  member_listed : (n : ℕ) (f : ℕ → A) (k : ℕ) → k < n → Member (f k) (listed n f)
  member_listed zero f k h = absurd (not-suc-le-zero h)
  member_listed (suc n) f zero h = inl refl
  member_listed (suc n) f (suc k) h = inr (member_listed n (λ i. f (suc i)) k (le_of_suc-le-suc h))

  distinct_listed : (n : ℕ) (f : ℕ → A) → ((i j : ℕ) → f i ≡ f j → i ≡ j) → Distinct (listed n f)
  distinct_listed zero f h = tt
  distinct_listed (suc n) f h = (
    λ i.
        let r = listed_member n (λ k. f (suc k)) (f zero) i in
        let e = h zero (suc r.0) r.2 in
        omega arith,
    distinct_listed n (λ k. f (suc k)) (λ i j e. let q = h (suc i) (suc j) e in omega arith),
  )

pub ranked_permuted : {before : ℕ → ℕ → Bool} {k : ℕ} {l : List ℕ} → RankedList before k l → Permuted l (one_to k)
ranked_permuted {before} {k} {l} r =
    permuted_distinct l (one_to k) r.distinct (distinct_listed k suc (λ i j e. omega arith))
    (λ n. (
      λ i.
          let m = (r.members n).0 i in
          let e : suc (n - 1) ≡ n = omega (arith, m.0) in
          subst (λ (x : ℕ). Member x (one_to k)) e (member_listed k suc (n - 1) (omega (arith, m.0, m.1))),
      λ i. let m = listed_member k suc n i in (r.members n).1 (omega (arith, m.2), omega (arith, m.1, m.2)),
    ))

-- ---- what a function makes of the members, and which pass a test

pub permuted_map : {A B : Type 0} (f : A → B) (l m : List A) → Permuted l m → Permuted (map f l) (map f m)
permuted_map f [] m h = ap (map f) h
permuted_map {A} {B} f (a ∷ l) m h = (
  map f h.0,
  map f h.1,
  ap (map f) h.2 ∙ map_append f h.0 (a ∷ h.1),
  subst (λ (t : List B). Permuted (map f l) t) (map_append f h.0 h.1) (permuted_map f l (h.0 ++ h.1) h.3),
)

-- as many members of the one pass a test as of the other
pub permuted_count : {A : Type 0} (p : A → Bool) (l m : List A) → Permuted l m
    → length (filter p l) ≡ length (filter p m)
permuted_count p [] m h = ap (λ t. length (filter p t)) (sym h)
permuted_count {A} p (a ∷ l) m h =
    omega (
      arith,
      passed (a ∷ []) l,
      permuted_count p l (h.0 ++ h.1) h.3,
      passed h.0 h.1,
      ap (λ (t : List A). length (filter p t)) h.2,
      passed h.0 (a ∷ h.1),
      passed (a ∷ []) h.1,
    )
  where
    passed : (u v : List A) → length (filter p (u ++ v)) ≡ length (filter p u) + length (filter p v)
    passed u v = ap length (filter_append p u v) ∙ length-append (filter p u) (filter p v)
