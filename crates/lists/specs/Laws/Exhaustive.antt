-- Tests of all cases at once: the law that each single case passes, and what one turn of a loop over the cases does.
use Rattle.std.specs.Prelude.{Bool, true, false, ◌&&◌, ◌||◌, ◌≡◌, refl, List, [], ◌∷◌, ◌++◌, ◌⊎◌, ℕ, zero, suc, ◌+◌}
use Rattle.std.specs.Prelude.{◌≤◌, ◌<◌, T, length, get_or, drop}
use Rattle.std.proofs.Math.Bool.{and_assoc, and-true, or_assoc, or-false}
use Rattle.std.proofs.Common.{true≢false, sym, ap, ap₂, ◌∙◌, subst, inl, inr, ⊎_elim, le_of_suc-le-suc, not-suc-le-zero}
use Rattle.std.proofs.Common.{arith, add-one, drop_of_length-le, drop-cons}
use Rattle.lists.specs.Laws.Decides.{decides_test, decides_and, decides_or, decides_one, decides_iff, fails}
use Rattle.lists.specs.Exhaustive.{below, every, some}
use Rattle.lists.specs.Decides.{Decides}
use Rattle.lists.specs.Members.{All, Member, SameMembers}
use Rattle.lists.specs.Laws.Members.{all_member, member_all}

pub and_left : (a b : Bool) → T (a && b) → T a
and_left a b t = ((decides_and (decides_test a) (decides_test b)).sound t).0

pub and_right : (a b : Bool) → T (a && b) → T b
and_right a b t = ((decides_and (decides_test a) (decides_test b)).sound t).1

pub below_at : (n : ℕ) (f : ℕ → Bool) → T (below n f) → (k : ℕ) → k < n → T (f k)
below_at zero f t k h = absurd (not-suc-le-zero h)
below_at (suc n) f t zero h = and_left (f zero) (below n (λ k. f (suc k))) t
below_at (suc n) f t (suc k) h = below_at n (λ k. f (suc k)) (and_right (f zero) (below n (λ k. f (suc k))) t) k
    (le_of_suc-le-suc h)

pub below_all : (n : ℕ) (f : ℕ → Bool) → ((k : ℕ) → k < n → f k ≡ true) → below n f ≡ true
below_all zero f h = refl
below_all (suc n) f h = ap₂ ◌&&◌ (h zero (omega arith)) (below_all n (λ k. f (suc k)) (λ k l. h (suc k) (omega arith)))

-- one number more
pub below_more : (n : ℕ) (f : ℕ → Bool) → below (n + 1) f ≡ (below n f && f n)
below_more n f = ap (λ (k : ℕ). below k f) (add-one n) ∙ go n f
  where
    go : (n : ℕ) (f : ℕ → Bool) → below (suc n) f ≡ (below n f && f n)
    go zero f = and-true (f zero)
    go (suc n) f = ap (λ (t : Bool). f zero && t) (go n (λ k. f (suc k)))
        ∙ sym (and_assoc (f zero) (below n (λ k. f (suc k))) (f (suc n)))

-- a loop over the numbers, which ends at the first that fails
module _ (f : ℕ → Bool) where
  pub below_turn : (k : ℕ) (b : Bool) → below k f ≡ true → b ≡ f k → b ≡ true → below (k + 1) f ≡ true
  below_turn k b h e q = below_more k f ∙ ap₂ ◌&&◌ h (sym e ∙ q)

  pub below_stop : (n k : ℕ) (b : Bool) → k < n → b ≡ f k → b ≡ false → false ≡ below n f
  below_stop n k b h e q =
      sym (fails (below n f) (decides_test (below n f)) (λ t. subst T (sym e ∙ q) (below_at n f t k h)))

  pub below_end : (n k : ℕ) → k ≤ n → n ≤ k → below k f ≡ true → true ≡ below n f
  below_end n k a b h = sym h ∙ ap (λ (m : ℕ). below m f) (let z : k ≡ n = omega arith in z)

-- where not all pass, one fails
pub below_fails : (n : ℕ) (f : ℕ → Bool) → below n f ≡ false → (k : ℕ) × (k < n) × (f k ≡ false)
below_fails zero f h = absurd (true≢false h)
below_fails (suc n) f h = go (f zero) refl h (below_fails n (λ k. f (suc k)))
  where
    go : (b : Bool) → f zero ≡ b → (b && below n (λ k. f (suc k))) ≡ false
        → (below n (λ k. f (suc k)) ≡ false → (k : ℕ) × (k < n) × (f (suc k) ≡ false))
        → (k : ℕ) × (k < suc n) × (f k ≡ false)
    go false e q later = (0, omega arith, e)
    go true e q later = let r = later q in (suc r.0, omega arith, r.2)

pub every_at : {A : Type 0} (f : A → Bool) (l : List A) (d : A) → T (every f l) → (k : ℕ) → k < length l
    → T (f (get_or l k d))
every_at f [] d t k h = absurd (not-suc-le-zero h)
every_at f (a ∷ l) d t zero h = and_left (f a) (every f l) t
every_at f (a ∷ l) d t (suc k) h = every_at f l d (and_right (f a) (every f l) t) k (le_of_suc-le-suc h)

pub decides_every : {A : Type 0} (f : A → Bool) (P : A → Type 0) (l : List A) → ((a : A) → Decides (f a) (P a))
    → Decides (every f l) (All P l)
decides_every f P [] h = record { sound = λ t. tt; complete = λ h. tt }
decides_every f P (a ∷ l) h = decides_and (h a) (decides_every f P l h)

pub every_all : {A : Type 0} (f : A → Bool) (l : List A) → T (every f l) → All (λ a. T (f a)) l
every_all f l = (decides_every f (λ a. T (f a)) l (λ a. decides_test (f a))).sound

-- tests that agree at every member
pub every_same : {A : Type 0} (f g : A → Bool) (l : List A) → ((a : A) → Member a l → f a ≡ g a) → every f l ≡ every g l
every_same f g [] h = refl
every_same f g (a ∷ l) h = ap₂ ◌&&◌ (h a (inl refl)) (every_same f g l (λ b m. h b (inr m)))

-- only the members count, not their order
pub every_set : {A : Type 0} (f : A → Bool) (l m : List A) → SameMembers l m → every f l ≡ every f m
every_set {A} f l m s =
    decides_one (every f l) (every f m) (decided l)
    (decides_iff (onto m l (λ a. (s a).0), onto l m (λ a. (s a).1)) (decided m))
  where
    decided : (s : List A) → Decides (every f s) (All (λ a. T (f a)) s)
    decided s = decides_every f (λ a. T (f a)) s (λ a. decides_test (f a))

    onto : (s t : List A) → ((a : A) → Member a t → Member a s) → All (λ a. T (f a)) s → All (λ a. T (f a)) t
    onto s t g h = member_all (λ a. T (f a)) t (λ a i. all_member (λ b. T (f b)) s a h (g a i))

pub decides_some_member : {A : Type 0} (f : A → Bool) (l : List A) → Decides (some f l) ((a : A) × Member a l × T (f a))
decides_some_member f [] = record { sound = λ t. absurd t; complete = λ r. r.1 }
decides_some_member {A} f (b ∷ l) = decides_iff (⊎_elim here later, either)
    (decides_or (decides_test (f b)) (decides_some_member f l))
  where
    here : T (f b) → (a : A) × Member a (b ∷ l) × T (f a)
    here t = (b, inl refl, t)

    later : (a : A) × Member a l × T (f a) → (a : A) × Member a (b ∷ l) × T (f a)
    later r = (r.0, inr r.1, r.2)

    either : (a : A) × Member a (b ∷ l) × T (f a) → T (f b) ⊎ ((a : A) × Member a l × T (f a))
    either r = ⊎_elim (λ (e : r.0 ≡ b). inl (subst (λ (a : A). T (f a)) e r.2)) (λ i. inr (r.0, i, r.2)) r.1

-- the order does not matter
pub some_set : {A : Type 0} (f : A → Bool) (l m : List A) → SameMembers l m → some f l ≡ some f m
some_set f l m s =
    decides_one (some f l) (some f m) (decides_some_member f l)
    (decides_iff (λ x. (x.0, (s x.0).1 x.1, x.2), λ x. (x.0, (s x.0).0 x.1, x.2))
    (decides_some_member f m))

-- one element more, at the end
pub some_more : {A : Type 0} (f : A → Bool) (l : List A) (a : A) → some f (l ++ (a ∷ [])) ≡ (some f l || f a)
some_more f [] a = or-false (f a)
some_more f (b ∷ l) a = ap (λ (t : Bool). f b || t) (some_more f l a) ∙ sym (or_assoc (f b) (some f l) (f a))

-- a loop that has passed over the first i elements
module _ {A : Type 0} (f : A → Bool) (l : List A) (i : ℕ) (d : A) where
  pub every_step : i < length l → f (get_or l i d) ≡ true → every f (drop i l) ≡ every f (drop (i + 1) l)
  every_step h e = rw (add-one, drop-cons l i d, e)

  pub every_stop : i < length l → f (get_or l i d) ≡ false → every f (drop i l) ≡ false
  every_stop h e = rw (drop-cons l i d, e)

  pub some_step : i < length l → f (get_or l i d) ≡ false → some f (drop i l) ≡ some f (drop (i + 1) l)
  some_step h e = rw (add-one, drop-cons l i d, e)

  pub some_stop : i < length l → f (get_or l i d) ≡ true → some f (drop i l) ≡ true
  some_stop h e = rw (drop-cons l i d, e)

module _ {A : Type 0} (f : A → Bool) (l : List A) (i : ℕ) where
  pub every_end : length l ≤ i → every f (drop i l) ≡ true
  every_end h = rw drop_of_length-le

  pub some_end : length l ≤ i → some f (drop i l) ≡ false
  some_end h = rw drop_of_length-le
