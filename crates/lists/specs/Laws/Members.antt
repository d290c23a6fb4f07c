-- The members of a list: what holds of all of them, which they are, that no two are equal.
use mathlib.Core.List.{List, [], ◌∷◌, ◌++◌, append-nil, map, head-eq_of_cons-eq, tail-eq_of_cons-eq}
use Rattle.std.specs.Prelude.{◌≡◌, refl, ◌⊎◌, ◌↔◌, ℕ, zero, suc, ◌<◌, length, get_or, take, drop}
use Rattle.std.proofs.Common.{sym, ap, ap₂, ◌∙◌, subst, inl, inr, ⊎_elim, le_of_suc-le-suc, not-suc-le-zero, arith}
use Rattle.std.proofs.Math.Decide.{ℕ_discrete}
use Rattle.lists.specs.Members.{All, Member, Distinct, SameMembers}

pub all_map : {A : Type 0} {P Q : A → Type 0} → ((a : A) → P a → Q a) → (l : List A) → All P l → All Q l
all_map f [] h = tt
all_map f (a ∷ l) h = (f a h.0, all_map f l h.1)

pub all_at : {A : Type 0} (P : A → Type 0) (l : List A) (k : ℕ) (d : A) → All P l → k < length l → P (get_or l k d)
all_at P [] k d h q = absurd (not-suc-le-zero q)
all_at P (a ∷ l) zero d h q = h.0
all_at P (a ∷ l) (suc k) d h q = all_at P l k d h.1 (le_of_suc-le-suc q)

pub all_member : {A : Type 0} (P : A → Type 0) (l : List A) (a : A) → All P l → Member a l → P a
all_member P [] a h m = absurd m
all_member P (b ∷ l) a h (inl e) = subst P (sym e) h.0
all_member P (b ∷ l) a h (inr m) = all_member P l a h.1 m

pub member_all : {A : Type 0} (P : A → Type 0) (l : List A) → ((a : A) → Member a l → P a) → All P l
member_all P [] h = tt
member_all P (a ∷ l) h = (h a (inl refl), member_all P l (λ b m. h b (inr m)))

-- the members of a list are members of it with one more
pub members_more : {A : Type 0} (a : A) (l : List A) → All (λ b. Member b (a ∷ l)) l
members_more a l = member_all (λ b. Member b (a ∷ l)) l (λ b m. inr m)

-- whether a number is a member
pub member_or_not : (n : ℕ) (l : List ℕ) → Dec (Member n l)
member_or_not n [] = no (λ m. m)
member_or_not n (k ∷ l) = go (ℕ_discrete n k) (member_or_not n l)
  where
    go : Dec (n ≡ k) → Dec (Member n l) → Dec ((n ≡ k) ⊎ Member n l)
    go (yes e) d = yes (inl e)
    go (no a) (yes m) = yes (inr m)
    go (no a) (no b) = no (⊎_elim a b)

-- a member stands at some place
pub member_place : {A : Type 0} (l : List A) (a d : A) → Member a l → (k : ℕ) × (k < length l) × (get_or l k d ≡ a)
member_place [] a d m = absurd m
member_place (b ∷ l) a d (inl e) = (0, omega arith, sym e)
member_place (b ∷ l) a d (inr m) = let r = member_place l a d m in (suc r.0, omega arith, r.2)

-- and what stands at a place is a member
pub at_member : {A : Type 0} (l : List A) (k : ℕ) (d : A) → k < length l → Member (get_or l k d) l
at_member l k d = all_at (λ a. Member a l) l k d (member_all (λ a. Member a l) l (λ a m. m))

-- of two lists joined
module _ {A : Type 0} where
  pub member_append : (l m : List A) (a : A) → Member a l → Member a (l ++ m)
  member_append [] m a h = absurd h
  member_append (b ∷ l) m a (inl e) = inl e
  member_append (b ∷ l) m a (inr h) = inr (member_append l m a h)

  pub append_member : (l m : List A) (a : A) → Member a m → Member a (l ++ m)
  append_member [] m a h = h
  append_member (b ∷ l) m a h = inr (append_member l m a h)

  pub member_either : (l m : List A) (a : A) → Member a (l ++ m) → Member a l ⊎ Member a m
  member_either [] m a h = inr h
  member_either (b ∷ l) m a (inl e) = inl (inl e)
  member_either (b ∷ l) m a (inr h) = ⊎_elim (λ i. inl (inr i)) (λ i. inr i) (member_either l m a h)

  pub all_append : (P : A → Type 0) (l m : List A) → All P l → All P m → All P (l ++ m)
  all_append P [] m h g = g
  all_append P (a ∷ l) m h g = (h.0, all_append P l m h.1 g)

  pub all_parts : (P : A → Type 0) (l m : List A) → All P (l ++ m) → All P l × All P m
  all_parts P [] m h = (tt, h)
  all_parts P (a ∷ l) m h = let r = all_parts P l m h.1 in ((h.0, r.0), r.1)

  pub distinct_append : (l m : List A) → Distinct l → Distinct m → ((a : A) → Member a l → ¬ Member a m)
      → Distinct (l ++ m)
  distinct_append [] m d e f = e
  distinct_append (a ∷ l) m d e f =
      (λ i. ⊎_elim d.0 (f a (inl refl)) (member_either l m a i), distinct_append l m d.1 e (λ b i. f b (inr i)))

  pub distinct_front : (l m : List A) → Distinct (l ++ m) → Distinct l
  distinct_front [] m d = tt
  distinct_front (a ∷ l) m d = (λ i. d.0 (member_append l m a i), distinct_front l m d.1)

  pub distinct_back : (l m : List A) → Distinct (l ++ m) → Distinct m
  distinct_back [] m d = d
  distinct_back (a ∷ l) m d = distinct_back l m d.1

  pub distinct_apart : (l m : List A) → Distinct (l ++ m) → (a : A) → Member a l → ¬ Member a m
  distinct_apart [] m d a i j = i
  distinct_apart (b ∷ l) m d a (inl e) j = d.0 (append_member l m b (subst (λ (c : A). Member c m) e j))
  distinct_apart (b ∷ l) m d a (inr i) j = distinct_apart l m d.1 a i j

-- a part of the list
pub all_take : {A : Type 0} (P : A → Type 0) (n : ℕ) (l : List A) → All P l → All P (take n l)
all_take P zero [] h = tt
all_take P zero (a ∷ l) h = tt
all_take P (suc n) [] h = tt
all_take P (suc n) (a ∷ l) h = (h.0, all_take P n l h.1)

pub all_drop : {A : Type 0} (P : A → Type 0) (n : ℕ) (l : List A) → All P l → All P (drop n l)
all_drop P zero [] h = tt
all_drop P zero (a ∷ l) h = h
all_drop P (suc n) [] h = tt
all_drop P (suc n) (a ∷ l) h = all_drop P n l h.1

-- a member more, at the end
pub all_more : {A : Type 0} (P : A → Type 0) (l : List A) (a : A) → All P l → P a → All P (l ++ (a ∷ []))
all_more P [] a h p = (p, tt)
all_more P (b ∷ l) a h p = (h.0, all_more P l a h.1 p)

pub distinct_more : {A : Type 0} (l : List A) (a : A) → Distinct l → ¬ Member a l → Distinct (l ++ (a ∷ []))
distinct_more {A} l a d n =
    distinct_append l (a ∷ []) d ((λ z. z), tt)
    (λ b i. ⊎_elim (λ (e : b ≡ a). n (subst (λ (c : A). Member c l) e i)) (λ z. z))

-- a member in the midst of a list is none of those before it
pub distinct_mid : {A : Type 0} (l : List A) (a : A) (m : List A) → Distinct (l ++ (a ∷ m)) → ¬ Member a l
distinct_mid l a m d i = distinct_apart l (a ∷ m) d a i (inl refl)

-- what a function makes of the members
module _ {A B : Type 0} where
  pub map_same : (f g : A → B) (l : List A) → ((a : A) → Member a l → f a ≡ g a) → map f l ≡ map g l
  map_same f g [] h = refl
  map_same f g (a ∷ l) h = ap₂ (λ (b : B) (m : List B). b ∷ m) (h a (inl refl)) (map_same f g l (λ b i. h b (inr i)))

  pub same_map : (f g : A → B) (l : List A) → map f l ≡ map g l → (a : A) → Member a l → f a ≡ g a
  same_map f g [] e a i = absurd i
  same_map f g (b ∷ l) e a (inl q) = ap f q ∙ head-eq_of_cons-eq e ∙ ap g (sym q)
  same_map f g (b ∷ l) e a (inr i) = same_map f g l (tail-eq_of_cons-eq e) a i

  pub member_map : (f : A → B) (l : List A) (a : A) → Member a l → Member (f a) (map f l)
  member_map f [] a i = i
  member_map f (b ∷ l) a (inl e) = inl (ap f e)
  member_map f (b ∷ l) a (inr i) = inr (member_map f l a i)

  pub map_member : (f : A → B) (l : List A) (b : B) → Member b (map f l) → (a : A) × Member a l × (b ≡ f a)
  map_member f [] b i = absurd i
  map_member f (a ∷ l) b (inl e) = (a, inl refl, e)
  map_member f (a ∷ l) b (inr i) = let r = map_member f l b i in (r.0, inr r.1, r.2)

-- what one function tells apart, another does that tells no less
pub distinct_map : {A B C : Type 0} (f : A → B) (g : A → C) (l : List A)
    → ((a b : A) → Member a l → Member b l → f a ≡ f b → g a ≡ g b) → Distinct (map g l) → Distinct (map f l)
distinct_map f g [] h d = tt
distinct_map {C = C} f g (a ∷ l) h d = (
  λ i.
      let r = map_member f l (f a) i in
      d.0 (subst (λ (c : C). Member c (map g l)) (sym (h a r.0 (inl refl) (inr r.1) r.2))
      (member_map g l r.0 r.1)),
  distinct_map f g l (λ b c i j. h b c (inr i) (inr j)) d.1,
)

-- the member in the midst goes to the front
pub same_mid : {A : Type 0} (l : List A) (a : A) (m : List A) → SameMembers (l ++ (a ∷ m)) (a ∷ (l ++ m))
same_mid [] a m b = (λ i. i, λ i. i)
same_mid {A} (c ∷ l) a m b = go (same_mid l a m b)
  where
    go : (Member b (l ++ (a ∷ m)) ↔ Member b (a ∷ (l ++ m)))
        → (Member b (c ∷ (l ++ (a ∷ m))) ↔ Member b (a ∷ (c ∷ (l ++ m))))
    go r = (
      ⊎_elim (λ e. inr (inl e)) (λ i. ⊎_elim (λ e. inl e) (λ j. inr (inr j)) (r.0 i)),
      ⊎_elim (λ e. inr (r.1 (inl e))) (⊎_elim (λ e. inl e) (λ j. inr (r.1 (inr j)))),
    )

-- what is left when it is taken out
module _ {A : Type 0} (l : List A) (a : A) (m : List A) where
  pub all_less : (P : A → Type 0) → All P (l ++ (a ∷ m)) → All P (l ++ m)
  all_less P h = let parts = all_parts P l (a ∷ m) h in all_append P l m parts.0 parts.1.1

  pub distinct_less : Distinct (l ++ (a ∷ m)) → Distinct (a ∷ (l ++ m))
  distinct_less d =
      let back = distinct_back l (a ∷ m) d in (
        λ i. ⊎_elim (distinct_mid l a m d) back.0 (member_either l m a i),
        distinct_append l m (distinct_front l (a ∷ m) d) back.1 (λ b i j. distinct_apart l (a ∷ m) d b i (inr j)),
      )

-- a member at the front goes to the end
pub same_more : {A : Type 0} (l : List A) (a : A) → SameMembers (a ∷ l) (l ++ (a ∷ []))
same_more {A} l a b =
    let r = subst (λ (m : List A). Member b (l ++ (a ∷ [])) ↔ Member b (a ∷ m)) (append-nil l) (same_mid l a [] b) in
    (r.1, r.0)
