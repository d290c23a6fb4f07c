-- Parts of a list: those that pass a test, those before a number and those after it. Which members they have.
use Rattle.std.specs.Prelude.{◌≡◌, refl, Bool, true, false, cond, ◌&&◌, ℕ, suc, eqb, take}
use Rattle.std.proofs.Common.{sym, ap, ap₂, ◌∙◌, inl, inr, ⊎_elim, true≢false, eq-eqb, ne_eqb}
use mathlib.Core.List.{List, [], ◌∷◌, ◌++◌}
use Rattle.std.proofs.Math.Decide.{ℕ_discrete}
use Rattle.lists.specs.Members.{All, Member, Distinct}
use Rattle.lists.specs.Parts.{before, after, filter}
use Rattle.lists.specs.First.{first_index}
use Rattle.lists.specs.Laws.Members.{member_append, append_member, member_either, distinct_append, distinct_front}
use Rattle.lists.specs.Laws.Members.{distinct_back, distinct_apart}

-- ---- those around a number in the midst of a list

module _ (n : ℕ) (m : List ℕ) where
  pub before_mid : (l : List ℕ) → ¬ Member n l → before n (l ++ (n ∷ m)) ≡ l
  unfolding before
  before_mid [] h = rw (eq-eqb n n refl)
  before_mid (k ∷ l) h = rw (ne_eqb k n (λ e. h (inl (sym e))))
      (ap (λ (s : List ℕ). k ∷ s) (before_mid l (λ i. h (inr i))))

  pub after_mid : (l : List ℕ) → ¬ Member n l → after n (l ++ (n ∷ m)) ≡ m
  unfolding after
  after_mid [] h = rw (eq-eqb n n refl)
  after_mid (k ∷ l) h = rw (ne_eqb k n (λ e. h (inl (sym e)))) (after_mid l (λ i. h (inr i)))

-- a member stands between those before it and those after it
pub before_after : (l : List ℕ) (n : ℕ) → Member n l → l ≡ before n l ++ (n ∷ after n l)
unfolding before after
before_after [] n i = absurd i
before_after (k ∷ l) n i = go (ℕ_discrete k n) i (before_after l n)
  where
    go : Dec (k ≡ n) → Member n (k ∷ l) → (Member n l → l ≡ before n l ++ (n ∷ after n l))
        → k ∷ l ≡ cond (eqb k n) [] (k ∷ before n l) ++ (n ∷ cond (eqb k n) l (after n l))
    go (yes e) i later = rw (eq-eqb k n e) (ap (λ (m : ℕ). m ∷ l) e)
    go (no d) (inl e) later = absurd (d (sym e))
    go (no d) (inr i) later = rw (ne_eqb k n d) (ap (λ (s : List ℕ). k ∷ s) (later i))

-- those before the first n are as many as its index says
pub before_first : (n : ℕ) (l : List ℕ) → take (first_index (λ m. eqb m n) l) l ≡ before n l
unfolding before
before_first n [] = refl
before_first n (m ∷ l) = go (eqb m n) (before_first n l)
  where
    go : (b : Bool) → take (first_index (λ k. eqb k n) l) l ≡ before n l
        → take (cond b 0 (suc (first_index (λ k. eqb k n) l))) (m ∷ l) ≡ cond b [] (m ∷ before n l)
    go true e = refl
    go false e = ap (λ (s : List ℕ). m ∷ s) e

-- ---- those that pass a test

module _ {A : Type 0} where
  pub filter_append : (p : A → Bool) (l m : List A) → filter p (l ++ m) ≡ filter p l ++ filter p m
  filter_append p [] m = refl
  filter_append p (a ∷ l) m = go (p a) (filter_append p l m)
    where
      go : (b : Bool) → filter p (l ++ m) ≡ filter p l ++ filter p m
          → cond b (a ∷ filter p (l ++ m)) (filter p (l ++ m)) ≡ cond b (a ∷ filter p l) (filter p l) ++ filter p m
      go true e = ap (λ (s : List A). a ∷ s) e
      go false e = e

  -- tests that agree at every member
  pub filter_same : (p q : A → Bool) (l : List A) → ((a : A) → Member a l → p a ≡ q a) → filter p l ≡ filter q l
  filter_same p q [] h = refl
  filter_same p q (a ∷ l) h =
      ap₂ (λ (b : Bool) (s : List A). cond b (a ∷ s) s) (h a (inl refl)) (filter_same p q l (λ b i. h b (inr i)))

  -- one test after another
  pub filter_filter : (p q : A → Bool) (l : List A) → filter q (filter p l) ≡ filter (λ a. p a && q a) l
  filter_filter p q [] = refl
  filter_filter p q (a ∷ l) = go (p a) (filter_filter p q l)
    where
      go : (b : Bool) → filter q (filter p l) ≡ filter (λ a. p a && q a) l
          → filter q (cond b (a ∷ filter p l) (filter p l))
          ≡ cond (b && q a) (a ∷ filter (λ a. p a && q a) l) (filter (λ a. p a && q a) l)
      go true e = ap (λ (s : List A). cond (q a) (a ∷ s) s) e
      go false e = e

  -- what holds of all of them holds of each member that passes
  pub filter_all : (P : A → Type 0) (p : A → Bool) (l : List A) → All P (filter p l) → All (λ a. p a ≡ true → P a) l
  filter_all P p [] h = tt
  filter_all P p (a ∷ l) h = go (p a) h (filter_all P p l)
    where
      go : (b : Bool) → All P (cond b (a ∷ filter p l) (filter p l))
          → (All P (filter p l) → All (λ a. p a ≡ true → P a) l)
          → (b ≡ true → P a) × All (λ a. p a ≡ true → P a) l
      go true h f = (λ e. h.0, f h.1)
      go false h f = (λ e. absurd (true≢false (sym e)), f h)

  pub all_filter : (P : A → Type 0) (p : A → Bool) (l : List A) → All (λ a. p a ≡ true → P a) l → All P (filter p l)
  all_filter P p [] h = tt
  all_filter P p (a ∷ l) h = go (p a) h.0 (all_filter P p l h.1)
    where
      go : (b : Bool) → (b ≡ true → P a) → All P (filter p l) → All P (cond b (a ∷ filter p l) (filter p l))
      go true f i = (f refl, i)
      go false f i = i

  -- a member of them is a member that passes, and conversely
  pub filter_member : (p : A → Bool) (l : List A) (a : A) → Member a (filter p l) → Member a l × (p a ≡ true)
  filter_member p [] a i = absurd i
  filter_member p (b ∷ l) a i = go (p b) refl i (filter_member p l a)
    where
      go : (t : Bool) → p b ≡ t → Member a (cond t (b ∷ filter p l) (filter p l))
          → (Member a (filter p l) → Member a l × (p a ≡ true)) → Member a (b ∷ l) × (p a ≡ true)
      go true q (inl e) f = (inl e, ap p e ∙ q)
      go true q (inr i) f = let r = f i in (inr r.0, r.1)
      go false q i f = let r = f i in (inr r.0, r.1)

  pub distinct_filter : (p : A → Bool) (l : List A) → Distinct l → Distinct (filter p l)
  distinct_filter p [] d = tt
  distinct_filter p (a ∷ l) d = go (p a) (distinct_filter p l d.1)
    where
      go : (b : Bool) → Distinct (filter p l) → Distinct (cond b (a ∷ filter p l) (filter p l))
      go true e = (λ i. d.0 (filter_member p l a i).0, e)
      go false e = e

  -- a member in the midst of a list, with some of those before it and some of those after it
  module _ (p q : A → Bool) (l : List A) (a : A) (m : List A) where
    pub around_member : (b : A) → Member b (a ∷ (filter p l ++ filter q m)) → Member b (l ++ (a ∷ m))
    around_member b (inl e) = append_member l (a ∷ m) b (inl e)
    around_member b (inr i) =
        ⊎_elim (λ j. member_append l (a ∷ m) b (filter_member p l b j).0)
        (λ j. append_member l (a ∷ m) b (inr (filter_member q m b j).0))
        (member_either (filter p l) (filter q m) b i)

    pub distinct_around : Distinct (l ++ (a ∷ m)) → Distinct (a ∷ (filter p l ++ filter q m))
    distinct_around d = (λ i. ⊎_elim first last (member_either (filter p l) (filter q m) a i), rest)
      where
        back : Distinct (a ∷ m)
        back = distinct_back l (a ∷ m) d

        first : ¬ Member a (filter p l)
        first i = distinct_apart l (a ∷ m) d a (filter_member p l a i).0 (inl refl)

        last : ¬ Member a (filter q m)
        last i = back.0 (filter_member q m a i).0

        rest : Distinct (filter p l ++ filter q m)
        rest =
            distinct_append (filter p l) (filter q m)
            (distinct_filter p l (distinct_front l (a ∷ m) d)) (distinct_filter q m back.1)
            (λ b i j. distinct_apart l (a ∷ m) d b (filter_member p l b i).0 (inr (filter_member q m b j).0))
