-- What stands at a place of a list, and in a list made of another.
use Rattle.std.specs.Prelude.{Bool, true, false, cond, ◌≡◌, ℕ, zero, suc, ◌+◌, ◌-◌, ◌≤◌, ◌<◌, length, take}
use Rattle.std.proofs.Math.Path.{refl, sym, ap}
use Rattle.std.proofs.Common.{ap₂, ◌∙◌, subst, le_of_suc-le-suc, not-suc-le-zero, arith, add-one, drop_of_length-le}
use Rattle.std.proofs.Common.{drop-cons, get_or-drop}
use mathlib.Core.List.{List, [], ◌∷◌, ◌++◌, map, foldl, append_assoc, append-nil}
use mir.Val.{bool_byte}
use Rattle.std.proofs.Math.ListN.{get_or, set, drop, length-append, length-drop, get_or-append}
use Rattle.std.proofs.Math.Seq.{append_snoc, drop-append_seam, get_or-append_seam, set_at}
use Rattle.lists.specs.Elements.{listed, listed_over, concat_map}

pub map_at : {A B : Type 0} (f : A → B) (l : List A) (k : ℕ) (a : A) (b : B) → k < length l
    → get_or (map f l) k b ≡ f (get_or l k a)
map_at f [] k a b h = absurd (not-suc-le-zero h)
map_at f (z ∷ l) zero a b h = refl
map_at f (z ∷ l) (suc k) a b h = map_at f l k a b (le_of_suc-le-suc h)

pub map_append : {A B : Type 0} (f : A → B) (s t : List A) → map f (s ++ t) ≡ map f s ++ map f t
map_append f [] t = refl
map_append f (a ∷ s) t = ap (λ (l : List _). f a ∷ l) (map_append f s t)

-- in range the default does not matter
pub at_default : {A : Type 0} (l : List A) (k : ℕ) (a b : A) → k < length l → get_or l k a ≡ get_or l k b
at_default [] k a b h = absurd (not-suc-le-zero h)
at_default (z ∷ l) zero a b h = refl
at_default (z ∷ l) (suc k) a b h = at_default l k a b (le_of_suc-le-suc h)

pub take_none : {A : Type 0} (l : List A) → take 0 l ≡ []
take_none [] = refl
take_none (a ∷ l) = refl

pub drop_none : {A : Type 0} (l : List A) → drop 0 l ≡ l
drop_none [] = refl
drop_none (a ∷ l) = refl

-- a list is that of what stands at its places
pub listed_at : {A : Type 0} (l : List A) (d : A) → listed (length l) (λ k. get_or l k d) ≡ l
listed_at [] d = refl
listed_at (a ∷ l) d = ap (λ (m : List _). a ∷ m) (listed_at l d)

pub no_elements : {A : Type 0} (l : List A) → length l ≡ 0 → l ≡ []
no_elements [] e = refl
no_elements (a ∷ l) e = absurd (omega arith)

pub length_listed : {A : Type 0} (n : ℕ) (f : ℕ → A) → length (listed n f) ≡ n
length_listed zero f = refl
length_listed (suc n) f = ap suc (length_listed n (λ k. f (suc k)))

pub listed_get : {A : Type 0} (n : ℕ) (f : ℕ → A) (k : ℕ) (d : A) → k < n → get_or (listed n f) k d ≡ f k
listed_get zero f k d h = absurd (not-suc-le-zero h)
listed_get (suc n) f zero d h = refl
listed_get (suc n) f (suc k) d h = listed_get n (λ i. f (suc i)) k d (le_of_suc-le-suc h)

pub listed_same : {A : Type 0} (n : ℕ) (f g : ℕ → A) → ((k : ℕ) → k < n → f k ≡ g k) → listed n f ≡ listed n g
listed_same zero f g h = refl
listed_same (suc n) f g h =
    ap₂ (λ (a : _) (l : List _). a ∷ l) (h zero (omega arith))
    (listed_same n (λ k. f (suc k)) (λ k. g (suc k)) (λ k l. h (suc k) (omega arith)))

pub listed_more : {A : Type 0} (n : ℕ) (f : ℕ → A) → listed (suc n) f ≡ listed n f ++ (f n ∷ [])
listed_more zero f = refl
listed_more (suc n) f = ap (λ (l : List _). f zero ∷ l) (listed_more n (λ k. f (suc k)))

-- one more where a test passes, and what was written at its place does not count where it fails
pub listed_flag : {A : Type 0} (n : ℕ) (f g : ℕ → A) (b : Bool) → ((k : ℕ) → k < n → g k ≡ f k)
    → listed (n + bool_byte b) g ≡ listed n f ++ cond b (g n ∷ []) []
listed_flag n f g true h =
    ap (λ (k : ℕ). listed k g) (add-one n) ∙ listed_more n g
    ∙ ap (λ (l : List _). l ++ (g n ∷ [])) (listed_same n g f h)
listed_flag n f g false h =
    ap (λ (k : ℕ). listed k g) (let e : n + 0 ≡ n = omega arith in e) ∙ listed_same n g f h
    ∙ sym (append-nil (listed n f))

module _ {A : Type 0} (f : ℕ → A) (l : List A) where
  pub written_none : listed_over 0 f l ≡ l
  unfolding listed_over
  written_none = refl

  pub length_written : (k : ℕ) → k ≤ length l → length (listed_over k f l) ≡ length l
  unfolding listed_over
  length_written k h = omega (arith, length-append (listed k f) (drop k l), length_listed k f, length-drop k l)

  pub written_at : (n k : ℕ) (d : A) → k < n → get_or (listed_over n f l) k d ≡ f k
  unfolding listed_over
  written_at n k d h =
      get_or-append (listed n f) (drop n l) d k (omega (arith, length_listed n f)) ∙ listed_get n f k d h

  pub written_all : (k : ℕ) → length l ≤ k → listed_over k f l ≡ listed k f
  unfolding listed_over
  written_all k h = ap (λ (m : List A). listed k f ++ m) (drop_of_length-le l h) ∙ append-nil (listed k f)

  module _ (k : ℕ) (h : k < length l) (d : A) where
    -- the next element is as it was
    pub written_next : get_or (listed_over k f l) k d ≡ get_or l k d
    unfolding listed_over
    written_next =
        ap (λ (m : List A). get_or (listed k f ++ m) k d) (drop-cons l k d h)
        ∙ ap (λ (i : ℕ). get_or (listed k f ++ (get_or l k d ∷ drop (suc k) l)) i d) (sym (length_listed k f))
        ∙ get_or-append_seam (listed k f) (get_or l k d) (drop (suc k) l) d

    -- and is written over
    pub written_more : set (listed_over k f l) k (f k) ≡ listed_over (suc k) f l
    unfolding listed_over
    written_more =
        ap (λ (m : List A). set (listed k f ++ m) k (f k)) (drop-cons l k d h)
        ∙ set_at (listed k f) (get_or l k d) (drop (suc k) l) (f k) k (length_listed k f)
        ∙ sym (append_snoc (listed k f) (f k) (drop (suc k) l))
        ∙ ap (λ (m : List A). m ++ drop (suc k) l) (sym (listed_more k f))

-- a loop has written what f gives over the first i of n elements
pub record Filled {A : Type 0} (n : ℕ) (f : ℕ → A) (old new : List A) (i : ℕ) : Type 0 where
  pub within : i ≤ n
  pub size : length old ≡ n
  pub written : new ≡ listed_over i f old

module _ {A : Type 0} {n : ℕ} {f : ℕ → A} {old : List A} where
  pub filled_none : length old ≡ n → Filled n f old old 0
  filled_none e = record { within = omega arith; size = e; written = sym (written_none f old) }

  module _ {new : List A} {i : ℕ} (g : Filled n f old new i) where
    pub filled_more : i < n → (a : A) → a ≡ f i → Filled n f old (set new i a) (i + 1)
    filled_more h a e =
        record {
          within = omega arith;
          size = g.size;
          written =
              ap₂ (λ (l : List A) (b : A). set l i b) g.written e
              ∙ written_more f old i (omega (arith, g.size)) a
              ∙ ap (λ (k : ℕ). listed_over k f old) (sym (add-one i));
        }

    pub filled_whole : n ≤ i → new ≡ listed n f
    filled_whole h =
        let e : i ≡ n = omega (arith, g.within) in
        g.written ∙ written_all f old i (omega (arith, g.size)) ∙ ap (λ (k : ℕ). listed k f) e

-- the rest is as it was, and so the list written over twice is as written over once
module _ {A : Type 0} (f : ℕ → A) (n : ℕ) (l : List A) where
  pub written_rest : drop n (listed_over n f l) ≡ drop n l
  unfolding listed_over
  written_rest =
      ap (λ (k : ℕ). drop k (listed n f ++ drop n l)) (sym (length_listed n f))
      ∙ drop-append_seam (listed n f) (drop n l)

  pub written_past : (k : ℕ) (d : A) → n ≤ k → get_or (listed_over n f l) k d ≡ get_or l k d
  written_past k d h =
      let e : n + (k - n) ≡ k = omega arith in
      ap (λ (i : ℕ). get_or (listed_over n f l) i d) (sym e)
      ∙ sym (get_or-drop n (listed_over n f l) (k - n) d)
      ∙ ap (λ (m : List A). get_or m (k - n) d) written_rest
      ∙ get_or-drop n l (k - n) d
      ∙ ap (λ (i : ℕ). get_or l i d) e

  pub written_twice : (g : ℕ → A) → listed_over n g (listed_over n f l) ≡ listed_over n g l
  unfolding listed_over
  written_twice g = ap (λ (m : List A). listed n g ++ m) written_rest

pub written_same : {A : Type 0} (f g : ℕ → A) (n : ℕ) (l : List A) → ((k : ℕ) → k < n → f k ≡ g k)
    → listed_over n f l ≡ listed_over n g l
unfolding listed_over
written_same f g n l h = ap (λ (m : List _). m ++ drop n l) (listed_same n f g h)

pub concat_map_more : {A B : Type 0} (f : A → List B) (l : List A) (a : A)
    → concat_map f (l ++ (a ∷ [])) ≡ concat_map f l ++ f a
concat_map_more f [] a = append-nil (f a)
concat_map_more f (b ∷ l) a =
    ap (λ (m : List _). f b ++ m) (concat_map_more f l a) ∙ sym (append_assoc (f b) (concat_map f l) (f a))

-- what holds at the start of a fold, and after one element more where it held before, holds after every list
pub fold_keeps : {A B : Type 0} (I : List A → B → Type 0) (f : B → A → B) (b : B) → I [] b
    → ((l : List A) (c : B) (a : A) → I l c → I (l ++ (a ∷ [])) (f c a)) → (l : List A) → I l (foldl f b l)
fold_keeps {A} {B} I f b start more l = go [] l b start
  where
    go : (l m : List A) (c : B) → I l c → I (l ++ m) (foldl f c m)
    go l [] c i = subst (λ (k : List A). I k c) (sym (append-nil l)) i
    go l (a ∷ m) c i =
        subst (λ (k : List A). I k (foldl f (f c a) m)) (append_snoc l a m)
        (go (l ++ (a ∷ [])) m (f c a) (more l c a i))
