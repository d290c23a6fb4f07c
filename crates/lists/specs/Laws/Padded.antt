-- A list at the front of an array of n places, the rest filled with one value.
use Rattle.std.specs.Prelude.{◌≡◌, refl, get_or}
use Rattle.std.proofs.Math.Path.{sym, ap, ap₂}
use Rattle.std.proofs.Common.{◌∙◌, add-one, length-drop, length-take, take-suc-set}
use mathlib.Core.List.{List, [], ◌∷◌, ◌++◌, append_assoc}
use Prim.Native.Nat.{ℕ, zero, suc, ◌+◌, ◌-◌, ◌≤◌, ◌<◌}
use native.Mathlib.Omega.{arith}
use Rattle.std.proofs.Math.Nat.{min-le_left}
use Rattle.std.proofs.Math.ListN.{length, take, drop, set, replicate, length-append, length-replicate, get_or-append}
use Rattle.std.proofs.Math.Seq.{length-take-le, take-append-add, take-append_seam, set-append_seam, append_snoc}
use Rattle.std.proofs.lemmas.List.{take-append-le, drop-append-le}
use Rattle.lists.specs.Elements.{put_at}
use Rattle.lists.specs.Padded.{padded}

filled_at : {A : Type 0} (l : List A) (m k : ℕ) (d : A) → get_or (l ++ replicate m d) k d ≡ get_or l k d
filled_at [] zero k d = refl
filled_at [] (suc m) zero d = refl
filled_at [] (suc m) (suc k) d = filled_at [] m k d
filled_at (a ∷ l) m zero d = refl
filled_at (a ∷ l) m (suc k) d = filled_at l m k d

take_filled : {A : Type 0} (m : ℕ) (d : A) → take m (replicate (suc m) d) ≡ replicate m d
take_filled zero d = refl
take_filled {A} (suc m) d = ap (λ (l : List A). d ∷ l) (take_filled m d)

module _ {A : Type 0} (n : ℕ) (d : A) (l : List A) where
  pub length_padded : length l ≤ n → length (padded n d l) ≡ n
  unfolding padded
  length_padded h = omega (arith, length-append l (replicate (n - length l) d), length-replicate (n - length l) d)

  pub padded_at : (k : ℕ) (e : A) → k < length l → get_or (padded n d l) k e ≡ get_or l k e
  unfolding padded
  padded_at k e h = get_or-append l (replicate (n - length l) d) e k h

  -- at any place, where the default is what fills the array
  pub padded_anywhere : (k : ℕ) → get_or (padded n d l) k d ≡ get_or l k d
  unfolding padded
  padded_anywhere k = filled_at l (n - length l) k d

  pub take_padded : take (length l) (padded n d l) ≡ l
  unfolding padded
  take_padded = take-append_seam l (replicate (n - length l) d)

  -- the next place is filled
  pub padded_more : (a : A) → length l < n → set (padded n d l) (length l) a ≡ padded n d (l ++ (a ∷ []))
  unfolding padded
  padded_more a h =
      let left : n - length l ≡ suc (n - suc (length l)) = omega arith in
      let rest : n - length (l ++ (a ∷ [])) ≡ n - suc (length l) = omega (arith, length-append l (a ∷ [])) in
      ap (λ (k : ℕ). set (l ++ replicate k d) (length l) a) left
      ∙ set-append_seam l d (replicate (n - suc (length l)) d) a
      ∙ sym (append_snoc l a (replicate (n - suc (length l)) d))
      ∙ ap (λ (k : ℕ). (l ++ (a ∷ [])) ++ replicate k d) (sym rest)

  -- one more is put in before the end, and the last filled place goes
  pub padded_put : (k : ℕ) (a : A) → k ≤ length l → length l < n → take n (put_at k a (padded n d l))
      ≡ padded n d (put_at k a l)
  unfolding padded put_at
  padded_put k a i h =
      let fill : List A = replicate (n - length l) d in
      let m : ℕ = n - suc (length l) in
      let long : length (put_at k a l) ≡ suc (length l) =
      simp (length-append, length-take-le k l i, length-drop) (omega arith) in
      let left : n - length l ≡ suc m = omega arith in
      let rest : n - length (put_at k a l) ≡ m = omega arith in
      let all : n ≡ length (put_at k a l) + m = omega arith in
      ap₂ (λ (x y : List A). take n (x ++ a ∷ y)) (take-append-le k l fill i) (drop-append-le k l fill i)
      ∙ ap (take n) (sym (append_assoc (take k l) (a ∷ drop k l) fill))
      ∙ ap (λ (j : ℕ). take j (put_at k a l ++ fill)) all
      ∙ take-append-add (put_at k a l) fill m
      ∙ ap (λ (j : ℕ). put_at k a l ++ take m (replicate j d)) left
      ∙ ap (λ (x : List A). put_at k a l ++ x) (take_filled m d)
      ∙ ap (λ (j : ℕ). put_at k a l ++ replicate j d) (sym rest)

-- an array of m places holds a list in its first n, and only there
abbrev pub HoldsFirst : {A : Type 0} → ℕ → A → ℕ → List A → Type 0
HoldsFirst m d n l = l ≡ padded m d (take n l)

module _ {A : Type 0} (m : ℕ) (d : A) (n : ℕ) (l : List A) (f : HoldsFirst m d n l) where
  pub holds_first_length : n ≤ m → length l ≡ m
  holds_first_length h = ap length f ∙ length_padded m d (take n l)
      (omega (arith, length-take n l, min-le_left n (length l)))

  -- one place more
  module _ (h : n < m) (a : A) where
    pub take_more : take (n + 1) (set l n a) ≡ take n l ++ (a ∷ [])
    take_more = rw add-one (take-suc-set l n a (omega (arith, holds_first_length (omega arith))))

    pub holds_first_more : HoldsFirst m d (n + 1) (set l n a)
    holds_first_more =
        let long : length (take n l) ≡ n = length-take-le n l (omega (arith, holds_first_length (omega arith))) in
        ap (λ (z : List A). set z n a) f
        ∙ ap (λ (k : ℕ). set (padded m d (take n l)) k a) (sym long)
        ∙ padded_more m d (take n l) a (omega arith)
        ∙ ap (padded m d) (sym take_more)
