-- The first element that passes a test, and a loop that looks for it among the first `count` elements of a list.
use Rattle.std.specs.Prelude.{Bool, true, false, cond, ◌||◌, List, [], ◌∷◌, ◌≡◌, refl, ℕ, zero, suc, ◌+◌, ◌≤◌, ◌<◌}
use Rattle.std.specs.Prelude.{length, get_or, take, drop, ltb}
use Rattle.std.proofs.Common.{sym, ap, ◌∙◌, le_of_suc-le-suc, not-suc-le-zero, arith, add-one, drop_of_length-le}
use Rattle.std.proofs.Common.{length-take, drop-cons, get_or-take, lt-ltb}
use Prim.Native.Nat.compare
use Rattle.lists.specs.First.{first_index}
use Rattle.lists.specs.Exhaustive.{some}

module _ {A : Type 0} (p : A → Bool) (d : A) where
  pub first_within : (l : List A) → first_index p l ≤ length l
  first_within [] = omega arith
  first_within (a ∷ l) = go (p a) (first_within l)
    where
      go : (b : Bool) → first_index p l ≤ length l → cond b 0 (suc (first_index p l)) ≤ suc (length l)
      go true h = omega arith
      go false h = omega arith

  -- the element passes, where there is one
  pub first_passes : (l : List A) → first_index p l < length l → p (get_or l (first_index p l) d) ≡ true
  first_passes [] h = absurd (not-suc-le-zero h)
  first_passes (a ∷ l) h = go (p a) refl h (first_passes l)
    where
      go : (b : Bool) → p a ≡ b → cond b 0 (suc (first_index p l)) < suc (length l)
          → (first_index p l < length l → p (get_or l (first_index p l) d) ≡ true)
          → p (get_or (a ∷ l) (cond b 0 (suc (first_index p l))) d) ≡ true
      go true e h ih = e
      go false e h ih = ih (le_of_suc-le-suc h)

  -- no element before it does
  pub first_least : (l : List A) (k : ℕ) → k < length l → p (get_or l k d) ≡ true → first_index p l ≤ k
  first_least [] k h e = absurd (not-suc-le-zero h)
  first_least (a ∷ l) zero h e = omega (arith, ap (λ (b : Bool). cond b 0 (suc (first_index p l))) e)
  first_least (a ∷ l) (suc k) h e = go (p a) (first_least l k (le_of_suc-le-suc h) e)
    where
      go : (b : Bool) → first_index p l ≤ k → cond b 0 (suc (first_index p l)) ≤ suc k
      go true i = omega arith
      go false i = omega arith

-- there is one exactly when some element passes
pub first_some : {A : Type 0} (p : A → Bool) (l : List A) → ltb (first_index p l) (length l) ≡ some p l
first_some p [] = refl
first_some p (a ∷ l) = go (p a) (first_some p l)
  where
    go : (b : Bool) → ltb (first_index p l) (length l) ≡ some p l
        → ltb (cond b 0 (suc (first_index p l))) (suc (length l)) ≡ (b || some p l)
    go true e = lt-ltb 0 (suc (length l)) (omega arith)
    go false e = rw (compare.suc-suc (suc (first_index p l)) (length l)) e

module _ {A : Type 0} (p : A → Bool) (l : List A) (count : ℕ) where
  -- the elements below i were passed over, of `end` in all
  pub record Scanning (end i : ℕ) : Type 0 where
    pub within : i ≤ end
    pub all : end ≡ length (take count l)
    pub rest : first_index p (take count l) ≡ i + first_index p (drop i (take count l))

  module _ (end : ℕ) where
    pub scan_long : end ≡ count → count ≤ length l → Scanning end 0
    scan_long e h = record { within = omega arith; all = omega (arith, length-take count l); rest = omega arith }

    module _ (i : ℕ) (s : Scanning end i) where
      pub scan_end : end ≤ i → end ≡ first_index p (take count l)
      scan_end h =
          let none = ap (first_index p) (drop_of_length-le (take count l) {i = i} (omega (arith, s.all))) in
          omega (arith, s.within, s.rest)

      module _ (d : A) (more : i < end) where
        here : drop i (take count l) ≡ get_or l i d ∷ drop (suc i) (take count l)
        here =
            drop-cons (take count l) i d (omega (arith, s.all))
            ∙ ap (λ (a : A). a ∷ drop (suc i) (take count l))
            (get_or-take count l i d (omega (arith, s.all, length-take count l)))

        by_test : (b : Bool) → b ≡ p (get_or l i d)
            → first_index p (drop i (take count l)) ≡ cond b 0 (suc (first_index p (drop (suc i) (take count l))))
        by_test b h =
            ap (first_index p) here ∙ ap (λ (t : Bool). cond t 0 (suc (first_index p (drop (suc i) (take count l)))))
            (sym h)

        pub scan_found : (b : Bool) → b ≡ p (get_or l i d) → b ≡ true → i ≡ first_index p (take count l)
        scan_found b h e = omega (arith, s.rest, by_test true (sym e ∙ h))

        pub scan_next : (b : Bool) → b ≡ p (get_or l i d) → b ≡ false → Scanning end (i + 1)
        scan_next b h e =
            record {
              within = omega arith;
              all = s.all;
              rest = rw (add-one i) (omega (arith, s.rest, by_test false (sym e ∙ h)));
            }
