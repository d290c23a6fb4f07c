-- Places of w binary digits in a number: place i has the digits w * i to w * i + w - 1. What stands at a place, and a
-- place replaced by shifts and masks. The laws hold at every width and word size.
use Rattle.std.specs.Prelude.{◌≡◌, refl, ℕ, zero, suc, ◌+◌, ◌-◌, ◌*◌, ◌/◌, ◌%◌, ◌^◌, ◌≤◌, ◌<◌}
use Rattle.std.proofs.Common.{sym, ap₂, ◌∙◌, subst, mod-lt, mod-eq_of_lt, mul-suc, mul-zero, le_refl, lt_of_lt_of_le}
use Rattle.std.proofs.Common.{add-mul, mul_assoc, add_assoc, add_comm, add-sub_of_le, mul-le-mul_left, arith, add-one}
use Rattle.std.proofs.Common.{pow_pos, pow_mono, shl_lt, shl_exact, pow-add, shr-shr, shr_lt}
use Rattle.std.proofs.Math.Path.{ap}
use Rattle.std.proofs.Math.Nat.{mod-one}
use Rattle.std.proofs.Math.Decide.{dec_lt, ℕ_discrete}
use Rattle.std.proofs.Math.Pow.{ones_lt, high, low, split, ones_split, shr_mod, mod-mod-pow, field}
use Rattle.std.proofs.lemmas.Nat.{mod-pow-add, and_block, or_block, and_mask}
use Rattle.std.proofs.Math.Arith.{digits_lt}
use Rattle.std.specs.Int.Bits.{bit_and, bit_or, or_shifted_r, or_zero_r}
use Rattle.places.specs.Places.{place, replace_at, replace, placed}

pub place_lt : (w n i : ℕ) → place w n i < 2 ^ w
unfolding place
place_lt w n i = mod-lt (n / 2 ^ (w * i)) (pow_pos w)

-- the digits from k on and those below k of a number replaced at k
high_part : (w k n v : ℕ) → replace_at w k n v / 2 ^ k ≡ n / 2 ^ k / 2 ^ w * 2 ^ w + v
unfolding replace_at
high_part w k n v = high (n / 2 ^ k / 2 ^ w * 2 ^ w + v) k (mod-lt n (pow_pos k))

low_part : (w k n v : ℕ) → replace_at w k n v % 2 ^ k ≡ n % 2 ^ k
unfolding replace_at
low_part w k n v = low (n / 2 ^ k / 2 ^ w * 2 ^ w + v) k (mod-lt n (pow_pos k))

-- the replaced place
pub place_same : (w n i v : ℕ) → v < 2 ^ w → place w (replace w n i v) i ≡ v
unfolding place replace
place_same w n i v h = ap (λ (x : ℕ). x % 2 ^ w) (high_part w (w * i) n v) ∙ low (n / 2 ^ (w * i) / 2 ^ w) w h

-- a place is read off the number's low digits, and off its high ones
from_low : (w d k n : ℕ) → n / 2 ^ k % 2 ^ w ≡ n % 2 ^ ((d + w) + k) / 2 ^ k % 2 ^ w
from_low w d k n = sym (ap (λ (x : ℕ). x % 2 ^ w) (field n (d + w) k) ∙ mod-mod-pow (n / 2 ^ k) d w)

from_high : (w d k n : ℕ) → n / 2 ^ k / 2 ^ w / 2 ^ d ≡ n / 2 ^ ((k + w) + d)
from_high w d k n = ap (λ (x : ℕ). x / 2 ^ d) (shr-shr n k w) ∙ shr-shr n (k + w) d

above : (w d k n v : ℕ) → v < 2 ^ w → replace_at w k n v / 2 ^ ((k + w) + d) ≡ n / 2 ^ ((k + w) + d)
above w d k n v h =
    sym (from_high w d k (replace_at w k n v))
    ∙ ap (λ (x : ℕ). x / 2 ^ w / 2 ^ d) (high_part w k n v)
    ∙ ap (λ (x : ℕ). x / 2 ^ d) (high (n / 2 ^ k / 2 ^ w) w h)
    ∙ from_high w d k n

below : (w d k n v : ℕ) → replace_at w ((d + w) + k) n v / 2 ^ k % 2 ^ w ≡ n / 2 ^ k % 2 ^ w
below w d k n v =
    from_low w d k (replace_at w ((d + w) + k) n v)
    ∙ ap (λ (x : ℕ). x / 2 ^ k % 2 ^ w) (low_part w ((d + w) + k) n v)
    ∙ sym (from_low w d k n)

-- i < j leaves w * j - w * i - w digits between the two places
pub next_le : (w i j : ℕ) → i < j → w * i + w ≤ w * j
next_le w i j h = subst (λ (x : ℕ). x ≤ w * j) (mul-suc w i) (mul-le-mul_left w h)

pub place_above : (w n i j v : ℕ) → i < j → v < 2 ^ w → place w (replace w n i v) j ≡ place w n j
unfolding place replace
place_above w n i j v l h =
    let e : (w * i + w) + (w * j - (w * i + w)) ≡ w * j = add-sub_of_le (next_le w i j l) in
    ap (λ (x : ℕ). x % 2 ^ w)
    (subst (λ (x : ℕ). replace_at w (w * i) n v / 2 ^ x ≡ n / 2 ^ x) e (above w (w * j - (w * i + w)) (w * i) n v h))

pub place_below : (w n i j v : ℕ) → j < i → place w (replace w n i v) j ≡ place w n j
unfolding place replace
place_below w n i j v l =
    let g : w * j + w ≤ w * i = next_le w j i l in
    let e : ((w * i - (w * j + w)) + w) + w * j ≡ w * i = omega arith in
    subst (λ (x : ℕ). replace_at w x n v / 2 ^ (w * j) % 2 ^ w ≡ n / 2 ^ (w * j) % 2 ^ w) e
    (below w (w * i - (w * j + w)) (w * j) n v)

-- any other place
pub place_other : (w n i j v : ℕ) → v < 2 ^ w → (i ≡ j → ⊥) → place w (replace w n i v) j ≡ place w n j
place_other w n i j v h ne = go (dec_lt i j)
  where
    go : Dec (i < j) → place w (replace w n i v) j ≡ place w n j
    go (yes l) = place_above w n i j v l h
    go (no q) = place_below w n i j v (omega arith)

-- a number of m places has m places with one of them replaced
bound : (w d k n v : ℕ) → v < 2 ^ w → n < 2 ^ ((d + w) + k) → replace_at w k n v < 2 ^ ((d + w) + k)
unfolding replace_at
bound w d k n v h b =
    let q : n / 2 ^ k / 2 ^ w < 2 ^ d = shr_lt d w (shr_lt (d + w) k b) in
    let r : n / 2 ^ k / 2 ^ w * 2 ^ w + v < 2 ^ (d + w) =
    subst (λ (x : ℕ). n / 2 ^ k / 2 ^ w * 2 ^ w + v < x) (sym (pow-add 2 d w)) (digits_lt q h) in
    subst (λ (x : ℕ). replace_at w k n v < x) (sym (pow-add 2 (d + w) k)) (digits_lt r (mod-lt n (pow_pos k)))

pub replace_lt : (w m n i v : ℕ) → i < m → v < 2 ^ w → n < 2 ^ (w * m) → replace w n i v < 2 ^ (w * m)
unfolding replace
replace_lt w m n i v l h b =
    let g : w * i + w ≤ w * m = next_le w i m l in
    let e : ((w * m - (w * i + w)) + w) + w * i ≡ w * m = omega arith in
    subst (λ (x : ℕ). replace_at w (w * i) n v < 2 ^ x) e
    (bound w (w * m - (w * i + w)) (w * i) n v h (subst (λ (x : ℕ). n < 2 ^ x) (sym e) b))

-- two numbers of m places are equal if all their places are
same_low : (w m a b : ℕ) → ((i : ℕ) → i < m → place w a i ≡ place w b i) → a % 2 ^ (w * m) ≡ b % 2 ^ (w * m)
unfolding place
same_low w zero a b h = rw (mul-zero, mod-one, mod-one)
same_low w (suc m) a b h =
    rw (mul-suc, add_comm (w * m) w)
    (mod-pow-add a w (w * m)
    ∙ ap₂ (λ (x y : ℕ). x * 2 ^ (w * m) + y) (h m (le_refl (suc m))) (same_low w m a b (λ i l. h i (omega arith)))
    ∙ sym (mod-pow-add b w (w * m)))

pub places_ext : (w m a b : ℕ) → a < 2 ^ (w * m) → b < 2 ^ (w * m) → ((i : ℕ) → i < m → place w a i ≡ place w b i) → a
    ≡ b
places_ext w m a b ha hb h = sym (mod-eq_of_lt ha) ∙ same_low w m a b h ∙ mod-eq_of_lt hb

-- what was placed stands there, of numbers that fit
pub placed_at : (w : ℕ) (f : ℕ → ℕ) (m i : ℕ) → ((k : ℕ) → k < m → f k < 2 ^ w) → i < m → place w (placed w f m) i ≡ f i
placed_at w f zero i low h = absurd (omega arith)
placed_at w f (suc m) i low h = go (ℕ_discrete m i) (λ l. placed_at w f m i (λ k b. low k (omega arith)) l)
  where
    go : Dec (m ≡ i) → (i < m → place w (placed w f m) i ≡ f i) → place w (placed w f (suc m)) i ≡ f i
    go (yes e) earlier =
        unfold placed in
        (subst (λ (k : ℕ). place w (replace w (placed w f m) m (f m)) k ≡ f k) e
        (place_same w (placed w f m) m (f m) (low m (le_refl (suc m)))))
    go (no n) earlier =
        unfold placed in
        (place_other w (placed w f m) m i (f m) (low m (le_refl (suc m))) n ∙ earlier (omega arith))

placed_same : (w : ℕ) (f g : ℕ → ℕ) (m : ℕ) → ((k : ℕ) → k < m → f k ≡ g k) → placed w f m ≡ placed w g m
unfolding placed
placed_same w f g zero h = refl
placed_same w f g (suc m) h =
    ap₂ (λ (n v : ℕ). replace w n m v) (placed_same w f g m (λ k l. h k (omega arith))) (h m (le_refl (suc m)))

-- a loop places one number after the other
module _ (w : ℕ) (f : ℕ → ℕ) (m word : ℕ) (e : word ≡ placed w f m) where
  pub placed_more : (after : ℕ) → after ≡ replace w word m (f m) → after ≡ placed w f (m + 1)
  unfolding placed
  placed_more after h = h ∙ ap (λ (n : ℕ). replace w n m (f m)) e ∙ ap (placed w f) (sym (add-one m))

  pub placed_whole : (g : ℕ → ℕ) (n : ℕ) → m ≡ n → ((k : ℕ) → k < n → f k ≡ g k) → word ≡ placed w g n
  placed_whole g n d h = e ∙ ap (placed w f) d ∙ placed_same w f g n h

-- ---- by shifts and masks, on numbers of j + (w + k) digits

-- all digits set but the w from k on
mask : (j w k : ℕ) → (2 ^ (j + (w + k)) - 1) - (2 ^ w - 1) * 2 ^ k ≡ (2 ^ j - 1) * 2 ^ (w + k) + (2 ^ k - 1)
mask j w k =
    let a = ones_split j (w + k) in
    let b = ones_split w k in
    omega (arith, a, b)

-- n & !(ones << k)
cleared : (j w k n : ℕ) → n < 2 ^ (j + (w + k))
    → bit_and n ((2 ^ (j + (w + k)) - 1) - (2 ^ w - 1) * 2 ^ k) ≡ n / 2 ^ (w + k) * 2 ^ (w + k) + n % 2 ^ k
cleared j w k n h =
    ap₂ bit_and (sym (split n (w + k))) (mask j w k)
    ∙ and_block (w + k) (n / 2 ^ (w + k)) (2 ^ j - 1) (n % 2 ^ (w + k)) (2 ^ k - 1) (mod-lt n (pow_pos (w + k)))
    (lt_of_lt_of_le (ones_lt k) (pow_mono (omega arith)))
    ∙ ap₂ (λ (x y : ℕ). x * 2 ^ (w + k) + y) (and_mask (n / 2 ^ (w + k)) j
    ∙ shr_mod j (w + k) h) (and_mask (n % 2 ^ (w + k)) k ∙ mod-mod-pow n w k)

-- a number with its digits from w + k on, then v at k, then its k low digits, is the number replaced at k
parts : (w k n v : ℕ) → n / 2 ^ (w + k) * 2 ^ (w + k) + (v * 2 ^ k + n % 2 ^ k) ≡ replace_at w k n v
unfolding replace_at
parts w k n v =
    rw (shr-shr n k w, add_comm k w, add-mul, mul_assoc, ← pow-add 2 w k, add_assoc (n / 2 ^ (w + k) * 2 ^ (w + k)))

-- (n & !(ones << k)) | (v << k)
by_mask : (j w k n v : ℕ) → v < 2 ^ w → n < 2 ^ (j + (w + k))
    → bit_or (bit_and n ((2 ^ (j + (w + k)) - 1) - (2 ^ w - 1) * 2 ^ k)) (v * 2 ^ k) ≡ replace_at w k n v
by_mask j w k n v hv h =
    let z : v * 2 ^ k ≡ 0 * 2 ^ (w + k) + v * 2 ^ k = omega arith in
    ap₂ bit_or (cleared j w k n h) z
    ∙ or_block (w + k) (n / 2 ^ (w + k)) 0 (n % 2 ^ k) (v * 2 ^ k)
    (lt_of_lt_of_le (mod-lt n (pow_pos k)) (pow_mono (omega arith))) (shl_lt w k hv)
    ∙ ap₂ (λ (x y : ℕ). x * 2 ^ (w + k) + y) (or_zero_r (n / 2 ^ (w + k)))
    (or_shifted_r v k (n % 2 ^ k) (mod-lt n (pow_pos k)))
    ∙ parts w k n v

-- the same at a machine word of N digits, as the code computes it
pub replaced_by_mask : (N w k n v : ℕ) → w + k ≤ N → v < 2 ^ w → n < 2 ^ N
    → bit_or (bit_and n ((2 ^ N - 1) - (2 ^ w - 1) * 2 ^ k % 2 ^ N)) (v * 2 ^ k % 2 ^ N) ≡ replace_at w k n v
replaced_by_mask N w k n v l hv h =
    let e : (N - (w + k)) + (w + k) ≡ N = omega arith in
    rw (shl_exact w k N (ones_lt w) l, shl_exact w k N hv l)
    (subst (λ (x : ℕ). bit_or (bit_and n ((2 ^ x - 1) - (2 ^ w - 1) * 2 ^ k)) (v * 2 ^ k) ≡ replace_at w k n v) e
    (by_mask (N - (w + k)) w k n v hv (subst (λ (x : ℕ). n < 2 ^ x) (sym e) h)))
