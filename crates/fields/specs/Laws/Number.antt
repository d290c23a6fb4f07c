-- Numbers of several bytes: their bytes give them back, bytes are those of the number that they give, and where they
-- stand.
use Rattle.std.specs.Prelude.{◌≡◌, List, [], ◌∷◌, ◌++◌, ℕ, ◌+◌, ◌*◌, ◌/◌, ◌%◌, ◌<◌, get_or, drop}
use Rattle.std.proofs.Common.{ap, ap₂, ◌∙◌, add-zero, div-add-mod', arith, get_or-drop}
use Rattle.fields.specs.Bytes.{two_at, four_at, two_bytes, four_bytes}

pub two_back : (n : ℕ) → n / 256 * 256 + n % 256 ≡ n
two_back n = div-add-mod' n 256

pub four_back : (n : ℕ) → (n / 65536 / 256 * 256 + n / 65536 % 256) * 65536 + (n % 65536 / 256 * 256 + n % 65536 % 256)
    ≡ n
four_back n = ap₂ (λ (h l : ℕ). h * 65536 + l) (two_back (n / 65536)) (two_back (n % 65536)) ∙ div-add-mod' n 65536

pub two_bytes_lem : (h l : ℕ) → l < 256 → two_bytes (h * 256 + l) ≡ h ∷ l ∷ []
two_bytes_lem h l b =
    let high : (h * 256 + l) / 256 ≡ h = omega arith in
    let low : (h * 256 + l) % 256 ≡ l = omega arith in
    ap₂ (λ (x y : ℕ). x ∷ y ∷ []) high low

pub four_bytes_lem : (a b c d : ℕ) → b < 256 → c < 256 → d < 256 → four_bytes ((a * 256 + b) * 65536 + (c * 256 + d))
    ≡ a ∷ b ∷ c ∷ d ∷ []
four_bytes_lem a b c d p q r =
    let n = (a * 256 + b) * 65536 + (c * 256 + d) in
    let high : n / 65536 ≡ a * 256 + b = omega arith in
    let low : n % 65536 ≡ c * 256 + d = omega arith in
    ap₂ (λ (x y : ℕ). two_bytes x ++ two_bytes y) high low
    ∙ ap₂ (λ (x y : List ℕ). x ++ y) (two_bytes_lem a b p) (two_bytes_lem c d r)

-- the number at a place is that at the beginning of the bytes from there on
pub two_after : (bs : List ℕ) (i k : ℕ) → two_at (drop i bs) k ≡ two_at bs (i + k)
two_after bs i k =
    let next : i + (k + 1) ≡ i + k + 1 = omega arith in
    ap₂ (λ (h l : ℕ). h * 256 + l) (get_or-drop i bs k 0)
    (get_or-drop i bs (k + 1) 0 ∙ ap (λ (j : ℕ). get_or bs j 0) next)

pub four_after : (bs : List ℕ) (i : ℕ) → four_at (drop i bs) 0 ≡ four_at bs i
four_after bs i = ap₂ (λ (h l : ℕ). h * 65536 + l) (two_after bs i 0 ∙ ap (two_at bs) (add-zero i)) (two_after bs i 2)
