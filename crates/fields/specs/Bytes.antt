-- Numbers of two and of four bytes, big-endian (01, "Rule file"), and parts of a list of bytes.
use Rattle.std.specs.Prelude.{List, [], ◌∷◌, ◌++◌, Bool, true, false, ◌&&◌, ℕ, ◌+◌, ◌*◌, ◌/◌, ◌%◌, ◌<◌, get_or, take}
use Rattle.std.specs.Prelude.{drop, eqb}
use Rattle.lists.specs.Members.{All}

-- the number that stands at a place of a list of bytes; past the end there are zeros
abbrev pub two_at : List ℕ → ℕ → ℕ
two_at bs i = get_or bs i 0 * 256 + get_or bs (i + 1) 0

abbrev pub four_at : List ℕ → ℕ → ℕ
four_at bs i = two_at bs i * 65536 + two_at bs (i + 2)

-- the bytes of a number
abbrev pub two_bytes : ℕ → List ℕ
two_bytes n = n / 256 ∷ n % 256 ∷ []

abbrev pub four_bytes : ℕ → List ℕ
four_bytes n = two_bytes (n / 65536) ++ two_bytes (n % 65536)

-- the part that has a start and a length
abbrev pub part_at : List ℕ → ℕ → ℕ → List ℕ
part_at bs start size = take size (drop start bs)

-- two lists of bytes are the same
abbrev pub same : List ℕ → List ℕ → Bool
same [] [] = true
same [] (b ∷ m) = false
same (a ∷ n) [] = false
same (a ∷ n) (b ∷ m) = eqb a b && same n m

-- every number of the list is a byte
abbrev pub Bytes : List ℕ → Type 0
Bytes bs = All (λ b. b < 256) bs
