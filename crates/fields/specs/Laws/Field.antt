-- Laws of the fields of a file: each follows the one before, and its content is a part of the file.
use Rattle.std.specs.Prelude.{◌≡◌, refl, List, [], ◌∷◌, true, ℕ, zero, suc, ◌+◌, ◌<◌, length, take, drop}
use Rattle.std.proofs.Common.{sym, ap, ◌∙◌, arith, drop-drop, length-drop, length-take-le, leb-true}
use Rattle.fields.specs.Field.{Field, field_at, fields_from}
use Rattle.fields.specs.Bytes.{two_at, part_at}

skipped : (at skip : ℕ) (bs : List ℕ) → fields_from at skip bs ≡ fields_from (at + skip) 0 (drop skip bs)
unfolding fields_from
skipped at zero [] = refl
skipped at zero (b ∷ bs) = ap (λ (k : ℕ). fields_from k 0 (b ∷ bs)) (let e : at ≡ at + 0 = omega arith in e)
skipped at (suc skip) [] = refl
skipped at (suc skip) (b ∷ bs) =
    skipped (at + 1) skip bs ∙ ap (λ (k : ℕ). fields_from k 0 (drop skip bs)) (let e : at + 1 + skip
    ≡ at + suc skip = omega arith in e)

-- the first field, and then those of the bytes after it
pub fields_cons : (at : ℕ) (bs : List ℕ) → 0 < length bs → fields_from at 0 bs
    ≡ field_at at bs ∷ fields_from (at + (3 + two_at bs 1)) 0 (drop (3 + two_at bs 1) bs)
unfolding fields_from
fields_cons at [] h = absurd (omega arith)
fields_cons at (b ∷ bs) h =
    let n = two_at (b ∷ bs) 1 in
    let size : 3 + n ≡ suc (2 + n) = omega arith in
    let place : at + 1 + (2 + n) ≡ at + (3 + n) = omega arith in
    ap (λ (fs : List Field). field_at at (b ∷ bs) ∷ fs)
    (skipped (at + 1) (2 + n) bs
    ∙ ap (λ (k : ℕ). fields_from k 0 (drop (2 + n) bs)) place
    ∙ ap (λ (k : ℕ). fields_from (at + (3 + n)) 0 (drop k (b ∷ bs))) (sym size))

take_taken : (n : ℕ) (l : List ℕ) → take (length (take n l)) l ≡ take n l
take_taken zero [] = refl
take_taken zero (b ∷ l) = refl
take_taken (suc n) [] = refl
take_taken (suc n) (b ∷ l) = ap (λ (k : List ℕ). b ∷ k) (take_taken n l)

-- the content stands in the file where the field says
pub content_part : (bs : List ℕ) (at : ℕ) → part_at bs (field_at at (drop at bs)).start
    (length (field_at at (drop at bs)).content) ≡ (field_at at (drop at bs)).content
unfolding field_at
content_part bs at =
    let n = two_at (drop at bs) 1 in
    ap (λ (l : List ℕ). take (length (take n (drop 3 (drop at bs)))) l) (sym (drop-drop 3 at bs))
    ∙ take_taken n (drop 3 (drop at bs))

-- a whole field ends where its content does
pub field_end : (bs : List ℕ) (at : ℕ) → (field_at at (drop at bs)).whole ≡ true
    → (field_at at (drop at bs)).start + length (field_at at (drop at bs)).content ≡ at + (3 + two_at (drop at bs) 1)
unfolding field_at
field_end bs at w =
    let n = two_at (drop at bs) 1 in
    let all : length (take n (drop 3 (drop at bs))) ≡ n =
    length-take-le n (drop 3 (drop at bs)) (omega (
      arith,
      leb-true (3 + n) (length (drop at bs)) w,
      length-drop 3 (drop at bs),
    )) in
    omega (arith, all)
