-- Fields written and read: the bytes of a field are read back as it, and whole fields joined are the bytes they were
-- read from.
use Rattle.std.proofs.Math.Bool.{true}
use Rattle.std.specs.Prelude.{List, [], ◌∷◌, ◌++◌, ◌≡◌, refl, ℕ, zero, suc, ◌+◌, ◌≤◌, ◌<◌, length, drop}
use Rattle.std.proofs.Common.{sym, ap, ap₂, ◌∙◌, arith, drop_at, take-add, length-take-le}
use Rattle.std.proofs.Math.Dec.{leb}
use Rattle.std.proofs.Math.ListN.{take, length-append}
use Rattle.std.proofs.Math.Seq.{take-append_seam}
use borrow.Author.Tests.{le-leb, leb-true}
use Rattle.lists.specs.Elements.{concat_map}
use Rattle.lists.specs.Members.{All}
use Rattle.lists.specs.Laws.Members.{all_take, all_drop}
use Rattle.fields.specs.Field.{Field, field_at, fields_from, field_bytes}
use Rattle.fields.specs.Bytes.{two_at, two_bytes, Bytes}
use Rattle.fields.specs.Laws.Number.{two_back, two_bytes_lem}
use Rattle.fields.specs.Laws.Field.{fields_cons}

-- ---- from fields to bytes and back

-- a whole field
abbrev pub whole_field : ℕ → ℕ → List ℕ → Field
whole_field at tag c = record { start = at + 3; tag = tag; whole = true; content = c }

module _ (at tag : ℕ) (c rest : List ℕ) where
  abbrev text : List ℕ
  text = field_bytes tag c ++ rest

  field_read : field_at at text ≡ whole_field at tag c
  unfolding field_at
  field_read =
      let whole : leb (3 + two_at text 1) (length text)
      ≡ true = le-leb (3 + two_at text 1) (length text) (omega (arith, two_back (length c), length-append c rest)) in
      λ i. record {
        start = at + 3;
        tag = tag;
        whole = whole i;
        content =
            (ap (λ (k : ℕ). take k (c ++ rest)) (two_back (length c)) ∙ take-append_seam c rest) i;
      }

  pub fields_read : fields_from at 0 text ≡ whole_field at tag c ∷ fields_from (at + (3 + length c)) 0 rest
  fields_read =
      fields_cons at text (omega arith)
      ∙ ap₂ (λ (f : Field) (k : ℕ). f ∷ fields_from (at + (3 + k)) 0 (drop (3 + k) text)) field_read
      (two_back (length c))
      ∙ ap (λ (l : List ℕ). whole_field at tag c ∷ fields_from (at + (3 + length c)) 0 l)
      (drop_at (field_bytes tag c) rest (3 + length c) (omega arith))

-- the bytes of a field that was read
abbrev pub field_text : Field → List ℕ
field_text f = field_bytes f.tag f.content

-- the two bytes of the length and then the content, in a whole field
header : (bs : List ℕ) (n : ℕ) → Bytes bs → n ≡ two_at bs 0 → 2 + n ≤ length bs
    → take (2 + n) bs ≡ two_bytes (length (take n (drop 2 bs))) ++ take n (drop 2 bs)
header [] n b e h = absurd (omega arith)
header (x ∷ []) n b e h = absurd (omega arith)
header (x ∷ y ∷ cs) n b e h =
    take-add 2 n (x ∷ y ∷ cs)
    ∙ ap (λ (l : List ℕ). l ++ take n cs)
    (sym (two_bytes_lem x y b.1.0) ∙ ap two_bytes (sym e ∙ sym (length-take-le n cs (omega arith))))

pub bytes_joined : (at skip : ℕ) (bs : List ℕ) → Bytes bs → All (λ f. f.whole ≡ true) (fields_from at skip bs)
    → skip ≤ length bs → bs ≡ take skip bs ++ concat_map field_text (fields_from at skip bs)
unfolding fields_from field_at
bytes_joined at zero [] b w h = refl
bytes_joined at (suc skip) [] b w h = absurd (omega arith)
bytes_joined at (suc skip) (x ∷ bs) b w h =
    ap (λ (l : List ℕ). x ∷ l) (bytes_joined (at + 1) skip bs b.1 w (omega arith))
bytes_joined at zero (x ∷ bs) b w h =
    let n = two_at (x ∷ bs) 1 in
    let size : 2 + n ≤ length bs = omega (arith, leb-true (3 + n) (suc (length bs)) w.0) in
    let rest = concat_map field_text (fields_from (at + 1) (2 + n) bs) in
    ap (λ (l : List ℕ). x ∷ l) (bytes_joined (at + 1) (2 + n) bs b.1 w.1 size
    ∙ ap (λ (l : List ℕ). l ++ rest) (header bs n b.1 refl size))

pub contents_bytes : (at skip : ℕ) (bs : List ℕ) → Bytes bs → All (λ f. Bytes f.content) (fields_from at skip bs)
unfolding fields_from field_at
contents_bytes at zero [] b = tt
contents_bytes at (suc skip) [] b = tt
contents_bytes at (suc skip) (x ∷ bs) b = contents_bytes (at + 1) skip bs b.1
contents_bytes at zero (x ∷ bs) b = (
  all_take (λ n. n < 256) (two_at (x ∷ bs) 1) (drop 3 (x ∷ bs))
      (all_drop (λ n. n < 256) 3 (x ∷ bs) b),
  contents_bytes (at + 1) (2 + two_at (x ∷ bs) 1) bs b.1,
)
