-- The fields of a list of bytes (01, "Rule file"): one tag byte, a two-byte length, content.
use Rattle.std.specs.Prelude.{Bool, List, [], ◌∷◌, ◌++◌, ℕ, zero, suc, ◌+◌, leb, length, get_or, take, drop}
use Rattle.fields.specs.Bytes.{two_at, two_bytes}

-- `start` is where the content begins in the file; `whole` is false where the file ends inside the field
pub record Field : Type 0 where
  pub start : ℕ
  pub tag : ℕ
  pub whole : Bool
  pub content : List ℕ

-- the field that begins at a place of the file, of the bytes from there on
unfoldable pub field_at : ℕ → List ℕ → Field
field_at at bs =
    record {
      start = at + 3;
      tag = get_or bs 0 0;
      whole = leb (3 + two_at bs 1) (length bs);
      content = take (two_at bs 1) (drop 3 bs);
    }

-- the fields of the bytes from a place on, once `skip` bytes of the field before have been passed over
unfoldable pub fields_from : ℕ → ℕ → List ℕ → List Field
fields_from at zero [] = []
fields_from at (suc skip) [] = []
fields_from at zero (b ∷ bs) = field_at at (b ∷ bs) ∷ fields_from (at + 1) (2 + two_at (b ∷ bs) 1) bs
fields_from at (suc skip) (b ∷ bs) = fields_from (at + 1) skip bs

-- the fields of a file
abbrev pub fields : List ℕ → List Field
fields bs = fields_from 0 0 bs

-- the bytes of a field
abbrev pub field_bytes : ℕ → List ℕ → List ℕ
field_bytes tag content = tag ∷ (two_bytes (length content) ++ content)
