-- What refuses a file (01, "Refused inputs"): the first faulty field, by its first fault, or that no field is a step.
use Rattle.std.specs.Prelude.{true, false, ◌≡◌, List, [], ◌∷◌, ◌++◌, ◌⊎◌, ℕ, length}
use Rattle.lists.specs.Members.{All}
use Rattle.fields.specs.Field.{Field}
use Rattle.rule_file.specs.Fault.{Decoded, Faults, first_fault, faults}
use Rattle.rule_file.specs.Decode.{added}

-- none of the conditions holds
abbrev pub Clear : Faults → Type 0
Clear fs = All (λ f. f.0 ≡ false) fs

-- what the fields declare, on top of what those before them did
abbrev pub declared : Decoded → List Field → Decoded
declared d [] = d
declared d (f ∷ fs) = declared (added d f) fs

-- none of the fields has a fault, each given what those before it declared
abbrev pub Faultless : Decoded → List Field → Type 0
Faultless d [] = Unit
Faultless d (f ∷ fs) = (first_fault (faults d f) ≡ 0) × Faultless (added d f) fs

-- of a list of faults, the first one that holds has the number n
pub record FirstHolds (fs : Faults) (n : ℕ) : Type 0 where
  pub earlier : Faults
  pub later : Faults
  pub split : fs ≡ earlier ++ ((true, n) ∷ later)
  pub clear : Clear earlier

-- of a list of fields, the first faulty one has the number n as its first fault
pub record FirstFaulty (d : Decoded) (fs : List Field) (n : ℕ) : Type 0 where
  pub before : List Field
  pub field : Field
  pub after : List Field
  pub split : fs ≡ before ++ (field ∷ after)
  pub faultless : Faultless d before
  pub first : FirstHolds (faults (declared d before) field) n

-- no field is faulty, and none declares a step
pub record NoStep (d : Decoded) (fs : List Field) : Type 0 where
  pub faultless : Faultless d fs
  pub none : length (declared d fs).names ≡ 0

abbrev pub RefusedBy : Decoded → List Field → ℕ → Type 0
RefusedBy d fs n = FirstFaulty d fs n ⊎ ((n ≡ 13) × NoStep d fs)
