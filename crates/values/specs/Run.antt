-- What the state of a rule after a run says (01, "Monitor"; M-103): its value, and which steps of the run are relevant,
-- over continuations and by what the rule means.
use Rattle.std.specs.Prelude.{◌≡◌, List, [], ◌∷◌, ◌++◌, ◌↔◌, ℕ, ◌<◌, length, get_or, take}
use Rattle.lists.specs.Members.{Member, Distinct}
use Rattle.values.specs.declared.Value.{Value}
use Rattle.values.specs.Value.{HasValue}
use Rattle.values.specs.Activation.{ActivationDiffers}
use Rattle.values.specs.Progress.{held_relevant}

-- over so many declared steps; P holds of the sequences that satisfy the rule
module _ (steps : ℕ) (P : List ℕ → Type 0) where
  -- 02, M-103: "a step is relevant if it changes the value or the set of permitted steps": the step z after these
  abbrev pub Relevant : List ℕ → ℕ → Type 0
  Relevant before z = ActivationDiffers steps P before (before ++ (z ∷ []))

  -- the places of a run at which the step is relevant, each once
  pub record RelevantPlaces (run places : List ℕ) : Type 0 where
    pub distinct : Distinct places
    pub exactly : (k : ℕ) → Member k places ↔ ((k < length run) × Relevant (take k run) (get_or run k 0))

  -- the run has the value, and so many relevant steps, held at 4,294,967,295
  pub record StateOf (run : List ℕ) (value : Value) (relevant : ℕ) : Type 0 where
    pub has_value : HasValue steps P run value
    pub places : List ℕ
    pub relevant_places : RelevantPlaces run places
    pub count : relevant ≡ held_relevant (length places)
