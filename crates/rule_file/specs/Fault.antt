-- The faults of a field and their numbers (01, "Refused inputs", 2 to 12; M-100, 17), given what the fields before it
-- declared.
use Rattle.std.specs.Prelude.{List, [], ◌∷◌, Bool, true, not, cond, ◌&&◌, ℕ, leb, ltb, eqb, length, get_or}
use Rattle.lists.specs.Exhaustive.{every, some}
use Rattle.rule.specs.declared.Rule.{Rule}
use Rattle.rule.specs.Good.{good_weight, good_template, good_count, good_steps}
use Rattle.rule.specs.Limits.{most_steps, most_rules, longest_name}
use Rattle.fields.specs.Bytes.{four_at, same}
use Rattle.fields.specs.Field.{Field}
use Rattle.rule_file.specs.declared.Place.{Place}

-- what the fields so far declared, in order: the steps' names, where these stand in the file, and the rules
pub record Decoded : Type 0 where
  pub names : List (List ℕ)
  pub places : List Place
  pub rules : List Rule

-- a name is among others
abbrev pub among : List ℕ → List (List ℕ) → Bool
among n names = some (same n) names

-- a name has 1 to 16 bytes, each hex 21 to 7E
abbrev pub printable : ℕ → Bool
printable b = leb 0x21 b && leb b 0x7E

abbrev pub good_name : List ℕ → Bool
good_name n = leb 1 (length n) && (leb (length n) longest_name && every printable n)

-- support, confidence and interest, in the content of a rule
abbrev pub good_weights : List ℕ → Bool
good_weights c = good_weight (four_at c 3) && (good_weight (four_at c 7) && good_weight (four_at c 11))

-- A fault is a condition and its number. Those of a field stand in the order of testing.
abbrev pub Faults : Type 0
Faults = List (Bool × ℕ)

-- a step, after other names and a number of rules: its content is its name
abbrev pub step_faults : List (List ℕ) → ℕ → List ℕ → Faults
step_faults names rules name =
    (ltb 0 rules, 4)
    ∷ (leb most_steps (length names), 5)
    ∷ (not (good_name name), 6)
    ∷ (among name names, 7)
    ∷ []

-- a rule, after a number of steps and of rules: its content is template, x, y and three weights
abbrev pub rule_faults : ℕ → ℕ → List ℕ → Faults
rule_faults steps rules c =
    (leb most_rules rules, 8)
    ∷ (not (eqb (length c) 15), 9)
    ∷ (not (good_template (get_or c 0 0)), 10)
    ∷ (not (good_count (get_or c 0 0) (get_or c 2 0)), 17)
    ∷ (not (good_steps steps (get_or c 0 0) (get_or c 1 0) (get_or c 2 0)), 11)
    ∷ (not (good_weights c), 12)
    ∷ []

-- tag 53 (hex) is a step, 52 a rule, and there is no other
unfoldable pub tag_faults : Decoded → ℕ → List ℕ → Faults
tag_faults d tag c =
    cond (eqb tag 0x53) (step_faults d.names (length d.rules) c)
    (cond (eqb tag 0x52) (rule_faults (length d.names) (length d.rules) c) ((true, 3) ∷ []))

unfoldable pub faults : Decoded → Field → Faults
faults d f = (not f.whole, 2) ∷ tag_faults d f.tag f.content

-- the number of the first fault that holds, and 0 where none does
abbrev pub first_fault : Faults → ℕ
first_fault [] = 0
first_fault (f ∷ fs) = cond f.0 f.1 (first_fault fs)
