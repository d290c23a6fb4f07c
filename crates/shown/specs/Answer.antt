-- The answer (01, "Shown sequences"): which sequences are present, by the fate of the rule, and the eight numbers of an
-- answer (M-100).
use Rattle.std.specs.Prelude.{Bool, true, false, not, Option, Some, None, List, [], ◌∷◌, ◌++◌, ℕ}
use Rattle.deciding.specs.declared.Fate.{Fate}
use Rattle.deciding.specs.declared.Fate.TheVariants.{Kept, Conflicting, Implied, SetAside, Dropped, Untested}
use Rattle.joint.specs.declared.Joint.{Joint}
use Rattle.shown.specs.declared.Shown.{Shown}
use Rattle.shown.specs.declared.BothShown.{BothShown}

-- whether a sequence is there that satisfies the kept rules, and the rule as wanted: both for a rule that is kept, the
-- satisfying one for an implied rule, the violating one for a conflicting one. The first-pass fate counts, in which a
-- rule that the second pass drops or leaves untested is kept
abbrev pub has_sequence : Bool → Fate → Bool
has_sequence wanted Kept = true
has_sequence wanted Conflicting = not wanted
has_sequence wanted Implied = wanted
has_sequence wanted SetAside = false
has_sequence wanted Dropped = true
has_sequence wanted Untested = true

-- what is said of a sequence, where there is one
abbrev pub Said : Type 0
Said = Option Shown

-- of one that is there, of this length, with the joint standing after it
abbrev pub present : ℕ → Joint → Said
present length standing = Some (record { length = length; standing = standing })

-- presence, length and the two words of the joint standing
abbrev pub shown_numbers : Said → List ℕ
shown_numbers None = 0 ∷ 0 ∷ 0 ∷ 0 ∷ []
shown_numbers (Some shown) = 1 ∷ shown.length ∷ shown.standing.first ∷ shown.standing.second ∷ []

-- first of the satisfying sequence, then of the violating one
unfoldable pub answer_numbers : BothShown → List ℕ
answer_numbers a = shown_numbers a.satisfying ++ shown_numbers a.violating
