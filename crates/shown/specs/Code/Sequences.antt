-- What the code reads in the areas that a search leaves: the place of the first joint standing that fits, the steps
-- that led there, and what is said of them.
use Rattle.std.specs.Prelude.{None, Bool, true, false, cond, ◌≡◌, List, ◌∷◌, ℕ, length}
use Rattle.std.proofs.Math.Option.{Option, none, some}
use Rattle.lists.specs.Elements.{listed}
use Rattle.lists.specs.First.{first_index}
use Rattle.rule.specs.declared.Rule.{Rule}
use Rattle.joint.specs.Joint.{unpacked}
use Rattle.search.specs.Code.Areas.{steps_in}
use Rattle.deciding.specs.Code.Outcome.{among_first}
use Rattle.shown.specs.Answer.{Said, present}
use Rattle.shown.specs.Shows.{shown_of, shown_over}
use Rattle.shown.specs.declared.BothShown.{BothShown}
use Rattle.shown.specs.Sequence.{test_sequence}

-- of the first `count` of the joint standings that J gives, for a test of them
module _ (test : ℕ → Bool) (J : ℕ → ℕ) (links : List ℕ) (count : ℕ) where
  -- something of the steps to the first that passes and of that joint standing, if there are at most 4,096 and some one
  -- passes
  unfoldable pub picked_in : {A : Type 0} → (List ℕ → ℕ → A) → A → A
  picked_in f absent =
      let at = first_index test (listed count J) in
      cond (among_first test J count) (f (steps_in links at) (J at)) absent

  abbrev pub sequence_in : Option (List ℕ)
  sequence_in = picked_in (λ s j. some s) none

  abbrev pub shown_in : Said
  shown_in = picked_in (λ s j. present (length s) (unpacked j)) None

  -- what is said of a sequence, and its area before and after
  abbrev pub Looked : Said → List ℕ → List ℕ → Type 0
  Looked shown area area' = (shown ≡ shown_in) × (area' ≡ shown_over sequence_in area)

-- of a rule against kept rules
module _ (rules : List Rule) (steps : ℕ) (kept : List ℕ) (n : ℕ) where
  -- what is said of the sequence of the test, and its area before and after
  abbrev pub SequenceShown : Bool → Said → List ℕ → List ℕ → Type 0
  SequenceShown wanted shown area area' =
      (shown ≡ shown_of rules (n ∷ kept) (test_sequence rules steps kept n wanted))
      × (area' ≡ shown_over (test_sequence rules steps kept n wanted) area)

  -- both sequences
  pub record BothSequences (satisfying violating satisfying' violating' : List ℕ) (answer : BothShown) : Type 0 where
    pub satisfies : SequenceShown true answer.satisfying satisfying satisfying'
    pub violates : SequenceShown false answer.violating violating violating'
