-- The sequences that a test of a rule against kept rules gives (01, "Shown sequences"): the steps by which the first
-- joint standing that fits was found, read back along the path to it. `IsShown` says by the meanings which ones these
-- are.
use Rattle.std.specs.Prelude.{Bool, cond, List, ℕ}
use Rattle.std.proofs.Math.Option.{Option, none, some}
use Rattle.lists.specs.First.{first_index}
use Rattle.rule.specs.declared.Rule.{Rule}
use Rattle.search.specs.Search.{found_by}
use Rattle.deciding.specs.Outcome.{among_few, test_search, test_found, test_fits}

-- of rule n against the kept rules, over so many declared steps
module _ (rules : List Rule) (steps : ℕ) (kept : List ℕ) (n : ℕ) where
  -- the place of the first that fits
  abbrev pub first_fit : Bool → ℕ
  first_fit wanted = first_index (test_fits rules steps kept n wanted) (test_found rules steps kept n)

  -- the steps by which it was found
  abbrev pub steps_to_fit : Bool → List ℕ
  steps_to_fit wanted = found_by (test_search rules steps kept n) (first_fit wanted)

  -- there is one where the joint standings are at most 4,096 and some one of them fits
  unfoldable pub test_sequence : Bool → Option (List ℕ)
  test_sequence wanted =
      cond (among_few (test_fits rules steps kept n wanted) (test_found rules steps kept n))
      (some (steps_to_fit wanted)) none
