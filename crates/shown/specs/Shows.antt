-- What showing promises (01, "Shown sequences" and "Refused inputs"; M-102), worked out from the bytes of a file and a
-- rule number: which sequences are shown is said by the meanings of the rules, and there is at most one of each kind
-- (`shown_only`).
use Rattle.std.proofs.Math.Option.{Option, none, some}
use Rattle.std.specs.Prelude.{None, List, ◌∷◌, Bool, true, false, cond, ◌&&◌, ◌≡◌, ℕ, ◌<◌, length, leb}
use Rattle.lists.specs.Decides.{Wanted}
use Rattle.lists.specs.Order.{IsFirst}
use Rattle.lists.specs.Parts.{filter, before}
use Rattle.refusals.specs.Refusal.{written_over}
use Rattle.rule.specs.declared.Rule.{Rule}
use Rattle.rule.specs.Behaviour.{SatisfiesRule}
use Rattle.rule_file.specs.Contents.{rules_of, steps_of, rule_refusal}
use Rattle.ranking.specs.Ranked.{decision_order}
use Rattle.joint.specs.Joint.{unpacked}
use Rattle.joint.specs.After.{joint_after}
use Rattle.search.specs.Areas.{RestKept, work_areas_fit}
use Rattle.search.specs.Limits.{sequence_bytes}
use Rattle.deciding.specs.Reports.{reported}
use Rattle.deciding.specs.Demand.{Satisfying, kept_first}
use Rattle.shown.specs.declared.BothShown.{BothShown}
use Rattle.shown.specs.Answer.{has_sequence, Said, present, answer_numbers}
use Rattle.shown.specs.Limits.{answer_size}
use Rattle.shown.specs.Sequence.{test_sequence}

-- ---- a sequence that is shown, or none

-- what is said of it: its length, and the joint standing of these rules after it
abbrev pub shown_of : List Rule → List ℕ → Option (List ℕ) → Said
shown_of rules members none = None
shown_of rules members (some s) = present (length s) (unpacked (joint_after rules members s))

-- its area afterwards
abbrev pub shown_over : Option (List ℕ) → List ℕ → List ℕ
shown_over none area = area
shown_over (some s) area = written_over s area

abbrev pub is_present : Option (List ℕ) → Bool
is_present none = false
is_present (some s) = true

-- ---- for a rule against kept rules, over so many declared steps

-- a sequence of declared steps that satisfies the kept rules, and rule n or not as wanted
pub record Fits (rules : List Rule) (steps : ℕ) (kept : List ℕ) (n : ℕ) (wanted : Bool) (s : List ℕ) : Type 0 where
  pub satisfying : Satisfying rules steps kept s
  pub rule : Wanted wanted (SatisfiesRule rules n s)

-- ---- for rule n of a file
module _ (bs : List ℕ) (n : ℕ) where
  -- the rules kept in the first pass before it
  abbrev pub kept_before : List ℕ
  kept_before = filter (kept_first (reported bs)) (before n (decision_order bs))

  -- a sequence fits that satisfies these, and it or not as wanted
  abbrev pub FitsRule : Bool → List ℕ → Type 0
  FitsRule wanted s = Fits (rules_of bs) (steps_of bs) kept_before n wanted s

  -- what is to be shown: it is present exactly by the rule's fate, and it is the first of all that fit, of any length
  -- (M-102): the shortest, and among these the one whose first differing step has the smaller number. It is shorter
  -- than the first count
  pub record IsShown (wanted : Bool) (shown : Option (List ℕ)) : Type 0 where
    pub present : is_present shown ≡ has_sequence wanted (reported bs n).fate
    pub first : (s : List ℕ) → shown ≡ some s → IsFirst (FitsRule wanted) s
    pub short : (s : List ℕ) → shown ≡ some s → length s < (reported bs n).first

  -- the sequence that is shown
  abbrev pub shown_sequence : Bool → Option (List ℕ)
  shown_sequence wanted = test_sequence (rules_of bs) (steps_of bs) kept_before n wanted

  -- what is said of two sequences
  abbrev pub both_of : Option (List ℕ) → Option (List ℕ) → BothShown
  both_of satisfying violating =
      record {
        satisfying = shown_of (rules_of bs) (n ∷ kept_before) satisfying;
        violating = shown_of (rules_of bs) (n ∷ kept_before) violating;
      }

  -- the sequence areas and the answer, before and after
  pub record ShownFor (satisfying violating answer satisfying' violating' answer' : List ℕ) : Type 0 where
    pub satisfying_is : IsShown true (shown_sequence true)
    pub violating_is : IsShown false (shown_sequence false)
    pub satisfying_area : satisfying' ≡ shown_over (shown_sequence true) satisfying
    pub violating_area : violating' ≡ shown_over (shown_sequence false) violating
    pub numbers : answer' ≡ written_over (answer_numbers (both_of (shown_sequence true) (shown_sequence false))) answer

-- ---- what is refused

-- the areas lent are long enough
unfoldable pub show_areas_fit : ℕ → ℕ → ℕ → ℕ → ℕ → Bool
show_areas_fit found links satisfying violating answer =
    work_areas_fit found links
    && (leb sequence_bytes satisfying && (leb sequence_bytes violating && leb answer_size answer))

-- by the lengths of the areas lent, the file and the rule number: number 1 comes first
unfoldable pub show_refusal : ℕ → ℕ → ℕ → ℕ → ℕ → List ℕ → ℕ → ℕ
show_refusal found links satisfying violating answer bs n =
    cond (show_areas_fit found links satisfying violating answer) (rule_refusal bs n) 1

-- ---- what a call promises, of the areas before it and after it and of the number it returns
pub record Shows (file : List ℕ) (rule : ℕ) (found links satisfying violating answer : List ℕ)
    (found' links' satisfying' violating' answer' : List ℕ) (number : ℕ) : Type 0 where
  pub returned :
      number ≡ show_refusal (length found) (length links) (length satisfying) (length violating)
      (length answer) file rule
  -- accepted: the work areas are free in content
  pub written : number ≡ 0 → ShownFor file rule satisfying violating answer satisfying' violating' answer'
  -- longer work areas keep their rest
  pub rest : RestKept found links found' links'
  -- refused: nothing is written anywhere
  pub untouched :
      ¬ (number ≡ 0)
      → (found' ≡ found) × (links' ≡ links)
      × (satisfying' ≡ satisfying) × (violating' ≡ violating) × (answer' ≡ answer)
