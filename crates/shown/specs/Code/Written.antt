-- What writing leaves in the area of the answer: four numbers for each sequence, and the rest as it was.
use Rattle.std.specs.Prelude.{Some, None, List, [], ◌∷◌, ◌++◌, ◌≡◌, refl, ℕ, suc, ◌+◌, ◌≤◌, length, get_or}
use Rattle.std.specs.Prelude.{take, drop, set}
use Rattle.std.proofs.Common.{sym, ap, ap₂, ◌∙◌, arith, length-append, take_at, drop_at, drop-drop}
use Rattle.std.proofs.lemmas.List.Edits.{sets-eq}
use Rattle.lists.specs.Laws.Elements.{take_none}
use Rattle.refusals.specs.Refusal.{written_over}
use Rattle.shown.specs.Answer.{Said, shown_numbers, answer_numbers}
use Rattle.shown.specs.declared.BothShown.{BothShown}

-- four numbers
number_each : (s : Said)
    → (get_or (shown_numbers s) 0 0 ∷ get_or (shown_numbers s) 1 0 ∷ get_or (shown_numbers s) 2 0
    ∷ get_or (shown_numbers s) 3 0
    ∷ []) ≡ shown_numbers s
number_each None = refl
number_each (Some shown) = refl

length_numbers : (s : Said) → length (shown_numbers s) ≡ 4
length_numbers None = refl
length_numbers (Some shown) = refl

length_answer : (a : BothShown) → length (answer_numbers a) ≡ 8
unfolding answer_numbers
length_answer a =
    omega (
      arith,
      length-append (shown_numbers a.satisfying) (shown_numbers a.violating),
      length_numbers a.satisfying,
      length_numbers a.violating,
    )

-- four stores
pub shown_written : (l : List ℕ) (at : ℕ) (s : Said) (ns : List ℕ) → ns ≡ shown_numbers s → at + 4 ≤ length l
    → set (set (set (set l at (get_or ns 0 0)) (at + 1) (get_or ns 1 0)) (at + 2) (get_or ns 2 0))
    (at + 3) (get_or ns 3 0)
    ≡ take at l ++ shown_numbers s ++ drop (at + 4) l
shown_written l at s ns e h =
    let p : at + 1 ≡ suc at = omega arith in
    let q : at + 2 ≡ suc (suc at) = omega arith in
    let r : at + 3 ≡ suc (suc (suc at)) = omega arith in
    (λ i. set (set (set (set l at (get_or ns 0 0)) (p i) (get_or ns 1 0)) (q i) (get_or ns 2 0)) (r i) (get_or ns 3 0))
    ∙ sets-eq (get_or ns 0 0 ∷ get_or ns 1 0 ∷ get_or ns 2 0 ∷ get_or ns 3 0 ∷ []) l at h
    ∙ ap (λ (m : List ℕ). take at l ++ m ++ drop (at + 4) l)
    (ap (λ (m : List ℕ). get_or m 0 0 ∷ get_or m 1 0 ∷ get_or m 2 0 ∷ get_or m 3 0 ∷ []) e ∙ number_each s)

-- one sequence after the other
pub answer_written : (l : List ℕ) (a : BothShown) (half whole : List ℕ)
    → half ≡ take 0 l ++ shown_numbers a.satisfying ++ drop 4 l
    → whole ≡ take 4 half ++ shown_numbers a.violating ++ drop 8 half → whole ≡ written_over (answer_numbers a) l
unfolding answer_numbers
answer_written l a half whole e f =
    let first = shown_numbers a.satisfying in
    let second = shown_numbers a.violating in
    let g : half ≡ first ++ drop 4 l = e ∙ ap (λ (m : List ℕ). m ++ first ++ drop 4 l) (take_none l) in
    f
    ∙ ap₂ (λ (m k : List ℕ). m ++ second ++ k)
    (ap (take 4) g ∙ take_at first (drop 4 l) 4 (length_numbers a.satisfying))
    (ap (drop 8) g
    ∙ sym (drop-drop 4 4 (first ++ drop 4 l))
    ∙ ap (drop 4) (drop_at first (drop 4 l) 4 (length_numbers a.satisfying))
    ∙ drop-drop 4 4 l)
    ∙ ap (λ (k : ℕ). answer_numbers a ++ drop k l) (sym (length_answer a))
