-- What writing leaves in the verdict area: five bytes a rule, one rule after the other, and the rest as it was.
use mathlib.Core.List.{List, [], ◌∷◌, ◌++◌}
use Rattle.std.specs.Prelude.{◌≡◌, refl, ℕ, suc, ◌+◌, ◌*◌, ◌≤◌, length, get_or, set}
use Rattle.std.proofs.Common.{sym, ◌∙◌, add-one, take_at}
use Rattle.std.proofs.Math.Path.{ap, ap₂}
use native.Mathlib.Omega.{arith}
use Rattle.std.proofs.Math.ListN.{take, drop}
use Rattle.std.proofs.lemmas.List.Edits.{sets-eq}
use Rattle.std.proofs.Math.Seq.{drop-append-add, drop-drop}
use Rattle.lists.specs.Elements.{listed, concat_map}
use Rattle.lists.specs.Laws.Elements.{length_listed, listed_more, concat_map_more, drop_none}
use Rattle.deciding.specs.declared.Outcome.{Outcome}
use Rattle.deciding.specs.declared.Report.{Report}
use Rattle.deciding.specs.Passes.{report_of}
use Rattle.deciding.specs.Code.Kept.{no_outcome}
use Rattle.verdicts.specs.Verdict.{report_bytes}

-- the report of the rule at place k, by the outcomes of both passes
unfoldable pub report_in : List Outcome → List Outcome → ℕ → Report
report_in firsts seconds k = report_of (get_or firsts k no_outcome) (get_or seconds k no_outcome)

-- five stores
pub five_written : (l : List ℕ) (at a b c d e : ℕ) → at + 5 ≤ length l
    → set (set (set (set (set l at a) (at + 1) b) (at + 2) c) (at + 3) d) (at + 4) e
    ≡ take at l ++ (a ∷ b ∷ c ∷ d ∷ e ∷ []) ++ drop (at + 5) l
five_written l at a b c d e h =
    let p : at + 1 ≡ suc at = omega arith in
    let q : at + 2 ≡ suc (suc at) = omega arith in
    let r : at + 3 ≡ suc (suc (suc at)) = omega arith in
    let s : at + 4 ≡ suc (suc (suc (suc at))) = omega arith in
    (λ i. set (set (set (set (set l at a) (p i) b) (q i) c) (r i) d) (s i) e) ∙ sets-eq (a ∷ b ∷ c ∷ d ∷ e ∷ []) l at h

pub five_each : (rs : List Report) → length (concat_map report_bytes rs) ≡ 5 * length rs
five_each [] = refl
five_each (r ∷ rs) = let e = five_each rs in omega arith

-- the reports of the first i rules, and the rest of the area
module _ (f : ℕ → Report) (area : List ℕ) where
  unfoldable pub reports_over : ℕ → List ℕ
  reports_over i = concat_map report_bytes (listed i f) ++ drop (5 * i) area

  size : (i : ℕ) → length (concat_map report_bytes (listed i f)) ≡ 5 * i
  size i = five_each (listed i f) ∙ ap (λ (k : ℕ). 5 * k) (length_listed i f)

  pub reports_none : reports_over 0 ≡ area
  unfolding reports_over
  reports_none = drop_none area

  pub reports_more : (i : ℕ) (now next : List ℕ) (r : Report) → now ≡ reports_over i → r ≡ f i
      → next ≡ take (5 * i) now ++ report_bytes r ++ drop (5 * i + 5) now → next ≡ reports_over (i + 1)
  unfolding reports_over
  reports_more i now next r e q w =
      let front = concat_map report_bytes (listed i f) in
      let more : 5 * i + 5 ≡ 5 * (i + 1) = omega arith in
      w
      ∙ ap₂ (λ (l : List ℕ) (p : Report). take (5 * i) l ++ report_bytes p ++ drop (5 * i + 5) l) e q
      ∙ ap₂ (λ (l m : List ℕ). l ++ report_bytes (f i) ++ m)
      (take_at front (drop (5 * i) area) (5 * i) (size i))
      (ap (λ (k : ℕ). drop (k + 5) (front ++ drop (5 * i) area)) (sym (size i))
      ∙ drop-append-add front (drop (5 * i) area) 5
      ∙ drop-drop 5 (5 * i) area
      ∙ ap (λ (k : ℕ). drop k area) more)
      ∙ ap (λ (l : List ℕ). l ++ drop (5 * (i + 1)) area)
      (sym (concat_map_more report_bytes (listed i f) (f i))
      ∙ ap (concat_map report_bytes) (sym (listed_more i f) ∙ ap (λ (k : ℕ). listed k f) (sym (add-one i))))
