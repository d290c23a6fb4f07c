-- The third demand over the bytes of a file and of the verdict area: what the area holds of a rule are the bytes of its
-- report (`report_at`), and the reports meet the demand (`file_demanded`). No other bytes meet it, since it fixes what
-- is reported (`third_demand_only`, by `one_report`). The first of the five bytes tells the fate (`fate_of_bytes`).
use Rattle.std.specs.Prelude.{◌≡◌, refl, List, [], ◌∷◌, ◌++◌, ℕ, zero, suc, ◌+◌, ◌-◌, ◌*◌, ◌≤◌, ◌<◌, get_or, take}
use Rattle.std.proofs.Math.Path.{sym, ap}
use Rattle.std.proofs.Common.{ap₂, ◌∙◌, append_assoc, le_refl, le_of_suc-le-suc, not-suc-le-zero, add-one, arith}
use Rattle.std.proofs.Common.{take-append-drop, drop-drop}
use Rattle.std.proofs.Math.ListN.{length, drop}
use Rattle.lists.specs.Elements.{concat_map}
use Rattle.lists.specs.Laws.Elements.{listed_get, length_listed}
use Rattle.rule_file.specs.Contents.{rules_of, steps_of}
use Rattle.ranking.specs.Ranked.{decision_order}
use Rattle.deciding.specs.declared.Report.{Report}
use Rattle.deciding.specs.Reports.{reported, reports_of}
use Rattle.deciding.proofs.Laws.Demand.{file_demanded}
use Rattle.deciding.proofs.Laws.Fate.{fate_low, fate_of, fate_back}
use Rattle.deciding.proofs.Laws.Fixed.{one_report}
use Rattle.verdicts.specs.Code.Written.{reports_over, reports_none, reports_more, five_each}
use Rattle.verdicts.specs.Verdict.{report_bytes, verdict_bytes, verdict_area, bytes_of_rule}
use Rattle.pruning.specs.Prunes.{ThirdDemand}

-- ---- the bytes of a rule

bytes_at : (rs : List Report) (rest : List ℕ) (k : ℕ) (d : Report) → k < length rs
    → take 5 (drop (5 * k) (concat_map report_bytes rs ++ rest)) ≡ report_bytes (get_or rs k d)
bytes_at [] rest k d h = absurd (not-suc-le-zero h)
bytes_at (r ∷ rs) rest zero d h = refl
bytes_at (r ∷ rs) rest (suc k) d h =
    let e : 5 * suc k ≡ suc (suc (suc (suc (suc (5 * k))))) = omega arith in
    ap (λ (i : ℕ). take 5 (drop i (concat_map report_bytes (r ∷ rs) ++ rest))) e
    ∙ bytes_at rs rest k d (le_of_suc-le-suc h)

pub report_at : (bs area : List ℕ) (n : ℕ) → 1 ≤ n → n ≤ length (rules_of bs)
    → bytes_of_rule (verdict_area bs area) n ≡ report_bytes (reported bs n)
unfolding verdict_area verdict_bytes reports_of
report_at bs area n a b =
    let report = reported bs in
    let count = length (rules_of bs) in
    let rest = drop (length (verdict_bytes bs)) area in
    let back : suc (n - 1) ≡ n = omega arith in
    bytes_at (reports_of bs) rest (n - 1) (report 0) (omega (arith, length_listed count (λ k. report (suc k))))
    ∙ ap report_bytes (listed_get count (λ k. report (suc k)) (n - 1) (report 0) (omega arith) ∙ ap report back)

-- ---- the third demand

pub third_demand : (bs area : List ℕ) → ThirdDemand bs (verdict_area bs area)
third_demand bs area =
    record { report = reported bs; bytes = report_at bs area; demanded = file_demanded bs }

-- the demand fixes what is said of each rule
module _ (bs area : List ℕ) (d : ThirdDemand bs area) where
  pub bytes_only : (n : ℕ) → 1 ≤ n → n ≤ length (rules_of bs) → bytes_of_rule area n ≡ report_bytes (reported bs n)
  bytes_only n a b =
      d.bytes n a b
      ∙ ap report_bytes
      (one_report (rules_of bs) (steps_of bs) (decision_order bs) (decision_order bs) d.report (reported bs)
      d.demanded (file_demanded bs) n a b)

  -- the bytes of the first i rules are those of their reports
  front_only : (i : ℕ) → i ≤ length (rules_of bs) → area ≡ reports_over (λ k. reported bs (suc k)) area i
  front_only zero h = sym (reports_none (λ k. reported bs (suc k)) area)
  front_only (suc i) h =
      let here : bytes_of_rule area (suc i) ≡ report_bytes (reported bs (suc i)) = bytes_only (suc i) (omega arith) h in
      let place : suc i - 1 ≡ i = omega arith in
      reports_more (λ k. reported bs (suc k)) area i area area (reported bs (suc i)) (front_only i (omega arith)) refl
      (sym (take-append-drop (5 * i) area)
      ∙ ap (λ (l : List ℕ). take (5 * i) area ++ l)
      (sym (take-append-drop 5 (drop (5 * i) area))
      ∙ ap₂ (λ (l m : List ℕ). l ++ m)
      (ap (λ (k : ℕ). take 5 (drop (5 * k) area)) (sym place) ∙ here) (drop-drop 5 (5 * i) area))
      ∙ sym (append_assoc (take (5 * i) area) (report_bytes (reported bs (suc i))) (drop (5 * i + 5) area)))
      ∙ ap (reports_over (λ k. reported bs (suc k)) area) (add-one i)

  -- so an area that meets it is as pruning leaves it
  pub third_demand_only : area ≡ verdict_area bs area
  unfolding verdict_area verdict_bytes reports_of reports_over
  third_demand_only =
      let count = length (rules_of bs) in
      let size : 5 * count ≡ length (verdict_bytes bs) =
      sym (five_each (reports_of bs) ∙ ap (λ (k : ℕ). 5 * k) (length_listed count (λ k. reported bs (suc k)))) in
      front_only count (le_refl count) ∙ ap (λ (k : ℕ). verdict_bytes bs ++ drop k area) size

-- an area that meets the demand has no fate byte over 5
pub no_other_fate : (bs area : List ℕ) → ThirdDemand bs area → (n : ℕ) → 1 ≤ n → n ≤ length (rules_of bs)
    → get_or (bytes_of_rule area n) 0 0 ≤ 5
no_other_fate bs area d n a b =
    omega (arith, ap (λ (l : List ℕ). get_or l 0 0) (d.bytes n a b), fate_low (d.report n).fate)

-- two reports with the same bytes have one fate
pub fate_of_bytes : (r s : Report) → report_bytes r ≡ report_bytes s → r.fate ≡ s.fate
fate_of_bytes r s e =
    sym (fate_back r.fate) ∙ ap (λ (l : List ℕ). fate_of (get_or l 0 0)) e ∙ fate_back s.fate
