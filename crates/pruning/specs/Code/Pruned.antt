-- From a file's bytes to the verdict area: what is refused, and that the outcomes of the passes, written as reports,
-- are the verdicts.
use Rattle.std.specs.Prelude.{Bool, not, cond, ◌≡◌, T, leb, get_or, take}
use Rattle.std.proofs.Math.Bool.{true, false}
use Rattle.std.proofs.Math.Path.{refl, sym, ap}
use Rattle.std.proofs.Common.{◌∙◌, subst, subst₂, leb→le}
use mathlib.Core.List.{List, ◌++◌, append-nil}
use Prim.Native.Nat.{ℕ, suc, ◌-◌, ◌*◌, ◌≤◌}
use native.Mathlib.Omega.{arith}
use Rattle.std.proofs.Math.ListN.{length, drop}
use Rattle.std.proofs.lemmas.Bool.{not-false}
use Rattle.lists.specs.Laws.Decides.{passes}
use Rattle.lists.specs.Laws.Exhaustive.{and_left, and_right}
use Rattle.lists.specs.Elements.{listed, concat_map}
use Rattle.lists.specs.Laws.Elements.{listed_same, length_listed}
use Rattle.lists.specs.Members.{All, Member}
use Rattle.lists.specs.Laws.Members.{all_member}
use Rattle.lists.specs.Laws.Parts.{filter_all}
use Rattle.rule_file.specs.Decode.{read_file}
use Rattle.rule_file.specs.Contents.{rules_of, steps_of}
use Rattle.ranking.specs.declared.RankedFile.{RankedFile}
use Rattle.ranking.specs.Ranked.{decision_order, ranked_file}
use Rattle.ranking.proofs.Laws.Ranked.{decision_order_lem, ranked_count, ranked_steps, ranked_order}
use Rattle.search.specs.Areas.{work_areas_fit}
use Rattle.search.specs.Code.Areas.{work_lengths}
use Rattle.search.proofs.Laws.JointAreas.{kept_none}
use Rattle.deciding.specs.declared.Outcome.{Outcome}
use Rattle.deciding.specs.declared.Report.{Report}
use Rattle.deciding.specs.Fate.{is_kept, first_fate}
use Rattle.deciding.specs.Outcome.{outcome}
use Rattle.deciding.specs.Passes.{kept_of, first_outcome, still_kept, second_outcome, report_of, report_on}
use Rattle.deciding.proofs.Laws.Passes.{report_not, kept_first_is, kept_are}
use Rattle.deciding.specs.Reports.{reports_of}
use Rattle.deciding.specs.Demand.{kept_first}
use Rattle.deciding.specs.Code.Kept.{list_of, Keeps, no_outcome, noted_at, Noted}
use Rattle.deciding.specs.declared.Kept.{Kept}
use Rattle.verdicts.specs.Verdict.{report_bytes, verdict_bytes, verdict_area}
use Rattle.verdicts.specs.Code.Written.{report_in, reports_over, five_each}
use Rattle.pruning.specs.Prunes.{prune_areas_fit, prune_refusal, Prunes}

-- ---- what is refused

-- the refusal of areas that are long enough is that of the file
pub as_read : (found links verdicts : ℕ) (bs : List ℕ) (fit : Bool) → fit ≡ prune_areas_fit found links verdicts
    → not fit ≡ false → (read_file bs).refusal ≡ prune_refusal found links verdicts bs
unfolding prune_refusal
as_read found links verdicts bs fit is h =
    ap (λ (t : Bool). cond t (read_file bs).refusal 1) (sym (sym is ∙ not-false fit h))

pub prune_areas_fit_lengths : (found links verdicts : ℕ) → prune_areas_fit found links verdicts ≡ true
    → ((8192 ≤ found) × (16384 ≤ links)) × (160 ≤ verdicts)
unfolding prune_areas_fit
prune_areas_fit_lengths found links verdicts e =
    let t = subst T (sym e) tt in
    let work = work_lengths found links
    (passes (work_areas_fit found links) (and_left (work_areas_fit found links) (leb 160 verdicts) t)) in
    (work, leb→le 160 verdicts (and_right (work_areas_fit found links) (leb 160 verdicts) t))

-- a refused call leaves every area as it was
pub prunes_refused : (file found links verdicts : List ℕ) (answer : ℕ)
    → answer ≡ prune_refusal (length found) (length links) (length verdicts) file → ¬ (answer ≡ 0)
    → Prunes file found links verdicts found links verdicts answer
prunes_refused file found links verdicts answer e n =
    record {
      returned = e;
      written = λ z. absurd (n z);
      demand = λ z. absurd (n z);
      rest = kept_none found links;
      untouched = λ _. (refl, refl, refl);
    }

-- ---- what they come to

module _ (bs : List ℕ) where
  abbrev test : List ℕ → ℕ → Outcome
  test = outcome (rules_of bs) (steps_of bs)

  abbrev order : List ℕ
  order = decision_order bs

  module _ (firsts seconds : List Outcome) (a : Noted (first_outcome test order) order firsts)
      (b : Noted (λ n. test (still_kept test (kept_of test order) n) n) (kept_of test order) seconds) where
    -- the outcome of a kept rule in the second pass
    second_is : (n : ℕ) → Member n order → is_kept (first_fate (first_outcome test order n)) ≡ true
        → noted_at seconds n ≡ second_outcome test order n
    unfolding second_outcome
    second_is n i h =
        let report = report_on test order in
        let P : ℕ → Type 0 = λ m. noted_at seconds m ≡ test (still_kept test (kept_of test order) m) m in
        all_member (λ m. kept_first report m ≡ true → P m) order n
        (filter_all P (kept_first report) order
        (subst (All P) (kept_are test order (decision_order_lem bs).distinct order _ (sym (append-nil order))) b.each))
        i (kept_first_is test order n ∙ h)

    report_is : (n : ℕ) → Member n order → report_of (noted_at firsts n) (noted_at seconds n) ≡ report_on test order n
    unfolding report_on
    report_is n i =
        ap (λ (o : Outcome). report_of o (noted_at seconds n))
        (all_member (λ m. noted_at firsts m ≡ first_outcome test order m) order n a.each i)
        ∙ go (is_kept (first_fate (first_outcome test order n))) refl
      where
        go : (t : Bool) → is_kept (first_fate (first_outcome test order n)) ≡ t
            → report_of (first_outcome test order n) (noted_at seconds n)
            ≡ report_of (first_outcome test order n) (second_outcome test order n)
        go true h = ap (report_of (first_outcome test order n)) (second_is n i h)
        go false h =
            report_not (first_outcome test order n) (noted_at seconds n) h
            ∙ sym (report_not (first_outcome test order n) (second_outcome test order n) h)

    reports_are : listed (length (rules_of bs)) (report_in firsts seconds) ≡ reports_of bs
    unfolding reports_of report_in noted_at
    reports_are =
        listed_same (length (rules_of bs)) (report_in firsts seconds) (λ k. report_on test order (suc k))
        (λ k l.
        let back : k ≡ suc k - 1 = omega arith in
        ap (λ (i : ℕ). report_of (get_or firsts i no_outcome) (get_or seconds i no_outcome)) back
        ∙ report_is (suc k) (((decision_order_lem bs).members (suc k)).1 (omega arith, omega arith)))

    pub pruned : (area next : List ℕ) (count : ℕ) → count ≡ length (rules_of bs)
        → next ≡ reports_over (report_in firsts seconds) area count
        → next ≡ verdict_area bs area
    unfolding verdict_area verdict_bytes reports_over
    pruned area next count c w =
        let size : 5 * length (rules_of bs)
        ≡ length (concat_map report_bytes (listed (length (rules_of bs)) (report_in firsts seconds))) =
        sym (five_each (listed (length (rules_of bs)) (report_in firsts seconds))
        ∙ ap (λ (k : ℕ). 5 * k) (length_listed (length (rules_of bs)) (report_in firsts seconds))) in
        w
        ∙ ap (λ (k : ℕ). concat_map report_bytes (listed k (report_in firsts seconds)) ++ drop (5 * k) area) c
        ∙ ap (λ (k : ℕ). concat_map report_bytes (listed (length (rules_of bs)) (report_in firsts seconds))
        ++ drop k area)
        size
        ∙ ap (λ (rs : List Report). concat_map report_bytes rs ++ drop (length (concat_map report_bytes rs)) area)
        reports_are

-- from the ranked file and what the passes promise
module _ (bs : List ℕ) (r : RankedFile) (e : r ≡ ranked_file bs) (k : Kept) (firsts : List Outcome) where
  abbrev Decided : ℕ → List ℕ → Type 0
  Decided steps l =
      Keeps k (kept_of (outcome (rules_of bs) steps) l) × Noted (first_outcome (outcome (rules_of bs) steps) l) l firsts

  abbrev Retested : ℕ → List ℕ → List Outcome → Type 0
  Retested steps l seconds =
      Noted (λ n. outcome (rules_of bs) steps (still_kept (outcome (rules_of bs) steps) l n) n) l seconds

  pub pruned_by : (seconds : List Outcome) → Decided r.file.steps (take r.file.count r.order)
      → Retested r.file.steps (list_of k) seconds → (area next : List ℕ)
      → next ≡ reports_over (report_in firsts seconds) area r.file.count → next ≡ verdict_area bs area
  pruned_by seconds first second area next w =
      let d = subst₂ Decided (ranked_steps bs r e) (ranked_order bs r e) first in
      let t = subst₂ (λ (n : ℕ) (l : List ℕ). Retested n l seconds) (ranked_steps bs r e) d.0.listed second in
      pruned bs firsts seconds d.1 t area next r.file.count (ranked_count bs r e) w
