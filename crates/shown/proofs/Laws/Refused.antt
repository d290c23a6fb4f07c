-- What is refused: the areas first, then the file and the rule number.
use Rattle.std.specs.Prelude.{Bool, true, false, not, ◌&&◌, ◌≡◌, refl, List, ℕ, ◌≤◌, T, leb, length}
use Rattle.std.proofs.Math.Bool.{cond}
use Rattle.std.proofs.Common.{sym, ◌∙◌, subst, leb→le}
use Rattle.std.proofs.Math.Path.{ap}
use borrow.Author.Tests.{not-true, not-false}
use Rattle.lists.specs.Laws.Decides.{passes}
use Rattle.lists.specs.Laws.Exhaustive.{and_left, and_right}
use Rattle.rule_file.specs.Contents.{rule_refusal}
use Rattle.search.specs.Areas.{work_areas_fit}
use Rattle.search.specs.Code.Areas.{work_lengths}
use Rattle.search.proofs.Laws.JointAreas.{kept_none}
use Rattle.shown.specs.Shows.{show_areas_fit, show_refusal, Shows}

-- the refusal of areas that are too short, and of those that are long enough
module _ (found links satisfying violating answer : ℕ) (bs : List ℕ) (n : ℕ) (fit : Bool)
    (is : fit ≡ show_areas_fit found links satisfying violating answer) where
  pub too_short : not fit ≡ true → 1 ≡ show_refusal found links satisfying violating answer bs n
  unfolding show_refusal
  too_short h = ap (λ (b : Bool). cond b (rule_refusal bs n) 1) (sym (sym is ∙ not-true fit h))

  pub long_enough : not fit ≡ false → rule_refusal bs n ≡ show_refusal found links satisfying violating answer bs n
  unfolding show_refusal
  long_enough h = ap (λ (b : Bool). cond b (rule_refusal bs n) 1) (sym (sym is ∙ not-false fit h))

-- areas that are long enough
pub show_areas_fit_lengths : (found links satisfying violating answer : ℕ)
    → show_areas_fit found links satisfying violating answer ≡ true
    → ((8192 ≤ found) × (16384 ≤ links)) × ((4095 ≤ satisfying) × (4095 ≤ violating)) × (8 ≤ answer)
unfolding show_areas_fit
show_areas_fit_lengths found links satisfying violating answer e =
    let t = subst T (sym e) tt in
    let work = work_areas_fit found links in
    let rest = and_right work (leb 4095 satisfying && (leb 4095 violating && leb 8 answer)) t in
    let last = and_right (leb 4095 satisfying) (leb 4095 violating && leb 8 answer) rest in (
      work_lengths found links (passes work
          (and_left work (leb 4095 satisfying && (leb 4095 violating && leb 8 answer)) t)),
      (
        leb→le 4095 satisfying (and_left (leb 4095 satisfying) (leb 4095 violating && leb 8 answer) rest),
        leb→le 4095 violating (and_left (leb 4095 violating) (leb 8 answer) last),
      ),
      leb→le 8 answer (and_right (leb 4095 violating) (leb 8 answer) last),
    )

-- a refused call leaves every area as it was
pub shows_refused : (file : List ℕ) (rule : ℕ) (found links satisfying violating answer : List ℕ) (number : ℕ)
    → number
    ≡ show_refusal (length found) (length links) (length satisfying) (length violating) (length answer) file rule
    → ¬ (number ≡ 0)
    → Shows file rule found links satisfying violating answer found links satisfying violating answer number
shows_refused file rule found links satisfying violating answer number e n =
    record {
      returned = e;
      written = λ z. absurd (n z);
      rest = kept_none found links;
      untouched = λ _. (refl, refl, refl, refl, refl);
    }
