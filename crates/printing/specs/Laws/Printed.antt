-- Laws of what is printed: lines one after the other, and the three kinds of output.
use Rattle.std.specs.Prelude.{◌≡◌, refl, List, [], ◌++◌, Bool, ℕ, zero, suc, ◌+◌, ◌*◌, ◌≤◌, ◌<◌, length, get_or, drop}
use Rattle.std.specs.Prelude.{eqb}
use Rattle.std.proofs.Common.{sym, ap₂, ◌∙◌, add-one, arith, le-leb, ne_eqb}
use Rattle.std.proofs.Math.Path.{ap}
use Rattle.std.proofs.Math.Bool.{cond}
use Rattle.std.proofs.Math.ListN.{get_or-append}
use Rattle.std.proofs.lemmas.Bool.{lt-leb}
use Rattle.lists.specs.Elements.{listed, concat_map}
use Rattle.lists.specs.Laws.Elements.{length_listed, listed_more, concat_map_more}
use Rattle.rule_file.specs.Contents.{rules_of, steps_of}
use Rattle.rule_file.specs.Decode.{read_file}
use Rattle.ranking.specs.Ranked.{decision_order}
use Rattle.search.specs.Areas.{work_areas_fit}
use Rattle.deciding.specs.Outcome.{outcome}
use Rattle.deciding.specs.Passes.{report_on}
use Rattle.deciding.specs.Reports.{reports_of}
use Rattle.verdicts.specs.Verdict.{verdict_bytes, verdict_area}
use Rattle.verdicts.specs.Code.Written.{five_each}
use Rattle.pruning.specs.Prunes.{prune_areas_fit, prune_refusal}
use Rattle.printing.specs.Printed.{line_at, lines, lines_of, refused_line, long_line, printed}

-- ---- lines

pub lines_none : (bytes : List ℕ) → [] ≡ lines bytes 0
unfolding lines
lines_none bytes = refl

pub lines_more : (bytes : List ℕ) (k : ℕ) → lines bytes k ++ line_at bytes k ≡ lines bytes (k + 1)
unfolding lines
lines_more bytes k =
    sym (concat_map_more (line_at bytes) (listed k (λ i. i)) k)
    ∙ ap (concat_map (line_at bytes))
    (sym (listed_more k (λ i. i)) ∙ ap (λ (n : ℕ). listed n (λ i. i)) (sym (add-one k)))

-- a line is made of its rule's five bytes
line_same : (a b : List ℕ) (k : ℕ) → ((i : ℕ) → i < 5 * (k + 1) → get_or a i 0 ≡ get_or b i 0)
    → line_at a k ≡ line_at b k
unfolding line_at
line_same a b k h =
    cc (
      h (5 * k) (omega arith),
      h (5 * k + 1) (omega arith),
      h (5 * k + 1 + 1) (omega arith),
      h (5 * k + 3) (omega arith),
      h (5 * k + 3 + 1) (omega arith),
    )

lines_same : (a b : List ℕ) (n : ℕ) → ((i : ℕ) → i < 5 * n → get_or a i 0 ≡ get_or b i 0) → lines a n ≡ lines b n
lines_same a b zero h = sym (lines_none a) ∙ lines_none b
lines_same a b (suc n) h =
    ap (lines a) (sym (add-one n))
    ∙ sym (lines_more a n)
    ∙ ap₂ (λ (l m : List ℕ). l ++ m) (lines_same a b n (λ i l. h i (omega arith)))
    (line_same a b n (λ i l. h i (omega arith)))
    ∙ lines_more b n
    ∙ ap (lines b) (add-one n)

-- the lines by the verdict area are those by the verdict bytes, which stand at its front
pub lines_front : (bs area bytes : List ℕ) (n : ℕ) → n ≡ length (rules_of bs) → bytes ≡ verdict_area bs area
    → lines bytes n ≡ lines_of bs
unfolding lines_of verdict_area verdict_bytes reports_of
lines_front bs area bytes n c e =
    let count = length (rules_of bs) in
    let long : length (verdict_bytes bs) ≡ 5 * count = five_each (reports_of bs)
    ∙ ap (λ (k : ℕ). 5 * k) (length_listed count
    (λ k. report_on (outcome (rules_of bs) (steps_of bs)) (decision_order bs) (suc k))) in
    ap₂ lines e c
    ∙ lines_same (verdict_area bs area) (verdict_bytes bs) count
    (λ i l. get_or-append (verdict_bytes bs) (drop (length (verdict_bytes bs)) area) 0 i (omega arith))

-- ---- the three kinds of output

-- areas of the lengths that are lent refuse nothing
pub refused_as_read : (found links verdicts : ℕ) (bs : List ℕ) → found ≡ 8192 → links ≡ 16384 → verdicts ≡ 160
    → prune_refusal found links verdicts bs ≡ (read_file bs).refusal
unfolding prune_refusal prune_areas_fit work_areas_fit
refused_as_read found links verdicts bs f l v = λ i. cond (prune_areas_fit (f i) (l i) (v i)) (read_file bs).refusal 1

module _ (bs : List ℕ) where
  -- what is printed of a file that is not long
  abbrev short : ℕ → List ℕ
  short n = cond (eqb n 0) (lines_of bs) (refused_line n)

  pub printed_long : 65535 < length bs → long_line ≡ printed bs
  unfolding printed
  printed_long h = ap (λ (b : Bool). cond b (short (read_file bs).refusal) long_line) (sym (lt-leb (length bs) 65535 h))

  printed_short : length bs ≤ 65535 → short (read_file bs).refusal ≡ printed bs
  unfolding printed
  printed_short h =
      ap (λ (b : Bool). cond b (short (read_file bs).refusal) long_line) (sym (le-leb (length bs) 65535 h))

  pub printed_refused : (n : ℕ) → length bs ≤ 65535 → n ≡ (read_file bs).refusal → (n ≡ 0 → ⊥)
      → refused_line n ≡ printed bs
  printed_refused n h e f =
      ap (λ (b : Bool). cond b (lines_of bs) (refused_line n)) (sym (ne_eqb n 0 f)) ∙ ap short e ∙ printed_short h

  pub printed_lines : length bs ≤ 65535 → (read_file bs).refusal ≡ 0 → lines_of bs ≡ printed bs
  printed_lines h e = sym (ap short e) ∙ printed_short h
