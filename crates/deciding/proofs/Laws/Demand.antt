-- The third demand holds of what the definitions report of a list of good rules, hence of a file (`file_demanded`). The
-- clauses on single rules come from the laws of a test and of the passes; the others follow from these by a walk along
-- the order, whatever is reported.
use Rattle.std.specs.Prelude.{Bool, true, false, ◌≡◌, refl, List, [], ◌∷◌, ◌++◌, ◌↔◌, ℕ, ◌≤◌, length}
use Rattle.std.proofs.Common.{true≢false, sym, ◌∙◌, append-nil, inl, arith}
use Rattle.std.proofs.Math.Path.{ap, subst}
use Rattle.std.proofs.Math.Seq.{append_snoc}
use Rattle.lists.specs.Members.{All, Member, Distinct}
use Rattle.lists.specs.Laws.Members.{all_map, member_all, all_more, all_append, all_parts, distinct_front}
use Rattle.lists.specs.Parts.{filter}
use Rattle.lists.specs.Laws.Parts.{filter_all, all_filter, around_member, distinct_around}
use Rattle.lists.specs.Sorted.{RankedList}
use Rattle.rule.specs.declared.Rule.{Rule}
use Rattle.rule.specs.Behaviour.{RuleNumber, SatisfiesRule, Declared}
use Rattle.rule.specs.Good.{GoodRule}
use Rattle.rule_file.specs.Contents.{rules_of, steps_of}
use Rattle.rule_file.proofs.Laws.Accepted.{file_formed}
use Rattle.ranking.specs.Rank.{ranks}
use Rattle.ranking.proofs.Laws.Ranked.{decision_order_lem}
use Rattle.ranking.specs.Ranked.{decision_order}
use Rattle.deciding.specs.declared.Fate.TheVariants.{Untested}
use Rattle.deciding.specs.declared.Report.{Report}
use Rattle.deciding.proofs.Laws.Fate.{other_fate, kept_first_lem, final_kept, final_tested, kept_dropped}
use Rattle.deciding.proofs.Laws.Found.{Tells, over_exactly, outcome_tells}
use Rattle.deciding.specs.Demand.{Satisfying, Counted, Violable, FirstFate, SecondFate, kept_first, kept_finally}
use Rattle.deciding.specs.Demand.{others_kept, Decided, Demanded}
use Rattle.deciding.specs.declared.Outcome.{Outcome}
use Rattle.deciding.specs.Fate.{in_first_pass, second_fate}
use Rattle.deciding.specs.Outcome.{outcome}
use Rattle.deciding.specs.Passes.{first_outcome, second_outcome, report_on}
use Rattle.deciding.proofs.Laws.Passes.{report_kept, report_not, report_count, report_fate, kept_first_is}
use Rattle.deciding.proofs.Laws.Passes.{first_at, second_at}
use Rattle.deciding.proofs.Laws.Judged.{first_fate_lem, second_fate_lem}
use Rattle.deciding.specs.Reports.{reported}

-- ---- what follows from how each rule is decided, whatever is reported

module _ (rules : List Rule) (steps : ℕ) (order : List ℕ) (report : ℕ → Report)
    (decided : Decided rules steps order report) where
  abbrev first : ℕ → Bool
  first = kept_first report

  abbrev final : ℕ → Bool
  final = kept_finally report

  -- a sequence satisfies those of the rules that pass the test
  abbrev Those : (ℕ → Bool) → List ℕ → List ℕ → Type 0
  Those p s l = All (λ n. p n ≡ true → SatisfiesRule rules n s) l

  those_all : (p : ℕ → Bool) (s l : List ℕ) → Those p s l → All (λ n. SatisfiesRule rules n s) (filter p l)
  those_all p s l = all_filter (λ n. SatisfiesRule rules n s) p l

  all_those : (p : ℕ → Bool) (s l : List ℕ) → All (λ n. SatisfiesRule rules n s) (filter p l) → Those p s l
  all_those p s l = filter_all (λ n. SatisfiesRule rules n s) p l

  -- a rule more
  those_more : (p : ℕ → Bool) (s l : List ℕ) (n : ℕ) → Those p s l → (p n ≡ true → SatisfiesRule rules n s)
      → Those p s (l ++ (n ∷ []))
  those_more p s l n = all_more (λ n. p n ≡ true → SatisfiesRule rules n s) l n

  -- finally kept rules were kept in the first pass
  final_those : (s l : List ℕ) → Those first s l → Those final s l
  final_those s l = all_map (λ n f h. f (final_kept (report n).fate h)) l

  abbrev Satisfiable : List ℕ → Type 0
  Satisfiable l = (s : List ℕ) × Declared steps s × Those first s l

  -- with the rules kept so far, also the next one
  satisfiable_on : (l m : List ℕ) → order ≡ l ++ m → Satisfiable l → Satisfiable order
  satisfiable_on l [] e r = subst Satisfiable (sym (e ∙ append-nil l)) r
  satisfiable_on l (n ∷ m) e r =
      satisfiable_on (l ++ (n ∷ [])) m (e ∙ sym (append_snoc l n m)) (go (first n) refl)
    where
      go : (b : Bool) → first n ≡ b → Satisfiable (l ++ (n ∷ []))
      go true h =
          let t = (decided.first l n m e).together (inl (kept_first_lem (report n).fate h)) in
          let s = t.0 in
          (s, t.1.declared, those_more first s l n (all_those first s l t.1.all) (λ x. t.2))
      go false h = (r.0, r.1, those_more first r.0 l n r.2 (λ x. absurd (true≢false (sym x ∙ h))))

  satisfiable_law : (s : List ℕ) × Satisfying rules steps (filter first order) s
  satisfiable_law =
      let r = satisfiable_on [] order refl ([], tt, tt) in
      (r.0, record { declared = r.1; all = those_all first r.0 order r.2 })

  -- with the better rules kept in the first pass and the worse ones finally kept, also the worse ones kept in the first
  -- pass
  worse_too : (s : List ℕ) → Declared steps s → (l m : List ℕ) → order ≡ l ++ m → Those first s l → Those final s m
      → Those first s m
  worse_too s d l [] e a b = tt
  worse_too s d l (n ∷ m) e a b =
      (own, worse_too s d (l ++ (n ∷ [])) m (e ∙ sym (append_snoc l n m)) (those_more first s l n a own) b.1)
    where
      others : Satisfying rules steps (others_kept report l m) s
      others =
          record {
            declared = d;
            all =
                all_append (λ k. SatisfiesRule rules k s) (filter first l) (filter final m)
                (those_all first s l a) (those_all final s m b.1);
          }

      own : first n ≡ true → SatisfiesRule rules n s
      own h = go (final n) refl
        where
          go : (t : Bool) → final n ≡ t → SatisfiesRule rules n s
          go true k = b.0 k
          go false k =
              let fate = decided.second l n m e h in
              let gone = kept_dropped (report n).fate h k in
              (fate.dropped (λ o. other_fate (sym gone ∙ fate.untested.1 o) tt)).0 gone s others

  same_law : (s : List ℕ) → Satisfying rules steps (filter final order) s
      ↔ Satisfying rules steps (filter first order) s
  same_law s = (there, back)
    where
      there : Satisfying rules steps (filter final order) s → Satisfying rules steps (filter first order) s
      there a =
          record {
            declared = a.declared;
            all = those_all first s order (worse_too s a.declared [] order refl tt
                (all_those final s order a.all));
          }

      back : Satisfying rules steps (filter first order) s → Satisfying rules steps (filter final order) s
      back a =
          record {
            declared = a.declared;
            all = those_all final s order (final_those s order (all_those first s order a.all));
          }

  needed_law : (before : List ℕ) (n : ℕ) (after : List ℕ) → order ≡ before ++ (n ∷ after)
      → final n ≡ true → (report n).second ≤ 4096 → Violable rules steps (filter final (before ++ after)) n
  needed_law l n m e h few =
      let w = fate.violable (final_tested (report n).fate h tested) in
      (w.0, record { declared = w.1.declared; all = rest w.0 w.1.all }, w.2)
    where
      kept : first n ≡ true
      kept = final_kept (report n).fate h

      fate : SecondFate rules steps (others_kept report l m) n (report n).fate
      fate = decided.second l n m e kept

      tested : ¬ ((report n).fate ≡ Untested)
      tested q =
          let others = others_kept report l m in
          omega (
            arith,
            (over_exactly rules steps others n (report n).second (decided.second_count l n m e kept)).1
                (fate.untested.0 q),
          )

      rest : (s : List ℕ) → All (λ k. SatisfiesRule rules k s) (others_kept report l m)
          → All (λ k. SatisfiesRule rules k s) (filter final (l ++ m))
      rest s a =
          let parts = all_parts (λ k. SatisfiesRule rules k s) (filter first l) (filter final m) a in
          those_all final s (l ++ m)
          (all_append (λ k. final k ≡ true → SatisfiesRule rules k s) l m
          (final_those s l (all_those first s l parts.0)) (all_those final s m parts.1))

  demanded_by : RankedList (ranks rules) (length rules) order → Demanded rules steps order report
  demanded_by ranked =
      record {
        ranked = ranked;
        decided = decided;
        satisfiable = satisfiable_law;
        same = same_law;
        needed = λ l n m e h some. needed_law l n m e h;
      }

-- ---- what is reported

module _ (rules : List Rule) (steps : ℕ) (good : All (GoodRule steps) rules) (few : length rules ≤ 32)
    (order : List ℕ) (ranked : RankedList (ranks rules) (length rules) order) where
  abbrev report : ℕ → Report
  report = report_on (outcome rules steps) order

  abbrev tested : ℕ → Outcome
  tested = first_outcome (outcome rules steps) order

  abbrev retested : ℕ → Outcome
  retested = second_outcome (outcome rules steps) order

  rule_number : (n : ℕ) → Member n order → RuleNumber n
  rule_number n i = let r = (ranked.members n).0 i in (r.0, omega (arith, r.1))

  no_second_lem : (n : ℕ) → Member n order → kept_first report n ≡ false → (report n).second ≡ 0
  unfolding report_on
  no_second_lem n i h =
      ap (λ (r : Report). r.second) (report_not (tested n) (retested n)
      (sym (kept_first_is (outcome rules steps) order n) ∙ h))

  module _ (l : List ℕ) (n : ℕ) (m : List ℕ) (e : order ≡ l ++ (n ∷ m)) where
    abbrev kept : List ℕ
    kept = filter (kept_first report) l

    abbrev others : List ℕ
    others = others_kept report l m

    numbered : All RuleNumber (n ∷ others)
    numbered =
        member_all RuleNumber (n ∷ others)
        (λ k i. rule_number k (subst (Member k) (sym e)
        (around_member (kept_first report) (kept_finally report) l n m k i)))

    distinct : Distinct (n ∷ others)
    distinct = distinct_around (kept_first report) (kept_finally report) l n m (subst Distinct e ranked.distinct)

    first_tells : Tells rules steps kept n (tested n)
    first_tells =
        subst (Tells rules steps kept n) (sym (first_at (outcome rules steps) order ranked.distinct l n m e))
        (outcome_tells rules steps good kept n
        (all_parts RuleNumber (n ∷ kept) (filter (kept_finally report) m) numbered).0
        (distinct_front (n ∷ kept) (filter (kept_finally report) m) distinct))

    first_clause : FirstFate rules steps kept n (in_first_pass (report n).fate)
    unfolding report_on
    first_clause =
        subst (FirstFate rules steps kept n) (sym (report_fate (tested n) (retested n)))
        (first_fate_lem rules steps good kept n (tested n) first_tells)

    first_count_lem : Counted rules steps kept n (report n).first
    unfolding report_on
    first_count_lem = subst (Counted rules steps kept n) (sym (report_count (tested n) (retested n))) first_tells.counted

    module _ (h : kept_first report n ≡ true) where
      kept_report : report n ≡ record {
        fate = second_fate (retested n);
        first = (tested n).count;
        second = (retested n).count;
      }
      unfolding report_on
      kept_report = report_kept (tested n) (retested n) (sym (kept_first_is (outcome rules steps) order n) ∙ h)

      second_tells : Tells rules steps others n (retested n)
      second_tells =
          subst (Tells rules steps others n) (sym (second_at (outcome rules steps) order ranked.distinct l n m e h))
          (outcome_tells rules steps good others n numbered distinct)

      second_clause : SecondFate rules steps others n (report n).fate
      second_clause =
          subst (λ (r : Report). SecondFate rules steps others n r.fate) (sym kept_report)
          (second_fate_lem rules steps good others n (retested n) second_tells)

      second_count_lem : Counted rules steps others n (report n).second
      second_count_lem = subst (λ (r : Report). Counted rules steps others n r.second) (sym kept_report)
          second_tells.counted

  pub demanded : Demanded rules steps order (report_on (outcome rules steps) order)
  demanded =
      demanded_by rules steps order report
      (record {
        first = first_clause;
        first_count = first_count_lem;
        second = second_clause;
        second_count = second_count_lem;
        no_second = no_second_lem;
      })
      ranked

-- what is reported of a file meets the demand
pub file_demanded : (bs : List ℕ) → Demanded (rules_of bs) (steps_of bs) (decision_order bs) (reported bs)
file_demanded bs =
    let formed = file_formed bs in
    demanded (rules_of bs) (steps_of bs) formed.good_rules formed.few_rules (decision_order bs) (decision_order_lem bs)
