-- The demand fixes what is reported (`one_report`): whatever decides the rules of an order gives each the same fate and
-- the same counts. It is the case of one list of rules of `same_reports`, which speaks of two lists whose rules, in
-- their orders, are equal one after another, since a test sees rules only by what they are (`SameTest`).
use Rattle.std.specs.Prelude.{Bool, true, false, cond, List, [], ◌∷◌, ◌++◌, map, ◌≡◌, refl, ℕ, ◌≤◌, ◌<◌, length}
use Rattle.std.proofs.Common.{true≢false, inl, sym, ap, ap₂, ◌∙◌, subst, arith}
use Rattle.std.proofs.Math.Decide.{dec_lt}
use Rattle.std.proofs.Math.Seq.{append_snoc}
use Rattle.lists.specs.Laws.Elements.{map_append}
use Rattle.lists.specs.Laws.Mapped.{Paired, paired}
use Rattle.lists.specs.Laws.Members.{all_map, all_more, all_parts, append_member, same_map}
use Rattle.lists.specs.Laws.Pigeonhole.{distinct_fits}
use Rattle.lists.specs.Members.{All, Member}
use Rattle.lists.specs.Parts.{filter}
use Rattle.rule.specs.Behaviour.{rule_at, rules_at}
use Rattle.rule.specs.declared.Rule.{Rule}
use Rattle.ranking.proofs.Laws.Rank.{order_only}
use Rattle.deciding.specs.Demand.{Over, Counted, Conflicts, FirstFate, SecondFate, kept_first, kept_finally}
use Rattle.deciding.specs.Demand.{others_kept, Decided, Demanded}
use Rattle.deciding.specs.Fate.{in_first_pass, is_kept, is_final}
use Rattle.deciding.proofs.Laws.Fate.{other_fate, same_kept, not_kept_first}
use Rattle.deciding.specs.Laws.SameTest.{SameTest, counted_to, first_to, second_to}
use Rattle.deciding.specs.Reports.{with_reports}
use Rattle.deciding.specs.declared.Fate.{Fate}
use Rattle.deciding.specs.declared.Fate.TheVariants.{Kept, Conflicting, Implied, SetAside, Dropped, Untested}
use Rattle.deciding.specs.declared.Report.{Report}

-- ---- of one test: one count, and one fate in either pass

module _ (rules : List Rule) (steps : ℕ) (kept : List ℕ) (c : ℕ) where
  count_le : (m n : ℕ) → Counted rules steps kept c m → Counted rules steps kept c n → m ≤ n
  count_le m n a b = go (dec_lt n 4097)
    where
      go : Dec (n < 4097) → m ≤ n
      go (yes h) =
          let among = all_map (b.all (omega arith)) a.list a.each in
          omega (arith, distinct_fits a.list b.list a.distinct among, a.number, b.number)
      go (no h) = omega (arith, a.held)

  one_count : (m n : ℕ) → Counted rules steps kept c m → Counted rules steps kept c n → m ≡ n
  one_count m n a b = omega (arith, count_le m n a b, count_le n m b a)

  -- where the fate is another one, the condition of this one does not hold
  module _ (g : Fate) (b : FirstFate rules steps kept c g) where
    not_over : ¬ (g ≡ SetAside) → ¬ Over rules steps kept c
    not_over n o = n (b.aside.1 o)

    not_conflicts : ¬ (g ≡ SetAside) → ¬ (g ≡ Conflicting) → ¬ Conflicts rules steps kept c
    not_conflicts n k x = k ((b.conflicting (not_over n)).1 x)

  first_kept : (f : Fate) → FirstFate rules steps kept c f → FirstFate rules steps kept c Kept → f ≡ Kept
  first_kept f a b =
      let o = not_over Kept b (λ e. other_fate e tt) in
      let k = not_conflicts Kept b (λ e. other_fate e tt) (λ e. other_fate e tt) in
      a.keeps o k (λ i. other_fate ((b.implied o k).1 i) tt)

  one_first : (f g : Fate) → FirstFate rules steps kept c f → FirstFate rules steps kept c (in_first_pass g)
      → f ≡ in_first_pass g
  one_first f Kept a b = first_kept f a b
  one_first f Conflicting a b =
      let o = not_over Conflicting b (λ e. other_fate e tt) in
      (a.conflicting o).1 ((b.conflicting o).0 refl)
  one_first f Implied a b =
      let o = not_over Implied b (λ e. other_fate e tt) in
      let k = not_conflicts Implied b (λ e. other_fate e tt) (λ e. other_fate e tt) in
      (a.implied o k).1 ((b.implied o k).0 refl)
  one_first f SetAside a b = a.aside.1 (b.aside.0 refl)
  one_first f Dropped a b = first_kept f a b
  one_first f Untested a b = first_kept f a b

  one_second : (f g : Fate) → is_kept g ≡ true → SecondFate rules steps kept c f → SecondFate rules steps kept c g
      → f ≡ g
  one_second f Kept h a b =
      let o : ¬ Over rules steps kept c = λ x. other_fate (b.untested.1 x) tt in
      a.keeps o (λ i. other_fate ((b.dropped o).1 i) tt)
  one_second f Conflicting h a b = absurd (true≢false (sym h))
  one_second f Implied h a b = absurd (true≢false (sym h))
  one_second f SetAside h a b = absurd (true≢false (sym h))
  one_second f Dropped h a b =
      let o : ¬ Over rules steps kept c = λ x. other_fate (b.untested.1 x) tt in
      (a.dropped o).1 ((b.dropped o).0 refl)
  one_second f Untested h a b = a.untested.1 (b.untested.0 refl)

-- ---- along two orders with equal rules

-- a rule's number in the one order and in the other
abbrev Both : Type 0
Both = ℕ × ℕ

abbrev lefts : List Both → List ℕ
lefts ps = map (λ p. p.0) ps

abbrev rights : List Both → List ℕ
rights ps = map (λ p. p.1) ps

module _ (rules rules' : List Rule) where
  abbrev Equal : Both → Type 0
  Equal p = rule_at rules p.0 ≡ rule_at rules' p.1

  -- tests that agree on the numbers of both pass equal rules
  filter_alike : (t u : ℕ → Bool) (ps : List Both) → All Equal ps → All (λ p. t p.0 ≡ u p.1) ps
      → rules_at rules (filter t (lefts ps)) ≡ rules_at rules' (filter u (rights ps))
  filter_alike t u [] h g = refl
  filter_alike t u (p ∷ ps) h g = go (t p.0) (u p.1) g.0 (filter_alike t u ps h.1 g.1)
    where
      go : (a b : Bool) → a ≡ b → rules_at rules (filter t (lefts ps)) ≡ rules_at rules' (filter u (rights ps))
          → rules_at rules (cond a (p.0 ∷ filter t (lefts ps)) (filter t (lefts ps)))
          ≡ rules_at rules' (cond b (p.1 ∷ filter u (rights ps)) (filter u (rights ps)))
      go true true e i = ap₂ (λ (r : Rule) (l : List Rule). r ∷ l) h.0 i
      go true false e i = absurd (true≢false e)
      go false true e i = absurd (true≢false (sym e))
      go false false e i = i

module _ (rules rules' : List Rule) (steps : ℕ) (order order' : List ℕ) (report report' : ℕ → Report)
    (r : Decided rules steps order report) (q : Decided rules' steps order' report')
    (ps : List Both) (both : Paired (rule_at rules) (rule_at rules') order order' ps) where
  abbrev SameFirst : Both → Type 0
  SameFirst p = in_first_pass (report p.0).fate ≡ in_first_pass (report' p.1).fate

  abbrev SameReport : Both → Type 0
  SameReport p = report p.0 ≡ report' p.1

  -- at a place of both orders: those before it have the same fates in the first pass
  module _ (before : List Both) (p : Both) (after : List Both) (e : ps ≡ before ++ (p ∷ after))
      (h : All SameFirst before) where
    abbrev kept : List ℕ
    kept = filter (kept_first report) (lefts before)

    abbrev kept' : List ℕ
    kept' = filter (kept_first report') (rights before)

    abbrev others : List ℕ
    others = others_kept report (lefts before) (lefts after)

    abbrev others' : List ℕ
    others' = others_kept report' (rights before) (rights after)

    left_at : order ≡ lefts before ++ (p.0 ∷ lefts after)
    left_at = sym both.firsts ∙ ap lefts e ∙ map_append (λ (p : Both). p.0) before (p ∷ after)

    right_at : order' ≡ rights before ++ (p.1 ∷ rights after)
    right_at = sym both.seconds ∙ ap rights e ∙ map_append (λ (p : Both). p.1) before (p ∷ after)

    left_member : Member p.0 order
    left_member =
        subst (Member p.0) (sym left_at) (append_member (lefts before) (p.0 ∷ lefts after) p.0 (inl refl))

    right_member : Member p.1 order'
    right_member =
        subst (Member p.1) (sym right_at) (append_member (rights before) (p.1 ∷ rights after) p.1 (inl refl))

    equal_parts : All (Equal rules rules') before × All (Equal rules rules') (p ∷ after)
    equal_parts = all_parts (Equal rules rules') before (p ∷ after) (subst (All (Equal rules rules')) e both.alike)

    kept_alike : rules_at rules kept ≡ rules_at rules' kept'
    kept_alike =
        filter_alike rules rules' (kept_first report) (kept_first report') before equal_parts.0
        (all_map (λ p. same_kept (report p.0).fate (report' p.1).fate) before h)

    first_test : SameTest rules kept p.0 rules' kept' p.1
    first_test = record { candidate = equal_parts.1.0; others = kept_alike }

    same_first : SameFirst p
    same_first =
        one_first rules' steps kept' p.1 (in_first_pass (report p.0).fate) (report' p.1).fate
        (first_to steps first_test (in_first_pass (report p.0).fate)
        (r.first (lefts before) p.0 (lefts after) left_at))
        (q.first (rights before) p.1 (rights after) right_at)

    same_first_count : (report p.0).first ≡ (report' p.1).first
    same_first_count =
        one_count rules' steps kept' p.1 (report p.0).first (report' p.1).first
        (counted_to steps first_test (report p.0).first
        (r.first_count (lefts before) p.0 (lefts after) left_at))
        (q.first_count (rights before) p.1 (rights after) right_at)

    kept_both : {b : Bool} → kept_first report' p.1 ≡ b → kept_first report p.0 ≡ b
    kept_both k = same_kept (report p.0).fate (report' p.1).fate same_first ∙ k

    -- and those after it the same reports
    module _ (k : All SameReport after) where
      second_test : SameTest rules others p.0 rules' others' p.1
      second_test =
          record {
            candidate = equal_parts.1.0;
            others =
                map_append (rule_at rules) kept (filter (kept_finally report) (lefts after))
                ∙ ap₂ (λ (l m : List Rule). l ++ m) kept_alike
                (filter_alike rules rules' (kept_finally report) (kept_finally report') after equal_parts.1.1
                (all_map (λ p. ap (λ (r : Report). is_final r.fate)) after k))
                ∙ sym (map_append (rule_at rules') kept' (filter (kept_finally report') (rights after)));
          }

      same_fate : (report p.0).fate ≡ (report' p.1).fate
      same_fate = go (kept_first report' p.1) refl
        where
          go : (b : Bool) → kept_first report' p.1 ≡ b → (report p.0).fate ≡ (report' p.1).fate
          go true t =
              one_second rules' steps others' p.1 (report p.0).fate (report' p.1).fate t
              (second_to steps second_test (report p.0).fate
              (r.second (lefts before) p.0 (lefts after) left_at (kept_both t)))
              (q.second (rights before) p.1 (rights after) right_at t)
          go false t =
              sym (not_kept_first (report p.0).fate (kept_both t))
              ∙ same_first
              ∙ not_kept_first (report' p.1).fate t

      same_second_count : (report p.0).second ≡ (report' p.1).second
      same_second_count = go (kept_first report' p.1) refl
        where
          go : (b : Bool) → kept_first report' p.1 ≡ b → (report p.0).second ≡ (report' p.1).second
          go true t =
              one_count rules' steps others' p.1 (report p.0).second (report' p.1).second
              (counted_to steps second_test (report p.0).second
              (r.second_count (lefts before) p.0 (lefts after) left_at (kept_both t)))
              (q.second_count (rights before) p.1 (rights after) right_at t)
          go false t =
              r.no_second p.0 left_member (kept_both t) ∙ sym (q.no_second p.1 right_member t)

      same_report : SameReport p
      same_report =
          λ i. record { fate = same_fate i; first = same_first_count i; second = same_second_count i }

  -- the first pass goes down the orders, and the second comes back
  along : (before after : List Both) → ps ≡ before ++ after → All SameFirst before → All SameReport after
  along before [] e h = tt
  along before (p ∷ after) e h =
      let later =
      along (before ++ (p ∷ [])) after (e ∙ sym (append_snoc before p after))
      (all_more SameFirst before p h (same_first before p after e h)) in
      (same_report before p after e h later, later)

  reports_alike : (ts : List Both) → All (Equal rules rules') ts → All SameReport ts
      → with_reports rules report (lefts ts) ≡ with_reports rules' report' (rights ts)
  reports_alike [] h k = refl
  reports_alike (p ∷ ts) h k =
      λ i. (h.0 i, k.0 i) ∷ reports_alike ts h.1 k.1 i

  reports_both : with_reports rules report order ≡ with_reports rules' report' order'
  reports_both =
      ap (with_reports rules report) (sym both.firsts)
      ∙ reports_alike ps both.alike (along [] ps refl tt)
      ∙ ap (with_reports rules' report') both.seconds

-- ---- the laws

-- where the orders list equal rules, the rules have the same fates and counts, one after another
pub same_reports : (rules rules' : List Rule) (steps : ℕ) (order order' : List ℕ) (report report' : ℕ → Report)
    → Decided rules steps order report → Decided rules' steps order' report'
    → rules_at rules order ≡ rules_at rules' order'
    → with_reports rules report order ≡ with_reports rules' report' order'
same_reports rules rules' steps order order' report report' r q e =
    let ps = paired (rule_at rules) (rule_at rules') order order' e in
    reports_both rules rules' steps order order' report report' r q ps.0 ps.1

-- of one list of rules: what meets the demand is reported of each rule, and nothing else does
pub one_report : (rules : List Rule) (steps : ℕ) (order order' : List ℕ) (report report' : ℕ → Report)
    → Demanded rules steps order report → Demanded rules steps order' report'
    → (n : ℕ) → 1 ≤ n → n ≤ length rules → report n ≡ report' n
one_report rules steps order order' report report' d d' n a b =
    let one : order' ≡ order =
    order_only rules (length rules) order' d'.ranked ∙ sym (order_only rules (length rules) order d.ranked) in
    let decided : Decided rules steps order report' =
    subst (λ (l : List ℕ). Decided rules steps l report') one d'.decided in
    ap (λ (p : Rule × Report). p.1)
    (same_map (λ n. (rule_at rules n, report n)) (λ n. (rule_at rules n, report' n)) order
    (same_reports rules rules steps order order report report' d.decided decided refl) n
    ((d.ranked.members n).1 (a, b)))
