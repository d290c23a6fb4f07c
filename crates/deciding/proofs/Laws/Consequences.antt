-- What follows from how each rule is decided (the third demand), whatever is reported: the finally kept rules have at
-- most 4,096 joint standings that sequences reach with none of them broken. The best-ranked dropped rule was tested
-- against exactly these rules; if none was dropped, the worst kept rule was tested in the first pass against all the
-- others; and no rules have one joint standing. And some sequence satisfies the rules kept before a conflicting rule
-- and not that rule, since all rules kept in the first pass are satisfied together.
use Rattle.std.specs.Prelude.{Bool, true, false, cond, ◌≡◌, refl, List, [], ◌∷◌, ◌++◌, map, ℕ, ◌≤◌, ◌<◌, T, length}
use Rattle.std.proofs.Common.{true≢false, sym, ap, ap₂, ◌∙◌, subst, append-nil, inl, inr, ⊎_elim, arith}
use Rattle.std.proofs.Math.Decide.{dec_lt}
use Rattle.std.proofs.lemmas.List.{length-map}
use Rattle.std.proofs.Math.Seq.{append_snoc}
use Rattle.lists.specs.Members.{All, Member, Distinct}
use Rattle.lists.specs.Laws.Members.{all_member, member_all, all_parts, member_append, member_either, map_same}
use Rattle.lists.specs.Laws.Members.{same_map, map_member, distinct_map}
use Rattle.lists.specs.Parts.{filter}
use Rattle.lists.specs.Laws.Parts.{filter_append}
use Rattle.lists.specs.Laws.Pigeonhole.{distinct_fits}
use Rattle.rule.specs.declared.Rule.{Rule}
use Rattle.rule.specs.Behaviour.{SatisfiesRule, breaks, standing_after, Declared}
use Rattle.search.specs.FileSearch.{Unbroken}
use Rattle.deciding.specs.declared.Report.{Report}
use Rattle.deciding.proofs.Laws.Fate.{other_fate, kept_first_lem, final_kept, kept_dropped}
use Rattle.deciding.proofs.Laws.Found.{over_exactly}
use Rattle.deciding.specs.Demand.{Satisfying, Over, Counted, Violable, kept_first, kept_finally, others_kept}
use Rattle.deciding.specs.Demand.{Decided, Demanded}
use Rattle.deciding.specs.declared.Fate.TheVariants.{Conflicting}
use Rattle.deciding.specs.Fate.{in_first_pass}

module _ (rules : List Rule) (steps : ℕ) where
  -- the standings to which a sequence leads rules
  abbrev along : List ℕ → List ℕ → List ℕ
  along ns s = map (λ n. standing_after rules n s) ns

  -- some sequence of declared steps leads the rules to the joint standing with none of them broken
  abbrev pub Whole : List ℕ → List ℕ → Type 0
  Whole ns j = (s : List ℕ) × Declared steps s × Unbroken rules ns s × (along ns s ≡ j)

  -- there are at most 4,096 of them
  abbrev pub Few : List ℕ → Type 0
  Few ns = (js : List (List ℕ)) → All (Whole ns) js → Distinct js → length js ≤ 4096

  -- the sequences that lead to the members of a list
  sequences : (ns : List ℕ) (js : List (List ℕ)) → All (Whole ns) js
      → (ss : List (List ℕ)) × All (λ s. Declared steps s × Unbroken rules ns s) ss × (map (along ns) ss ≡ js)
  sequences ns [] h = ([], tt, refl)
  sequences ns (j ∷ js) h =
      let w = h.0 in
      let r = sequences ns js h.1 in
      (w.0 ∷ r.0, ((w.1, w.2), r.1), ap₂ (λ (v : List ℕ) (l : List (List ℕ)). v ∷ l) w.3 r.2)

  none_few : Few []
  none_few [] each apart = omega arith
  none_few (j ∷ []) each apart = omega arith
  none_few (j ∷ k ∷ js) each apart = absurd (apart.0 (inl (sym each.0.3 ∙ each.1.0.3)))

  module _ (kept : List ℕ) (c n : ℕ) (counted : Counted rules steps kept c n) (none : ¬ Over rules steps kept c) where
    few : n ≤ 4096
    few = go (dec_lt 4096 n)
      where
        go : Dec (4096 < n) → n ≤ 4096
        go (yes h) = absurd (none ((over_exactly rules steps kept c n counted).0 h))
        go (no h) = omega arith

    -- rules among the kept ones and the candidate, with all the kept ones among them
    module _ (ns : List ℕ) (inside : (m : ℕ) → Member m kept → Member m ns)
        (within : (m : ℕ) → Member m ns → Member m (c ∷ kept)) where
      coarser : (s t : List ℕ) → along (c ∷ kept) s ≡ along (c ∷ kept) t → along ns s ≡ along ns t
      coarser s t e =
          map_same (λ m. standing_after rules m s) (λ m. standing_after rules m t) ns
          (λ m i. same_map (λ m. standing_after rules m s) (λ m. standing_after rules m t) (c ∷ kept) e m (within m i))

      whole : (s : List ℕ) → Unbroken rules ns s → Unbroken rules kept s
      whole s u =
          member_all (λ m. ¬ T (breaks rules m (standing_after rules m s))) kept
          (λ m i. all_member (λ m. ¬ T (breaks rules m (standing_after rules m s))) ns m u (inside m i))

      few_sequences : (ss : List (List ℕ)) → All (λ s. Declared steps s × Unbroken rules ns s) ss
          → Distinct (map (along ns) ss)
          → length ss ≤ 4096
      few_sequences ss each apart = omega (arith, fits, length-map ss (along (c ∷ kept)), counted.number, few)
        where
          reached : (j : List ℕ) → Member j (map (along (c ∷ kept)) ss) → Member j counted.list
          reached j i =
              let r = map_member (along (c ∷ kept)) ss j i in
              let w = all_member (λ s. Declared steps s × Unbroken rules ns s) ss r.0 each r.1 in
              counted.all few j (r.0, w.0, whole r.0 w.1, sym r.2)

          fits : length (map (along (c ∷ kept)) ss) ≤ length counted.list
          fits =
              distinct_fits (map (along (c ∷ kept)) ss) counted.list
              (distinct_map (along (c ∷ kept)) (along ns) ss (λ s t i j. coarser s t) apart)
              (member_all (λ j. Member j counted.list) (map (along (c ∷ kept)) ss) reached)

      counted_few : Few ns
      counted_few js each apart =
          let r = sequences ns js each in
          omega (
            arith,
            few_sequences r.0 r.1 (subst Distinct (sym r.2) apart),
            length-map r.0 (along ns),
            ap length r.2,
          )

  module _ (order : List ℕ) (report : ℕ → Report) (decided : Decided rules steps order report) where
    abbrev first : ℕ → Bool
    first = kept_first report

    abbrev final : ℕ → Bool
    final = kept_finally report

    -- along the order, as long as none was dropped
    few_from : (l m : List ℕ) → order ≡ l ++ m → filter first l ≡ filter final l → Few (filter first l)
        → Few (filter final order)
    few_from l [] e q a = subst Few (q ∙ ap (filter final) (sym (e ∙ append-nil l))) a
    few_from l (n ∷ m) e q a = go (first n) refl (final n) refl
        (few_from (l ++ (n ∷ [])) m (e ∙ sym (append_snoc l n m)))
      where
        kept : List ℕ
        kept = filter first l

        more : (p : ℕ → Bool) (b : Bool) → p n ≡ b → filter p (l ++ (n ∷ [])) ≡ filter p l ++ cond b (n ∷ []) []
        more p b h = filter_append p l (n ∷ []) ∙ ap (λ (t : Bool). filter p l ++ cond t (n ∷ []) []) h

        same : (b : Bool) → first n ≡ b → final n ≡ b → filter first (l ++ (n ∷ [])) ≡ filter final (l ++ (n ∷ []))
        same b h k = more first b h ∙ ap (λ (s : List ℕ). s ++ cond b (n ∷ []) []) q ∙ sym (more final b k)

        -- a rule kept in the first pass was tested against all those before it
        with_it : first n ≡ true → Few (kept ++ (n ∷ []))
        with_it h =
            counted_few kept n (report n).first (decided.first_count l n m e)
            (λ o. other_fate (sym (kept_first_lem (report n).fate h) ∙ (decided.first l n m e).aside.1 o) tt) (kept
            ++ (n ∷ []))
            (λ k i. member_append kept (n ∷ []) k i)
            (λ k i. ⊎_elim inr (⊎_elim inl absurd) (member_either kept (n ∷ []) k i))

        -- the first to be dropped was tested against the finally kept ones
        without : first n ≡ true → final n ≡ false → Few (others_kept report l m)
        without h k =
            let fate = decided.second l n m e h in
            let gone = kept_dropped (report n).fate h k in
            counted_few (others_kept report l m) n (report n).second (decided.second_count l n m e h)
            (λ o. other_fate (sym gone ∙ fate.untested.1 o) tt) (others_kept report l m) (λ j i. i) (λ j i. inr i)

        go : (b : Bool) → first n ≡ b → (t : Bool) → final n ≡ t
            → (filter first (l ++ (n ∷ [])) ≡ filter final (l ++ (n ∷ [])) → Few (filter first (l ++ (n ∷ [])))
            → Few (filter final order))
            → Few (filter final order)
        go true h true k later = later (same true h k) (subst Few (sym (more first true h)) (with_it h))
        go true h false k later =
            subst Few
            (sym
            (ap (filter final) e ∙ filter_append final l (n ∷ m)
            ∙ ap₂ (λ (s : List ℕ) (t : Bool). s ++ cond t (n ∷ filter final m) (filter final m)) (sym q) k))
            (without h k)
        go false h true k later = absurd (true≢false (sym (final_kept (report n).fate k) ∙ h))
        go false h false k later = later (same false h k) (subst Few (sym (more first false h ∙ append-nil kept)) a)

    -- the finally kept rules have at most 4,096 joint standings with none of them broken
    pub finally_few : Few (filter (kept_finally report) order)
    finally_few = few_from [] order refl refl none_few

-- ---- what is satisfied together

module _ (rules : List Rule) (steps : ℕ) (order : List ℕ) (report : ℕ
    → Report) (demand : Demanded rules steps order report) where
  -- some sequence satisfies the rules kept of the first so many
  kept_satisfiable : (l m : List ℕ) → order ≡ l ++ m → (s : List ℕ)
      × Satisfying rules steps (filter (kept_first report) l) s
  kept_satisfiable l m e =
      let first = kept_first report in
      let s = demand.satisfiable.0 in
      let a = demand.satisfiable.1 in
      let both = subst (All (λ n. SatisfiesRule rules n s)) (ap (filter first) e ∙ filter_append first l m) a.all in
      let before = (all_parts (λ n. SatisfiesRule rules n s) (filter first l) (filter first m) both).0 in
      (s, record { declared = a.declared; all = before })

  -- and not a conflicting rule after them
  pub conflicting_violable : (l : List ℕ) (n : ℕ) (m : List ℕ) → order ≡ l ++ (n ∷ m) → in_first_pass (report n).fate
      ≡ Conflicting
      → Violable rules steps (filter (kept_first report) l) n
  conflicting_violable l n m e c =
      let fate = demand.decided.first l n m e in
      let r = kept_satisfiable l (n ∷ m) e in
      (r.0, r.1, (fate.conflicting (λ o. other_fate (sym c ∙ fate.aside.1 o) tt)).0 c r.0 r.1)
