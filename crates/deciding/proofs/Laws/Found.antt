-- What a test of a candidate comes to (01, "Joint standings and the first pass"), in the words of the demand: its count
-- is the number of joint standings, and where they are at most 4,096 it knows of each kind of satisfied ones whether
-- some sequence leads there. By the laws of the search over a file's rules and of joint standings.
use Rattle.std.specs.Prelude.{List, ◌∷◌, map, ◌↔◌, Bool, true, ◌≡◌, refl, ℕ, ◌≤◌, ◌<◌, length}
use Rattle.std.proofs.Common.{map-id, inl, sym, ◌∙◌, subst, arith, le-leb}
use Rattle.std.proofs.Math.Logic.{inr}
use Rattle.std.proofs.Math.Bool.{false}
use Rattle.std.proofs.Math.Path.{ap}
use Rattle.std.proofs.Math.Decide.{dec_lt}
use Rattle.std.proofs.Math.Dec.{T}
use Rattle.std.proofs.lemmas.List.{length-map}
use Rattle.lists.specs.Decides.{Decides, Wanted}
use Rattle.lists.specs.Laws.Members.{all_map, all_member, member_all, members_more, map_same, same_map, member_map}
use Rattle.lists.specs.Laws.Members.{map_member, distinct_map}
use Rattle.lists.specs.Laws.Pigeonhole.{distinct_fits}
use Rattle.lists.specs.Laws.Decides.{decides_and, decides_iff, decides_wanted}
use Rattle.lists.specs.Laws.Exhaustive.{every_same, decides_every, decides_some_member}
use Rattle.lists.specs.Members.{All, Member, Distinct}
use Rattle.rule.specs.declared.Rule.{Rule}
use Rattle.rule.specs.Good.{GoodRule}
use Rattle.rule.specs.Behaviour.{RuleNumber, SatisfiesRule, satisfies, standing_after}
use Rattle.rule.specs.Laws.Behaviour.{satisfied_unbroken, rule_means}
use Rattle.joint.specs.Joint.{standing_of, all_satisfied}
use Rattle.joint.proofs.Laws.Joint.{joint_same}
use Rattle.joint.specs.After.{joint_after}
use Rattle.search.specs.JointSearch.{fitting}
use Rattle.search.specs.FileSearch.{Unbroken, Reaches, Finds}
use Rattle.search.proofs.Laws.FileSearch.{finds, held_after}
use Rattle.deciding.specs.declared.Outcome.{Outcome}
use Rattle.deciding.specs.Demand.{Satisfying, standings_after, JointStanding, Over, Counted, Together, Violable}
use Rattle.deciding.specs.Outcome.{among_few, outcome_of, test_found, test_fits, outcome}

module _ (rules : List Rule) (steps : ℕ) (kept : List ℕ) (c : ℕ) where
  -- the count says whether there are over 4,096
  pub over_exactly : (n : ℕ) → Counted rules steps kept c n → (4096 < n) ↔ Over rules steps kept c
  over_exactly n k = (over, λ o. many o (dec_lt 4096 n))
    where
      over : 4096 < n → Over rules steps kept c
      over h = record {
        list = k.list;
        number = omega (arith, k.number, k.held);
        each = k.each;
        distinct = k.distinct;
      }

      many : Over rules steps kept c → Dec (4096 < n) → 4096 < n
      many o (yes h) = h
      many o (no h) =
          let fits = distinct_fits o.list k.list o.distinct
          (all_map (k.all (omega arith)) o.list o.each) in
          absurd (omega (arith, o.number, k.number))

  -- what an outcome says of the candidate
  pub record Tells (o : Outcome) : Type 0 where
    pub counted : Counted rules steps kept c o.count
    pub satisfying : o.count ≤ 4096 → Decides o.satisfying (Together rules steps kept c)
    pub violating : o.count ≤ 4096 → Decides o.violating (Violable rules steps kept c)

module _ (rules : List Rule) (steps : ℕ) (good : All (GoodRule steps) rules) (kept : List ℕ) (c : ℕ)
    (numbered : All RuleNumber (c ∷ kept)) (distinct : Distinct (c ∷ kept)) where
  abbrev found : List ℕ
  found = test_found rules steps kept c

  all_found : Finds rules steps kept (c ∷ kept) found
  all_found = finds rules steps kept (c ∷ kept) numbered distinct (members_more c kept)

  -- the joint standing after a sequence, and what it holds
  abbrev after : List ℕ → ℕ
  after s = joint_after rules (c ∷ kept) s

  after_held : (s : List ℕ) (n : ℕ) → Member n (c ∷ kept) → standing_of (after s) n ≡ standing_after rules n s
  after_held = held_after rules steps kept (c ∷ kept) numbered distinct (members_more c kept)

  found_by_lem : (j : ℕ) → Member j found → Reaches rules steps kept (c ∷ kept) j
  found_by_lem j i = all_member (Reaches rules steps kept (c ∷ kept)) found j all_found.reached i

  -- ---- joint standings as lists

  view : ℕ → List ℕ
  view j = map (standing_of j) (c ∷ kept)

  view_after : (s : List ℕ) → view (after s) ≡ standings_after rules steps kept c s
  unfolding view
  view_after s = map_same (standing_of (after s)) (λ n. standing_after rules n s) (c ∷ kept) (after_held s)

  same_after : (s t : List ℕ) → standings_after rules steps kept c s ≡ standings_after rules steps kept c t
      → after s ≡ after t
  unfolding joint_after
  same_after s t e =
      joint_same (λ n. standing_after rules n s) (λ n. standing_after rules n t) (c ∷ kept)
      (same_map (λ n. standing_after rules n s) (λ n. standing_after rules n t) (c ∷ kept) e)

  view_found : (j : ℕ) (i : Member j found) → standings_after rules steps kept c (found_by_lem j i).0 ≡ view j
  view_found j i = sym (view_after (found_by_lem j i).0) ∙ ap view (found_by_lem j i).3

  view_one : (j k : ℕ) → Member j found → Member k found → view j ≡ view k → j ≡ k
  view_one j k a b e =
      let r = found_by_lem j a in
      let t = found_by_lem k b in
      sym r.3 ∙ same_after r.0 t.0 (view_found j a ∙ e ∙ sym (view_found k b)) ∙ t.3

  counted : Counted rules steps kept c (length found)
  counted =
      record {
        list = map view found;
        number = length-map found view;
        each =
            member_all (JointStanding rules steps kept c) (map view found)
            (λ v i.
            let r = map_member view found v i in
            let by = found_by_lem r.0 r.1 in
            (by.0, by.1, by.2, view_found r.0 r.1 ∙ sym r.2));
        distinct = distinct_map view (λ j. j) found view_one
            (subst Distinct (sym (map-id found)) all_found.distinct);
        held = all_found.few;
        all = λ few j r.
            subst (λ (v : List ℕ). Member v (map view found)) (view_after r.0 ∙ r.3)
            (member_map view found (after r.0) (all_found.all few r.0 r.1 r.2));
      }

  -- ---- satisfied ones

  decides_all : (ns : List ℕ) → ((n : ℕ) → Member n ns → Member n (c ∷ kept)) → (s : List ℕ)
      → Decides (all_satisfied (satisfies rules) ns (after s)) (All (λ n. SatisfiesRule rules n s) ns)
  unfolding all_satisfied
  decides_all ns within s =
      rw (every_same (λ n. satisfies rules n (standing_of (after s) n))
      (λ n. satisfies rules n (standing_after rules n s)) ns
      (λ n i. ap (satisfies rules n) (after_held s n (within n i))))
      (decides_every (λ n. satisfies rules n (standing_after rules n s)) (λ n. SatisfiesRule rules n s) ns
      (λ n. rule_means steps rules good n s))

  -- a sequence satisfies the kept rules, and the candidate as wanted
  abbrev pub SequenceFits : Bool → List ℕ → Type 0
  SequenceFits wanted s = All (λ n. SatisfiesRule rules n s) kept × Wanted wanted (SatisfiesRule rules c s)

  -- it does so exactly when the joint standing after it fits
  pub decides_fits : (wanted : Bool) (s : List ℕ)
      → Decides (test_fits rules steps kept c wanted (joint_after rules (c ∷ kept) s)) (SequenceFits wanted s)
  unfolding fitting
  decides_fits wanted s =
      decides_and (decides_all kept (λ n i. inr i) s)
      (decides_wanted
      (subst (λ (q : ℕ). Decides (satisfies rules c q) (SatisfiesRule rules c s)) (sym (after_held s c (inl refl)))
      (rule_means steps rules good c s))
      wanted)

  -- a rule that is satisfied is not broken
  pub kept_unbroken : (s : List ℕ) → All (λ n. SatisfiesRule rules n s) kept → Unbroken rules kept s
  kept_unbroken s =
      all_map
      (λ n h. satisfied_unbroken rules n (standing_after rules n s) ((rule_means steps rules good n s).complete h)) kept

  -- some sequence does so exactly when a joint standing is found that fits
  abbrev Some : Bool → Type 0
  Some wanted = (s : List ℕ) × Satisfying rules steps kept s × Wanted wanted (SatisfiesRule rules c s)

  decides_found : (wanted : Bool) → length found ≤ 4096
      → Decides (among_few (test_fits rules steps kept c wanted) found) (Some wanted)
  unfolding among_few
  decides_found wanted few =
      rw (le-leb (length found) 4096 few) (decides_iff (sound, complete)
      (decides_some_member (test_fits rules steps kept c wanted) found))
    where
      sound : (j : ℕ) × Member j found × T (test_fits rules steps kept c wanted j) → Some wanted
      sound r =
          let by = found_by_lem r.0 r.1 in
          let h = (decides_fits wanted by.0).sound
          (subst (λ (j : ℕ). T (test_fits rules steps kept c wanted j)) (sym by.3) r.2) in
          (by.0, record { declared = by.1; all = h.0 }, h.1)

      complete : Some wanted → (j : ℕ) × Member j found × T (test_fits rules steps kept c wanted j)
      complete r =
          let s = r.0 in
          let a = r.1 in (
            after s,
            all_found.all few s a.declared (kept_unbroken s a.all),
            (decides_fits wanted s).complete (a.all, r.2),
          )

  pub outcome_tells : Tells rules steps kept c (outcome rules steps kept c)
  unfolding outcome outcome_of
  outcome_tells = record { counted = counted; satisfying = decides_found true; violating = decides_found false }
