-- What holds of the sequences that a test gives: one is there exactly when the joint standings found are at most 4,096
-- and some one of them fits (`sequence_present`). It is the first of the sequences that satisfy the kept rules, and the
-- candidate as wanted (`sequence_first`), since the first joint standing that fits is found by the first sequence that
-- leads to one (`file_first`), and these are the same sequences (`decides_fits`); and it has fewer steps than there are
-- joint standings.
use Rattle.std.proofs.Math.Bool.{Bool, and-eq-true_iff}
use Rattle.std.specs.Prelude.{true, false, cond, ◌≡◌, List, ◌∷◌, leb, length, get_or}
use Rattle.std.proofs.Math.Option.{none, some, some-injective, none-ne-some}
use Rattle.std.proofs.Math.Path.{refl}
use Rattle.std.proofs.Common.{sym, ◌∙◌, subst, arith, leb-true, ltb-true}
use Prim.Native.Nat.{ℕ, ◌≤◌, ◌<◌}
use Rattle.lists.specs.First.{first_index}
use Rattle.lists.specs.Laws.First.{first_some}
use Rattle.lists.specs.Laws.Decides.{holds, passes}
use Rattle.lists.specs.Laws.Elements.{map_at}
use Rattle.lists.specs.Members.{All, Distinct}
use Rattle.lists.specs.Laws.Members.{members_more}
use Rattle.lists.specs.Order.{IsFirst}
use Rattle.lists.proofs.Laws.Order.{first_same}
use Rattle.rule.specs.declared.Rule.{Rule}
use Rattle.rule.specs.Good.{GoodRule}
use Rattle.rule.specs.Behaviour.{RuleNumber}
use Rattle.joint.specs.After.{joint_after}
use Rattle.search.specs.Search.{Entry, searched, first_entry, found_by}
use Rattle.search.proofs.Laws.Growth.{length_standings}
use Rattle.search.proofs.Laws.FileSearch.{PassesAfter, ReadBack, file_first, read_back_lem}
use Rattle.deciding.specs.Outcome.{among_few, test_search, test_found, test_fits}
use Rattle.deciding.proofs.Laws.Found.{decides_fits, kept_unbroken}
use Rattle.shown.specs.Shows.{Fits, is_present}
use Rattle.shown.specs.Sequence.{steps_to_fit, test_sequence}

-- where some one of at most 4,096 passes, the first that does is one of them
pub first_few : (p : ℕ → Bool) (l : List ℕ) → among_few p l ≡ true → (length l ≤ 4096) × (first_index p l < length l)
unfolding among_few
first_few p l h =
    let both = (and-eq-true_iff (leb (length l) 4096) _).0 h in
    (leb-true (length l) 4096 both.0, ltb-true (first_index p l) (length l) (first_some p l ∙ both.1))

pub sequence_present : (rules : List Rule) (steps : ℕ) (kept : List ℕ) (c : ℕ) (wanted : Bool)
    → is_present (test_sequence rules steps kept c wanted)
    ≡ among_few (test_fits rules steps kept c wanted) (test_found rules steps kept c)
unfolding test_sequence
sequence_present rules steps kept c wanted =
    go (steps_to_fit rules steps kept c wanted)
    (among_few (test_fits rules steps kept c wanted) (test_found rules steps kept c))
  where
    go : (s : List ℕ) (b : Bool) → is_present (cond b (some s) none) ≡ b
    go s true = refl
    go s false = refl

module _ (rules : List Rule) (steps : ℕ) (kept : List ℕ) (c : ℕ)
    (numbered : All RuleNumber (c ∷ kept)) (distinct : Distinct (c ∷ kept)) where
  -- what is known of the steps to entry k
  back : (k : ℕ) → k < length (searched (test_search rules steps kept c))
      → ReadBack rules steps kept (c ∷ kept) numbered distinct (members_more c kept) k
      (found_by (test_search rules steps kept c) k)
  back = read_back_lem rules steps kept (c ∷ kept) numbered distinct (members_more c kept)

  -- the joint standing after the steps to entry k is the one found there
  pub sequence_stands : (k : ℕ) → k < length (searched (test_search rules steps kept c))
      → joint_after rules (c ∷ kept) (found_by (test_search rules steps kept c) k)
      ≡ get_or (test_found rules steps kept c) k 0
  sequence_stands k h =
      let S = test_search rules steps kept c in
      (back k h).leads ∙ sym (map_at (λ (e : Entry ℕ). e.standing) (searched S) k (first_entry S) 0 h)

  module _ (good : All (GoodRule steps) rules) where
    -- the first that fits, shorter than the count
    abbrev pub FirstThatFits : Bool → List ℕ → Type 0
    FirstThatFits wanted s =
        IsFirst (Fits rules steps kept c wanted) s × (length s < length (test_found rules steps kept c))

    pub sequence_first : (wanted : Bool) (s : List ℕ) → test_sequence rules steps kept c wanted ≡ some s
        → FirstThatFits wanted s
    unfolding test_sequence
    sequence_first wanted s e = go (among_few test standings) refl e
      where
        test : ℕ → Bool
        test = test_fits rules steps kept c wanted

        standings : List ℕ
        standings = test_found rules steps kept c

        steps_there : List ℕ
        steps_there = steps_to_fit rules steps kept c wanted

        -- it leads to a joint standing that passes the test
        Passes : List ℕ → Type 0
        Passes = PassesAfter rules steps kept (c ∷ kept) numbered distinct (members_more c kept) test

        passing_fits : (t : List ℕ) → Passes t → Fits rules steps kept c wanted t
        passing_fits t l =
            let fit = holds (decides_fits rules steps good kept c numbered distinct wanted t) l.2 in
            record { satisfying = record { declared = l.0; all = fit.0 }; rule = fit.1 }

        fitting_passes : (t : List ℕ) → Fits rules steps kept c wanted t → Passes t
        fitting_passes t f =
            let all = f.satisfying.all in (
              f.satisfying.declared,
              kept_unbroken rules steps good kept c numbered distinct t all,
              passes (test (joint_after rules (c ∷ kept) t))
                  ((decides_fits rules steps good kept c numbered distinct wanted t).complete (all, f.rule)),
            )

        it_first : among_few test standings ≡ true → FirstThatFits wanted steps_there
        it_first h =
            let entries = searched (test_search rules steps kept c) in
            let few = first_few test standings h in
            let long = length_standings entries in
            let entry : first_index test standings < length entries = omega (arith, few.1) in (
              first_same Passes (Fits rules steps kept c wanted) (λ t. (passing_fits t, fitting_passes t)) steps_there
                  (file_first rules steps kept (c ∷ kept) numbered distinct (members_more c kept)
                  (omega (arith, few.0)) test entry),
              omega (arith, (back (first_index test standings) entry).short),
            )

        go : (b : Bool) → among_few test standings ≡ b → cond b (some steps_there) none ≡ some s → FirstThatFits wanted s
        go true h q = subst (FirstThatFits wanted) (some-injective steps_there s q) (it_first h)
        go false h q = absurd (none-ne-some s q)
