-- The third demand (01, "Joint standings and the first pass", "Second pass" and "Shown sequences"): what the fates and
-- counts in a verdict area say of a file's rules. It speaks of sequences of declared steps of any length and of the
-- meanings of the rules; the moves stand only in what a joint standing is.
use Rattle.std.specs.Prelude.{◌≡◌, List, ◌∷◌, ◌++◌, map, ◌⊎◌, ◌↔◌, Bool, true, false, ℕ, ◌≤◌, length}
use Rattle.lists.specs.Members.{All, Member, Distinct}
use Rattle.lists.specs.Parts.{filter}
use Rattle.lists.specs.Sorted.{RankedList}
use Rattle.rule.specs.declared.Rule.{Rule}
use Rattle.rule.specs.Behaviour.{SatisfiesRule, standing_after, Declared}
use Rattle.ranking.specs.Rank.{ranks}
use Rattle.search.specs.FileSearch.{Unbroken}
use Rattle.search.specs.Limits.{joint_limit, over_limit}
use Rattle.deciding.specs.declared.Fate.{Fate}
use Rattle.deciding.specs.declared.Fate.TheVariants.{Kept, Conflicting, Implied, SetAside, Dropped, Untested}
use Rattle.deciding.specs.declared.Report.{Report}
use Rattle.deciding.specs.Fate.{in_first_pass, is_kept, is_final}

-- ---- a candidate c against kept rules, over so many declared steps
module _ (rules : List Rule) (steps : ℕ) (kept : List ℕ) where
  -- a sequence of declared steps that satisfies all kept rules
  pub record Satisfying (s : List ℕ) : Type 0 where
    pub declared : Declared steps s
    pub all : All (λ n. SatisfiesRule rules n s) kept

  module _ (c : ℕ) where
    -- the standings to which a sequence leads the candidate and the kept rules
    abbrev pub standings_after : List ℕ → List ℕ
    standings_after s = map (λ n. standing_after rules n s) (c ∷ kept)

    -- some sequence of declared steps reaches the joint standing with no kept rule broken
    abbrev pub JointStanding : List ℕ → Type 0
    JointStanding j = (s : List ℕ) × Declared steps s × Unbroken rules kept s × (standings_after s ≡ j)

    -- there are over 4,096 of them
    pub record Over : Type 0 where
      pub list : List (List ℕ)
      pub number : length list ≡ over_limit
      pub each : All JointStanding list
      pub distinct : Distinct list

    -- n is their number, held at 4,097
    pub record Counted (n : ℕ) : Type 0 where
      pub list : List (List ℕ)
      pub number : length list ≡ n
      pub each : All JointStanding list
      pub distinct : Distinct list
      pub held : n ≤ over_limit
      pub all : n ≤ joint_limit → (j : List ℕ) → JointStanding j → Member j list

    -- no sequence satisfies the kept rules and the candidate
    abbrev pub Conflicts : Type 0
    Conflicts = (s : List ℕ) → Satisfying s → ¬ SatisfiesRule rules c s

    -- every sequence that satisfies the kept rules satisfies the candidate
    abbrev pub Implies : Type 0
    Implies = (s : List ℕ) → Satisfying s → SatisfiesRule rules c s

    -- some sequence satisfies the kept rules and the candidate
    abbrev pub Together : Type 0
    Together = (s : List ℕ) × Satisfying s × SatisfiesRule rules c s

    -- some sequence satisfies the kept rules and not the candidate
    abbrev pub Violable : Type 0
    Violable = (s : List ℕ) × Satisfying s × (¬ SatisfiesRule rules c s)

    -- f is the fate of the candidate in the first pass; the last two give the sequences themselves
    pub record FirstFate (f : Fate) : Type 0 where
      pub aside : (f ≡ SetAside) ↔ Over
      pub conflicting : ¬ Over → (f ≡ Conflicting) ↔ Conflicts
      pub implied : ¬ Over → ¬ Conflicts → (f ≡ Implied) ↔ Implies
      pub keeps : ¬ Over → ¬ Conflicts → ¬ Implies → f ≡ Kept
      pub together : (f ≡ Kept) ⊎ (f ≡ Implied) → Together
      pub violable : f ≡ Kept → Violable

    -- and in the second
    pub record SecondFate (f : Fate) : Type 0 where
      pub untested : (f ≡ Untested) ↔ Over
      pub dropped : ¬ Over → (f ≡ Dropped) ↔ Implies
      pub keeps : ¬ Over → ¬ Implies → f ≡ Kept
      pub violable : f ≡ Kept → Violable

-- ---- what is reported of each rule
module _ (report : ℕ → Report) where
  abbrev pub kept_first : ℕ → Bool
  kept_first n = is_kept (report n).fate

  abbrev pub kept_finally : ℕ → Bool
  kept_finally n = is_final (report n).fate

  -- the other rules still kept when the second pass, from the worst rule, comes to a rule with these before and
  -- after it
  abbrev pub others_kept : List ℕ → List ℕ → List ℕ
  others_kept before after = filter kept_first before ++ filter kept_finally after

-- of rules in an order of decision: what is said of each rule
pub record Decided (rules : List Rule) (steps : ℕ) (order : List ℕ) (report : ℕ → Report) : Type 0 where
  -- the first pass: against the rules kept before it
  pub first : (before : List ℕ) (n : ℕ) (after : List ℕ) → order ≡ before ++ (n ∷ after)
      → FirstFate rules steps (filter (kept_first report) before) n (in_first_pass (report n).fate)
  pub first_count : (before : List ℕ) (n : ℕ) (after : List ℕ) → order ≡ before ++ (n ∷ after)
      → Counted rules steps (filter (kept_first report) before) n (report n).first
  -- the second pass, if it is kept in the first: against the others still kept
  pub second : (before : List ℕ) (n : ℕ) (after : List ℕ) → order ≡ before ++ (n ∷ after) → kept_first report n ≡ true
      → SecondFate rules steps (others_kept report before after) n (report n).fate
  pub second_count : (before : List ℕ) (n : ℕ) (after : List ℕ) → order ≡ before ++ (n ∷ after)
      → kept_first report n ≡ true
      → Counted rules steps (others_kept report before after) n (report n).second
  pub no_second : (n : ℕ) → Member n order → kept_first report n ≡ false → (report n).second ≡ 0

pub record Demanded (rules : List Rule) (steps : ℕ) (order : List ℕ) (report : ℕ → Report) : Type 0 where
  -- the order has every rule once, best first
  pub ranked : RankedList (ranks rules) (length rules) order
  pub decided : Decided rules steps order report
  -- some sequence satisfies all rules kept in the first pass
  pub satisfiable : (s : List ℕ) × Satisfying rules steps (filter (kept_first report) order) s
  -- a sequence satisfies all finally kept rules exactly when it satisfies all rules kept in the first pass
  pub same : (s : List ℕ)
      → Satisfying rules steps (filter (kept_finally report) order) s
      ↔ Satisfying rules steps (filter (kept_first report) order) s
  -- each finally kept rule that was tested is needed: some sequence satisfies the others and not it
  pub needed : (before : List ℕ) (n : ℕ) (after : List ℕ) → order ≡ before ++ (n ∷ after)
      → kept_finally report n ≡ true → 1 ≤ (report n).second → (report n).second ≤ joint_limit
      → Violable rules steps (filter (kept_finally report) (before ++ after)) n
