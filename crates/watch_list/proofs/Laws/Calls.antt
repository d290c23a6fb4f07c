-- What a call promises, from its tests one after the other: a refusal that one of them gives is that of the call, and
-- where none does, the entries that are gone over are there.
use Rattle.std.specs.Prelude.{Bool, cond, not, ◌&&◌, ◌≡◌, List, [], ◌∷◌, leb, ltb, eqb, length, get_or, take}
use Rattle.std.proofs.Math.Bool.{true, false}
use Rattle.std.proofs.Common.{◌∙◌, arith, leb-true, le-leb, lt-ltb, le-ltb, ne_eqb}
use Rattle.std.proofs.lemmas.Bool.{lt-leb}
use Rattle.std.proofs.lemmas.List.{length-take}
use Rattle.std.proofs.Math.Path.{refl, sym, ap, ap₂}
use Rattle.std.proofs.Math.Decide.{dec_lt}
use Prim.Native.Nat.{ℕ, zero, suc, ◌-◌, ◌≤◌, ◌<◌}
use Rattle.lists.specs.Laws.Padded.{take_padded}
use Rattle.refusals.specs.Refusal.{refused_or, first_refusal, changed_unless}
use Rattle.refusals.proofs.Laws.Refusal.{refused_or_lem}
use Rattle.rule.specs.declared.Rule.{Rule}
use Rattle.rule.specs.Behaviour.{no_rule, rule_at}
use Rattle.rule_file.specs.Decode.{read_file}
use Rattle.rule_file.specs.Contents.{rules_of, steps_of, number_refusal, rule_refusal}
use Rattle.rule_file.proofs.Laws.Contents.{count_held, rule_held, refusal_of, file_refused, accepted_rule, has_rule_lem}
use Rattle.rule_file.proofs.Laws.Accepted.{file_formed}
use Rattle.rule_file.proofs.Laws.Name.{steps_held}
use Rattle.rule_file.specs.declared.RuleFile.{RuleFile}
use Rattle.rule_file.specs.Held.{held_file}
use Rattle.values.specs.declared.Value.{Value}
use Rattle.values.specs.Value.{value_number}
use Rattle.watch_list.specs.Watching.{watch_at, entry_of_rule, all_known, lent_refusal, begin_refusal}
use Rattle.watch_list.specs.Watching.{undeclared_refusal, step_refusal, begun_first, moved_first, begun_list}
use Rattle.watch_list.specs.Watching.{stepped_list, state_in, Begins, Steps, entry_refusal, entry_numbers}
use Rattle.watch_list.specs.Watching.{read_refusal, read_numbers, Reads}
use Rattle.watch_list.specs.declared.Watch.{Watch}
use Rattle.watch_list.specs.Entry.{EntryState, Refused, NoStanding, State, known_entry, entry_state}

-- ---- the tests, one after the other

-- a refusal counts before what is tested later
first_refused : (k later : ℕ) → ¬ (k ≡ 0) → k ≡ first_refusal k later
first_refused k later h = sym (refused_or_lem (λ n. n) k later h)

-- each test as the code makes it, and that of a step as the definition does
abbrev short_by : ℕ → ℕ
short_by size = cond (ltb size 32) 1 0

abbrev undeclared_by : ℕ → ℕ → ℕ
undeclared_by steps z = cond (leb steps z) 15 0

abbrev undeclared : ℕ → ℕ → ℕ
undeclared steps z = cond (ltb z steps) 0 15

abbrev unknown_by : Bool → ℕ
unknown_by known = cond (not known) 16 0

-- of the length of the list
module _ (size later : ℕ) where
  pub long_lent : 32 ≤ size → later ≡ lent_refusal size later
  unfolding lent_refusal
  long_lent h = ap (λ (b : Bool). cond b later 1) (sym (le-leb 32 size h))

  pub short_lent : size < 32 → 1 ≡ lent_refusal size later
  unfolding lent_refusal
  short_lent h = ap (λ (b : Bool). cond b later 1) (sym (lt-leb 32 size h))

  lent_tested : first_refusal (short_by size) later ≡ lent_refusal size later
  lent_tested = go (dec_lt size 32)
    where
      go : Dec (size < 32) → first_refusal (short_by size) later ≡ lent_refusal size later
      go (yes h) = ap (λ (b : Bool). first_refusal (cond b 1 0) later) (lt-ltb size 32 h) ∙ short_lent h
      go (no h) =
          let l : 32 ≤ size = omega arith in
          ap (λ (b : Bool). first_refusal (cond b 1 0) later) (le-ltb size 32 l) ∙ long_lent l

  pub lent_refused : (k : ℕ) → k ≡ short_by size → ¬ (k ≡ 0) → k ≡ lent_refusal size later
  lent_refused k e h = first_refused k later h ∙ ap (λ (m : ℕ). first_refusal m later) e ∙ lent_tested

  pub lent_passed : 0 ≡ short_by size → later ≡ lent_refusal size later
  lent_passed e = ap (λ (m : ℕ). first_refusal m later) e ∙ lent_tested

  -- a list that is not refused is long enough
  lent_accepted : 0 ≡ lent_refusal size later → (32 ≤ size) × (0 ≡ later)
  unfolding lent_refusal
  lent_accepted e = go (leb 32 size) refl e
    where
      go : (b : Bool) → leb 32 size ≡ b → 0 ≡ cond b later 1 → (32 ≤ size) × (0 ≡ later)
      go true h q = (leb-true 32 size h, q)
      go false h q = absurd (omega arith)

-- of a step
module _ (before steps z : ℕ) where
  pub refused_before : (k : ℕ) → k ≡ before → ¬ (k ≡ 0) → k ≡ undeclared_refusal before steps z
  unfolding undeclared_refusal
  refused_before k e h =
      first_refused k (undeclared steps z) h ∙ ap (λ (m : ℕ). first_refusal m (undeclared steps z)) e

  pub step_tested : (k : ℕ) → 0 ≡ before → k ≡ undeclared_by steps z → k ≡ undeclared_refusal before steps z
  unfolding undeclared_refusal
  step_tested k e f = f ∙ go (dec_lt z steps) ∙ ap (λ (m : ℕ). first_refusal m (undeclared steps z)) e
    where
      go : Dec (z < steps) → undeclared_by steps z ≡ undeclared steps z
      go (yes h) = rw (lt-leb steps z h, lt-ltb z steps h)
      go (no h) = let l : steps ≤ z = omega arith in rw (le-leb steps z l, le-ltb z steps l)

  pub step_declared : before ≡ 0 → z < steps → 0 ≡ undeclared_refusal before steps z
  unfolding undeclared_refusal
  step_declared e h = rw (e, lt-ltb z steps h)

  pub step_undeclared : before ≡ 0 → steps ≤ z → 15 ≡ undeclared_refusal before steps z
  unfolding undeclared_refusal
  step_undeclared e h = rw (e, le-ltb z steps h)

-- of what is read: it is refused, or said
module _ (refusal : ℕ) (e : EntryState) where
  pub said_refused : ¬ (refusal ≡ 0) → Refused refusal ≡ refused_or Refused refusal e
  said_refused h = go refusal h
    where
      go : (k : ℕ) → ¬ (k ≡ 0) → Refused k ≡ refused_or Refused k e
      go zero h = absurd (h refl)
      go (suc k) h = refl

  pub said_accepted : refusal ≡ 0 → e ≡ refused_or Refused refusal e
  said_accepted q = ap (λ (k : ℕ). refused_or Refused k e) (sym q)

-- ---- of a file

-- over at most 32 entries, and over no more than there are
few : (refusal n size : ℕ) → (refusal ≡ 0 → (n ≤ 32) × (32 ≤ size)) → (changed_unless refusal n 0 ≤ size)
    × (changed_unless refusal n 0 ≤ 32)
few zero n size h = let w = h refl in (omega (arith, w.0, w.1), w.0)
few (suc k) n size h = (omega arith, omega arith)

-- over no entry where the call is refused
unless : (g : ℕ → List Watch) (list : List Watch) → g 0 ≡ list → (refusal n : ℕ)
    → g (changed_unless refusal n 0) ≡ changed_unless refusal (g n) list
unless g list e zero n = refl
unless g list e (suc k) n = e

module _ (bs : List ℕ) where
  few_rules : length (rules_of bs) ≤ 32
  few_rules = (file_formed bs).few_rules

  -- where a rule is read, it is there
  there : (size n : ℕ) → lent_refusal size (rule_refusal bs n) ≡ 0 → (1 ≤ n) × (n ≤ 32) × (32 ≤ size)
  there size n e =
      let l = lent_accepted size (rule_refusal bs n) (sym e) in
      let h = has_rule_lem bs n (accepted_rule bs n l.1) in
      (h.0, omega (arith, h.1, few_rules), l.0)

module _ (bs : List ℕ) where
  -- what is held of it has no more than 32 rules, and the list has an entry for each
  pub within : (size : ℕ) → 0 ≡ begin_refusal bs size → (held : RuleFile) → held ≡ held_file (read_file bs).decoded
      → (held.count ≤ size) × (held.count ≤ 32)
  unfolding begin_refusal
  within size e held f =
      let long = (lent_accepted size (read_file bs).refusal e).0 in
      let few : held.count ≤ 32 = omega (arith, count_held bs held f, (file_formed bs).few_rules) in
      (omega arith, few)

  -- a step that is not refused by its number, nor is what comes before
  pub step_begun : (size z : ℕ) → 0 ≡ undeclared_refusal (begin_refusal bs size) (steps_of bs) z
      → 0 ≡ begin_refusal bs size
  unfolding undeclared_refusal
  step_begun size z e = go (begin_refusal bs size) e
    where
      go : (k : ℕ) → 0 ≡ first_refusal k (undeclared (steps_of bs) z) → 0 ≡ k
      go zero q = refl
      go (suc k) q = absurd (omega arith)

  module _ (size n : ℕ) where
    -- a refusal of the list or the file
    pub read_before : (k : ℕ) → k ≡ begin_refusal bs size → ¬ (k ≡ 0) → k ≡ read_refusal bs size n
    unfolding begin_refusal lent_refusal
    read_before k e h = go (leb 32 size) e
      where
        go : (b : Bool) → k ≡ cond b (read_file bs).refusal 1 → k ≡ cond b (rule_refusal bs n) 1
        go true q = q ∙ file_refused bs n (λ z. h (q ∙ z))
        go false q = q

    -- that of the rule number
    pub read_tested : 0 ≡ begin_refusal bs size → (held : RuleFile) → held ≡ held_file (read_file bs).decoded
        → (k : ℕ) → k ≡ number_refusal 0 held.count n → k ≡ read_refusal bs size n
    unfolding begin_refusal
    read_tested e held f k g =
        let l = lent_accepted size (read_file bs).refusal e in
        g ∙ refusal_of bs n 0 held.count l.1 (count_held bs held f) ∙ long_lent size (rule_refusal bs n) l.0

    -- the rule of a number that is not refused is there, and its entry
    pub read_there : 0 ≡ read_refusal bs size n → (1 ≤ n) × (n ≤ 32) × (32 ≤ size)
    read_there e =
        let l = lent_accepted size (rule_refusal bs n) e in
        let h = has_rule_lem bs n (accepted_rule bs n l.1) in
        (h.0, omega (arith, h.1, (file_formed bs).few_rules), l.0)

-- ---- the promises

-- the numbers of what is read, by the refusal and whether the standing is known
refusal_is : (k : ℕ) (b : Bool) (v : Value) (c : ℕ) → entry_refusal (refused_or Refused k (cond b (State v c) NoStanding))
    ≡ k
refusal_is zero true v c = refl
refusal_is zero false v c = refl
refusal_is (suc k) b v c = refl

numbers_are : (k : ℕ) (b : Bool) (v : Value) (c : ℕ)
    → entry_numbers (refused_or Refused k (cond b (State v c) NoStanding))
    ≡ cond (eqb k 0 && b) (value_number v ∷ c ∷ []) []
numbers_are zero true v c = refl
numbers_are zero false v c = refl
numbers_are (suc k) b v c =
    ap (λ (t : Bool). cond (t && b) (value_number v ∷ c ∷ []) []) (sym (ne_eqb (suc k) 0 (λ e. omega arith)))

-- a refused call leaves the list as it was
unchanged : (k : ℕ) (l list : List Watch) → ¬ (k ≡ 0) → list ≡ changed_unless k l list
unchanged k l list h = sym (refused_or_lem (λ _. list) k l h)

module _ (bs : List ℕ) (list : List Watch) where
  abbrev rules : List Rule
  rules = rules_of bs

  pub begin_refused : (k : ℕ) → k ≡ begin_refusal bs (length list) → ¬ (k ≡ 0) → Begins bs list list k
  unfolding begun_list
  begin_refused k e h =
      record {
        returned = e;
        written =
            let l = begun_first (length rules) list in
            unchanged k l list h ∙ ap (λ (m : ℕ). changed_unless m l list) e;
      }

  -- what is held of a file: its rules, and its number of steps
  module _ (held : RuleFile) (is : held ≡ held_file (read_file bs).decoded) where
    rules_same : take held.count held.rules ≡ rules
    unfolding held_file
    rules_same = ap (λ (f : RuleFile). take f.count f.rules) is ∙ take_padded 32 no_rule rules

    steps_same : held.steps ≡ steps_of bs
    steps_same = steps_held bs held is

    pub begins : 0 ≡ begin_refusal bs (length list) → (list' : List Watch) → list' ≡ begun_first held.count list
        → Begins bs list list' 0
    unfolding begun_list
    begins e list' f =
        record {
          returned = e;
          written =
              f
              ∙ ap (λ (n : ℕ). begun_first n list) (count_held bs held is)
              ∙ ap (λ (m : ℕ). changed_unless m (begun_first (length rules) list) list) e;
        }

  module _ (z : ℕ) where
    abbrev before : ℕ
    before = undeclared_refusal (begin_refusal bs (length list)) (steps_of bs) z

    abbrev moved : List Watch
    moved = moved_first rules (steps_of bs) (length rules) z list

    refused : (k : ℕ) → k ≡ step_refusal bs list z → ¬ (k ≡ 0) → Steps bs z list list k
    unfolding stepped_list
    refused k e h =
        record {
          returned = e;
          written = unchanged k moved list h ∙ ap (λ (m : ℕ). changed_unless m moved list) e;
        }

    -- by the list, the file or the step
    pub step_refused : (k : ℕ) → k ≡ before → ¬ (k ≡ 0) → Steps bs z list list k
    unfolding step_refusal
    step_refused k e h =
        let later = cond (all_known rules (length rules) list) 0 16 in
        refused k (first_refused k later h ∙ ap (λ (m : ℕ). first_refusal m later) e) h

    module _ (held : RuleFile) (is : held ≡ held_file (read_file bs).decoded) (passed : 0 ≡ before) where
      abbrev first : List Rule
      first = take held.count held.rules

      -- there is an entry for each rule
      pub entries_there : length first ≤ length list
      entries_there =
          let few = within bs (length list) (step_begun bs (length list) z passed) held is in
          omega (arith, length-take held.count held.rules, few.0)

      module _ (b : Bool) (known : b ≡ all_known first (length first) list) where
        entries_tested : (k : ℕ) → k ≡ unknown_by b → k ≡ step_refusal bs list z
        unfolding step_refusal
        entries_tested k e =
            e
            ∙ either b
            ∙ ap (λ (c : Bool). cond c 0 16)
            (known ∙ ap (λ (l : List Rule). all_known l (length l) list) (rules_same held is))
            ∙ ap (λ (m : ℕ). first_refusal m (cond (all_known rules (length rules) list) 0 16)) passed
          where
            either : (c : Bool) → unknown_by c ≡ cond c 0 16
            either true = refl
            either false = refl

        -- by an entry
        pub entry_refused : (k : ℕ) → k ≡ unknown_by b → ¬ (k ≡ 0) → Steps bs z list list k
        entry_refused k e h = refused k (entries_tested k e) h

        module _ (accepted : 0 ≡ unknown_by b) where
          pub entries_known : all_known first (length first) list ≡ true
          entries_known = sym known ∙ go b accepted
            where
              go : (c : Bool) → 0 ≡ unknown_by c → c ≡ true
              go true q = refl
              go false q = absurd (omega arith)

          pub steps : (list' : List Watch) → list' ≡ moved_first first held.steps (length first) z list
              → Steps bs z list list' 0
          unfolding stepped_list
          steps list' f =
              let e = entries_tested 0 accepted in
              record {
                returned = e;
                written =
                    f
                    ∙ ap₂ (λ (l : List Rule) (n : ℕ). moved_first l n (length l) z list) (rules_same held is)
                    (steps_same held is)
                    ∙ ap (λ (m : ℕ). changed_unless m moved list) e;
              }

  module _ (n : ℕ) where
    reads_state : (s : EntryState) → s ≡ state_in bs list n → Reads bs list n s
    unfolding state_in entry_state read_numbers
    reads_state s i =
        let entry = entry_of_rule list n in
        let known = known_entry (rule_at rules n) entry in
        record {
          returned = i;
          refusal = ap entry_refusal i ∙ refusal_is (read_refusal bs (length list) n) known _ _;
          numbers = ap entry_numbers i ∙ numbers_are (read_refusal bs (length list) n) known _ _;
        }

    pub reading_refused : (k : ℕ) → k ≡ read_refusal bs (length list) n → ¬ (k ≡ 0) → Reads bs list n (Refused k)
    unfolding state_in
    reading_refused k e h =
        let s = entry_state (rule_at rules n) (steps_of bs) (entry_of_rule list n) in
        reads_state (Refused k)
        (sym (refused_or_lem Refused k s h) ∙ ap (λ (m : ℕ). refused_or Refused m s) e)

    pub reads : (held : RuleFile) → held ≡ held_file (read_file bs).decoded → 0 ≡ read_refusal bs (length list) n
        → (d : Rule) (s : EntryState)
        → s ≡ entry_state (get_or held.rules (n - 1) d) held.steps (watch_at list (n - 1)) → Reads bs list n s
    unfolding state_in
    reads held is e d s f =
        let there = has_rule_lem bs n (accepted_rule bs n (lent_accepted (length list) (rule_refusal bs n) e).1) in
        reads_state s
        (f
        ∙ ap₂ (λ (r : Rule) (m : ℕ). entry_state r m (watch_at list (n - 1)))
        (rule_held bs held is n d there.0 there.1) (steps_same held is)
        ∙ ap
        (λ (m : ℕ).
        refused_or Refused m (entry_state (rule_at rules n) (steps_of bs) (entry_of_rule list n))) e)
