-- Beginning and then the steps of a run gives the monitor's answers: by the monitor's law on one more step
-- (`progress_more`), the first entries hold how far the rules have come, and the rest is as it was. They hold
-- standings of their templates (`progress_known`), so that a step is refused exactly if it is undeclared.
use Rattle.std.specs.Prelude.{◌≡◌, Bool, ◌&&◌, ltb, length, drop}
use Rattle.std.proofs.Math.Path.{refl, sym, ap}
use Rattle.std.proofs.Common.{ap₂, ◌∙◌, arith}
use Rattle.std.proofs.Math.Bool.{true, false, cond, and-eq-true_iff}
use mathlib.Core.List.{List, [], ◌∷◌, ◌++◌, foldl, append-nil, append_assoc}
use Prim.Native.Nat.{ℕ, zero, suc, ◌-◌, ◌≤◌, ◌<◌}
use Rattle.std.proofs.Math.Decide.{dec_lt}
use borrow.Author.Tests.{lt-ltb}
use Rattle.lists.specs.Elements.{listed_over}
use Rattle.lists.specs.Laws.Elements.{length_written, written_at, written_rest, written_past, written_twice}
use Rattle.lists.specs.Laws.Elements.{written_same}
use Rattle.lists.specs.Laws.Exhaustive.{below_all}
use Rattle.refusals.specs.Refusal.{refused_or, first_refusal, changed_unless}
use Rattle.refusals.proofs.Laws.Refusal.{first_accepted}
use Rattle.rule.specs.declared.Rule.{Rule}
use Rattle.rule.specs.Behaviour.{rule_at, SatisfiesRule}
use Rattle.rule_file.specs.Decode.{read_file}
use Rattle.rule_file.proofs.Laws.Accepted.{file_formed}
use Rattle.rule_file.specs.Contents.{rules_of, steps_of, has_rule, rule_refusal}
use Rattle.rule_file.proofs.Laws.Contents.{accepted_rule, has_rule_lem, file_refused}
use Rattle.values.specs.Answer.{Answer}
use Rattle.values.specs.Answer.{refusal_number, state_numbers, state_after, declared_run, followed, run_answer}
use Rattle.values.specs.declared.Value.{Value}
use Rattle.values.specs.Limits.{most_relevant}
use Rattle.values.specs.Progress.{has_other, progress_after}
use Rattle.values.proofs.Laws.Run.{progress_more, progress_known}
use Rattle.values.specs.Value.{value_of}
use Rattle.values.specs.Run.{StateOf}
use Rattle.values.proofs.Laws.Answer.{answer_holds, run_refusal}
use Rattle.watch_list.specs.Entry.{EntryState, Refused, NoStanding, State}
use Rattle.watch_list.specs.Watching.{watch_at, entry_of_rule, placed_rule, all_known, begin_refusal, undeclared_refusal}
use Rattle.watch_list.specs.Watching.{step_refusal, begun_first, moved_first, begun_list, stepped_list, entry_refusal}
use Rattle.watch_list.specs.Watching.{entry_numbers, state_in, Followed, onward, follow, declared_part, GivesAnswers}
use Rattle.watch_list.specs.declared.Watch.{Watch}
use Rattle.watch_list.specs.Entry.{entry_of, begun_entry, moved_entry, known_entry, entry_state}
use Rattle.watch_list.proofs.Laws.Calls.{long_lent}
use Rattle.watch_list.proofs.Laws.Entry.{moved_maximum}
use Rattle.values.specs.Answer as Answered

-- the monitor's answer, as what is read of an entry
answer_state : Answer → EntryState
answer_state (Answered.Refused number) = Refused number
answer_state (Answered.State value relevant) = State value relevant

as_refusal : (a : Answer) → entry_refusal (answer_state a) ≡ refusal_number a
unfolding answer_state
as_refusal (Answered.Refused number) = refl
as_refusal (Answered.State value relevant) = refl

as_numbers : (a : Answer) → entry_numbers (answer_state a) ≡ state_numbers a
unfolding answer_state
as_numbers (Answered.Refused number) = refl
as_numbers (Answered.State value relevant) = refl

as_state : (a : Answer) (v : Value) (c : ℕ) → answer_state a ≡ State v c → a ≡ Answered.State v c
unfolding answer_state
as_state (Answered.Refused number) v c e = let z : ◌≡◌ {A = ℕ} 0 1 = cc in absurd (omega arith)
as_state (Answered.State value relevant) v c e =
    let p : value ≡ v = cc in
    let q : relevant ≡ c = cc in
    ap₂ Answered.State p q

-- the steps before the first undeclared one are declared, and are all of a declared run
part_declared : (steps : ℕ) (run : List ℕ) → declared_run steps (declared_part steps run) ≡ true
part_declared steps [] = refl
part_declared steps (z ∷ run) = go (ltb z steps) refl (part_declared steps run)
  where
    go : (b : Bool) → ltb z steps ≡ b → declared_run steps (declared_part steps run) ≡ true
        → declared_run steps (cond b (z ∷ declared_part steps run) []) ≡ true
    go true h e = ap₂ ◌&&◌ h e
    go false h e = refl

part_whole : (steps : ℕ) (run : List ℕ) → declared_run steps run ≡ true → declared_part steps run ≡ run
part_whole steps [] e = refl
part_whole steps (z ∷ run) e =
    let q = (and-eq-true_iff (ltb z steps) (declared_run steps run)).0 e in
    ap₂ (λ (b : Bool) (l : List ℕ). cond b (z ∷ l) []) q.0 (part_whole steps run q.1)

-- a list of 32 entries or more
module _ (bs : List ℕ) (list : List Watch) (long : 32 ≤ length list) where
  abbrev rules : List Rule
  rules = rules_of bs

  abbrev steps : ℕ
  steps = steps_of bs

  -- the first entries hold how far the rules have come after a run
  abbrev held : List ℕ → ℕ → Watch
  held run k = let r = placed_rule rules k in entry_of (progress_after r (has_other r steps) run)

  abbrev after : List ℕ → List Watch
  after run = listed_over (length rules) (held run) list

  few : length rules ≤ length list
  few = omega (arith, (file_formed bs).few_rules)

  after_long : (run : List ℕ) → 32 ≤ length (after run)
  after_long run = omega (arith, length_written (held run) list (length rules) few)

  -- each holds a standing of its template
  held_known : (run : List ℕ) (k : ℕ) → known_entry (placed_rule rules k) (held run k) ≡ true
  unfolding known_entry
  held_known run k = let r = placed_rule rules k in lt-ltb _ _ (progress_known r (has_other r steps) run)

  after_at : (run : List ℕ) (k : ℕ) → k < length rules → watch_at (after run) k ≡ held run k
  after_at run k = written_at (held run) list (length rules) k begun_entry

  after_known : (run : List ℕ) → all_known rules (length rules) (after run) ≡ true
  unfolding all_known
  after_known run =
      below_all (length rules) (λ k. known_entry (placed_rule rules k) (watch_at (after run) k))
      (λ k h. ap (known_entry (placed_rule rules k)) (after_at run k h) ∙ held_known run k)

  -- ---- the calls

  begins : (size : ℕ) → 32 ≤ size → begin_refusal bs size ≡ (read_file bs).refusal
  unfolding begin_refusal
  begins size h = sym (long_lent size (read_file bs).refusal h)

  abbrev moved : List ℕ → ℕ → List Watch
  moved run z = moved_first rules steps (length rules) z (after run)

  moved_more : (run : List ℕ) (z : ℕ) → moved run z ≡ after (run ++ (z ∷ []))
  unfolding moved_first moved_entry
  moved_more run z =
      written_twice (held run) (length rules) list
      (λ k. moved_entry (placed_rule rules k) steps z (watch_at (after run) k))
      ∙ written_same _ (held (run ++ (z ∷ []))) (length rules) list
      (λ k l.
      let r = placed_rule rules k in
      ap (moved_entry r steps z) (after_at run k l) ∙ ap entry_of (sym (progress_more r (has_other r steps) run z)))

  -- of an accepted file, by whether the step is declared: it moves the entries, or is refused by 15 and changes none
  module _ (accepted : (read_file bs).refusal ≡ 0) (run : List ℕ) (z : ℕ) where
    step_refusal_lem : (b : Bool) → ltb z steps ≡ b → step_refusal bs (after run) z ≡ cond b 0 15
    unfolding step_refusal undeclared_refusal
    step_refusal_lem b h = rw (begins (length (after run)) (after_long run), accepted, h, after_known run) (go b)
      where
        go : (b : Bool) → first_refusal (cond b 0 15) 0 ≡ cond b 0 15
        go true = refl
        go false = refl

    step_list : (b : Bool) → ltb z steps ≡ b
        → stepped_list bs (after run) z ≡ cond b (after (run ++ (z ∷ []))) (after run)
    unfolding stepped_list
    step_list b h = ap (λ (k : ℕ). changed_unless k (moved run z) (after run)) (step_refusal_lem b h) ∙ go b
      where
        go : (b : Bool)
            → changed_unless (cond b 0 15) (moved run z) (after run) ≡ cond b (after (run ++ (z ∷ []))) (after run)
        go true = moved_more run z
        go false = refl

  -- ---- following

  abbrev at : ℕ → List Watch → Followed
  at k l = record { refusal = k; entries = l }

  abbrev part : List ℕ → List ℕ
  part run = declared_part steps run

  abbrev number : List ℕ → ℕ
  number run = cond (declared_run steps run) 0 15

  -- no step is called after a refusal
  stopped : (k : ℕ) (l : List Watch) (run : List ℕ) → foldl (onward bs) (at (suc k) l) run ≡ at (suc k) l
  stopped k l [] = refl
  stopped k l (z ∷ run) = stopped k l run

  -- the steps of a run, after others that were declared
  follows : (read_file bs).refusal ≡ 0 → (done run : List ℕ)
      → foldl (onward bs) (at 0 (after done)) run ≡ at (number run) (after (done ++ part run))
  follows accepted done [] = ap (λ (l : List ℕ). at 0 (after l)) (sym (append-nil done))
  follows accepted done (z ∷ run) = go (ltb z steps) refl (follows accepted (done ++ (z ∷ [])) run)
    where
      stepped : (b : Bool) → ltb z steps ≡ b
          → foldl (onward bs) (at 0 (after done)) (z ∷ run)
          ≡ foldl (onward bs) (at (cond b 0 15) (cond b (after (done ++ (z ∷ []))) (after done))) run
      stepped b h =
          ap₂ (λ (k : ℕ) (l : List Watch). foldl (onward bs) (at k l) run)
          (step_refusal_lem accepted done z b h) (step_list accepted done z b h)

      go : (b : Bool) → ltb z steps ≡ b
          → foldl (onward bs) (at 0 (after (done ++ (z ∷ [])))) run
          ≡ at (number run) (after ((done ++ (z ∷ [])) ++ part run))
          → foldl (onward bs) (at 0 (after done)) (z ∷ run)
          ≡ at (cond (b && declared_run steps run) 0 15) (after (done ++ cond b (z ∷ part run) []))
      go true h e =
          stepped true h ∙ e ∙ ap (λ (l : List ℕ). at (number run) (after l)) (append_assoc done (z ∷ []) (part run))
      go false h e =
          stepped false h ∙ stopped 14 (after done) run ∙ ap (λ (l : List ℕ). at 15 (after l)) (sym (append-nil done))

  -- what following comes to, by the refusal of the file
  abbrev result : ℕ → List ℕ → Followed
  result k run = at (first_refusal k (number run)) (changed_unless k (after (part run)) list)

  followed_run : (run : List ℕ) → follow bs list run ≡ result (read_file bs).refusal run
  unfolding follow begun_list begun_first progress_after
  followed_run run =
      ap (λ (k : ℕ). foldl (onward bs) (at k (changed_unless k (begun_first (length rules) list) list)) run)
      (begins (length list) long)
      ∙ go (read_file bs).refusal refl
    where
      go : (k : ℕ) → (read_file bs).refusal ≡ k
          → foldl (onward bs) (at k (changed_unless k (begun_first (length rules) list) list)) run ≡ result k run
      go zero e = follows e [] run
      go (suc k) e = stopped k list run

  -- ---- what is read

  -- of an entry after a run of declared steps
  entry_reads : (run : List ℕ) → declared_run steps run ≡ true → (k : ℕ) → k < length rules
      → entry_state (placed_rule rules k) steps (watch_at (after run) k)
      ≡ answer_state (followed (placed_rule rules k) steps run)
  unfolding entry_state followed state_after answer_state
  entry_reads run d k h =
      let r = placed_rule rules k in
      let e = held run k in
      ap (entry_state r steps) (after_at run k h)
      ∙ ap
      (λ (b : Bool).
      cond b (State (value_of r.template (has_other r steps) e.standing) e.relevant) NoStanding)
      (held_known run k)
      ∙ sym (ap (λ (b : Bool). answer_state (cond b (state_after r steps run) (Answered.Refused 15))) d)

  -- of a rule number, by the refusal of the file
  list_reads : (run : List ℕ) → declared_run steps run ≡ true → (k : ℕ) → (read_file bs).refusal ≡ k → (n : ℕ)
      → state_in bs (changed_unless k (after run) list) n ≡ answer_state (run_answer bs run n)
  unfolding state_in run_answer answer_state rule_at
  list_reads run d k e n =
      ap (λ (m : ℕ). refused_or Refused m (said k)) (sym (long_lent _ (rule_refusal bs n) (kept_long k)))
      ∙ by_rule (rule_refusal bs n) refl
    where
      said : ℕ → EntryState
      said k = entry_state (rule_at rules n) steps (entry_of_rule (changed_unless k (after run) list) n)

      kept_long : (k : ℕ) → 32 ≤ length (changed_unless k (after run) list)
      kept_long zero = after_long run
      kept_long (suc k) = long

      by_file : (k : ℕ) → (read_file bs).refusal ≡ k → rule_refusal bs n ≡ 0
          → said k ≡ answer_state (followed (rule_at rules n) steps run)
      by_file zero e q = entry_reads run d (n - 1) (omega (arith, has_rule_lem bs n (accepted_rule bs n (sym q))))
      by_file (suc k) e q = absurd (omega (arith, file_refused bs n (λ z. omega arith)))

      by_rule : (m : ℕ) → rule_refusal bs n ≡ m
          → refused_or Refused m (said k) ≡ answer_state
          (refused_or Answered.Refused m (followed (rule_at rules n) steps run))
      by_rule zero q = by_file k e q
      by_rule (suc m) q = refl

  -- ---- every run

  -- a rule number that 14 does not refuse is refused as the file is
  refused_as_file : (n : ℕ) → ¬ (rule_refusal bs n ≡ 14) → rule_refusal bs n ≡ (read_file bs).refusal
  unfolding rule_refusal has_rule
  refused_as_file n = go (read_file bs).refusal (has_rule bs n)
    where
      go : (k : ℕ) (b : Bool) → ¬ (first_refusal k (cond b 0 14) ≡ 14) → first_refusal k (cond b 0 14) ≡ k
      go zero true h = refl
      go zero false h = absurd (h refl)
      go (suc k) b h = refl

  module _ (run : List ℕ) where
    refuses : (follow bs list run).refusal ≡ first_refusal (read_file bs).refusal (number run)
    refuses = ap (λ (f : Followed). f.refusal) (followed_run run)

    leaves : (follow bs list run).entries ≡ changed_unless (read_file bs).refusal (after (part run)) list
    leaves = ap (λ (f : Followed). f.entries) (followed_run run)

    follow_reads : (n : ℕ) → state_in bs (follow bs list run).entries n ≡ answer_state (run_answer bs (part run) n)
    follow_reads n =
        ap (λ (l : List Watch). state_in bs l n) leaves
        ∙ list_reads (part run) (part_declared steps run) (read_file bs).refusal refl n

  pub gives_answers : (run : List ℕ) → GivesAnswers bs list run
  gives_answers run =
      record {
        refusal = refuses run;
        monitored = λ n h.
            refuses run
            ∙ ap (λ (k : ℕ). first_refusal k (number run)) (sym (refused_as_file n h))
            ∙ sym (run_refusal bs run n);
        before =
            leaves run
            ∙ ap (λ (l : List ℕ). changed_unless (read_file bs).refusal (after l) list)
            (sym (part_whole steps (part run) (part_declared steps run)))
            ∙ sym (leaves (part run));
        whole = λ e.
            part_whole steps run
            (none (declared_run steps run) (first_accepted (read_file bs).refusal _ (sym (refuses run) ∙ e)).1);
        refusals = λ n. ap entry_refusal (follow_reads run n) ∙ as_refusal (run_answer bs (part run) n);
        states = λ n. ap entry_numbers (follow_reads run n) ∙ as_numbers (run_answer bs (part run) n);
        later = ap (drop (length rules)) (leaves run) ∙ rest (read_file bs).refusal;
      }
    where
      none : (b : Bool) → ◌≡◌ {A = ℕ} (cond b 0 15) 0 → b ≡ true
      none true e = refl
      none false e = absurd (omega arith)

      rest : (k : ℕ) → drop (length rules) (changed_unless k (after (part run)) list) ≡ drop (length rules) list
      rest zero = written_rest (held (part run)) (length rules) list
      rest (suc k) = refl

  -- a state that is read then holds, over continuations and by what the rule means
  pub reading_holds : (run : List ℕ) (n : ℕ) (v : Value) (c : ℕ)
      → state_in bs (follow bs list run).entries n ≡ State v c
      → StateOf steps (SatisfiesRule rules n) (part run) v c
  reading_holds run n v c e =
      answer_holds bs (part run) n v c (as_state (run_answer bs (part run) n) v c (sym (follow_reads run n) ∙ e))

-- a count that stands at the maximum stays there, in every list and by every step
pub maximum_stays : (bs : List ℕ) (list : List Watch) (z k : ℕ) → (watch_at list k).relevant ≡ most_relevant
    → (watch_at (stepped_list bs list z) k).relevant ≡ most_relevant
unfolding stepped_list moved_first
maximum_stays bs list z k h = go (step_refusal bs list z)
  where
    rules : List Rule
    rules = rules_of bs

    f : ℕ → Watch
    f i = moved_entry (placed_rule rules i) (steps_of bs) z (watch_at list i)

    by_place : Dec (k < length rules) → (watch_at (listed_over (length rules) f list) k).relevant ≡ most_relevant
    by_place (yes l) =
        ap (λ (e : Watch). e.relevant) (written_at f list (length rules) k begun_entry l)
        ∙ moved_maximum (placed_rule rules k) (watch_at list k) (steps_of bs) z h
    by_place (no l) = ap (λ (e : Watch). e.relevant) (written_past f (length rules) list k begun_entry (omega arith))
        ∙ h

    go : (refusal : ℕ) → (watch_at (changed_unless refusal (listed_over (length rules) f list) list) k).relevant
        ≡ most_relevant
    go zero = by_place (dec_lt k (length rules))
    go (suc refusal) = h
