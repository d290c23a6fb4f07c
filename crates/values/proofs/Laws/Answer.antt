-- What is reported holds, and what holds is reported: the state in an answer is the one state of the rule after the
-- run. What a call promises follows from its answer.
use Rattle.std.specs.Prelude.{◌≡◌, Bool, List, [], ◌∷◌, ◌++◌, ◌↔◌, ltb, length, drop, set}
use Rattle.std.proofs.Math.Path.{refl, sym, ap, ap₂}
use Rattle.std.proofs.Common.{◌∙◌, subst, arith, le-leb, lt-ltb, le-ltb}
use Rattle.std.proofs.Math.Bool.{true, false, cond}
use Rattle.std.proofs.Math.Decide.{dec_lt}
use Prim.Native.Nat.{ℕ, zero, suc, ◌≤◌, ◌<◌}
use Rattle.std.proofs.lemmas.List.Edits.{sets-eq}
use Rattle.std.proofs.lemmas.Bool.{lt-leb}
use Rattle.lists.specs.Laws.Elements.{take_none}
use Rattle.refusals.specs.Refusal.{first_refusal, refused_or, written_over}
use Rattle.refusals.proofs.Laws.Refusal.{written_nothing}
use Rattle.rule.specs.declared.Rule.{Rule}
use Rattle.rule.specs.Good.{GoodRule}
use Rattle.rule.specs.Behaviour.{rule_at, SatisfiesRule}
use Rattle.rule.specs.Laws.Behaviour.{rule_good}
use Rattle.rule_file.proofs.Laws.Accepted.{file_formed}
use Rattle.rule_file.specs.Contents.{rules_of, steps_of, rule_refusal}
use Rattle.rule_file.proofs.Laws.Contents.{accepted_rule, has_rule_lem}
use Rattle.values.specs.declared.Value.{Value}
use Rattle.values.specs.Answer.{Answer, Refused, State}
use Rattle.values.specs.Value.{value_number, value_of}
use Rattle.values.specs.Progress.{has_other, progress_after}
use Rattle.values.specs.Run.{StateOf}
use Rattle.values.proofs.Laws.Run.{tracks, state_only}
use Rattle.values.specs.Answer.{refusal_number, state_after, declared_run, followed, run_answer, lent_answer, Holds}
use Rattle.values.specs.Answer.{Answers, Monitors, state_numbers}

-- an answer is refused or a state
refused_no_state : {A : Type 0} (a : Answer) (n : ℕ) (v : Value) (c : ℕ) → a ≡ Refused n → a ≡ State v c → A
refused_no_state a n v c p q = let z : ◌≡◌ {A = ℕ} 0 1 = cc in absurd (omega arith)

-- of rule n of a file after a run
module _ (bs run : List ℕ) (n : ℕ) where
  abbrev StateIs : Value → ℕ → Type 0
  StateIs = StateOf (steps_of bs) (SatisfiesRule (rules_of bs) n) run

  -- neither the file nor the rule number is refused
  module _ (there : rule_refusal bs n ≡ 0) where
    good : GoodRule (steps_of bs) (rule_at (rules_of bs) n)
    good =
        let h = has_rule_lem bs n (accepted_rule bs n (sym there)) in
        rule_good (steps_of bs) (rules_of bs) (file_formed bs).good_rules n h.0 h.1

    -- the state that is read holds
    after_holds : (v : Value) (c : ℕ) → state_after (rule_at (rules_of bs) n) (steps_of bs) run ≡ State v c → StateIs v c
    unfolding state_after SatisfiesRule
    after_holds v c e =
        let r = rule_at (rules_of bs) n in
        let other = has_other r (steps_of bs) in
        let p = progress_after r other run in
        let f : value_of r.template other p.standing ≡ v = cc in
        let g : p.relevant ≡ c = cc in
        rw (← f, ← g) (tracks (steps_of bs) r good run).state

  pub answer_holds : Holds bs run n (run_answer bs run n)
  unfolding run_answer followed
  answer_holds v c e = go (rule_refusal bs n) refl e
    where
      by_run : rule_refusal bs n ≡ 0 → (b : Bool)
          → cond b (state_after (rule_at (rules_of bs) n) (steps_of bs) run) (Refused 15) ≡ State v c → StateIs v c
      by_run there true q = after_holds there v c q
      by_run there false q = refused_no_state (Refused 15) 15 v c refl q

      go : (k : ℕ) → rule_refusal bs n ≡ k → refused_or Refused k (followed (rule_at (rules_of bs) n) (steps_of bs) run)
          ≡ State v c → StateIs v c
      go zero there q = by_run there (declared_run (steps_of bs) run) q
      go (suc k) there q = refused_no_state (Refused (suc k)) (suc k) v c refl q

  -- the number of the refusal: of the file and the rule number, then of the run
  pub run_refusal : refusal_number (run_answer bs run n)
      ≡ first_refusal (rule_refusal bs n) (cond (declared_run (steps_of bs) run) 0 15)
  unfolding run_answer followed state_after
  run_refusal = go (rule_refusal bs n) (declared_run (steps_of bs) run)
    where
      go : (k : ℕ) (b : Bool)
          → refusal_number (refused_or Refused k
          (cond b (state_after (rule_at (rules_of bs) n) (steps_of bs) run) (Refused 15)))
          ≡ first_refusal k (cond b 0 15)
      go zero true = refl
      go zero false = refl
      go (suc k) b = refl

  -- where nothing is refused, the answer is a state exactly if that is the rule's state after the run
  pub state_exactly : rule_refusal bs n ≡ 0 → declared_run (steps_of bs) run ≡ true → (v : Value) (c : ℕ)
      → (run_answer bs run n ≡ State v c) ↔ StateIs v c
  unfolding run_answer followed state_after
  state_exactly there declared v c = (answer_holds v c, back)
    where
      read : run_answer bs run n ≡ state_after (rule_at (rules_of bs) n) (steps_of bs) run
      read = rw (there, declared)

      back : StateIs v c → run_answer bs run n ≡ State v c
      back h =
          let one = state_only (steps_of bs) (SatisfiesRule (rules_of bs) n) run _ v _ c (answer_holds _ _ read) h in
          read ∙ ap₂ State one.0 one.1

  -- what a call promises follows from its answer
  pub answers : (a : Answer) → a ≡ run_answer bs run n → Answers bs run n a
  answers a e = record { returned = e; holds = subst (Holds bs run n) (sym e) answer_holds }

  pub refused_answers : (k : ℕ) → k ≡ rule_refusal bs n → ¬ (k ≡ 0) → Answers bs run n (Refused k)
  unfolding run_answer
  refused_answers zero e h = absurd (h refl)
  refused_answers (suc k) e h =
      answers (Refused (suc k)) (ap (λ (m : ℕ).
      refused_or Refused m (followed (rule_at (rules_of bs) n) (steps_of bs) run)) e)

  pub followed_answers : (r : Rule) (steps : ℕ) (a : Answer) → 0 ≡ rule_refusal bs n → r ≡ rule_at (rules_of bs) n → steps
      ≡ steps_of bs
      → a ≡ followed r steps run → Answers bs run n a
  unfolding run_answer
  followed_answers r steps a e f g h =
      answers a
      (h
      ∙ ap₂ (λ (q : Rule) (s : ℕ). followed q s run) f g
      ∙ ap (λ (m : ℕ). refused_or Refused m (followed (rule_at (rules_of bs) n) (steps_of bs) run)) e)

-- what is written: an area that is too short, and one that is long enough
module _ (bs run : List ℕ) (n : ℕ) (area : List ℕ) where
  -- whether it is too short, as the code tests it
  abbrev short : ℕ
  short = cond (ltb (length area) 2) 1 0

  pub short_monitors : (k : ℕ) → k ≡ short → ¬ (k ≡ 0) → Monitors bs run n area area k
  unfolding lent_answer
  short_monitors k f z = go (dec_lt (length area) 2)
    where
      go : Dec (length area < 2) → Monitors bs run n area area k
      go (no h) =
          let long : 2 ≤ length area = omega arith in
          absurd (z (f ∙ ap (λ (b : Bool). cond b 1 0) (le-ltb (length area) 2 long)))
      go (yes h) =
          let one : k ≡ 1 = f ∙ ap (λ (b : Bool). cond b 1 0) (lt-ltb (length area) 2 h) in
          let e : Refused 1 ≡ lent_answer (length area) bs run n =
          ap (λ (b : Bool). cond b (run_answer bs run n) (Refused 1)) (sym (lt-leb 2 (length area) h)) in
          record {
            returned = one ∙ ap refusal_number e;
            written = sym (written_nothing area) ∙ ap (λ (a : Answer). written_over (state_numbers a) area) e;
            holds = λ v c g. refused_no_state (lent_answer (length area) bs run n) 1 v c (sym e) g;
          }

  pub short_monitors_below : length area < 2 → Monitors bs run n area area 1
  short_monitors_below h =
      short_monitors 1 (sym (ap (λ (b : Bool). cond b 1 0) (lt-ltb (length area) 2 h))) (λ z. omega arith)

  pub long_enough : 0 ≡ short → 2 ≤ length area
  long_enough f = go (dec_lt (length area) 2)
    where
      go : Dec (length area < 2) → 2 ≤ length area
      go (no h) = omega arith
      go (yes h) =
          let one : ◌≡◌ {A = ℕ} 0 1 = f ∙ ap (λ (b : Bool). cond b 1 0) (lt-ltb (length area) 2 h) in
          absurd (omega arith)

  module _ (long : 2 ≤ length area) (a : Answer) (given : Answers bs run n a) where
    lent : a ≡ lent_answer (length area) bs run n
    unfolding lent_answer
    lent = given.returned ∙ ap (λ (b : Bool). cond b (run_answer bs run n) (Refused 1))
        (sym (le-leb 2 (length area) long))

    monitors : (area' : List ℕ) (number : ℕ) → number ≡ refusal_number a → area' ≡ written_over (state_numbers a) area
        → Monitors bs run n area area' number
    monitors area' number e f =
        record {
          returned = e ∙ ap refusal_number lent;
          written = f ∙ ap (λ (b : Answer). written_over (state_numbers b) area) lent;
          holds = subst (Holds bs run n) lent given.holds;
        }

    pub refused_monitors : (k : ℕ) → a ≡ Refused k → Monitors bs run n area area k
    refused_monitors k e =
        monitors area k (sym (ap refusal_number e))
        (sym (ap (λ (b : Answer). written_over (state_numbers b) area) e ∙ written_nothing area))

    -- two stores
    pub state_monitors : (v : Value) (m c : ℕ) → a ≡ State v c → m ≡ value_number v
        → Monitors bs run n area (set (set area 0 m) 1 c) 0
    state_monitors v m c e f =
        monitors (set (set area 0 m) 1 c) 0 (sym (ap refusal_number e))
        (sets-eq (m ∷ c ∷ []) area 0 long
        ∙ ap (λ (l : List ℕ). l ++ (m ∷ c ∷ []) ++ drop 2 area) (take_none area)
        ∙ ap (λ (k : ℕ). k ∷ c ∷ drop 2 area) f
        ∙ sym (ap (λ (b : Answer). written_over (state_numbers b) area) e))
