-- A list with one entry a rule (01, "Monitor", Watching, and "Refused inputs"): begun, moved by a step and read, by the
-- bytes of the file; what a run makes of it; and what a call promises.
use mathlib.Core.List.{List, [], ◌∷◌, foldl}
use Rattle.std.specs.Prelude.{Bool, cond, ◌&&◌, ◌≡◌, ℕ, ◌-◌, length, get_or, drop, leb, ltb, eqb}
use Rattle.lists.specs.Exhaustive.{below}
use Rattle.lists.specs.Elements.{listed_over}
use Rattle.refusals.specs.Refusal.{first_refusal, refused_or, changed_unless}
use Rattle.rule.specs.declared.Rule.{Rule}
use Rattle.rule.specs.Behaviour.{no_rule, rule_at}
use Rattle.rule.specs.Limits.{most_rules}
use Rattle.rule_file.specs.Decode.{read_file}
use Rattle.rule_file.specs.Contents.{rules_of, steps_of, rule_refusal}
use Rattle.values.specs.Value.{value_number, value_of}
use Rattle.values.specs.Progress.{has_other}
use Rattle.values.specs.Answer.{refusal_number, state_numbers, declared_run, run_answer}
use Rattle.watch_list.specs.declared.Watch.{Watch}
use Rattle.watch_list.specs.Entry.{EntryState, Refused, NoStanding, State}
use Rattle.watch_list.specs.Entry.{begun_entry, moved_entry, known_entry, entry_state}

-- the entry at a place of a list, and the rule at a place; places are numbered from 0
abbrev pub watch_at : List Watch → ℕ → Watch
watch_at list k = get_or list k begun_entry

abbrev pub placed_rule : List Rule → ℕ → Rule
placed_rule rules k = get_or rules k no_rule

-- the entry of a rule; rules are numbered from 1
abbrev pub entry_of_rule : List Watch → ℕ → Watch
entry_of_rule list n = watch_at list (n - 1)

-- each of the first n entries has a standing of its rule's template
unfoldable pub all_known : List Rule → ℕ → List Watch → Bool
all_known rules n list = below n (λ k. known_entry (placed_rule rules k) (watch_at list k))

-- ---- refusals, in 01's order

-- 1 for a list of fewer than 32 entries, before any other
unfoldable pub lent_refusal : ℕ → ℕ → ℕ
lent_refusal size later = cond (leb most_rules size) later 1

-- 2 to 13
unfoldable pub begin_refusal : List ℕ → ℕ → ℕ
begin_refusal bs size = lent_refusal size (read_file bs).refusal

-- 15 for a step that is none of so many
unfoldable pub undeclared_refusal : ℕ → ℕ → ℕ → ℕ
undeclared_refusal before steps z = first_refusal before (cond (ltb z steps) 0 15)

-- 16
unfoldable pub step_refusal : List ℕ → List Watch → ℕ → ℕ
step_refusal bs list z =
    first_refusal
    (undeclared_refusal (begin_refusal bs (length list)) (steps_of bs) z)
    (cond (all_known (rules_of bs) (length (rules_of bs)) list) 0 16)

-- ---- the list after a call

-- the first n entries begun, or moved by the step z; later ones stay
unfoldable pub begun_first : ℕ → List Watch → List Watch
begun_first n list = listed_over n (λ k. begun_entry) list

unfoldable pub moved_first : List Rule → ℕ → ℕ → ℕ → List Watch → List Watch
moved_first rules steps n z list = listed_over n (λ k. moved_entry (placed_rule rules k) steps z (watch_at list k)) list

-- one entry a rule
unfoldable pub begun_list : List ℕ → List Watch → List Watch
begun_list bs list = changed_unless (begin_refusal bs (length list)) (begun_first (length (rules_of bs)) list) list

unfoldable pub stepped_list : List ℕ → List Watch → ℕ → List Watch
stepped_list bs list z =
    changed_unless (step_refusal bs list z) (moved_first (rules_of bs) (steps_of bs) (length (rules_of bs)) z list) list

-- ---- what is read of the entry of a rule

-- 01's numbers of each case: the refusal, 0 where there is none; value and count, where there is a value
abbrev pub entry_refusal : EntryState → ℕ
entry_refusal (Refused number) = number
entry_refusal NoStanding = 0
entry_refusal (State value relevant) = 0

abbrev pub entry_numbers : EntryState → List ℕ
entry_numbers (Refused number) = []
entry_numbers NoStanding = []
entry_numbers (State value relevant) = value_number value ∷ relevant ∷ []

-- 1, 2 to 13, 14; only a step meets 16
abbrev pub read_refusal : List ℕ → ℕ → ℕ → ℕ
read_refusal bs size n = lent_refusal size (rule_refusal bs n)

unfoldable pub state_in : List ℕ → List Watch → ℕ → EntryState
state_in bs list n =
    refused_or Refused (read_refusal bs (length list) n)
    (entry_state (rule_at (rules_of bs) n) (steps_of bs) (entry_of_rule list n))

-- value and count, where the call is not refused and the template has the standing
unfoldable pub read_numbers : List ℕ → List Watch → ℕ → List ℕ
read_numbers bs list n =
    let r = rule_at (rules_of bs) n in
    let e = entry_of_rule list n in
    cond (eqb (read_refusal bs (length list) n) 0 && known_entry r e)
    (value_number (value_of r.template (has_other r (steps_of bs)) e.standing) ∷ e.relevant ∷ []) []

-- ---- a run

-- a console that follows a run: the number of the call that was refused, 0 where none was, and its list
pub record Followed : Type 0 where
  pub refusal : ℕ
  pub entries : List Watch

-- one step more, unless a call was refused
abbrev pub onward : List ℕ → Followed → ℕ → Followed
onward bs f z =
    changed_unless f.refusal
    (record { refusal = step_refusal bs f.entries z; entries = stepped_list bs f.entries z }) f

-- beginning and then the steps of a run in order, up to the first call that is refused
unfoldable pub follow : List ℕ → List Watch → List ℕ → Followed
follow bs list run =
    foldl (onward bs) (record { refusal = begin_refusal bs (length list); entries = begun_list bs list }) run

-- the steps of a run before the first one that is undeclared
abbrev pub declared_part : ℕ → List ℕ → List ℕ
declared_part steps [] = []
declared_part steps (z ∷ run) = cond (ltb z steps) (z ∷ declared_part steps run) []

-- "For every run, beginning and then its steps gives the monitor's answers":
pub record GivesAnswers (file : List ℕ) (list : List Watch) (run : List ℕ) : Type 0 where
  -- the first refusal is that of the file, then 15 for a run with an undeclared step;
  pub refusal : (follow file list run).refusal
      ≡ first_refusal (read_file file).refusal (cond (declared_run (steps_of file) run) 0 15)
  -- it is the monitor's for the run, of every rule number that 14 does not refuse;
  pub monitored : (rule : ℕ) → ¬ (rule_refusal file rule ≡ 14)
      → (follow file list run).refusal ≡ refusal_number (run_answer file run rule)
  -- the list is then as after the steps before the undeclared one, which are the whole run where no call is refused;
  pub before : (follow file list run).entries ≡ (follow file list (declared_part (steps_of file) run)).entries
  pub whole : (follow file list run).refusal ≡ 0 → declared_part (steps_of file) run ≡ run
  -- of every rule number the refusal, the value and the count that are read then are the monitor's for these steps;
  pub refusals : (rule : ℕ)
      → entry_refusal (state_in file (follow file list run).entries rule)
      ≡ refusal_number (run_answer file (declared_part (steps_of file) run) rule)
  pub states : (rule : ℕ)
      → entry_numbers (state_in file (follow file list run).entries rule)
      ≡ state_numbers (run_answer file (declared_part (steps_of file) run) rule)
  -- and the entries past the last rule are as they were
  pub later : drop (length (rules_of file)) (follow file list run).entries ≡ drop (length (rules_of file)) list

-- ---- what a call promises, of the list before it and after it and of the number it returns: both by equation, refused
-- or not

pub record Begins (file : List ℕ) (list list' : List Watch) (number : ℕ) : Type 0 where
  pub returned : number ≡ begin_refusal file (length list)
  pub written : list' ≡ begun_list file list

pub record Steps (file : List ℕ) (step : ℕ) (list list' : List Watch) (number : ℕ) : Type 0 where
  pub returned : number ≡ step_refusal file list step
  pub written : list' ≡ stepped_list file list step

-- what reading promises of its answer, and of 01's numbers of it
pub record Reads (file : List ℕ) (list : List Watch) (rule : ℕ) (state : EntryState) : Type 0 where
  pub returned : state ≡ state_in file list rule
  pub refusal : entry_refusal state ≡ read_refusal file (length list) rule
  pub numbers : entry_numbers state ≡ read_numbers file list rule
