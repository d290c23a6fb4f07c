-- One entry of a watch list (01, "Monitor", Watching): how far its rule has come, moved by a step and read.
use Rattle.std.specs.Prelude.{Bool, cond, ℕ, ltb}
use Rattle.template.specs.Table.{standings}
use Rattle.rule.specs.declared.Rule.{Rule}
use Rattle.values.specs.Progress.{Progress, has_other, advanced_by}
use Rattle.values.specs.declared.Value.{Value}
use Rattle.values.specs.Value.{value_of}
use Rattle.watch_list.specs.declared.Watch.{Watch}

-- an entry holds the two numbers of a rule's progress in a run
abbrev pub progress_of : Watch → Progress
progress_of e = record { standing = e.standing; relevant = e.relevant }

abbrev pub entry_of : Progress → Watch
entry_of p = record { standing = p.standing; relevant = p.relevant }

-- "Beginning sets standing and count to 0"
abbrev pub begun_entry : Watch
begun_entry = record { standing = 0; relevant = 0 }

-- the entry of a rule of a file with so many steps after the step z
unfoldable pub moved_entry : Rule → ℕ → ℕ → Watch → Watch
moved_entry r steps z e = entry_of (advanced_by r (has_other r steps) (progress_of e) z)

-- what is read of an entry: the number of a refusal, that it has no standing of its rule's template, or value and count
pub data EntryState : Type 0 where
  Refused : (number : ℕ) → EntryState
  NoStanding : EntryState
  State : (value : Value) → (relevant : ℕ) → EntryState

-- the rule's template has the entry's standing
unfoldable pub known_entry : Rule → Watch → Bool
known_entry r e = ltb e.standing (standings r.template)

-- "the value is read from the standing"; a standing that the template lacks has none
unfoldable pub entry_state : Rule → ℕ → Watch → EntryState
entry_state r steps e =
    cond (known_entry r e) (State (value_of r.template (has_other r steps) e.standing) e.relevant) NoStanding
