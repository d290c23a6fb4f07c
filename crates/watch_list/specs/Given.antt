-- What the code gives back of an entry, as what is read of it.
use Rattle.std.specs.Prelude.{Option, None, Some, Result, Ok, Err}
use Rattle.refusals.specs.declared.Refusal.{Refusal}
use Rattle.refusals.specs.Number.{refusal_number}
use Rattle.values.specs.declared.State as code
use Rattle.watch_list.specs.Entry.{EntryState, Refused, NoStanding, State}

-- of a standing that the template lacks nothing is said
abbrev pub said_of : Option code.State → EntryState
said_of None = NoStanding
said_of (Some state) = State state.value state.relevant

abbrev pub entry_state_of : Result (Option code.State) Refusal → EntryState
entry_state_of (Ok said) = said_of said
entry_state_of (Err refusal) = Refused (refusal_number refusal)
