-- What the code gives back of a rule after a run, as an answer: a state, or the number of a refusal.
use Rattle.std.specs.Prelude.{Result, Ok, Err}
use Rattle.refusals.specs.declared.Refusal.{Refusal}
use Rattle.refusals.specs.Number.{refusal_number}
use Rattle.values.specs.declared.State as code
use Rattle.values.specs.Answer.{Answer, Refused, State}

abbrev pub answer_of : Result code.State Refusal → Answer
answer_of (Ok state) = State state.value state.relevant
answer_of (Err refusal) = Refused (refusal_number refusal)
