-- What the sequences that are shown unfold to where they are computed: others cite the one name.
use Rattle.std.specs.Prelude.{Bool, List, ℕ}
use Rattle.std.proofs.Math.Option.{Option}
use Rattle.rule.specs.Behaviour.{standing_after}
use Rattle.joint.specs.Joint.{word_of}
use Rattle.joint.specs.After.{joint_after}
use Rattle.search.specs.Search.{read_back}
use Rattle.deciding.specs.Laws.Computed.{computed_reports}
use Rattle.shown.specs.Sequence.{test_sequence}
use Rattle.shown.specs.Shows.{shown_sequence}

unfoldable pub computed_sequences : List ℕ → ℕ → Bool → Option (List ℕ)
unfolding computed_reports read_back test_sequence standing_after joint_after word_of
computed_sequences bs n wanted = shown_sequence bs n wanted
