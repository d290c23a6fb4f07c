-- What is held so far, read on from here, is the reading of the whole file.
use Rattle.std.proofs.Common.{length, ◌-◌, ◌≡◌, drop, ◌≤◌}
use Rattle.fields.specs.Field.{fields_from}
use Rattle.rule_file.specs.Decode.{read_fields, read_file}
use Rattle.rule_file.specs.Code.Held.{decoded_in, WithinLimits}
use Rattle.reading.proofs.read.Given as goal

abbrev pub invariant-loop-at : goal.invariant-loop-at
invariant-loop-at l = (l.at ≤ length l.file)
    × WithinLimits l.held
    × (read_file l.file ≡ read_fields (decoded_in l.file l.held) (fields_from l.at 0 (drop l.at l.file)))

abbrev pub decreases-loop-at : goal.decreases-loop-at
decreases-loop-at l = length l.file - l.at
