-- What `read_file` unfolds to where a reading is computed: others cite the one name.
use Rattle.std.specs.Prelude.{List, ℕ}
use Rattle.fields.specs.Field.{fields_from, field_at}
use Rattle.rule_file.specs.Decode.{Read, read_file, read_fields, added, rule_of}
use Rattle.rule_file.specs.Fault.{faults, tag_faults}

unfoldable pub computed_read : List ℕ → Read
unfolding read_file read_fields fields_from field_at faults tag_faults added rule_of
computed_read bs = read_file bs
