-- The size of the verdict area (01, "Second pass" and "Refused inputs").
use Rattle.std.specs.Prelude.{ℕ}

-- five bytes a rule, for 32 rules
abbrev pub bytes_each : ℕ
bytes_each = 5

abbrev pub area_bytes : ℕ
area_bytes = 160
