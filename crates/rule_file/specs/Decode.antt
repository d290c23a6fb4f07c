-- What reading decodes (01, "Rule file" and "Refused inputs"): the first faulty field refuses the file by its first
-- fault; a file without faulty field and without step is refused by 13.
use Rattle.std.specs.Prelude.{List, [], ◌∷◌, ◌++◌, cond, ℕ, Float, length, get_or, eqb, leb, Option, Some, None}
use Rattle.std.specs.Float.Ieee.{of_bits}
use Rattle.std.specs.Float.{binary32}
use Rattle.refusals.specs.Refusal.{refused_or}
use Rattle.template.specs.declared.Template.{Template}
use Rattle.template.specs.declared.Template.TheVariants.{Participation}
use Rattle.template.specs.Number.{of_number}
use Rattle.rule.specs.declared.Rule.{Rule}
use Rattle.fields.specs.Bytes.{four_at}
use Rattle.fields.specs.Field.{Field, fields}
use Rattle.rule_file.specs.Fault.{Decoded, faults, first_fault}

-- the template of a number; one without template is refused by 10, so that the second line is never met
abbrev pub found : Option Template → Template
found (Some t) = t
found None = Participation

-- a weight is the 32-bit float of its bits
abbrev pub weight_at : List ℕ → ℕ → Float
weight_at c i = of_bits binary32 (four_at c i)

-- the rule of a content: template, x, y, support, confidence, interest; y is the count of a template that counts
unfoldable pub rule_of : List ℕ → Rule
rule_of c =
    record {
      template = found (of_number (get_or c 0 0) (get_or c 2 0));
      x = get_or c 1 0;
      y = get_or c 2 0;
      weights = record { support = weight_at c 3; confidence = weight_at c 7; interest = weight_at c 11 };
    }

abbrev pub nothing : Decoded
nothing = record { names = []; places = []; rules = [] }

-- a step more
abbrev pub with_step : Decoded → ℕ → List ℕ → Decoded
with_step d start name =
    record {
      names = d.names ++ (name ∷ []);
      places = d.places ++ (record { start = start; size = length name } ∷ []);
      rules = d.rules;
    }

-- a rule more
abbrev pub with_rule : Decoded → Rule → Decoded
with_rule d r = record { names = d.names; places = d.places; rules = d.rules ++ (r ∷ []) }

-- what a field without fault adds
unfoldable pub added : Decoded → Field → Decoded
added d f = cond (eqb f.tag 0x53) (with_step d f.start f.content) (with_rule d (rule_of f.content))

-- a reading: 0 and what was decoded, or the number of the refusal alone
pub record Read : Type 0 where
  pub refusal : ℕ
  pub decoded : Decoded

abbrev pub refused : ℕ → Read
refused n = record { refusal = n; decoded = nothing }

-- at the end of the file: no step is refusal 13
abbrev pub ended : Decoded → Read
ended d = cond (leb 1 (length d.names)) (record { refusal = 0; decoded = d }) (refused 13)

-- a fault refuses, and where there is none it is read on
unfoldable pub read_fields : Decoded → List Field → Read
read_fields d [] = ended d
read_fields d (f ∷ fs) = refused_or refused (first_fault (faults d f)) (read_fields (added d f) fs)

unfoldable pub read_file : List ℕ → Read
read_file bs = read_fields nothing (fields bs)
