-- Files for examples, as 01, "Cases", describes them: names of one byte, and rules with falling weights; and with
-- equal ones.
use Rattle.std.specs.Prelude.{List, [], ◌∷◌, ◌++◌, ℕ, ◌-◌}
use Rattle.lists.specs.Elements.{concat_map}
use Rattle.template.specs.declared.Template.{Template}
use Rattle.template.specs.Number.{number}
use Rattle.template.specs.declared.Template.TheVariants.{Participation, ChainResponse, NotChainSuccession}
use Rattle.fields.specs.Field.{field_bytes}

-- a rule without its weights
pub record Plain : Type 0 where
  pub template : Template
  pub x : ℕ
  pub y : ℕ

-- x alone, where the template has no y
abbrev pub on : Template → ℕ → Plain
on t x = record { template = t; x = x; y = 0xFF }

abbrev pub between : Template → ℕ → ℕ → Plain
between t x y = record { template = t; x = x; y = y }

-- the field of a rule whose three weights have the bits 3F0000kk
abbrev rule_field : ℕ → Plain → List ℕ
rule_field k r = field_bytes 0x52 (number r.template ∷ r.x ∷ r.y ∷ (weight ++ (weight ++ weight)))
  where
    weight : List ℕ
    weight = 0x3F ∷ 0 ∷ 0 ∷ k ∷ []

-- those of rules with falling weights
abbrev rules_from : ℕ → List Plain → List ℕ
rules_from k [] = []
rules_from k (r ∷ rs) = rule_field k r ++ rules_from (k - 1) rs

abbrev step_fields : List ℕ → List ℕ
step_fields names = concat_map (λ n. field_bytes 0x53 (n ∷ [])) names

-- the names of the steps, and the rules
abbrev pub plain_file : List ℕ → List Plain → List ℕ
plain_file names rules = step_fields names ++ rules_from 32 rules

-- the same with equal weights (M-104)
abbrev pub tied_file : List ℕ → List Plain → List ℕ
tied_file names rules = step_fields names ++ concat_map (rule_field 32) rules

-- 01's first case: steps p, w; Participation(p), NotChainSuccession(p,w), ChainResponse(p,w)
abbrev pub first_case : List ℕ
first_case =
    plain_file (0x70 ∷ 0x77 ∷ [])
    (on Participation 0 ∷ between NotChainSuccession 0 1 ∷ between ChainResponse 0 1 ∷ [])
