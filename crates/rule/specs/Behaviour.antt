-- What a rule of a list means and how it moves (01, "Templates"): the sequences that satisfy it, its standings, and
-- which of these satisfy and break it.
use Rattle.std.specs.Prelude.{List, map, Bool, ℕ, ◌-◌, ◌≤◌, ◌<◌, Float, get_or}
use Rattle.std.specs.Float.Ieee.{of_bits}
use Rattle.std.specs.Float.{binary32}
use Rattle.lists.specs.Members.{All}
use Rattle.template.specs.declared.Template.TheVariants.{Participation}
use Rattle.template.specs.Sequence.{is}
use Rattle.template.specs.Meaning.{Meaning}
use Rattle.template.specs.Table.{next, satisfied, broken}
use Rattle.template.specs.Standing.{kind_of, standing}
use Rattle.rule.specs.declared.Rule.{Rule}
use Rattle.rule.specs.Limits.{most_rules}

-- rules are numbered from 1, and there are 32 at most
abbrev pub RuleNumber : ℕ → Type 0
RuleNumber n = (1 ≤ n) × (n ≤ most_rules)

-- what stands past the last rule: it is never asked about
abbrev no_weight : Float
no_weight = of_bits binary32 0

abbrev pub no_rule : Rule
no_rule = record {
  template = Participation;
  x = 0;
  y = 0;
  weights = record { support = no_weight; confidence = no_weight; interest = no_weight };
}

unfoldable pub rule_at : List Rule → ℕ → Rule
rule_at rules n = get_or rules (n - 1) no_rule

-- the rules of these numbers
abbrev pub rules_at : List Rule → List ℕ → List Rule
rules_at rules ns = map (rule_at rules) ns

-- a sequence satisfies rule n: the meaning of its template, with its x and y, is true of it
unfoldable pub SatisfiesRule : List Rule → ℕ → List ℕ → Type 0
SatisfiesRule rules n s =
    let r = rule_at rules n in
    Meaning r.template (is r.x) (is r.y) s

-- the standing to which a rule goes from q by the step z
unfoldable pub rule_goes : Rule → ℕ → ℕ → ℕ
rule_goes r q z = next r.template q (kind_of r.template (is r.x) (is r.y) z)

-- the same of rule n
abbrev pub goes : List Rule → ℕ → ℕ → ℕ → ℕ
goes rules n = rule_goes (rule_at rules n)

-- q is a satisfied standing of rule n
unfoldable pub satisfies : List Rule → ℕ → ℕ → Bool
satisfies rules n q = satisfied (rule_at rules n).template q

-- q is a broken standing of rule n
unfoldable pub breaks : List Rule → ℕ → ℕ → Bool
breaks rules n q = broken (rule_at rules n).template q

-- the standing of rule n after a sequence; a rule begins in 0
unfoldable pub standing_after : List Rule → ℕ → List ℕ → ℕ
standing_after rules n s =
    let r = rule_at rules n in
    standing r.template (is r.x) (is r.y) 0 s

-- 01: a sequence is a list of declared steps, which are numbered from 0
abbrev pub Declared : ℕ → List ℕ → Type 0
Declared steps s = All (λ k. k < steps) s
