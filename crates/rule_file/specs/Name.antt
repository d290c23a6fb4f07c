-- The name of a step (01, "Rule file"): empty where the call is refused, and the number that a second call gives then.
use Rattle.std.specs.Prelude.{cond, List, [], ℕ, leb, length, get_or}
use Rattle.refusals.specs.Refusal.{first_refusal}
use Rattle.rule_file.specs.Decode.{read_file}

-- 2 to 13 where the file is refused, then 15 for a step beyond the last
unfoldable pub name_refusal : List ℕ → ℕ → ℕ
name_refusal bs step = first_refusal (read_file bs).refusal (cond (leb (length (read_file bs).decoded.names) step) 15 0)

-- a refused file decodes nothing, and past the last name there is the empty one
unfoldable pub step_name : List ℕ → ℕ → List ℕ
step_name bs step = get_or (read_file bs).decoded.names step []
