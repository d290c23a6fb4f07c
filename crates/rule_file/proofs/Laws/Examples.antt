-- The examples of 01, "Refused inputs", 2 to 13 and 15, of M-100, and its cases on weights and limits: one table,
-- computed.
use Rattle.std.specs.Prelude.{List, [], ◌∷◌, ◌++◌, Bool, ◌&&◌, ◌≡◌, ℕ, zero, suc, ◌+◌, replicate, T, eqb}
use Rattle.std.proofs.Common.{eqb→eq}
use Rattle.lists.specs.Exhaustive.{every}
use Rattle.lists.specs.Laws.Exhaustive.{every_all, and_left, and_right}
use Rattle.lists.specs.Members.{All}
use Rattle.lists.specs.Laws.Members.{all_map}
use Rattle.rule_file.specs.Decode.{read_file}
use Rattle.rule_file.specs.Name.{name_refusal}
use Rattle.rule_file.specs.Laws.Computed.{computed_read}

-- a step whose name is one byte, steps named by following bytes, and a rule by its content's beginning and its weights
step : ℕ → List ℕ
step b = 0x53 ∷ 0x00 ∷ 0x01 ∷ b ∷ []

steps : ℕ → ℕ → List ℕ
steps zero b = []
steps (suc n) b = step b ++ steps n (b + 1)

-- a step whose name has n bytes
named : ℕ → List ℕ
named n = 0x53 ∷ 0x00 ∷ n ∷ replicate n 0x61

rule : List ℕ → List ℕ → List ℕ → List ℕ → List ℕ
rule begin s c i = 0x52 ∷ 0x00 ∷ 0x0F ∷ (begin ++ (s ++ (c ++ i)))

one : List ℕ
one = 0x3F ∷ 0x80 ∷ 0x00 ∷ 0x00 ∷ []

-- the least that is over it
large : List ℕ
large = 0x3F ∷ 0x80 ∷ 0x00 ∷ 0x01 ∷ []

-- Participation of the first step, with all weights 1.0
plain : List ℕ
plain = rule (0x01 ∷ 0x00 ∷ 0xFF ∷ []) one one one

plains : ℕ → List ℕ
plains zero = []
plains (suc n) = plain ++ plains n

-- two steps, and a rule on them with one weight other than 1.0
weighing : List ℕ → List ℕ
weighing w = steps 2 0x61 ++ rule (0x06 ∷ 0x00 ∷ 0x01 ∷ []) w one one

-- a file and a step, the refusal of the file, and that of the step's name
pub record Example : Type 0 where
  pub file : List ℕ
  pub step : ℕ
  pub reading : ℕ
  pub naming : ℕ

-- an example in which the file decides
whole : ℕ → List ℕ → Example
whole n bs = record { file = bs; step = 0; reading = n; naming = n }

pub table : List Example
table =
    whole 2 (0x53 ∷ 0x00 ∷ 0x02 ∷ 0x61 ∷ [])
    ∷ whole 2 (0x41 ∷ 0x00 ∷ [])
    ∷ whole 3 (0x41 ∷ 0x00 ∷ 0x00 ∷ [])
    ∷ whole 4 (step 0x61 ++ (plain ++ step 0x62))
    ∷ whole 4 (step 0x61 ++ (plain ++ step 0x20))
    ∷ whole 5 (steps 25 0x30)
    ∷ whole 6 (0x53 ∷ 0x00 ∷ 0x00 ∷ [])
    ∷ whole 6 (named 17)
    ∷ whole 6 (step 0x20)
    ∷ whole 6 (step 0x7F)
    ∷ whole 7 (step 0x61 ++ step 0x61)
    ∷ whole 8 (step 0x61 ++ plains 33)
    ∷ whole 9 (step 0x61 ++ (0x52 ∷ 0x00 ∷ 0x01 ∷ 0x01 ∷ []))
    ∷ whole 10 (step 0x61 ++ rule (0x18 ∷ 0x00 ∷ 0x00 ∷ []) one one one)
    ∷ whole 10 (step 0x61 ++ rule (0x00 ∷ 0x00 ∷ 0x00 ∷ []) one one one)
    -- M-100: counts 0, 15 and FF; a bad count where x is undeclared too, and where a weight is outside; a good one
    -- there
    ∷ whole 17 (step 0x61 ++ rule (0x13 ∷ 0x00 ∷ 0x00 ∷ []) one one one)
    ∷ whole 17 (step 0x61 ++ rule (0x14 ∷ 0x00 ∷ 0x0F ∷ []) one one one)
    ∷ whole 17 (step 0x61 ++ rule (0x15 ∷ 0x00 ∷ 0xFF ∷ []) one one one)
    ∷ whole 17 (step 0x61 ++ rule (0x14 ∷ 0x05 ∷ 0x0F ∷ []) one one one)
    ∷ whole 17 (step 0x61 ++ rule (0x14 ∷ 0x00 ∷ 0x0F ∷ []) large one one)
    ∷ whole 11 (step 0x61 ++ rule (0x15 ∷ 0x05 ∷ 0x0E ∷ []) one one one)
    ∷ whole 12 (step 0x61 ++ rule (0x15 ∷ 0x00 ∷ 0x0E ∷ []) large one one)
    -- 22 and 23 have a y
    ∷ whole 11 (step 0x61 ++ rule (0x16 ∷ 0x00 ∷ 0x00 ∷ []) one one one)
    ∷ whole 11 (step 0x61 ++ rule (0x17 ∷ 0x00 ∷ 0x01 ∷ []) one one one)
    ∷ whole 11 (step 0x61 ++ rule (0x06 ∷ 0x00 ∷ 0x00 ∷ []) one one one)
    ∷ whole 11 (step 0x61 ++ rule (0x01 ∷ 0x00 ∷ 0x00 ∷ []) one one one)
    ∷ whole 12 (weighing (0x80 ∷ 0x00 ∷ 0x00 ∷ 0x00 ∷ []))
    ∷ whole 12 (weighing (0x7F ∷ 0xC0 ∷ 0x00 ∷ 0x00 ∷ []))
    ∷ whole 12 (weighing large)
    ∷ whole 13 []
    ∷ record { file = steps 2 0x61; step = 2; reading = 0; naming = 15 }
    ∷ whole 0 (weighing one)
    -- M-100: the smallest and the largest count; a count that is the number of x; both choices
    ∷ whole 0 (step 0x61 ++ rule (0x13 ∷ 0x00 ∷ 0x01 ∷ []) one one one)
    ∷ whole 0 (step 0x61 ++ rule (0x15 ∷ 0x00 ∷ 0x0E ∷ []) one one one)
    ∷ whole 0 (steps 2 0x61 ++ rule (0x14 ∷ 0x01 ∷ 0x01 ∷ []) one one one)
    ∷ whole 0 (steps 2 0x61 ++ (rule (0x16 ∷ 0x00 ∷ 0x01 ∷ []) one one one
    ++ rule (0x17 ∷ 0x01 ∷ 0x00 ∷ []) one one one))
    ∷ whole 0 (named 16)
    ∷ whole 0 (step 0x21 ++ step 0x7E)
    ∷ whole 0 (steps 24 0x30 ++ plains 32)
    ∷ []

test : Example → Bool
test e = eqb (read_file e.file).refusal e.reading && eqb (name_refusal e.file e.step) e.naming

computed : T (every test table)
unfolding table test step steps named rule one large plain plains weighing whole name_refusal computed_read
computed = tt

pub refusals : All (λ e. ((read_file e.file).refusal ≡ e.reading) × (name_refusal e.file e.step ≡ e.naming))
    table
unfolding test
refusals =
    all_map
    (λ e t.
    let r = eqb (read_file e.file).refusal e.reading in
    let n = eqb (name_refusal e.file e.step) e.naming in
    (eqb→eq _ _ (and_left r n t), eqb→eq _ _ (and_right r n t)))
    table (every_all test table computed)
