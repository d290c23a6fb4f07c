-- The cases of 01 that are marked for proof ("Cases"), those of M-100 and M-102 to M-104, worked out by hand, and the
-- file whose weights were read with reversed bytes, as one table: the bytes of a file, what is asked of it, and the
-- number that a call returns with the whole areas that it leaves, as the contracts of `prune`, `show` and `write_state`
-- name them. What 01 leaves out of the verdicts on a case was worked out by the independent implementation in tests/.
use Rattle.std.specs.Prelude.{true, false, List, [], ◌∷◌, ◌++◌, map, reverse, ◌≡◌, refl, ℕ, ◌+◌, length, drop}
use Rattle.std.specs.Prelude.{replicate}
use Rattle.lists.specs.Elements.{listed}
use Rattle.refusals.specs.Refusal.{changed_unless, written_over}
use Rattle.template.specs.declared.Template.TheVariants.{Participation, AtMostOne, Init, End, Response, Precedence}
use Rattle.template.specs.declared.Template.TheVariants.{AlternatePrecedence, ChainPrecedence, CoExistence, AtLeast}
use Rattle.template.specs.declared.Template.TheVariants.{NotSuccession, NotCoExistence, AtMost, Exactly, Choice}
use Rattle.template.specs.declared.Template.TheVariants.{ExclusiveChoice}
use Rattle.rule_file.specs.Laws.PlainFile.{on, between, plain_file, tied_file, first_case}
use Rattle.ranking.proofs.Laws.Examples.{incident}
use Rattle.search.specs.Areas.{work_areas_fit}
use Rattle.search.specs.Limits.{found_numbers, link_numbers, sequence_bytes}
use Rattle.deciding.specs.Laws.Computed.{computed_reports}
use Rattle.verdicts.specs.Verdict.{verdict_bytes, verdict_area}
use Rattle.verdicts.specs.Limits.{area_bytes}
use Rattle.pruning.specs.Prunes.{prune_areas_fit, prune_refusal}
use Rattle.shown.specs.Answer.{answer_numbers}
use Rattle.shown.specs.Shows.{both_of, show_areas_fit, show_refusal, shown_over, shown_sequence}
use Rattle.shown.specs.Laws.Computed.{computed_sequences}
use Rattle.values.specs.Answer.{refusal_number, lent_answer, state_numbers}
use Rattle.values.specs.Laws.Computed.{computed_answer}

-- what is asked of a file: the verdicts on its rules, the sequences of a rule, given by its number, or its state after
-- a run
pub data Question : Type 0 where
  Verdicts : Question
  Sequences : ℕ → Question
  State : ℕ → List ℕ → Question

-- the areas lent: 160 verdict bytes, 4,095 bytes for a sequence, and for the numbers about two of them and for a state
-- one number more than is written
abbrev verdicts_lent : List ℕ
verdicts_lent = listed area_bytes (λ k. 0xEE)

abbrev sequence_lent : List ℕ
sequence_lent = replicate sequence_bytes 0xEE

abbrev answer_lent : List ℕ
answer_lent = listed 9 (λ k. 10 + k)

abbrev state_lent : List ℕ
state_lent = 7 ∷ 8 ∷ 9 ∷ []

-- the number that the call returns, and the areas after it
unfoldable pub answered : List ℕ → Question → List ℕ
unfolding computed_reports computed_sequences computed_answer verdict_bytes verdict_area work_areas_fit prune_areas_fit
    prune_refusal show_areas_fit show_refusal answer_numbers
answered bs Verdicts = prune_refusal found_numbers link_numbers (length verdicts_lent) bs
    ∷ verdict_area bs verdicts_lent
answered bs (Sequences n) =
    let sequence = length sequence_lent in
    let number = show_refusal found_numbers link_numbers sequence sequence (length answer_lent) bs n in
    let satisfying = shown_sequence bs n true in
    let violating = shown_sequence bs n false in
    number
    ∷ (changed_unless number (written_over (answer_numbers (both_of bs n satisfying violating)) answer_lent) answer_lent
    ++ (changed_unless number (shown_over satisfying sequence_lent) sequence_lent
    ++ changed_unless number (shown_over violating sequence_lent) sequence_lent))
answered bs (State n run) =
    let a = lent_answer (length state_lent) bs run n in
    refusal_number a ∷ written_over (state_numbers a) state_lent

-- a case
pub record Case : Type 0 where
  pub file : List ℕ
  pub question : Question
  pub answer : List ℕ

-- the verdicts on the rules of an accepted file; the rest of the area stays
abbrev verdicts : List ℕ → List ℕ → Case
verdicts bs lines = record { file = bs; question = Verdicts; answer = 0 ∷ (lines ++ drop (length lines) verdicts_lent) }

-- fate, first count, second count; these counts have one byte
abbrev line : ℕ → ℕ → ℕ → List ℕ
line fate first second = fate ∷ 0 ∷ first ∷ 0 ∷ second ∷ []

-- the eight numbers about the sequences of a rule, and the steps of each; none of one that is absent
abbrev sequences : List ℕ → ℕ → List ℕ → List ℕ → List ℕ → Case
sequences bs n numbers satisfying violating =
    record {
      file = bs;
      question = Sequences n;
      answer =
          0
          ∷ (written_over numbers answer_lent
          ++ (written_over satisfying sequence_lent ++ written_over violating sequence_lent));
    }

-- a call for the sequences of a rule that is refused, and writes nothing
abbrev refused_sequences : List ℕ → ℕ → ℕ → Case
refused_sequences bs n number =
    record {
      file = bs;
      question = Sequences n;
      answer = number ∷ (answer_lent ++ (sequence_lent ++ sequence_lent));
    }

-- presence, length, and the joint standing of rules 1 to 16
abbrev present : ℕ → ℕ → List ℕ
present length standing = 1 ∷ length ∷ standing ∷ 0 ∷ []

abbrev absent : List ℕ
absent = 0 ∷ 0 ∷ 0 ∷ 0 ∷ []

-- the value of a rule after a run, and its relevant steps
abbrev state : List ℕ → ℕ → List ℕ → ℕ → ℕ → Case
state bs n run value relevant =
    record { file = bs; question = State n run; answer = 0 ∷ value ∷ relevant ∷ drop 2 state_lent }

-- names of steps
abbrev a : ℕ
a = 0x61

abbrev b : ℕ
b = 0x62

abbrev f : ℕ
f = 0x66

-- ChainPrecedence(a,b), then AlternatePrecedence(a,b)
abbrev precedences : List ℕ
precedences = plain_file (a ∷ b ∷ []) (between ChainPrecedence 0 1 ∷ between AlternatePrecedence 0 1 ∷ [])

-- the same rule twice
abbrev twice : List ℕ
twice = plain_file (a ∷ b ∷ []) (between Response 0 1 ∷ between Response 0 1 ∷ [])

-- steps a, b, c: Init(a), Participation(c), Participation(b)
abbrev several : List ℕ
several = plain_file (a ∷ b ∷ 0x63 ∷ []) (on Init 0 ∷ on Participation 2 ∷ on Participation 1 ∷ [])

-- Participation(a) sixteen times, of which the first is kept, and then AtLeast(a,2)
abbrev seventeen : List ℕ
seventeen = plain_file (a ∷ []) (replicate 16 (on Participation 0) ++ (between (AtLeast 2) 0 2 ∷ []))

abbrev pub cases : List Case
cases =
    -- first case, source document 000: steps p, w; Participation(p), NotChainSuccession(p,w), ChainResponse(p,w); the
    -- whole output
    verdicts first_case (line 0 2 2 ++ (line 0 3 3 ++ line 1 3 0))
    -- second case: steps a, b; Participation(a), Init(a); the whole output
    ∷ verdicts (plain_file (a ∷ b ∷ []) (on Participation 0 ∷ on Init 0 ∷ [])) (line 4 2 2 ++ line 0 4 4)
    -- third case: steps a, d; Init(a), End(d), CoExistence(a,d): first counts 3, 3, 4; the third implied
    ∷ verdicts (plain_file (a ∷ 0x64 ∷ []) (on Init 0 ∷ on End 1 ∷ between CoExistence 0 1 ∷ []))
    (line 0 3 5 ++ (line 0 3 3 ++ line 2 4 0))
    -- fourth case: ChainPrecedence(a,b), then AlternatePrecedence(a,b): implied
    ∷ verdicts precedences (line 0 3 3 ++ line 2 2 0)
    -- fifth case: Response(a,b), Response(b,c), Response(a,c): third implied
    ∷ verdicts (plain_file (a ∷ b ∷ 0x63 ∷ [])
    (between Response 0 1 ∷ between Response 1 2 ∷ between Response 0 2 ∷ []))
    (line 0 2 4 ++ (line 0 4 4 ++ line 2 6 0))
    -- fifth case, the same rule twice: second implied
    ∷ verdicts twice (line 0 2 2 ++ line 2 2 0)
    -- no case of 01, the incident: Participation, Response and NotSuccession, the weights as written. The second rule,
    -- the arc lamp after each exposure, is kept
    ∷ verdicts (incident (λ w. w)) (line 0 2 3 ++ (line 0 3 3 ++ line 1 4 0))
    -- and with the bytes of each weight reversed. It is dropped as conflicting
    ∷ verdicts (incident reverse) (line 0 2 2 ++ (line 1 2 0 ++ line 0 3 3))
    -- M-104, equal weights, steps a, b: Response(a,b), Participation(a), Response(a,b) again, NotSuccession(a,b). By
    -- template numbers NotSuccession goes first and Participation last: it conflicts with the two others
    ∷ verdicts (tied_file (a ∷ b ∷ [])
    (between Response 0 1 ∷ on Participation 0 ∷ between Response 0 1 ∷ between NotSuccession 0 1 ∷ []))
    (line 0 2 2 ++ (line 1 2 0 ++ (line 2 2 0 ++ line 0 3 4)))
    -- and reordered: the same lines for the same rules, of the two Response one kept and one implied
    ∷ verdicts (tied_file (a ∷ b ∷ [])
    (between NotSuccession 0 1 ∷ between Response 0 1 ∷ between Response 0 1 ∷ on Participation 0 ∷ []))
    (line 0 3 4 ++ (line 0 2 2 ++ (line 2 2 0 ++ line 1 2 0)))
    -- Init(b), Init(a): of one template the smaller x goes first and is kept
    ∷ verdicts (tied_file (a ∷ b ∷ []) (on Init 1 ∷ on Init 0 ∷ [])) (line 1 2 0 ++ line 0 3 3)
    -- Exactly(a,2), Exactly(a,1): then the smaller y, here the count
    ∷ verdicts (tied_file (a ∷ b ∷ []) (between (Exactly 2) 0 2 ∷ between (Exactly 1) 0 1 ∷ []))
    (line 1 2 0 ++ line 0 3 3)
    -- seventh case, source document 002: Response(e,m), run d m e m m e e m: value 0, 4 relevant. Steps d, m, e
    ∷ state (plain_file (0x64 ∷ 0x6D ∷ 0x65 ∷ []) (between Response 2 1 ∷ [])) 1
    (0 ∷ 1 ∷ 2 ∷ 1 ∷ 1 ∷ 2 ∷ 2 ∷ 1 ∷ []) 0 4
    -- seventh case: Precedence(e,m), run e m e m: 2 and 1. Steps e, m
    ∷ state (plain_file (0x65 ∷ 0x6D ∷ []) (between Precedence 0 1 ∷ [])) 1 (0 ∷ 1 ∷ 0 ∷ 1 ∷ []) 2 1
    -- eighth case, the empty run: Init 1, nothing relevant
    ∷ state (plain_file (a ∷ []) (on Init 0 ∷ [])) 1 [] 1 0
    -- eighth case: AtMostOne 0
    ∷ state (plain_file (a ∷ []) (on AtMostOne 0 ∷ [])) 1 [] 0 0
    -- ninth case: End(a), a the only step, run a: value 2
    ∷ state (plain_file (a ∷ []) (on End 0 ∷ [])) 1 (0 ∷ []) 2 1
    -- ninth case, with b declared: 0
    ∷ state (plain_file (a ∷ b ∷ []) (on End 0 ∷ [])) 1 (0 ∷ []) 0 1
    -- tenth case: ChainPrecedence(a,b), run b: 3
    ∷ state precedences 1 (1 ∷ []) 3 1
    -- tenth case: AlternatePrecedence(a,b), run a b: 0; by M-103 both steps are relevant
    ∷ state precedences 2 (0 ∷ 1 ∷ []) 0 2
    -- M-100, "at least three flats": steps flat, bias; AtLeast(flat,3), and AtMost(flat,2), which conflicts with it
    ∷ verdicts (plain_file (f ∷ b ∷ []) (between (AtLeast 3) 0 3 ∷ between (AtMost 2) 0 2 ∷ []))
    (line 0 4 4 ++ line 1 4 0)
    -- M-100, "either sky or lamp": steps sky, lamp; ExclusiveChoice(sky,lamp), and Choice(sky,lamp), which it implies
    ∷ verdicts (plain_file (0x73 ∷ 0x6C ∷ []) (between ExclusiveChoice 0 1 ∷ between Choice 0 1 ∷ []))
    (line 0 4 4 ++ line 2 3 0)
    -- M-100, Exactly(flat,2): it implies AtLeast(flat,1) and makes AtMost(flat,2) idle
    ∷ verdicts (plain_file (f ∷ b ∷ [])
    (between (Exactly 2) 0 2 ∷ between (AtLeast 1) 0 1 ∷ between (AtMost 2) 0 2 ∷ []))
    (line 0 4 4 ++ (line 2 3 0 ++ line 2 3 0))
    -- M-100, values: AtLeast(a,3), run a b a a, is permanently satisfied by the third a
    ∷ state (plain_file (a ∷ b ∷ []) (between (AtLeast 3) 0 3 ∷ [])) 1 (0 ∷ 1 ∷ 0 ∷ 0 ∷ []) 2 1
    -- AtMost(a,1), run a b a: the second a, which the first takes from the permitted steps, violates it
    ∷ state (plain_file (a ∷ b ∷ []) (between (AtMost 1) 0 1 ∷ [])) 1 (0 ∷ 1 ∷ 0 ∷ []) 3 2
    -- Exactly(a,2), run a a: satisfied for now; run a a a: no longer
    ∷ state (plain_file (a ∷ b ∷ []) (between (Exactly 2) 0 2 ∷ [])) 1 (0 ∷ 0 ∷ []) 0 1
    ∷ state (plain_file (a ∷ b ∷ []) (between (Exactly 2) 0 2 ∷ [])) 1 (0 ∷ 0 ∷ 0 ∷ []) 3 2
    -- Choice(a,b), run b a: satisfied for good by the first step
    ∷ state (plain_file (a ∷ b ∷ []) (between Choice 0 1 ∷ [])) 1 (1 ∷ 0 ∷ []) 2 1
    -- ExclusiveChoice(a,b), run b a: satisfied for now, then violated
    ∷ state (plain_file (a ∷ b ∷ []) (between ExclusiveChoice 0 1 ∷ [])) 1 (1 ∷ 0 ∷ []) 3 2
    -- M-103, AlternatePrecedence(a,b), run a b a b: each a permits b, and each b forbids it
    ∷ state precedences 2 (0 ∷ 1 ∷ 0 ∷ 1 ∷ []) 0 4
    -- ChainPrecedence(a,b), run a a c: the first a permits b, the second changes nothing, c forbids b
    ∷ state (plain_file (a ∷ b ∷ 0x63 ∷ []) (between ChainPrecedence 0 1 ∷ [])) 1 (0 ∷ 0 ∷ 2 ∷ []) 0 2
    -- AtMost(a,2), run a a: the second a takes a from the permitted steps; then b changes nothing
    ∷ state (plain_file (a ∷ b ∷ []) (between (AtMost 2) 0 2 ∷ [])) 1 (0 ∷ []) 0 0
    ∷ state (plain_file (a ∷ b ∷ []) (between (AtMost 2) 0 2 ∷ [])) 1 (0 ∷ 0 ∷ []) 0 1
    ∷ state (plain_file (a ∷ b ∷ []) (between (AtMost 2) 0 2 ∷ [])) 1 (0 ∷ 0 ∷ 1 ∷ []) 0 1
    -- AtMostOne(a), a the only step, run a: no step is permitted any more
    ∷ state (plain_file (a ∷ []) (on AtMostOne 0 ∷ [])) 1 (0 ∷ []) 0 1
    -- source document 002: NotCoExistence(e,m), run d m e m m e e m: m forbids e, and e violates the rule for good.
    -- Steps d, m, e
    ∷ state (plain_file (0x64 ∷ 0x6D ∷ 0x65 ∷ []) (between NotCoExistence 2 1 ∷ [])) 1
    (0 ∷ 1 ∷ 2 ∷ 1 ∷ 1 ∷ 2 ∷ 2 ∷ 1 ∷ []) 3 2
    -- M-102, sequences. The first case: p, and nothing
    ∷ sequences first_case 1 (present 1 0x1 ++ present 0 0x0) (0 ∷ []) []
    -- p, and p w
    ∷ sequences first_case 2 (present 1 0x11 ++ present 2 0x21) (0 ∷ []) (0 ∷ 1 ∷ [])
    -- the third rule conflicts: none, and p
    ∷ sequences first_case 3 (absent ++ present 1 0x111) [] (0 ∷ [])
    -- there is no fourth rule
    ∷ refused_sequences first_case 4 14
    -- the incident, the weights as written: expose arc satisfies the second rule, expose violates it
    ∷ sequences (incident (λ w. w)) 2 (present 2 0x1 ++ present 1 0x11) (0 ∷ 1 ∷ []) (0 ∷ [])
    -- and with the bytes of each weight reversed, where it conflicts: expose
    ∷ sequences (incident reverse) 2 (absent ++ present 1 0x111) [] (0 ∷ [])
    -- the second rule is implied: nothing, and none
    ∷ sequences twice 2 (present 0 0x0 ++ absent) [] []
    -- a c, and not a b c, whose second step is smaller, but which is longer
    ∷ sequences several 2 (present 2 0x11 ++ present 1 0x1) (0 ∷ 2 ∷ []) (0 ∷ [])
    -- a b c, and not a c b, which is as long
    ∷ sequences several 3 (present 3 0x111 ++ present 2 0x11) (0 ∷ 1 ∷ 2 ∷ []) (0 ∷ 2 ∷ [])
    -- a a satisfies rule 17, and a violates it: rule 1 stands at 1 in the first number, and rule 17 at 2 or 1 in the
    -- second
    ∷ sequences seventeen 17 (1 ∷ 2 ∷ 1 ∷ 2 ∷ 1 ∷ 1 ∷ 1 ∷ 1 ∷ []) (0 ∷ 0 ∷ []) (0 ∷ [])
    ∷ []

pub all_cases : map (λ c. answered c.file c.question) cases ≡ map (λ c. c.answer) cases
unfolding answered
all_cases = refl
