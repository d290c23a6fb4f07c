-- 01's case of Response and M-103's of AlternatePrecedence, watched step by step over entries that held anything; a run
-- with an undeclared step in it; and 01's example of refusal 16, with what comes before it, and those of M-100:
-- computed.
use Rattle.std.specs.Prelude.{List, [], ◌∷◌, map, ◌≡◌, refl, ℕ, replicate}
use Rattle.lists.specs.Elements.{listed_over}
use Rattle.template.specs.declared.Template.TheVariants.{Response, AlternatePrecedence, AtLeast, AtMost, Exactly}
use Rattle.template.specs.declared.Template.{Template}
use Rattle.template.specs.Number.{count}
use Rattle.template.specs.Laws.Computed.{computed_next}
use Rattle.rule_file.specs.Laws.PlainFile.{between, plain_file}
use Rattle.rule_file.specs.Laws.Computed.{computed_read}
use Rattle.values.specs.Laws.Computed.{computed_answer}
use Rattle.watch_list.specs.declared.Watch.{Watch}
use Rattle.watch_list.specs.Watching.{all_known, lent_refusal, begin_refusal, undeclared_refusal, step_refusal}
use Rattle.watch_list.specs.Watching.{begun_first, moved_first, begun_list, stepped_list, entry_numbers, state_in}
use Rattle.watch_list.specs.Watching.{follow}
use Rattle.watch_list.specs.Entry.{moved_entry, known_entry, entry_state}

-- steps d, m, e: Response(e,m)
abbrev file : List ℕ
file = plain_file (0x64 ∷ 0x6D ∷ 0x65 ∷ []) (between Response 2 1 ∷ [])

-- so many entries with this standing
abbrev entries : ℕ → ℕ → List Watch
entries n standing = replicate n (record { standing = standing; relevant = 77 })

-- steps a, b: AlternatePrecedence(a,b)
abbrev alternating : List ℕ
alternating = plain_file (0x61 ∷ 0x62 ∷ []) (between AlternatePrecedence 0 1 ∷ [])

-- a run that is followed: the refusal, and the value and the count that are read then
pub record Watched : Type 0 where
  pub file : List ℕ
  pub run : List ℕ
  pub refusal : ℕ
  pub numbers : List ℕ

abbrev watched : List ℕ → List ℕ → ℕ → List ℕ → Watched
watched bs run refusal numbers = record { file = bs; run = run; refusal = refusal; numbers = numbers }

-- Response(e,m), run d m e m m e e m: value 0, 4 relevant; run d m e, an undeclared step, m: refused by 15, and what is
-- read is as after d m e. AlternatePrecedence(a,b), run a b a b: value 0, 4 relevant
abbrev pub runs : List Watched
runs =
    watched file (0 ∷ 1 ∷ 2 ∷ 1 ∷ 1 ∷ 2 ∷ 2 ∷ 1 ∷ []) 0 (0 ∷ 4 ∷ [])
    ∷ watched file (0 ∷ 1 ∷ 2 ∷ 3 ∷ 1 ∷ []) 15 (1 ∷ 1 ∷ [])
    ∷ watched alternating (0 ∷ 1 ∷ 0 ∷ 1 ∷ []) 0 (0 ∷ 4 ∷ [])
    ∷ []

abbrev as_watched : Watched → Watched
as_watched w =
    let f = follow w.file (entries 32 9) w.run in
    watched w.file w.run f.refusal (entry_numbers (state_in w.file f.entries 1))

pub runs_watched : map as_watched runs ≡ runs
unfolding computed_answer listed_over moved_entry known_entry entry_state all_known lent_refusal begin_refusal undeclared_refusal
    step_refusal begun_first moved_first begun_list stepped_list state_in follow
runs_watched = refl

-- a step over a list: the file, how many entries, the standing in each, the step and the refusal
pub record Stepped : Type 0 where
  pub file : List ℕ
  pub size : ℕ
  pub standing : ℕ
  pub step : ℕ
  pub refusal : ℕ

abbrev stepped : List ℕ → ℕ → ℕ → ℕ → ℕ → Stepped
stepped bs size standing step refusal =
    record { file = bs; size = size; standing = standing; step = step; refusal = refusal }

-- a template that counts, on the only step
abbrev counting : Template → List ℕ
counting t = plain_file (0x61 ∷ []) (between t 0 (count t) ∷ [])

-- standing 2 of Response, an undeclared step before it, and a short list before that; and M-100: the standings of
-- AtLeast(a,3) end at
-- 3, and those of AtMost(a,3) and Exactly(a,3) at 4
abbrev pub refusals : List Stepped
refusals =
    stepped file 32 1 2 0
    ∷ stepped file 32 2 2 16
    ∷ stepped file 32 2 3 15
    ∷ stepped file 31 2 3 1
    ∷ stepped (counting (AtLeast 3)) 32 3 0 0
    ∷ stepped (counting (AtLeast 3)) 32 4 0 16
    ∷ stepped (counting (AtMost 3)) 32 4 0 0
    ∷ stepped (counting (AtMost 3)) 32 5 0 16
    ∷ stepped (counting (Exactly 3)) 32 4 0 0
    ∷ stepped (counting (Exactly 3)) 32 5 0 16
    ∷ []

pub steps_refused :
    map (λ c. step_refusal c.file (entries c.size c.standing) c.step) refusals
    ≡ map (λ c. c.refusal) refusals
unfolding computed_read computed_next known_entry all_known lent_refusal begin_refusal undeclared_refusal step_refusal
steps_refused = refl
