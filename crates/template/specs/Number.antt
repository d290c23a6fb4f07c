-- The numbers of the templates (01, "Templates", column No.; M-100), their counts, and the template of a number and a
-- count.
use Rattle.std.specs.Prelude.{Bool, cond, ◌&&◌, List, [], ◌∷◌, ◌++◌, ℕ, ◌-◌, leb, get_or, take, drop}
use Rattle.std.specs.Prelude.{Option, Some, None}
use Rattle.template.specs.declared.Template.{Template}
use Rattle.template.specs.declared.Template.TheVariants.{Participation, AtMostOne, Init, End, RespondedExistence}
use Rattle.template.specs.declared.Template.TheVariants.{Response, AlternateResponse, ChainResponse, Precedence}
use Rattle.template.specs.declared.Template.TheVariants.{AlternatePrecedence, ChainPrecedence, CoExistence}
use Rattle.template.specs.declared.Template.TheVariants.{Succession, AlternateSuccession, ChainSuccession}
use Rattle.template.specs.declared.Template.TheVariants.{NotChainSuccession, NotSuccession, NotCoExistence}
use Rattle.template.specs.declared.Template.TheVariants.{AtLeast, AtMost, Exactly, Choice, ExclusiveChoice}
use Rattle.template.specs.Limits.{last_template}

-- column No.; 19 to 23 by M-100
abbrev pub number : Template → ℕ
number Participation = 1
number AtMostOne = 2
number Init = 3
number End = 4
number RespondedExistence = 5
number Response = 6
number AlternateResponse = 7
number ChainResponse = 8
number Precedence = 9
number AlternatePrecedence = 10
number ChainPrecedence = 11
number CoExistence = 12
number Succession = 13
number AlternateSuccession = 14
number ChainSuccession = 15
number NotChainSuccession = 16
number NotSuccession = 17
number NotCoExistence = 18
number (AtLeast n) = 19
number (AtMost n) = 20
number (Exactly n) = 21
number Choice = 22
number ExclusiveChoice = 23

-- M-100: 19 to 21 hold how often x is to occur; the others hold no count, here 0
abbrev pub count : Template → ℕ
count Participation = 0
count AtMostOne = 0
count Init = 0
count End = 0
count RespondedExistence = 0
count Response = 0
count AlternateResponse = 0
count ChainResponse = 0
count Precedence = 0
count AlternatePrecedence = 0
count ChainPrecedence = 0
count CoExistence = 0
count Succession = 0
count AlternateSuccession = 0
count ChainSuccession = 0
count NotChainSuccession = 0
count NotSuccession = 0
count NotCoExistence = 0
count (AtLeast n) = n
count (AtMost n) = n
count (Exactly n) = n
count Choice = 0
count ExclusiveChoice = 0

-- the numbers of the templates that count
abbrev pub counting_number : ℕ → Bool
counting_number n = leb 19 n && leb n 21

abbrev pub counting : Template → Bool
counting t = counting_number (number t)

-- the templates in the order of their numbers, the counting ones with the count c
abbrev pub all : ℕ → List Template
all c =
    Participation
    ∷ AtMostOne
    ∷ Init
    ∷ End
    ∷ RespondedExistence
    ∷ Response
    ∷ AlternateResponse
    ∷ ChainResponse
    ∷ Precedence
    ∷ AlternatePrecedence
    ∷ ChainPrecedence
    ∷ CoExistence
    ∷ Succession
    ∷ AlternateSuccession
    ∷ ChainSuccession
    ∷ NotChainSuccession
    ∷ NotSuccession
    ∷ NotCoExistence
    ∷ AtLeast c
    ∷ AtMost c
    ∷ Exactly c
    ∷ Choice
    ∷ ExclusiveChoice
    ∷ []

-- the template that has the number n, with the count c where it counts: there is one for 1 to 23 (M-100, refusal 10)
abbrev pub of_number : ℕ → ℕ → Option Template
of_number n c = cond (leb 1 n && leb n last_template) (Some (get_or (all c) (n - 1) Participation)) None

-- ---- the templates that 01's table lists: all but those that count

abbrev pub tabled : List Template
tabled = take 18 (all 0) ++ drop 21 (all 0)

-- where the template of a number stands among these
abbrev pub table_place_of : ℕ → ℕ
table_place_of n = cond (leb n 18) (n - 1) (n - 4)

abbrev pub table_place : Template → ℕ
table_place t = table_place_of (number t)
