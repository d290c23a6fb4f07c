-- The numbers of refusals (01, "Refused inputs"; M-100, 16 and 17).
use Rattle.std.specs.Prelude.{ℕ, Result, Ok, Err}
use Rattle.refusals.specs.declared.Refusal.{Refusal}
use Rattle.refusals.specs.declared.Refusal.TheVariants.{ShortArea, FileEnds, OtherTag, StepAfterRule, TooManySteps}
use Rattle.refusals.specs.declared.Refusal.TheVariants.{BadName, NameUsed, TooManyRules, BadLength, NoTemplate}
use Rattle.refusals.specs.declared.Refusal.TheVariants.{BadSteps, BadWeight, NoStep, NoRule, UndeclaredStep}
use Rattle.refusals.specs.declared.Refusal.TheVariants.{UnknownStanding, BadCount}

abbrev pub refusal_number : Refusal → ℕ
refusal_number ShortArea = 1
refusal_number FileEnds = 2
refusal_number OtherTag = 3
refusal_number StepAfterRule = 4
refusal_number TooManySteps = 5
refusal_number BadName = 6
refusal_number NameUsed = 7
refusal_number TooManyRules = 8
refusal_number BadLength = 9
refusal_number NoTemplate = 10
refusal_number BadSteps = 11
refusal_number BadWeight = 12
refusal_number NoStep = 13
refusal_number NoRule = 14
refusal_number UndeclaredStep = 15
refusal_number UnknownStanding = 16
refusal_number BadCount = 17

-- the number that stands for what a call gives back: 0 where nothing is refused
abbrev pub result_number : {A : Type 0} → Result A Refusal → ℕ
result_number (Ok a) = 0
result_number (Err e) = refusal_number e
