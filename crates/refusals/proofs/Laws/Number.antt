-- Laws of the numbers of refusals: none is 0, so that what is refused stays refused whatever later tests say.
use Rattle.std.specs.Prelude.{◌≡◌, ℕ, ◌≤◌}
use Rattle.std.proofs.Common.{arith, lit≤}
use Rattle.refusals.specs.declared.Refusal.{Refusal}
use Rattle.refusals.specs.declared.Refusal.TheVariants.{ShortArea, FileEnds, OtherTag, StepAfterRule, TooManySteps}
use Rattle.refusals.specs.declared.Refusal.TheVariants.{BadName, NameUsed, TooManyRules, BadLength, NoTemplate, BadSteps}
use Rattle.refusals.specs.declared.Refusal.TheVariants.{BadWeight, NoStep, NoRule, UndeclaredStep, UnknownStanding}
use Rattle.refusals.specs.declared.Refusal.TheVariants.{BadCount}
use Rattle.refusals.specs.Number.{refusal_number}
use Rattle.refusals.specs.Refusal.{refused_or}
use Rattle.refusals.proofs.Laws.Refusal.{refused_or_lem}

pub number_positive : (e : Refusal) → 1 ≤ refusal_number e
number_positive ShortArea = lit≤ tt
number_positive FileEnds = lit≤ tt
number_positive OtherTag = lit≤ tt
number_positive StepAfterRule = lit≤ tt
number_positive TooManySteps = lit≤ tt
number_positive BadName = lit≤ tt
number_positive NameUsed = lit≤ tt
number_positive TooManyRules = lit≤ tt
number_positive BadLength = lit≤ tt
number_positive NoTemplate = lit≤ tt
number_positive BadSteps = lit≤ tt
number_positive BadWeight = lit≤ tt
number_positive NoStep = lit≤ tt
number_positive NoRule = lit≤ tt
number_positive UndeclaredStep = lit≤ tt
number_positive UnknownStanding = lit≤ tt
number_positive BadCount = lit≤ tt

pub number_not_zero : (e : Refusal) → ¬ (refusal_number e ≡ 0)
number_not_zero e h = absurd (omega (arith, number_positive e))

-- a refusal decides, whatever comes then
pub refused_by : {A : Type 0} (f : ℕ → A) (e : Refusal) (next : A) → refused_or f (refusal_number e) next
    ≡ f (refusal_number e)
refused_by f e next = refused_or_lem f (refusal_number e) next (number_not_zero e)
