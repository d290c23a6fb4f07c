-- What `?` hands on is its refusal.
use Rattle.std.specs.Prelude.{◌≡◌, Result, Err}
use Rattle.std.specs.Result.{IsErrAnd}
use Rattle.std.proofs.Common.{ap, ◌∙◌}
use Rattle.std.proofs.lemmas.Result.{err_from_is_err_and}
use Rattle.refusals.specs.declared.Refusal.{Refusal}
use Rattle.refusals.specs.Number.{refusal_number, result_number}

module _ {A : Type 0} (r : Result A Refusal) (e : Refusal) (h : IsErrAnd r (λ f. f ≡ e)) where
  pub handed : r ≡ Err e
  handed = let p = err_from_is_err_and r h in p.1 ∙ ap (λ (f : Refusal). Err f) p.2

  pub handed_on : result_number r ≡ refusal_number e
  handed_on = ap result_number handed
