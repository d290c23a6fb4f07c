-- Laws of refusals: what a refused call gives and leaves, and when neither of two tests refuses.
use Rattle.std.specs.Prelude.{◌≡◌, refl, List, [], ℕ, zero, suc}
use Rattle.std.proofs.Common.{arith}
use Rattle.lists.specs.Laws.Elements.{drop_none}
use Rattle.refusals.specs.Refusal.{refused_or, first_refusal, written_over}

pub refused_or_lem : {A : Type 0} (f : ℕ → A) (n : ℕ) (next : A) → ¬ (n ≡ 0) → refused_or f n next ≡ f n
refused_or_lem f zero next h = absurd (h refl)
refused_or_lem f (suc n) next h = refl

pub first_accepted : (earlier later : ℕ) → first_refusal earlier later ≡ 0 → (earlier ≡ 0) × (later ≡ 0)
first_accepted zero later e = (refl, e)
first_accepted (suc n) later e = absurd (omega arith)

-- nothing is written
pub written_nothing : {A : Type 0} (area : List A) → written_over [] area ≡ area
written_nothing area = drop_none area
