-- Refusals (01, "Refused inputs"): a number, 0 where nothing is refused; and what a call leaves in a lent area.
use Rattle.std.specs.Prelude.{List, ◌++◌, ℕ, zero, suc, length, drop}

-- refused, or what comes then
abbrev pub refused_or : {A : Type 0} → (ℕ → A) → ℕ → A → A
refused_or refused zero next = next
refused_or refused (suc n) next = refused (suc n)

-- the first of two refusals: the later test counts where the earlier one refuses nothing
abbrev pub first_refusal : ℕ → ℕ → ℕ
first_refusal earlier later = refused_or (λ n. n) earlier later

-- a refused call changes nothing
abbrev pub changed_unless : {A : Type 0} → ℕ → A → A → A
changed_unless refusal after before = refused_or (λ _. before) refusal after

-- an area that a list is written over from the start; later elements stay
abbrev pub written_over : {A : Type 0} → List A → List A → List A
written_over l area = l ++ drop (length l) area
