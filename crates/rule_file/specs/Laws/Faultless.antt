-- Fields that have no fault one after the other, and what they declare: an accepted file has only such fields.
use Rattle.std.specs.Prelude.{◌≡◌, refl, List, [], ◌∷◌, Bool, true, false, cond, ℕ, zero, suc, ◌≤◌, length, leb}
use Rattle.std.proofs.Common.{ap, ◌∙◌, arith, leb-true}
use Rattle.refusals.specs.Refusal.{refused_or}
use Rattle.fields.specs.Field.{Field}
use Rattle.rule_file.specs.Fault.{Decoded, faults, first_fault}
use Rattle.rule_file.specs.Decode.{nothing, added, refused, ended, read_fields}
use Rattle.rule_file.specs.Refused.{declared, Faultless}

pub faultless_read : (d : Decoded) (fs : List Field) → Faultless d fs → read_fields d fs ≡ ended (declared d fs)
unfolding read_fields
faultless_read d [] h = refl
faultless_read d (f ∷ fs) h = ap (λ (n : ℕ). refused_or refused n (read_fields (added d f) fs)) h.0
    ∙ faultless_read (added d f) fs h.1

-- what an accepted reading is
pub record Accepts (d : Decoded) (fs : List Field) : Type 0 where
  pub faultless : Faultless d fs
  pub some_step : 1 ≤ length (declared d fs).names
  pub decoded : (read_fields d fs).decoded ≡ declared d fs

pub accepts : (d : Decoded) (fs : List Field) → (read_fields d fs).refusal ≡ 0 → Accepts d fs
unfolding read_fields
accepts d [] e = go (leb 1 (length d.names)) refl e
  where
    go : (b : Bool) → leb 1 (length d.names) ≡ b → (cond b (record { refusal = 0; decoded = d }) (refused 13)).refusal
        ≡ 0 → Accepts d []
    go true h q = record {
      faultless = tt;
      some_step = leb-true 1 (length d.names) h;
      decoded = ap (λ (b : Bool). (cond b (record { refusal = 0; decoded = d }) (refused 13)).decoded) h;
    }
    go false h q = absurd (omega arith)
accepts d (f ∷ fs) e = go (first_fault (faults d f)) refl e (accepts (added d f) fs)
  where
    go : (n : ℕ) → first_fault (faults d f) ≡ n → (refused_or refused n (read_fields (added d f) fs)).refusal ≡ 0
        → ((read_fields (added d f) fs).refusal ≡ 0 → Accepts (added d f) fs) → Accepts d (f ∷ fs)
    go zero h q rest =
        let a = rest q in
        record {
          faultless = (h, a.faultless);
          some_step = a.some_step;
          decoded = ap (λ (n : ℕ). (refused_or refused n (read_fields (added d f) fs)).decoded) h ∙ a.decoded;
        }
    go (suc n) h q rest = absurd (omega arith)

-- a refused reading has decoded nothing
pub refused_nothing : (d : Decoded) (fs : List Field) (n : ℕ) → (read_fields d fs).refusal ≡ suc n
    → (read_fields d fs).decoded ≡ nothing
unfolding read_fields
refused_nothing d [] n e = go (leb 1 (length d.names)) e
  where
    go : (b : Bool) → (cond b (record { refusal = 0; decoded = d }) (refused 13)).refusal ≡ suc n
        → (cond b (record { refusal = 0; decoded = d }) (refused 13)).decoded ≡ nothing
    go true q = absurd (omega arith)
    go false q = refl
refused_nothing d (f ∷ fs) n e = go (first_fault (faults d f)) e (refused_nothing (added d f) fs n)
  where
    go : (m : ℕ) → (refused_or refused m (read_fields (added d f) fs)).refusal ≡ suc n
        → ((read_fields (added d f) fs).refusal ≡ suc n → (read_fields (added d f) fs).decoded ≡ nothing)
        → (refused_or refused m (read_fields (added d f) fs)).decoded ≡ nothing
    go zero q rest = rest q
    go (suc m) q rest = refl
