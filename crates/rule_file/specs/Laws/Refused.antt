-- A file is refused by n exactly when the first faulty field's first fault is n, or when no field is faulty, none is a
-- step, and n is 13 (`refused_exactly`): by an induction over the fields.
use Rattle.std.specs.Prelude.{Bool, true, false, cond, ◌≡◌, refl, List, [], ◌∷◌, ◌++◌, ◌↔◌, ℕ, zero, suc, ◌≤◌, leb}
use Rattle.std.specs.Prelude.{length}
use Rattle.std.proofs.Common.{sym, ap, ◌∙◌, inl, inr, arith, leb-false}
use Rattle.std.proofs.lemmas.Bool.{lt-leb}
use Rattle.refusals.specs.Refusal.{refused_or}
use Rattle.fields.specs.Field.{Field, fields}
use Rattle.rule_file.specs.Fault.{Decoded, Faults, faults, first_fault}
use Rattle.rule_file.specs.Refused.{Clear, declared, Faultless, FirstHolds, RefusedBy}
use Rattle.rule_file.specs.Decode.{Read, nothing, added, refused, read_fields, read_file}
use Rattle.rule_file.specs.Laws.Faultless.{faultless_read}

first_holds : (fs : Faults) (n : ℕ) → first_fault fs ≡ suc n → FirstHolds fs (suc n)
first_holds [] n e = absurd (omega arith)
first_holds (f ∷ fs) n e = go f.0 refl e (first_holds fs n)
  where
    go : (b : Bool) → f.0 ≡ b → cond b f.1 (first_fault fs) ≡ suc n → (first_fault fs ≡ suc n → FirstHolds fs (suc n))
        → FirstHolds (f ∷ fs) (suc n)
    go true h q rest = record { earlier = []; later = fs; split = λ i. (h i, q i) ∷ fs; clear = tt }
    go false h q rest = let r = rest q in record {
      earlier = f ∷ r.earlier;
      later = r.later;
      split = ap (λ (l : Faults). f ∷ l) r.split;
      clear = (h, r.clear);
    }

holds_first : (fs : Faults) (n : ℕ) → FirstHolds fs n → first_fault fs ≡ n
holds_first fs n h = ap first_fault h.split ∙ go h.earlier h.clear
  where
    go : (l : Faults) → Clear l → first_fault (l ++ ((true, n) ∷ h.later)) ≡ n
    go [] c = refl
    go (f ∷ l) c = ap (λ (b : Bool). cond b f.1 (first_fault (l ++ ((true, n) ∷ h.later)))) c.0 ∙ go l c.1

refused_by : (d : Decoded) (fs : List Field) (n : ℕ) → (read_fields d fs).refusal ≡ suc n → RefusedBy d fs (suc n)
unfolding read_fields
refused_by d [] n e = go (leb 1 (length d.names)) refl e
  where
    go : (b : Bool) → leb 1 (length d.names) ≡ b → (cond b (record { refusal = 0; decoded = d }) (refused 13)).refusal
        ≡ suc n → RefusedBy d [] (suc n)
    go true h q = absurd (omega arith)
    go false h q = inr (sym q, record { faultless = tt; none = omega (arith, leb-false 1 (length d.names) h) })
refused_by d (f ∷ fs) n e = go (first_fault (faults d f)) refl e (refused_by (added d f) fs n)
  where
    later : first_fault (faults d f) ≡ 0 → RefusedBy (added d f) fs (suc n) → RefusedBy d (f ∷ fs) (suc n)
    later h (inl r) = inl (record {
      before = f ∷ r.before;
      field = r.field;
      after = r.after;
      split = ap (λ (l : List Field). f ∷ l) r.split;
      faultless = (h, r.faultless);
      first = r.first;
    })
    later h (inr r) = inr (r.0, record { faultless = (h, r.1.faultless); none = r.1.none })

    go : (m : ℕ) → first_fault (faults d f) ≡ m → (refused_or refused m (read_fields (added d f) fs)).refusal ≡ suc n
        → ((read_fields (added d f) fs).refusal ≡ suc n → RefusedBy (added d f) fs (suc n))
        → RefusedBy d (f ∷ fs) (suc n)
    go zero h q rest = later h (rest q)
    go (suc m) h q rest = inl (record {
      before = [];
      field = f;
      after = fs;
      split = refl;
      faultless = tt;
      first = first_holds (faults d f) n (h ∙ q);
    })

faulty_refused : (d : Decoded) (before : List Field) (f : Field) (after : List Field) (n : ℕ) → Faultless d before
    → first_fault (faults (declared d before) f) ≡ suc n → (read_fields d (before ++ (f ∷ after))).refusal ≡ suc n
unfolding read_fields
faulty_refused d [] f after n h e = ap (λ (m : ℕ). (refused_or refused m (read_fields (added d f) after)).refusal) e
faulty_refused d (g ∷ before) f after n h e =
    ap (λ (m : ℕ). (refused_or refused m (read_fields (added d g) (before ++ (f ∷ after)))).refusal) h.0
    ∙ faulty_refused (added d g) before f after n h.1 e

by_refused : (d : Decoded) (fs : List Field) (n : ℕ) → RefusedBy d fs (suc n) → (read_fields d fs).refusal ≡ suc n
by_refused d fs n (inl r) =
    ap (λ (l : List Field). (read_fields d l).refusal) r.split
    ∙ faulty_refused d r.before r.field r.after n r.faultless (holds_first _ _ r.first)
by_refused d fs n (inr r) =
    ap (λ (q : Read). q.refusal) (faultless_read d fs r.1.faultless)
    ∙ ap (λ (b : Bool). (cond b (record { refusal = 0; decoded = declared d fs }) (refused 13)).refusal)
    (lt-leb 1 (length (declared d fs).names) (omega (arith, r.1.none)))
    ∙ sym r.0

pub refused_exactly : (bs : List ℕ) (n : ℕ) → 1 ≤ n → ((read_file bs).refusal ≡ n) ↔ RefusedBy nothing (fields bs) n
unfolding read_file
refused_exactly bs zero h = absurd (omega arith)
refused_exactly bs (suc n) h = (refused_by nothing (fields bs) n, by_refused nothing (fields bs) n)
