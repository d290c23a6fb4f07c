-- What reading decodes stands in the file at its places, and is formed as 01 says.
use Rattle.std.specs.Prelude.{◌≡◌, Bool, cond, length, get_or, drop, T, leb, Option, Some, None}
use Rattle.std.proofs.Math.Path.{refl, subst⁻¹}
use Rattle.std.proofs.Common.{sym, ap, ap₂, ◌∙◌, subst, arith, length-append, drop-drop, leb-true}
use mathlib.Core.List.{List, [], ◌∷◌, ◌++◌, map}
use Rattle.std.proofs.Math.Bool.{true, false}
use Prim.Native.Nat.{ℕ, zero, suc, ◌+◌, ◌-◌, zero-le}
use Rattle.std.specs.Float.Ieee.{of_bits}
use Rattle.std.specs.Float.{binary32}
use Rattle.std.specs.Float.Ieee.Bits.{of_bits-fits}
use Rattle.lists.specs.Members.{All, Member}
use Rattle.lists.specs.Laws.Elements.{map_append}
use Rattle.lists.specs.Laws.Members.{all_more, distinct_more}
use Rattle.refusals.specs.Refusal.{refused_or}
use Rattle.template.specs.Number.{number, count, counting, all, of_number}
use Rattle.template.specs.declared.Template.{Template}
use Rattle.template.specs.Laws.Number.{found_number}
use Rattle.template.specs.declared.Template.TheVariants.{Participation}
use Rattle.rule.specs.Good.{good_template, good_count, good_steps, good_weight, AcceptedWeight, GoodRule}
use Rattle.rule.specs.Laws.Weight.{bits_back}
use Rattle.fields.specs.Bytes.{two_at, four_at, part_at}
use Rattle.fields.specs.Field.{Field, field_at, fields_from, fields}
use Rattle.fields.specs.Laws.Field.{content_part}
use Rattle.rule_file.specs.Fault.{Decoded, faults, first_fault, good_name}
use Rattle.rule_file.specs.Decode.{found, rule_of, added, nothing, refused, read_fields, read_file}
use Rattle.rule_file.specs.Code.Held.{name_in}
use Rattle.rule_file.proofs.Laws.Fault.{decides_among, ClearStep, ClearRule, ClearField, step, rule, clear_field}
use Rattle.rule_file.specs.Code.ReadLaws.{added_step, added_rule}
use Rattle.rule_file.specs.Laws.Weight.{each_good}
use Rattle.rule_file.specs.WellFormed.{Formed}

-- the content of the field stands in the file
abbrev pub Contained : List ℕ → Field → Type 0
Contained bs f = part_at bs f.start (length f.content) ≡ f.content

fields_contained : (bs rest : List ℕ) (at skip : ℕ) → drop at bs ≡ rest → All (Contained bs) (fields_from at skip rest)
unfolding fields_from
fields_contained bs [] at zero e = tt
fields_contained bs [] at (suc skip) e = tt
fields_contained bs (b ∷ rest) at zero e = (
  subst (λ (l : List ℕ). Contained bs (field_at at l)) e (content_part bs at),
  fields_contained bs rest (at + 1)
      (2 + two_at (b ∷ rest) 1) (sym (drop-drop 1 at bs) ∙ ap (drop 1) e),
)
fields_contained bs (b ∷ rest) at (suc skip) e =
    fields_contained bs rest (at + 1) skip (sym (drop-drop 1 at bs) ∙ ap (drop 1) e)

-- what holds of nothing, and is kept by each field of the file that has no fault, holds of what is decoded
module _ (bs : List ℕ) (P : Decoded → Type 0) (none : P nothing)
    (keeps : (d : Decoded) (f : Field) → Contained bs f → first_fault (faults d f) ≡ 0 → P d → P (added d f)) where
  fields_keep : (d : Decoded) (fs : List Field) → All (Contained bs) fs → P d → P (read_fields d fs).decoded
  unfolding read_fields
  fields_keep d [] q p = go (leb 1 (length d.names))
    where
      go : (b : Bool) → P (cond b (record { refusal = 0; decoded = d }) (refused 13)).decoded
      go true = p
      go false = none
  fields_keep d (f ∷ fs) q p = go (first_fault (faults d f)) refl (fields_keep (added d f) fs q.1)
    where
      go : (n : ℕ) → first_fault (faults d f) ≡ n → (P (added d f) → P (read_fields (added d f) fs).decoded)
          → P (refused_or refused n (read_fields (added d f) fs)).decoded
      go zero e rest = rest (keeps d f q.0 e p)
      go (suc n) e rest = none

  pub file_keeps : P (read_file bs).decoded
  unfolding read_file
  file_keeps = fields_keep nothing (fields bs) (fields_contained bs bs 0 0 refl) none

-- ---- the names stand at their places

abbrev pub Placed : List ℕ → Decoded → Type 0
Placed bs d = map (name_in bs) d.places ≡ d.names

placed_more : (bs : List ℕ) (d : Decoded) (f : Field) → Contained bs f → first_fault (faults d f) ≡ 0 → Placed bs d
    → Placed bs (added d f)
placed_more bs d f q n p = go (clear_field d f n)
  where
    go : ClearField d f → Placed bs (added d f)
    go (step s) =
        subst⁻¹ (Placed bs) (added_step d f s.tag)
        (map_append (name_in bs) d.places (record { start = f.start; size = length f.content } ∷ [])
        ∙ ap₂ (λ (l : List (List ℕ)) (c : List ℕ). l ++ (c ∷ [])) p q)
    go (rule g r) = subst⁻¹ (Placed bs) (added_rule d f g) p

pub file_placed : (bs : List ℕ) → Placed bs (read_file bs).decoded
file_placed bs = file_keeps bs (Placed bs) refl (placed_more bs)

-- ---- names and rules are formed

abbrev Known : ℕ → ℕ → Template → Type 0
Known n c t = (number t ≡ n) × (T (counting t) → count t ≡ c)

pub known_template : (n c : ℕ) → good_template n ≡ true → Known n c (found (of_number n c))
known_template n c h =
    let t = get_or (all c) (n - 1) Participation in
    let e : of_number n c ≡ Some t = ap (λ (b : Bool). cond b (Some t) None) h in
    subst⁻¹ (λ (l : Option Template). Known n c (found l)) e (found_number n c t e)

accepted_bits : (n : ℕ) → good_weight n ≡ true → AcceptedWeight (of_bits binary32 n)
accepted_bits n h =
    record { single = of_bits-fits binary32 n; low = omega (arith, bits_back n h, leb-true n 0x3F800000 h) }

pub good_rule : (d : Decoded) (f : Field) → ClearRule d f → GoodRule (length d.names) (rule_of f.content)
unfolding rule_of
good_rule d f r =
    let w = each_good f.content r.weights in
    let x = get_or f.content 1 0 in
    let y = get_or f.content 2 0 in
    let k = known_template (get_or f.content 0 0) y r.template in
    record {
      declared = subst⁻¹ (λ (t : ℕ). T (good_steps (length d.names) t x y)) k.0 (subst⁻¹ T r.declared tt);
      counted = k.1;
      few = subst⁻¹ (λ (t : ℕ). T (good_count t y)) k.0 (subst⁻¹ T r.count tt);
      weights =
          record {
            support = accepted_bits (four_at f.content 3) w.0;
            confidence = accepted_bits (four_at f.content 7) w.1;
            interest = accepted_bits (four_at f.content 11) w.2;
          };
    }

abbrev pub FormedIn : Decoded → Type 0
FormedIn d = Formed d.names d.rules

formed_more : (d : Decoded) (f : Field) → first_fault (faults d f) ≡ 0 → FormedIn d → FormedIn (added d f)
formed_more d f n h = go (clear_field d f n)
  where
    new : ClearStep d f → ¬ Member f.content d.names
    new s m = subst T s.new ((decides_among f.content d.names).complete m)

    go : ClearField d f → FormedIn (added d f)
    go (step s) =
        subst⁻¹ FormedIn (added_step d f s.tag)
        record {
          few_steps = omega (arith, length-append d.names (f.content ∷ []), s.few);
          good_names = all_more (λ n. T (good_name n)) d.names f.content h.good_names (subst⁻¹ T s.good tt);
          distinct = distinct_more d.names f.content h.distinct (new s);
          few_rules = h.few_rules;
          good_rules = subst⁻¹ (All (GoodRule (length (d.names ++ (f.content ∷ []))))) s.before_rules tt;
        }
    go (rule g r) =
        subst⁻¹ FormedIn (added_rule d f g)
        record {
          few_steps = h.few_steps;
          good_names = h.good_names;
          distinct = h.distinct;
          few_rules = omega (arith, length-append d.rules (rule_of f.content ∷ []), r.few);
          good_rules =
              all_more (GoodRule (length d.names)) d.rules (rule_of f.content) h.good_rules
              (good_rule d f r);
        }

pub file_formed : (bs : List ℕ) → FormedIn (read_file bs).decoded
file_formed bs =
    file_keeps bs FormedIn
    (record { few_steps = zero-le; good_names = tt; distinct = tt; few_rules = zero-le; good_rules = tt })
    (λ d f q. formed_more d f)
