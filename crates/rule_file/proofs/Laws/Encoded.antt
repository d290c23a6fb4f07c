-- The bytes of a field are read as that field, and the bytes of a file whose fields are whole are those of its fields.
use Rattle.std.specs.Prelude.{true, ◌&&◌, ◌≡◌, refl, ℕ, ◌+◌, ◌<◌, Float, length, get_or}
use Rattle.std.proofs.Common.{sym, ◌∙◌, arith, lit<, le-leb}
use Rattle.std.proofs.Math.Path.{ap, ap₂}
use mathlib.Core.List.{List, [], ◌∷◌, ◌++◌}
use Rattle.std.specs.Float.Ieee.{of_bits, to_bits}
use Rattle.std.specs.Float.{binary32}
use Rattle.std.specs.Float.Ieee.Bits.{of_bits-to_bits}
use Rattle.lists.specs.Laws.Decides.{passes}
use Rattle.lists.specs.Elements.{listed}
use Rattle.lists.specs.Laws.Elements.{listed_at}
use Rattle.lists.specs.Laws.Members.{all_at}
use Rattle.template.specs.Number.{number}
use Rattle.template.specs.Laws.Number.{of_number_lem, every_template}
use Rattle.rule.specs.Good.{good_template, good_steps, good_weight, AcceptedWeight, GoodRule}
use Rattle.rule.specs.declared.Rule.{Rule}
use Rattle.rule.specs.Laws.Weight.{bits_back}
use Rattle.fields.specs.Bytes.{four_at, four_bytes, Bytes}
use Rattle.fields.specs.Laws.Number.{four_back, four_bytes_lem}
use Rattle.fields.specs.Laws.Written.{whole_field}
use Rattle.fields.specs.Field.{Field}
use Rattle.rule_file.specs.Fault.{Decoded}
use Rattle.rule_file.proofs.Laws.Fault.{ClearRule}
use Rattle.rule_file.specs.Decode.{found, rule_of, weight_at}
use Rattle.rule_file.specs.WellFormed.{weight_bytes, rule_content}
use Rattle.rule_file.specs.Laws.Weight.{each_good}
use Rattle.rule_file.proofs.Laws.Accepted.{known_template}

-- ---- the content of a rule

weight_read : (w : Float) → AcceptedWeight w → (n : ℕ) → n ≡ to_bits binary32 w
    → (good_weight n ≡ true) × (of_bits binary32 n ≡ w)
weight_read w g n e =
    (le-leb n 0x3F800000 (omega (arith, g.low)), ap (of_bits binary32) e ∙ of_bits-to_bits binary32 w g.single)

module _ (r : Rule) (steps : ℕ) (g : GoodRule steps r) where
  support_read : (good_weight (four_at (rule_content r) 3) ≡ true) × (weight_at (rule_content r) 3 ≡ r.weights.support)
  support_read =
      weight_read r.weights.support g.weights.support (four_at (rule_content r) 3)
      (four_back (to_bits binary32 r.weights.support))

  confidence_read : (good_weight (four_at (rule_content r) 7) ≡ true)
      × (weight_at (rule_content r) 7 ≡ r.weights.confidence)
  confidence_read =
      weight_read r.weights.confidence g.weights.confidence (four_at (rule_content r) 7)
      (four_back (to_bits binary32 r.weights.confidence))

  interest_read : (good_weight (four_at (rule_content r) 11) ≡ true) × (weight_at (rule_content r) 11 ≡ r.weights.interest)
  interest_read =
      weight_read r.weights.interest g.weights.interest (four_at (rule_content r) 11)
      (four_back (to_bits binary32 r.weights.interest))

  pub rule_read : rule_of (rule_content r) ≡ r
  unfolding rule_of
  rule_read = λ i.
      record {
        template = ap found (of_number_lem r.template r.y g.counted) i;
        x = r.x;
        y = r.y;
        weights =
            record { support = support_read.1 i; confidence = confidence_read.1 i; interest = interest_read.1 i };
      }

  -- and it has no fault
  pub rule_clear_read : (d : Decoded) (at : ℕ) → length d.names ≡ steps → length d.rules < 32
      → ClearRule d (whole_field at 0x52 (rule_content r))
  rule_clear_read d at e few =
      record {
        whole = refl;
        tag = refl;
        few = few;
        long = refl;
        template = passes _ (every_template (λ t. good_template (number t)) (λ c. tt) r.template);
        count = passes _ g.few;
        declared = ap (λ (n : ℕ). good_steps n (number r.template) r.x r.y) e ∙ passes _ g.declared;
        weights = ap₂ ◌&&◌ support_read.0 (ap₂ ◌&&◌ confidence_read.0 interest_read.0);
      }

module _ (d : Decoded) (f : Field) (r : ClearRule d f) (b : Bytes f.content) where
  abbrev at_place : ℕ → ℕ
  at_place k = get_or f.content k 0

  byte_at : (k : ℕ) → k < 15 → at_place k < 256
  byte_at k h = all_at (λ n. n < 256) f.content k 0 b (omega (arith, r.long))

  weight_written : (i : ℕ) → i < 12 → good_weight (four_at f.content i) ≡ true
      → weight_bytes (weight_at f.content i) ≡ at_place i ∷ at_place (i + 1) ∷ at_place (i + 2) ∷ at_place (i + 2 + 1)
      ∷ []
  weight_written i h g =
      ap four_bytes (bits_back (four_at f.content i) g)
      ∙ four_bytes_lem (at_place i) (at_place (i + 1)) (at_place (i + 2)) (at_place (i + 2 + 1))
      (byte_at (i + 1) (omega arith)) (byte_at (i + 2) (omega arith)) (byte_at (i + 2 + 1) (omega arith))

  -- the content of the rule that was read is the content of the field
  pub rule_written : rule_content (rule_of f.content) ≡ f.content
  unfolding rule_of
  rule_written =
      let w = each_good f.content r.weights in
      ap₂ (λ (t : ℕ) (l : List ℕ). t ∷ at_place 1 ∷ at_place 2 ∷ l)
      (known_template (at_place 0) (at_place 2) r.template).0
      (ap₂ (λ (l m : List ℕ). l ++ m) (weight_written 3 (lit< tt) w.0)
      (ap₂ (λ (l m : List ℕ). l ++ m) (weight_written 7 (lit< tt) w.1) (weight_written 11 (lit< tt) w.2)))
      ∙ ap (λ (n : ℕ). listed n at_place) (sym r.long)
      ∙ listed_at f.content 0
