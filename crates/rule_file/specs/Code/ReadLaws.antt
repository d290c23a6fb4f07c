-- Reading on from a place of the file: one field more, a refusal, or the end.
use Rattle.std.specs.Prelude.{◌≡◌, true, ℕ, ◌+◌, ◌≤◌, ◌<◌, drop}
use Rattle.std.proofs.Common.{sym, ◌∙◌, arith, drop_of_length-le, drop-drop}
use Rattle.std.proofs.Math.Path.{ap, ap₂}
use mathlib.Core.List.{List, [], ◌∷◌, ◌++◌}
use Rattle.std.proofs.Math.ListN.{length, length-drop}
use borrow.Author.Tests.{eq-eqb, ne_eqb, leb-true}
use Rattle.refusals.specs.Refusal.{refused_or}
use Rattle.refusals.proofs.Laws.Refusal.{refused_or_lem}
use Rattle.rule.specs.declared.Rule.{Rule}
use Rattle.fields.specs.Field.{Field, field_at, fields_from}
use Rattle.fields.specs.Bytes.{two_at, part_at}
use Rattle.fields.specs.Laws.Field.{fields_cons, content_part}
use Rattle.rule_file.specs.Fault.{Decoded, faults, first_fault}
use Rattle.rule_file.specs.Decode.{rule_of, added, with_step, with_rule, refused, ended, nothing, read_fields}
use Rattle.rule_file.specs.Decode.{read_file}
use Rattle.rule_file.specs.declared.RuleFile.{RuleFile}
use Rattle.rule_file.specs.Code.Held.{place_of, held_step, held_rule, decoded_in, WithinLimits, Grown}
use Rattle.rule_file.specs.declared.Place.{Place}
use Rattle.rule_file.specs.Code.HeldLaws.{decoded_step, decoded_rule, within_limits_step, within_limits_rule}

-- what a field adds, by its tag
module _ (d : Decoded) (f : Field) where
  pub added_step : f.tag ≡ 0x53 → added d f ≡ with_step d f.start f.content
  unfolding added
  added_step e = rw (eq-eqb f.tag 0x53 e)

  pub added_rule : (f.tag ≡ 0x53 → ⊥) → added d f ≡ with_rule d (rule_of f.content)
  unfolding added
  added_rule g = rw (ne_eqb f.tag 0x53 g)

pub read_starts : (bs : List ℕ) (s : RuleFile) → decoded_in bs s ≡ nothing → read_file bs
    ≡ read_fields (decoded_in bs s) (fields_from 0 0 (drop 0 bs))
unfolding read_file
read_starts bs s e = ap (λ (d : Decoded). read_fields d (fields_from 0 0 bs)) (sym e)

-- the record grows by a field, whose content stands in the file, as what it stands for does
module _ (bs : List ℕ) (f : Field) (there : part_at bs f.start (length f.content) ≡ f.content)
    (s : RuleFile) (h : WithinLimits s) where
  pub step_grows : (p : Place) → p ≡ place_of f → s.steps < 24 → f.tag ≡ 0x53 → Grown bs f s (held_step s p)
  step_grows p e k t =
      let d = decoded_in bs s in
      record {
        within = within_limits_step bs s h p k;
        decoded =
            ap (λ (q : Place). decoded_in bs (held_step s q)) e
            ∙ decoded_step bs s h _ k
            ∙ ap (λ (n : List ℕ). record {
              names = d.names
                  ++ (n ∷ []);
              places = (with_step d f.start f.content).places;
              rules = d.rules;
            }) there
            ∙ sym (added_step d f t);
      }

  pub rule_grows : (r : Rule) → r ≡ rule_of f.content → s.count < 32 → (f.tag ≡ 0x53 → ⊥) → Grown bs f s (held_rule s r)
  rule_grows r e k t =
      record {
        within = within_limits_rule bs s h r k;
        decoded = decoded_rule bs s h r k ∙ ap (with_rule (decoded_in bs s)) e ∙ sym (added_rule (decoded_in bs s) f t);
      }

module _ (bs : List ℕ) (at : ℕ) where
  abbrev pub here : Field
  here = field_at at (drop at bs)

  -- the record grows by the field here as what it stands for does
  module _ (s : RuleFile) (h : WithinLimits s) where
    pub step_more : (p : Place) → p ≡ place_of here → s.steps < 24
        → here.tag ≡ 0x53 → decoded_in bs (held_step s p) ≡ added (decoded_in bs s) here
    step_more p e k t =
        let d = decoded_in bs s in
        ap (λ (q : Place). decoded_in bs (held_step s q)) e
        ∙ decoded_step bs s h _ k
        ∙ ap (λ (n : List ℕ). record {
          names = d.names
              ++ (n ∷ []);
          places = (with_step d here.start here.content).places;
          rules = d.rules;
        }) (content_part bs at)
        ∙ sym (added_step d here t)

    pub rule_more : (r : Rule) → r ≡ rule_of here.content → s.count < 32 → (here.tag ≡ 0x53 → ⊥)
        → decoded_in bs (held_rule s r) ≡ added (decoded_in bs s) here
    rule_more r e k t =
        decoded_rule bs s h r k ∙ ap (with_rule (decoded_in bs s)) e ∙ sym (added_rule (decoded_in bs s) here t)

  module _ (d : Decoded) where
    pub read_refuses : (n : ℕ) → n ≡ first_fault (faults d here) → (n ≡ 0 → ⊥) → at < length bs
        → read_fields d (fields_from at 0 (drop at bs)) ≡ refused n
    unfolding read_fields
    read_refuses n e g h =
        let more : 0 < length (drop at bs) = simp length-drop (omega arith) in
        let k = 3 + two_at (drop at bs) 1 in
        let rest = read_fields (added d here) (fields_from (at + k) 0 (drop k (drop at bs))) in
        ap (read_fields d) (fields_cons at (drop at bs) more) ∙ ap (λ (m : ℕ). refused_or refused m rest) (sym e)
        ∙ refused_or_lem refused n rest g

    pub read_on : (next : Decoded) (n : ℕ) → next ≡ added d here → n ≡ at + (3 + two_at (drop at bs) 1)
        → first_fault (faults d here) ≡ 0 → at < length bs
        → read_fields d (fields_from at 0 (drop at bs)) ≡ read_fields next (fields_from n 0 (drop n bs))
    unfolding read_fields
    read_on next n e f g h =
        let more : 0 < length (drop at bs) = simp length-drop (omega arith) in
        let k = 3 + two_at (drop at bs) 1 in
        ap (read_fields d) (fields_cons at (drop at bs) more)
        ∙ ap (λ (m : ℕ). refused_or refused m (read_fields (added d here)
        (fields_from (at + k) 0 (drop k (drop at bs)))))
        g
        ∙ ap (λ (l : List ℕ). read_fields (added d here) (fields_from (at + k) 0 l)) (drop-drop k at bs)
        ∙ ap₂ (λ (q : Decoded) (m : ℕ). read_fields q (fields_from m 0 (drop m bs))) (sym e) (sym f)

    pub read_ends : length bs ≤ at → read_fields d (fields_from at 0 (drop at bs)) ≡ ended d
    unfolding read_fields fields_from
    read_ends h = ap (λ (l : List ℕ). read_fields d (fields_from at 0 l)) (drop_of_length-le bs h)

  -- a whole field ends in the file
  pub within : here.whole ≡ true → at ≤ length bs → at + (3 + two_at (drop at bs) 1) ≤ length bs
  unfolding field_at
  within w h = omega (arith, leb-true (3 + two_at (drop at bs) 1) (length (drop at bs)) w, length-drop at bs)
