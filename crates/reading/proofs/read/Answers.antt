-- What is held so far, read on from here, is the reading of the whole file (`read_on`): up to a field that is refused
-- (`read_refuses`), or to the end (`read_ends`).
use Rattle.std.proofs.Common.{ℕ, List, ◌+◌, ◌≡◌, ◌≤◌, length, drop, cond, ltb, sym, ap, ◌∙◌, zero-le, arith, rules}
use Rattle.std.proofs.Math.Path.{subst⁻¹}
use Rattle.refusals.specs.Number.{refusal_number}
use Rattle.refusals.proofs.Laws.Number.{number_not_zero}
use Rattle.fields.specs.Field.{Field, fields_from}
use Rattle.fields.specs.Bytes.{two_at, part_at}
use Rattle.fields.specs.Seen.{seen}
use Rattle.fields.specs.Laws.Field.{content_part, field_end}
use Rattle.rule_file.specs.Fault.{Decoded, faults, first_fault}
use Rattle.rule_file.specs.declared.RuleFile.{RuleFile}
use Rattle.rule_file.specs.Decode.{Read, added, ended, read_fields, read_file}
use Rattle.rule_file.specs.Held.{held_file}
use Rattle.rule_file.specs.Code.Held.{decoded_in, WithinLimits}
use Rattle.rule_file.specs.Code.HeldLaws.{within_limits_nothing, decoded_nothing, ended_number, ended_held}
use Rattle.rule_file.specs.Code.ReadLaws.{here, read_starts, read_refuses, read_on, read_ends, within}
use Rattle.rule_file.proofs.Laws.Fault.{clear_whole}
use Rattle.reading.proofs.read.Goals as goal

pub loop-at-init : goal.loop-at-init
loop-at-init c =
    let file = c.args.file.now in
    let e = c.nothing_held-held.ensures in (
      zero-le,
      subst⁻¹ WithinLimits e within_limits_nothing,
      read_starts file _ (ap (decoded_in file) e ∙ decoded_nothing file),
    )

-- the content of the field stands in the file
pub hold_field-requires : goal.hold_field-requires
hold_field-requires c =
    let file = c.args.file.now in
    let l = c.loop-at in
    record {
      within = l.invariant.1;
      there =
          subst⁻¹ (λ (f : Field). part_at file f.start (length f.content) ≡ f.content) (c.field_at-field.ensures.seen (omega arith))
          (content_part file l.at);
    }

pub returns-in_err-hold_field-clause-number : goal.returns-in_err-hold_field-clause-number
returns-in_err-hold_field-clause-number c =
    let file = c.args.file.now in
    let l = c.loop-at in
    let d = decoded_in file l.held in
    let e = c.in_err-hold_field.field-0.0 in
    let fault = c.in_err-hold_field.ensures.number
    ∙ ap (λ (f : Field). first_fault (faults d f)) (c.field_at-field.ensures.seen (omega arith)) in
    let number : refusal_number e ≡ (read_file file).refusal =
    sym (ap (λ (r : Read). r.refusal) (l.invariant.2
    ∙ read_refuses file l.at d _ fault (number_not_zero e) c.loop-at-test.true)) in
    search (rules, number)

-- a field without fault ends in the file, where the next one begins
module _ (file : List ℕ) (at : ℕ) (d : Decoded) (f : Field) (is : f ≡ here file at) (number : 0 ≡ first_fault (faults d f)) where
  no_fault : first_fault (faults d (here file at)) ≡ 0
  no_fault = sym (number ∙ ap (λ (f : Field). first_fault (faults d f)) is)

  end_place : f.start + length f.content ≡ at + (3 + two_at (drop at file) 1)
  end_place =
      ap (λ (f : Field). f.start + length f.content) is
      ∙ field_end file at (clear_whole d (here file at) no_fault)

  end_within : at ≤ length file → f.start + length f.content ≤ length file
  end_within h =
      subst⁻¹ (λ (n : ℕ). n ≤ length file) end_place (within file at (clear_whole d (here file at) no_fault) h)

pub overflow_add-at : goal.overflow_add-at
overflow_add-at c =
    let l = c.loop-at in
    let ends = end_within c.args.file.now l.at (decoded_in c.args.file.now l.held) (seen c.field_at-field.result)
    (c.field_at-field.ensures.seen (omega arith)) c.in_ok-hold_field.ensures.number l.invariant.0 in
    omega (arith, ends)

pub loop-at-smaller : goal.loop-at-smaller
loop-at-smaller c =
    let l = c.loop-at in
    let end = end_place c.args.file.now l.at (decoded_in c.args.file.now l.held) (seen c.field_at-field.result)
    (c.field_at-field.ensures.seen (omega arith)) c.in_ok-hold_field.ensures.number in
    omega (arith, end, c.loop-at-test.true)

pub loop-at-preserved : goal.loop-at-preserved
loop-at-preserved c =
    let file = c.args.file.now in
    let l = c.loop-at in
    let d = decoded_in file l.held in
    let f = seen c.field_at-field.result in
    let is = c.field_at-field.ensures.seen (omega arith) in
    let number = c.in_ok-hold_field.ensures.number in
    let grown = c.in_ok-hold_field.ensures.grown in (
      end_within file l.at d f is number l.invariant.0,
      grown.within,
      l.invariant.2
          ∙ read_on file l.at d (decoded_in file c.hold_field.new.held) _ (grown.decoded ∙ ap (added d) is)
          (end_place file l.at d f is number) (no_fault file l.at d f is number) c.loop-at-test.true,
    )

-- at the end
module _ (file : List ℕ) (at : ℕ) (held : RuleFile) (h : WithinLimits held) (end : length file ≤ at)
    (e : read_file file ≡ read_fields (decoded_in file held) (fields_from at 0 (drop at file))) where
  ends : read_file file ≡ ended (decoded_in file held)
  ends = e ∙ read_ends file at (decoded_in file held) end

  end_number : cond (ltb held.steps 1) 13 0 ≡ (read_file file).refusal
  end_number = ended_number file held h ∙ sym (ap (λ (r : Read). r.refusal) ends)

  end_held : ◌≡◌ {A = ℕ} (cond (ltb held.steps 1) 13 0) 0 → held ≡ held_file (read_file file).decoded
  end_held q = ended_held file held h q ∙ sym (ap (λ (r : Read). held_file r.decoded) ends)

pub returns-in_err-refuse_if-clause-number : goal.returns-in_err-refuse_if-clause-number
returns-in_err-refuse_if-clause-number c =
    let l = c.loop-at in
    let number = c.in_err-refuse_if.ensures
    ∙ end_number c.args.file.now l.at l.held l.invariant.1 c.loop-at-test.false l.invariant.2 in
    search (rules, number)

pub returns-clause-number : goal.returns-clause-number
returns-clause-number c =
    let l = c.loop-at in
    c.in_ok-refuse_if.ensures ∙ end_number c.args.file.now l.at l.held l.invariant.1 c.loop-at-test.false l.invariant.2

pub returns-clause-file : goal.returns-clause-file
returns-clause-file c =
    let l = c.loop-at in
    end_held c.args.file.now l.at l.held l.invariant.1 c.loop-at-test.false l.invariant.2
    (sym c.in_ok-refuse_if.ensures)
