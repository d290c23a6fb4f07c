-- A field without fault is a step or a rule (`clear_step`, `clear_rule`) that there is room for, and the record grows by
-- it (`step_grows`, `rule_grows`).
use Rattle.std.proofs.Common.{ℕ, List, ◌≡◌, ◌<◌, refl, sym, arith}
use Rattle.fields.specs.Field.{Field}
use Rattle.fields.specs.Seen.{seen}
use Rattle.rule_file.specs.declared.RuleFile.{RuleFile}
use Rattle.rule_file.specs.Fault.{faults, first_fault}
use Rattle.rule_file.specs.Code.Held.{decoded_in, WithinLimits}
use Rattle.rule_file.specs.Code.HeldLaws.{decoded_steps, decoded_count}
use Rattle.rule_file.specs.Code.ReadLaws.{step_grows, rule_grows}
use Rattle.rule_file.proofs.Laws.Fault.{ClearRule, clear_step, clear_rule}
use Rattle.reading.proofs.hold_field.Goals as goal

-- what is held, and a field without fault after it
module _ (file : List ℕ) (f : Field) (held : RuleFile) (h : WithinLimits held)
    (clear : first_fault (faults (decoded_in file held) f) ≡ 0) where
  step_room : f.tag ≡ 0x53 → held.steps < 24
  step_room t = omega (arith, (clear_step (decoded_in file held) f clear t).few, decoded_steps file held h)

  is_rule : ¬ (f.tag ≡ 0x53) → ClearRule (decoded_in file held) f
  is_rule t = clear_rule (decoded_in file held) f clear t

  rule_room : ¬ (f.tag ≡ 0x53) → held.count < 32
  rule_room t = omega (arith, (is_rule t).few, decoded_count file held h)

pub bounds-held-held : goal.bounds-held-held
bounds-held-held c =
    let a = c.args in
    step_room a.file.now (seen a.field.now) a.held.now c.requires.within (sym c.in_ok-field_fault.ensures)
    c.if-field-eq-STEP_TAG.true

pub rule_of-requires : goal.rule_of-requires
rule_of-requires c =
    let a = c.args in
    (is_rule a.file.now (seen a.field.now) a.held.now c.requires.within (sym c.in_ok-field_fault.ensures)
    c.if-field-eq-STEP_TAG.false).weights

pub bounds-held-held-else-field-eq-STEP_TAG : goal.bounds-held-held-else-field-eq-STEP_TAG
bounds-held-held-else-field-eq-STEP_TAG c =
    let a = c.args in
    rule_room a.file.now (seen a.field.now) a.held.now c.requires.within (sym c.in_ok-field_fault.ensures)
    c.if-field-eq-STEP_TAG.false

pub returns-then-field-eq-STEP_TAG-clause-grown : goal.returns-then-field-eq-STEP_TAG-clause-grown
returns-then-field-eq-STEP_TAG-clause-grown c =
    let a = c.args in
    let tag = c.if-field-eq-STEP_TAG.true in
    step_grows a.file.now (seen a.field.now) c.requires.there a.held.now c.requires.within _ refl
    (step_room a.file.now (seen a.field.now) a.held.now c.requires.within (sym c.in_ok-field_fault.ensures) tag) tag

pub returns-else-field-eq-STEP_TAG-clause-grown : goal.returns-else-field-eq-STEP_TAG-clause-grown
returns-else-field-eq-STEP_TAG-clause-grown c =
    let a = c.args in
    let other = c.if-field-eq-STEP_TAG.false in
    rule_grows a.file.now (seen a.field.now) c.requires.there a.held.now c.requires.within c.rule_of.result
    c.rule_of.ensures
    (rule_room a.file.now (seen a.field.now) a.held.now c.requires.within (sym c.in_ok-field_fault.ensures) other) other
