-- `rule_count` meets its contract: what is held of a file (`held_file`), at most 32 rules (`file_formed`), and none where
-- it is refused (`refused_nothing`).
use Rattle.std.proofs.Common.{◌≡◌, List, ℕ, suc, zero, ◌≤◌, length, sym, ap, arith}
use Rattle.refusals.specs.Number.{refusal_number}
use Rattle.refusals.proofs.Laws.Number.{number_positive}
use Rattle.fields.specs.Field.{fields}
use Rattle.rule_file.specs.declared.RuleFile.{RuleFile}
use Rattle.rule_file.specs.Fault.{Decoded}
use Rattle.rule_file.specs.Decode.{nothing, read_file}
use Rattle.rule_file.specs.Held.{held_file}
use Rattle.rule_file.specs.Contents.{rules_of}
use Rattle.rule_file.specs.Laws.Faultless.{refused_nothing}
use Rattle.rule_file.proofs.Laws.Accepted.{file_formed}
use Rattle.prune.proofs.rule_count.Goals as goal

pub returns-in-Ok : goal.returns-in-Ok
unfolding held_file
returns-in-Ok c =
    let e = ap (λ (f : RuleFile). f.count) c.in-Ok.ensures.file in
    (e, omega (arith, e, (file_formed c.args.file.now).few_rules))

refused_none : (bs : List ℕ) (n : ℕ) → 1 ≤ n → n ≡ (read_file bs).refusal → 0 ≡ length (rules_of bs)
unfolding read_file
refused_none bs zero h e = absurd (omega arith)
refused_none bs (suc n) h e =
    sym (ap (λ (d : Decoded). length d.rules) (refused_nothing nothing (fields bs) n (sym e)))

pub returns-in-Err : goal.returns-in-Err
returns-in-Err c =
    let e = c.in-Err.field-0 in
    (refused_none c.args.file.now (refusal_number e) (number_positive e) c.in-Err.ensures.number, omega arith)
