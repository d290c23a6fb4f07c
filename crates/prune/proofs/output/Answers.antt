-- `output` meets its contract, by the three kinds of output (`printed_long`, `printed_refused`, `printed_lines`).
use Rattle.std.proofs.Common.{refl, sym, ap, ◌∙◌, ◌++◌, List, ℕ, arith}
use Rattle.refusals.specs.Number.{refusal_number}
use Rattle.refusals.proofs.Laws.Number.{number_not_zero}
use Rattle.printing.specs.Printed.{long_line, lines, refused_line}
use Rattle.printing.specs.Laws.Printed.{lines_front, refused_as_read, printed_long, printed_refused, printed_lines}
use Rattle.prune.proofs.output.Goals as goal

pub returns-then-file-gt-LONGEST : goal.returns-then-file-gt-LONGEST
returns-then-file-gt-LONGEST c =
    c.put.ensures ∙ ap (λ (l : List ℕ). l ++ long_line) c.new-text.ensures
    ∙ printed_long c.args.file.now (omega arith)

-- The areas lent are long enough, so that the refusal is that of reading.
pub returns-in-Ok : goal.returns-in-Ok
returns-in-Ok c =
    let as_read = c.in-Ok.ensures.returned ∙ refused_as_read _ _ _ _ (omega arith) (omega arith) (omega arith) in
    c.put_lines.ensures.0
    ∙ ap (λ (l : List ℕ). l ++ lines c.prune.new.verdicts c.rule_count.result) c.new-text.ensures
    ∙ lines_front _ _ _ _ c.rule_count.ensures.0 (c.in-Ok.ensures.written refl)
    ∙ printed_lines c.args.file.now (omega arith) (sym as_read)

pub returns-in-Err : goal.returns-in-Err
returns-in-Err c =
    let n = refusal_number c.in-Err.refusal in
    let as_read = c.in-Err.ensures.returned ∙ refused_as_read _ _ _ _ (omega arith) (omega arith) (omega arith) in
    c.put_refused.ensures.0 ∙ ap (λ (l : List ℕ). l ++ refused_line n) c.new-text.ensures
    ∙ printed_refused c.args.file.now n (omega arith) as_read (number_not_zero c.in-Err.refusal)
