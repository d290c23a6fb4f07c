-- Where the call is refused the name is empty (`empty_exactly`).
use Rattle.std.proofs.Common.{sym, arith}
use Rattle.refusals.proofs.Laws.Number.{number_positive}
use Rattle.rule_file.proofs.Laws.Name.{empty_exactly}
use Rattle.reading.proofs.step_name.Goals as goal

pub returns-in-Err : goal.returns-in-Err
returns-in-Err c =
    sym ((empty_exactly c.args.file.now c.args.step).1
    (omega (arith, number_positive c.in-Err.field-0, c.in-Err.ensures.number)))
