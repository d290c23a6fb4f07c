-- `write_answer` meets its contract: one sequence after the other (`answer_written`).
use Rattle.shown.specs.Code.Written.{answer_written}
use Rattle.answer.proofs.write_answer.Goals as goal

pub returns : goal.returns
returns c =
    answer_written c.args.answer.now c.args.shown _ _ c.write_shown.ensures c.write_shown-2.ensures
