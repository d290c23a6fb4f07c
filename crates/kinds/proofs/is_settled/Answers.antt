-- `is_settled` meets its contract: the row of a standing says whether a declared step leaves it (`row_settled`).
use Rattle.template.proofs.Laws.Columns.{row_settled}
use Rattle.kinds.proofs.is_settled.Goals as goal

pub returns : goal.returns
returns c t lacks row =
    rw (c.next-3.ensures, c.next.ensures, c.next-2.ensures, lacks)
    (row_settled t c.args.other c.args.standing c.args.row row)
