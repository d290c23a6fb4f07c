-- `put_number` meets its contract: its digits (`as_decimal`, `no_more`), then the character after it (`put_then`).
use Rattle.std.proofs.Common.{arith}
use Rattle.printing.specs.Code.Put.{put_as, put_then}
use Rattle.printing.proofs.Laws.Decimal.{no_more, as_decimal}
use Rattle.printing.specs.Printed.{number_then}
use Rattle.printing.proofs.put_number.Goals as goal

pub put_text-after-requires : goal.put_text-after-requires
put_text-after-requires c =
    omega (
      arith,
      no_more c.args.n 5 c.decimal-count.result (omega arith) (omega arith) c.decimal-count.ensures.len,
      c.decimal-count.ensures.in_bounds.1,
    )

pub put_text-requires : goal.put_text-requires
put_text-requires c =
    omega (
      arith,
      no_more c.args.n 5 c.decimal-count.result (omega arith) (omega arith) c.decimal-count.ensures.len,
      c.decimal-count.ensures.in_bounds.1,
      c.put_text-after.ensures.size,
    )

pub returns : goal.returns
unfolding number_then
returns c =
    let d = c.decimal-count in
    let few = no_more c.args.n 5 d.result (omega arith) (omega arith) d.ensures.len in
    let is = as_decimal _ _ _ (omega arith) d.ensures.len d.ensures.digits in (
      put_then (put_as is c.put_text-after.ensures) c.put_text.ensures,
      omega (arith, few, d.ensures.in_bounds.1, c.put_text-after.ensures.size, c.put_text.ensures.size),
    )
