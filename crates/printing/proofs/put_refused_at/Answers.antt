-- `put_refused_at` meets its contract: the text, then the number (`put_then`).
use Rattle.std.proofs.Common.{ap, ℕ, arith}
use Rattle.printing.specs.Code.Put.{put_as, put_then}
use Rattle.printing.specs.Printed.{number_then, newline, refused_line}
use Rattle.printing.proofs.put_refused_at.Goals as goal

pub returns : goal.returns
unfolding refused_line
returns c =
    let text = c.put_text-after.ensures in
    (put_then text (put_as (ap (λ (n : ℕ). number_then n newline) c.from.ensures) c.put_number.ensures.0), omega (arith, text.size))
