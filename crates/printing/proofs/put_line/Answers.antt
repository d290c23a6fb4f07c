-- `put_line` meets its contract: a number after the other (`put_then`).
use Rattle.std.proofs.Common.{ap, ◌∙◌, arith, ℕ}
use Rattle.printing.specs.Code.Put.{put_as, put_then}
use Rattle.printing.specs.Printed.{number_then, space, newline, line_at}
use Rattle.printing.proofs.put_line.Goals as goal

pub returns : goal.returns
unfolding line_at
returns c = (
  put_then
      (put_then
      (put_then c.put_number-fate.ensures.0
      (put_as (ap (λ (n : ℕ). number_then n space) (c.from.ensures ∙ c.byte.ensures)) c.put_number-first.ensures.0))
      (put_as (ap (λ (n : ℕ). number_then n space) c.two.ensures.0) c.put_number-second.ensures.0))
      (put_as (ap (λ (n : ℕ). number_then n newline) c.two-2.ensures.0) c.put_number.ensures.0),
  omega arith,
)
