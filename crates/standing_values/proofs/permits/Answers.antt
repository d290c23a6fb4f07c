-- `permits` meets its contract: the row of the standing to which the step leads says whether that is broken
-- (`row_permits`).
use Rattle.std.proofs.Common.{ap, ◌∙◌, ◌&&◌, ◌<◌, not, ℕ, get_or}
use Rattle.std.proofs.Math.Path.{subst⁻¹}
use Rattle.template.specs.Code.Columns.{no_row}
use Rattle.values.specs.Code.Activations.{row_permits}
use Rattle.standing_values.proofs.permits.Goals as goal

pub bounds-rows-next : goal.bounds-rows-next
bounds-rows-next c =
    subst⁻¹ (λ (n : ℕ). n < 16) c.next.ensures (c.requires.0 c.args.standing c.args.kind c.requires.1)

pub returns : goal.returns
returns c t other e d =
    ap (λ (p : ℕ). c.args.declared && not (get_or c.args.rows.now p no_row).broken) c.next.ensures
    ∙ row_permits _ t e _ _ other _ c.args.kind _ c.requires.1 d
