-- The activation states in all standings, as the code keeps them, and what the rows of a template say of a step.
use Rattle.std.specs.Prelude.{Bool, not, ◌&&◌, List, ◌≡◌, ℕ, ◌<◌, get_or}
use Rattle.std.proofs.Common.{ap, ap₂, ◌∙◌}
use Rattle.lists.specs.Elements.{listed}
use Rattle.template.specs.declared.Template.{Template}
use Rattle.template.specs.declared.StandingRow.{StandingRow}
use Rattle.template.specs.Limits.{most_standings}
use Rattle.template.specs.declared.Kind.{Kind}
use Rattle.template.specs.Table.{next}
use Rattle.template.specs.Settled.{declared_kind}
use Rattle.template.proofs.Laws.Moves.{next_sixteen}
use Rattle.template.specs.Code.Columns.{next_of, rows_of}
use Rattle.template.proofs.Laws.Columns.{row_next, row_broken}
use Rattle.values.specs.Activation.{permitted_kind, activation_of}

-- one number a standing
unfoldable pub activations_of : Template → Bool → List ℕ
activations_of t other = listed most_standings (activation_of t other)

-- whether a step of a kind is permitted, by the row of the standing to which it leads
pub row_permits : (rows : List StandingRow) (t : Template) → rows ≡ rows_of t → (d e : StandingRow) (other : Bool)
    (q : ℕ) (k : Kind) (declared : Bool) → q < 16 → declared ≡ declared_kind t other k
    → (declared && not (get_or rows (next_of (get_or rows q d) k) e).broken) ≡ permitted_kind t other q k
unfolding permitted_kind
row_permits rows t r d e other q k declared h f =
    ap₂ (λ (a b : Bool). a && not b) f
    (ap (λ (p : ℕ). (get_or rows p e).broken) (row_next rows t r q d k h)
    ∙ row_broken rows t r (next t q k) e (next_sixteen t q k))
