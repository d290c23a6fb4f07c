-- Standings that no declared step leaves (01, "Monitor"). Of the declared steps that are not the rule's own it only
-- counts whether there is one.
use Rattle.std.specs.Prelude.{Bool, true, not, ◌||◌, ℕ, eqb}
use Rattle.lists.specs.Exhaustive.{every}
use Rattle.template.specs.declared.Template.{Template}
use Rattle.template.specs.declared.Kind.{Kind}
use Rattle.template.specs.declared.Kind.TheVariants.{X, Y, Other}
use Rattle.template.specs.Table.{kinds, lacks_y, next}

-- the kinds of which a step is declared: x, y where the template has one, and any other if there is such a step
abbrev pub declared_kind : Template → Bool → Kind → Bool
declared_kind t other X = true
declared_kind t other Y = not (lacks_y t)
declared_kind t other Other = other

-- no declared step leaves the standing q
unfoldable pub settled : Template → Bool → ℕ → Bool
settled t other q = every (λ k. not (declared_kind t other k) || eqb (next t q k) q) kinds
