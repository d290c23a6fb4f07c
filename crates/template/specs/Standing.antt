-- The standing of a rule after a sequence (01, "Templates": moves; a rule begins in 0).
use Rattle.std.specs.Prelude.{Bool, not, cond, ◌&&◌, List, [], ◌∷◌, map, ℕ}
use Rattle.template.specs.declared.Template.{Template}
use Rattle.template.specs.declared.Kind.{Kind}
use Rattle.template.specs.declared.Kind.TheVariants.{X, Y, Other}
use Rattle.template.specs.Table.{lacks_y, next}
use Rattle.template.specs.Sequence.{Test}

-- the kind of a step, a column of 01's moves, by two questions, is it x and is it y: x, y or any other
abbrev pub kind_by : Bool → Bool → Kind
kind_by is_x is_y = cond is_x X (cond is_y Y Other)

-- the kind of a step z for a rule on x and y, with a template that lacks y or has one: where it lacks y no step is one,
-- whatever stands there (02, M-101)
abbrev pub kind_in : Bool → Test → Test → ℕ → Kind
kind_in lacking x y z = kind_by (x z) (not lacking && y z)

unfoldable pub kind_of : Template → Test → Test → ℕ → Kind
kind_of t x y z = kind_in (lacks_y t) x y z

-- the standing to which the moves lead from q along the kinds of steps
abbrev pub along : Template → ℕ → List Kind → ℕ
along t q [] = q
along t q (k ∷ w) = along t (next t q k) w

-- the standing to which the moves lead a rule from q by a sequence
abbrev pub standing : Template → Test → Test → ℕ → List ℕ → ℕ
standing t x y q s = along t q (map (kind_of t x y) s)
