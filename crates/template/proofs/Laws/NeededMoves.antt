-- What each standing needs, as tests on the steps still to come, is kept by the moves of every template (`before_step`).
use Rattle.std.specs.Prelude.{Bool, not, List, [], ◌∷◌, map, ◌≡◌, refl, get_or}
use Rattle.std.proofs.Math.Bool.{and-true, and-false, and_assoc, or-false}
use Rattle.std.proofs.Common.{ap}
use Rattle.template.specs.declared.Kind.{Kind}
use Rattle.template.specs.declared.Kind.TheVariants.{X, Y, Other}
use Rattle.template.specs.Table.{kinds, table, digit}
use Rattle.template.specs.Laws.Word.{is_x, is_y, occurs, after, some_none}
use Rattle.template.specs.Laws.Word.{and_implied, implied_and}
use Rattle.template.specs.declared.Template.{Template}
use Rattle.template.specs.declared.Template.TheVariants.{Participation, AtMostOne, Init, End, RespondedExistence}
use Rattle.template.specs.declared.Template.TheVariants.{Response, AlternateResponse, ChainResponse, Precedence}
use Rattle.template.specs.declared.Template.TheVariants.{AlternatePrecedence, ChainPrecedence, CoExistence}
use Rattle.template.specs.declared.Template.TheVariants.{Succession, AlternateSuccession, ChainSuccession}
use Rattle.template.specs.declared.Template.TheVariants.{NotChainSuccession, NotSuccession, NotCoExistence}
use Rattle.template.specs.declared.Template.TheVariants.{AtLeast, AtMost, Exactly, Choice, ExclusiveChoice}
use Rattle.template.proofs.Laws.Needed.{needed, before, y_first, alternate_response, alternate_precedence_after_x}

-- the moves keep what is needed: for every template, standing and kind of step at once
pub moves_keep : (t : Template) (w : List Kind)
    → map (λ k. needed t (k ∷ w)) kinds ≡ map (λ k. before t k (needed t w)) kinds
unfolding table digit
moves_keep Participation w = refl
moves_keep AtMostOne w = refl
moves_keep Init w = refl
moves_keep End w = refl
moves_keep RespondedExistence w = simp after
moves_keep Response w = simp after
moves_keep AlternateResponse w = rw (some_none is_y w)
moves_keep ChainResponse w = refl
moves_keep Precedence w = simp after
moves_keep AlternatePrecedence w = simp after
moves_keep ChainPrecedence w = refl
moves_keep CoExistence w = rw (and_implied, implied_and)
moves_keep Succession w = simp after
moves_keep AlternateSuccession w =
    rw (
      some_none is_y w,
      and_assoc (y_first w) (alternate_response w) (alternate_precedence_after_x w),
      and-false
          (alternate_response w),
    )
moves_keep ChainSuccession w = simp after
moves_keep NotChainSuccession w = refl
moves_keep NotSuccession w = simp after
moves_keep NotCoExistence w = rw (and-true (occurs is_x w))
moves_keep (AtLeast n) w = refl
moves_keep (AtMost n) w = refl
moves_keep (Exactly n) w = refl
moves_keep Choice w = simp after
moves_keep ExclusiveChoice w = rw (and-false (occurs is_y w), or-false (not (occurs is_y w)), and-false (occurs is_x w))

pub before_step : (t : Template) (k : Kind) (w : List Kind) → needed t (k ∷ w) ≡ before t k (needed t w)
before_step t X w = ap (λ (l : List (List Bool)). get_or l 0 []) (moves_keep t w)
before_step t Y w = ap (λ (l : List (List Bool)). get_or l 1 []) (moves_keep t w)
before_step t Other w = ap (λ (l : List (List Bool)). get_or l 2 []) (moves_keep t w)
