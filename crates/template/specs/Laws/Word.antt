-- A sequence as the kinds of its steps, and tests on such words that mirror `Each`, `Some`, `Occurs`, `First` and
-- `Last`.
use Rattle.std.specs.Prelude.{Bool, true, false, not, ◌&&◌, ◌||◌, List, [], ◌∷◌, ◌≡◌, refl}
use Rattle.std.proofs.Math.Bool.{or-true, and-true, and-false, and_assoc, and_self_left, or_self_left}
use Rattle.template.specs.declared.Kind.{Kind}
use Rattle.template.specs.declared.Kind.TheVariants.{X, Y, Other}

abbrev pub is_x : Kind → Bool
is_x X = true
is_x Y = false
is_x Other = false

abbrev pub is_y : Kind → Bool
is_y X = false
is_y Y = true
is_y Other = false

abbrev pub is_empty : List Kind → Bool
is_empty [] = true
is_empty (k ∷ w) = false

abbrev pub some : (Kind → Bool) → List Kind → (List Kind → List Kind → Bool) → Bool
some c [] p = false
some c (k ∷ w) p = (c k && p [] w) || some c w (λ u v. p (k ∷ u) v)

abbrev pub each : (Kind → Bool) → List Kind → (List Kind → List Kind → Bool) → Bool
each c [] p = true
each c (k ∷ w) p = (not (c k) || p [] w) && each c w (λ u v. p (k ∷ u) v)

abbrev pub occurs : (Kind → Bool) → List Kind → Bool
occurs c w = some c w (λ u v. true)

abbrev pub first : (Kind → Bool) → List Kind → Bool
first c [] = false
first c (k ∷ w) = c k

abbrev pub last : (Kind → Bool) → List Kind → Bool
last c [] = false
last c (k ∷ w) = (c k && is_empty w) || last c w

pub some_none : (c : Kind → Bool) (w : List Kind) → some c w (λ u v. false) ≡ false
some_none c [] = refl
some_none c (k ∷ w) = rw (and-false (c k)) (some_none c w)

pub each_all : (c : Kind → Bool) (w : List Kind) → each c w (λ u v. true) ≡ true
each_all c [] = refl
each_all c (k ∷ w) = rw (or-true (not (c k))) (each_all c w)

pub and_implied : (a : Bool) → (a && (not a || true)) ≡ a
and_implied true = refl
and_implied false = refl

pub implied_and : (a : Bool) → ((not a || true) && a) ≡ a
implied_and true = refl
implied_and false = refl

-- what is left of a test after a step
pub ruleset after = (or-true, and-true, and-false, and_assoc, and_self_left, or_self_left, each_all)
