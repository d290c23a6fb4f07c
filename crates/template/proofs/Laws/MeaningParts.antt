-- The parts of the meanings: a test on the kinds of the steps decides each of them, over any tests of x and y of which
-- the kind of a step tells.
use Rattle.std.specs.Prelude.{not, ℕ}
use mathlib.Core.List.{List, map}
use Rattle.lists.specs.Laws.Decides.{decides_not}
use Rattle.lists.specs.Decides.{Decides}
use Rattle.template.specs.declared.Kind.{Kind}
use Rattle.template.proofs.Laws.Needed.{y_first, x_last, response, alternate_response}
use Rattle.template.proofs.Laws.Needed.{chain_response, precedence, alternate_precedence, chain_precedence}
use Rattle.template.specs.Sequence.{Test}
use Rattle.template.specs.Laws.Word.{is_x, is_y, occurs, first, last}
use Rattle.template.specs.Laws.Decided.{TellsKind, decides_some, decides_each, decides_occurs, decides_first}
use Rattle.template.specs.Laws.Decided.{decides_last}
use Rattle.template.specs.Meaning.{IsResponse, IsAlternateResponse, IsChainResponse, IsPrecedence}
use Rattle.template.specs.Meaning.{IsAlternatePrecedence, IsChainPrecedence}

-- the parts of the meanings
module _ {kind : ℕ → Kind} {x y : Test} (tx : TellsKind kind is_x x) (ty : TellsKind kind is_y y) where
  pub decides_response : (s : List ℕ) → Decides (response (map kind s)) (IsResponse x y s)
  decides_response s = decides_each tx s (λ u v. occurs is_y v) (λ u v. decides_occurs ty v)

  pub decides_alternate_response : (s : List ℕ) → Decides (alternate_response (map kind s)) (IsAlternateResponse x y s)
  decides_alternate_response s =
      decides_each tx s (λ u v. y_first v)
      (λ u v. decides_some ty v (λ m n. not (occurs is_x m)) (λ m n. decides_not (decides_occurs tx m)))

  pub decides_chain_response : (s : List ℕ) → Decides (chain_response (map kind s)) (IsChainResponse x y s)
  decides_chain_response s = decides_each tx s (λ u v. first is_y v) (λ u v. decides_first ty v)

  pub decides_precedence : (s : List ℕ) → Decides (precedence (map kind s)) (IsPrecedence x y s)
  decides_precedence s = decides_each ty s (λ u v. occurs is_x u) (λ u v. decides_occurs tx u)

  pub decides_alternate_precedence : (s : List ℕ) → Decides (alternate_precedence (map kind s)) (IsAlternatePrecedence x y s)
  decides_alternate_precedence s =
      decides_each ty s (λ u v. x_last u)
      (λ u v. decides_some tx u (λ m n. not (occurs is_y n)) (λ m n. decides_not (decides_occurs ty n)))

  pub decides_chain_precedence : (s : List ℕ) → Decides (chain_precedence (map kind s)) (IsChainPrecedence x y s)
  decides_chain_precedence s = decides_each ty s (λ u v. last is_x u) (λ u v. decides_last tx u)
