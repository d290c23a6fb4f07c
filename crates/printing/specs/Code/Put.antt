-- Text that is put at a place of an area, and the place after it.
use Rattle.std.specs.Prelude.{◌≡◌, refl, List, [], ◌∷◌, ◌++◌, ℕ, ◌+◌, ◌≤◌, ◌<◌, length, take, set}
use Rattle.std.proofs.Common.{sym, ap, ◌∙◌, subst, append_assoc, append-nil, arith, add-one, length-append}
use Rattle.std.proofs.Common.{length-take-le, take-suc-set}
use Rattle.lists.specs.Laws.Elements.{take_none}
use Rattle.io.specs.Counts.{IsPrefixLen}

-- the area `next` has, up to `end`, what `area` has up to `at`, and then the text
pub record Put (area : List ℕ) (at : ℕ) (next : List ℕ) (end : ℕ) (text : List ℕ) : Type 0 where
  pub size : end ≡ at + length text
  pub front : take end next ≡ take at area ++ text

pub put_none : (area : List ℕ) (at : ℕ) → Put area at area at []
put_none area at = record { size = omega arith; front = sym (append-nil (take at area)) }

pub put_one : (area : List ℕ) (at b : ℕ) → at < length area → Put area at (set area at b) (at + 1) (b ∷ [])
put_one area at b h = record { size = refl; front = rw add-one (take-suc-set area at b h) }

-- the same text, said otherwise
pub put_as : {area next : List ℕ} {at end : ℕ} {s t : List ℕ} → s ≡ t → Put area at next end s → Put area at next end t
put_as {area} {next} {at} {end} e p = subst (Put area at next end) e p

-- the same place after it, said otherwise
pub put_at_lem : {area next : List ℕ} {at end last : ℕ} {text : List ℕ} → end ≡ last → Put area at next end text
    → Put area at next last text
put_at_lem {area} {next} {at} {text = text} e p = subst (λ (n : ℕ). Put area at next n text) e p

-- one text and then another
pub put_then : {area next last : List ℕ} {at mid end : ℕ} {s t : List ℕ}
    → Put area at next mid s → Put next mid last end t → Put area at last end (s ++ t)
put_then {area} {next} {last} {at} {mid} {end} {s} {t} p q =
    record {
      size = omega (arith, p.size, q.size, length-append s t);
      front = q.front ∙ ap (λ (l : List ℕ). l ++ t) p.front ∙ append_assoc (take at area) s t;
    }

-- from the start there is nothing else
pub put_whole : {area next : List ℕ} {end : ℕ} {text : List ℕ} → Put area 0 next end text → take end next ≡ text
put_whole {area} {next} {end} {text} p = p.front ∙ ap (λ (l : List ℕ). l ++ text) (take_none area)

-- a place within an area counts the bytes before it
pub counted : (n : ℕ) (area : List ℕ) → n ≤ length area → IsPrefixLen n area
counted n area h = (h, sym (length-take-le n area h))
