-- Lists of which functions make equal lists: what holds of the members of the one holds of those of the other, and the
-- members stand two by two (`paired`).
use mathlib.Core.List.{List, [], ◌∷◌, map, map-map, head-eq_of_cons-eq, tail-eq_of_cons-eq}
use Rattle.std.specs.Prelude.{◌≡◌, refl, ℕ, zero, suc, length}
use Rattle.std.proofs.Common.{sym, ap, ◌∙◌, subst, arith}
use Rattle.lists.specs.Elements.{listed}
use Rattle.lists.specs.Members.{All}

module _ {A B : Type 0} where
  -- what holds of what a function makes of the members
  pub all_mapped : (P : B → Type 0) (f : A → B) (l : List A) → All (λ a. P (f a)) l → All P (map f l)
  all_mapped P f [] h = tt
  all_mapped P f (a ∷ l) h = (h.0, all_mapped P f l h.1)

  mapped_all : (P : B → Type 0) (f : A → B) (l : List A) → All P (map f l) → All (λ a. P (f a)) l
  mapped_all P f [] h = tt
  mapped_all P f (a ∷ l) h = (h.0, mapped_all P f l h.1)

  pub map_listed : (f : A → B) (n : ℕ) (g : ℕ → A) → map f (listed n g) ≡ listed n (λ k. f (g k))
  map_listed f zero g = refl
  map_listed f (suc n) g = ap (λ (l : List B). f (g zero) ∷ l) (map_listed f n (λ k. g (suc k)))

module _ {A B C : Type 0} (f : A → C) (g : B → C) where
  pub all_alike : (P : C → Type 0) (l : List A) (m : List B) → map f l ≡ map g m → All (λ a. P (f a)) l
      → All (λ b. P (g b)) m
  all_alike P l m e h = mapped_all P g m (subst (All P) e (all_mapped P f l h))

  pub map_alike : {D : Type 0} (h : C → D) (l : List A) (m : List B) → map f l ≡ map g m
      → map (λ a. h (f a)) l ≡ map (λ b. h (g b)) m
  map_alike h l m e = sym (map-map h f l) ∙ ap (map h) e ∙ map-map h g m

  -- the members of both, two by two
  pub record Paired (l : List A) (m : List B) (ps : List (A × B)) : Type 0 where
    pub firsts : map (λ p. p.0) ps ≡ l
    pub seconds : map (λ p. p.1) ps ≡ m
    pub alike : All (λ p. f p.0 ≡ g p.1) ps

  pub paired : (l : List A) (m : List B) → map f l ≡ map g m → (ps : List (A × B)) × Paired l m ps
  paired [] [] e = ([], record { firsts = refl; seconds = refl; alike = tt })
  paired [] (b ∷ m) e = let z : ◌≡◌ {A = ℕ} 0 (suc (length (map g m))) = ap length e in absurd (omega arith)
  paired (a ∷ l) [] e = let z : ◌≡◌ {A = ℕ} (suc (length (map f l))) 0 = ap length e in absurd (omega arith)
  paired (a ∷ l) (b ∷ m) e =
      let r = paired l m (tail-eq_of_cons-eq e) in (
        (a, b) ∷ r.0,
        record {
          firsts = ap (λ (t : List A). a ∷ t) r.1.firsts;
          seconds = ap (λ (t : List B). b ∷ t) r.1.seconds;
          alike = (head-eq_of_cons-eq e, r.1.alike);
        },
      )
