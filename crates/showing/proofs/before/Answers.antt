-- `before` meets its contract: the place that is found ends the front part (`front_is`), and where there is none, all
-- stand before it (`take_all`).
use Rattle.std.proofs.Common.{◌≡◌, refl, ℕ, suc, ◌+◌, eqb, ltb, List, [], ◌∷◌, length, take, Bool, true, false, cond}
use Rattle.std.proofs.Common.{not, Some, None, sym, ap, ◌∙◌, take_all, ltb-false, arith}
use Rattle.std.specs.List.{position_or_len}
use Rattle.lists.specs.Parts.{before}
use Rattle.showing.proofs.before.Goals as goal

front_is : (n : ℕ) (l : List ℕ) → take (position_or_len (λ m. eqb m n) l) l ≡ before n l
unfolding before
front_is n [] = refl
front_is n (m ∷ l) = go (eqb m n) (front_is n l)
  where
    go : (b : Bool) → take (position_or_len (λ k. eqb k n) l) l ≡ before n l
        → take (cond (not b) (1 + position_or_len (λ k. eqb k n) l) 0) (m ∷ l) ≡ cond b [] (m ∷ before n l)
    go true e = refl
    go false e =
        let k = position_or_len (λ k. eqb k n) l in
        let more : 1 + k ≡ suc k = omega arith in
        ap (λ (i : ℕ). take i (m ∷ l)) more ∙ ap (λ (s : List ℕ). m ∷ s) e

place_is : (b : Bool) (k place : ℕ) → cond b (Some k) None ≡ Some place → k ≡ place
place_is true k place e = cc
place_is false k place e = cc

no_place : (b : Bool) (k : ℕ) → cond b (Some k) None ≡ None → b ≡ false
no_place true k e = cc
no_place false k e = refl

pub returns-in-Some : goal.returns-in-Some
returns-in-Some c =
    let l = c.args.order.now in
    let k = position_or_len (λ m. eqb m c.args.rule) l in
    ap (λ (i : ℕ). take i l) (sym (place_is (ltb k (length l)) k _ (sym c.place_of.ensures ∙ c.in-Some.is)))
    ∙ front_is c.args.rule l

pub returns-in-None : goal.returns-in-None
returns-in-None c =
    let l = c.args.order.now in
    let k = position_or_len (λ m. eqb m c.args.rule) l in
    sym (take_all k l (ltb-false k (length l) (no_place (ltb k (length l)) k (sym c.place_of.ensures ∙ c.in-None.is))))
    ∙ front_is c.args.rule l
