-- Laws of the numbers: each template has its own (`same_template`), a number and a count lead to no other, and a test
-- that antt computes over the list of all holds of each.
use Rattle.std.specs.Prelude.{◌≡◌, refl, Bool, true, false, not, cond, ◌&&◌, ◌||◌, ℕ, suc, ◌-◌, ◌<◌, ◌≤◌, T, eqb, leb}
use Rattle.std.specs.Prelude.{ltb, get_or, Some, None}
use Rattle.std.proofs.Common.{sym, ap, ◌∙◌, subst, arith, T_not, eqb→eq, leb→le, ltb→lt, lit<}
use Rattle.std.proofs.Math.Decide.{ℕ_discrete}
use Rattle.lists.specs.Exhaustive.{every}
use Rattle.lists.specs.Laws.Exhaustive.{every_at, below_at, and_left, and_right}
use Rattle.lists.specs.Laws.Decides.{decides_test, decides_and, decides_implies, decides_equal}
use Rattle.template.specs.declared.Template.{Template}
use Rattle.template.specs.declared.Template.TheVariants.{Participation, AtMostOne, Init, End, RespondedExistence}
use Rattle.template.specs.declared.Template.TheVariants.{Response, AlternateResponse, ChainResponse, Precedence}
use Rattle.template.specs.declared.Template.TheVariants.{AlternatePrecedence, ChainPrecedence, CoExistence}
use Rattle.template.specs.declared.Template.TheVariants.{Succession, AlternateSuccession, ChainSuccession}
use Rattle.template.specs.declared.Template.TheVariants.{NotChainSuccession, NotSuccession, NotCoExistence}
use Rattle.template.specs.declared.Template.TheVariants.{AtLeast, AtMost, Exactly, Choice, ExclusiveChoice}
use Rattle.template.specs.Number.{number, count, counting_number, counting, all, of_number, tabled, table_place}

-- each template stands in the list at its number less one
pub listed : (t : Template) (c : ℕ) → (T (counting t) → count t ≡ c)
    → (number t - 1 < 23) × (get_or (all c) (number t - 1) Participation ≡ t)
listed Participation c h = (lit< tt, refl)
listed AtMostOne c h = (lit< tt, refl)
listed Init c h = (lit< tt, refl)
listed End c h = (lit< tt, refl)
listed RespondedExistence c h = (lit< tt, refl)
listed Response c h = (lit< tt, refl)
listed AlternateResponse c h = (lit< tt, refl)
listed ChainResponse c h = (lit< tt, refl)
listed Precedence c h = (lit< tt, refl)
listed AlternatePrecedence c h = (lit< tt, refl)
listed ChainPrecedence c h = (lit< tt, refl)
listed CoExistence c h = (lit< tt, refl)
listed Succession c h = (lit< tt, refl)
listed AlternateSuccession c h = (lit< tt, refl)
listed ChainSuccession c h = (lit< tt, refl)
listed NotChainSuccession c h = (lit< tt, refl)
listed NotSuccession c h = (lit< tt, refl)
listed NotCoExistence c h = (lit< tt, refl)
listed (AtLeast n) c h = (lit< tt, ap AtLeast (sym (h tt)))
listed (AtMost n) c h = (lit< tt, ap AtMost (sym (h tt)))
listed (Exactly n) c h = (lit< tt, ap Exactly (sym (h tt)))
listed Choice c h = (lit< tt, refl)
listed ExclusiveChoice c h = (lit< tt, refl)

-- two with the same number and, where they count, the same count are equal
pub same_template : (t u : Template) → number t ≡ number u → (T (counting t) → count t ≡ count u) → t ≡ u
same_template t u e h =
    sym (listed t (count u) h).1
    ∙ ap (λ (n : ℕ). get_or (all (count u)) (n - 1) Participation) e
    ∙ (listed u (count u) (λ i. refl)).1

-- a test that antt computes over all templates, whatever the count, holds of each
pub every_template : (f : Template → Bool) → ((c : ℕ) → T (every f (all c))) → (t : Template) → T (f t)
every_template f e t =
    let l = listed t (count t) (λ h. refl) in
    subst (λ (r : Template). T (f r)) l.1
    (every_at f (all (count t)) Participation (e (count t)) (number t - 1) l.0)

pub number_low : (t : Template) → 1 ≤ number t
number_low t = leb→le 1 (number t) (every_template (λ t. leb 1 (number t)) (λ c. tt) t)

-- the others hold no count
pub count_none : (t : Template) → T (not (counting t)) → count t ≡ 0
count_none t =
    (decides_implies (decides_test (not (counting t))) (decides_equal (count t) 0)).sound
    (every_template (λ t. not (not (counting t)) || eqb (count t) 0) (λ c. tt) t)

-- a template's number and count lead back to it
pub of_number_lem : (t : Template) (c : ℕ) → (T (counting t) → count t ≡ c) → of_number (number t) c ≡ Some t
of_number_lem t c h =
    go (leb 1 (number t) && leb (number t) 23) (every_template (λ t. leb 1 (number t) && leb (number t) 23) (λ c. tt) t)
  where
    go : (b : Bool) → T b → cond b (Some (get_or (all c) (number t - 1) Participation)) None ≡ Some t
    go true i = ap Some (listed t c h).1
    go false i = absurd i

numbered : (c k : ℕ) → k < 23 → number (get_or (all c) k Participation) ≡ suc k
numbered c k h =
    eqb→eq (number (get_or (all c) k Participation)) (suc k)
    (below_at 23 (λ k. eqb (number (get_or (all c) k Participation)) (suc k)) tt k h)

counted : (c k : ℕ) → T (counting_number (suc k)) → count (get_or (all c) k Participation) ≡ c
counted c k h = go (ℕ_discrete k 18) (ℕ_discrete k 19)
  where
    low : 19 ≤ suc k
    low = leb→le 19 (suc k) (and_left (leb 19 (suc k)) (leb (suc k) 21) h)

    high : suc k ≤ 21
    high = leb→le (suc k) 21 (and_right (leb 19 (suc k)) (leb (suc k) 21) h)

    at : (n : ℕ) → k ≡ n → count (get_or (all c) n Participation) ≡ c → count (get_or (all c) k Participation) ≡ c
    at n e f = ap (λ (n : ℕ). count (get_or (all c) n Participation)) e ∙ f

    go : Dec (k ≡ 18) → Dec (k ≡ 19) → count (get_or (all c) k Participation) ≡ c
    go (yes e) d = at 18 e refl
    go (no n) (yes e) = at 19 e refl
    go (no n) (no m) = at 20 (omega (arith, low, high)) refl

-- and a number leads to no template but the one that has it, with the count given
pub found_number : (n c : ℕ) (t : Template) → of_number n c ≡ Some t → (number t ≡ n) × (T (counting t) → count t ≡ c)
found_number n c t = go (leb 1 n && leb n 23) (λ h. h)
  where
    go : (b : Bool) → (T b → T (leb 1 n && leb n 23))
        → cond b (Some (get_or (all c) (n - 1) Participation)) None ≡ Some t
        → (number t ≡ n) × (T (counting t) → count t ≡ c)
    go true h e =
        let low : 1 ≤ n = leb→le 1 n (and_left (leb 1 n) (leb n 23) (h tt)) in
        let high : n ≤ 23 = leb→le n 23 (and_right (leb 1 n) (leb n 23) (h tt)) in
        let same : get_or (all c) (n - 1) Participation ≡ t = cc in
        let is : number (get_or (all c) (n - 1) Participation) ≡ suc (n - 1) = numbered c (n - 1) (omega arith) in (
          omega (arith, is, ap number same),
          λ i.
              ap count (sym same)
              ∙ counted c (n - 1) (subst (λ (k : ℕ). T (counting_number k)) (ap number (sym same) ∙ is) i),
        )
    go false h e = let z : ◌≡◌ {A = ℕ} 0 1 = cc in absurd (omega arith)

-- ---- the templates that do not count

placed : Template → Bool
placed t =
    not (not (counting t))
    || (ltb (table_place t) 20 && eqb (number (get_or tabled (table_place t) Participation)) (number t))

pub tabled_at : (t : Template) → T (not (counting t))
    → (table_place t < 20) × (get_or tabled (table_place t) Participation ≡ t)
unfolding placed
tabled_at t h = (
  p.0,
  sym (listed s 0 (λ i. absurd (T_not (counting t) h (subst (λ (n : ℕ). T (counting_number n)) p.1 i)))).1
      ∙ ap (λ (n : ℕ). get_or (all 0) (n - 1) Participation) p.1
      ∙ (listed t 0 (λ i. absurd (T_not (counting t) h i))).1,
)
  where
    s : Template
    s = get_or tabled (table_place t) Participation

    p : (table_place t < 20) × (number (get_or tabled (table_place t) Participation) ≡ number t)
    p =
        let b = every_template placed (λ c. tt) t in
        let r = get_or tabled (table_place t) Participation in
        let d = (decides_implies (decides_test (not (counting t)))
        (decides_and (decides_test (ltb (table_place t) 20)) (decides_equal (number r) (number t)))).sound b h in
        (ltb→lt (table_place t) 20 d.0, d.1)

-- a test that antt computes over them holds of each
pub every_tabled : (f : Template → Bool) → T (every f tabled) → (t : Template) → T (not (counting t)) → T (f t)
every_tabled f e t h =
    let l = tabled_at t h in
    subst (λ (r : Template). T (f r)) l.1 (every_at f tabled Participation e (table_place t) l.0)
