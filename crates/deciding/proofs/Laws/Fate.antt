-- Fates: which are equal, which rules are kept, and which fates an outcome can give.
use Rattle.std.specs.Prelude.{true, false, not, ◌≡◌, refl, [], ◌∷◌, ℕ, ◌≤◌, T, leb, eqb, get_or}
use Rattle.std.proofs.Common.{true≢false, sym, ap, ◌∙◌, lit≤}
use Rattle.lists.specs.Laws.Decides.{either_way, decides_not, decides_equal}
use Rattle.deciding.specs.Fate.{fate_number, in_first_pass, is_kept, is_final, first_fate, second_fate}
use Rattle.deciding.specs.declared.Fate.{Fate}
use Rattle.deciding.specs.declared.Fate.TheVariants.{Kept, Conflicting, Implied, SetAside, Dropped, Untested}
use Rattle.deciding.specs.declared.Outcome.{Outcome}

-- fates with different numbers are not equal
pub other_fate : {A : Type 0} {f g : Fate} → f ≡ g → T (not (eqb (fate_number f) (fate_number g))) → A
other_fate {f = f} {g = g} e t = absurd ((decides_not (decides_equal (fate_number f) (fate_number g))).sound t
    (ap fate_number e))

-- a rule kept in the first pass has fate 0 there
pub kept_first_lem : (f : Fate) → is_kept f ≡ true → in_first_pass f ≡ Kept
kept_first_lem Kept h = refl
kept_first_lem Conflicting h = absurd (true≢false (sym h))
kept_first_lem Implied h = absurd (true≢false (sym h))
kept_first_lem SetAside h = absurd (true≢false (sym h))
kept_first_lem Dropped h = refl
kept_first_lem Untested h = refl

-- a finally kept rule was kept in the first pass, and has fate 0 unless it is untested
pub final_kept : (f : Fate) → is_final f ≡ true → is_kept f ≡ true
final_kept Kept h = refl
final_kept Conflicting h = h
final_kept Implied h = h
final_kept SetAside h = h
final_kept Dropped h = refl
final_kept Untested h = refl

pub final_tested : (f : Fate) → is_final f ≡ true → ¬ (f ≡ Untested) → f ≡ Kept
final_tested Kept h n = refl
final_tested Conflicting h n = absurd (true≢false (sym h))
final_tested Implied h n = absurd (true≢false (sym h))
final_tested SetAside h n = absurd (true≢false (sym h))
final_tested Dropped h n = absurd (true≢false (sym h))
final_tested Untested h n = absurd (n refl)

-- the others kept in the first pass are dropped
pub kept_dropped : (f : Fate) → is_kept f ≡ true → is_final f ≡ false → f ≡ Dropped
kept_dropped Kept h n = absurd (true≢false n)
kept_dropped Conflicting h n = absurd (true≢false (sym h))
kept_dropped Implied h n = absurd (true≢false (sym h))
kept_dropped SetAside h n = absurd (true≢false (sym h))
kept_dropped Dropped h n = refl
kept_dropped Untested h n = absurd (true≢false n)

-- kept or not is the same of a fate and of the one in the first pass
kept_in_first : (f : Fate) → is_kept (in_first_pass f) ≡ is_kept f
kept_in_first Kept = refl
kept_in_first Conflicting = refl
kept_in_first Implied = refl
kept_in_first SetAside = refl
kept_in_first Dropped = refl
kept_in_first Untested = refl

-- a rule not kept in the first pass has the fate that it has there
pub not_kept_first : (f : Fate) → is_kept f ≡ false → in_first_pass f ≡ f
not_kept_first Kept h = absurd (true≢false h)
not_kept_first Conflicting h = refl
not_kept_first Implied h = refl
not_kept_first SetAside h = refl
not_kept_first Dropped h = absurd (true≢false h)
not_kept_first Untested h = absurd (true≢false h)

pub same_kept : (f g : Fate) → in_first_pass f ≡ in_first_pass g → is_kept f ≡ is_kept g
same_kept f g e = sym (kept_in_first f) ∙ ap is_kept e ∙ kept_in_first g

-- the fates that an outcome can give
pub first_cases : (P : Fate → Type 0) → P Kept → P Conflicting → P Implied → P SetAside → (o : Outcome)
    → P (first_fate o)
unfolding first_fate
first_cases P k c i a o =
    either_way P (leb o.count 4096) (either_way P o.satisfying (either_way P o.violating k i) c) a

pub second_cases : (P : Fate → Type 0) → P Kept → P Dropped → P Untested → (o : Outcome) → P (second_fate o)
unfolding second_fate
second_cases P k d u o = either_way P (leb o.count 4096) (either_way P o.violating k d) u

-- ---- the fate of a rule by its bytes

pub fate_low : (f : Fate) → fate_number f ≤ 5
fate_low Kept = lit≤ tt
fate_low Conflicting = lit≤ tt
fate_low Implied = lit≤ tt
fate_low SetAside = lit≤ tt
fate_low Dropped = lit≤ tt
fate_low Untested = lit≤ tt

-- an inverse of `fate_number`, for the next law alone
pub fate_of : ℕ → Fate
fate_of n = get_or (Kept ∷ Conflicting ∷ Implied ∷ SetAside ∷ Dropped ∷ Untested ∷ []) n Kept

pub fate_back : (f : Fate) → fate_of (fate_number f) ≡ f
unfolding fate_of
fate_back Kept = refl
fate_back Conflicting = refl
fate_back Implied = refl
fate_back SetAside = refl
fate_back Dropped = refl
fate_back Untested = refl
