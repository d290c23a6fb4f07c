-- What the code puts together is what the definitions say: one step more, the passes over a run, the numbers written.
use Rattle.std.specs.Prelude.{Bool, ◌≡◌, ℕ, ◌+◌, ◌≤◌, ◌<◌, length}
use Rattle.std.proofs.Math.Bool.{cond}
use Rattle.std.proofs.Math.Path.{sym, ap, ap₂, subst⁻¹}
use Rattle.std.proofs.Common.{◌∙◌, add-one, arith, drop_of_length-le, drop-cons, lt-ltb, le-ltb}
use mathlib.Core.List.{List, foldl}
use Rattle.std.proofs.Math.Dec.{ltb}
use Rattle.std.proofs.Math.ListN.{get_or, drop}
use Rattle.lists.specs.Laws.Elements.{drop_none}
use Rattle.lists.specs.Laws.Exhaustive.{every_step, every_stop, every_end}
use Rattle.places.specs.Places.{place}
use Rattle.template.specs.Limits.{most_standings}
use Rattle.rule.specs.declared.Rule.{Rule}
use Rattle.rule.specs.Behaviour.{rule_goes}
use Rattle.rule.specs.Laws.Behaviour.{goes_low}
use Rattle.values.specs.Value.{value_of}
use Rattle.values.specs.Activation.{changes_activation}
use Rattle.values.specs.Code.Moves.{moves_of, moves_next, moves_change}
use Rattle.values.specs.Progress.{Progress, has_other, counted, held_relevant, begun, advanced_by, progress_after}
use Rattle.values.specs.Answer.{Refused, State, state_after, declared_run, followed}
use Rattle.values.specs.declared.RuleMoves.{RuleMoves}
use Rattle.values.specs.declared.Value.{Value}

-- the next standing, and the count by whether the activation state changes
pub advanced_is : (r : Rule) (other : Bool) (p : Progress) (z q k : ℕ) → q ≡ rule_goes r p.standing z
    → k ≡ counted p.relevant (changes_activation r.template other p.standing q)
    → record { standing = q; relevant = k } ≡ advanced_by r other p z
unfolding advanced_by
advanced_is r other p z q k e f =
    let changed : ℕ → Bool = changes_activation r.template other p.standing in
    λ i. record { standing = e i; relevant = (f ∙ ap (λ (n : ℕ). counted p.relevant (changed n)) e) i }

-- a pass holds the count at its end alone: so many steps were relevant so far
abbrev pub passed : ℕ → ℕ → Progress
passed q n = record { standing = q; relevant = held_relevant n }

-- one step more by the words of a rule's moves
passed_more : (r : Rule) (other : Bool) (q n z : ℕ) → q < 16 → z < 24
    → passed (place 4 (get_or (moves_of r other).next z 0) q) (n + place 4 (get_or (moves_of r other).changes z 0) q)
    ≡ advanced_by r other (passed q n) z
unfolding counted
passed_more r other q n z h l =
    let e = moves_next r other z q l h in
    let f = moves_change r other z q l h in
    advanced_is r other (passed q n) z _ _ e
    (ap (λ (k : ℕ). held_relevant (n + k)) f
    ∙ held_again n (cond (changes_activation r.template other q (rule_goes r q z)) 1 0)
    ∙ ap (λ (k : ℕ). counted (held_relevant n) (changes_activation r.template other q k)) (sym e))
  where
    held_again : (n k : ℕ) → held_relevant (n + k) ≡ held_relevant (held_relevant n + k)
    held_again n k = omega arith

-- ---- one pass over a run

-- the first i steps of the run are declared, and led to the progress p
pub record Following (r : Rule) (steps : ℕ) (run : List ℕ) (i : ℕ) (p : Progress) : Type 0 where
  pub within : i ≤ length run
  pub low : p.standing < most_standings
  pub declared : declared_run steps (drop i run) ≡ declared_run steps run
  pub rest : foldl (advanced_by r (has_other r steps)) p (drop i run) ≡ progress_after r (has_other r steps) run

module _ (r : Rule) (steps : ℕ) (run : List ℕ) where
  pub follow_begins : Following r steps run 0 (passed 0 0)
  unfolding progress_after
  follow_begins =
      record {
        within = omega arith;
        low = omega arith;
        declared = ap (declared_run steps) (drop_none run);
        rest = ap (foldl (advanced_by r (has_other r steps)) begun) (drop_none run);
      }

  module _ (i : ℕ) (p : Progress) (f : Following r steps run i p) where
    follow_step : (next : Progress) → i < length run → get_or run i 0 < steps
        → next ≡ advanced_by r (has_other r steps) p (get_or run i 0) → Following r steps run (i + 1) next
    unfolding advanced_by
    follow_step next h l n =
        let z = get_or run i 0 in
        record {
          within = omega arith;
          low = subst⁻¹ (λ (q : Progress). q.standing < 16) n (goes_low r p.standing z);
          declared = sym (every_step (λ z. ltb z steps) run i 0 h (lt-ltb z steps l)) ∙ f.declared;
          rest =
              ap₂ (foldl (advanced_by r (has_other r steps))) n (ap (λ (k : ℕ). drop k run) (add-one i))
              ∙ ap (foldl (advanced_by r (has_other r steps)) p) (sym (drop-cons run i 0 h))
              ∙ f.rest;
        }

    -- a step that is not declared
    pub follow_refused : i < length run → steps ≤ get_or run i 0 → Refused 15 ≡ followed r steps run
    unfolding followed
    follow_refused h l =
        let e = sym f.declared ∙ every_stop (λ z. ltb z steps) run i 0 h (le-ltb (get_or run i 0) steps l) in
        ap (λ (b : Bool). cond b (state_after r steps run) (Refused 15)) (sym e)

    -- the end of the run
    pub follow_ended : (other : Bool) (v : Value) (k : ℕ) → other ≡ has_other r steps → length run ≤ i
        → v ≡ value_of r.template other p.standing → k ≡ p.relevant → State v k ≡ followed r steps run
    unfolding followed state_after
    follow_ended other v k o h e d =
        let all = sym f.declared ∙ every_end (λ z. ltb z steps) run i h in
        let end : p ≡ progress_after r (has_other r steps) run =
        ap (foldl (advanced_by r (has_other r steps)) p) (sym (drop_of_length-le run h)) ∙ f.rest in
        ap₂ State (e ∙ ap (λ (b : Bool). value_of r.template b p.standing) o) d
        ∙ ap (λ (q : Progress). State (value_of r.template (has_other r steps) q.standing) q.relevant) end
        ∙ ap (λ (b : Bool). cond b (state_after r steps run) (Refused 15)) (sym all)

  -- by the words of the rule's moves, of no more than 24 steps
  pub follow_words : (i q n : ℕ) → Following r steps run i (passed q n) → (moves : RuleMoves)
      → moves ≡ moves_of r (has_other r steps) → steps ≤ 24 → i < length run → get_or run i 0 < steps
      → let z = get_or run i 0 in
      Following r steps run (i + 1)
      (passed (place 4 (get_or moves.next z 0) q) (n + place 4 (get_or moves.changes z 0) q))
  follow_words i q n f moves e few h l =
      let z = get_or run i 0 in
      follow_step i (passed q n) f _ h l
      (ap (λ (m : RuleMoves). passed (place 4 (get_or m.next z 0) q) (n + place 4 (get_or m.changes z 0) q)) e
      ∙ passed_more r (has_other r steps) q n z f.low (omega arith))
