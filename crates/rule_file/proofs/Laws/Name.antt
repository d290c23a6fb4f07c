-- The name of a step, from the record that holds a reading; it is empty exactly where the call is refused.
use Rattle.std.specs.Prelude.{◌≡◌, Bool, true, false, cond, ◌↔◌, T, leb}
use Rattle.std.proofs.Math.Path.{refl, subst⁻¹, sym, ap}
use Rattle.std.proofs.Common.{◌∙◌, true≢false, arith, lit≤, leb-true, leb-false}
use mathlib.Core.List.{List, []}
use Prim.Native.Nat.{ℕ, zero, suc, ◌≤◌, ◌<◌}
use Rattle.std.proofs.Math.ListN.{length, get_or, get_or-eq_default}
use Rattle.std.proofs.lemmas.List.{length-map}
use Rattle.lists.specs.Laws.Elements.{map_at}
use Rattle.lists.specs.Laws.Padded.{padded_at}
use Rattle.lists.specs.Laws.Decides.{passes}
use Rattle.lists.specs.Laws.Members.{all_at}
use Rattle.refusals.specs.Refusal.{first_refusal}
use Rattle.fields.specs.Field.{fields}
use Rattle.rule_file.specs.declared.Place.{Place}
use Rattle.rule_file.specs.declared.RuleFile.{RuleFile}
use Rattle.rule_file.specs.Decode.{nothing, read_file}
use Rattle.rule_file.specs.Held.{no_place, held_file}
use Rattle.rule_file.specs.Code.Held.{name_in}
use Rattle.rule_file.proofs.Laws.Accepted.{file_placed, file_formed}
use Rattle.rule_file.specs.Name.{name_refusal, step_name}
use Rattle.rule_file.specs.Fault.{Decoded, good_name}
use Rattle.rule_file.specs.Laws.Faultless.{refused_nothing}

module _ (bs : List ℕ) where
  pub names_count : length (read_file bs).decoded.names ≡ length (read_file bs).decoded.places
  names_count = ap length (sym (file_placed bs)) ∙ length-map (read_file bs).decoded.places (name_in bs)

  module _ (s : RuleFile) (e : s ≡ held_file (read_file bs).decoded) where
    pub steps_held : s.steps ≡ length (read_file bs).decoded.names
    unfolding held_file
    steps_held = ap (λ (r : RuleFile). r.steps) e ∙ sym names_count

    pub steps_few : s.steps ≤ 24
    steps_few = omega (arith, steps_held, (file_formed bs).few_steps)

    pub name_beyond : (k : ℕ) → s.steps ≤ k → step_name bs k ≡ []
    unfolding step_name
    name_beyond k h = get_or-eq_default (read_file bs).decoded.names [] (omega (arith, steps_held))

    pub name_held : (k : ℕ) (d : Place) → k < s.steps → name_in bs (get_or s.names k d) ≡ step_name bs k
    unfolding step_name held_file
    name_held k d h =
        let places = (read_file bs).decoded.places in
        let low : k < length places = omega (arith, steps_held, names_count) in
        ap (λ (r : RuleFile). name_in bs (get_or r.names k d)) e
        ∙ ap (name_in bs) (padded_at 24 no_place places k d low)
        ∙ sym (map_at (name_in bs) places k d [] low)
        ∙ ap (λ (l : List (List ℕ)). get_or l k []) (file_placed bs)

-- an empty name is handed back exactly where the second call gives a number
module _ (bs : List ℕ) (k : ℕ) where
  abbrev names : List (List ℕ)
  names = (read_file bs).decoded.names

  of_accepted : (b : Bool) → leb (length names) k ≡ b → (get_or names k [] ≡ []) ↔ (1 ≤ cond b 15 0)
  of_accepted true h = (λ e. lit≤ tt, λ q. get_or-eq_default names [] (leb-true (length names) k h))
  of_accepted false h =
      let good = passes _ (all_at (λ n. T (good_name n)) names k [] (file_formed bs).good_names
      (leb-false (length names) k h)) in
      (λ e. absurd (true≢false (sym good ∙ ap good_name e)), λ q. absurd (omega arith))

  pub empty_exactly : (step_name bs k ≡ []) ↔ (1 ≤ name_refusal bs k)
  unfolding step_name name_refusal read_file
  empty_exactly = go (read_file bs).refusal refl
    where
      go : (n : ℕ) → (read_file bs).refusal ≡ n → (step_name bs k ≡ []) ↔ (1 ≤ name_refusal bs k)
      go zero e =
          subst⁻¹ (λ (n : ℕ). (get_or names k [] ≡ [])
          ↔ (1 ≤ first_refusal n (cond (leb (length names) k) 15 0))) e (of_accepted (leb (length names) k) refl)
      go (suc n) e = (
        λ q. subst⁻¹ (λ (m : ℕ). 1 ≤ first_refusal m (cond (leb (length names) k) 15 0)) e (omega arith),
        λ q. ap (λ (d : Decoded). get_or d.names k []) (refused_nothing nothing (fields bs) n e),
      )
