-- A rule's progress in a run gives its state over continuations, and the state after one step more follows from that
-- before it. A run has one state alone.
use Rattle.std.specs.Prelude.{◌≡◌, refl, Bool, true, false, ℕ, ◌≤◌, ◌<◌, length}
use Rattle.std.proofs.Math.Path.{sym, ap}
use Rattle.std.proofs.Common.{◌∙◌, subst, arith}
use mathlib.Core.List.{List, [], ◌∷◌, ◌++◌, foldl-append}
use Rattle.std.proofs.Math.Bool.{cond}
use Rattle.lists.specs.Laws.Elements.{fold_keeps}
use Rattle.lists.specs.Decides.{Decides}
use Rattle.template.specs.Table.{standings}
use Rattle.template.proofs.Laws.Moves.{next_low, first_standing}
use Rattle.template.specs.Sequence.{is}
use Rattle.template.specs.Standing.{kind_of, standing}
use Rattle.template.specs.Meaning.{Meaning}
use Rattle.template.proofs.Laws.Standing.{standing_append}
use Rattle.rule.specs.declared.Rule.{Rule}
use Rattle.rule.specs.Behaviour.{rule_goes}
use Rattle.rule.specs.Good.{GoodRule}
use Rattle.values.specs.declared.Value.{Value}
use Rattle.values.specs.Value.{HasValue, value_of}
use Rattle.values.specs.Activation.{changes_activation}
use Rattle.values.specs.Limits.{most_relevant}
use Rattle.values.specs.Progress.{Progress, has_other, held_relevant, counted, begun, advanced_by, progress_after}
use Rattle.values.proofs.Laws.Value.{value_holds}
use Rattle.values.proofs.Laws.OneValue.{value_only}
use Rattle.values.proofs.Laws.Activation.{decides_differs}
use Rattle.values.specs.Run.{Relevant, StateOf}
use Rattle.values.specs.Laws.Places.{no_places, relevant_number_only, places_more}
use Rattle.values.proofs.Laws.Own.{rule_among}

-- a count of relevant steps is exact as far as 32 bits hold one
pub held_relevant_is : (n : ℕ) → n ≤ most_relevant → held_relevant n ≡ n
held_relevant_is n h = omega arith

-- one more, held
counted_held : (n k : ℕ) (b : Bool) (l : List ℕ) → k ≡ held_relevant (length l) → counted k b
    ≡ held_relevant (length (cond b (n ∷ l) l))
unfolding counted
counted_held n k true l e = omega arith
counted_held n k false l e = omega arith

-- the standing, the value and the count after a step, from the standing and the count before it
pub progress_more : (r : Rule) (other : Bool) (run : List ℕ) (z : ℕ)
    → progress_after r other (run ++ (z ∷ [])) ≡ advanced_by r other (progress_after r other run) z
unfolding progress_after
progress_more r other run z = foldl-append (advanced_by r other) begun run (z ∷ [])

-- how far a rule has come is a standing of its template
pub progress_known : (r : Rule) (other : Bool) (run : List ℕ)
    → (progress_after r other run).standing < standings r.template
unfolding progress_after advanced_by rule_goes
progress_known r other =
    fold_keeps (λ run p. p.standing < standings r.template) (advanced_by r other) begun
    (first_standing r.template) more
  where
    more : (run : List ℕ) (p : Progress) (z : ℕ) → p.standing < standings r.template
        → (advanced_by r other p z).standing < standings r.template
    more run p z h = next_low r.template p.standing (kind_of r.template (is r.x) (is r.y) z)

-- a run has one value and one count
pub state_only : (steps : ℕ) (P : List ℕ → Type 0) (run : List ℕ) (v w : Value) (n m : ℕ)
    → StateOf steps P run v n → StateOf steps P run w m → (v ≡ w) × (n ≡ m)
state_only steps P run v w n m h k = (
  value_only steps P run v w h.has_value k.has_value,
  h.count ∙ ap held_relevant (relevant_number_only steps P run h.places k.places h.relevant_places
      k.relevant_places)
      ∙ sym k.count,
)

-- of a rule of a file with so many steps
module _ (steps : ℕ) (r : Rule) (good : GoodRule steps r) where
  abbrev Satisfies : List ℕ → Type 0
  Satisfies = Meaning r.template (is r.x) (is r.y)

  abbrev standing_of : List ℕ → ℕ
  standing_of = standing r.template (is r.x) (is r.y) 0

  abbrev value_in : ℕ → Value
  value_in = value_of r.template (has_other r steps)

  -- the progress is that of the run: its standing, and the state that is read from it
  pub record Tracks (run : List ℕ) (p : Progress) : Type 0 where
    pub stands : p.standing ≡ standing_of run
    pub state : StateOf steps Satisfies run (value_in p.standing) p.relevant

  -- the value in the standing after a run is the value of the run
  pub value_of_lem : (run : List ℕ) (q : ℕ) → q ≡ standing_of run → HasValue steps Satisfies run (value_in q)
  value_of_lem run q e =
      subst (λ (k : ℕ). HasValue steps Satisfies run (value_in k)) (sym e)
      (value_holds steps r.template (is r.x) (is r.y) (has_other r steps) (rule_among steps r good) run)

  tracks_begun : Tracks [] begun
  tracks_begun =
      record {
        stands = refl;
        state =
            record {
              has_value = value_of_lem [] 0 refl;
              places = [];
              relevant_places = no_places steps Satisfies;
              count = refl;
            };
      }

  -- whether a step changes the activation state that is read decides whether it is relevant
  decides_relevant : (run : List ℕ) (z q p : ℕ) → q ≡ standing_of run → p ≡ standing_of (run ++ (z ∷ []))
      → Decides (changes_activation r.template (has_other r steps) q p) (Relevant steps Satisfies run z)
  decides_relevant run z q p e f =
      rw (e, f)
      (decides_differs steps r.template (is r.x) (is r.y) (has_other r steps) (rule_among steps r good) run
      (run ++ (z ∷ [])))

  -- the state after one step more
  pub tracks_more : (run : List ℕ) (p : Progress) (z : ℕ) → Tracks run p
      → Tracks (run ++ (z ∷ [])) (advanced_by r (has_other r steps) p z)
  unfolding advanced_by rule_goes
  tracks_more run p z h =
      let after = rule_goes r p.standing z in
      let changed = changes_activation r.template (has_other r steps) p.standing after in
      let e : after ≡ standing_of (run ++ (z ∷ [])) =
      ap (λ (q : ℕ). rule_goes r q z) h.stands
      ∙ sym (standing_append r.template (is r.x) (is r.y) run (z ∷ []) 0) in
      let l = h.state.places in
      record {
        stands = e;
        state =
            record {
              has_value = value_of_lem (run ++ (z ∷ [])) after e;
              places = cond changed (length run ∷ l) l;
              relevant_places =
                  places_more steps Satisfies run z l h.state.relevant_places changed
                  (decides_relevant run z p.standing after h.stands e);
              count = counted_held (length run) p.relevant changed l h.state.count;
            };
      }

  -- every run
  pub tracks : (run : List ℕ) → Tracks run (progress_after r (has_other r steps) run)
  unfolding progress_after
  tracks = fold_keeps Tracks (advanced_by r (has_other r steps)) begun tracks_begun tracks_more
