-- How the code holds the moves of a rule for a pass over a run (02, M-101, M-103): for each step two words, with a
-- place for each standing.
use Rattle.std.proofs.Math.Bool.{Bool, cond}
use Rattle.std.specs.Prelude.{not, ◌≡◌, List, eqb, get_or}
use Rattle.std.proofs.Common.{ap, ap₂, ◌∙◌, lit<}
use Rattle.std.proofs.Math.Path.{subst⁻¹}
use Prim.Native.Nat.{ℕ, ◌≤◌, ◌<◌}
use mir.Val.{bool_byte}
use Rattle.lists.specs.Elements.{listed}
use Rattle.lists.specs.Laws.Elements.{listed_get}
use Rattle.lists.specs.Laws.Decides.{either_way, byte_flag, flag_low}
use Rattle.places.specs.Places.{place, placed}
use Rattle.places.specs.Laws.Places.{placed_at}
use Rattle.template.specs.declared.Template.{Template}
use Rattle.template.specs.Limits.{most_standings}
use Rattle.template.specs.declared.Kind.{Kind}
use Rattle.template.specs.Table.{next}
use Rattle.template.specs.Sequence.{is}
use Rattle.template.specs.Standing.{kind_of}
use Rattle.template.proofs.Laws.Moves.{next_sixteen}
use Rattle.rule.specs.declared.Rule.{Rule}
use Rattle.rule.specs.Limits.{most_steps}
use Rattle.rule.specs.Behaviour.{rule_goes}
use Rattle.values.specs.Activation.{activation_of, changes_activation}
use Rattle.values.specs.Code.Activations.{activations_of}
use Rattle.values.specs.declared.RuleMoves.{RuleMoves}

-- in each standing the next one on a step of kind k
abbrev pub next_word : Template → Kind → ℕ
next_word t k = placed 4 (λ q. next t q k) most_standings

-- 1 where such a step changes the activation state
abbrev pub changes_word : Template → Bool → Kind → ℕ
changes_word t other k = placed 4 (λ q. cond (changes_activation t other q (next t q k)) 1 0) most_standings

-- the words of each step are those of its kind
unfoldable pub moves_of : Rule → Bool → RuleMoves
moves_of r other =
    let kind : ℕ → Kind = kind_of r.template (is r.x) (is r.y) in
    record {
      next = listed most_steps (λ z. next_word r.template (kind z));
      changes = listed most_steps (λ z. changes_word r.template other (kind z));
    }

-- ---- what stands there

next_placed : (t : Template) (k : Kind) (q : ℕ) → q < 16 → place 4 (next_word t k) q ≡ next t q k
next_placed t k q h = placed_at 4 (λ p. next t p k) 16 q (λ p l. next_sixteen t p k) h

-- in words that f gives for each kind and standing
word_at : (f : Kind → ℕ → ℕ) → ((k : Kind) (q : ℕ) → f k q < 16) → (kind : ℕ → Kind) (z q : ℕ) → z < 24 → q < 16
    → place 4 (get_or (listed 24 (λ w. placed 4 (f (kind w)) 16)) z 0) q ≡ f (kind z) q
word_at f low kind z q l h =
    ap (λ (n : ℕ). place 4 n q) (listed_get 24 (λ w. placed 4 (f (kind w)) 16) z 0 l)
    ∙ placed_at 4 (f (kind z)) 16 q (λ p b. low (kind z) p) h

-- where the activation states before and after differ
pub change_marked : (t : Template) (other : Bool) (k : Kind) (word : ℕ) (states : List ℕ) → word ≡ next_word t k
    → states ≡ activations_of t other → (q : ℕ) → q < 16
    → bool_byte (not (eqb (get_or states q 0) (get_or states (place 4 word q) 0)))
    ≡ cond (changes_activation t other q (next t q k)) 1 0
unfolding activations_of changes_activation
change_marked t other k word states e f q h =
    let number : ℕ → ℕ = activation_of t other in
    let at : (p : ℕ) → p < 16 → get_or states p 0 ≡ number p =
    λ p l. ap (λ (l : List ℕ). get_or l p 0) f ∙ listed_get 16 number p 0 l in
    let after = ap (λ (n : ℕ). place 4 n q) e ∙ next_placed t k q h in
    ap₂ (λ (a b : ℕ). bool_byte (not (eqb a b))) (at q h)
    (ap (λ (p : ℕ). get_or states p 0) after ∙ at (next t q k) (next_sixteen t q k))
    ∙ byte_flag (not (eqb (number q) (number (next t q k))))

module _ (r : Rule) (other : Bool) (z q : ℕ) (l : z < 24) (h : q < 16) where
  pub moves_next : place 4 (get_or (moves_of r other).next z 0) q ≡ rule_goes r q z
  unfolding moves_of rule_goes
  moves_next =
      let t = r.template in
      word_at (λ k p. next t p k) (λ k p. next_sixteen t p k) (kind_of t (is r.x) (is r.y)) z q l h

  pub moves_change : place 4 (get_or (moves_of r other).changes z 0) q
      ≡ cond (changes_activation r.template other q (rule_goes r q z)) 1 0
  unfolding moves_of rule_goes
  moves_change =
      let t = r.template in
      let changes : Kind → ℕ → Bool = λ k p. changes_activation t other p (next t p k) in
      word_at (λ k p. cond (changes k p) 1 0) (λ k p. either_way (λ v. v < 16) (changes k p) (lit< tt) (lit< tt))
      (kind_of t (is r.x) (is r.y)) z q l h

  pub change_low : (moves : RuleMoves) → moves ≡ moves_of r other → place 4 (get_or moves.changes z 0) q ≤ 1
  change_low moves e =
      subst⁻¹ (λ (n : ℕ). n ≤ 1) (ap (λ (m : RuleMoves). place 4 (get_or m.changes z 0) q) e ∙ moves_change)
      (flag_low (changes_activation r.template other q (rule_goes r q z)))
