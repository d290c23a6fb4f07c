-- A list of entries: filled, tested beside the rules, and what a turn of a loop that moves its entries makes of it.
use mathlib.Core.List.{List, [], ◌∷◌, ◌++◌}
use Rattle.std.specs.Prelude.{◌≡◌, Bool, true, ◌&&◌, ℕ, zero, suc, ◌+◌, ◌≤◌, ◌<◌, length, get_or, set, take, drop, replicate}
use Rattle.std.specs.List.{zip, list_all}
use Rattle.std.proofs.Math.Path.{refl, sym, ap}
use Rattle.std.proofs.Common.{ap₂, ◌∙◌, subst, add-one, le_of_suc-le-suc, not-suc-le-zero}
use Rattle.std.proofs.lemmas.List.{length-take-le}
use Rattle.std.proofs.Math.Dec.{T}
use Rattle.lists.specs.Elements.{listed, listed_over}
use Rattle.lists.specs.Exhaustive.{below}
use Rattle.lists.specs.Laws.Elements.{at_default, written_none, length_written, written_next, written_more}
use Rattle.lists.specs.Laws.Decides.{passes}
use Rattle.lists.specs.Laws.Exhaustive.{below_at, below_more}
use Rattle.rule.specs.declared.Rule.{Rule}
use Rattle.rule.specs.Behaviour.{no_rule}
use Rattle.watch_list.specs.declared.Watch.{Watch}
use Rattle.watch_list.specs.Entry.{begun_entry, moved_entry, known_entry}
use Rattle.watch_list.specs.Watching.{watch_at, placed_rule, all_known, begun_first, moved_first}
use Rattle.watch_list.proofs.Laws.Entry.{known_low}

-- the first entries written over, one more
written_further : (f : ℕ → Watch) (list : List Watch) (i : ℕ) → i < length list
    → set (listed_over i f list) i (f i) ≡ listed_over (i + 1) f list
written_further f list i h = written_more f list i h begun_entry ∙ ap (λ (k : ℕ). listed_over k f list) (sym (add-one i))

module _ (list : List Watch) where
  pub begun_none : begun_first 0 list ≡ list
  unfolding begun_first
  begun_none = written_none _ list

  pub length_begun : (i : ℕ) → i ≤ length list → length (begun_first i list) ≡ length list
  unfolding begun_first
  length_begun = length_written _ list

  pub begun_further : (i : ℕ) → i < length list → set (begun_first i list) i begun_entry ≡ begun_first (i + 1) list
  unfolding begun_first
  begun_further = written_further (λ k. begun_entry) list

-- the first entries filled
filled : (n : ℕ) → replicate n begun_entry ≡ listed n (λ k. begun_entry)
filled zero = refl
filled (suc n) = ap (λ (l : List Watch). begun_entry ∷ l) (filled n)

pub begun_filled : (list : List Watch) (n : ℕ) (first : List Watch) → n ≤ length list
    → first ≡ replicate (length (take n list)) begun_entry → first ++ drop n list ≡ begun_first n list
unfolding begun_first listed_over
begun_filled list n first h e =
    ap (λ (l : List Watch). l ++ drop n list)
    (e ∙ ap (λ (k : ℕ). replicate k begun_entry) (length-take-le n list h) ∙ filled n)

-- a test of rules and entries together, at each place
together : (f : Rule → Watch → Bool) (rules : List Rule) (list : List Watch) → length rules ≤ length list
    → list_all (λ (p : Rule × Watch). f p.0 p.1) (zip rules list)
    ≡ below (length rules) (λ k. f (placed_rule rules k) (watch_at list k))
together f [] list h = refl
together f (r ∷ rules) [] h = absurd (not-suc-le-zero h)
together f (r ∷ rules) (e ∷ list) h = ap (λ (b : Bool). f r e && b) (together f rules list (le_of_suc-le-suc h))

module _ (rules : List Rule) (list : List Watch) where
  pub known_together : length rules ≤ length list
      → list_all (λ (p : Rule × Watch). known_entry p.0 p.1) (zip rules list) ≡ all_known rules (length rules) list
  unfolding all_known
  known_together = together known_entry rules list

  pub known_none : all_known rules 0 list ≡ true
  unfolding all_known
  known_none = refl

  pub known_further : (i : ℕ)
      → (all_known rules i list && known_entry (placed_rule rules i) (watch_at list i)) ≡ all_known rules (i + 1) list
  unfolding all_known
  known_further i = sym (below_more i (λ k. known_entry (placed_rule rules k) (watch_at list k)))

  known_at : (n i : ℕ) → all_known rules n list ≡ true → i < n → known_entry (placed_rule rules i) (watch_at list i) ≡ true
  unfolding all_known
  known_at n i h l =
      passes _ (below_at n (λ k. known_entry (placed_rule rules k) (watch_at list k)) (subst T (sym h) tt) i l)

  module _ (steps z : ℕ) where
    abbrev f : ℕ → Watch
    f k = moved_entry (placed_rule rules k) steps z (watch_at list k)

    pub moved_none : moved_first rules steps 0 z list ≡ list
    unfolding moved_first
    moved_none = written_none f list

    pub length_moved : (i : ℕ) → i ≤ length list → length (moved_first rules steps i z list) ≡ length list
    unfolding moved_first
    length_moved = length_written f list

    -- the next entry is as it was
    moved_next : (i : ℕ) → i < length list → watch_at (moved_first rules steps i z list) i ≡ watch_at list i
    unfolding moved_first
    moved_next i h = written_next f list i h begun_entry

    -- its standing is one of the four rows
    pub moved_low : (n i : ℕ) → all_known rules n list ≡ true → i < n → i < length list
        → (watch_at (moved_first rules steps i z list) i).standing < 16
    moved_low n i h l q =
        subst (λ (e : Watch). e.standing < 16) (sym (moved_next i q))
        (known_low (placed_rule rules i) (watch_at list i) (known_at n i h l))

    -- and is moved, by the rule at its place
    pub moved_further_placed : (i : ℕ) (e : Watch) → i < length list
        → e ≡ moved_entry (placed_rule rules i) steps z (watch_at (moved_first rules steps i z list) i)
        → set (moved_first rules steps i z list) i e ≡ moved_first rules steps (i + 1) z list
    unfolding moved_first
    moved_further_placed i e h q =
        ap (set (listed_over i f list) i) (q ∙ ap (moved_entry (placed_rule rules i) steps z) (moved_next i h))
        ∙ written_further f list i h

    -- and is moved
    pub moved_further : (l : List Watch) (i : ℕ) (d : Rule) (e : Watch) → l ≡ moved_first rules steps i z list
        → i < length rules → i < length list → e ≡ moved_entry (get_or rules i d) steps z (watch_at l i)
        → set l i e ≡ moved_first rules steps (i + 1) z list
    unfolding moved_first
    moved_further l i d e so_far low h q =
        ap₂ (λ (m : List Watch) (w : Watch). set m i w) so_far
        (q
        ∙ ap₂ (λ (r : Rule) (w : Watch). moved_entry r steps z w) (at_default rules i d no_rule low)
        (ap (λ (m : List Watch). watch_at m i) so_far ∙ moved_next i h))
        ∙ written_further f list i h
