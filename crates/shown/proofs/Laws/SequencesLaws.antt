-- What the code reads in the areas are the sequences of the rule's test: by the laws of what a search leaves, and of a
-- table's search.
use Rattle.std.specs.Prelude.{None, Bool, ◌≡◌, List, ◌++◌, ◌∷◌, ltb, length, get_or, take}
use Rattle.std.proofs.Math.Bool.{true, false, cond}
use Rattle.std.proofs.Math.Option.{Option, none, some}
use Rattle.std.proofs.Math.Path.{refl, ap}
use Rattle.std.proofs.Common.{sym, ap₂, ◌∙◌, subst, lt-ltb, le-ltb}
use Prim.Native.Nat.{ℕ, ◌≤◌, ◌<◌}
use native.Mathlib.Omega.{arith}
use Rattle.std.proofs.Math.ListN.{drop}
use Rattle.lists.specs.Elements.{listed}
use Rattle.lists.specs.Laws.Elements.{listed_get}
use Rattle.lists.specs.First.{first_index}
use Rattle.lists.specs.Laws.Decides.{decides_equal}
use Rattle.rule.specs.declared.Rule.{Rule}
use Rattle.rule.specs.Behaviour.{RuleNumber}
use Rattle.joint.specs.Joint.{unpacked}
use Rattle.joint.specs.declared.Joint.{Joint}
use Rattle.joint.specs.declared.Table.{Table}
use Rattle.joint.specs.Laws.Sets.{IsSet}
use Rattle.joint.specs.Code.Table.{table_of}
use Rattle.search.specs.Code.Areas.{Leaves, steps_in}
use Rattle.search.specs.Search.{Search, Entry, standings_of, searched, found_by}
use Rattle.search.proofs.Laws.Sound.{TellsApart}
use Rattle.search.proofs.Laws.Growth.{length_standings}
use Rattle.search.proofs.Laws.Left.{left_standings, left_sequence}
use Rattle.search.specs.Code.JointSearch.{fitting_by}
use Rattle.deciding.specs.Code.Outcome.{among_first, place_among, candidate_search}
use Rattle.deciding.proofs.Laws.Tested.{place_below, place_few, among_first_is, table_searched, fitting_same}
use Rattle.deciding.specs.Outcome.{among_few, test_search, test_found, test_fits}
use Rattle.deciding.specs.Code.Kept.{Others}
use Rattle.shown.specs.Answer.{Said, present}
use Rattle.shown.specs.Code.Sequences.{picked_in, sequence_in, shown_in, Looked, SequenceShown}
use Rattle.shown.proofs.Laws.Sequence.{first_few, sequence_stands}
use Rattle.shown.specs.Shows.{shown_of, shown_over}
use Rattle.shown.specs.Sequence.{first_fit, steps_to_fit, test_sequence}

-- ---- one look

module _ (test : ℕ → Bool) (J : ℕ → ℕ) (links : List ℕ) (count : ℕ) where
  absent : among_first test J count ≡ false → (area : List ℕ) → Looked test J links count None area area
  unfolding picked_in
  absent h area = rw h (refl, refl)

  -- by the place of the first that passes
  module _ (at : ℕ) (is : at ≡ place_among test J count) where
    among_at : (b : Bool) → ltb at count ≡ b → among_first test J count ≡ b
    among_at b h = sym (place_below test J count at is) ∙ h

    pub looked_none : count ≤ at → (area : List ℕ) → Looked test J links count None area area
    looked_none h area = absent (among_at false (le-ltb at count h)) area

    pub looked_here : at < count → (size : ℕ) → size ≡ length (steps_in links at) → (standing : Joint)
        → standing ≡ unpacked (J at) → (area area' : List ℕ) → area' ≡ steps_in links at ++ drop size area
        → Looked test J links count (present size standing) area area'
    unfolding picked_in
    looked_here h size s standing j area area' w =
        let e = (place_few test J count at is h).1 in
        rw (among_at true (lt-ltb at count h)) (
          (λ i. present (s i) (j i)) ∙ (λ i. present (length (steps_in links (e i))) (unpacked (J (e i)))),
          w
              ∙ (λ i. steps_in links at ++ drop (s i) area)
              ∙ (λ i. steps_in links (e i) ++ drop (length (steps_in links (e i))) area),
        )

-- ---- in the areas that a search leaves

module _ (S : Search ℕ) (tells : TellsApart S) (test : ℕ → Bool) (J : ℕ → ℕ) (links : List ℕ) (count : ℕ)
    (left : Leaves S J links count) where
  abbrev all : List ℕ
  all = standings_of (searched S)

  abbrev place : ℕ
  place = first_index test all

  module _ (h : among_few test all ≡ true) where
    size : count ≡ length all
    size = left.counted ∙ sym (length_standings (searched S))

    few : count ≤ 4096
    few = omega (arith, size, (first_few test all h).0)

    within : place < count
    within = omega (arith, size, (first_few test all h).1)

    front : listed count J ≡ all
    front = left_standings S J links count few left

    same_place : first_index test (listed count J) ≡ place
    same_place = ap (first_index test) front

    same_steps :
        steps_in links (first_index test (listed count J))
        ≡ found_by S place
    same_steps =
        ap (λ (k : ℕ). steps_in links k) same_place
        ∙ left_sequence S J links count few left tells place within

    same_standing : J (first_index test (listed count J)) ≡ get_or all place 0
    same_standing =
        ap J same_place
        ∙ sym (listed_get count J place 0 within)
        ∙ ap (λ (l : List ℕ). get_or l place 0) front

  -- what is picked is of the steps that the search took and of the joint standing that it found
  picked : {A : Type 0} (f : List ℕ → ℕ → A) (absent : A)
      → picked_in test J links count f absent
      ≡ cond (among_few test all) (f (found_by S place) (get_or all place 0)) absent
  unfolding picked_in
  picked {A} f absent =
      ap (λ (b : Bool). cond b (f (steps_in links at) (J at)) absent)
      (among_first_is (searched S) test J links count left.counted left.held)
      ∙ go (among_few test all) refl
    where
      at : ℕ
      at = first_index test (listed count J)

      go : (b : Bool) → among_few test all ≡ b
          → cond b (f (steps_in links at) (J at)) absent
          ≡ cond b (f (found_by S place) (get_or all place 0)) absent
      go true e = ap₂ f (same_steps e) (same_standing e)
      go false e = refl

-- ---- for a rule against kept rules, by a table

module _ (rules : List Rule) (steps set n : ℕ) (kept : List ℕ) (low : steps ≤ 24) (r : RuleNumber n)
    (h : IsSet set kept)
    (o : Others n kept) (J : ℕ → ℕ) (links : List ℕ) (count : ℕ) where
  -- the areas hold what the search by a table finds
  abbrev pub Holding : Table → Type 0
  Holding table = Leaves (candidate_search table steps set n) J links count

  module _ (held : Holding (table_of rules)) (wanted : Bool) where
    abbrev test : ℕ → Bool
    test = test_fits rules steps kept n wanted

    same_test : (j : ℕ) → fitting_by (table_of rules) set n wanted j ≡ test j
    same_test = fitting_same rules steps set n kept low r h o wanted

    same_search : searched (candidate_search (table_of rules) steps set n) ≡ searched (test_search rules steps kept n)
    same_search = table_searched rules steps set n kept low r h o

    same_left : Leaves (test_search rules steps kept n) J links count
    same_left =
        record {
          counted = held.counted ∙ ap (λ (es : List (Entry ℕ)). length es) same_search;
          held = held.held ∙ ap (λ (es : List (Entry ℕ)). take 4096 es) same_search;
        }

    sequence_is : sequence_in (fitting_by (table_of rules) set n wanted) J links count
        ≡ test_sequence rules steps kept n wanted
    unfolding test_sequence
    sequence_is =
        (λ i. sequence_in (λ j. same_test j i) J links count)
        ∙ picked (test_search rules steps kept n) decides_equal test J links count same_left (λ s j. some s) none

    abbrev standings : List ℕ
    standings = test_found rules steps kept n

    abbrev sequence : List ℕ
    sequence = steps_to_fit rules steps kept n wanted

    shown_is : shown_in (fitting_by (table_of rules) set n wanted) J links count
        ≡ shown_of rules (n ∷ kept) (test_sequence rules steps kept n wanted)
    unfolding test_sequence
    shown_is =
        (λ i. shown_in (λ j. same_test j i) J links count)
        ∙ picked (test_search rules steps kept n) decides_equal test J links count same_left
        (λ s j. present (length s) (unpacked j)) None
        ∙ go (among_few test standings) refl
      where
        go : (b : Bool) → among_few test standings ≡ b
            → cond b (present (length sequence) (unpacked (get_or standings (first_fit rules steps kept n wanted) 0)))
            None
            ≡ shown_of rules (n ∷ kept) (cond b (some sequence) none)
        go true e =
            ap (λ (j : ℕ). present (length sequence) (unpacked j))
            (sym
            (sequence_stands rules steps kept n (r, o.numbered) (o.other, o.distinct)
            (first_fit rules steps kept n wanted)
            (omega (
              arith,
              (first_few test standings e).1,
              length_standings
                  (searched (test_search rules steps kept n)),
            ))))
        go false e = refl

  -- what one look shows and writes is the sequence of the test
  pub sequence_shown : (table : Table) → table ≡ table_of rules → Holding table
      → (wanted : Bool) (shown : Said) (area area' : List ℕ)
      → Looked (fitting_by table set n wanted) J links count shown area area'
      → SequenceShown rules steps kept n wanted shown area area'
  sequence_shown table e =
      subst
      (λ (t : Table).
      Holding t → (wanted : Bool) (shown : Said) (area area' : List ℕ)
      → Looked (fitting_by t set n wanted) J links count shown area area'
      → SequenceShown rules steps kept n wanted shown area area')
      (sym e)
      (λ held wanted shown area area' l.
      (l.0 ∙ shown_is held wanted, l.1 ∙ ap (λ (s : Option (List ℕ)). shown_over s area) (sequence_is held wanted)))
