-- The places of relevant steps: those of a run with one step more, and that no two lists of them differ in length.
use Rattle.std.specs.Prelude.{Bool, true, false, cond, ◌≡◌, List, [], ◌∷◌, ◌++◌, ◌↔◌, ℕ, ◌+◌, ◌≤◌, ◌<◌, length, get_or}
use Rattle.std.specs.Prelude.{take}
use Rattle.std.proofs.Common.{sym, subst, inl, inr, arith, length-append}
use Rattle.std.proofs.Math.Decide.{ℕ_discrete}
use Rattle.std.proofs.Math.ListN.{get_or-append}
use Rattle.std.proofs.lemmas.List.{take-append-le}
use Rattle.std.proofs.Math.Seq.{take-append_seam, get_or-append_seam}
use Rattle.lists.specs.Decides.{Decides}
use Rattle.lists.specs.Members.{Member}
use Rattle.lists.specs.Laws.Members.{member_all}
use Rattle.lists.specs.Laws.Pigeonhole.{distinct_fits}
use Rattle.values.specs.Run.{Relevant, RelevantPlaces}

module _ (steps : ℕ) (P : List ℕ → Type 0) where
  abbrev RelevantAt : List ℕ → ℕ → Type 0
  RelevantAt run k = Relevant steps P (take k run) (get_or run k 0)

  -- the empty run has none
  pub no_places : RelevantPlaces steps P [] []
  no_places = record { distinct = tt; exactly = λ k. (λ m. absurd m, λ h. absurd (omega (arith, h.0))) }

  -- the number of places is that of the run alone
  within : (run l m : List ℕ) → RelevantPlaces steps P run l → RelevantPlaces steps P run m → length l ≤ length m
  within run l m h k =
      distinct_fits l m h.distinct (member_all (λ n. Member n m) l (λ n i. (k.exactly n).1 ((h.exactly n).0 i)))

  pub relevant_number_only : (run l m : List ℕ) → RelevantPlaces steps P run l → RelevantPlaces steps P run m → length l
      ≡ length m
  relevant_number_only run l m h k = omega (arith, within run l m h k, within run m l k h)

  -- one step more
  module _ (run : List ℕ) (z : ℕ) where
    abbrev more : List ℕ
    more = run ++ (z ∷ [])

    length_more : length more ≡ length run + 1
    length_more = length-append run (z ∷ [])

    earlier : (k : ℕ) → k < length run → RelevantAt more k ↔ RelevantAt run k
    earlier k h =
        let e = take-append-le k run (z ∷ []) (omega arith) in
        let f = get_or-append run (z ∷ []) 0 k h in
        (λ w. rw (e, f) at w, λ w. rw (e, f) w)

    last : RelevantAt more (length run) ↔ Relevant steps P run z
    last =
        let e = take-append_seam run (z ∷ []) in
        let f : get_or more (length run) 0 ≡ z = get_or-append_seam run z [] 0 in
        (λ w. rw (e, f) at w, λ w. rw (e, f) w)

    module _ (l : List ℕ) (h : RelevantPlaces steps P run l) where
      early : (k : ℕ) → Member k l → (k < length more) × RelevantAt more k
      early k m =
          let r = (h.exactly k).0 m in
          (omega (arith, r.0, length_more), (earlier k r.0).1 r.1)

      back : (k : ℕ) → k < length more → RelevantAt more k → ¬ (k ≡ length run) → Member k l
      back k q w n =
          let low : k < length run = omega (arith, length_more) in
          (h.exactly k).1 (low, (earlier k low).0 w)

      -- the step is relevant or not
      pub places_more : (b : Bool) → Decides b (Relevant steps P run z)
          → RelevantPlaces steps P more (cond b (length run ∷ l) l)
      places_more true i =
          record {
            distinct = (λ m. omega (arith, ((h.exactly (length run)).0 m).0), h.distinct);
            exactly = λ k. (to k, λ q. from k (ℕ_discrete k (length run)) q.0 q.1);
          }
        where
          to : (k : ℕ) → Member k (length run ∷ l) → (k < length more) × RelevantAt more k
          to k (inl e) = (omega (arith, length_more), subst (RelevantAt more) (sym e) (last.1 (i.sound tt)))
          to k (inr m) = early k m

          from : (k : ℕ) → Dec (k ≡ length run) → k < length more → RelevantAt more k → Member k (length run ∷ l)
          from k (yes e) q w = inl e
          from k (no n) q w = inr (back k q w n)
      places_more false i =
          record {
            distinct = h.distinct;
            exactly = λ k. (early k, λ q. from k (ℕ_discrete k (length run)) q.0 q.1);
          }
        where
          from : (k : ℕ) → Dec (k ≡ length run) → k < length more → RelevantAt more k → Member k l
          from k (yes e) q w = absurd (i.complete (last.0 (subst (RelevantAt more) e w)))
          from k (no n) q w = back k q w n
