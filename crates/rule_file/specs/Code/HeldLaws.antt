-- Laws of the records that hold what was decoded: what a sound record stands for, and that it grows by a step and by a
-- rule.
use Rattle.std.specs.Prelude.{◌≡◌, refl, List, [], ◌∷◌, ◌++◌, map, cond, ℕ, ◌≤◌, ◌<◌, ltb, length, get_or}
use Rattle.std.proofs.Math.Path.{sym, ap}
use Rattle.std.proofs.Common.{◌∙◌, zero-le, arith, get_or-take, le-leb, lt-ltb, le-ltb}
use Rattle.std.proofs.Math.Decide.{dec_lt}
use Rattle.std.proofs.Math.ListN.{take}
use Rattle.std.proofs.lemmas.List.{length-map}
use Rattle.std.proofs.Math.Seq.{length-take-le}
use Rattle.std.proofs.lemmas.Bool.{lt-leb}
use Rattle.lists.specs.Padded.{padded}
use Rattle.lists.specs.Laws.Elements.{map_at, map_append}
use Rattle.lists.specs.Laws.Padded.{holds_first_length, take_more, holds_first_more}
use Rattle.rule.specs.declared.Rule.{Rule}
use Rattle.rule.specs.Behaviour.{no_rule}
use Rattle.rule_file.specs.Decode.{nothing, with_rule, ended, refused}
use Rattle.rule_file.specs.Held.{no_place, held_file}
use Rattle.rule_file.specs.Code.Held.{name_in, decoded_in, held_step, held_rule, WithinLimits}
use Rattle.rule_file.specs.declared.Place.{Place}
use Rattle.rule_file.specs.declared.RuleFile.{RuleFile}

-- nothing is held
pub within_limits_nothing : WithinLimits (held_file nothing)
unfolding held_file padded
within_limits_nothing = record { steps = zero-le; count = zero-le; names = refl; rules = refl }

pub decoded_nothing : (bs : List ℕ) → decoded_in bs (held_file nothing) ≡ nothing
unfolding held_file decoded_in padded
decoded_nothing bs = refl

-- the names of the first n places of an array
module _ (bs : List ℕ) (l : List Place) (n : ℕ) (h : n ≤ length l) where
  pub held_length : length (map (name_in bs) (take n l)) ≡ n
  held_length = length-map (take n l) (name_in bs) ∙ length-take-le n l h

  pub held_name : (k : ℕ) (d : Place) → k < n → get_or (map (name_in bs) (take n l)) k [] ≡ name_in bs (get_or l k d)
  held_name k d q = map_at (name_in bs) (take n l) k d [] (omega (arith, length-take-le n l h))
      ∙ ap (name_in bs) (get_or-take n l k d q)

module _ (bs : List ℕ) (s : RuleFile) (h : WithinLimits s) where
  names_long : length s.names ≡ 24
  names_long = holds_first_length 24 no_place s.steps s.names h.names h.steps

  rules_long : length s.rules ≡ 32
  rules_long = holds_first_length 32 no_rule s.count s.rules h.rules h.count

  places_length : length (take s.steps s.names) ≡ s.steps
  places_length = length-take-le s.steps s.names (omega (arith, names_long, h.steps))

  pub decoded_steps : length (decoded_in bs s).names ≡ s.steps
  unfolding decoded_in
  decoded_steps = held_length bs s.names s.steps (omega (arith, names_long, h.steps))

  pub decoded_count : length (decoded_in bs s).rules ≡ s.count
  unfolding decoded_in
  decoded_count = length-take-le s.count s.rules (omega (arith, rules_long, h.count))

  -- the record is the one that holds what it stands for
  pub held_decoded : held_file (decoded_in bs s) ≡ s
  unfolding held_file decoded_in
  held_decoded = λ i. record {
    steps = places_length i;
    names = sym h.names i;
    count = decoded_count i;
    rules = sym h.rules i;
  }

  pub within_limits_step : (p : Place) → s.steps < 24 → WithinLimits (held_step s p)
  within_limits_step p k =
      record {
        steps = omega arith;
        count = h.count;
        names = holds_first_more 24 no_place s.steps s.names h.names k p;
        rules = h.rules;
      }

  pub within_limits_rule : (r : Rule) → s.count < 32 → WithinLimits (held_rule s r)
  within_limits_rule r k =
      record {
        steps = h.steps;
        count = omega arith;
        names = h.names;
        rules = holds_first_more 32 no_rule s.count s.rules h.rules k r;
      }

  pub decoded_step : (p : Place) → s.steps < 24
      → decoded_in bs (held_step s p) ≡ record {
        names = (decoded_in bs s).names
            ++ (name_in bs p ∷ []);
        places = (decoded_in bs s).places ++ (p ∷ []);
        rules = (decoded_in bs s).rules;
      }
  unfolding decoded_in
  decoded_step p k =
      let e = take_more 24 no_place s.steps s.names h.names k p in
      λ i.
      record {
        names = (ap (map (name_in bs)) e ∙ map_append (name_in bs) (take s.steps s.names) (p ∷ [])) i;
        places = e i;
        rules = take s.count s.rules;
      }

  pub decoded_rule : (r : Rule) → s.count < 32 → decoded_in bs (held_rule s r) ≡ with_rule (decoded_in bs s) r
  unfolding decoded_in
  decoded_rule r k =
      let e = take_more 32 no_rule s.count s.rules h.rules k r in
      λ i. record { names = (decoded_in bs s).names; places = (decoded_in bs s).places; rules = e i }

  -- the end of the file
  pub ended_refused : s.steps < 1 → ended (decoded_in bs s) ≡ refused 13
  ended_refused k = rw (lt-leb 1 (length (decoded_in bs s).names) (omega (arith, decoded_steps)))

  -- no step is refused, and otherwise what is held is what the file declares
  pub ended_number : cond (ltb s.steps 1) 13 0 ≡ (ended (decoded_in bs s)).refusal
  ended_number = go (dec_lt s.steps 1)
    where
      go : Dec (s.steps < 1) → cond (ltb s.steps 1) 13 0 ≡ (ended (decoded_in bs s)).refusal
      go (yes k) =
          rw (lt-ltb s.steps 1 k, lt-leb 1 (length (decoded_in bs s).names) (omega (arith, decoded_steps))) refl
      go (no k) =
          rw (
            le-ltb s.steps 1 (omega arith),
            le-leb 1 (length (decoded_in bs s).names) (omega (arith, decoded_steps)),
          ) refl

  pub ended_held : ◌≡◌ {A = ℕ} (cond (ltb s.steps 1) 13 0) 0 → s ≡ held_file (ended (decoded_in bs s)).decoded
  ended_held e = go (dec_lt s.steps 1)
    where
      go : Dec (s.steps < 1) → s ≡ held_file (ended (decoded_in bs s)).decoded
      go (yes k) = let z : ◌≡◌ {A = ℕ} 13 0 = rw (lt-ltb s.steps 1 k) at e in absurd (omega arith)
      go (no k) =
          rw (le-leb 1 (length (decoded_in bs s).names) (omega (arith, decoded_steps))) (sym held_decoded)

-- how many steps and rules the record stands for
pub ruleset held_sizes = (decoded_steps, decoded_count)
