-- What a field without fault is: a step or a rule, each with all that its faults deny.
use Rattle.std.specs.Prelude.{List, [], ◌∷◌, Bool, true, false, not, cond, ◌≡◌, refl, ℕ, ◌<◌, T, ltb, length, get_or}
use Rattle.std.proofs.Common.{true≢false, sym, ◌∙◌, arith, ltb→lt}
use Rattle.std.proofs.Math.Path.{ap}
use Rattle.std.proofs.Math.Decide.{ℕ_discrete}
use borrow.Author.Tests.{eq-eqb, ne_eqb, leb-false, lt-leb, le-ltb, ltb-false, eqb-true}
use Rattle.lists.specs.Decides.{Decides}
use Rattle.lists.specs.Laws.Decides.{decides_or}
use Rattle.lists.specs.Members.{All, Member}
use Rattle.lists.specs.Laws.Elements.{no_elements}
use Rattle.rule.specs.Good.{good_template, good_count, good_steps}
use Rattle.fields.specs.Laws.Bytes.{decides_same_bytes}
use Rattle.fields.specs.Field.{Field}
use Rattle.rule_file.specs.Fault.{Decoded, Faults, first_fault, faults, tag_faults, step_faults, rule_faults, among}
use Rattle.rule_file.specs.Fault.{good_name, good_weights}
use Rattle.rule_file.specs.Refused.{Clear}

-- the test that a name is among others decides it
pub decides_among : (n : List ℕ) (names : List (List ℕ)) → Decides (among n names) (Member n names)
decides_among n [] = record { sound = λ t. absurd t; complete = λ m. absurd m }
decides_among n (m ∷ names) = decides_or (decides_same_bytes n m) (decides_among n names)

-- every number is above 0, so that 0 says that there is no fault; antt computes this of a list that is written out
abbrev Numbered : Faults → Type 0
Numbered fs = All (λ f. T (ltb 0 f.1)) fs

clear_all : (fs : Faults) → Numbered fs → first_fault fs ≡ 0 → Clear fs
clear_all [] t e = tt
clear_all (f ∷ fs) t e = go f.0 refl e (clear_all fs t.1)
  where
    go : (b : Bool) → f.0 ≡ b → cond b f.1 (first_fault fs) ≡ 0 → (first_fault fs ≡ 0 → Clear fs) → Clear (f ∷ fs)
    go true h q rest = absurd (omega (arith, ltb→lt 0 f.1 t.0))
    go false h q rest = (h, rest q)

all_clear : (fs : Faults) → Clear fs → first_fault fs ≡ 0
all_clear [] h = refl
all_clear (f ∷ fs) h = ap (λ (x : Bool). cond x f.1 (first_fault fs)) h.0 ∙ all_clear fs h.1

-- the faults of a tag
module _ (d : Decoded) (tag : ℕ) (c : List ℕ) where
  pub tag_step : tag ≡ 0x53 → tag_faults d tag c ≡ step_faults d.names (length d.rules) c
  unfolding tag_faults
  tag_step e = rw (eq-eqb tag 0x53 e)

  pub tag_rule : tag ≡ 0x52 → tag_faults d tag c ≡ rule_faults (length d.names) (length d.rules) c
  unfolding tag_faults
  tag_rule e = rw (ne_eqb tag 0x53 (λ q. omega arith), eq-eqb tag 0x52 e)

  pub tag_other : (tag ≡ 0x53 → ⊥) → (tag ≡ 0x52 → ⊥) → tag_faults d tag c ≡ (true, 3) ∷ []
  unfolding tag_faults
  tag_other g h = rw (ne_eqb tag 0x53 g, ne_eqb tag 0x52 h)

pub record ClearStep (d : Decoded) (f : Field) : Type 0 where
  pub whole : f.whole ≡ true
  pub tag : f.tag ≡ 0x53
  pub before_rules : d.rules ≡ []
  pub few : length d.names < 24
  pub good : good_name f.content ≡ true
  pub new : among f.content d.names ≡ false

pub record ClearRule (d : Decoded) (f : Field) : Type 0 where
  pub whole : f.whole ≡ true
  pub tag : f.tag ≡ 0x52
  pub few : length d.rules < 32
  pub long : length f.content ≡ 15
  pub template : good_template (get_or f.content 0 0) ≡ true
  pub count : good_count (get_or f.content 0 0) (get_or f.content 2 0) ≡ true
  pub declared : good_steps (length d.names) (get_or f.content 0 0) (get_or f.content 1 0) (get_or f.content 2 0)
      ≡ true
  pub weights : good_weights f.content ≡ true

-- a field without fault is one of the two
pub data ClearField (d : Decoded) (f : Field) : Type 0 where
  step : ClearStep d f → ClearField d f
  rule : (f.tag ≡ 0x53 → ⊥) → ClearRule d f → ClearField d f

not_no : (b : Bool) → not b ≡ false → b ≡ true
not_no true e = refl
not_no false e = sym e

no_not : (b : Bool) → b ≡ true → not b ≡ false
no_not b e = ap not e

module _ (d : Decoded) (f : Field) where
  none_clear : (fs : Faults) → tag_faults d f.tag f.content ≡ fs → Numbered fs → first_fault (faults d f) ≡ 0
      → Clear ((not f.whole, 2) ∷ fs)
  unfolding faults
  none_clear fs e t n =
      clear_all ((not f.whole, 2) ∷ fs) (tt, t)
      (ap (λ (l : Faults). first_fault ((not f.whole, 2) ∷ l)) (sym e) ∙ n)

  clear_none : (fs : Faults) → tag_faults d f.tag f.content ≡ fs → Clear ((not f.whole, 2) ∷ fs)
      → first_fault (faults d f) ≡ 0
  unfolding faults
  clear_none fs e h =
      ap (λ (l : Faults). first_fault ((not f.whole, 2) ∷ l)) e ∙ all_clear ((not f.whole, 2) ∷ fs) h

  pub clear_step : first_fault (faults d f) ≡ 0 → f.tag ≡ 0x53 → ClearStep d f
  clear_step n e =
      let h = none_clear (step_faults d.names (length d.rules) f.content) (tag_step d f.tag f.content e)
      (tt, (tt, (tt, (tt, tt)))) n in
      record {
        whole = not_no f.whole h.0;
        tag = e;
        before_rules = no_elements d.rules (omega (arith, ltb-false 0 (length d.rules) h.1.0));
        few = leb-false 24 (length d.names) h.1.1.0;
        good = not_no (good_name f.content) h.1.1.1.0;
        new = h.1.1.1.1.0;
      }

  pub clear_rule : first_fault (faults d f) ≡ 0 → (f.tag ≡ 0x53 → ⊥) → ClearRule d f
  clear_rule n g = go (ℕ_discrete f.tag 0x52)
    where
      go : Dec (f.tag ≡ 0x52) → ClearRule d f
      go (yes e) =
          let c = f.content in
          let h = none_clear (rule_faults (length d.names) (length d.rules) c) (tag_rule d f.tag c e)
          (tt, (tt, (tt, (tt, (tt, (tt, tt)))))) n in
          record {
            whole = not_no f.whole h.0;
            tag = e;
            few = leb-false 32 (length d.rules) h.1.0;
            long = eqb-true (length c) 15 (not_no _ h.1.1.0);
            template = not_no _ h.1.1.1.0;
            count = not_no _ h.1.1.1.1.0;
            declared = not_no _ h.1.1.1.1.1.0;
            weights = not_no _ h.1.1.1.1.1.1.0;
          }
      go (no k) =
          absurd (true≢false (none_clear ((true, 3) ∷ []) (tag_other d f.tag f.content g k) (tt, tt) n).1.0)

  pub step_clear : ClearStep d f → first_fault (faults d f) ≡ 0
  step_clear s =
      clear_none (step_faults d.names (length d.rules) f.content) (tag_step d f.tag f.content s.tag) (
        no_not _ s.whole,
        (
          le-ltb 0 (length d.rules) (omega (arith, ap length s.before_rules)),
          (lt-leb 24 (length d.names) s.few, (no_not _ s.good, (s.new, tt))),
        ),
      )

  pub rule_clear : ClearRule d f → first_fault (faults d f) ≡ 0
  rule_clear r =
      clear_none (rule_faults (length d.names) (length d.rules) f.content)
      (tag_rule d f.tag f.content r.tag) (
        no_not _ r.whole,
        (
          lt-leb 32 (length d.rules) r.few,
          (
            no_not _ (eq-eqb (length f.content) 15 r.long),
            (no_not _ r.template, (no_not _ r.count, (no_not _ r.declared, (no_not _ r.weights, tt)))),
          ),
        ),
      )

  pub clear_field : first_fault (faults d f) ≡ 0 → ClearField d f
  clear_field n = go (ℕ_discrete f.tag 0x53)
    where
      go : Dec (f.tag ≡ 0x53) → ClearField d f
      go (yes e) = step (clear_step n e)
      go (no g) = rule g (clear_rule n g)

  pub clear_whole : first_fault (faults d f) ≡ 0 → f.whole ≡ true
  clear_whole n = go (clear_field n)
    where
      go : ClearField d f → f.whole ≡ true
      go (step s) = s.whole
      go (rule g r) = r.whole
