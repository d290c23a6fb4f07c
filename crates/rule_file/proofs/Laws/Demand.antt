-- Accepted exactly when well-formed: reading accepts a list of bytes exactly when it is the bytes of well_formed names
-- and rules, and these are what it decodes.
use Rattle.std.specs.Prelude.{List, [], ◌∷◌, ◌++◌, ◌≡◌, refl, Bool, true, cond, ◌↔◌, ℕ, ◌+◌, ◌≤◌, length, T, leb}
use Rattle.std.proofs.Common.{append_assoc, append-nil, sym, ap, ap₂, ◌∙◌, zero-le, arith, length-append, le-leb}
use Rattle.std.proofs.Math.Path.{subst⁻¹}
use Rattle.std.proofs.Math.Seq.{append_snoc}
use Rattle.lists.specs.Elements.{concat_map}
use Rattle.lists.specs.Laws.Elements.{concat_map_more}
use Rattle.lists.specs.Members.{All, Distinct}
use Rattle.lists.specs.Laws.Decides.{passes, fails}
use Rattle.lists.specs.Laws.Members.{distinct_mid}
use Rattle.refusals.specs.Refusal.{refused_or}
use Rattle.rule.specs.declared.Rule.{Rule}
use Rattle.rule.specs.Good.{GoodRule}
use Rattle.fields.specs.Bytes.{Bytes}
use Rattle.fields.specs.Field.{Field, fields_from, fields, field_bytes}
use Rattle.fields.specs.Laws.Written.{whole_field, fields_read, field_text, bytes_joined, contents_bytes}
use Rattle.rule_file.specs.Fault.{Decoded, faults, first_fault, among, good_name}
use Rattle.rule_file.specs.WellFormed.{WellFormed, step_bytes, rule_bytes, rule_content, file_bytes, Writes}
use Rattle.rule_file.specs.WellFormed.{ReadsBack}
use Rattle.rule_file.proofs.Laws.Fault.{decides_among, ClearStep, ClearField, step, rule, clear_field, clear_whole}
use Rattle.rule_file.proofs.Laws.Fault.{step_clear, rule_clear}
use Rattle.rule_file.specs.Decode.{Read, nothing, added, with_step, with_rule, refused, read_fields, read_file}
use Rattle.rule_file.specs.Code.ReadLaws.{added_step, added_rule}
use Rattle.rule_file.proofs.Laws.Encoded.{rule_read, rule_clear_read, rule_written}
use Rattle.rule_file.specs.Refused.{declared, Faultless}
use Rattle.rule_file.proofs.Laws.Accepted.{file_formed}
use Rattle.rule_file.specs.Laws.Faultless.{accepts}

-- ---- what is accepted is the bytes of what was decoded

bytes_of : Decoded → List ℕ
bytes_of d = file_bytes d.names d.rules

bytes_more : (d : Decoded) (f : Field) → first_fault (faults d f) ≡ 0 → Bytes f.content → bytes_of (added d f)
    ≡ bytes_of d ++ field_text f
unfolding bytes_of file_bytes
bytes_more d f n b = go (clear_field d f n)
  where
    go : ClearField d f → bytes_of (added d f) ≡ bytes_of d ++ field_text f
    go (step s) =
        let none = ap (concat_map rule_bytes) s.before_rules in
        ap bytes_of (added_step d f s.tag)
        ∙ ap₂ (λ (l m : List ℕ). l ++ m) (concat_map_more step_bytes d.names f.content) none
        ∙ append-nil (concat_map step_bytes d.names ++ step_bytes f.content)
        ∙ ap₂ (λ (l : List ℕ) (t : ℕ). l ++ field_bytes t f.content)
        (sym (append-nil (concat_map step_bytes d.names))) (sym s.tag)
        ∙ ap (λ (l : List ℕ). (concat_map step_bytes d.names ++ l) ++ field_text f) (sym none)
    go (rule g r) =
        ap bytes_of (added_rule d f g)
        ∙ ap (λ (l : List ℕ). concat_map step_bytes d.names ++ l) (concat_map_more rule_bytes d.rules _)
        ∙ sym (append_assoc (concat_map step_bytes d.names) (concat_map rule_bytes d.rules) _)
        ∙ ap₂ (λ (t : ℕ) (c : List ℕ). bytes_of d ++ field_bytes t c) (sym r.tag) (rule_written d f r b)

fields_bytes : (d : Decoded) (fs : List Field) → Faultless d fs → All (λ f. Bytes f.content) fs
    → bytes_of (declared d fs) ≡ bytes_of d ++ concat_map field_text fs
fields_bytes d [] h b = sym (append-nil (bytes_of d))
fields_bytes d (f ∷ fs) h b =
    fields_bytes (added d f) fs h.1 b.1
    ∙ ap (λ (l : List ℕ). l ++ concat_map field_text fs) (bytes_more d f h.0 b.0)
    ∙ append_assoc (bytes_of d) (field_text f) (concat_map field_text fs)

all_whole : (d : Decoded) (fs : List Field) → Faultless d fs → All (λ f. f.whole ≡ true) fs
all_whole d [] h = tt
all_whole d (f ∷ fs) h = (clear_whole d f h.0, all_whole (added d f) fs h.1)

pub accepted_writes : (bs : List ℕ) → Bytes bs → (read_file bs).refusal ≡ 0
    → Writes bs (read_file bs).decoded.names (read_file bs).decoded.rules
unfolding read_file bytes_of file_bytes
accepted_writes bs b e =
    let a = accepts nothing (fields bs) e in
    record {
      well_formed = record {
        some_step = subst⁻¹ (λ (d : Decoded). 1 ≤ length d.names) a.decoded a.some_step;
        formed = file_formed bs;
      };
      bytes =
          bytes_joined 0 0 bs b (all_whole nothing (fields bs) a.faultless) zero-le
          ∙ sym (fields_bytes nothing (fields bs) a.faultless (contents_bytes 0 0 bs b))
          ∙ ap bytes_of (sym a.decoded);
    }

-- ---- the bytes of names and rules are accepted, and these are decoded

-- reading comes past the bytes of some fields, and has then decoded the names and rules
record Reached (d : Decoded) (at : ℕ) (bs rest : List ℕ) (names : List (List ℕ)) (rules : List Rule) : Type 0 where
  decoded : Decoded
  place : ℕ
  has_names : decoded.names ≡ names
  has_rules : decoded.rules ≡ rules
  reads : read_fields d (fields_from at 0 bs) ≡ read_fields decoded (fields_from place 0 rest)

-- one field
past_field : (d : Decoded) (at tag : ℕ) (c rest : List ℕ) → first_fault (faults d (whole_field at tag c)) ≡ 0
    → read_fields d (fields_from at 0 (field_bytes tag c ++ rest))
    ≡ read_fields (added d (whole_field at tag c)) (fields_from (at + (3 + length c)) 0 rest)
unfolding read_fields
past_field d at tag c rest n =
    ap (read_fields d) (fields_read at tag c rest)
    ∙ ap (λ (m : ℕ). refused_or refused m (read_fields (added d (whole_field at tag c))
    (fields_from (at + (3 + length c)) 0 rest))) n

past_steps : (names : List (List ℕ)) (d : Decoded) (at : ℕ) (rest : List ℕ) → d.rules ≡ []
    → length (d.names ++ names) ≤ 24
    → All (λ n. T (good_name n)) names → Distinct (d.names ++ names)
    → Reached d at (concat_map step_bytes names ++ rest) rest (d.names ++ names) d.rules
past_steps [] d at rest e few good distinct =
    record { decoded = d; place = at; has_names = sym (append-nil d.names); has_rules = refl; reads = refl }
past_steps (n ∷ names) d at rest e few good distinct =
    let f = whole_field at 0x53 n in
    let snoc = append_snoc d.names n names in
    let clear : ClearStep d f =
    record {
      whole = refl;
      tag = refl;
      before_rules = e;
      few = omega (arith, length-append d.names (n ∷ names));
      good = passes (good_name n) good.0;
      new = fails (among n d.names) (decides_among n d.names) (distinct_mid d.names n names distinct);
    } in
    let r = past_steps names (with_step d (at + 3) n) (at + (3 + length n)) rest e
    (subst⁻¹ (λ (l : List (List ℕ)). length l ≤ 24) snoc few) good.1 (subst⁻¹ Distinct snoc distinct) in
    record {
      decoded = r.decoded;
      place = r.place;
      has_names = r.has_names ∙ snoc;
      has_rules = r.has_rules;
      reads =
          ap (λ (l : List ℕ). read_fields d (fields_from at 0 l))
          (append_assoc (step_bytes n) (concat_map step_bytes names) rest)
          ∙ past_field d at 0x53 n (concat_map step_bytes names ++ rest) (step_clear d f clear)
          ∙ ap (λ (q : Decoded). read_fields q (fields_from (at + (3 + length n)) 0 (concat_map step_bytes names ++ rest)))
          (added_step d f refl)
          ∙ r.reads;
    }

past_rules : (rules : List Rule) (d : Decoded) (at : ℕ) (rest : List ℕ) → length (d.rules ++ rules) ≤ 32
    → All (GoodRule (length d.names)) rules
    → Reached d at (concat_map rule_bytes rules ++ rest) rest d.names (d.rules ++ rules)
past_rules [] d at rest few good = record {
  decoded = d;
  place = at;
  has_names = refl;
  has_rules = sym (append-nil d.rules);
  reads = refl;
}
past_rules (r ∷ rules) d at rest few good =
    let c = rule_content r in
    let f = whole_field at 0x52 c in
    let snoc = append_snoc d.rules r rules in
    let clear = rule_clear_read r (length d.names) good.0 d at refl
    (omega (arith, length-append d.rules (r ∷ rules))) in
    let s = past_rules rules (with_rule d r) (at + (3 + length c)) rest
    (subst⁻¹ (λ (l : List Rule). length l ≤ 32) snoc few) good.1 in
    record {
      decoded = s.decoded;
      place = s.place;
      has_names = s.has_names;
      has_rules = s.has_rules ∙ snoc;
      reads =
          ap (λ (l : List ℕ). read_fields d (fields_from at 0 l))
          (append_assoc (rule_bytes r) (concat_map rule_bytes rules) rest)
          ∙ past_field d at 0x52 c (concat_map rule_bytes rules ++ rest) (rule_clear d f clear)
          ∙ ap (λ (q : Decoded). read_fields q (fields_from (at + (3 + length c)) 0 (concat_map rule_bytes rules ++ rest)))
          (added_rule d f (λ z. omega arith) ∙ ap (with_rule d) (rule_read r (length d.names) good.0))
          ∙ s.reads;
    }

written_read : (names : List (List ℕ)) (rules : List Rule) → WellFormed names rules
    → ReadsBack (file_bytes names rules) names rules
unfolding read_file file_bytes read_fields fields_from
written_read names rules w =
    let h = w.formed in
    let s = past_steps names nothing 0 (concat_map rule_bytes rules) refl h.few_steps h.good_names h.distinct in
    let t =
    past_rules rules s.decoded s.place []
    (subst⁻¹ (λ (l : List Rule). length (l ++ rules) ≤ 32) s.has_rules h.few_rules)
    (subst⁻¹ (λ (l : List (List ℕ)). All (GoodRule (length l)) rules) s.has_names h.good_rules) in
    let has_names = t.has_names ∙ s.has_names in
    let has_rules = t.has_rules ∙ ap (λ (l : List Rule). l ++ rules) s.has_rules in
    let some : leb 1 (length t.decoded.names)
    ≡ true = le-leb 1 (length t.decoded.names) (omega (arith, w.some_step, ap length has_names)) in
    let e : read_file (file_bytes names rules) ≡ record { refusal = 0; decoded = t.decoded } =
    s.reads
    ∙ ap (λ (l : List ℕ). read_fields s.decoded (fields_from s.place 0 l))
    (sym (append-nil (concat_map rule_bytes rules)))
    ∙ t.reads
    ∙ ap (λ (b : Bool). cond b (record { refusal = 0; decoded = t.decoded }) (refused 13)) some in
    record {
      accepted = ap (λ (r : Read). r.refusal) e;
      same_names = ap (λ (r : Read). r.decoded.names) e ∙ has_names;
      same_rules = ap (λ (r : Read). r.decoded.rules) e ∙ has_rules;
    }

pub writes_read : (bs : List ℕ) (names : List (List ℕ)) (rules : List Rule) → Writes bs names rules
    → ReadsBack bs names rules
writes_read bs names rules w = subst⁻¹ (λ (l : List ℕ). ReadsBack l names rules) w.bytes
    (written_read names rules w.well_formed)

-- ---- the demand, both ways

pub accepted_exactly : (bs : List ℕ) → Bytes bs → ((read_file bs).refusal ≡ 0)
    ↔ ((names : List (List ℕ)) × (rules : List Rule) × Writes bs names rules)
accepted_exactly bs b = (
  λ e. ((read_file bs).decoded.names, (read_file bs).decoded.rules, accepted_writes bs b e),
  λ w. (writes_read bs w.0 w.1 w.2).accepted,
)
