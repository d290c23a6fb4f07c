-- A template stands in 01's table, or counts x (M-100).
use Rattle.std.specs.Prelude.{◌≡◌, refl, List, ◌↔◌, not, ℕ, suc, ◌≤◌, min, T}
use Rattle.std.proofs.Common.{arith}
use Rattle.template.specs.declared.Template.{Template}
use Rattle.template.specs.Number.{count, counting}
use Rattle.template.specs.Table.{counts, table, held_count}
use Rattle.template.specs.Sequence.{Test, times}
use Rattle.template.specs.Meaning.{Meaning}
use Rattle.template.proofs.Laws.Counts.{Limits}
use Rattle.template.specs.declared.Template.TheVariants.{Participation, AtMostOne, Init, End, RespondedExistence}
use Rattle.template.specs.declared.Template.TheVariants.{Response, AlternateResponse, ChainResponse, Precedence}
use Rattle.template.specs.declared.Template.TheVariants.{AlternatePrecedence, ChainPrecedence, CoExistence}
use Rattle.template.specs.declared.Template.TheVariants.{Succession, AlternateSuccession, ChainSuccession}
use Rattle.template.specs.declared.Template.TheVariants.{NotChainSuccession, NotSuccession, NotCoExistence}
use Rattle.template.specs.declared.Template.TheVariants.{AtLeast, AtMost, Exactly, Choice, ExclusiveChoice}

-- t counts x with these limits, and its meaning is that x occurs so often
pub record Counting (t : Template) (f m l : ℕ) : Type 0 where
  pub is_row : table t ≡ counts f m l
  pub limits : Limits f m l
  pub means : (x y : Test) (s : List ℕ) → count t ≤ 14
      → ((f ≤ min (times x s) l) × (min (times x s) l ≤ m)) ↔ Meaning t x y s

pub data Sort (t : Template) : Type 0 where
  in_table : T (not (counting t)) → Sort t
  counts_x : (f m l : ℕ) → Counting t f m l → Sort t

pub sort : (t : Template) → Sort t
unfolding table
sort Participation = in_table tt
sort AtMostOne = in_table tt
sort Init = in_table tt
sort End = in_table tt
sort RespondedExistence = in_table tt
sort Response = in_table tt
sort AlternateResponse = in_table tt
sort ChainResponse = in_table tt
sort Precedence = in_table tt
sort AlternatePrecedence = in_table tt
sort ChainPrecedence = in_table tt
sort CoExistence = in_table tt
sort Succession = in_table tt
sort AlternateSuccession = in_table tt
sort ChainSuccession = in_table tt
sort NotChainSuccession = in_table tt
sort NotSuccession = in_table tt
sort NotCoExistence = in_table tt
sort (AtLeast n) =
    counts_x (held_count n) (held_count n) (held_count n)
    record {
      is_row = refl;
      limits = omega arith;
      means = λ x y s few. (λ h. omega arith, λ h. omega arith);
    }
sort (AtMost n) =
    counts_x 0 (held_count n) (suc (held_count n))
    record {
      is_row = refl;
      limits = omega arith;
      means = λ x y s few. (λ h. omega arith, λ h. omega arith);
    }
sort (Exactly n) =
    counts_x (held_count n) (held_count n) (suc (held_count n))
    record {
      is_row = refl;
      limits = omega arith;
      means = λ x y s few. (λ h. omega arith, λ h. omega arith);
    }
sort Choice = in_table tt
sort ExclusiveChoice = in_table tt
