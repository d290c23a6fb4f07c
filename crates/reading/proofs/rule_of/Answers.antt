-- Each part of the rule is that of the content.
use Rattle.std.proofs.Common.{ℕ, ap₂, ◌∙◌}
use Rattle.template.specs.Number.{of_number}
use Rattle.rule_file.specs.Decode.{found, rule_of}
use Rattle.reading.proofs.rule_of.Goals as goal

pub returns : goal.returns
unfolding rule_of
returns c = λ i.
    record {
      template =
          (c.template_of.ensures ∙ ap₂ (λ (n k : ℕ). found (of_number n k)) c.byte.ensures c.byte-2.ensures) i;
      x = c.byte-3.ensures i;
      y = c.byte-4.ensures i;
      weights =
          record {
            support = c.weight_at.ensures i;
            confidence = c.weight_at-2.ensures i;
            interest = c.weight_at-3.ensures i;
          };
    }
