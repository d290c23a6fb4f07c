-- What `lent_answer` unfolds to where an answer is computed: others cite the one name.
use Rattle.std.specs.Prelude.{List, ℕ}
use Rattle.template.specs.Laws.Computed.{computed_next}
use Rattle.rule.specs.Behaviour.{rule_at, rule_goes}
use Rattle.rule_file.specs.Laws.Computed.{computed_read}
use Rattle.rule_file.specs.Contents.{has_rule, rule_refusal}
use Rattle.values.specs.Value.{value_of}
use Rattle.values.specs.Activation.{permitted_kind, activation_of, changes_activation}
use Rattle.values.specs.Progress.{has_other, counted, advanced_by, progress_after}
use Rattle.values.specs.Answer.{Answer, state_after, followed, run_answer, lent_answer}

unfoldable pub computed_answer : ℕ → List ℕ → List ℕ → ℕ → Answer
unfolding computed_read computed_next rule_at rule_goes has_rule rule_refusal value_of permitted_kind activation_of
    changes_activation has_other counted advanced_by
    progress_after state_after followed run_answer lent_answer
computed_answer size bs run n = lent_answer size bs run n
