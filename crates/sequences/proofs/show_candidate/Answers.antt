-- `show_candidate` meets its contract: the areas after the search hold the sequences of the test (`sequence_shown`).
use Rattle.std.proofs.Common.{true, false, arith}
use Rattle.lists.specs.Laws.Decides.{decides_equal}
use Rattle.joint.specs.Joint.{packed}
use Rattle.search.specs.Code.Areas.{standing_in}
use Rattle.search.proofs.Laws.Left.{left_falling}
use Rattle.shown.proofs.Laws.SequencesLaws.{sequence_shown}
use Rattle.sequences.proofs.show_candidate.Goals as goal

pub show_sequence-satisfying-requires-clause-falling : goal.show_sequence-satisfying-requires-clause-falling
show_sequence-satisfying-requires-clause-falling c = (
  (λ few.
      left_falling _ _ _ _ few c.search_candidate-count.ensures.leaves decides_equal (omega arith)
      (omega arith)),
  c.requires.rule_number.0,
)

pub show_sequence-violating-requires-clause-falling : goal.show_sequence-violating-requires-clause-falling
show_sequence-violating-requires-clause-falling c = (
  (λ few.
      left_falling _ _ _ _ few c.search_candidate-count.ensures.leaves decides_equal (omega arith)
      (omega arith)),
  c.requires.rule_number.0,
)

pub returns-clause-shows : goal.returns-clause-shows
returns-clause-shows c =
    λ rules ns e h o.
    let a = c.args in
    let s = c.search_candidate-count in
    let v = c.show_sequence-satisfying in
    let w = c.show_sequence-violating in
    let look =
    sequence_shown rules a.steps (packed a.kept) a.rule ns c.requires.rule_number.1 c.requires.rule_number.0 h o
    (standing_in s.new.found) s.new.links s.result a.table.now e s.ensures.leaves in
    record {
      satisfies = look true v.result a.first.now v.new.area v.ensures;
      violates = look false w.result a.second.now w.new.area w.ensures;
    }
