-- `moved_entry` meets its contract: the row of the standing has the next one for the kind of the step (`columns_next`),
-- and the count goes by whether the activation state changes (`advanced_is`).
use Rattle.std.proofs.Common.{Bool, ℕ, ◌≡◌, ◌<◌, ap, ◌∙◌}
use Rattle.std.proofs.Math.Path.{subst⁻¹}
use Rattle.template.specs.Table.{next}
use Rattle.template.specs.declared.StandingRow.{StandingRow}
use Rattle.template.specs.Code.Columns.{next_of}
use Rattle.template.proofs.Laws.Standing.{kind_in_lem}
use Rattle.template.proofs.Laws.Columns.{columns_next}
use Rattle.rule.specs.Behaviour.{rule_goes}
use Rattle.rule.specs.Laws.Behaviour.{goes_low}
use Rattle.values.specs.Progress.{counted, advanced_by}
use Rattle.values.specs.Code.Following.{advanced_is}
use Rattle.watch_list.specs.Entry.{progress_of, entry_of, moved_entry}
use Rattle.watch_entries.proofs.moved_entry.Goals as goal
use Rattle.watch_entries.proofs.moved_entry.Goals.{After-next-standing}

-- the standing to which the step leads
next_is : (c : After-next-standing)
    → c.next-standing.result ≡ rule_goes c.args.rule c.args.entry.standing c.args.step
unfolding rule_goes
next_is c =
    let t = c.args.rule.template in
    let q = c.args.entry.standing in
    c.next-standing.ensures
    ∙ ap (λ (r : StandingRow). next_of r c.kind_of-kind.result) c.row_of-row.ensures
    ∙ columns_next t q c.kind_of-kind.result
    ∙ ap (next t q) (c.kind_of-kind.ensures ∙ kind_in_lem t _ _ c.args.step _ c.lacks_y-lacking.ensures)

pub changes_activation-more-requires : goal.changes_activation-more-requires
changes_activation-more-requires c =
    let k = (goal.at.changes_activation-more-requires c).After-next-standing in (
      c.requires,
      subst⁻¹ (λ (q : ℕ). q < 16) (next_is k) (goes_low c.args.rule c.args.entry.standing c.args.step),
    )

pub returns : goal.returns
unfolding moved_entry
returns c =
    let k = (goal.at.returns c).After-next-standing in
    let a = c.args in
    let p = progress_of a.entry in
    ap entry_of
    (advanced_is a.rule _ p a.step _ _ (next_is k)
    (c.counted.ensures ∙ ap (counted a.entry.relevant) c.changes_activation-more.ensures)
    ∙ ap (λ (b : Bool). advanced_by a.rule b p a.step) (c.has_other-other.ensures a.rule c.lacks_y-lacking.ensures))
