-- `state_of` meets its contract: the value in a standing that the template has (`state_known`).
use Rattle.std.proofs.Common.{Bool, sym, ap, ◌∙◌}
use Rattle.values.specs.Value.{value_of}
use Rattle.watch_list.proofs.Laws.Entry.{known_low, state_known, state_unknown}
use Rattle.watch_entries.proofs.state_of.Goals as goal

pub returns-then-not-known : goal.returns-then-not-known
returns-then-not-known c = state_unknown _ _ _ (sym c.known.ensures ∙ c.if-not-known.true)

pub value_in-requires : goal.value_in-requires
value_in-requires c = known_low _ _ (sym c.known.ensures ∙ c.if-not-known.false)

pub returns : goal.returns
returns c =
    let l = c.lacks_y-lacking.ensures in
    state_known _ _ _ _ (sym c.known.ensures ∙ c.if-not-known.false)
    (c.value_in.ensures _ l c.rows_of-rows.ensures
    ∙ ap (λ (b : Bool). value_of c.args.rule.template b c.args.entry.standing) (c.has_other-other.ensures _ l))
