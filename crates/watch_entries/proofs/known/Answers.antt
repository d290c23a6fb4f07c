-- `known` meets its contract: the standings of the rule's template.
use Rattle.std.proofs.Common.{ap, nat_lt}
use Rattle.watch_list.specs.Entry.{known_entry}
use Rattle.watch_entries.proofs.known.Goals as goal

pub returns : goal.returns
unfolding known_entry
returns c = ap (nat_lt c.args.entry.standing) c.standings_of.ensures
