-- `all_known` meets its contract: what `all` says of rules and entries together is what is said of each place
-- (`known_together`).
use Rattle.std.proofs.Common.{◌∙◌, rules}
use Rattle.std.proofs.lemmas.Iterator.{YieldsList-from_slice, YieldsList-from_zip}
use Rattle.std.proofs.lemmas.Iterator.Search.{all_from_yields_List}
use borrow.Author.Tests.{tests}
use Rattle.rule.specs.declared.Rule.{Rule}
use Rattle.watch_list.specs.declared.Watch.{Watch}
use Rattle.watch_list.specs.Entry.{known_entry}
use Rattle.watch_list.proofs.Laws.List.{known_together}
use Rattle.watch.proofs.all_known.Goals as goal

pub returns : goal.returns
returns c =
    let all = c.args.rules.now in
    let list = c.args.list.now in
    all_from_yields_List (λ (p : Rule × Watch). known_entry p.0 p.1) c.all.new.self _ _ c.all.ensures.ran
    (YieldsList-from_zip (YieldsList-from_slice all cc) (YieldsList-from_slice list cc))
    (λ x b q k. search (rules, tests))
    ∙ known_together all list c.requires
