-- `all` tests what `every` says of each byte.
use Rattle.std.proofs.Common.{refl, ◌∙◌, Bool, ◌&&◌, ℕ, rules, tests}
use Rattle.std.specs.List.{list_all}
use Rattle.std.proofs.lemmas.Iterator.{YieldsList-from_slice}
use Rattle.std.proofs.lemmas.Iterator.Search.{all_from_yields_List}
use Rattle.std.proofs.lemmas.List.Recursion.{same_from_clauses}
use Rattle.lists.specs.Exhaustive.{every}
use Rattle.rule_file.specs.Fault.{printable}
use Rattle.faults.proofs.all_printable.Goals as goal

pub returns : goal.returns
returns c =
    let bs = c.args.s.now in
    all_from_yields_List printable _ _ _ c.all.ensures.ran (YieldsList-from_slice bs cc)
    (λ x b q k. search (rules, tests))
    ∙ same_from_clauses (list_all printable) (every printable) (λ (b : ℕ) (r : Bool). printable b && r) refl
    (λ _ _. refl) (λ _ _. refl) bs
