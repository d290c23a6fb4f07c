-- `any` tests what `among` says of the name at each place.
use Rattle.std.proofs.Common.{refl, ◌∙◌, Bool, ◌||◌, List, map, rules, tests}
use Rattle.std.specs.List.{list_any}
use Rattle.std.proofs.lemmas.Iterator.{YieldsList-from_slice}
use Rattle.std.proofs.lemmas.Iterator.Search.{any_from_yields_List}
use Rattle.std.proofs.lemmas.List.Recursion.{same_from_clauses}
use Rattle.fields.specs.Bytes.{same}
use Rattle.fields.specs.Laws.Bytes.{same_pointwise}
use Rattle.rule_file.specs.declared.Place.{Place}
use Rattle.rule_file.specs.Fault.{among}
use Rattle.rule_file.specs.Code.Held.{name_in}
use Rattle.faults.proofs.name_used.Goals as goal

pub returns : goal.returns
returns c =
    let places = c.args.places.now in
    let test = λ (p : Place). same c.args.name.now (name_in c.args.file.now p) in
    any_from_yields_List test _ _ _ c.any.ensures.ran (YieldsList-from_slice places cc)
    (λ x b q k. search (rules, tests, same_pointwise))
    ∙ same_from_clauses (list_any test) (λ (l : List Place). among c.args.name.now (map (name_in c.args.file.now) l))
    (λ (p : Place) (r : Bool). test p || r) refl (λ _ _. refl) (λ _ _. refl) places
