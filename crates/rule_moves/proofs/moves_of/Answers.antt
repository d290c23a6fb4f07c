-- `moves_of` meets its contract: the words of each kind (`by_column`), and for each step those of its kind, by the laws
-- of `Filled`.
use Rattle.std.proofs.Common.{◌≡◌, refl, ap, ◌∙◌, Bool, ℕ, List, [], ◌∷◌, map, get_or, arith}
use Rattle.lists.specs.Laws.Elements.{filled_none, filled_more, filled_whole}
use Rattle.template.specs.Sequence.{is}
use Rattle.template.specs.declared.Kind.{Kind}
use Rattle.template.specs.declared.Kind.TheVariants.{X, Y, Other}
use Rattle.template.specs.Table.{kinds}
use Rattle.template.proofs.Laws.Standing.{kind_in_lem}
use Rattle.template.specs.Code.Columns.{column}
use Rattle.template.proofs.Laws.Columns.{by_column, rows_low}
use Rattle.values.specs.Code.Activations.{activations_of}
use Rattle.values.specs.Code.Moves.{next_word, changes_word, moves_of}
use Rattle.rule_moves.proofs.moves_of.Invariants.{kind}
use Rattle.rule_moves.proofs.moves_of.Goals as goal
use Rattle.rule_moves.proofs.moves_of.Goals.{After-kind_of-kind}

pub next_word-requires : goal.next_word-requires
next_word-requires c = rows_low _ _ c.requires.1

pub next_word-requires-2 : goal.next_word-requires-2
next_word-requires-2 c = rows_low _ _ c.requires.1

pub next_word-requires-3 : goal.next_word-requires-3
next_word-requires-3 c = rows_low _ _ c.requires.1

pub loop-step-init : goal.loop-step-init
loop-step-init c = (filled_none refl, λ other e. filled_none refl)

-- the words of the kinds
words_are : (c : After-kind_of-kind)
    → c.next_word.result ∷ c.next_word-2.result ∷ c.next_word-3.result ∷ [] ≡ map (next_word c.args.rule.template) kinds
words_are c =
    let e = c.requires.1 in
    λ i. c.next_word.ensures _ e i ∷ c.next_word-2.ensures _ e i ∷ c.next_word-3.ensures _ e i ∷ []

marks_are : (c : After-kind_of-kind) (other : Bool)
    → c.args.states.now ≡ activations_of c.args.rule.template other
    → c.changes_word.result ∷ c.changes_word-2.result ∷ c.changes_word-3.result ∷ []
    ≡ map (changes_word c.args.rule.template other) kinds
marks_are c other f =
    let e = c.requires.1 in
    λ i. c.changes_word.ensures _ other X (c.next_word.ensures _ e) f i
    ∷ c.changes_word-2.ensures _ other Y (c.next_word-2.ensures _ e) f i
    ∷ c.changes_word-3.ensures _ other Other (c.next_word-3.ensures _ e) f i ∷ []

-- the kind of the step
kind_is : (c : After-kind_of-kind) → c.kind_of-kind.result ≡ kind c.args.rule c.loop-step.step
kind_is c =
    let r = c.args.rule in
    c.kind_of-kind.ensures
    ∙ kind_in_lem r.template (is r.x) (is r.y) c.loop-step.step c.args.lacking c.requires.0

-- what stands there for the kind of the step
of_kind : (c : After-kind_of-kind) (f : Kind → ℕ) (l : List ℕ) → l ≡ map f kinds
    → get_or l (column c.kind_of-kind.result) 0 ≡ f (kind c.args.rule c.loop-step.step)
of_kind c f l e =
    ap (λ (m : List ℕ). get_or m (column c.kind_of-kind.result) 0) e ∙ by_column f 0 c.kind_of-kind.result
    ∙ ap f (kind_is c)

pub loop-step-preserved : goal.loop-step-preserved
loop-step-preserved c =
    let l = c.loop-step in
    let t = c.args.rule.template in
    let k = (goal.at.loop-step-preserved c).After-kind_of-kind in (
      filled_more l.invariant.0 (omega arith) _ (c.at_kind.ensures ∙ of_kind k (next_word t) _ (words_are k)),
      λ other f.
          filled_more (l.invariant.1 other f) (omega arith) _
          (c.at_kind-in-loop-step.ensures ∙ of_kind k (changes_word t other) _ (marks_are k other f)),
    )

pub returns : goal.returns
unfolding moves_of
returns c other f =
    let l = c.loop-step in
    λ i.
    record {
      next = filled_whole l.invariant.0 c.loop-step-test.false i;
      changes = filled_whole (l.invariant.1 other f) c.loop-step-test.false i;
    }
