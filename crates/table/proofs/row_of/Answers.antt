-- `row_of` meets its contract: a template that counts has the row of its limits, and any other stands in the table
-- at its place (`tables_at`).
use Rattle.std.proofs.Common.{rules, ◌≡◌, ℕ, [], ap, ◌∙◌, refl, T, not, get_or}
use Rattle.template.specs.declared.Template.{Template}
use Rattle.template.specs.declared.Template.TheVariants.{Participation, AtMostOne, Init, End, RespondedExistence}
use Rattle.template.specs.declared.Template.TheVariants.{Response, AlternateResponse, ChainResponse, Precedence}
use Rattle.template.specs.declared.Template.TheVariants.{AlternatePrecedence, ChainPrecedence, CoExistence}
use Rattle.template.specs.declared.Template.TheVariants.{Succession, AlternateSuccession, ChainSuccession}
use Rattle.template.specs.declared.Template.TheVariants.{NotChainSuccession, NotSuccession, NotCoExistence}
use Rattle.template.specs.declared.Template.TheVariants.{AtLeast, AtMost, Exactly, Choice, ExclusiveChoice}
use Rattle.template.specs.Number.{counting, table_place_of}
use Rattle.template.specs.Table.{table}
use Rattle.template.specs.Code.Columns.{columns, tables, tabled_row}
use Rattle.template.proofs.Laws.Columns.{tables_at}
use Rattle.table.proofs.row_of.Goals as goal

-- in the last arm the template is none of those that count
not_counting : (t : Template) → ((n : ℕ) → t ≡ AtLeast n → ⊥) → ((n : ℕ) → t ≡ AtMost n → ⊥)
    → ((n : ℕ) → t ≡ Exactly n → ⊥) → T (not (counting t))
not_counting Participation l m e = tt
not_counting AtMostOne l m e = tt
not_counting Init l m e = tt
not_counting End l m e = tt
not_counting RespondedExistence l m e = tt
not_counting Response l m e = tt
not_counting AlternateResponse l m e = tt
not_counting ChainResponse l m e = tt
not_counting Precedence l m e = tt
not_counting AlternatePrecedence l m e = tt
not_counting ChainPrecedence l m e = tt
not_counting CoExistence l m e = tt
not_counting Succession l m e = tt
not_counting AlternateSuccession l m e = tt
not_counting ChainSuccession l m e = tt
not_counting NotChainSuccession l m e = tt
not_counting NotSuccession l m e = tt
not_counting NotCoExistence l m e = tt
not_counting (AtLeast n) l m e = absurd (l n refl)
not_counting (AtMost n) l m e = absurd (m n refl)
not_counting (Exactly n) l m e = absurd (e n refl)
not_counting Choice l m e = tt
not_counting ExclusiveChoice l m e = tt

pub returns-in-AtLeast : goal.returns-in-AtLeast
unfolding columns table
returns-in-AtLeast c = search rules

pub returns-in-AtMost : goal.returns-in-AtMost
unfolding columns table
returns-in-AtMost c = search rules

pub returns-in-Exactly : goal.returns-in-Exactly
unfolding columns table
returns-in-Exactly c = search rules

pub returns-in_default : goal.returns-in_default
returns-in_default c =
    let t = c.args.template in
    let d = c.in_default in
    c.tabled_row.ensures
    ∙ ap (λ (k : ℕ). tabled_row (get_or tables k []) c.args.standing)
    (c.place_of.ensures ∙ ap table_place_of c.number_of.ensures)
    ∙ tables_at t (not_counting t d.not-AtLeast d.not-AtMost d.not-Exactly) c.args.standing c.requires
