-- What a rule in each standing still needs of the rest of the word, and that the table's moves keep it so: a line a
-- template.
use Rattle.std.specs.Prelude.{Bool, true, false, not, ◌&&◌, ◌||◌, List, [], ◌∷◌, map, get_or}
use Rattle.template.specs.declared.Kind.{Kind}
use Rattle.template.specs.Table.{lacks_y, table, moves_in, digit}
use Rattle.template.specs.Laws.Word.{is_x, is_y, is_empty, some, each, occurs, first, last}
use Rattle.template.specs.declared.Template.{Template}
use Rattle.template.specs.declared.Template.TheVariants.{Participation, AtMostOne, Init, End, RespondedExistence}
use Rattle.template.specs.declared.Template.TheVariants.{Response, AlternateResponse, ChainResponse, Precedence}
use Rattle.template.specs.declared.Template.TheVariants.{AlternatePrecedence, ChainPrecedence, CoExistence}
use Rattle.template.specs.declared.Template.TheVariants.{Succession, AlternateSuccession, ChainSuccession}
use Rattle.template.specs.declared.Template.TheVariants.{NotChainSuccession, NotSuccession, NotCoExistence}
use Rattle.template.specs.declared.Template.TheVariants.{AtLeast, AtMost, Exactly, Choice, ExclusiveChoice}

-- the parts of the meanings, as tests
abbrev pub response : List Kind → Bool
response w = each is_x w (λ u v. occurs is_y v)

-- a y comes before any x
abbrev pub y_first : List Kind → Bool
y_first w = some is_y w (λ u v. not (occurs is_x u))

abbrev pub alternate_response : List Kind → Bool
alternate_response w = each is_x w (λ u v. y_first v)

abbrev pub chain_response : List Kind → Bool
chain_response w = each is_x w (λ u v. first is_y v)

abbrev pub precedence : List Kind → Bool
precedence w = each is_y w (λ u v. occurs is_x u)

-- an x that no y follows
abbrev pub x_last : List Kind → Bool
x_last w = some is_x w (λ u v. not (occurs is_y v))

abbrev pub alternate_precedence : List Kind → Bool
alternate_precedence w = each is_y w (λ u v. x_last u)

abbrev pub chain_precedence : List Kind → Bool
chain_precedence w = each is_y w (λ u v. last is_x u)

-- the same two where an x stands before the word
abbrev pub alternate_precedence_after_x : List Kind → Bool
alternate_precedence_after_x w = each is_y w (λ u v. not (occurs is_y u) || x_last u)

abbrev pub chain_precedence_after_x : List Kind → Bool
chain_precedence_after_x w = each is_y w (λ u v. is_empty u || last is_x u)

abbrev pub not_chain_succession : List Kind → Bool
not_chain_succession w = each is_x w (λ u v. not (first is_y v))

abbrev pub not_succession : List Kind → Bool
not_succession w = each is_x w (λ u v. not (occurs is_y v))

abbrev pub at_most_one : List Kind → Bool
at_most_one w = each is_x w (λ u v. not (occurs is_x v))

-- at place q: whether the word is what a rule in standing q still needs; nothing of the templates that count, which
-- have laws of their own
abbrev pub needed : Template → List Kind → List Bool
needed Participation w = occurs is_x w ∷ true ∷ []
needed AtMostOne w = at_most_one w ∷ (not (occurs is_x w) && at_most_one w) ∷ false ∷ []
needed Init w = first is_x w ∷ true ∷ false ∷ []
needed End w = last is_x w ∷ (is_empty w || last is_x w) ∷ []
needed RespondedExistence w = (not (occurs is_x w) || occurs is_y w) ∷ occurs is_y w ∷ true ∷ []
needed Response w = response w ∷ (occurs is_y w && response w) ∷ []
needed AlternateResponse w = alternate_response w ∷ (y_first w && alternate_response w) ∷ false ∷ []
needed ChainResponse w = chain_response w ∷ (first is_y w && chain_response w) ∷ false ∷ []
needed Precedence w = precedence w ∷ true ∷ false ∷ []
needed AlternatePrecedence w = alternate_precedence w ∷ alternate_precedence_after_x w ∷ false ∷ []
needed ChainPrecedence w = chain_precedence w ∷ chain_precedence_after_x w ∷ false ∷ []
needed CoExistence w =
    ((not (occurs is_x w) || occurs is_y w) && (not (occurs is_y w) || occurs is_x w)) ∷ occurs is_y w ∷ occurs is_x w ∷ true
    ∷ []
needed Succession w = (response w && precedence w) ∷ (occurs is_y w && response w) ∷ response w ∷ false ∷ []
needed AlternateSuccession w =
    (alternate_response w && alternate_precedence w) ∷ (y_first w && (alternate_response w && alternate_precedence_after_x w))
    ∷ false ∷ []
needed ChainSuccession w =
    (chain_response w && chain_precedence w) ∷ (first is_y w && (chain_response w && chain_precedence_after_x w)) ∷ false ∷ []
needed NotChainSuccession w = not_chain_succession w ∷ (not (first is_y w) && not_chain_succession w) ∷ false ∷ []
needed NotSuccession w = not_succession w ∷ (not (occurs is_y w) && not_succession w) ∷ false ∷ []
needed NotCoExistence w = (not (occurs is_x w && occurs is_y w)) ∷ not (occurs is_y w) ∷ not (occurs is_x w) ∷ false ∷ []
needed (AtLeast n) w = []
needed (AtMost n) w = []
needed (Exactly n) w = []
needed Choice w = (occurs is_x w || occurs is_y w) ∷ true ∷ []
needed ExclusiveChoice w =
    ((occurs is_x w && not (occurs is_y w)) || (occurs is_y w && not (occurs is_x w))) ∷ not (occurs is_y w)
    ∷ not (occurs is_x w) ∷ false ∷ []

-- what is needed before a step of kind k, from what is needed after it
abbrev pub before : Template → Kind → List Bool → List Bool
before t k l = map (λ n. get_or l (digit (lacks_y t) k n) false) (moves_in (table t))
