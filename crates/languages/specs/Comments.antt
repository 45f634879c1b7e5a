-- Which comments texts have.
use Rattle.std.specs.Prelude.{◌≡◌, ◌⊎◌, ℕ, List, []}
use Rattle.node_tree.specs.declared.span.Span.{Span}
use Rattle.node_tree.specs.declared.view.Lang.{Lang}
use Rattle.node_tree.specs.declared.view.Lang.TheVariants.{Json, Python, C, Regex}
use Rattle.py_lex.specs.Comments as python
use Rattle.c_lex.specs.Comments as c

-- those that stand between its tokens, and none where it has no list of tokens
abbrev pub AreCommentsBy : (List ℕ → List Span → Type 0) → List ℕ → List Span → Type 0
AreCommentsBy Between text spans = Between text spans ⊎ ((spans ≡ []) × ((l : List Span) → Between text l → ⊥))

-- the text in the language has these comments, in this order
abbrev pub AreComments : Lang → List ℕ → List Span → Type 0
AreComments Json text spans = spans ≡ []
AreComments Python text spans = AreCommentsBy python.AreCommentsOf text spans
AreComments C text spans = AreCommentsBy c.AreCommentsOf text spans
AreComments Regex text spans = spans ≡ []
