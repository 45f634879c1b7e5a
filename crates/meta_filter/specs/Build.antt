-- What each builder makes of its parts, and the tokens as the grammar sees them.
use Rattle.std.specs.Prelude.{ℕ, suc, max, List, [], ◌∷◌, ◌++◌, get_or, Option, Some, None}
use Rattle.rule_form.specs.declared.comparison.Comparison.{roll-Comparison}
use Rattle.rule_form.specs.declared.comparison.Comparison.TheOpen as truths
use Rattle.rule_form.specs.declared.comparison.CompareOp.{CompareOp}
use Rattle.grammar.specs.Rule.{Source}
use Rattle.meta_filter.specs.declared.token.Word.{Word}
use Rattle.meta_filter.specs.declared.token.Word.TheVariants.{End}
use Rattle.meta_filter.specs.declared.token.Token.{Token}
use Rattle.meta_filter.specs.declared.part.Part.{Part}
use Rattle.meta_filter.specs.declared.part.Links.{Links}
use Rattle.meta_filter.specs.declared.part.Meaning.{Meaning}
use Rattle.meta_filter.specs.declared.part.Meaning.TheVariants.{Truth, Number, Wrong}
use Rattle.meta_filter.specs.Words.{class}
use Rattle.meta_filter.specs.Parts.{part_of, figure, named, inside, enclosed, negative, inverse, joined, compare_op}
use Rattle.meta_filter.specs.Table.{Leaf, Figure, Named, Inside, Sign, Builder, FromLeft, Linked, Inverted, Negated, Enclosed}

-- what a row is made of: parts, and the operators between them
pub data Piece : Type 0 where
  part : Part → Piece
  sign : Word → Piece

abbrev pub end_token : Token
end_token = record { word = End; text = [] }

-- the token that stands there, or the end
abbrev pub token_at : List Token → ℕ → Token
token_at ts i = get_or ts i end_token

abbrev pub leaf : Leaf → Token → Piece
leaf Figure t = part (figure t.text)
leaf Named t = part (named t.text)
leaf Inside t = part (inside t.text)
leaf Sign t = sign t.word

-- how deep the deepest of some pieces is
abbrev pub depth : Piece → ℕ
depth (part p) = p.depth
depth (sign w) = 0

abbrev pub depth_all : List Piece → ℕ
depth_all [] = 0
depth_all (x ∷ xs) = max (depth x) (depth_all xs)

-- pieces that no row has, the deepest of this depth
abbrev pub nothing : ℕ → List Piece
nothing d = part (part_of (suc d) Wrong) ∷ []

-- a part, and then an operator and a part in turn, joined from the left
abbrev pub from_left : Part → List Piece → List Piece
from_left p [] = part p ∷ []
from_left p (sign op ∷ part q ∷ xs) = from_left (joined op p q) xs
from_left p xs = nothing (depth_all (part p ∷ xs))

-- the links of a chain that begins with a part, unless it is no number
abbrev pub first_link : Meaning → Option Links
first_link (Number a) = Some (record { amounts = a ∷ []; ops = [] })
first_link _ = None

-- one more operator and number
abbrev pub next_link : Option Links → Option CompareOp → Meaning → Option Links
next_link (Some links) (Some op) (Number a) = Some (record { amounts = links.amounts ++ a ∷ []; ops = links.ops ++ op ∷ [] })
next_link _ _ _ = None

abbrev pub chained : Option Links → Meaning
chained (Some links) = Truth (roll-Comparison (truths.Chain links.amounts links.ops))
chained None = Wrong

-- the chain of some links that are so deep, and of further operators and parts in turn
abbrev pub linked : ℕ → Option Links → List Piece → List Piece
linked d links [] = part (part_of (suc d) (chained links)) ∷ []
linked d links (sign op ∷ part q ∷ xs) = linked (max d q.depth) (next_link links (compare_op op) q.meaning) xs
linked d links xs = nothing (max d (depth_all xs))

-- a part alone is itself
abbrev pub chain : Part → List Piece → List Piece
chain p [] = part p ∷ []
chain p (x ∷ xs) = linked p.depth (first_link p.meaning) (x ∷ xs)

abbrev pub build : Builder → List Piece → List Piece
build FromLeft (part p ∷ xs) = from_left p xs
build Linked (part p ∷ xs) = chain p xs
build Inverted (part p ∷ []) = part (part_of (suc p.depth) (inverse p.meaning)) ∷ []
build Negated (part p ∷ []) = part (part_of (suc p.depth) (negative p.meaning)) ∷ []
build Enclosed (part p ∷ []) = part (enclosed p) ∷ []
build b xs = nothing (depth_all xs)

-- the tokens, for the grammar
abbrev pub source : List Token → Source Leaf Builder Piece
source ts = record {
  cls = λ i. class (token_at ts i).word;
  leaf = λ k i. leaf k (token_at ts i);
  build = λ b i j xs. build b xs;
}
