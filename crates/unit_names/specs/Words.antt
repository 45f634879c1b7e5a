-- Names and literals as words, and lists of words in which each stands once.
use Rattle.std.specs.Prelude.{ℕ, suc, Bool, ◌&&◌, ◌==◌, if◌then◌else◌, List, [], ◌∷◌, ◌++◌, Option, Some, None}
use Rattle.std.specs.List.{list_any}
use Rattle.std.specs.Option.{option_map}
use Rattle.std.specs.Str.{bytes_eq}
use Rattle.node_tree.specs.declared.node.Node.{Node, roll-Node}
use Rattle.node_tree.specs.declared.kind.Kind.{Kind}
use Rattle.node_tree.specs.declared.kind.Kind.TheVariants as kinds
use Rattle.node_tree.specs.Order.{kind_place}
use Rattle.node_tree.specs.Tree.{kind_of, text_of, no_span}

-- a name or a literal: the kind of its node, and its text
pub record Word : Type 0 where
  pub kind : Kind
  pub text : List ℕ

abbrev pub word_of : Node → Word
word_of n = record { kind = kind_of n; text = text_of n }

abbrev pub name_word : List ℕ → Word
name_word text = record { kind = kinds.Name; text = text }

-- a node of that kind and text that stands nowhere
abbrev pub leaf : Word → Node
leaf w = roll-Node (record { kind = w.kind; text = w.text; kids = []; span = no_span })

abbrev pub same_word : Word → Word → Bool
same_word a b = (kind_place a.kind == kind_place b.kind) && bytes_eq a.text b.text

-- whether the word is one of these
abbrev pub is_one_of : List Word → Word → Bool
is_one_of words w = list_any (λ x. same_word x w) words

-- the first place of a word among these, if it is there
abbrev pub place_of : List Word → Word → Option ℕ
place_of [] w = None
place_of (x ∷ xs) w = if same_word x w then Some 0 else option_map suc (place_of xs w)

-- these words, and one more where it isn't among them
abbrev pub with_word : List Word → Word → List Word
with_word words w = if is_one_of words w then words else words ++ w ∷ []

-- the same with further words, one after the other
abbrev pub with_words : List Word → List Word → List Word
with_words words [] = words
with_words words (w ∷ ws) = with_words (with_word words w) ws

-- these words, each once
abbrev pub each_once : List Word → List Word
each_once = with_words []
