-- The words that tokens are classed by, and what a token of each word gives a tree.
-- The definitions in order: the words here, what the next tokens settle (`Settling`), the grammar (`Table`), the nodes that its
-- builders make (`Build`), and the tree of a closed run (`Runs`), which is what `read_c` promises. `reader/` is the reader's own.
use Rattle.std.specs.Prelude.{ℕ, Bool, true, false, not, cond, if◌then◌else◌, List, [], ◌∷◌, codes}
use Rattle.grammar.specs.Rule.{has}
use Rattle.std.specs.Str.{bytes_eq}
use Rattle.std.specs.Io.BufRead.{strip_last}
use Rattle.node_tree.specs.declared.kind.Kind.{Kind}
use Rattle.node_tree.specs.declared.kind.Kind.TheVariants as kinds
use Rattle.node_tree.specs.declared.view.Mode.{Mode}
use Rattle.node_tree.specs.declared.view.Mode.TheVariants.{Text, Pattern}
use Rattle.c_lex.specs.declared.token.CWord.{CWord}
use Rattle.c_lex.specs.declared.token.CWord.TheVariants as tokens
use Rattle.c_lex.specs.declared.token.CToken.{CToken}
use Rattle.c_expr.specs.declared.word.Word.{Word}
use Rattle.c_expr.specs.declared.word.Word.TheVariants.{End, Name, Number, Str, Char, TypeWord, Tag, Qualifier, Sizeof, Break, Case, Continue, Default, Do, Else, For, Goto, If, Return, Switch, While, OpenRound, CloseRound, OpenSquare, CloseSquare, OpenCurly, CloseCurly, Comma, Semicolon, Colon, Question, Dot, Arrow, Step, Ampersand, Star, Sign, Flip, Slash, Shift, Order, Equality, Caret, Bar, And, Or, Equals, Assigns, Ellipsis, Directive, StrAny, Meta, MetaDots, Dots, DeepOpen, DeepClose, Other}
use Rattle.c_expr.specs.declared.word.Token.{Token}

-- the class of a word in the grammar; 0 stands for what is behind the last token
unfoldable pub class : Word → ℕ
class End = 0
class Name = 1
class Number = 2
class Str = 3
class Char = 4
class TypeWord = 5
class Tag = 6
class Qualifier = 7
class Sizeof = 8
class Break = 9
class Case = 10
class Continue = 11
class Default = 12
class Do = 13
class Else = 14
class For = 15
class Goto = 16
class If = 17
class Return = 18
class Switch = 19
class While = 20
class OpenRound = 21
class CloseRound = 22
class OpenSquare = 23
class CloseSquare = 24
class OpenCurly = 25
class CloseCurly = 26
class Comma = 27
class Semicolon = 28
class Colon = 29
class Question = 30
class Dot = 31
class Arrow = 32
class Step = 33
class Ampersand = 34
class Star = 35
class Sign = 36
class Flip = 37
class Slash = 38
class Shift = 39
class Order = 40
class Equality = 41
class Caret = 42
class Bar = 43
class And = 44
class Or = 45
class Equals = 46
class Assigns = 47
class Ellipsis = 48
class Directive = 49
class StrAny = 50
class Meta = 51
class MetaDots = 52
class Dots = 53
class DeepOpen = 54
class DeepClose = 55
class Other = 56

abbrev pub none_is_end : List Word → Bool
none_is_end [] = true
none_is_end (End ∷ ws) = false
none_is_end (w ∷ ws) = none_is_end ws

-- ---- the word of a token

-- a text and the word that it is
pub record Spelling : Type 0 where
  pub text : List ℕ
  pub word : Word

abbrev pub word_among : List Spelling → List ℕ → Word
word_among [] text = Other
word_among (s ∷ ss) text = if bytes_eq s.text text then s.word else word_among ss text

-- the marks (C11 6.4.6) but `...`, and those of patterns
abbrev pub marks : List Spelling
marks = record { text = codes "("; word = OpenRound } ∷ record { text = codes ")"; word = CloseRound } ∷ record { text = codes ","; word = Comma } ∷ record { text = codes ";"; word = Semicolon } ∷ record { text = codes "*"; word = Star } ∷ record { text = codes "="; word = Equals } ∷ record { text = codes "->"; word = Arrow } ∷ record { text = codes "."; word = Dot } ∷ record { text = codes "{"; word = OpenCurly } ∷ record { text = codes "}"; word = CloseCurly } ∷ record { text = codes "["; word = OpenSquare } ∷ record { text = codes "]"; word = CloseSquare } ∷ record { text = codes "&"; word = Ampersand } ∷ record { text = codes "-"; word = Sign } ∷ record { text = codes "+"; word = Sign } ∷ record { text = codes "=="; word = Equality } ∷ record { text = codes "!"; word = Flip } ∷ record { text = codes ":"; word = Colon } ∷ record { text = codes "<"; word = Order } ∷ record { text = codes "&&"; word = And } ∷ record { text = codes "||"; word = Or } ∷ record { text = codes "!="; word = Equality } ∷ record { text = codes ">"; word = Order } ∷ record { text = codes "++"; word = Step } ∷ record { text = codes "--"; word = Step } ∷ record { text = codes "|"; word = Bar } ∷ record { text = codes "<<"; word = Shift } ∷ record { text = codes "?"; word = Question } ∷ record { text = codes ">>"; word = Shift } ∷ record { text = codes "/"; word = Slash } ∷ record { text = codes ">="; word = Order } ∷ record { text = codes "<="; word = Order } ∷ record { text = codes "+="; word = Assigns } ∷ record { text = codes "~"; word = Flip } ∷ record { text = codes "%"; word = Slash } ∷ record { text = codes "|="; word = Assigns } ∷ record { text = codes "-="; word = Assigns } ∷ record { text = codes "&="; word = Assigns } ∷ record { text = codes "^"; word = Caret } ∷ record { text = codes "*="; word = Assigns } ∷ record { text = codes "/="; word = Assigns } ∷ record { text = codes "%="; word = Assigns } ∷ record { text = codes "<<="; word = Assigns } ∷ record { text = codes ">>="; word = Assigns } ∷ record { text = codes "^="; word = Assigns } ∷ record { text = codes "<..."; word = DeepOpen } ∷ record { text = codes "...>"; word = DeepClose } ∷ []

-- the keywords (C11 6.4.1)
abbrev pub keywords : List Spelling
keywords = record { text = codes "int"; word = TypeWord } ∷ record { text = codes "if"; word = If } ∷ record { text = codes "return"; word = Return } ∷ record { text = codes "struct"; word = Tag } ∷ record { text = codes "const"; word = Qualifier } ∷ record { text = codes "static"; word = Qualifier } ∷ record { text = codes "char"; word = TypeWord } ∷ record { text = codes "void"; word = TypeWord } ∷ record { text = codes "unsigned"; word = TypeWord } ∷ record { text = codes "sizeof"; word = Sizeof } ∷ record { text = codes "else"; word = Else } ∷ record { text = codes "for"; word = For } ∷ record { text = codes "case"; word = Case } ∷ record { text = codes "break"; word = Break } ∷ record { text = codes "long"; word = TypeWord } ∷ record { text = codes "while"; word = While } ∷ record { text = codes "goto"; word = Goto } ∷ record { text = codes "enum"; word = Tag } ∷ record { text = codes "switch"; word = Switch } ∷ record { text = codes "default"; word = Default } ∷ record { text = codes "inline"; word = Qualifier } ∷ record { text = codes "extern"; word = Qualifier } ∷ record { text = codes "typedef"; word = Qualifier } ∷ record { text = codes "union"; word = Tag } ∷ record { text = codes "continue"; word = Continue } ∷ record { text = codes "do"; word = Do } ∷ record { text = codes "double"; word = TypeWord } ∷ record { text = codes "float"; word = TypeWord } ∷ record { text = codes "short"; word = TypeWord } ∷ record { text = codes "signed"; word = TypeWord } ∷ record { text = codes "volatile"; word = Qualifier } ∷ record { text = codes "register"; word = Qualifier } ∷ record { text = codes "restrict"; word = Qualifier } ∷ record { text = codes "auto"; word = Qualifier } ∷ record { text = codes "_Bool"; word = TypeWord } ∷ record { text = codes "_Complex"; word = TypeWord } ∷ record { text = codes "_Noreturn"; word = Qualifier } ∷ []

abbrev pub dots_word : Mode → Word
dots_word Text = Ellipsis
dots_word Pattern = Dots

unfoldable pub other_mark : List ℕ → Word
other_mark text = word_among marks text

-- `...` is an ellipsis in a text, and dots in a pattern
unfoldable pub mark_word : Mode → List ℕ → Word
mark_word mode text = if bytes_eq (codes "...") text then dots_word mode else other_mark text

unfoldable pub keyword_word : List ℕ → Word
keyword_word text = word_among keywords text

-- in a pattern the string `"..."` has a word of its own
unfoldable pub str_word : Mode → List ℕ → Word
str_word Text text = Str
str_word Pattern text = if bytes_eq (codes "\"...\"") text then StrAny else Str

abbrev pub word_of : Mode → CWord → List ℕ → Word
word_of mode tokens.Name text = Name
word_of mode tokens.Keyword text = keyword_word text
word_of mode tokens.Number text = Number
word_of mode tokens.Str text = str_word mode text
word_of mode tokens.Char text = Char
word_of mode tokens.Op text = mark_word mode text
word_of mode tokens.Meta text = Meta
word_of mode tokens.MetaDots text = MetaDots
word_of mode tokens.Directive text = Directive
word_of mode tokens.End text = End

-- the classes that a pattern alone has
abbrev pub pattern_only : List ℕ
pattern_only = class StrAny ∷ class Meta ∷ class MetaDots ∷ class Dots ∷ class DeepOpen ∷ class DeepClose ∷ []

-- the classes of a mode; a pattern may have all
abbrev pub of_mode : Mode → ℕ → Bool
of_mode Text c = not (has pattern_only c)
of_mode Pattern c = true

-- a word of the mode; what patterns alone have stands in no tree of a text
unfoldable pub in_mode : Mode → Word → Word
in_mode mode word = cond (of_mode mode (class word)) word Other

-- a token of C, with its word
abbrev pub token_of : Mode → CToken → Token
token_of mode t = record { word = in_mode mode (word_of mode t.word t.text); text = t.text; span = t.span }

-- ---- what it gives a tree

-- the kind of the node that a token makes; marks and keywords make none
abbrev pub kind_of : Word → Kind
kind_of Name = kinds.Name
kind_of Number = kinds.Number
kind_of Str = kinds.Str
kind_of Char = kinds.Char
kind_of StrAny = kinds.StrAny
kind_of Meta = kinds.Meta
kind_of MetaDots = kinds.MetaDots
kind_of Dots = kinds.Dots
kind_of _ = kinds.Absent

-- the text of that node: as written, of a string or a character without the closing quote
abbrev pub shown : Word → List ℕ → List ℕ
shown Str text = strip_last 34 text
shown Char text = strip_last 39 text
shown StrAny text = []
shown Dots text = []
shown _ text = text
