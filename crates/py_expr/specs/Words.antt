-- The words of the grammar: what a token is for it.
use Rattle.std.specs.Prelude.{ℕ, Bool, true, false, ◌==◌, ◌&&◌, if◌then◌else◌, List, [], ◌∷◌, codes}
use Rattle.std.specs.Str.{bytes_eq}
use Rattle.node_tree.specs.declared.view.Mode.{Mode}
use Rattle.node_tree.specs.declared.view.Mode.TheVariants.{Text, Pattern}
use Rattle.lexing.specs.WordList.{is_among}
use Rattle.py_lex.specs.declared.token.PyToken.{PyToken, out-PyToken}
use Rattle.py_lex.specs.declared.token.PyWord.{PyWord}
use Rattle.py_lex.specs.declared.token.PyWord.TheVariants as lexed
use Rattle.py_expr.specs.declared.word.Word.{Word}
use Rattle.py_expr.specs.declared.word.Word.TheVariants.{Other, Name, Meta, Number, Const, Ellipsis, Dots, MetaDots, Str, FStr, StrAny, LeftRound, RightRound, LeftSquare, RightSquare, LeftBrace, BraceDots, RightBrace, Comma, CommaDots, Colon, Dot, Equal, Walrus, Times, Slash, Factor, Sign, Tilde, Power, Shift, Ampersand, Caret, Bar, Compare, In, Is, Not, And, Or, If, Else, Lambda, For, Async, Await, Yield, From, DeepOpen, DeepClose, At, Semicolon, Arrow, Augmented, Newline, Indent, Dedent, End, As, Assert, Break, Class, Continue, Def, Del, Elif, Except, Finally, Global, Import, Nonlocal, Pass, Raise, Return, Try, While, With}

-- the class of a word in the grammar
unfoldable pub class : Word → ℕ
class Other = 0
class Name = 1
class Meta = 2
class Number = 3
class Const = 4
class Ellipsis = 5
class Dots = 6
class MetaDots = 7
class Str = 8
class FStr = 9
class StrAny = 10
class LeftRound = 11
class RightRound = 12
class LeftSquare = 13
class RightSquare = 14
class LeftBrace = 15
class BraceDots = 16
class RightBrace = 17
class Comma = 18
class CommaDots = 19
class Colon = 20
class Dot = 21
class Equal = 22
class Walrus = 23
class Times = 24
class Slash = 25
class Factor = 26
class Sign = 27
class Tilde = 28
class Power = 29
class Shift = 30
class Ampersand = 31
class Caret = 32
class Bar = 33
class Compare = 34
class In = 35
class Is = 36
class Not = 37
class And = 38
class Or = 39
class If = 40
class Else = 41
class Lambda = 42
class For = 43
class Async = 44
class Await = 45
class Yield = 46
class From = 47
class DeepOpen = 48
class DeepClose = 49
class At = 50
class Semicolon = 51
class Arrow = 52
class Augmented = 53
class Newline = 54
class Indent = 55
class Dedent = 56
class End = 57
class As = 58
class Assert = 59
class Break = 60
class Class = 61
class Continue = 62
class Def = 63
class Del = 64
class Elif = 65
class Except = 66
class Finally = 67
class Global = 68
class Import = 69
class Nonlocal = 70
class Pass = 71
class Raise = 72
class Return = 73
class Try = 74
class While = 75
class With = 76

-- what stands for a spelling in a list of pairs, or the word of no line of the grammar
abbrev pub by_byte : List (ℕ × Word) → ℕ → Word
by_byte [] c = Other
by_byte (row ∷ rows) c = if c == row.0 then row.1 else by_byte rows c

abbrev pub by_text : List (List ℕ × Word) → List ℕ → Word
by_text [] text = Other
by_text (row ∷ rows) text = if bytes_eq text row.0 then row.1 else by_text rows text

-- the marks of one byte, by its number in ASCII: ( ) [ ] { } , : . = * / % @ + - ~ & ^ | < > ;
abbrev pub short_marks : List (ℕ × Word)
short_marks = (40, LeftRound) ∷ (41, RightRound) ∷ (91, LeftSquare) ∷ (93, RightSquare) ∷ (123, LeftBrace) ∷ (125, RightBrace) ∷ (44, Comma) ∷ (58, Colon) ∷ (46, Dot) ∷ (61, Equal) ∷ (42, Times) ∷ (47, Slash) ∷ (37, Factor) ∷ (64, At) ∷ (43, Sign) ∷ (45, Sign) ∷ (126, Tilde) ∷ (38, Ampersand) ∷ (94, Caret) ∷ (124, Bar) ∷ (60, Compare) ∷ (62, Compare) ∷ (59, Semicolon) ∷ []

-- a word that patterns alone have
abbrev pub in_pattern : Mode → Word → Word
in_pattern Text word = Other
in_pattern Pattern word = word

abbrev pub dots_word : Mode → Word
dots_word Text = Ellipsis
dots_word Pattern = Dots

-- the marks of several bytes
abbrev pub long_marks : Mode → List (List ℕ × Word)
long_marks mode = (codes ":=", Walrus) ∷ (codes "**", Power) ∷ (codes "//", Factor) ∷ (codes "==", Compare) ∷ (codes "!=", Compare) ∷ (codes "<=", Compare) ∷ (codes ">=", Compare) ∷ (codes "<<", Shift) ∷ (codes ">>", Shift) ∷ (codes "...", dots_word mode) ∷ (codes "<...", in_pattern mode DeepOpen) ∷ (codes "...>", in_pattern mode DeepClose) ∷ (codes "->", Arrow) ∷ (codes "+=", Augmented) ∷ (codes "-=", Augmented) ∷ (codes "*=", Augmented) ∷ (codes "/=", Augmented) ∷ (codes "%=", Augmented) ∷ (codes "@=", Augmented) ∷ (codes "&=", Augmented) ∷ (codes "|=", Augmented) ∷ (codes "^=", Augmented) ∷ (codes "//=", Augmented) ∷ (codes ">>=", Augmented) ∷ (codes "<<=", Augmented) ∷ (codes "**=", Augmented) ∷ []

abbrev pub mark_word : Mode → List ℕ → Word
mark_word mode (c ∷ []) = by_byte short_marks c
mark_word mode text = by_text (long_marks mode) text

-- the keywords
abbrev pub keywords : List (List ℕ × Word)
keywords = (codes "in", In) ∷ (codes "is", Is) ∷ (codes "not", Not) ∷ (codes "and", And) ∷ (codes "or", Or) ∷ (codes "if", If) ∷ (codes "else", Else) ∷ (codes "None", Const) ∷ (codes "True", Const) ∷ (codes "False", Const) ∷ (codes "lambda", Lambda) ∷ (codes "for", For) ∷ (codes "async", Async) ∷ (codes "await", Await) ∷ (codes "yield", Yield) ∷ (codes "from", From) ∷ (codes "as", As) ∷ (codes "assert", Assert) ∷ (codes "break", Break) ∷ (codes "class", Class) ∷ (codes "continue", Continue) ∷ (codes "def", Def) ∷ (codes "del", Del) ∷ (codes "elif", Elif) ∷ (codes "except", Except) ∷ (codes "finally", Finally) ∷ (codes "global", Global) ∷ (codes "import", Import) ∷ (codes "nonlocal", Nonlocal) ∷ (codes "pass", Pass) ∷ (codes "raise", Raise) ∷ (codes "return", Return) ∷ (codes "try", Try) ∷ (codes "while", While) ∷ (codes "with", With) ∷ []

-- a string whose content is `...` and that has no prefix but `u`
abbrev pub dots_strings : List (List ℕ)
dots_strings = codes "'...'" ∷ codes "\"...\"" ∷ codes "'''...'''" ∷ codes "\"\"\"...\"\"\"" ∷ codes "u'...'" ∷ codes "u\"...\"" ∷ codes "u'''...'''" ∷ codes "u\"\"\"...\"\"\"" ∷ codes "U'...'" ∷ codes "U\"...\"" ∷ codes "U'''...'''" ∷ codes "U\"\"\"...\"\"\"" ∷ []

abbrev pub is_dots_string : List ℕ → Bool
is_dots_string text = is_among dots_strings text

abbrev pub string_word : Mode → List ℕ → Word
string_word Text text = Str
string_word Pattern text = if is_dots_string text then StrAny else Str

-- the token is `...` or `$...NAME`
abbrev pub dots_of : PyWord → List ℕ → Bool
dots_of lexed.MetaDots text = true
dots_of lexed.Op text = bytes_eq text (codes "...")
dots_of _ text = false

abbrev pub is_dots : PyToken → Bool
is_dots t = dots_of (out-PyToken t).word (out-PyToken t).text

-- the token is a comma or a closing brace
abbrev pub ends_of : PyWord → List ℕ → Bool
ends_of lexed.Op text = if bytes_eq text (codes ",") then true else bytes_eq text (codes "}")
ends_of _ text = false

abbrev pub ends_item : PyToken → Bool
ends_item t = ends_of (out-PyToken t).word (out-PyToken t).text

-- dots stand first, and then a comma or a closing brace
abbrev pub lone_dots : List PyToken → Bool
lone_dots (first ∷ second ∷ ts) = is_dots first && ends_item second
lone_dots ts = false

-- a comma or a brace of a pattern that stands before such dots has a word of its own
abbrev pub before_dots : Mode → Word → List PyToken → Word
before_dots Text word after = word
before_dots Pattern Comma after = if lone_dots after then CommaDots else Comma
before_dots Pattern LeftBrace after = if lone_dots after then BraceDots else LeftBrace
before_dots Pattern word after = word

abbrev pub word_by : Mode → PyWord → List ℕ → List PyToken → Word
word_by mode lexed.Name text after = Name
word_by mode lexed.Number text after = Number
word_by mode lexed.Keyword text after = by_text keywords text
word_by mode lexed.Str text after = string_word mode text
word_by mode lexed.Op text after = before_dots mode (mark_word mode text) after
word_by mode lexed.Meta text after = in_pattern mode Meta
word_by mode lexed.MetaDots text after = in_pattern mode MetaDots
word_by mode lexed.Newline text after = Newline
word_by mode lexed.Indent text after = Indent
word_by mode lexed.Dedent text after = Dedent
word_by mode lexed.End text after = End
word_by mode _ text after = Other

-- the word of a token before some others
abbrev pub word_of : Mode → PyToken → List PyToken → Word
word_of mode t after = word_by mode (out-PyToken t).word (out-PyToken t).text after
