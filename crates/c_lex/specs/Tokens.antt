-- The tokens of C and the parts between them, as regular expressions.
-- The definitions in order: these, the keywords (`Keywords`), the classes of lexemes (`Classes`), the list of a text's tokens
-- (`Lexing`), its comments (`Comments`), and where both lie (`Places`).
use Rattle.std.specs.Prelude.{Bool, List, [], ◌∷◌, ◌++◌, codes, if◌then◌else◌, map}
use Rattle.node_tree.specs.declared.view.Mode.{Mode}
use Rattle.node_tree.specs.declared.view.Mode.TheVariants.{Text, Pattern}
use Rattle.lexing.specs.Rules.{To, digits, capitals, underscore, small_letters, other_starts, other_continues, Expression, OneOf, Then, Or, Many, the, but, exactly, maybe, some, any_of, in_order, Rule}
use Rattle.c_lex.specs.declared.progress.Class.{Class}
use Rattle.c_lex.specs.declared.progress.Class.TheVariants as classes
use Rattle.c_lex.specs.Classes.{number_of}

-- ---- names and numbers

abbrev pub name_more : Expression
name_more = OneOf (digits ∷ capitals ∷ underscore ∷ small_letters ∷ other_continues ∷ [])

-- an XID start character or `_`, and XID continue characters
abbrev pub name : Expression
name = Then (OneOf (capitals ∷ underscore ∷ small_letters ∷ other_starts ∷ [])) (Many name_more)

abbrev pub digit : Expression
digit = OneOf (digits ∷ [])

abbrev pub exponent_mark : Expression
exponent_mark = any_of (map exactly (codes "e" ∷ codes "E" ∷ codes "p" ∷ codes "P" ∷ []))

abbrev pub sign : Expression
sign = any_of (map exactly (codes "+" ∷ codes "-" ∷ []))

-- a sign after e, E, p or P; or an ASCII letter, a digit, `_` or a point
abbrev pub number_part : Expression
number_part = Or (Then exponent_mark sign) (OneOf (To 46 46 ∷ digits ∷ capitals ∷ underscore ∷ small_letters ∷ []))

-- a preprocessing number: a digit, or a point and a digit, and any number of such parts
abbrev pub number : Expression
number = Then (Or digit (Then (exactly (codes ".")) digit)) (Many number_part)

-- ---- strings and characters, without a line end; a backslash takes the next character along

-- a backslash and any character but a line feed
abbrev pub escape : Expression
escape = Then (the 92) (but (10 ∷ []))

abbrev pub prefix : Expression
prefix = any_of (map exactly (codes "L" ∷ codes "u" ∷ codes "U" ∷ []))

-- any character but a line feed, a quote and a backslash
abbrev pub string_char : Expression
string_char = Or (but (10 ∷ 34 ∷ 92 ∷ [])) escape

abbrev pub string : Expression
string = in_order (maybe (Or (exactly (codes "u8")) prefix) ∷ the 34 ∷ Many string_char ∷ the 34 ∷ [])

-- any character but a line feed, an apostrophe and a backslash
abbrev pub char_char : Expression
char_char = Or (but (10 ∷ 39 ∷ 92 ∷ [])) escape

abbrev pub character : Expression
character = in_order (maybe prefix ∷ the 39 ∷ some char_char ∷ the 39 ∷ [])

-- ---- marks

-- the punctuators of C11 6.4.6 without digraphs, `#` and `##`
abbrev pub mark : Expression
mark = any_of (map exactly (codes "[" ∷ codes "]" ∷ codes "(" ∷ codes ")" ∷ codes "{" ∷ codes "}" ∷ codes "." ∷ codes "->" ∷ codes "++" ∷ codes "--" ∷ codes "&" ∷ codes "*" ∷ codes "+" ∷ codes "-" ∷ codes "~" ∷ codes "!"
    ∷ codes "/" ∷ codes "%" ∷ codes "<<" ∷ codes ">>" ∷ codes "<" ∷ codes ">" ∷ codes "<=" ∷ codes ">=" ∷ codes "==" ∷ codes "!=" ∷ codes "^" ∷ codes "|" ∷ codes "&&" ∷ codes "||" ∷ codes "?" ∷ codes ":" ∷ codes ";" ∷ codes "..."
    ∷ codes "=" ∷ codes "*=" ∷ codes "/=" ∷ codes "%=" ∷ codes "+=" ∷ codes "-=" ∷ codes "<<=" ∷ codes ">>=" ∷ codes "&=" ∷ codes "^=" ∷ codes "|=" ∷ codes "," ∷ []))

-- ---- what patterns have besides

-- a capital letter or `_`, and capital letters, digits and `_`, all ASCII
abbrev pub meta_name : Expression
meta_name = Then (OneOf (capitals ∷ underscore ∷ [])) (Many (OneOf (digits ∷ capitals ∷ underscore ∷ [])))

abbrev pub deep : Expression
deep = any_of (map exactly (codes "<..." ∷ codes "...>" ∷ []))

-- ---- lines

-- LF or CR LF
abbrev pub line_end : Expression
line_end = Or (the 10) (exactly (13 ∷ 10 ∷ []))

-- a backslash before a line end
abbrev pub splice : Expression
splice = Then (the 92) line_end

-- any character but LF and CR, and carriage returns before it
abbrev pub in_line : Expression
in_line = Or (but (10 ∷ 13 ∷ [])) (Then (some (the 13)) (but (10 ∷ 13 ∷ [])))

-- `#` to the line's end; a line that ends in a backslash goes on with the next
abbrev pub directive : Expression
directive = Then (exactly (codes "#")) (Many (Or splice in_line))

-- space, tab, vertical tab and form feed
abbrev pub blank : Expression
blank = some (OneOf (To 9 9 ∷ To 11 12 ∷ To 32 32 ∷ []))

-- ---- comments

abbrev pub line_comment : Expression
line_comment = Then (exactly (codes "//")) (Many in_line)

abbrev pub stars : Expression
stars = some (exactly (codes "*"))

-- a part of a comment without a line feed: a character but `*`, or stars and a character but `*` and `/`
abbrev pub flat : Expression
flat = Or (but (10 ∷ 42 ∷ [])) (Then stars (but (10 ∷ 42 ∷ 47 ∷ [])))

-- a line feed in a comment
abbrev pub broken : Expression
broken = Or (the 10) (Then stars (the 10))

abbrev pub flat_or_broken : Expression
flat_or_broken = Or (but (42 ∷ [])) (Then stars (but (42 ∷ 47 ∷ [])))

abbrev pub comment_end : Expression
comment_end = Then stars (exactly (codes "/"))

-- a comment within a line
abbrev pub flat_comment : Expression
flat_comment = in_order (exactly (codes "/*") ∷ Many flat ∷ comment_end ∷ [])

-- a comment over several lines
abbrev pub long_comment : Expression
long_comment = in_order (exactly (codes "/*") ∷ Many flat ∷ broken ∷ Many flat_or_broken ∷ comment_end ∷ [])

-- ---- the rules

abbrev pub rule : Class → Expression → Rule
rule c e = record { word = number_of c; spelled = e }

-- at the start of a line a `#` begins a directive; elsewhere it is a mark
abbrev pub hash_rules : Bool → List Rule
hash_rules fresh = if fresh then rule classes.Directive directive ∷ [] else rule classes.Op (exactly (codes "#")) ∷ []

abbrev pub pattern_rules : Mode → List Rule
pattern_rules Text = []
pattern_rules Pattern = rule classes.Meta (Then (exactly (codes "$")) meta_name) ∷ rule classes.MetaDots (Then (exactly (codes "$...")) meta_name) ∷ rule classes.Op deep ∷ []

-- the start of a comment is the longest spelling only where no comment ends
abbrev pub common_rules : List Rule
common_rules = rule classes.Name name ∷ rule classes.Number number ∷ rule classes.Str string ∷ rule classes.Char character ∷ rule classes.Op mark ∷ rule classes.Blank blank ∷ rule classes.LineEnd (Or line_end splice)
    ∷ rule classes.Comment line_comment ∷ rule classes.Comment flat_comment ∷ rule classes.LongComment long_comment ∷ rule classes.OpenComment (exactly (codes "/*")) ∷ []

-- the rules in a mode, where the line has had no token yet or has had one
abbrev pub rules : Mode → Bool → List Rule
rules mode fresh = hash_rules fresh ++ pattern_rules mode ++ common_rules
