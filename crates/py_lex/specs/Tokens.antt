-- The tokens of Python and the parts between them, as regular expressions.
use Rattle.std.specs.Prelude.{ℕ, List, [], ◌∷◌, ◌++◌, codes, map}
use Rattle.node_tree.specs.declared.view.Mode.{Mode}
use Rattle.node_tree.specs.declared.view.Mode.TheVariants.{Text, Pattern}
use Rattle.lexing.specs.Rules.{To, digits, capitals, underscore, small_letters, other_starts, other_continues, Expression, OneOf, Then, Or, Many, the, but, exactly, maybe, some, any_of, in_order, Rule}
use Rattle.py_lex.specs.declared.class.Forms.{Forms}
use Rattle.py_lex.specs.declared.class.Forms.TheVariants.{Both, Short, Long, Neither}
use Rattle.py_lex.specs.declared.class.Class.{Class}
use Rattle.py_lex.specs.declared.class.Class.TheVariants as classes
use Rattle.py_lex.specs.Classes.{number_of}

abbrev pub anything : Expression
anything = but []

-- a letter in either case
abbrev pub letter : List ℕ → List ℕ → Expression
letter upper lower = Or (exactly upper) (exactly lower)

-- ---- names and numbers

abbrev pub name_more : Expression
name_more = OneOf (digits ∷ capitals ∷ underscore ∷ small_letters ∷ other_continues ∷ [])

-- an XID start character or `_`, and XID continue characters
abbrev pub name : Expression
name = Then (OneOf (capitals ∷ underscore ∷ small_letters ∷ other_starts ∷ [])) (Many name_more)

-- such digits with single `_` between them
abbrev pub listed : Expression → Expression
listed d = Then d (Many (Or d (Then (exactly (codes "_")) d)))

abbrev pub digit : Expression
digit = OneOf (digits ∷ [])

abbrev pub decimal : Expression
decimal = listed digit

abbrev pub hex_digit : Expression
hex_digit = OneOf (digits ∷ To 65 70 ∷ To 97 102 ∷ [])

-- a 0, a letter and digits
abbrev pub based : Expression → Expression → Expression
based l d = in_order (exactly (codes "0") ∷ l ∷ listed d ∷ [])

abbrev pub exponent : Expression
exponent = in_order (letter (codes "E") (codes "e") ∷ maybe (any_of (map exactly (codes "+" ∷ codes "-" ∷ []))) ∷ decimal ∷ [])

abbrev pub digits_first : Expression
digits_first = in_order (decimal ∷ maybe (Then (exactly (codes ".")) (maybe decimal)) ∷ maybe exponent ∷ [])

abbrev pub point_first : Expression
point_first = in_order (exactly (codes ".") ∷ decimal ∷ maybe exponent ∷ [])

abbrev pub number : Expression
number = any_of (based (letter (codes "X") (codes "x")) hex_digit ∷ based (letter (codes "O") (codes "o")) (OneOf (To 48 55 ∷ [])) ∷ based (letter (codes "B") (codes "b")) (OneOf (To 48 49 ∷ [])) ∷ Then (Or digits_first point_first) (maybe (letter (codes "J") (codes "j"))) ∷ [])

-- ---- strings

abbrev pub letter_r : Expression
letter_r = letter (codes "R") (codes "r")

abbrev pub letter_b : Expression
letter_b = letter (codes "B") (codes "b")

abbrev pub prefix : Expression
prefix = maybe (any_of (letter_r ∷ letter_b ∷ letter (codes "U") (codes "u") ∷ Then letter_b letter_r ∷ Then letter_r letter_b ∷ []))

-- a backslash takes the next character along
abbrev pub escape : Expression
escape = Then (the 92) anything

-- within `'`: no line end but behind a backslash, which takes a whole CR LF along
abbrev pub short_quote : Expression
short_quote = any_of (but (10 ∷ 39 ∷ 92 ∷ []) ∷ escape ∷ exactly (92 ∷ 13 ∷ 10 ∷ []) ∷ [])

abbrev pub short_double : Expression
short_double = any_of (but (10 ∷ 34 ∷ 92 ∷ []) ∷ escape ∷ exactly (92 ∷ 13 ∷ 10 ∷ []) ∷ [])

abbrev pub char_quote : Expression
char_quote = Or (but (39 ∷ 92 ∷ [])) escape

abbrev pub char_double : Expression
char_double = Or (but (34 ∷ 92 ∷ [])) escape

-- at most two quotes, and then a character that is none
abbrev pub long_of : ℕ → Expression → Expression
long_of q x = any_of (x ∷ Then (the q) x ∷ Then (exactly (q ∷ q ∷ [])) x ∷ [])

abbrev pub long_quote : Expression
long_quote = long_of 39 char_quote

abbrev pub long_double : Expression
long_double = long_of 34 char_double

abbrev pub short : ℕ → Expression → Expression
short q x = in_order (the q ∷ Many x ∷ the q ∷ [])

abbrev pub long : ℕ → Expression → Expression
long q x = in_order (exactly (q ∷ q ∷ q ∷ []) ∷ Many x ∷ exactly (q ∷ q ∷ q ∷ []) ∷ [])

abbrev pub string : Expression
string = Then prefix (any_of (short 39 short_quote ∷ short 34 short_double ∷ long 39 long_quote ∷ long 34 long_double ∷ []))

-- ---- f-strings, which end at their first closing quotes as other strings do

abbrev pub letter_f : Expression
letter_f = letter (codes "F") (codes "f")

abbrev pub f_prefix : Expression
f_prefix = any_of (letter_f ∷ Then letter_f letter_r ∷ Then letter_r letter_f ∷ [])

abbrev pub f_short : Expression
f_short = Then f_prefix (Or (short 39 short_quote) (short 34 short_double))

abbrev pub f_long : Expression
f_long = Then f_prefix (Or (long 39 long_quote) (long 34 long_double))

-- within an f-string: any text without braces, and doubled braces
abbrev pub f_text : Expression
f_text = some (any_of (but (123 ∷ 125 ∷ []) ∷ exactly (codes "{{") ∷ exactly (codes "}}") ∷ []))

-- within the format of a field: any text without braces
abbrev pub format_text : Expression
format_text = some (but (123 ∷ 125 ∷ []))

abbrev pub conversion : Expression
conversion = any_of (map exactly (codes "!r" ∷ codes "!s" ∷ codes "!a" ∷ []))

-- ---- marks

-- all but `:`, `:=` and brackets
abbrev pub mark : Expression
mark = any_of (map exactly (codes "+" ∷ codes "-" ∷ codes "*" ∷ codes "**" ∷ codes "/" ∷ codes "//" ∷ codes "%" ∷ codes "@" ∷ codes "<<" ∷ codes ">>" ∷ codes "&" ∷ codes "|" ∷ codes "^" ∷ codes "~" ∷ codes "<" ∷ codes ">" ∷ codes "<=" ∷ codes ">=" ∷ codes "==" ∷ codes "!="
    ∷ codes "," ∷ codes "." ∷ codes ";" ∷ codes "=" ∷ codes "->" ∷ codes "+=" ∷ codes "-=" ∷ codes "*=" ∷ codes "/=" ∷ codes "//=" ∷ codes "%=" ∷ codes "@=" ∷ codes "&=" ∷ codes "|=" ∷ codes "^=" ∷ codes ">>=" ∷ codes "<<=" ∷ codes "**=" ∷ codes "..." ∷ []))

abbrev pub colon : Expression
colon = any_of (map exactly (codes ":" ∷ codes ":=" ∷ []))

abbrev pub opening : Expression
opening = any_of (map exactly (codes "(" ∷ codes "[" ∷ codes "{" ∷ []))

abbrev pub closing : Expression
closing = any_of (map exactly (codes ")" ∷ codes "]" ∷ []))

-- a capital letter or `_`, and capital letters, digits and `_`, all ASCII
abbrev pub meta_name : Expression
meta_name = Then (OneOf (capitals ∷ underscore ∷ [])) (Many (OneOf (digits ∷ capitals ∷ underscore ∷ [])))

abbrev pub deep : Expression
deep = any_of (map exactly (codes "<..." ∷ codes "...>" ∷ []))

-- ---- between tokens

-- LF or CR LF
abbrev pub line_end : Expression
line_end = Or (the 10) (exactly (13 ∷ 10 ∷ []))

abbrev pub splice : Expression
splice = Then (the 92) line_end

-- any character but LF and CR, and carriage returns before it
abbrev pub in_line : Expression
in_line = Or (but (10 ∷ 13 ∷ [])) (Then (some (the 13)) (but (10 ∷ 13 ∷ [])))

abbrev pub comment : Expression
comment = Then (exactly (codes "#")) (Many in_line)

-- space, tab and form feed
abbrev pub blank : Expression
blank = some (OneOf (To 9 9 ∷ To 12 12 ∷ To 32 32 ∷ []))

-- ---- the rules

abbrev pub rule : Class → Expression → Rule
rule c e = record { word = number_of c; spelled = e }

abbrev pub pattern_rules : Mode → List Rule
pattern_rules Text = []
pattern_rules Pattern = rule classes.Meta (Then (exactly (codes "$")) meta_name) ∷ rule classes.MetaDots (Then (exactly (codes "$...")) meta_name) ∷ rule classes.Mark deep ∷ []

-- the forms of f-strings that are looked for
abbrev pub form_rules : Forms → List Rule
form_rules Both = rule classes.FShort f_short ∷ rule classes.FLong f_long ∷ []
form_rules Short = rule classes.FShort f_short ∷ []
form_rules Long = rule classes.FLong f_long ∷ []
form_rules Neither = []

abbrev pub common_rules : List Rule
common_rules = rule classes.Name name ∷ rule classes.Number number ∷ rule classes.Str string ∷ rule classes.Mark mark ∷ rule classes.Opening opening ∷ rule classes.Closing closing ∷ rule classes.Blank blank ∷ rule classes.LineEnd line_end ∷ rule classes.Splice splice ∷ rule classes.Comment comment ∷ []

-- the rules of a text, and of a field of an f-string within brackets
abbrev pub rules : Mode → Forms → List Rule
rules mode forms = form_rules forms ++ pattern_rules mode ++ (rule classes.Mark colon ∷ rule classes.Closing (exactly (codes "}")) ∷ common_rules)

-- in a field outside brackets `}`, `:` and a conversion end the expression
abbrev pub field_rules : Mode → Forms → List Rule
field_rules mode forms = form_rules forms ++ pattern_rules mode ++ (rule classes.Colon (exactly (codes ":")) ∷ rule classes.FieldEnd (exactly (codes "}")) ∷ rule classes.Conversion conversion ∷ common_rules)

abbrev pub converted_rules : List Rule
converted_rules = rule classes.Colon (exactly (codes ":")) ∷ rule classes.FieldEnd (exactly (codes "}")) ∷ []

abbrev pub text_rules : List Rule
text_rules = rule classes.Plain f_text ∷ rule classes.FieldStart (exactly (codes "{")) ∷ []

abbrev pub format_rules : List Rule
format_rules = rule classes.Plain format_text ∷ rule classes.FieldStart (exactly (codes "{")) ∷ rule classes.FieldEnd (exactly (codes "}")) ∷ []
