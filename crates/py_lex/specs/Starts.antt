-- Which lexemes are looked for, and where the automaton's table has the start for them.
use Rattle.std.specs.Prelude.{ℕ, ◌+◌, List}
use Rattle.node_tree.specs.declared.view.Mode.{Mode}
use Rattle.node_tree.specs.declared.view.Mode.TheVariants as modes
use Rattle.lexing.specs.Rules.{Rule}
use Rattle.py_lex.specs.Tokens.{rules, field_rules, converted_rules, text_rules, format_rules}
use Rattle.py_lex.specs.declared.class.Class.{Class}
use Rattle.py_lex.specs.declared.class.Class.TheVariants.{FShort, FLong}
use Rattle.py_lex.specs.declared.class.Forms.{Forms}
use Rattle.py_lex.specs.declared.class.Forms.TheVariants.{Both, Short, Long, Neither}
use Rattle.py_lex.specs.declared.parts.Lexemes.{Lexemes}
use Rattle.py_lex.specs.declared.parts.Lexemes.TheVariants.{Text, Field, Converted, Plain, Format}

-- the rules of lexemes in a mode, with some forms of f-strings
abbrev pub rules_of : Lexemes → Mode → Forms → List Rule
rules_of Text mode forms = rules mode forms
rules_of Field mode forms = field_rules mode forms
rules_of Converted mode forms = converted_rules
rules_of Plain mode forms = text_rules
rules_of Format mode forms = format_rules

-- the forms but that of the class
abbrev pub fewer : Class → Forms → Forms
fewer FShort Both = Long
fewer FShort Short = Neither
fewer FLong Both = Short
fewer FLong Long = Neither
fewer _ forms = forms

-- the place of a mode and forms among eight
abbrev pub form_place : Mode → Forms → ℕ
form_place modes.Text Both = 0
form_place modes.Text Short = 1
form_place modes.Text Long = 2
form_place modes.Text Neither = 3
form_place modes.Pattern Both = 4
form_place modes.Pattern Short = 5
form_place modes.Pattern Long = 6
form_place modes.Pattern Neither = 7

-- the place of the start in the table's list of starts
abbrev pub start_place : Lexemes → Mode → Forms → ℕ
start_place Text mode forms = form_place mode forms
start_place Field mode forms = 8 + form_place mode forms
start_place Converted mode forms = 16
start_place Plain mode forms = 17
start_place Format mode forms = 18
