-- The grammar of the expressions, types and declarators of C as a table: a row of a level for each line of the grammar (C11 6.5 to 6.7.9), with what patterns have besides.
use Rattle.std.specs.Prelude.{ℕ, Bool, true, false, List, [], ◌∷◌}
use Rattle.node_tree.specs.declared.kind.Kind.{Kind}
use Rattle.node_tree.specs.declared.kind.Kind.TheVariants as k
use Rattle.c_expr.specs.declared.word.Word.{Word}
use Rattle.c_expr.specs.declared.word.Word.TheVariants as w
use Rattle.c_expr.specs.Words.{class}
use Rattle.c_expr.specs.Settling.{names, spec_words, assignments, opens_cast, sizes_type, takes_type, opens_declarator, opens_enumerators}
use Rattle.grammar.specs.Tests.{say, go, ◌⇒◌, State, Automaton}
use Rattle.grammar.specs.Rule.{Rule, mark, word, ref, deep, again, around, choose, opt, must, rep, make, ◌·◌, ◌∣◌, Grammar}

pub data Level : Type 0 where
  Comma : Level
  CommaTail : Level
  Assign : Level
  AssignMore : Level
  Cond : Level
  CondPart : Level
  Or : Level
  OrOps : Level
  OrTail : Level
  And : Level
  AndOps : Level
  AndTail : Level
  BitOr : Level
  BitOrOps : Level
  BitOrTail : Level
  BitXor : Level
  BitXorOps : Level
  BitXorTail : Level
  BitAnd : Level
  BitAndOps : Level
  BitAndTail : Level
  Equality : Level
  EqualityOps : Level
  EqualityTail : Level
  Relational : Level
  RelationalOps : Level
  RelationalTail : Level
  Shift : Level
  ShiftOps : Level
  ShiftTail : Level
  Additive : Level
  AdditiveOps : Level
  AdditiveTail : Level
  Multiplicative : Level
  MultiplicativeOps : Level
  MultiplicativeTail : Level
  Cast : Level
  Unary : Level
  Sizeof : Level
  Postfix : Level
  PostfixTail : Level
  Suffix : Level
  Prim : Level
  Strings : Level
  StringsTail : Level
  Deep : Level
  Args : Level
  ArgsTail : Level
  Arg : Level
  Tname : Level
  Spec : Level
  SpecStart : Level
  QualifiersTail : Level
  Typed : Level
  TypedFirst : Level
  TypedTail : Level
  Group : Level
  Body : Level
  Enumerators : Level
  EnumeratorsTail : Level
  Enumerator : Level
  Fields : Level
  Field : Level
  Members : Level
  MembersTail : Level
  Member : Level
  Width : Level
  Declr : Level
  NamedDirect : Level
  DeclrFirst : Level
  Nameless : Level
  NamelessDirect : Level
  Maybe : Level
  MaybeDirect : Level
  DeclrTail : Level
  DeclrPart : Level
  Stars : Level
  Words : Level
  Params : Level
  ParamsTail : Level
  Param : Level
  Var : Level
  Init : Level
  Inis : Level
  InisTail : Level
  Ini : Level
  Desigs : Level
  DesigsTail : Level
  Desig : Level

-- A token is a leaf of its own kind, a name that is no expression, or a spelling that goes into the text of the node above it.
pub data Leaf : Type 0 where
  Own : Leaf
  AsId : Leaf
  Spelling : Leaf

-- What makes nodes (`Build.antt`). The number says how many kids a node has at least: what is left out is Absent.
pub data Builder : Type 0 where
  -- a node over others, without a text
  Over : Kind → ℕ → Builder
  -- the same with the text of its first token
  Named : Kind → ℕ → Builder
  -- a type, with the spellings as its text and the bodies as its kids
  TypeWords : Builder
  -- spellings joined
  Spellings : Builder
  -- a pointer, from its words and what it points to
  Pointer : Builder
  -- the first, with each of the others put over it in turn
  Chain : Builder
  -- the same over a name that is left out
  Rootless : Builder
  -- one string itself, or several joined
  Joined : Builder
  -- the first alone
  Widened : Builder

-- the builders that make a node above all that they are given
abbrev pub strong : Builder → Bool
strong (Over kind n) = true
strong (Named kind n) = true
strong TypeWords = true
strong Spellings = false
strong Pointer = true
strong Chain = false
strong Rootless = false
strong Joined = false
strong Widened = false

abbrev pub Row : Type 0
Row = Rule Leaf Builder Level

-- a token of this word, with no node
abbrev pub tok : Word → Row
tok c = mark (class c ∷ [])

abbrev pub round : Row → Row
round = around (class w.OpenRound ∷ []) (class w.CloseRound ∷ [])

abbrev pub square : Row → Row
square = around (class w.OpenSquare ∷ []) (class w.CloseSquare ∷ [])

abbrev pub curly : Row → Row
curly = around (class w.OpenCurly ∷ []) (class w.CloseCurly ∷ [])

-- parts with commas between them, and the loop behind the first
abbrev pub further : Level → Row
further part = opt (tok w.Comma · ref part · again)

abbrev pub listed : Level → Level → Row
listed part tail = opt (ref part · ref tail)

-- the same with a comma behind the last that may stand
abbrev pub trailing : Level → Row
trailing part = opt (tok w.Comma · opt (ref part · again))

abbrev pub trailed : Level → Level → Row
trailed part tail = opt (ref part · ref tail)

-- ---- sets of words

-- the unary operators in front of a cast
abbrev pub signs : List ℕ
signs = class w.Ampersand ∷ class w.Star ∷ class w.Sign ∷ class w.Flip ∷ []

-- what stands in front of the name of a member
abbrev pub accesses : List ℕ
accesses = class w.Dot ∷ class w.Arrow ∷ []

-- the expressions of one token, but strings
abbrev pub atoms : List ℕ
atoms = class w.Name ∷ class w.Number ∷ class w.Char ∷ class w.Meta ∷ class w.MetaDots ∷ class w.Dots ∷ []

abbrev pub strings : List ℕ
strings = class w.Str ∷ class w.StrAny ∷ []

-- what a string goes on with
abbrev pub joined : List ℕ
joined = class w.Str ∷ class w.StrAny ∷ class w.Name ∷ class w.Meta ∷ []

abbrev pub meta : List ℕ
meta = class w.Meta ∷ []

abbrev pub name : List ℕ
name = class w.Name ∷ []

abbrev pub tags : List ℕ
tags = class w.Tag ∷ []

abbrev pub qualifiers : List ℕ
qualifiers = class w.Qualifier ∷ []

-- the words that say a type alone
abbrev pub bare_words : List ℕ
bare_words = class w.Name ∷ class w.TypeWord ∷ []

-- the words that may follow it
abbrev pub later_words : List ℕ
later_words = class w.TypeWord ∷ class w.Qualifier ∷ []

-- what goes on with a spec that has no type yet
abbrev pub spec_goes_on : List ℕ
spec_goes_on = class w.Name ∷ class w.TypeWord ∷ class w.Tag ∷ class w.Qualifier ∷ []

-- what stands in the place of parameters
abbrev pub dots : List ℕ
dots = class w.Dots ∷ class w.MetaDots ∷ []

abbrev pub multiplicative_marks : List ℕ
multiplicative_marks = class w.Star ∷ class w.Slash ∷ []

abbrev pub additive_marks : List ℕ
additive_marks = class w.Sign ∷ []

abbrev pub shift_marks : List ℕ
shift_marks = class w.Shift ∷ []

abbrev pub relational_marks : List ℕ
relational_marks = class w.Order ∷ []

abbrev pub equality_marks : List ℕ
equality_marks = class w.Equality ∷ []

abbrev pub bit_and_marks : List ℕ
bit_and_marks = class w.Ampersand ∷ []

abbrev pub bit_xor_marks : List ℕ
bit_xor_marks = class w.Caret ∷ []

abbrev pub bit_or_marks : List ℕ
bit_or_marks = class w.Bar ∷ []

abbrev pub and_marks : List ℕ
and_marks = class w.And ∷ []

abbrev pub or_marks : List ℕ
or_marks = class w.Or ∷ []

-- ---- what each loop goes round; a loop is the row of its own name too

-- an operator and its right side
abbrev pub operation : List ℕ → Level → Row
operation cs right = make (Named k.Binary 0) (mark cs · ref right)

-- the operators up to those of a level, one level after another
abbrev pub up_to_multiplicative : Row
up_to_multiplicative = opt (ref MultiplicativeOps)

abbrev pub up_to_additive : Row
up_to_additive = opt (ref MultiplicativeOps) · opt (ref AdditiveOps)

abbrev pub up_to_shift : Row
up_to_shift = opt (ref MultiplicativeOps) · opt (ref AdditiveOps) · opt (ref ShiftOps)

abbrev pub up_to_relational : Row
up_to_relational = opt (ref MultiplicativeOps) · opt (ref AdditiveOps) · opt (ref ShiftOps) · opt (ref RelationalOps)

abbrev pub up_to_equality : Row
up_to_equality = opt (ref MultiplicativeOps) · opt (ref AdditiveOps) · opt (ref ShiftOps) · opt (ref RelationalOps) · opt (ref EqualityOps)

abbrev pub up_to_bit_and : Row
up_to_bit_and = opt (ref MultiplicativeOps) · opt (ref AdditiveOps) · opt (ref ShiftOps) · opt (ref RelationalOps) · opt (ref EqualityOps) · opt (ref BitAndOps)

abbrev pub up_to_bit_xor : Row
up_to_bit_xor = opt (ref MultiplicativeOps) · opt (ref AdditiveOps) · opt (ref ShiftOps) · opt (ref RelationalOps) · opt (ref EqualityOps) · opt (ref BitAndOps) · opt (ref BitXorOps)

abbrev pub up_to_bit_or : Row
up_to_bit_or = opt (ref MultiplicativeOps) · opt (ref AdditiveOps) · opt (ref ShiftOps) · opt (ref RelationalOps) · opt (ref EqualityOps) · opt (ref BitAndOps) · opt (ref BitXorOps) · opt (ref BitOrOps)

abbrev pub up_to_and : Row
up_to_and = opt (ref MultiplicativeOps) · opt (ref AdditiveOps) · opt (ref ShiftOps) · opt (ref RelationalOps) · opt (ref EqualityOps) · opt (ref BitAndOps) · opt (ref BitXorOps) · opt (ref BitOrOps) · opt (ref AndOps)

abbrev pub up_to_or : Row
up_to_or = opt (ref MultiplicativeOps) · opt (ref AdditiveOps) · opt (ref ShiftOps) · opt (ref RelationalOps) · opt (ref EqualityOps) · opt (ref BitAndOps) · opt (ref BitXorOps) · opt (ref BitOrOps) · opt (ref AndOps) · opt (ref OrOps)

-- the operators from those of a level on, and a condition
abbrev pub from_or : Row
from_or = opt (ref OrOps) · opt (ref CondPart)

abbrev pub from_and : Row
from_and = opt (ref AndOps) · from_or

abbrev pub from_bit_or : Row
from_bit_or = opt (ref BitOrOps) · from_and

abbrev pub from_bit_xor : Row
from_bit_xor = opt (ref BitXorOps) · from_bit_or

abbrev pub from_bit_and : Row
from_bit_and = opt (ref BitAndOps) · from_bit_xor

abbrev pub from_equality : Row
from_equality = opt (ref EqualityOps) · from_bit_and

abbrev pub from_relational : Row
from_relational = opt (ref RelationalOps) · from_equality

abbrev pub from_shift : Row
from_shift = opt (ref ShiftOps) · from_relational

abbrev pub from_additive : Row
from_additive = opt (ref AdditiveOps) · from_shift

abbrev pub from_multiplicative : Row
from_multiplicative = opt (ref MultiplicativeOps) · from_additive

-- the same, and not nothing
abbrev pub some_from_or : Row
some_from_or = ref OrOps · opt (ref CondPart) ∣ ref CondPart

abbrev pub some_from_and : Row
some_from_and = ref AndOps · from_or ∣ some_from_or

abbrev pub some_from_bit_or : Row
some_from_bit_or = ref BitOrOps · from_and ∣ some_from_and

abbrev pub some_from_bit_xor : Row
some_from_bit_xor = ref BitXorOps · from_bit_or ∣ some_from_bit_or

abbrev pub some_from_bit_and : Row
some_from_bit_and = ref BitAndOps · from_bit_xor ∣ some_from_bit_xor

abbrev pub some_from_equality : Row
some_from_equality = ref EqualityOps · from_bit_and ∣ some_from_bit_and

abbrev pub some_from_relational : Row
some_from_relational = ref RelationalOps · from_equality ∣ some_from_equality

abbrev pub some_from_shift : Row
some_from_shift = ref ShiftOps · from_relational ∣ some_from_relational

abbrev pub some_from_additive : Row
some_from_additive = ref AdditiveOps · from_shift ∣ some_from_shift

abbrev pub some_from_multiplicative : Row
some_from_multiplicative = ref MultiplicativeOps · from_additive ∣ some_from_additive

abbrev pub comma_round : Row
comma_round = opt (operation (class w.Comma ∷ []) Assign · again)

abbrev pub postfix_round : Row
postfix_round = opt (ref Suffix · again)

abbrev pub strings_round : Row
strings_round = opt (word Own joined · again)

abbrev pub qualifiers_round : Row
qualifiers_round = must spec_goes_on (word Spelling qualifiers · again ∣ ref Typed)

abbrev pub typed_round : Row
typed_round = opt ((word Spelling later_words ∣ ref Group) · again)

abbrev pub desigs_round : Row
desigs_round = opt (ref Desig · again)

-- ---- what the tests look at, token by token

-- 0: before the `(` of a cast
abbrev pub cast_bracket : State
cast_bracket = ((class w.OpenRound ∷ []) ⇒ go 1) ∷ []

-- 1: behind it
abbrev pub cast_inside : State
cast_inside = ((class w.TypeWord ∷ class w.Tag ∷ class w.Qualifier ∷ []) ⇒ say true) ∷ ((class w.Name ∷ class w.Meta ∷ []) ⇒ go 2) ∷ []

-- 2: behind `(` NAME
abbrev pub cast_behind_name : State
cast_behind_name = ((class w.Star ∷ []) ⇒ go 3) ∷ ((class w.CloseRound ∷ []) ⇒ go 4) ∷ []

-- 3: behind a `*`, before `)`
abbrev pub behind_star : State
behind_star = ((class w.Star ∷ []) ⇒ go 3) ∷ ((class w.CloseRound ∷ []) ⇒ say true) ∷ []

-- 4: behind `(` NAME `)`
abbrev pub cast_operand : State
cast_operand = ((class w.Name ∷ class w.Meta ∷ class w.Number ∷ class w.Str ∷ class w.StrAny ∷ class w.Char ∷ class w.OpenRound ∷ class w.Flip ∷ class w.Sizeof ∷ []) ⇒ say true) ∷ []

-- 5: before `sizeof`
abbrev pub size_word : State
size_word = ((class w.Sizeof ∷ []) ⇒ go 6) ∷ []

-- 6: behind it
abbrev pub size_bracket : State
size_bracket = ((class w.OpenRound ∷ []) ⇒ go 7) ∷ []

-- 7: behind `sizeof` `(`
abbrev pub size_inside : State
size_inside = ((class w.TypeWord ∷ class w.Tag ∷ class w.Qualifier ∷ []) ⇒ say true) ∷ ((class w.Name ∷ class w.Meta ∷ []) ⇒ go 8) ∷ []

-- 8: behind `sizeof` `(` NAME
abbrev pub size_behind_name : State
size_behind_name = ((class w.Star ∷ []) ⇒ go 3) ∷ []

-- 9: before an argument
abbrev pub argument_begins : State
argument_begins = ((class w.TypeWord ∷ class w.Tag ∷ class w.Qualifier ∷ []) ⇒ say true) ∷ ((class w.Name ∷ class w.Meta ∷ []) ⇒ go 10) ∷ []

-- 10: behind its NAME
abbrev pub argument_behind_name : State
argument_behind_name = ((class w.Star ∷ []) ⇒ go 11) ∷ []

-- 11: behind a `*` of it
abbrev pub argument_behind_star : State
argument_behind_star = ((class w.Star ∷ []) ⇒ go 11) ∷ ((class w.Comma ∷ class w.CloseRound ∷ []) ⇒ say true) ∷ []

-- 12: before the `(` of a nested declarator
abbrev pub declarator_bracket : State
declarator_bracket = ((class w.OpenRound ∷ []) ⇒ go 13) ∷ []

-- 13: behind it
abbrev pub declarator_inside : State
declarator_inside = ((class w.Star ∷ class w.OpenRound ∷ []) ⇒ say true) ∷ []

-- 14: before the `{` of enumerators
abbrev pub enumerators_bracket : State
enumerators_bracket = ((class w.OpenCurly ∷ []) ⇒ go 15) ∷ []

-- 15: behind it
abbrev pub enumerators_inside : State
enumerators_inside = ((class w.Name ∷ class w.Meta ∷ []) ⇒ go 16) ∷ []

-- 16: behind the NAME of the first
abbrev pub enumerators_behind_name : State
enumerators_behind_name = ((class w.Comma ∷ class w.Equals ∷ class w.CloseCurly ∷ []) ⇒ say true) ∷ []

abbrev pub automaton : Automaton
automaton = record { states = cast_bracket ∷ cast_inside ∷ cast_behind_name ∷ behind_star ∷ cast_operand ∷ size_word ∷ size_bracket ∷ size_inside ∷ size_behind_name ∷ argument_begins ∷ argument_behind_name ∷ argument_behind_star ∷ declarator_bracket ∷ declarator_inside ∷ enumerators_bracket ∷ enumerators_inside ∷ enumerators_behind_name ∷ []; most = 64 }

-- the levels whose closed runs are read
abbrev pub promised : List Level
promised = Comma ∷ Assign ∷ Cond ∷ Or ∷ Cast ∷ Unary ∷ Postfix ∷ Prim ∷ Tname ∷ Spec ∷ Declr ∷ Var ∷ []

-- opens_cast begins in state 0
-- sizes_type begins in state 5
-- takes_type begins in state 9
-- opens_declarator begins in state 12
-- opens_enumerators begins in state 14

-- The table.
abbrev pub table : Level → Row
-- ---- expressions
-- comma = comma "," assign                          Binary(,)[a, b] | assign                        (6.5.17)
table Comma = make Chain (ref Assign · ref CommaTail)
table CommaTail = rep CommaTail comma_round
-- assign = unary aop assign                         AssignE(op)[l, r] | cond                        (6.5.16)
-- a cond that begins with a cast has no assignment behind it, and any other begins with a unary
table Assign = choose opens_cast (make Chain (ref Cast · from_multiplicative)) (make Chain (ref Unary · opt (ref AssignMore)))
table AssignMore = make (Named k.AssignE 0) (mark assignments · deep Assign) ∣ some_from_multiplicative
-- A level of operators begins with a cast, and goes on with the operators up to its own, the tightest first.
-- multiplicative = multiplicative ("*" | "/" | "%") cast  Binary(op)[a, b] | cast                         (6.5.5)
table Multiplicative = make Chain (ref Cast · up_to_multiplicative)
table MultiplicativeOps = operation multiplicative_marks Cast · ref MultiplicativeTail
table MultiplicativeTail = rep MultiplicativeTail (opt (operation multiplicative_marks Cast · again))
-- additive = additive ("+" | "-") multiplicative      Binary(op)[a, b] | multiplicative               (6.5.6)
table Additive = make Chain (ref Cast · up_to_additive)
table AdditiveOps = operation additive_marks Multiplicative · ref AdditiveTail
table AdditiveTail = rep AdditiveTail (opt (operation additive_marks Multiplicative · again))
-- shift = shift ("<<" | ">>") additive                Binary(op)[a, b] | additive                     (6.5.7)
table Shift = make Chain (ref Cast · up_to_shift)
table ShiftOps = operation shift_marks Additive · ref ShiftTail
table ShiftTail = rep ShiftTail (opt (operation shift_marks Additive · again))
-- relational = relational ("<" | ">" | "<=" | ">=") shift  Binary(op)[a, b] | shift                        (6.5.8)
table Relational = make Chain (ref Cast · up_to_relational)
table RelationalOps = operation relational_marks Shift · ref RelationalTail
table RelationalTail = rep RelationalTail (opt (operation relational_marks Shift · again))
-- equality = equality ("==" | "!=") relational        Binary(op)[a, b] | relational                   (6.5.9)
table Equality = make Chain (ref Cast · up_to_equality)
table EqualityOps = operation equality_marks Relational · ref EqualityTail
table EqualityTail = rep EqualityTail (opt (operation equality_marks Relational · again))
-- bit_and = bit_and ("&") equality                    Binary(op)[a, b] | equality                     (6.5.10)
table BitAnd = make Chain (ref Cast · up_to_bit_and)
table BitAndOps = operation bit_and_marks Equality · ref BitAndTail
table BitAndTail = rep BitAndTail (opt (operation bit_and_marks Equality · again))
-- bit_xor = bit_xor ("^") bit_and                     Binary(op)[a, b] | bit_and                      (6.5.11)
table BitXor = make Chain (ref Cast · up_to_bit_xor)
table BitXorOps = operation bit_xor_marks BitAnd · ref BitXorTail
table BitXorTail = rep BitXorTail (opt (operation bit_xor_marks BitAnd · again))
-- bit_or = bit_or ("|") bit_xor                       Binary(op)[a, b] | bit_xor                      (6.5.12)
table BitOr = make Chain (ref Cast · up_to_bit_or)
table BitOrOps = operation bit_or_marks BitXor · ref BitOrTail
table BitOrTail = rep BitOrTail (opt (operation bit_or_marks BitXor · again))
-- and = and ("&&") bit_or                             Binary(op)[a, b] | bit_or                       (6.5.13)
table And = make Chain (ref Cast · up_to_and)
table AndOps = operation and_marks BitOr · ref AndTail
table AndTail = rep AndTail (opt (operation and_marks BitOr · again))
-- or = or ("||") and                                  Binary(op)[a, b] | and                          (6.5.14)
table Or = make Chain (ref Cast · up_to_or)
table OrOps = operation or_marks And · ref OrTail
table OrTail = rep OrTail (opt (operation or_marks And · again))
-- cond = lor "?" comma ":" cond                     Cond[c, a, b] | lor                             (6.5.15)
table Cond = make Chain (ref Cast · from_multiplicative)
table CondPart = make (Over k.Cond 0) (tok w.Question · deep Comma · tok w.Colon · deep Cond)
-- cast = "(" tname ")" cast                         Cast[TypeName, e] | unary                       (6.5.4)
table Cast = choose opens_cast (make (Over k.Cast 0) (round (deep Tname) · deep Cast)) (ref Unary)
-- unary = ("&" | "*" | "+" | "-" | "~" | "!") cast  Unary(op)[e]                                    (6.5.3)
--       | ("++" | "--") unary                       Unary(op)[e] | sizeof | postfix
table Unary = make (Named k.Unary 0) (mark signs · deep Cast) ∣ make (Named k.Unary 0) (tok w.Step · deep Unary) ∣ ref Sizeof ∣ ref Postfix
-- sizeof = "sizeof" unary  Unary(sizeof)[e] | "sizeof" "(" tname ")"  SizeofType[TypeName]          (6.5.3.4)
table Sizeof = choose sizes_type (make (Over k.SizeofType 0) (tok w.Sizeof · round (deep Tname))) (make (Named k.Unary 0) (tok w.Sizeof · deep Unary))
-- postfix = prim {"[" comma "]" Sub[e, i] | "(" args ")" Call[e, List] | ("." | "->") NAME Attr(mark)[e, Id] | ("++" | "--") Postfix(op)[e]}     (6.5.2)
table Postfix = make Chain (ref Prim · ref PostfixTail)
table PostfixTail = rep PostfixTail postfix_round
table Suffix = make (Over k.Sub 0) (square (deep Comma)) ∣ make (Over k.Call 0) (round (make (Over k.List 0) (deep Args))) ∣ make (Named k.Attr 0) (mark accesses · word AsId names) ∣ make (Named k.Postfix 0) (tok w.Step)
-- prim = NAME | NUMBER | CHAR | strings | "(" comma ")", in a pattern also Meta, MetaDots, Dots, deep (6.5.1)
table Prim = word Own atoms ∣ ref Strings ∣ round (deep Comma) ∣ ref Deep
-- strings = STRING {STRING | NAME}                  itself if one, else StrJoin[..]                 (6.4.5)
table Strings = make Joined (word Own strings · ref StringsTail)
table StringsTail = rep StringsTail strings_round
-- deep = "<..." comma "...>", in a pattern alone    Deep[e]
table Deep = make (Over k.Deep 0) (tok w.DeepOpen · deep Comma · tok w.DeepClose)
-- args = [arg {"," arg}]                            (6.5.2)
table Args = listed Arg ArgsTail
table ArgsTail = rep ArgsTail (further Arg)
-- arg = tname | assign
table Arg = choose takes_type (ref Tname) (ref Assign)
-- ---- types
-- tname = spec declr, of which the declr has no name          TypeName[Type, declr]                  (6.7.7)
table Tname = make (Over k.TypeName 2) (ref Spec · opt (ref Nameless))
-- spec = at least one of: words, one optional NAME, ("struct" | "union" | "enum") [NAME] [body]   Type(spellings)[body ..]     (6.7, 6.7.2)
-- the NAME is taken exactly where no type word and no other NAME stands before it; a Meta stands alone
table Spec = word Own meta ∣ make TypeWords (ref SpecStart)
-- qualifiers, and what else follows
table SpecStart = word Spelling qualifiers · ref QualifiersTail ∣ ref Typed
table QualifiersTail = rep QualifiersTail qualifiers_round
-- a NAME, a type word or a group, and then no NAME
table Typed = ref TypedFirst · ref TypedTail
table TypedFirst = word Spelling bare_words ∣ ref Group
table TypedTail = rep TypedTail typed_round
-- group = ("struct" | "union" | "enum") [NAME] [body]           (6.7.2.1, 6.7.2.2)
-- a NAME behind the word is the tag, and so would be a Meta, which stands in no spec of several words: so it is none
table Group = word Spelling tags · must names (word Spelling name) · opt (ref Body)
-- body = "{" {field} "}"  Fields[Decl ..] | "{" enumerator {"," enumerator} [","] "}"  EnumItems[EnumItem ..]
table Body = choose opens_enumerators (make (Over k.EnumItems 0) (curly (deep Enumerators))) (make (Over k.Fields 0) (curly (deep Fields)))
table Enumerators = trailed Enumerator EnumeratorsTail
table EnumeratorsTail = rep EnumeratorsTail (trailing Enumerator)
-- enumerator = NAME ["=" cond]                      EnumItem[Id, e]                                 (6.7.2.2)
table Enumerator = make (Over k.EnumItem 2) (word AsId names · opt (tok w.Equals · ref Cond))
table Fields = rep Fields (opt (ref Field · again))
-- field = spec [member {"," member}] ";"            Decl[Type, List]                                (6.7.2.1)
table Field = make (Over k.Decl 0) (ref Spec · make (Over k.List 0) (ref Members) · tok w.Semicolon)
table Members = listed Member MembersTail
table MembersTail = rep MembersTail (further Member)
-- member = declr [":" cond] ["=" init]              Var[declr, value], where the width has no node
table Member = make (Over k.Var 2) (ref Width · opt (tok w.Equals · ref Init))
table Width = make Widened (ref Declr · opt (tok w.Colon · ref Cond))
-- ---- declarators
-- declr = "*" words declr  Ptr(words)[declr] | Id | "(" declr ")" | declr "[" [assign] "]"  ArrayOf[declr, size] | declr "(" [params] ")"  FuncOf[declr, List]     (6.7.6)
table Declr = make Pointer (ref Stars · deep Declr) ∣ ref NamedDirect
table NamedDirect = make Chain (ref DeclrFirst · ref DeclrTail)
table DeclrFirst = round (deep Declr) ∣ word AsId names
-- the same without a name, or with a name that may be left out
table Nameless = make Pointer (ref Stars · opt (deep Nameless)) ∣ ref NamelessDirect
table NamelessDirect = choose opens_declarator (make Chain (round (deep Nameless) · ref DeclrTail)) (make Rootless (ref DeclrPart · ref DeclrTail))
table Maybe = make Pointer (ref Stars · opt (deep Maybe)) ∣ ref MaybeDirect
table MaybeDirect = choose opens_declarator (make Chain (round (deep Maybe) · ref DeclrTail)) (make Chain (word AsId names · ref DeclrTail) ∣ make Rootless (ref DeclrPart · ref DeclrTail))
table DeclrTail = rep DeclrTail (opt (ref DeclrPart · again))
table DeclrPart = make (Over k.ArrayOf 1) (square (opt (deep Assign))) ∣ make (Over k.FuncOf 0) (round (make (Over k.List 0) (deep Params)))
-- the words behind a "*"
table Stars = make Spellings (tok w.Star · ref Words)
table Words = rep Words (opt (word Spelling spec_words · again))
table Params = listed Param ParamsTail
table ParamsTail = rep ParamsTail (further Param)
-- param = spec [declr]  ParamC[Type, declr] | "..."  ParamC(...)[Absent, Absent], in a pattern also Dots, MetaDots      (6.7.6)
table Param = word Own dots ∣ make (Named k.ParamC 2) (tok w.Ellipsis) ∣ make (Over k.ParamC 2) (ref Spec · opt (ref Maybe))
-- ---- variables and their values
-- var = declr ["=" init]                            Var[declr, value]                               (6.7)
table Var = make (Over k.Var 2) (ref Declr · opt (tok w.Equals · ref Init))
-- init = "{" [ini {"," ini} [","]] "}"               InitList[ini ..] | assign                      (6.7.9)
table Init = make (Over k.InitList 0) (curly (deep Inis)) ∣ ref Assign
table Inis = trailed Ini InisTail
table InisTail = rep InisTail (trailing Ini)
-- ini = init | desig {desig} "=" init               Designated[List, init]
table Ini = make (Over k.Designated 0) (make (Over k.List 0) (ref Desigs) · tok w.Equals · ref Init) ∣ ref Init
table Desigs = ref Desig · ref DesigsTail
table DesigsTail = rep DesigsTail desigs_round
-- desig = "." NAME  DesField[Id] | "[" cond "]"  DesIndex[e]
table Desig = make (Over k.DesField 0) (tok w.Dot · word AsId names) ∣ make (Over k.DesIndex 0) (square (deep Cond))

-- A tree is at most 500 deep, and no token stands inside more than 500 open brackets.
abbrev pub grammar : Grammar Leaf Builder Level
grammar = record { table = table; opens = class w.OpenRound ∷ class w.OpenSquare ∷ class w.OpenCurly ∷ []; closes = class w.CloseRound ∷ class w.CloseSquare ∷ class w.CloseCurly ∷ []; most_depth = 500; most_brackets = 500 }
