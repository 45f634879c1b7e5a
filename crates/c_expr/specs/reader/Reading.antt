-- Steps of the reader: what each of its functions reads. No promise of `read_c` cites them; of the public functions only `read_level` and `list` do, over which `c_items` reads.
use Rattle.std.specs.Prelude.{ℕ, zero, suc, Bool, true, false, cond, List, [], ◌∷◌, length, get_or, Option, Some, None, Vec}
use Rattle.std.specs.declared.alloc.Global.{Global}
use Rattle.node_tree.specs.declared.kind.Kind.TheVariants as kinds
use Rattle.grammar.specs.Rule.{has}
use Rattle.grammar.specs.Reader.{read_level, ◌>>=◌}
use Rattle.c_expr.specs.declared.word.Word.{Word}
use Rattle.c_expr.specs.declared.word.Word.TheVariants as w
use Rattle.c_expr.specs.declared.word.Token.{Token}
use Rattle.c_expr.specs.declared.part.Part.{Part}
use Rattle.c_expr.specs.declared.part.Spelt.{Spelt}
use Rattle.c_expr.specs.declared.operators.Precedence.{Precedence}
use Rattle.c_expr.specs.declared.operators.Precedence.TheVariants as p
use Rattle.c_expr.specs.declared.lists.Listed.{Listed}
use Rattle.c_expr.specs.declared.lists.Listed.TheVariants as listed
use Rattle.c_expr.specs.declared.declarators.Naming.{Naming}
use Rattle.c_expr.specs.declared.declarators.Naming.TheVariants as naming
use Rattle.c_expr.specs.Words.{class}
use Rattle.c_expr.specs.Table as t
use Rattle.c_expr.specs.Table.{Level, table}
use Rattle.c_expr.specs.Settling.{names, opens_declarator}
use Rattle.c_expr.specs.Build.{token_at, span_between, list_of, cut_source, leaf, over, cut, graft_cut, gathered}
use Rattle.c_expr.specs.reader.Sets.{sets, ranks}

-- the reader of a level, by the table
unfoldable pub level : List Token → ℕ → Level → ℕ → Option (List Part × ℕ)
level ts room l i = read_level (cut_source ts) sets (suc (length ts)) table ranks.top room l i

-- the same, or nothing where no token of those that begin the level stands there
abbrev pub optional : List Token → ℕ → Level → ℕ → Option (List Part × ℕ)
optional ts room l i = cond (has (sets.first l) (class (token_at ts i).word)) (level ts room l i) (Some ([], i))

-- one part and where it ends
abbrev pub one : Part × ℕ → List Part × ℕ
one x = (x.0 ∷ [], x.1)

-- several
abbrev pub parts : Vec Part Global × ℕ → List Part × ℕ
parts x = (x.0.items, x.1)

abbrev pub maybe : Option Part × ℕ → List Part × ℕ
maybe x = (list_of x.0, x.1)

-- what stands behind `=`, if it stands there
abbrev pub behind_equals : List Token → ℕ → Level → ℕ → Option (List Part × ℕ)
behind_equals ts room l i = cond (has (class w.Equals ∷ []) (class (token_at ts i).word)) (level ts room l (suc i)) (Some ([], i))

-- what is read, put over what stands before it
unfoldable pub grafting : ℕ → Part → Option (List Part × ℕ) → Option (List Part × ℕ)
grafting from left read = read >>= λ x. Some (graft_cut from left x.0 ∷ [], x.1)

-- what is read, behind spellings and others so far
unfoldable pub gathering : List ℕ × List Part → Option (List Part × ℕ) → Option ((List ℕ × List Part) × ℕ)
gathering s read = read >>= λ x. Some (gathered s x.0, x.1)

-- spellings and others, and where they end
abbrev pub seen : Spelt × ℕ → (List ℕ × List Part) × ℕ
seen x = ((x.0.text, x.0.kids.items), x.1)

-- spellings alone
abbrev pub words_seen : List ℕ × ℕ → (List ℕ × List Part) × ℕ
words_seen x = ((x.0, []), x.1)

-- ---- levels of operators

-- all levels, the tightest first
abbrev pub levels : List Precedence
levels = p.Multiplicative ∷ p.Additive ∷ p.Shift ∷ p.Relational ∷ p.Equality ∷ p.BitAnd ∷ p.BitXor ∷ p.BitOr ∷ p.And ∷ p.Or ∷ []

-- the level that binds so loosely
abbrev pub level_at : ℕ → Precedence
level_at n = get_or levels n p.Or

-- how loosely the operators of a level bind
abbrev pub looseness : Precedence → ℕ
looseness p.Multiplicative = 0
looseness p.Additive = 1
looseness p.Shift = 2
looseness p.Relational = 3
looseness p.Equality = 4
looseness p.BitAnd = 5
looseness p.BitXor = 6
looseness p.BitOr = 7
looseness p.And = 8
looseness p.Or = 9

-- so many levels, from one that binds so loosely on
unfoldable pub levels_from : ℕ → ℕ → List Precedence
levels_from zero n = []
levels_from (suc more) n = level_at n ∷ levels_from more (suc n)

abbrev pub chain_level : Precedence → Level
chain_level p.Multiplicative = t.Multiplicative
chain_level p.Additive = t.Additive
chain_level p.Shift = t.Shift
chain_level p.Relational = t.Relational
chain_level p.Equality = t.Equality
chain_level p.BitAnd = t.BitAnd
chain_level p.BitXor = t.BitXor
chain_level p.BitOr = t.BitOr
chain_level p.And = t.And
chain_level p.Or = t.Or

-- one or more operators of the level, each with its right side
abbrev pub ops_level : Precedence → Level
ops_level p.Multiplicative = t.MultiplicativeOps
ops_level p.Additive = t.AdditiveOps
ops_level p.Shift = t.ShiftOps
ops_level p.Relational = t.RelationalOps
ops_level p.Equality = t.EqualityOps
ops_level p.BitAnd = t.BitAndOps
ops_level p.BitXor = t.BitXorOps
ops_level p.BitOr = t.BitOrOps
ops_level p.And = t.AndOps
ops_level p.Or = t.OrOps

-- the same behind the first
abbrev pub tail_level : Precedence → Level
tail_level p.Multiplicative = t.MultiplicativeTail
tail_level p.Additive = t.AdditiveTail
tail_level p.Shift = t.ShiftTail
tail_level p.Relational = t.RelationalTail
tail_level p.Equality = t.EqualityTail
tail_level p.BitAnd = t.BitAndTail
tail_level p.BitXor = t.BitXorTail
tail_level p.BitOr = t.BitOrTail
tail_level p.And = t.AndTail
tail_level p.Or = t.OrTail

abbrev pub operators : Precedence → List Word
operators p.Multiplicative = w.Star ∷ w.Slash ∷ []
operators p.Additive = w.Sign ∷ []
operators p.Shift = w.Shift ∷ []
operators p.Relational = w.Order ∷ []
operators p.Equality = w.Equality ∷ []
operators p.BitAnd = w.Ampersand ∷ []
operators p.BitXor = w.Caret ∷ []
operators p.BitOr = w.Bar ∷ []
operators p.And = w.And ∷ []
operators p.Or = w.Or ∷ []

abbrev pub tighter : Precedence → Option Precedence
tighter p.Multiplicative = None
tighter p.Additive = Some p.Multiplicative
tighter p.Shift = Some p.Additive
tighter p.Relational = Some p.Shift
tighter p.Equality = Some p.Relational
tighter p.BitAnd = Some p.Equality
tighter p.BitXor = Some p.BitAnd
tighter p.BitOr = Some p.BitXor
tighter p.And = Some p.BitOr
tighter p.Or = Some p.And

-- the level of the right side
abbrev pub right_level : Option Precedence → Level
right_level None = t.Cast
right_level (Some inner) = chain_level inner

-- the operators of levels, one after another, put over what stands before them
abbrev pub climbs : List Token → ℕ → ℕ → List Precedence → List Part → ℕ → Option (List Part × ℕ)
climbs ts room from [] ps i = Some (ps, i)
climbs ts room from (k ∷ ks) [] i = None
climbs ts room from (k ∷ ks) (p ∷ []) i = grafting from p (optional ts room (ops_level k) i) >>= λ z. climbs ts room from ks z.0 z.1
climbs ts room from (k ∷ ks) (p ∷ q ∷ ps) i = None

-- the same up to a level
unfoldable pub climbed : List Token → ℕ → ℕ → Precedence → Part → ℕ → Option (List Part × ℕ)
climbed ts room from k p i = climbs ts room from (levels_from (suc (looseness k)) 0) (p ∷ []) i

-- what is read put over one part
abbrev pub regraft : ℕ → List Part → Option (List Part × ℕ) → Option (List Part × ℕ)
regraft from [] read = None
regraft from (p ∷ []) read = grafting from p read
regraft from (p ∷ q ∷ ps) read = None

-- the operators of all levels, and a condition
abbrev pub condition : List Token → ℕ → ℕ → Part → ℕ → Option (List Part × ℕ)
condition ts room from first i = climbed ts room from p.Or first i >>= λ z. regraft from z.0 (optional ts room t.CondPart z.1)

-- ---- types

-- one of these words, or a group
abbrev pub word_or_group : List Token → ℕ → List ℕ → ℕ → Option (List Part × ℕ)
word_or_group ts room cs i = cond (has cs (class (token_at ts i).word)) (Some (leaf ts t.Spelling i ∷ [], suc i)) (level ts room t.Group i)

-- ---- lists

abbrev pub trails : Listed → Bool
trails listed.Args = false
trails listed.Params = false
trails listed.Members = false
trails listed.Enumerators = true
trails listed.Initializers = true

abbrev pub item_starts : Listed → List Word
item_starts listed.Args = w.Star ∷ w.Sign ∷ w.Ampersand ∷ w.OpenRound ∷ w.Flip ∷ w.Step ∷ w.Sizeof ∷ w.Name ∷ w.Meta ∷ w.Number ∷ w.Char ∷ w.MetaDots ∷ w.Dots ∷ w.Str ∷ w.StrAny ∷ w.DeepOpen ∷ w.Qualifier ∷ w.TypeWord ∷ w.Tag ∷ []
item_starts listed.Params = w.Name ∷ w.Meta ∷ w.MetaDots ∷ w.Dots ∷ w.Qualifier ∷ w.TypeWord ∷ w.Tag ∷ w.Ellipsis ∷ []
item_starts listed.Members = w.Star ∷ w.OpenRound ∷ w.Name ∷ w.Meta ∷ []
item_starts listed.Enumerators = w.Name ∷ w.Meta ∷ []
item_starts listed.Initializers = w.Star ∷ w.Sign ∷ w.Ampersand ∷ w.OpenRound ∷ w.Flip ∷ w.Step ∷ w.Sizeof ∷ w.OpenSquare ∷ w.Dot ∷ w.Name ∷ w.Meta ∷ w.Number ∷ w.Char ∷ w.MetaDots ∷ w.Dots ∷ w.Str ∷ w.StrAny ∷ w.DeepOpen ∷ w.OpenCurly ∷ []

abbrev pub list_level : Listed → Level
list_level listed.Args = t.Args
list_level listed.Params = t.Params
list_level listed.Members = t.Members
list_level listed.Enumerators = t.Enumerators
list_level listed.Initializers = t.Inis

abbrev pub list_tail : Listed → Level
list_tail listed.Args = t.ArgsTail
list_tail listed.Params = t.ParamsTail
list_tail listed.Members = t.MembersTail
list_tail listed.Enumerators = t.EnumeratorsTail
list_tail listed.Initializers = t.InisTail

abbrev pub item_level : Listed → Level
item_level listed.Args = t.Arg
item_level listed.Params = t.Param
item_level listed.Members = t.Member
item_level listed.Enumerators = t.Enumerator
item_level listed.Initializers = t.Ini

-- a list, as a node
abbrev pub list_read : List Token → ℕ → Listed → ℕ → Option (List Part × ℕ)
list_read ts room k i = level ts room (list_level k) i >>= λ x. Some (cut (over kinds.List [] (span_between ts i x.1) x.0) ∷ [], x.1)

-- ---- declarators

abbrev pub declr_level : Naming → Level
declr_level naming.Named = t.Declr
declr_level naming.Nameless = t.Nameless
declr_level naming.Maybe = t.Maybe

abbrev pub direct_level : Naming → Level
direct_level naming.Named = t.NamedDirect
direct_level naming.Nameless = t.NamelessDirect
direct_level naming.Maybe = t.MaybeDirect

abbrev pub declr_starts : Naming → List Word
declr_starts naming.Named = w.Star ∷ w.OpenRound ∷ w.Name ∷ w.Meta ∷ []
declr_starts naming.Nameless = w.Star ∷ w.OpenRound ∷ w.OpenSquare ∷ []
declr_starts naming.Maybe = w.Star ∷ w.OpenRound ∷ w.OpenSquare ∷ w.Name ∷ w.Meta ∷ []

-- what a pointer points to
abbrev pub pointed_read : List Token → ℕ → Naming → ℕ → Option (List Part × ℕ)
pointed_read ts room naming.Named i = level ts room t.Declr i
pointed_read ts room naming.Nameless i = optional ts room t.Nameless i
pointed_read ts room naming.Maybe i = optional ts room t.Maybe i

-- whether `(` opens a nested declarator
abbrev pub opens_nested : Naming → (ℕ → ℕ) → ℕ → Bool
opens_nested naming.Named f i = has (class w.OpenRound ∷ []) (f i)
opens_nested naming.Nameless f i = opens_declarator f i
opens_nested naming.Maybe f i = opens_declarator f i

-- whether a name stands there, where one may
abbrev pub takes_name : Naming → (ℕ → ℕ) → ℕ → Bool
takes_name naming.Named f i = has names (f i)
takes_name naming.Nameless f i = false
takes_name naming.Maybe f i = has names (f i)
