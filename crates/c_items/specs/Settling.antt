-- Where the next tokens settle which declaration, statement or item of C stands there.
-- The definitions in order: those of `c_expr`, what the next tokens settle here, and the grammar (`Table`). What a file and a
-- pattern are is in `c_unit`. `reader/` is the reader's own.
use Rattle.std.specs.Prelude.{ℕ, zero, suc, Bool, false, not, if◌then◌else◌, ◌&&◌, ◌||◌, List, [], ◌∷◌, eqb}
use Rattle.grammar.specs.Rule.{has}
use Rattle.c_expr.specs.declared.word.Word.TheVariants as w
use Rattle.c_expr.specs.Words.{class}
use Rattle.c_expr.specs.Settling.{names, spec_words, most_stars, behind_stars}

-- ---- declarations against expressions

-- a name or a word of a spec
abbrev pub spec_or_name : List ℕ
spec_or_name = class w.Name ∷ class w.Meta ∷ class w.TypeWord ∷ class w.Tag ∷ class w.Qualifier ∷ []

-- what stands behind the name of a variable that is a pointer to a type with a name
abbrev pub behind_variable : List ℕ
behind_variable = class w.Equals ∷ class w.Semicolon ∷ class w.Comma ∷ class w.OpenSquare ∷ []

-- NAME and one of `= ; , [`
abbrev pub is_variable : (ℕ → ℕ) → ℕ → Bool
is_variable f i = has names (f i) && has behind_variable (f (suc i))

-- one or more `*`, NAME and one of `= ; , [`
abbrev pub is_pointed : (ℕ → ℕ) → ℕ → Bool
is_pointed f i = has (class w.Star ∷ []) (f i) && is_variable f (behind_stars f most_stars i)

-- NAME, and then what makes it a type: a NAME or a word; or one or more `*`, NAME and one of `= ; , [`
abbrev pub is_named_type : (ℕ → ℕ) → ℕ → Bool
is_named_type f i = has names (f i) && (has spec_or_name (f (suc i)) || is_pointed f (suc i))

-- In items, and as the first part in the parentheses of a `for`, a declaration begins exactly with a word; with NAME and then a NAME or a word; or with NAME, one or more `*`, NAME and one of `= ; , [`.
abbrev pub declares : (ℕ → ℕ) → ℕ → Bool
declares f i = has spec_words (f i) || is_named_type f i

-- ---- labels and calls

-- a label is NAME and `:`
abbrev pub labels : (ℕ → ℕ) → ℕ → Bool
labels f i = has names (f i) && has (class w.Colon ∷ []) (f (suc i))

-- what stands before other statements: a label, `case` or `default`
abbrev pub marks : (ℕ → ℕ) → ℕ → Bool
marks f i = has (class w.Case ∷ class w.Default ∷ []) (f i) || labels f i

-- among the items of a file, what begins with NAME and `(` is the use of a macro
abbrev pub invokes : (ℕ → ℕ) → ℕ → Bool
invokes f i = has names (f i) && has (class w.OpenRound ∷ []) (f (suc i))

-- a block
abbrev pub opens_block : (ℕ → ℕ) → ℕ → Bool
opens_block f i = has (class w.OpenCurly ∷ []) (f i)

-- ---- dots that are an item by themselves

abbrev pub dots : List ℕ
dots = class w.Dots ∷ class w.MetaDots ∷ []

-- what goes on with an expression, and begins no item
abbrev pub only_goes_on : List ℕ
only_goes_on = class w.Equals ∷ class w.Assigns ∷ class w.Slash ∷ class w.Shift ∷ class w.Order ∷ class w.Equality ∷ class w.Caret ∷ class w.Bar ∷ class w.And ∷ class w.Or ∷ class w.Question ∷ class w.Comma ∷ class w.OpenSquare ∷ class w.Dot ∷ class w.Arrow ∷ []

-- In a pattern, dots at the start of an item are the item, unless the next token goes on with them as an expression and can't begin an item.
abbrev pub stands_alone : (ℕ → ℕ) → ℕ → Bool
stands_alone f i = has dots (f i) && not (has only_goes_on (f (suc i)))

-- ---- functions

-- the words of a declarator outside of its brackets
abbrev pub declarator_words : List ℕ
declarator_words = class w.Star ∷ class w.Name ∷ class w.Meta ∷ class w.TypeWord ∷ class w.Tag ∷ class w.Qualifier ∷ []

-- the brackets of a declarator, and those within them
abbrev pub declarator_brackets : List ℕ
declarator_brackets = class w.OpenRound ∷ class w.OpenSquare ∷ []

abbrev pub openings : List ℕ
openings = class w.OpenRound ∷ class w.OpenSquare ∷ class w.OpenCurly ∷ []

abbrev pub closings : List ℕ
closings = class w.CloseRound ∷ class w.CloseSquare ∷ class w.CloseCurly ∷ []

-- Whether a `{` stands behind the tokens of a declarator, of whose brackets some are open; n tokens are looked at.
unfoldable pub curly_behind : ℕ → (ℕ → ℕ) → ℕ → ℕ → Bool
curly_behind zero f i inner = false
curly_behind (suc n) f i zero = if has declarator_brackets (f i) then curly_behind n f (suc i) 1 else if has declarator_words (f i) then curly_behind n f (suc i) 0 else eqb (class w.OpenCurly) (f i)
curly_behind (suc n) f i (suc inner) = if has openings (f i) then curly_behind n f (suc i) (suc (suc inner)) else if has closings (f i) then curly_behind n f (suc i) inner else if eqb (class w.End) (f i) then false else curly_behind n f (suc i) (suc inner)

-- more tokens than a text has
abbrev pub most : ℕ
most = 4294967296

-- Behind a spec, a declarator and then a `{` make a function.
abbrev pub defines : (ℕ → ℕ) → ℕ → Bool
defines f i = curly_behind most f i 0
