-- Where the tokens from a place on settle what the grammar alone leaves open. Each rule looks at the tokens of the piece that it settles and at the one behind it.
use Rattle.std.specs.Prelude.{ℕ, zero, suc, Bool, cond, ◌&&◌, ◌||◌, List, [], ◌∷◌}
use Rattle.grammar.specs.Rule.{has}
use Rattle.c_expr.specs.declared.word.Word.TheVariants as w
use Rattle.c_expr.specs.Words.{class}

-- a name, for which a metavariable may stand
abbrev pub names : List ℕ
names = class w.Name ∷ class w.Meta ∷ []

-- the words that a spec is made of, besides one name
abbrev pub spec_words : List ℕ
spec_words = class w.TypeWord ∷ class w.Tag ∷ class w.Qualifier ∷ []

-- what assigns
abbrev pub assignments : List ℕ
assignments = class w.Equals ∷ class w.Assigns ∷ []

-- what stands behind `(` NAME `)` where that is a cast: a NAME, a number, a string, a character, `(`, `~`, `!` or `sizeof`
abbrev pub operand_starts : List ℕ
operand_starts = class w.Name ∷ class w.Meta ∷ class w.Number ∷ class w.Str ∷ class w.StrAny ∷ class w.Char ∷ class w.OpenRound ∷ class w.Flip ∷ class w.Sizeof ∷ []

-- the most `*` that are looked past; a type with more is no tree within the limit of depth
abbrev pub most_stars : ℕ
most_stars = 500

-- the place behind the `*` that stand from a place on, n of them at most
unfoldable pub behind_stars : (ℕ → ℕ) → ℕ → ℕ → ℕ
behind_stars f zero i = i
behind_stars f (suc n) i = cond (has (class w.Star ∷ []) (f i)) (behind_stars f n (suc i)) i

-- NAME, one or more `*`, and then a token of these classes
abbrev pub is_pointer : List ℕ → (ℕ → ℕ) → ℕ → Bool
is_pointer cs f i = has names (f i) && (has (class w.Star ∷ []) (f (suc i)) && has cs (f (behind_stars f most_stars (suc i))))

-- a type begins where a word stands; or NAME, one or more `*` and then one of these
abbrev pub is_type : List ℕ → (ℕ → ℕ) → ℕ → Bool
is_type cs f i = has spec_words (f i) || is_pointer cs f i

-- NAME `)` and then a NAME, number, string, character, `(`, `~`, `!` or `sizeof`
abbrev pub is_named_cast : (ℕ → ℕ) → ℕ → Bool
is_named_cast f i = has names (f i) && (has (class w.CloseRound ∷ []) (f (suc i)) && has operand_starts (f (suc (suc i))))

-- a word; NAME, one or more `*` and `)`; or NAME `)` and then a NAME, number, string, character, `(`, `~`, `!` or `sizeof`
unfoldable pub is_cast : (ℕ → ℕ) → ℕ → Bool
is_cast f i = is_type (class w.CloseRound ∷ []) f i || is_named_cast f i

-- `(` opens a cast exactly where these follow
abbrev pub opens_cast : (ℕ → ℕ) → ℕ → Bool
opens_cast f i = has (class w.OpenRound ∷ []) (f i) && is_cast f (suc i)

-- behind a `sizeof` a `(` holds a type exactly where a word follows, or NAME, one or more `*` and `)`
abbrev pub sizes_type : (ℕ → ℕ) → ℕ → Bool
sizes_type f i = has (class w.Sizeof ∷ []) (f i) && (has (class w.OpenRound ∷ []) (f (suc i)) && is_type (class w.CloseRound ∷ []) f (suc (suc i)))

-- an argument is a type exactly where a word follows, or NAME, one or more `*` and then `,` or `)`
abbrev pub takes_type : (ℕ → ℕ) → ℕ → Bool
takes_type f i = is_type (class w.Comma ∷ class w.CloseRound ∷ []) f i

-- in a parameter and in a type name `(` opens a nested declarator exactly where `*` or `(` follows
abbrev pub opens_declarator : (ℕ → ℕ) → ℕ → Bool
opens_declarator f i = has (class w.OpenRound ∷ []) (f i) && has (class w.Star ∷ class w.OpenRound ∷ []) (f (suc i))

-- `{` opens enumerators exactly where NAME and then `,`, `=` or `}` follow
abbrev pub opens_enumerators : (ℕ → ℕ) → ℕ → Bool
opens_enumerators f i = has (class w.OpenCurly ∷ []) (f i) && (has names (f (suc i)) && has (class w.Comma ∷ class w.Equals ∷ class w.CloseCurly ∷ []) (f (suc (suc i))))
