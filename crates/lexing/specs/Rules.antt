-- Rules: which spellings a token or a skipped part has. A spelling is a list of characters.
use Rattle.std.specs.Prelude.{◌≡◌, ℕ, ◌+◌, ◌-◌, ◌≤◌, ◌⊎◌, Bool, true, false, ◌||◌, ◌&&◌, nat_le, nat_lt, if◌then◌else◌, List, [], ◌∷◌, ◌++◌, length}
use Rattle.std.specs.List.{concat, AllByRecursion}
use Rattle.unicode_ident.specs.Ident.{is_xid_start, is_xid_continue}

-- A character as rules see it: ASCII is itself, 128 is any other XID start, 129 any other XID continue, 130 any other character.
unfoldable pub symbol : ℕ → ℕ
symbol c = if nat_lt c 128 then c else (if is_xid_start c then 128 else (if is_xid_continue c then 129 else 130))

-- the symbols from the first number to the second
pub data Range : Type 0 where
  To : ℕ → ℕ → Range

abbrev pub digits : Range
digits = To 48 57

abbrev pub capitals : Range
capitals = To 65 90

abbrev pub underscore : Range
underscore = To 95 95

abbrev pub small_letters : Range
small_letters = To 97 122

-- the XID start characters that are not ASCII
abbrev pub other_starts : Range
other_starts = To 128 128

-- the XID continue characters that are not ASCII
abbrev pub other_continues : Range
other_continues = To 128 129

-- a symbol lies in one of the ranges
abbrev pub among : List Range → ℕ → Bool
among [] y = false
among (To a b ∷ rs) y = (nat_le a y && nat_le y b) || among rs y

-- ---- regular expressions

pub data Expression : Type 0 where
  Never : Expression
  Empty : Expression
  OneOf : List Range → Expression
  Then : Expression → Expression → Expression
  Or : Expression → Expression → Expression
  Many : Expression → Expression

-- a spelling of an expression
abbrev pub Matches : Expression → List ℕ → Type 0
Matches Never cs = ⊥
Matches Empty cs = cs ≡ []
Matches (OneOf rs) cs = (c : ℕ) × (cs ≡ c ∷ []) × (among rs (symbol c) ≡ true)
Matches (Then a b) cs = (u v : List ℕ) × (cs ≡ u ++ v) × Matches a u × Matches b v
Matches (Or a b) cs = Matches a cs ⊎ Matches b cs
Matches (Many a) cs = (parts : List (List ℕ)) × (cs ≡ concat parts) × AllByRecursion (Matches a) parts

-- the character, which is ASCII
abbrev pub the : ℕ → Expression
the c = OneOf (To c c ∷ [])

abbrev pub gaps : ℕ → List ℕ → List Range
gaps from [] = To from 130 ∷ []
gaps from (c ∷ cs) = To from (c - 1) ∷ gaps (c + 1) cs

-- any character but these, which are ASCII, in order and not 0
abbrev pub but : List ℕ → Expression
but cs = OneOf (gaps 0 cs)

-- these ASCII characters one after the other
abbrev pub exactly : List ℕ → Expression
exactly [] = Empty
exactly (c ∷ []) = the c
exactly (c ∷ d ∷ cs) = Then (the c) (exactly (d ∷ cs))

-- the expression or nothing
abbrev pub maybe : Expression → Expression
maybe a = Or Empty a

-- the expression once or more
abbrev pub some : Expression → Expression
some a = Then a (Many a)

-- one of the expressions
abbrev pub any_of : List Expression → Expression
any_of [] = Never
any_of (a ∷ []) = a
any_of (a ∷ b ∷ rs) = Or a (any_of (b ∷ rs))

-- each of the expressions, one after the other
abbrev pub in_order : List Expression → Expression
in_order [] = Empty
in_order (a ∷ []) = a
in_order (a ∷ b ∷ rs) = Then a (in_order (b ∷ rs))

-- ---- rules

-- the expression spells the word of this number
pub record Rule : Type 0 where
  pub word : ℕ
  pub spelled : Expression

-- a spelling of a word by one of the rules
abbrev pub Spells : List Rule → ℕ → List ℕ → Type 0
Spells [] w cs = ⊥
Spells (r ∷ rs) w cs = ((r.word ≡ w) × Matches r.spelled cs) ⊎ Spells rs w cs

-- the text begins with a spelling of the word, and with no longer spelling of any word
pub record BeginsWith (rules : List Rule) (text : List ℕ) (w : ℕ) (front rest : List ℕ) : Type 0 where
  pub parts : text ≡ front ++ rest
  pub spells : Spells rules w front
  pub longest : (v : ℕ) (longer after : List ℕ) → Spells rules v longer → text ≡ longer ++ after → length longer ≤ length front

-- the text begins with no spelling
abbrev pub BeginsWithNone : List Rule → List ℕ → Type 0
BeginsWithNone rules text = (v : ℕ) (front rest : List ℕ) → Spells rules v front → text ≡ front ++ rest → ⊥

-- a spelling has one word, and is not empty
pub record IsSharp (rules : List Rule) : Type 0 where
  pub one_word : (cs : List ℕ) (w v : ℕ) → Spells rules w cs → Spells rules v cs → w ≡ v
  pub some : (w : ℕ) → Spells rules w [] → ⊥
