-- The parts of an f-string, and the readers of texts that have f-strings.
use Rattle.std.specs.Prelude.{◌≡◌, ℕ, zero, suc, ◌+◌, ◌-◌, ◌≤◌, ◌<◌, Bool, true, false, ◌==◌, ◌||◌, if◌then◌else◌, List, [], ◌∷◌, ◌++◌, length, slice_range, encode_utf8_all, Option, Some, Result, Ok, Err}
use Rattle.std.specs.Str.{chars, IsUtf8, IsCharBoundary}
use Rattle.node_tree.specs.declared.view.Mode.{Mode}
use Rattle.node_tree.specs.declared.fault.LexFault.{LexFault}
use Rattle.node_tree.specs.declared.fault.LexFault.TheVariants.{Memory, NoTokens}
use Rattle.lexing.specs.Rules.{Rule, IsSharp}
use Rattle.lexing.specs.Conditions.{BeginsWithSuch, BeginsWithNoneSuch}
use Rattle.lexing.specs.Reading.{Turn, Reader, HasTokens, is_end}
use Rattle.py_lex.specs.Classes.{class_of}
use Rattle.py_lex.specs.Starts.{rules_of}
use Rattle.py_lex.specs.Inside.{first, step, finish}
use Rattle.py_lex.specs.declared.class.Class.{Class}
use Rattle.py_lex.specs.declared.class.Class.TheVariants.{FShort, FLong}
use Rattle.py_lex.specs.declared.class.Forms.TheVariants.{Both}
use Rattle.py_lex.specs.declared.token.FPart.{FPart}
use Rattle.py_lex.specs.declared.inside.Place.{Place}
use Rattle.py_lex.specs.declared.inside.Place.TheVariants as places
use Rattle.py_lex.specs.declared.inside.Inside.{Inside}
use Rattle.py_lex.specs.declared.parts.Lexemes.{Lexemes}
use Rattle.py_lex.specs.declared.parts.Lexemes.TheVariants as lexemes
use Rattle.py_lex.specs.declared.parts.Found.{Found}

-- ---- readers of texts that have f-strings

-- the parts that a lexeme at a place may have, by its class and its characters
abbrev pub Parting : Type 1
Parting = ℕ → Class → List ℕ → List FPart → Type 0

abbrev pub is_f_string : Class → Bool
is_f_string FShort = true
is_f_string FLong = true
is_f_string _ = false

abbrev pub PartedIf : Bool → Type 0 → List FPart → Type 0
PartedIf true P xs = P
PartedIf false P xs = xs ≡ []

-- an f-string has the parts; another lexeme has none
abbrev pub Parted : Parting → Parting
Parted P at class cs xs = PartedIf (is_f_string class) (P at class cs xs) xs

-- the lexeme, by its number, has parts
abbrev pub HasSome : Parting → ℕ → ℕ → List ℕ → Type 0
HasSome P at w cs = (xs : List FPart) × Parted P at (class_of w) cs xs

-- the rules in a state, the place of a state, what a word, its bytes and its parts give, and what the end gives
pub record PartedLanguage (S T : Type 0) : Type 0 where
  pub rules : S → List Rule
  pub at : S → ℕ
  pub step : S → ℕ → List ℕ → List FPart → Option (Turn S T)
  pub finish : S → Option (List T)

-- an f-string that has no parts gives way to the next shorter spelling
abbrev pub parted : {S T : Type 0} → Parting → PartedLanguage S T → Reader S T
parted P L = record {
  rules = L.rules;
  such = λ s. HasSome P (L.at s);
  step = λ s w cs turn. (xs : List FPart) × Parted P (L.at s) (class_of w) cs xs × (L.step s w (encode_utf8_all cs) xs ≡ Some turn);
  ends = λ s. is_end;
  finish = λ s ts. L.finish s ≡ Some ts;
}

-- ---- the inside of an f-string

-- the bytes of the prefix
abbrev pub prefix_len : List ℕ → ℕ
prefix_len [] = 0
prefix_len (b ∷ bs) = if b == 34 || b == 39 then 0 else prefix_len bs + 1

abbrev pub quotes_len : Class → ℕ
quotes_len FLong = 3
quotes_len _ = 1

-- where the inside begins and ends among the bytes
abbrev pub inside_start : Class → List ℕ → ℕ
inside_start class bytes = prefix_len bytes + quotes_len class

abbrev pub inside_end : Class → List ℕ → ℕ
inside_end class bytes = length bytes - quotes_len class

abbrev pub inside : Class → List ℕ → List ℕ
inside class bytes = slice_range bytes (inside_start class bytes) (inside_end class bytes)

-- there is an inside, and it cuts no character
abbrev pub IsQuoted : Class → List ℕ → Type 0
IsQuoted class bytes = (inside_start class bytes ≤ inside_end class bytes) × IsCharBoundary bytes (inside_start class bytes) × IsCharBoundary bytes (inside_end class bytes)

-- within brackets a field is as any text
abbrev pub in_field : ℕ → Lexemes
in_field depth = if depth == 0 then lexemes.Field else lexemes.Text

abbrev pub lexemes_at : Place → ℕ → Lexemes
lexemes_at places.Plain depth = lexemes.Plain
lexemes_at places.Field depth = in_field depth
lexemes_at places.Converted depth = lexemes.Converted
lexemes_at places.Format depth = lexemes.Format
lexemes_at places.FormatField depth = in_field depth
lexemes_at places.FormatConverted depth = lexemes.Converted

abbrev pub inside_language : Mode → PartedLanguage Inside FPart
inside_language mode = record { rules = λ s. rules_of (lexemes_at s.place s.depth) mode Both; at = λ s. s.at; step = step; finish = finish }

-- what stands between the quotes has the parts
abbrev pub HasInside : Parting → Mode → ℕ → List ℕ → List FPart → Type 0
HasInside P mode at cs xs = HasTokens (parted P (inside_language mode)) (first at) cs xs []

-- so have the bytes of an f-string
abbrev pub HasBetween : Parting → Mode → ℕ → Class → List ℕ → List FPart → Type 0
HasBetween P mode at class bytes xs = IsQuoted class bytes × HasInside P mode (at + inside_start class bytes) (chars (inside class bytes)) xs

-- the parts of an f-string at a place, with at most so many f-strings within one another
abbrev pub HasParts : ℕ → Mode → Parting
HasParts zero mode at class cs xs = ⊥
HasParts (suc levels) mode at class cs xs = HasBetween (HasParts levels mode) mode at class (encode_utf8_all cs) xs

-- ---- what functions give

-- a text begins with this lexeme, the longest that has parts, and it has these parts alone
pub record IsFound (P : Parting) (rules : List Rule) (at : ℕ) (text : List ℕ) (found : Found) : Type 0 where
  pub whole : text ≡ found.text.now ++ found.rest.now
  pub begins : BeginsWithSuch (HasSome P at) rules (chars text) found.word (chars found.text.now) (chars found.rest.now)
  pub parts : Parted P at (class_of found.word) (chars found.text.now) found.parts
  pub only : (xs : List FPart) → Parted P at (class_of found.word) (chars found.text.now) xs → found.parts ≡ xs
  pub some : 0 < length found.text.now
  pub sharp : IsSharp rules
  pub utf8 : IsUtf8 found.text.now
  pub utf8_rest : IsUtf8 found.rest.now

abbrev pub Looks : Parting → List Rule → ℕ → List ℕ → Result Found LexFault → Type 0
Looks P rules at text (Ok found) = IsFound P rules at text found
Looks P rules at text (Err Memory) = Unit {0}
Looks P rules at text (Err NoTokens) = BeginsWithNoneSuch (HasSome P at) rules (chars text)
