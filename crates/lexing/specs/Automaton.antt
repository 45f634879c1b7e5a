-- An automaton that reads characters. A state is the place of its row; a row has the word that the state accepts, plus 1, or 0, and then the next state for each column.
use Rattle.std.specs.Prelude.{◌≡◌, ℕ, suc, ◌+◌, ◌≤◌, ◌<◌, List, [], ◌∷◌, ◌++◌, length, slice_index, encode_utf8_all, Option, Some, None}
use Rattle.std.specs.Str.{chars}
use Rattle.lexing.specs.declared.automaton.Best.{Best}
use Rattle.lexing.specs.declared.automaton.Piece.{Piece}
use Rattle.lexing.specs.Rules.{symbol, Rule, Spells, BeginsWith, BeginsWithNone, IsSharp}

-- the column of each symbol, the rows and their width
pub record Table : Type 0 where
  pub columns : List ℕ
  pub rows : List ℕ
  pub width : ℕ

-- a table and the state where reading begins
pub record Started : Type 0 where
  pub table : Table
  pub start : ℕ

-- the state after a symbol
abbrev pub step : Table → ℕ → ℕ → ℕ
step m s y = slice_index m.rows (s + slice_index m.columns y)

-- the word that a state accepts, plus 1, or 0
abbrev pub word_at : Table → ℕ → ℕ
word_at m s = slice_index m.rows s

-- the word, plus 1, that the automaton gives all of the characters from a state on, or 0
unfoldable pub accepted : Table → ℕ → List ℕ → ℕ
accepted m s [] = word_at m s
accepted m s (c ∷ cs) = accepted m (step m s (symbol c)) cs

-- each row lies in the table, each symbol has a column, and from the row at 0 no state is reached but itself, which accepts nothing
pub record IsWhole (m : Table) : Type 0 where
  pub rows : (i : ℕ) → slice_index m.rows i + m.width ≤ length m.rows
  pub columns : (i : ℕ) → slice_index m.columns i < m.width
  pub some : 0 < m.width
  pub symbols : 131 ≤ length m.columns
  pub dead : (i : ℕ) → i < m.width → slice_index m.rows i ≡ 0

-- a state where reading may begin: its row lies in the table, and it accepts nothing yet
pub record IsStart (m : Table) (s : ℕ) : Type 0 where
  pub row : s + m.width ≤ length m.rows
  pub nothing : word_at m s ≡ 0

pub record IsSound (a : Started) : Type 0 where
  pub whole : IsWhole a.table
  pub begins : IsStart a.table a.start

-- from the state on, the automaton accepts the spellings of the rules, each as its word
pub record Accepts (m : Table) (start : ℕ) (rules : List Rule) : Type 0 where
  pub sound : (cs : List ℕ) (w : ℕ) → accepted m start cs ≡ suc w → Spells rules w cs
  pub complete : (cs : List ℕ) (w : ℕ) → Spells rules w cs → accepted m start cs ≡ suc w

-- best is the longest accepted front of what was read, or nothing
pub record IsBest (acc : List ℕ → ℕ) (read : List ℕ) (best : Best) : Type 0 where
  pub front : List ℕ
  pub rest : List ℕ
  pub parts : read ≡ front ++ rest
  pub word : acc front ≡ best.word
  pub len : best.len ≡ length (encode_utf8_all front)
  pub longest : (longer after : List ℕ) → read ≡ longer ++ after → 0 < acc longer → (length longer ≤ length front) × (0 < best.word)

-- a piece at the front of a text: the one longest spelling
pub record IsPiece (rules : List Rule) (text : List ℕ) (w : ℕ) (front rest : List ℕ) : Type 0 where
  pub parts : text ≡ front ++ rest
  pub begins : BeginsWith rules (chars text) w (chars front) (chars rest)
  pub spelled : encode_utf8_all (chars front) ≡ front
  pub some : 0 < length front
  pub sharp : IsSharp rules

-- what a text begins with
abbrev pub Takes : List Rule → List ℕ → Option Piece → Type 0
Takes rules text None = BeginsWithNone rules (chars text)
Takes rules text (Some p) = IsPiece rules text p.word p.text.now p.rest.now
