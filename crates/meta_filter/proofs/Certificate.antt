-- Made by tools/make_table.py meta_filter Tokens 'rules': do not edit.
-- What is left to read in each state of the automaton; so it accepts what the rules spell.
use Rattle.std.proofs.Common.{◌≡◌, ℕ, true, List, [], ◌∷◌, refl, leb-true}
use Rattle.lexing.specs.Automaton.{Table, IsWhole, IsSound, Accepts}
use Rattle.lexing.proofs.Certificate.{Entry, rows_right, row_right, certified}
use Rattle.lexing.proofs.Whole.{is_whole, whole as whole_by}
use Rattle.meta_filter.specs.declared.table.TheConstants.{COLUMNS, ROWS, WIDTH}
use Rattle.meta_filter.specs.Tokens.{rules}
use Rattle.lexing.specs.Rules.{Expression, Empty, OneOf, Then, Many, the, To, Rule}

abbrev pub the_table : Table
the_table = record { columns = COLUMNS; rows = ROWS; width = WIDTH }

abbrev entry : ℕ → List Rule → Entry
entry s rules = record { place = s; left = rules }

abbrev left : ℕ → Expression → Rule
left w e = record { word = w; spelled = e }

unfoldable pub entries_1 : List Entry
entries_1 =
    entry 0 ([])
    ∷ entry 18 (rules)
    ∷ entry 36 (left 0 (Many (OneOf (To 9 10 ∷ To 13 13 ∷ To 32 32 ∷ []))) ∷ [])
    ∷ entry 54 (left 13 (the 61) ∷ [])
    ∷ entry 72 (left 2 (Then (OneOf (To 65 90 ∷ To 95 95 ∷ [])) (Many (OneOf (To 48 57 ∷ To 65 90 ∷ To 95 95 ∷ [])))) ∷ [])
    ∷ entry 90 (left 18 Empty ∷ [])
    ∷ entry 108 (left 19 Empty ∷ [])
    ∷ entry 126 (left 20 Empty ∷ [])
    ∷ entry 144 (left 16 Empty ∷ [])
    ∷ entry 162 (left 14 Empty ∷ [])
    ∷ entry 180 (left 15 Empty ∷ [])
    ∷ entry 198 (left 17 (the 47) ∷ [])
    ∷ entry 216 (left 1 (Many (OneOf (To 48 57 ∷ []))) ∷ [])
    ∷ entry 234 (left 8 Empty ∷ left 9 (the 61) ∷ [])
    ∷ entry 252 (left 12 (the 61) ∷ [])
    ∷ entry 270 (left 10 Empty ∷ left 11 (the 61) ∷ [])
    ∷ entry 288 (left 7 (Many (OneOf (To 48 57 ∷ To 65 90 ∷ To 95 95 ∷ To 97 122 ∷ []))) ∷ [])
    ∷ entry 306 (left 13 Empty ∷ [])
    ∷ entry 324 (left 2 (Many (OneOf (To 48 57 ∷ To 65 90 ∷ To 95 95 ∷ []))) ∷ [])
    ∷ entry 342 (left 17 Empty ∷ [])
    ∷ entry 360 (left 9 Empty ∷ [])
    ∷ entry 378 (left 12 Empty ∷ [])
    ∷ entry 396 (left 11 Empty ∷ [])
    ∷ []

unfoldable pub entries : List Entry
entries = entries_1

rows_of_entries_1 : rows_right the_table entries entries_1 ≡ true
unfolding entries entries_1 row_right
rows_of_entries_1 = refl

pub rows : rows_right the_table entries entries ≡ true
unfolding entries
rows = rows_of_entries_1

is_whole_table : IsWhole the_table
unfolding is_whole
is_whole_table = whole_by the_table refl

pub accepts_0 : Accepts the_table 18 (rules)
unfolding entries entries_1
accepts_0 = certified the_table entries 18 (rules) rows refl

pub sound_0 : IsSound (record { table = the_table; start = 18 })
sound_0 = record { whole = is_whole_table; begins = record { row = leb-true _ _ refl; nothing = refl } }
