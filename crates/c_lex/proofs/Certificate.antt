-- Made by tools/make_table.py c_lex Tokens 'rules Text false' 'rules Text true' 'rules Pattern false' 'rules Pattern true': do not edit.
-- What is left to read in each state of the automaton; so it accepts what the rules spell.
use Rattle.std.proofs.Common.{◌≡◌, ℕ, true, false, List, [], ◌∷◌, ◌++◌, refl, leb-true}
use Rattle.lexing.specs.Automaton.{Table, IsWhole, IsSound, Accepts}
use Rattle.lexing.proofs.Certificate.{Entry, rows_right, row_right, rows_append, certified}
use Rattle.lexing.proofs.Whole.{is_whole, whole as whole_by}
use Rattle.c_lex.specs.declared.table.TheConstants.{COLUMNS, ROWS, WIDTH}
use Rattle.c_lex.specs.Tokens.{name_more, digit, sign, number_part, string_char, char_char, meta_name, line_end, splice, in_line, flat, broken, flat_or_broken, comment_end, rules}
use Rattle.node_tree.specs.declared.view.Mode.TheVariants.{Text, Pattern}
use Rattle.lexing.specs.Rules.{Expression, Empty, OneOf, Then, Or, Many, the, To, Rule}

abbrev pub the_table : Table
the_table = record { columns = COLUMNS; rows = ROWS; width = WIDTH }

abbrev entry : ℕ → List Rule → Entry
entry s rules = record { place = s; left = rules }

abbrev left : ℕ → Expression → Rule
left w e = record { word = w; spelled = e }

unfoldable entries_1 : List Entry
entries_1 =
    entry 0 ([])
    ∷ entry 32 (rules Text false)
    ∷ entry 64 (rules Text true)
    ∷ entry 96 (rules Pattern false)
    ∷ entry 128 (rules Pattern true)
    ∷ entry 160 (left 8 (Many (OneOf (To 9 9 ∷ To 11 12 ∷ To 32 32 ∷ []))) ∷ [])
    ∷ entry 192 (left 9 Empty ∷ [])
    ∷ entry 224 (left 9 (the 10) ∷ [])
    ∷ entry 256 (left 4 Empty ∷ left 4 (the 61) ∷ [])
    ∷ entry 288 (left 2 (Then (Many string_char) (the 34)) ∷ [])
    ∷ entry 320 (left 4 Empty ∷ [])
    ∷ entry 352 (left 4 Empty ∷ left 4 (the 38) ∷ left 4 (the 61) ∷ [])
    ∷ entry 384 (left 3 (Then (Then char_char (Many char_char)) (the 39)) ∷ [])
    ∷ entry 416 (left 4 (the 43) ∷ left 4 Empty ∷ left 4 (the 61) ∷ [])
    ∷ entry 448 (left 4 (the 62) ∷ left 4 (the 45) ∷ left 4 Empty ∷ left 4 (the 61) ∷ [])
    ∷ entry 480 (left 1 (Then digit (Many number_part)) ∷ left 4 Empty ∷ left 4 (Then (the 46) (the 46)) ∷ [])
    ∷ entry 512 (left 4 Empty ∷ left 4 (the 61) ∷ left 10 (Then (the 47) (Many in_line)) ∷ left 10 (Then (the 42) (Then (Many flat) comment_end)) ∷ left 11 (Then (the 42) (Then (Many flat) (Then broken (Then (Many flat_or_broken) comment_end)))) ∷ left 12 (the 42) ∷ [])
    ∷ entry 544 (left 1 (Many number_part) ∷ [])
    ∷ entry 576 (left 4 (the 60) ∷ left 4 Empty ∷ left 4 (the 61) ∷ left 4 (Then (the 60) (the 61)) ∷ [])
    ∷ entry 608 (left 4 (the 62) ∷ left 4 Empty ∷ left 4 (the 61) ∷ left 4 (Then (the 62) (the 61)) ∷ [])
    ∷ entry 640 (left 0 (Many name_more) ∷ [])
    ∷ entry 672 (left 0 (Many name_more) ∷ left 2 (Then (the 34) (Then (Many string_char) (the 34))) ∷ left 3 (Then (the 39) (Then (Then char_char (Many char_char)) (the 39))) ∷ [])
    ∷ entry 704 (left 9 line_end ∷ [])
    ∷ entry 736 (left 0 (Many name_more) ∷ left 2 (Then (the 56) (Then (the 34) (Then (Many string_char) (the 34)))) ∷ left 2 (Then (the 34) (Then (Many string_char) (the 34))) ∷ left 3 (Then (the 39) (Then (Then char_char (Many char_char)) (the 39))) ∷ [])
    ∷ entry 768 (left 4 Empty ∷ left 4 (the 124) ∷ left 4 (the 61) ∷ [])
    ∷ entry 800 (left 7 (Many (Or splice in_line)) ∷ [])
    ∷ []

unfoldable entries_2 : List Entry
entries_2 =
    entry 832 (left 5 meta_name ∷ left 6 (Then (Then (the 46) (Then (the 46) (the 46))) meta_name) ∷ [])
    ∷ entry 864 (left 4 (Then (the 46) (Then (the 46) (the 62))) ∷ left 1 (Then digit (Many number_part)) ∷ left 4 Empty ∷ left 4 (Then (the 46) (the 46)) ∷ [])
    ∷ entry 896 (left 4 (Then (the 46) (Then (the 46) (the 46))) ∷ left 4 (the 60) ∷ left 4 Empty ∷ left 4 (the 61) ∷ left 4 (Then (the 60) (the 61)) ∷ [])
    ∷ entry 928 (left 2 Empty ∷ [])
    ∷ entry 960 (left 2 (Then (Then (OneOf (To 0 9 ∷ To 11 130 ∷ [])) (Many string_char)) (the 34)) ∷ [])
    ∷ entry 992 (left 3 (Then (Many char_char) (the 39)) ∷ [])
    ∷ entry 1024 (left 3 (Then (Then (OneOf (To 0 9 ∷ To 11 130 ∷ [])) (Many char_char)) (the 39)) ∷ [])
    ∷ entry 1056 (left 4 (the 46) ∷ [])
    ∷ entry 1088 (left 10 (Then (Many flat) comment_end) ∷ left 11 (Then (Many flat) (Then broken (Then (Many flat_or_broken) comment_end))) ∷ left 12 Empty ∷ [])
    ∷ entry 1120 (left 10 (Many in_line) ∷ [])
    ∷ entry 1152 (left 1 (Then sign (Many number_part)) ∷ left 1 (Many number_part) ∷ [])
    ∷ entry 1184 (left 0 (Many name_more) ∷ left 2 (Then (the 34) (Then (Many string_char) (the 34))) ∷ [])
    ∷ entry 1216 (left 7 (Then (Then (Many (the 13)) (OneOf (To 0 9 ∷ To 11 12 ∷ To 14 130 ∷ []))) (Many (Or splice in_line))) ∷ [])
    ∷ entry 1248 (left 7 (Then line_end (Many (Or splice in_line))) ∷ left 7 (Many (Or splice in_line)) ∷ [])
    ∷ entry 1280 (left 6 (Then (Then (the 46) (the 46)) meta_name) ∷ [])
    ∷ entry 1312 (left 5 (Many (OneOf (To 48 57 ∷ To 65 90 ∷ To 95 95 ∷ []))) ∷ [])
    ∷ entry 1344 (left 4 (Then (the 46) (the 62)) ∷ left 4 (the 46) ∷ [])
    ∷ entry 1376 (left 4 (Then (the 46) (the 46)) ∷ [])
    ∷ entry 1408 (left 3 Empty ∷ [])
    ∷ entry 1440 (left 10 (Then (Many flat) comment_end) ∷ left 11 (Then (Many flat) (Then broken (Then (Many flat_or_broken) comment_end))) ∷ [])
    ∷ entry 1472 (left 11 (Then (Many flat_or_broken) comment_end) ∷ [])
    ∷ entry 1504 (left 10 (Then (Then (Then (Many (the 42)) (OneOf (To 0 9 ∷ To 11 41 ∷ To 43 46 ∷ To 48 130 ∷ []))) (Many flat)) comment_end) ∷ left 10 (Then (Many (the 42)) (the 47)) ∷ left 11 (Then (Then (Then (Many (the 42)) (OneOf (To 0 9 ∷ To 11 41 ∷ To 43 46 ∷ To 48 130 ∷ []))) (Many flat)) (Then broken (Then (Many flat_or_broken) comment_end))) ∷ left 11 (Then (Then (Many (the 42)) (the 10)) (Then (Many flat_or_broken) comment_end)) ∷ [])
    ∷ entry 1536 (left 10 (Then (Then (Many (the 13)) (OneOf (To 0 9 ∷ To 11 12 ∷ To 14 130 ∷ []))) (Many in_line)) ∷ [])
    ∷ entry 1568 (left 7 (Then (the 10) (Many (Or splice in_line))) ∷ left 7 (Then (Then (Many (the 13)) (OneOf (To 0 9 ∷ To 11 12 ∷ To 14 130 ∷ []))) (Many (Or splice in_line))) ∷ [])
    ∷ entry 1600 (left 6 (Then (the 46) meta_name) ∷ [])
    ∷ entry 1632 (left 4 (the 62) ∷ left 4 Empty ∷ [])
    ∷ []

unfoldable entries_3 : List Entry
entries_3 =
    entry 1664 (left 11 (Then (Then (Then (Many (the 42)) (OneOf (To 0 41 ∷ To 43 46 ∷ To 48 130 ∷ []))) (Many flat_or_broken)) comment_end) ∷ left 11 (Then (Many (the 42)) (the 47)) ∷ [])
    ∷ entry 1696 (left 10 Empty ∷ [])
    ∷ entry 1728 (left 6 meta_name ∷ [])
    ∷ entry 1760 (left 11 Empty ∷ [])
    ∷ entry 1792 (left 6 (Many (OneOf (To 48 57 ∷ To 65 90 ∷ To 95 95 ∷ []))) ∷ [])
    ∷ []

unfoldable entries : List Entry
entries = entries_1 ++ (entries_2 ++ (entries_3))

rows_of_entries_1 : rows_right the_table entries entries_1 ≡ true
unfolding entries entries_1 entries_2 entries_3 row_right
rows_of_entries_1 = refl

rows_of_entries_2 : rows_right the_table entries entries_2 ≡ true
unfolding entries entries_1 entries_2 entries_3 row_right
rows_of_entries_2 = refl

rows_of_entries_3 : rows_right the_table entries entries_3 ≡ true
unfolding entries entries_1 entries_2 entries_3 row_right
rows_of_entries_3 = refl

rows : rows_right the_table entries entries ≡ true
unfolding entries
rows = rows_append the_table entries entries_1 _ rows_of_entries_1 (rows_append the_table entries entries_2 _ rows_of_entries_2 (rows_of_entries_3))

is_whole_table : IsWhole the_table
unfolding is_whole
is_whole_table = whole_by the_table refl

pub accepts_0 : Accepts the_table 32 (rules Text false)
unfolding entries entries_1 entries_2 entries_3
accepts_0 = certified the_table entries 32 (rules Text false) rows refl

pub sound_0 : IsSound (record { table = the_table; start = 32 })
sound_0 = record { whole = is_whole_table; begins = record { row = leb-true _ _ refl; nothing = refl } }

pub accepts_1 : Accepts the_table 64 (rules Text true)
unfolding entries entries_1 entries_2 entries_3
accepts_1 = certified the_table entries 64 (rules Text true) rows refl

pub sound_1 : IsSound (record { table = the_table; start = 64 })
sound_1 = record { whole = is_whole_table; begins = record { row = leb-true _ _ refl; nothing = refl } }

pub accepts_2 : Accepts the_table 96 (rules Pattern false)
unfolding entries entries_1 entries_2 entries_3
accepts_2 = certified the_table entries 96 (rules Pattern false) rows refl

pub sound_2 : IsSound (record { table = the_table; start = 96 })
sound_2 = record { whole = is_whole_table; begins = record { row = leb-true _ _ refl; nothing = refl } }

pub accepts_3 : Accepts the_table 128 (rules Pattern true)
unfolding entries entries_1 entries_2 entries_3
accepts_3 = certified the_table entries 128 (rules Pattern true) rows refl

pub sound_3 : IsSound (record { table = the_table; start = 128 })
sound_3 = record { whole = is_whole_table; begins = record { row = leb-true _ _ refl; nothing = refl } }
