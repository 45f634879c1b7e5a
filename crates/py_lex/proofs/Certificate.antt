-- Made by tools/make_table.py py_lex Tokens 'rules Text Both' 'rules Text Short' 'rules Text Long' 'rules Text Neither' 'rules Pattern Both' 'rules Pattern Short' 'rules Pattern Long' 'rules Pattern Neither' 'field_rules Text Both' 'field_rules Text Short' 'field_rules Text Long' 'field_rules Text Neither' 'field_rules Pattern Both' 'field_rules Pattern Short' 'field_rules Pattern Long' 'field_rules Pattern Neither' 'converted_rules' 'text_rules' 'format_rules': do not edit.
-- What is left to read in each state of the automaton; so it accepts what the rules spell.
use Rattle.std.proofs.Common.{◌≡◌, ℕ, true, List, [], ◌∷◌, ◌++◌, refl, leb-true}
use Rattle.lexing.specs.Automaton.{Table, IsWhole, IsSound, Accepts}
use Rattle.lexing.proofs.Certificate.{Entry, rows_right, row_right, rows_append, certified}
use Rattle.lexing.proofs.Whole.{is_whole, whole as whole_by}
use Rattle.py_lex.specs.declared.table.TheConstants.{COLUMNS, ROWS, WIDTH}
use Rattle.py_lex.specs.Tokens.{anything, name_more, digit, decimal, hex_digit, exponent, digits_first, letter_r, letter_b, short_quote, short_double, char_quote, char_double, long_quote, long_double, letter_f, meta_name, line_end, in_line, rules, field_rules, converted_rules, text_rules, format_rules}
use Rattle.node_tree.specs.declared.view.Mode.TheVariants.{Text, Pattern}
use Rattle.py_lex.specs.declared.class.Forms.TheVariants.{Both, Short, Long, Neither}
use Rattle.lexing.specs.Rules.{Expression, Empty, OneOf, Then, Or, Many, the, To, Rule}

abbrev pub the_table : Table
the_table = record { columns = COLUMNS; rows = ROWS; width = WIDTH }

abbrev entry : ℕ → List Rule → Entry
entry s rules = record { place = s; left = rules }

abbrev left : ℕ → Expression → Rule
left w e = record { word = w; spelled = e }

unfoldable pub entries_1 : List Entry
entries_1 =
    entry 0 ([])
    ∷ entry 54 (rules Text Both)
    ∷ entry 108 (rules Text Short)
    ∷ entry 162 (rules Text Long)
    ∷ entry 216 (rules Text Neither)
    ∷ entry 270 (rules Pattern Both)
    ∷ entry 324 (rules Pattern Short)
    ∷ entry 378 (rules Pattern Long)
    ∷ entry 432 (rules Pattern Neither)
    ∷ entry 486 (field_rules Text Both)
    ∷ entry 540 (field_rules Text Short)
    ∷ []

unfoldable pub entries_2 : List Entry
entries_2 =
    entry 594 (field_rules Text Long)
    ∷ entry 648 (field_rules Text Neither)
    ∷ entry 702 (field_rules Pattern Both)
    ∷ entry 756 (field_rules Pattern Short)
    ∷ entry 810 (field_rules Pattern Long)
    ∷ entry 864 (field_rules Pattern Neither)
    ∷ entry 918 (converted_rules)
    ∷ entry 972 (text_rules)
    ∷ entry 1026 (format_rules)
    ∷ entry 1080 (left 8 (Many (OneOf (To 9 9 ∷ To 12 12 ∷ To 32 32 ∷ []))) ∷ [])
    ∷ entry 1134 (left 9 Empty ∷ [])
    ∷ []

unfoldable pub entries_3 : List Entry
entries_3 =
    entry 1188 (left 9 (the 10) ∷ [])
    ∷ entry 1242 (left 3 (the 61) ∷ [])
    ∷ entry 1296 (left 2 (Then (Many short_double) (the 34)) ∷ left 2 (Then (Then (the 34) (the 34)) (Then (Many long_double) (Then (the 34) (Then (the 34) (the 34))))) ∷ [])
    ∷ entry 1350 (left 11 (Many in_line) ∷ [])
    ∷ entry 1404 (left 3 Empty ∷ left 3 (the 61) ∷ [])
    ∷ entry 1458 (left 2 (Then (Many short_quote) (the 39)) ∷ left 2 (Then (Then (the 39) (the 39)) (Then (Many long_quote) (Then (the 39) (Then (the 39) (the 39))))) ∷ [])
    ∷ entry 1512 (left 4 Empty ∷ [])
    ∷ entry 1566 (left 5 Empty ∷ [])
    ∷ entry 1620 (left 3 Empty ∷ left 3 (the 42) ∷ left 3 (the 61) ∷ left 3 (Then (the 42) (the 61)) ∷ [])
    ∷ entry 1674 (left 3 Empty ∷ [])
    ∷ entry 1728 (left 3 Empty ∷ left 3 (the 62) ∷ left 3 (the 61) ∷ [])
    ∷ []

unfoldable pub entries_4 : List Entry
entries_4 =
    entry 1782 (left 1 (Then (Then decimal (Or Empty exponent)) (Or Empty (Or (the 74) (the 106)))) ∷ left 3 Empty ∷ left 3 (Then (the 46) (the 46)) ∷ [])
    ∷ entry 1836 (left 3 Empty ∷ left 3 (the 47) ∷ left 3 (the 61) ∷ left 3 (Then (the 47) (the 61)) ∷ [])
    ∷ entry 1890 (left 1 (Then (Or (the 88) (the 120)) (Then hex_digit (Many (Or hex_digit (Then (the 95) hex_digit))))) ∷ left 1 (Then (Or (the 79) (the 111)) (Then (OneOf (To 48 55 ∷ [])) (Many (Or (OneOf (To 48 55 ∷ [])) (Then (the 95) (OneOf (To 48 55 ∷ []))))))) ∷ left 1 (Then letter_b (Then (OneOf (To 48 49 ∷ [])) (Many (Or (OneOf (To 48 49 ∷ [])) (Then (the 95) (OneOf (To 48 49 ∷ []))))))) ∷ left 1 (Then (Then (Many (Or digit (Then (the 95) digit))) (Then (Or Empty (Then (the 46) (Or Empty decimal))) (Or Empty exponent))) (Or Empty (Or (the 74) (the 106)))) ∷ [])
    ∷ entry 1944 (left 1 (Then (Then (Many (Or digit (Then (the 95) digit))) (Then (Or Empty (Then (the 46) (Or Empty decimal))) (Or Empty exponent))) (Or Empty (Or (the 74) (the 106)))) ∷ [])
    ∷ entry 1998 (left 3 (the 60) ∷ left 3 Empty ∷ left 3 (the 61) ∷ left 3 (Then (the 60) (the 61)) ∷ [])
    ∷ entry 2052 (left 3 (the 62) ∷ left 3 Empty ∷ left 3 (the 61) ∷ left 3 (Then (the 62) (the 61)) ∷ [])
    ∷ entry 2106 (left 0 (Many name_more) ∷ [])
    ∷ entry 2160 (left 0 (Many name_more) ∷ left 2 (Or (Then (the 39) (Then (Many short_quote) (the 39))) (Or (Then (the 34) (Then (Many short_double) (the 34))) (Or (Then (Then (the 39) (Then (the 39) (the 39))) (Then (Many long_quote) (Then (the 39) (Then (the 39) (the 39))))) (Then (Then (the 34) (Then (the 34) (the 34))) (Then (Many long_double) (Then (the 34) (Then (the 34) (the 34)))))))) ∷ left 2 (Then letter_r (Or (Then (the 39) (Then (Many short_quote) (the 39))) (Or (Then (the 34) (Then (Many short_double) (the 34))) (Or (Then (Then (the 39) (Then (the 39) (the 39))) (Then (Many long_quote) (Then (the 39) (Then (the 39) (the 39))))) (Then (Then (the 34) (Then (the 34) (the 34))) (Then (Many long_double) (Then (the 34) (Then (the 34) (the 34))))))))) ∷ [])
    ∷ entry 2214 (left 12 (Or (Then (the 39) (Then (Many short_quote) (the 39))) (Then (the 34) (Then (Many short_double) (the 34)))) ∷ left 12 (Then letter_r (Or (Then (the 39) (Then (Many short_quote) (the 39))) (Then (the 34) (Then (Many short_double) (the 34))))) ∷ left 13 (Or (Then (Then (the 39) (Then (the 39) (the 39))) (Then (Many long_quote) (Then (the 39) (Then (the 39) (the 39))))) (Then (Then (the 34) (Then (the 34) (the 34))) (Then (Many long_double) (Then (the 34) (Then (the 34) (the 34)))))) ∷ left 13 (Then letter_r (Or (Then (Then (the 39) (Then (the 39) (the 39))) (Then (Many long_quote) (Then (the 39) (Then (the 39) (the 39))))) (Then (Then (the 34) (Then (the 34) (the 34))) (Then (Many long_double) (Then (the 34) (Then (the 34) (the 34))))))) ∷ left 0 (Many name_more) ∷ [])
    ∷ entry 2268 (left 12 (Then letter_f (Or (Then (the 39) (Then (Many short_quote) (the 39))) (Then (the 34) (Then (Many short_double) (the 34))))) ∷ left 13 (Then letter_f (Or (Then (Then (the 39) (Then (the 39) (the 39))) (Then (Many long_quote) (Then (the 39) (Then (the 39) (the 39))))) (Then (Then (the 34) (Then (the 34) (the 34))) (Then (Many long_double) (Then (the 34) (Then (the 34) (the 34))))))) ∷ left 0 (Many name_more) ∷ left 2 (Or (Then (the 39) (Then (Many short_quote) (the 39))) (Or (Then (the 34) (Then (Many short_double) (the 34))) (Or (Then (Then (the 39) (Then (the 39) (the 39))) (Then (Many long_quote) (Then (the 39) (Then (the 39) (the 39))))) (Then (Then (the 34) (Then (the 34) (the 34))) (Then (Many long_double) (Then (the 34) (Then (the 34) (the 34)))))))) ∷ left 2 (Then letter_b (Or (Then (the 39) (Then (Many short_quote) (the 39))) (Or (Then (the 34) (Then (Many short_double) (the 34))) (Or (Then (Then (the 39) (Then (the 39) (the 39))) (Then (Many long_quote) (Then (the 39) (Then (the 39) (the 39))))) (Then (Then (the 34) (Then (the 34) (the 34))) (Then (Many long_double) (Then (the 34) (Then (the 34) (the 34))))))))) ∷ [])
    ∷ entry 2322 (left 0 (Many name_more) ∷ left 2 (Or (Then (the 39) (Then (Many short_quote) (the 39))) (Or (Then (the 34) (Then (Many short_double) (the 34))) (Or (Then (Then (the 39) (Then (the 39) (the 39))) (Then (Many long_quote) (Then (the 39) (Then (the 39) (the 39))))) (Then (Then (the 34) (Then (the 34) (the 34))) (Then (Many long_double) (Then (the 34) (Then (the 34) (the 34)))))))) ∷ [])
    ∷ []

unfoldable pub entries_5 : List Entry
entries_5 =
    entry 2376 (left 10 line_end ∷ [])
    ∷ entry 2430 (left 12 (Or (Then (the 39) (Then (Many short_quote) (the 39))) (Then (the 34) (Then (Many short_double) (the 34)))) ∷ left 12 (Then letter_r (Or (Then (the 39) (Then (Many short_quote) (the 39))) (Then (the 34) (Then (Many short_double) (the 34))))) ∷ left 0 (Many name_more) ∷ [])
    ∷ entry 2484 (left 12 (Then letter_f (Or (Then (the 39) (Then (Many short_quote) (the 39))) (Then (the 34) (Then (Many short_double) (the 34))))) ∷ left 0 (Many name_more) ∷ left 2 (Or (Then (the 39) (Then (Many short_quote) (the 39))) (Or (Then (the 34) (Then (Many short_double) (the 34))) (Or (Then (Then (the 39) (Then (the 39) (the 39))) (Then (Many long_quote) (Then (the 39) (Then (the 39) (the 39))))) (Then (Then (the 34) (Then (the 34) (the 34))) (Then (Many long_double) (Then (the 34) (Then (the 34) (the 34)))))))) ∷ left 2 (Then letter_b (Or (Then (the 39) (Then (Many short_quote) (the 39))) (Or (Then (the 34) (Then (Many short_double) (the 34))) (Or (Then (Then (the 39) (Then (the 39) (the 39))) (Then (Many long_quote) (Then (the 39) (Then (the 39) (the 39))))) (Then (Then (the 34) (Then (the 34) (the 34))) (Then (Many long_double) (Then (the 34) (Then (the 34) (the 34))))))))) ∷ [])
    ∷ entry 2538 (left 13 (Or (Then (Then (the 39) (Then (the 39) (the 39))) (Then (Many long_quote) (Then (the 39) (Then (the 39) (the 39))))) (Then (Then (the 34) (Then (the 34) (the 34))) (Then (Many long_double) (Then (the 34) (Then (the 34) (the 34)))))) ∷ left 13 (Then letter_r (Or (Then (Then (the 39) (Then (the 39) (the 39))) (Then (Many long_quote) (Then (the 39) (Then (the 39) (the 39))))) (Then (Then (the 34) (Then (the 34) (the 34))) (Then (Many long_double) (Then (the 34) (Then (the 34) (the 34))))))) ∷ left 0 (Many name_more) ∷ [])
    ∷ entry 2592 (left 13 (Then letter_f (Or (Then (Then (the 39) (Then (the 39) (the 39))) (Then (Many long_quote) (Then (the 39) (Then (the 39) (the 39))))) (Then (Then (the 34) (Then (the 34) (the 34))) (Then (Many long_double) (Then (the 34) (Then (the 34) (the 34))))))) ∷ left 0 (Many name_more) ∷ left 2 (Or (Then (the 39) (Then (Many short_quote) (the 39))) (Or (Then (the 34) (Then (Many short_double) (the 34))) (Or (Then (Then (the 39) (Then (the 39) (the 39))) (Then (Many long_quote) (Then (the 39) (Then (the 39) (the 39))))) (Then (Then (the 34) (Then (the 34) (the 34))) (Then (Many long_double) (Then (the 34) (Then (the 34) (the 34)))))))) ∷ left 2 (Then letter_b (Or (Then (the 39) (Then (Many short_quote) (the 39))) (Or (Then (the 34) (Then (Many short_double) (the 34))) (Or (Then (Then (the 39) (Then (the 39) (the 39))) (Then (Many long_quote) (Then (the 39) (Then (the 39) (the 39))))) (Then (Then (the 34) (Then (the 34) (the 34))) (Then (Many long_double) (Then (the 34) (Then (the 34) (the 34))))))))) ∷ [])
    ∷ entry 2646 (left 0 (Many name_more) ∷ left 2 (Or (Then (the 39) (Then (Many short_quote) (the 39))) (Or (Then (the 34) (Then (Many short_double) (the 34))) (Or (Then (Then (the 39) (Then (the 39) (the 39))) (Then (Many long_quote) (Then (the 39) (Then (the 39) (the 39))))) (Then (Then (the 34) (Then (the 34) (the 34))) (Then (Many long_double) (Then (the 34) (Then (the 34) (the 34)))))))) ∷ left 2 (Then letter_b (Or (Then (the 39) (Then (Many short_quote) (the 39))) (Or (Then (the 34) (Then (Many short_double) (the 34))) (Or (Then (Then (the 39) (Then (the 39) (the 39))) (Then (Many long_quote) (Then (the 39) (Then (the 39) (the 39))))) (Then (Then (the 34) (Then (the 34) (the 34))) (Then (Many long_double) (Then (the 34) (Then (the 34) (the 34))))))))) ∷ [])
    ∷ entry 2700 (left 6 meta_name ∷ left 7 (Then (Then (the 46) (Then (the 46) (the 46))) meta_name) ∷ [])
    ∷ entry 2754 (left 3 (Then (the 46) (Then (the 46) (the 62))) ∷ left 1 (Then (Then decimal (Or Empty exponent)) (Or Empty (Or (the 74) (the 106)))) ∷ left 3 Empty ∷ left 3 (Then (the 46) (the 46)) ∷ [])
    ∷ entry 2808 (left 3 (Then (the 46) (Then (the 46) (the 46))) ∷ left 3 (the 60) ∷ left 3 Empty ∷ left 3 (the 61) ∷ left 3 (Then (the 60) (the 61)) ∷ [])
    ∷ entry 2862 (left 18 (the 114) ∷ left 18 (the 115) ∷ left 18 (the 97) ∷ left 3 (the 61) ∷ [])
    ∷ entry 2916 (left 17 Empty ∷ [])
    ∷ []

unfoldable pub entries_6 : List Entry
entries_6 =
    entry 2970 (left 16 Empty ∷ [])
    ∷ entry 3024 (left 14 (Many (Or (OneOf (To 0 122 ∷ To 124 124 ∷ To 126 130 ∷ [])) (Or (Then (the 123) (the 123)) (Then (the 125) (the 125))))) ∷ [])
    ∷ entry 3078 (left 14 (Then (the 123) (Many (Or (OneOf (To 0 122 ∷ To 124 124 ∷ To 126 130 ∷ [])) (Or (Then (the 123) (the 123)) (Then (the 125) (the 125)))))) ∷ left 15 Empty ∷ [])
    ∷ entry 3132 (left 14 (Then (the 125) (Many (Or (OneOf (To 0 122 ∷ To 124 124 ∷ To 126 130 ∷ [])) (Or (Then (the 123) (the 123)) (Then (the 125) (the 125)))))) ∷ [])
    ∷ entry 3186 (left 14 (Many (OneOf (To 0 122 ∷ To 124 124 ∷ To 126 130 ∷ []))) ∷ [])
    ∷ entry 3240 (left 15 Empty ∷ [])
    ∷ entry 3294 (left 2 (Then (Many short_double) (the 34)) ∷ [])
    ∷ entry 3348 (left 2 Empty ∷ left 2 (Then (the 34) (Then (Many long_double) (Then (the 34) (Then (the 34) (the 34))))) ∷ [])
    ∷ entry 3402 (left 2 (Then (Then anything (Many short_double)) (the 34)) ∷ left 2 (Then (Then (Then (the 13) (the 10)) (Many short_double)) (the 34)) ∷ [])
    ∷ entry 3456 (left 11 (Then (Then (Many (the 13)) (OneOf (To 0 9 ∷ To 11 12 ∷ To 14 130 ∷ []))) (Many in_line)) ∷ [])
    ∷ entry 3510 (left 2 (Then (Many short_quote) (the 39)) ∷ [])
    ∷ []

unfoldable pub entries_7 : List Entry
entries_7 =
    entry 3564 (left 2 Empty ∷ left 2 (Then (the 39) (Then (Many long_quote) (Then (the 39) (Then (the 39) (the 39))))) ∷ [])
    ∷ entry 3618 (left 2 (Then (Then anything (Many short_quote)) (the 39)) ∷ left 2 (Then (Then (Then (the 13) (the 10)) (Many short_quote)) (the 39)) ∷ [])
    ∷ entry 3672 (left 3 (the 46) ∷ [])
    ∷ entry 3726 (left 1 (Then (Then (Many (Or digit (Then (the 95) digit))) (Or Empty exponent)) (Or Empty (Or (the 74) (the 106)))) ∷ [])
    ∷ entry 3780 (left 1 (Then (Then (Or Empty decimal) (Or Empty exponent)) (Or Empty (Or (the 74) (the 106)))) ∷ [])
    ∷ entry 3834 (left 1 (Then (OneOf (To 48 49 ∷ [])) (Many (Or (OneOf (To 48 49 ∷ [])) (Then (the 95) (OneOf (To 48 49 ∷ [])))))) ∷ [])
    ∷ entry 3888 (left 1 (Then (Then (Or Empty (Or (the 43) (the 45))) decimal) (Or Empty (Or (the 74) (the 106)))) ∷ [])
    ∷ entry 3942 (left 1 Empty ∷ [])
    ∷ entry 3996 (left 1 (Then (OneOf (To 48 55 ∷ [])) (Many (Or (OneOf (To 48 55 ∷ [])) (Then (the 95) (OneOf (To 48 55 ∷ [])))))) ∷ [])
    ∷ entry 4050 (left 1 (Then hex_digit (Many (Or hex_digit (Then (the 95) hex_digit)))) ∷ [])
    ∷ entry 4104 (left 1 (Then digits_first (Or Empty (Or (the 74) (the 106)))) ∷ [])
    ∷ []

unfoldable pub entries_8 : List Entry
entries_8 =
    entry 4158 (left 12 (Then (Many short_double) (the 34)) ∷ left 13 (Then (Then (the 34) (the 34)) (Then (Many long_double) (Then (the 34) (Then (the 34) (the 34))))) ∷ [])
    ∷ entry 4212 (left 12 (Then (Many short_quote) (the 39)) ∷ left 13 (Then (Then (the 39) (the 39)) (Then (Many long_quote) (Then (the 39) (Then (the 39) (the 39))))) ∷ [])
    ∷ entry 4266 (left 12 (Or (Then (the 39) (Then (Many short_quote) (the 39))) (Then (the 34) (Then (Many short_double) (the 34)))) ∷ left 13 (Or (Then (Then (the 39) (Then (the 39) (the 39))) (Then (Many long_quote) (Then (the 39) (Then (the 39) (the 39))))) (Then (Then (the 34) (Then (the 34) (the 34))) (Then (Many long_double) (Then (the 34) (Then (the 34) (the 34)))))) ∷ left 0 (Many name_more) ∷ [])
    ∷ entry 4320 (left 10 Empty ∷ [])
    ∷ entry 4374 (left 10 (the 10) ∷ [])
    ∷ entry 4428 (left 12 (Then (Many short_double) (the 34)) ∷ [])
    ∷ entry 4482 (left 12 (Then (Many short_quote) (the 39)) ∷ [])
    ∷ entry 4536 (left 12 (Or (Then (the 39) (Then (Many short_quote) (the 39))) (Then (the 34) (Then (Many short_double) (the 34)))) ∷ left 0 (Many name_more) ∷ [])
    ∷ entry 4590 (left 13 (Then (Then (the 34) (the 34)) (Then (Many long_double) (Then (the 34) (Then (the 34) (the 34))))) ∷ [])
    ∷ entry 4644 (left 13 (Then (Then (the 39) (the 39)) (Then (Many long_quote) (Then (the 39) (Then (the 39) (the 39))))) ∷ [])
    ∷ entry 4698 (left 13 (Or (Then (Then (the 39) (Then (the 39) (the 39))) (Then (Many long_quote) (Then (the 39) (Then (the 39) (the 39))))) (Then (Then (the 34) (Then (the 34) (the 34))) (Then (Many long_double) (Then (the 34) (Then (the 34) (the 34)))))) ∷ left 0 (Many name_more) ∷ [])
    ∷ []

unfoldable pub entries_9 : List Entry
entries_9 =
    entry 4752 (left 7 (Then (Then (the 46) (the 46)) meta_name) ∷ [])
    ∷ entry 4806 (left 6 (Many (OneOf (To 48 57 ∷ To 65 90 ∷ To 95 95 ∷ []))) ∷ [])
    ∷ entry 4860 (left 3 (Then (the 46) (the 62)) ∷ left 3 (the 46) ∷ [])
    ∷ entry 4914 (left 3 (Then (the 46) (the 46)) ∷ [])
    ∷ entry 4968 (left 18 Empty ∷ [])
    ∷ entry 5022 (left 14 (Then (the 123) (Many (Or (OneOf (To 0 122 ∷ To 124 124 ∷ To 126 130 ∷ [])) (Or (Then (the 123) (the 123)) (Then (the 125) (the 125)))))) ∷ [])
    ∷ entry 5076 (left 2 Empty ∷ [])
    ∷ entry 5130 (left 2 (Then (Many long_double) (Then (the 34) (Then (the 34) (the 34)))) ∷ [])
    ∷ entry 5184 (left 2 (Then (Many short_double) (the 34)) ∷ left 2 (Then (Then (the 10) (Many short_double)) (the 34)) ∷ [])
    ∷ entry 5238 (left 2 (Then (Many long_quote) (Then (the 39) (Then (the 39) (the 39)))) ∷ [])
    ∷ entry 5292 (left 2 (Then (Many short_quote) (the 39)) ∷ left 2 (Then (Then (the 10) (Many short_quote)) (the 39)) ∷ [])
    ∷ []

unfoldable pub entries_10 : List Entry
entries_10 =
    entry 5346 (left 1 (Then (Then decimal (Or Empty exponent)) (Or Empty (Or (the 74) (the 106)))) ∷ [])
    ∷ entry 5400 (left 1 (Many (Or (OneOf (To 48 49 ∷ [])) (Then (the 95) (OneOf (To 48 49 ∷ []))))) ∷ [])
    ∷ entry 5454 (left 1 (Then decimal (Or Empty (Or (the 74) (the 106)))) ∷ [])
    ∷ entry 5508 (left 1 (Then (Many (Or digit (Then (the 95) digit))) (Or Empty (Or (the 74) (the 106)))) ∷ [])
    ∷ entry 5562 (left 1 (Many (Or (OneOf (To 48 55 ∷ [])) (Then (the 95) (OneOf (To 48 55 ∷ []))))) ∷ [])
    ∷ entry 5616 (left 1 (Many (Or hex_digit (Then (the 95) hex_digit))) ∷ [])
    ∷ entry 5670 (left 12 Empty ∷ left 13 (Then (the 34) (Then (Many long_double) (Then (the 34) (Then (the 34) (the 34))))) ∷ [])
    ∷ entry 5724 (left 12 (Then (Then anything (Many short_double)) (the 34)) ∷ left 12 (Then (Then (Then (the 13) (the 10)) (Many short_double)) (the 34)) ∷ [])
    ∷ entry 5778 (left 12 Empty ∷ left 13 (Then (the 39) (Then (Many long_quote) (Then (the 39) (Then (the 39) (the 39))))) ∷ [])
    ∷ entry 5832 (left 12 (Then (Then anything (Many short_quote)) (the 39)) ∷ left 12 (Then (Then (Then (the 13) (the 10)) (Many short_quote)) (the 39)) ∷ [])
    ∷ entry 5886 (left 12 Empty ∷ [])
    ∷ []

unfoldable pub entries_11 : List Entry
entries_11 =
    entry 5940 (left 13 (Then (the 34) (Then (Many long_double) (Then (the 34) (Then (the 34) (the 34))))) ∷ [])
    ∷ entry 5994 (left 13 (Then (the 39) (Then (Many long_quote) (Then (the 39) (Then (the 39) (the 39))))) ∷ [])
    ∷ entry 6048 (left 7 (Then (the 46) meta_name) ∷ [])
    ∷ entry 6102 (left 3 (the 62) ∷ left 3 Empty ∷ [])
    ∷ entry 6156 (left 2 (Then (Then char_double (Many long_double)) (Then (the 34) (Then (the 34) (the 34)))) ∷ left 2 (Then (Then (Then (the 34) char_double) (Many long_double)) (Then (the 34) (Then (the 34) (the 34)))) ∷ left 2 (Then (the 34) (the 34)) ∷ [])
    ∷ entry 6210 (left 2 (Then (Then anything (Many long_double)) (Then (the 34) (Then (the 34) (the 34)))) ∷ [])
    ∷ entry 6264 (left 2 (Then (Then char_quote (Many long_quote)) (Then (the 39) (Then (the 39) (the 39)))) ∷ left 2 (Then (Then (Then (the 39) char_quote) (Many long_quote)) (Then (the 39) (Then (the 39) (the 39)))) ∷ left 2 (Then (the 39) (the 39)) ∷ [])
    ∷ entry 6318 (left 2 (Then (Then anything (Many long_quote)) (Then (the 39) (Then (the 39) (the 39)))) ∷ [])
    ∷ entry 6372 (left 13 (Then (Many long_double) (Then (the 34) (Then (the 34) (the 34)))) ∷ [])
    ∷ entry 6426 (left 12 (Then (Many short_double) (the 34)) ∷ left 12 (Then (Then (the 10) (Many short_double)) (the 34)) ∷ [])
    ∷ entry 6480 (left 13 (Then (Many long_quote) (Then (the 39) (Then (the 39) (the 39)))) ∷ [])
    ∷ []

unfoldable pub entries_12 : List Entry
entries_12 =
    entry 6534 (left 12 (Then (Many short_quote) (the 39)) ∷ left 12 (Then (Then (the 10) (Many short_quote)) (the 39)) ∷ [])
    ∷ entry 6588 (left 7 meta_name ∷ [])
    ∷ entry 6642 (left 2 (Then (Then char_double (Many long_double)) (Then (the 34) (Then (the 34) (the 34)))) ∷ left 2 (the 34) ∷ [])
    ∷ entry 6696 (left 2 (Then (Then char_quote (Many long_quote)) (Then (the 39) (Then (the 39) (the 39)))) ∷ left 2 (the 39) ∷ [])
    ∷ entry 6750 (left 13 (Then (Then char_double (Many long_double)) (Then (the 34) (Then (the 34) (the 34)))) ∷ left 13 (Then (Then (Then (the 34) char_double) (Many long_double)) (Then (the 34) (Then (the 34) (the 34)))) ∷ left 13 (Then (the 34) (the 34)) ∷ [])
    ∷ entry 6804 (left 13 (Then (Then anything (Many long_double)) (Then (the 34) (Then (the 34) (the 34)))) ∷ [])
    ∷ entry 6858 (left 13 (Then (Then char_quote (Many long_quote)) (Then (the 39) (Then (the 39) (the 39)))) ∷ left 13 (Then (Then (Then (the 39) char_quote) (Many long_quote)) (Then (the 39) (Then (the 39) (the 39)))) ∷ left 13 (Then (the 39) (the 39)) ∷ [])
    ∷ entry 6912 (left 13 (Then (Then anything (Many long_quote)) (Then (the 39) (Then (the 39) (the 39)))) ∷ [])
    ∷ entry 6966 (left 7 (Many (OneOf (To 48 57 ∷ To 65 90 ∷ To 95 95 ∷ []))) ∷ [])
    ∷ entry 7020 (left 13 (Then (Then char_double (Many long_double)) (Then (the 34) (Then (the 34) (the 34)))) ∷ left 13 (the 34) ∷ [])
    ∷ entry 7074 (left 13 (Then (Then char_quote (Many long_quote)) (Then (the 39) (Then (the 39) (the 39)))) ∷ left 13 (the 39) ∷ [])
    ∷ []

unfoldable pub entries_13 : List Entry
entries_13 =
    entry 7128 (left 13 Empty ∷ [])
    ∷ []

unfoldable pub entries : List Entry
entries = entries_1 ++ (entries_2 ++ (entries_3 ++ (entries_4 ++ (entries_5 ++ (entries_6 ++ (entries_7 ++ (entries_8 ++ (entries_9 ++ (entries_10 ++ (entries_11 ++ (entries_12 ++ (entries_13))))))))))))

rows_of_entries_1 : rows_right the_table entries entries_1 ≡ true
unfolding entries entries_1 entries_2 entries_3 entries_4 entries_5 entries_6 entries_7 entries_8 entries_9 entries_10 entries_11 entries_12 entries_13 row_right
rows_of_entries_1 = refl

rows_of_entries_2 : rows_right the_table entries entries_2 ≡ true
unfolding entries entries_1 entries_2 entries_3 entries_4 entries_5 entries_6 entries_7 entries_8 entries_9 entries_10 entries_11 entries_12 entries_13 row_right
rows_of_entries_2 = refl

rows_of_entries_3 : rows_right the_table entries entries_3 ≡ true
unfolding entries entries_1 entries_2 entries_3 entries_4 entries_5 entries_6 entries_7 entries_8 entries_9 entries_10 entries_11 entries_12 entries_13 row_right
rows_of_entries_3 = refl

rows_of_entries_4 : rows_right the_table entries entries_4 ≡ true
unfolding entries entries_1 entries_2 entries_3 entries_4 entries_5 entries_6 entries_7 entries_8 entries_9 entries_10 entries_11 entries_12 entries_13 row_right
rows_of_entries_4 = refl

rows_of_entries_5 : rows_right the_table entries entries_5 ≡ true
unfolding entries entries_1 entries_2 entries_3 entries_4 entries_5 entries_6 entries_7 entries_8 entries_9 entries_10 entries_11 entries_12 entries_13 row_right
rows_of_entries_5 = refl

rows_of_entries_6 : rows_right the_table entries entries_6 ≡ true
unfolding entries entries_1 entries_2 entries_3 entries_4 entries_5 entries_6 entries_7 entries_8 entries_9 entries_10 entries_11 entries_12 entries_13 row_right
rows_of_entries_6 = refl

rows_of_entries_7 : rows_right the_table entries entries_7 ≡ true
unfolding entries entries_1 entries_2 entries_3 entries_4 entries_5 entries_6 entries_7 entries_8 entries_9 entries_10 entries_11 entries_12 entries_13 row_right
rows_of_entries_7 = refl

rows_of_entries_8 : rows_right the_table entries entries_8 ≡ true
unfolding entries entries_1 entries_2 entries_3 entries_4 entries_5 entries_6 entries_7 entries_8 entries_9 entries_10 entries_11 entries_12 entries_13 row_right
rows_of_entries_8 = refl

rows_of_entries_9 : rows_right the_table entries entries_9 ≡ true
unfolding entries entries_1 entries_2 entries_3 entries_4 entries_5 entries_6 entries_7 entries_8 entries_9 entries_10 entries_11 entries_12 entries_13 row_right
rows_of_entries_9 = refl

rows_of_entries_10 : rows_right the_table entries entries_10 ≡ true
unfolding entries entries_1 entries_2 entries_3 entries_4 entries_5 entries_6 entries_7 entries_8 entries_9 entries_10 entries_11 entries_12 entries_13 row_right
rows_of_entries_10 = refl

rows_of_entries_11 : rows_right the_table entries entries_11 ≡ true
unfolding entries entries_1 entries_2 entries_3 entries_4 entries_5 entries_6 entries_7 entries_8 entries_9 entries_10 entries_11 entries_12 entries_13 row_right
rows_of_entries_11 = refl

rows_of_entries_12 : rows_right the_table entries entries_12 ≡ true
unfolding entries entries_1 entries_2 entries_3 entries_4 entries_5 entries_6 entries_7 entries_8 entries_9 entries_10 entries_11 entries_12 entries_13 row_right
rows_of_entries_12 = refl

rows_of_entries_13 : rows_right the_table entries entries_13 ≡ true
unfolding entries entries_1 entries_2 entries_3 entries_4 entries_5 entries_6 entries_7 entries_8 entries_9 entries_10 entries_11 entries_12 entries_13 row_right
rows_of_entries_13 = refl

pub rows : rows_right the_table entries entries ≡ true
unfolding entries
rows = rows_append the_table entries entries_1 _ rows_of_entries_1 (rows_append the_table entries entries_2 _ rows_of_entries_2 (rows_append the_table entries entries_3 _ rows_of_entries_3 (rows_append the_table entries entries_4 _ rows_of_entries_4 (rows_append the_table entries entries_5 _ rows_of_entries_5 (rows_append the_table entries entries_6 _ rows_of_entries_6 (rows_append the_table entries entries_7 _ rows_of_entries_7 (rows_append the_table entries entries_8 _ rows_of_entries_8 (rows_append the_table entries entries_9 _ rows_of_entries_9 (rows_append the_table entries entries_10 _ rows_of_entries_10 (rows_append the_table entries entries_11 _ rows_of_entries_11 (rows_append the_table entries entries_12 _ rows_of_entries_12 (rows_of_entries_13))))))))))))

is_whole_table : IsWhole the_table
unfolding is_whole
is_whole_table = whole_by the_table refl

pub accepts_0 : Accepts the_table 54 (rules Text Both)
unfolding entries entries_1 entries_2 entries_3 entries_4 entries_5 entries_6 entries_7 entries_8 entries_9 entries_10 entries_11 entries_12 entries_13
accepts_0 = certified the_table entries 54 (rules Text Both) rows refl

pub sound_0 : IsSound (record { table = the_table; start = 54 })
sound_0 = record { whole = is_whole_table; begins = record { row = leb-true _ _ refl; nothing = refl } }

pub accepts_1 : Accepts the_table 108 (rules Text Short)
unfolding entries entries_1 entries_2 entries_3 entries_4 entries_5 entries_6 entries_7 entries_8 entries_9 entries_10 entries_11 entries_12 entries_13
accepts_1 = certified the_table entries 108 (rules Text Short) rows refl

pub sound_1 : IsSound (record { table = the_table; start = 108 })
sound_1 = record { whole = is_whole_table; begins = record { row = leb-true _ _ refl; nothing = refl } }

pub accepts_2 : Accepts the_table 162 (rules Text Long)
unfolding entries entries_1 entries_2 entries_3 entries_4 entries_5 entries_6 entries_7 entries_8 entries_9 entries_10 entries_11 entries_12 entries_13
accepts_2 = certified the_table entries 162 (rules Text Long) rows refl

pub sound_2 : IsSound (record { table = the_table; start = 162 })
sound_2 = record { whole = is_whole_table; begins = record { row = leb-true _ _ refl; nothing = refl } }

pub accepts_3 : Accepts the_table 216 (rules Text Neither)
unfolding entries entries_1 entries_2 entries_3 entries_4 entries_5 entries_6 entries_7 entries_8 entries_9 entries_10 entries_11 entries_12 entries_13
accepts_3 = certified the_table entries 216 (rules Text Neither) rows refl

pub sound_3 : IsSound (record { table = the_table; start = 216 })
sound_3 = record { whole = is_whole_table; begins = record { row = leb-true _ _ refl; nothing = refl } }

pub accepts_4 : Accepts the_table 270 (rules Pattern Both)
unfolding entries entries_1 entries_2 entries_3 entries_4 entries_5 entries_6 entries_7 entries_8 entries_9 entries_10 entries_11 entries_12 entries_13
accepts_4 = certified the_table entries 270 (rules Pattern Both) rows refl

pub sound_4 : IsSound (record { table = the_table; start = 270 })
sound_4 = record { whole = is_whole_table; begins = record { row = leb-true _ _ refl; nothing = refl } }

pub accepts_5 : Accepts the_table 324 (rules Pattern Short)
unfolding entries entries_1 entries_2 entries_3 entries_4 entries_5 entries_6 entries_7 entries_8 entries_9 entries_10 entries_11 entries_12 entries_13
accepts_5 = certified the_table entries 324 (rules Pattern Short) rows refl

pub sound_5 : IsSound (record { table = the_table; start = 324 })
sound_5 = record { whole = is_whole_table; begins = record { row = leb-true _ _ refl; nothing = refl } }

pub accepts_6 : Accepts the_table 378 (rules Pattern Long)
unfolding entries entries_1 entries_2 entries_3 entries_4 entries_5 entries_6 entries_7 entries_8 entries_9 entries_10 entries_11 entries_12 entries_13
accepts_6 = certified the_table entries 378 (rules Pattern Long) rows refl

pub sound_6 : IsSound (record { table = the_table; start = 378 })
sound_6 = record { whole = is_whole_table; begins = record { row = leb-true _ _ refl; nothing = refl } }

pub accepts_7 : Accepts the_table 432 (rules Pattern Neither)
unfolding entries entries_1 entries_2 entries_3 entries_4 entries_5 entries_6 entries_7 entries_8 entries_9 entries_10 entries_11 entries_12 entries_13
accepts_7 = certified the_table entries 432 (rules Pattern Neither) rows refl

pub sound_7 : IsSound (record { table = the_table; start = 432 })
sound_7 = record { whole = is_whole_table; begins = record { row = leb-true _ _ refl; nothing = refl } }

pub accepts_8 : Accepts the_table 486 (field_rules Text Both)
unfolding entries entries_1 entries_2 entries_3 entries_4 entries_5 entries_6 entries_7 entries_8 entries_9 entries_10 entries_11 entries_12 entries_13
accepts_8 = certified the_table entries 486 (field_rules Text Both) rows refl

pub sound_8 : IsSound (record { table = the_table; start = 486 })
sound_8 = record { whole = is_whole_table; begins = record { row = leb-true _ _ refl; nothing = refl } }

pub accepts_9 : Accepts the_table 540 (field_rules Text Short)
unfolding entries entries_1 entries_2 entries_3 entries_4 entries_5 entries_6 entries_7 entries_8 entries_9 entries_10 entries_11 entries_12 entries_13
accepts_9 = certified the_table entries 540 (field_rules Text Short) rows refl

pub sound_9 : IsSound (record { table = the_table; start = 540 })
sound_9 = record { whole = is_whole_table; begins = record { row = leb-true _ _ refl; nothing = refl } }

pub accepts_10 : Accepts the_table 594 (field_rules Text Long)
unfolding entries entries_1 entries_2 entries_3 entries_4 entries_5 entries_6 entries_7 entries_8 entries_9 entries_10 entries_11 entries_12 entries_13
accepts_10 = certified the_table entries 594 (field_rules Text Long) rows refl

pub sound_10 : IsSound (record { table = the_table; start = 594 })
sound_10 = record { whole = is_whole_table; begins = record { row = leb-true _ _ refl; nothing = refl } }

pub accepts_11 : Accepts the_table 648 (field_rules Text Neither)
unfolding entries entries_1 entries_2 entries_3 entries_4 entries_5 entries_6 entries_7 entries_8 entries_9 entries_10 entries_11 entries_12 entries_13
accepts_11 = certified the_table entries 648 (field_rules Text Neither) rows refl

pub sound_11 : IsSound (record { table = the_table; start = 648 })
sound_11 = record { whole = is_whole_table; begins = record { row = leb-true _ _ refl; nothing = refl } }

pub accepts_12 : Accepts the_table 702 (field_rules Pattern Both)
unfolding entries entries_1 entries_2 entries_3 entries_4 entries_5 entries_6 entries_7 entries_8 entries_9 entries_10 entries_11 entries_12 entries_13
accepts_12 = certified the_table entries 702 (field_rules Pattern Both) rows refl

pub sound_12 : IsSound (record { table = the_table; start = 702 })
sound_12 = record { whole = is_whole_table; begins = record { row = leb-true _ _ refl; nothing = refl } }

pub accepts_13 : Accepts the_table 756 (field_rules Pattern Short)
unfolding entries entries_1 entries_2 entries_3 entries_4 entries_5 entries_6 entries_7 entries_8 entries_9 entries_10 entries_11 entries_12 entries_13
accepts_13 = certified the_table entries 756 (field_rules Pattern Short) rows refl

pub sound_13 : IsSound (record { table = the_table; start = 756 })
sound_13 = record { whole = is_whole_table; begins = record { row = leb-true _ _ refl; nothing = refl } }

pub accepts_14 : Accepts the_table 810 (field_rules Pattern Long)
unfolding entries entries_1 entries_2 entries_3 entries_4 entries_5 entries_6 entries_7 entries_8 entries_9 entries_10 entries_11 entries_12 entries_13
accepts_14 = certified the_table entries 810 (field_rules Pattern Long) rows refl

pub sound_14 : IsSound (record { table = the_table; start = 810 })
sound_14 = record { whole = is_whole_table; begins = record { row = leb-true _ _ refl; nothing = refl } }

pub accepts_15 : Accepts the_table 864 (field_rules Pattern Neither)
unfolding entries entries_1 entries_2 entries_3 entries_4 entries_5 entries_6 entries_7 entries_8 entries_9 entries_10 entries_11 entries_12 entries_13
accepts_15 = certified the_table entries 864 (field_rules Pattern Neither) rows refl

pub sound_15 : IsSound (record { table = the_table; start = 864 })
sound_15 = record { whole = is_whole_table; begins = record { row = leb-true _ _ refl; nothing = refl } }

pub accepts_16 : Accepts the_table 918 (converted_rules)
unfolding entries entries_1 entries_2 entries_3 entries_4 entries_5 entries_6 entries_7 entries_8 entries_9 entries_10 entries_11 entries_12 entries_13
accepts_16 = certified the_table entries 918 (converted_rules) rows refl

pub sound_16 : IsSound (record { table = the_table; start = 918 })
sound_16 = record { whole = is_whole_table; begins = record { row = leb-true _ _ refl; nothing = refl } }

pub accepts_17 : Accepts the_table 972 (text_rules)
unfolding entries entries_1 entries_2 entries_3 entries_4 entries_5 entries_6 entries_7 entries_8 entries_9 entries_10 entries_11 entries_12 entries_13
accepts_17 = certified the_table entries 972 (text_rules) rows refl

pub sound_17 : IsSound (record { table = the_table; start = 972 })
sound_17 = record { whole = is_whole_table; begins = record { row = leb-true _ _ refl; nothing = refl } }

pub accepts_18 : Accepts the_table 1026 (format_rules)
unfolding entries entries_1 entries_2 entries_3 entries_4 entries_5 entries_6 entries_7 entries_8 entries_9 entries_10 entries_11 entries_12 entries_13
accepts_18 = certified the_table entries 1026 (format_rules) rows refl

pub sound_18 : IsSound (record { table = the_table; start = 1026 })
sound_18 = record { whole = is_whole_table; begins = record { row = leb-true _ _ refl; nothing = refl } }
