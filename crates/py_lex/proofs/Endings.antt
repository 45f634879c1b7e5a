-- An f-string's closing quotes end it: no f-string begins another.
use Rattle.std.proofs.Common.{◌≡◌, true, refl}
use Rattle.lexing.proofs.Conditions.{closed}
use Rattle.py_lex.proofs.Certificate.{entries, entries_1, entries_2, entries_3, entries_4, entries_5, entries_6, entries_7, entries_8, entries_9, entries_10, entries_11, entries_12, entries_13}

pub short_closed : closed 12 entries ≡ true
unfolding entries entries_1 entries_2 entries_3 entries_4 entries_5 entries_6 entries_7 entries_8 entries_9 entries_10 entries_11 entries_12 entries_13 closed
short_closed = refl

pub long_closed : closed 13 entries ≡ true
unfolding entries entries_1 entries_2 entries_3 entries_4 entries_5 entries_6 entries_7 entries_8 entries_9 entries_10 entries_11 entries_12 entries_13 closed
long_closed = refl
