-- Sets of numbers, 64 in a word.
use Rattle.std.specs.Prelude.{ℕ, ◌/◌, ◌%◌, List, Bool, cond, nat_eq, bit_and}
use Rattle.std.specs.List.{slice_index_or}
use Rattle.std.specs.Int.{bit_at}
use Rattle.piece_store.specs.declared.words.Word.{Word}

-- a word that says nothing
abbrev pub no_word : Word
no_word = record { kept = 0; met = 0 }

-- the word that speaks of a number
abbrev pub word_at : List Word → ℕ → Word
word_at words i = slice_index_or words (i / 64) no_word

-- the bit of a number is set
abbrev pub has_bit : ℕ → ℕ → Bool
has_bit bits i = nat_eq (bit_at bits (i % 64)) 1

-- the number is kept
abbrev pub has_kept : List Word → ℕ → Bool
has_kept words i = has_bit (word_at words i).kept i

-- the number was met in this turn
abbrev pub has_met : List Word → ℕ → Bool
has_met words i = has_bit (word_at words i).met i

-- what a turn leaves of a word: what was met, which isn't met any more
abbrev pub turned_word : Word → Word
turned_word w = record { kept = bit_and w.kept w.met; met = 0 }

-- a word in which all that is kept is met, or nothing
abbrev pub met_word : Bool → Word → Word
met_word met w = record { kept = w.kept; met = cond met w.kept 0 }
