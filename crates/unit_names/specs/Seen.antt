-- What contracts see of words.
use Rattle.std.specs.Prelude.{ℕ, List, map, refl, Option, option_map, option_to_list}
use Rattle.std.specs.Coded.{Coded, code_by, coded×, coded_ℕ, coded_list}
use Rattle.node_tree.specs.declared.kind.Kind.{Kind}
use Rattle.node_tree.specs.contracts.kind.Kind as kinds
use Rattle.unit_names.specs.declared.word.Word.{Word as Lent}
use Rattle.unit_names.specs.Words.{Word}

abbrev pub seen_word : Lent → Word
seen_word w = record { kind = w.kind; text = w.text.now }

abbrev pub word_code : Coded Word
word_code = code_by (Kind × List ℕ) (coded× kinds.the_row.coded (coded_list coded_ℕ)) (λ w. (w.kind, w.text)) (λ p. record { kind = p.0; text = p.1 }) (λ _. refl)

abbrev pub all_words : List Lent → List Word
all_words = map seen_word

-- a word that may be there
abbrev pub word_list : Option Lent → List Word
word_list w = option_to_list (option_map seen_word w)
