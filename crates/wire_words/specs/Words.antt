-- The words of commands without options.
use Rattle.std.specs.Prelude.{◌≡◌, ◌≤◌, ℕ, List, [], ◌∷◌, codes, ⊤}
use Rattle.std.specs.Fmt.{decimal}
use Rattle.node_tree.specs.declared.view.Lang.{Lang}
use Rattle.node_tree.specs.declared.view.Lang.TheVariants as langs

-- the word of a language
abbrev pub lang_word : Lang → List ℕ
lang_word langs.Json = codes "json"
lang_word langs.Python = codes "python"
lang_word langs.C = codes "c"
lang_word langs.Regex = codes "regex"

-- the languages whose files are matched: those that have trees
abbrev pub IsMatched : Lang → Type 0
IsMatched langs.Json = ⊤
IsMatched langs.Python = ⊤
IsMatched langs.C = ⊤
IsMatched langs.Regex = ⊥

-- the words are `match`, the word of a language, and a pattern
pub record AreMatchWords (words : List (List ℕ)) (lang : Lang) (pattern : List ℕ) : Type 0 where
  pub matched : IsMatched lang
  pub are : words ≡ codes "match" ∷ lang_word lang ∷ pattern ∷ []

-- the words are `check json`
abbrev pub AreCheckWords : List (List ℕ) → Type 0
AreCheckWords words = words ≡ codes "check" ∷ codes "json" ∷ []

-- the words are `drill` and a number from 1 to 10,000, in decimal without leading zeros
pub record AreDrillWords (words : List (List ℕ)) (count : ℕ) : Type 0 where
  pub some : 1 ≤ count
  pub most : count ≤ 10000
  pub are : words ≡ codes "drill" ∷ decimal count ∷ []
