-- The options of commands.
use Rattle.std.specs.Prelude.{◌≡◌, ◌≤◌, ℕ, Bool, IsTrue, List, [], ◌∷◌, ◌++◌, All, codes, count_by, is_some, if◌then◌else◌, Option, None, Some}
use Rattle.std.specs.Str.{bytes_eq}
use Rattle.std.specs.Borrow.{Bor}
use Rattle.lexing.specs.WordList.{is_among}
use Rattle.wire_words.specs.declared.options.Subcommand.{Subcommand}
use Rattle.wire_words.specs.declared.options.Subcommand.TheVariants as subcommands

-- ---- the table

-- the options of a command that stand alone
abbrev pub flags : Subcommand → List (List ℕ)
flags subcommands.Scan = codes "--error" ∷ codes "--trace" ∷ []
flags subcommands.Fix = codes "--dryrun" ∷ codes "--trace" ∷ []
flags subcommands.Session = codes "--trace" ∷ []

-- the options of a command that have a value, which is the next word
abbrev pub valued : Subcommand → List (List ℕ)
valued subcommands.Scan = codes "--max" ∷ codes "--store" ∷ codes "--config" ∷ []
valued subcommands.Fix = codes "--max" ∷ codes "--config" ∷ []
valued subcommands.Session = codes "--max" ∷ []

-- ---- options as they are given

-- an option: its word, and its value if it has one
pub record Choice : Type 0 where
  pub word : List ℕ
  pub value : Option (List ℕ)

abbrev pub value_words : Option (List ℕ) → List (List ℕ)
value_words None = []
value_words (Some value) = value ∷ []

-- the words of an option
abbrev pub choice_words : Choice → List (List ℕ)
choice_words choice = choice.word ∷ value_words choice.value

-- the words of options one after the other
abbrev pub choices_words : List Choice → List (List ℕ)
choices_words [] = []
choices_words (c ∷ cs) = choice_words c ++ choices_words cs

-- the word is that of an option of the command, with a value or without one
abbrev pub IsOptionWord : Subcommand → List ℕ → Option (List ℕ) → Type 0
IsOptionWord command word None = IsTrue (is_among (flags command) word)
IsOptionWord command word (Some value) = IsTrue (is_among (valued command) word)

abbrev pub IsChoice : Subcommand → Choice → Type 0
IsChoice command choice = IsOptionWord command choice.word choice.value

-- the words begin with this option of the command, and then go on so
pub record Begins (command : Subcommand) (words : List (List ℕ)) (choice : Choice) (rest : List (List ℕ)) : Type 0 where
  pub known : IsChoice command choice
  pub are : words ≡ choice_words choice ++ rest

-- the words are these options of the command
pub record AreChoices (command : Subcommand) (words : List (List ℕ)) (choices : List Choice) : Type 0 where
  pub known : All (IsChoice command) choices
  pub are : words ≡ choices_words choices

-- how often the option of that word stands there
abbrev pub times : List ℕ → List Choice → ℕ
times word choices = count_by (λ (c : Choice). bytes_eq c.word word) choices

-- no option stands there twice
abbrev pub AreOnce : List Choice → Type 0
AreOnce choices = (word : List ℕ) → times word choices ≤ 1

-- the words are options of the command, each at most once
abbrev pub AreOptions : Subcommand → List (List ℕ) → Type 0
AreOptions command words = (choices : List Choice) × AreChoices command words choices × AreOnce choices

-- ---- what is given

-- what is given by the option of that word: nothing where it doesn't stand there, else its value, if it has one
abbrev pub given : List ℕ → List Choice → Option (Option (List ℕ))
given word [] = None
given word (c ∷ cs) = if bytes_eq c.word word then Some c.value else given word cs

-- the option stands there
abbrev pub is_given : List ℕ → List Choice → Bool
is_given word choices = is_some (given word choices)

abbrev pub value_in : Option (Option (List ℕ)) → Option (List ℕ)
value_in None = None
value_in (Some value) = value

-- the value of the option of that word, where it stands there
abbrev pub value_of : List ℕ → List Choice → Option (List ℕ)
value_of word choices = value_in (given word choices)

-- ---- what the code gives

abbrev pub text_in : Option (Bor (List ℕ)) → Option (List ℕ)
text_in None = None
text_in (Some text) = Some text.now

abbrev pub text_within : Option (Option (Bor (List ℕ))) → Option (Option (List ℕ))
text_within None = None
text_within (Some text) = Some (text_in text)

-- the option of these
abbrev pub choice_of : Bor (List ℕ) → Option (Bor (List ℕ)) → Choice
choice_of word value = record { word = word.now; value = text_in value }
