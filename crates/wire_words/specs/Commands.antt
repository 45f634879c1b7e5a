-- The table of words: what the words of a run ask for.
use Rattle.std.specs.Prelude.{◌≡◌, ◌≢◌, ◌≤◌, ◌⊎◌, ℕ, Bool, List, [], ◌∷◌, ◌++◌, codes, Option, None, Some}
use Rattle.std.specs.Fmt.{decimal}
use Rattle.node_tree.specs.declared.view.Lang.{Lang}
use Rattle.path_glob.specs.Path.{IsPath}
use Rattle.wire_words.specs.Words.{AreMatchWords, AreCheckWords, AreDrillWords}
use Rattle.wire_words.specs.Options.{Choice, AreChoices, AreOnce, is_given, value_of, text_in}
use Rattle.wire_words.specs.declared.options.Subcommand.{Subcommand}
use Rattle.wire_words.specs.declared.options.Subcommand.TheVariants as subcommands
use Rattle.wire_words.specs.declared.command.Job.{Job}
use Rattle.wire_words.specs.declared.command.Command.{Command}
use Rattle.wire_words.specs.declared.command.Command.TheVariants as commands

-- what a command over a folder is to do
pub record Task : Type 0 where
  pub flag : Bool
  pub most : ℕ
  pub config : List ℕ
  pub prefix : List ℕ
  pub trace : Bool
  pub store : Option (List ℕ)

-- what a run is asked for
pub data Request : Type 0 where
  Matching : Lang → List ℕ → Request
  Checking : Request
  Scanning : Task → Request
  Fixing : Task → Request
  Serving : ℕ → Bool → Request
  Drilling : ℕ → Request

-- ---- values of options

-- the value of `--max` is this number in decimal without leading zeros, at most 50,000; where it isn't given, the number is 50,000
abbrev pub IsMost : Option (List ℕ) → ℕ → Type 0
IsMost None n = n ≡ 50000
IsMost (Some word) n = (n ≤ 50000) × (word ≡ decimal n)

-- the value of `--config` is this path; it is always given
abbrev pub IsConfig : Option (List ℕ) → List ℕ → Type 0
IsConfig value config = (value ≡ Some config) × IsPath config

-- the value of `--store`, if it is given, is this path, which is another one than that of `--config`
abbrev pub IsStore : List ℕ → Option (List ℕ) → Option (List ℕ) → Type 0
IsStore config None store = store ≡ None
IsStore config (Some path) store = (store ≡ Some path) × IsPath path × (path ≢ config)

-- ---- the commands

-- a prefix is a path, or stands for all paths
abbrev pub IsPrefix : List ℕ → Type 0
IsPrefix prefix = IsPath prefix ⊎ (prefix ≡ codes ".")

-- The words are this command over a folder, options in any order, and a prefix. The flag is the option of that word.
pub record AreJobWords (command : Subcommand) (word flag : List ℕ) (words : List (List ℕ)) (task : Task) : Type 0 where
  pub options : List (List ℕ)
  pub choices : List Choice
  pub are : words ≡ word ∷ (options ++ (task.prefix ∷ []))
  pub chosen : AreChoices command options choices
  pub once : AreOnce choices
  pub flag_of : task.flag ≡ is_given flag choices
  pub most : IsMost (value_of (codes "--max") choices) task.most
  pub config : IsConfig (value_of (codes "--config") choices) task.config
  pub prefix : IsPrefix task.prefix
  pub trace : task.trace ≡ is_given (codes "--trace") choices
  pub store : IsStore task.config (value_of (codes "--store") choices) task.store

-- the words are `session` and its options, in any order
pub record AreSessionWords (words : List (List ℕ)) (most : ℕ) (trace : Bool) : Type 0 where
  pub options : List (List ℕ)
  pub choices : List Choice
  pub are : words ≡ codes "session" ∷ options
  pub chosen : AreChoices subcommands.Session options choices
  pub once : AreOnce choices
  pub most_of : IsMost (value_of (codes "--max") choices) most
  pub trace_of : trace ≡ is_given (codes "--trace") choices

-- the words ask for this
abbrev pub IsCommand : List (List ℕ) → Request → Type 0
IsCommand words (Matching lang pattern) = AreMatchWords words lang pattern
IsCommand words Checking = AreCheckWords words
IsCommand words (Scanning task) = AreJobWords subcommands.Scan (codes "scan") (codes "--error") words task
IsCommand words (Fixing task) = AreJobWords subcommands.Fix (codes "fix") (codes "--dryrun") words task
IsCommand words (Serving most trace) = AreSessionWords words most trace
IsCommand words (Drilling count) = AreDrillWords words count

-- ---- what the code gives

-- what a job is to do
abbrev pub task_of : Job → Task
task_of job = record { flag = job.flag; most = job.most; config = job.config.now; prefix = job.prefix.now; trace = job.trace; store = text_in job.store }

-- what a command asks for
abbrev pub request : Command → Request
request (commands.Match lang pattern) = Matching lang pattern.now
request commands.Check = Checking
request (commands.Scan job) = Scanning (task_of job)
request (commands.Fix job) = Fixing (task_of job)
request (commands.Session most trace) = Serving most trace
request (commands.Drill count) = Drilling count
