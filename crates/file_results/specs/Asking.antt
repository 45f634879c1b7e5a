-- For which patterns rules ask in a file.
use Rattle.std.specs.Prelude.{◌≡◌, ℕ, List, Some, slice_get}
use Rattle.file_search.specs.Asked.{Asks, Asked}
use Rattle.node_tree.specs.declared.view.Lang.{Lang}
use Rattle.node_tree.specs.declared.view.Pattern.{Pattern}
use Rattle.rule_form.specs.declared.rule.Rule.{Rule}
use Rattle.rule_form.specs.declared.rule.Part.{Part}
use Rattle.node_match.specs.Sets.{Among}
use Rattle.file_results.specs.Looking.{Allows, LooksAt}

-- the part looks at files of the language, and has the pattern
abbrev pub PartAsksFor : Lang → Part → Pattern → Type 0
PartAsksFor lang part p = LooksAt part lang × Among part.patterns p

-- so does one of the parts
abbrev pub PartsAskFor : Lang → List Part → Pattern → Type 0
PartsAskFor lang parts p = (part : Part) × Among parts part × PartAsksFor lang part p

-- the rule's globs allow the path, and one of its parts asks for the pattern
abbrev pub RuleAsksFor : List ℕ → Lang → Rule → Pattern → Type 0
RuleAsksFor path lang rule p = Allows rule path × PartsAskFor lang rule.parts p

-- one of the rules asks for the pattern in the file at a path, a file of the language
abbrev pub IsAskedFor : List ℕ → Lang → List Rule → Pattern → Type 0
IsAskedFor path lang rules p = (rule : Rule) × Among rules rule × RuleAsksFor path lang rule p

-- ---- for private clauses

-- the search was asked for some patterns of the set
pub record AsksAmong {S : Type 0} (asks : Asks S) (Set : Pattern → Type 0) (old : S) (before : ℕ) (new : S) (after : ℕ) : Type 0 where
  pub patterns : List Pattern
  pub all : (p : Pattern) → Among patterns p → Set p
  pub asked : Asked asks patterns old before new after

-- a part of a rule with a wanted number looks at files of the language, and has the pattern
abbrev pub WantedAsk : Lang → List Rule → (ℕ → Type 0) → Pattern → Type 0
WantedAsk lang rules Wanted p = (n : ℕ) × (rule : Rule) × (slice_get rules n ≡ Some rule) × Wanted n × PartsAskFor lang rule.parts p
