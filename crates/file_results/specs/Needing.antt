-- Which rules may use the names that are known in a file, and by which names they find what there is.
use Rattle.std.specs.Prelude.{◌≡◌, ◌⊎◌, List, [], true}
use Rattle.node_tree.specs.declared.known.Known.{Known}
use Rattle.node_tree.specs.declared.node.Node.{Node}
use Rattle.node_tree.specs.declared.view.FileView.{FileView}
use Rattle.node_tree.specs.declared.view.Lang.{Lang}
use Rattle.node_tree.specs.declared.view.Pattern.{Pattern}
use Rattle.rule_form.specs.declared.rule.Rule.{Rule}
use Rattle.rule_form.specs.declared.rule.Part.{Part}
use Rattle.node_match.specs.Sets.{Among}
use Rattle.tree_match.specs.declared.leaf.Leaf.{Leaf}
use Rattle.literal_use.specs.Literals.{uses_literals}
use Rattle.file_search.specs.Whole.{MayHaveIn}
use Rattle.file_open.specs.Naming.{Knows, AreJustKnown}
use Rattle.file_results.specs.Looking.{LooksAt, named_leaf}

-- ---- rules that may use names

-- names may make a difference to a pattern that may have members: literals of it also take names that hold them
abbrev pub Uses : (Pattern → Type 0) → Pattern → Type 0
Uses May p = (uses_literals p ≡ true) × May p

-- so may one of the patterns
abbrev pub PatternsUse : (Pattern → Type 0) → List Pattern → Type 0
PatternsUse May ps = (p : Pattern) × Among ps p × Uses May p

-- the part looks at files of the language, and one of its patterns may use names there
abbrev pub PartUses : (Pattern → Type 0) → Lang → Part → Type 0
PartUses May lang part = LooksAt part lang × PatternsUse May part.patterns

-- so may one of the parts
abbrev pub PartsUse : (Pattern → Type 0) → Lang → List Part → Type 0
PartsUse May lang parts = (part : Part) × Among parts part × PartUses May lang part

-- so may one of the rules
abbrev pub RulesUse : (Pattern → Type 0) → Lang → List Rule → Type 0
RulesUse May lang rules = (rule : Rule) × Among rules rule × PartsUse May lang rule.parts

-- so may a pattern in a file of that language with that tree
abbrev pub UsesNames : Lang → Node → Pattern → Type 0
UsesNames lang tree p = Uses (MayHaveIn lang tree) p

-- so may one of the rules in it
abbrev pub RulesUseNames : Lang → Node → List Rule → Type 0
RulesUseNames lang tree rules = RulesUse (MayHaveIn lang tree) lang rules

-- just the names that are known in the file, where one of the rules may use names there; else none
abbrev pub AreWanted : Knows → Lang → Node → List Rule → List Known → Type 0
AreWanted knows lang tree rules known = (RulesUseNames lang tree rules × AreJustKnown knows lang tree known) ⊎ ((RulesUseNames lang tree rules → ⊥) × (known ≡ []))

-- the file has none of its names, or just those that are known in it
abbrev pub HasNoneOrAll : Knows → FileView → Type 0
HasNoneOrAll knows view = (view.known ≡ []) ⊎ AreJustKnown knows view.lang view.tree view.known

-- ---- rules that need none

-- whatever names are known, the pattern has the same members in a file with that tree
abbrev pub NeedsNoNames : Lang → Node → Pattern → Type 0
NeedsNoNames lang tree p = (known other : List Known) (leaf : Leaf) → named_leaf known lang tree p leaf → named_leaf other lang tree p leaf

-- so have all the patterns
abbrev pub PatternsNeedNoNames : Lang → Node → List Pattern → Type 0
PatternsNeedNoNames lang tree ps = (p : Pattern) → Among ps p → NeedsNoNames lang tree p

-- so have those of each part that looks at files of the language
abbrev pub PartsNeedNoNames : Lang → Node → List Part → Type 0
PartsNeedNoNames lang tree parts = (part : Part) → Among parts part → LooksAt part lang → PatternsNeedNoNames lang tree part.patterns

-- so have those of each rule
abbrev pub RulesNeedNoNames : Lang → Node → List Rule → Type 0
RulesNeedNoNames lang tree rules = (rule : Rule) → Among rules rule → PartsNeedNoNames lang tree rule.parts

-- by these names a pattern has the members that it has by those that are known in the file: they are just those, or names make
-- no difference to it
abbrev pub Serves : Knows → Lang → Node → List Known → Pattern → Type 0
Serves knows lang tree known p = AreJustKnown knows lang tree known ⊎ NeedsNoNames lang tree p

-- the same for the rules
abbrev pub ServesRules : Knows → Lang → Node → List Known → List Rule → Type 0
ServesRules knows lang tree known rules = AreJustKnown knows lang tree known ⊎ RulesNeedNoNames lang tree rules
