-- What a rule finds in a file.
use Rattle.std.specs.Prelude.{◌≡◌, ℕ, List, [], ◌∷◌, ◌++◌, map, codes, Option, None, Some}
use Rattle.std.specs.Fmt.{decimal}
use Rattle.std.specs.List.{flat_map}
use Rattle.node_tree.specs.declared.node.Node.{Node}
use Rattle.meta_bind.specs.declared.finding.Finding.{Finding}
use Rattle.rule_form.specs.declared.formula.Formula.{Formula}
use Rattle.rule_form.specs.declared.rule.Body.{Body}
use Rattle.rule_form.specs.declared.rule.Body.TheVariants as bodies
use Rattle.rule_form.specs.declared.rule.Part.{Part}
use Rattle.rule_form.specs.declared.rule.TaintRule.{TaintRule}
use Rattle.tree_match.specs.declared.leaf.Leaf.{Leaf}
use Rattle.tree_match.specs.Leaf.{IsWhole}
use Rattle.tree_match.specs.Members.{Member}
use Rattle.range_algebra.specs.Trees.{tree_of}
use Rattle.range_algebra.specs.Meets.{Meets}
use Rattle.range_algebra.specs.Crowds.{Over}
use Rattle.taint_judge.specs.declared.list.RuleList.{RuleList}
use Rattle.taint_judge.specs.Lists.{list_word, OverRule}
use Rattle.taint_judge.specs.Follows.{AreFollowed, IsTooLarge}
use Rattle.part_judge.specs.declared.found.FoundNotice.{FoundNotice}
use Rattle.part_judge.specs.declared.found.FoundNotice.TheVariants as notices
use Rattle.part_judge.specs.declared.outcome.Outcome.{Outcome}
use Rattle.part_judge.specs.declared.outcome.Outcome.TheVariants.{Findings, Crowded, FlowTooLarge}

-- a `.`, and then the number
abbrev pub after_dot : ℕ → List ℕ
after_dot n = codes "." ++ decimal n

-- the numbers, with a `.` between each two
abbrev pub dotted : List ℕ → List ℕ
dotted [] = []
dotted (n ∷ ns) = decimal n ++ flat_map after_dot ns

-- a word, and then each number after a `.`
abbrev pub named : List ℕ → List ℕ → List ℕ
named word numbers = word ++ flat_map after_dot numbers

-- the range and the binding of a member, which comes from no source
abbrev pub finding_of : Member → Finding
finding_of m = record { span = m.0; binding = m.1; source = None }

-- What a search for the formula finds, with the texts of the regular expressions: a notice with the numbers of the first set that
-- has more than 10,000 members, or else each member of the formula, in order and once.
abbrev pub SearchFinds : List Leaf → List (List ℕ) → List ℕ → Formula → Outcome → Type 0
SearchFinds leaves texts bytes formula (Findings findings) =
    Over leaves texts bytes (tree_of formula) None × (members : List Member) × IsWhole (Meets leaves texts bytes (tree_of formula) None) members × (findings ≡ map finding_of members)
SearchFinds leaves texts bytes formula (Crowded text) = (numbers : List ℕ) × Over leaves texts bytes (tree_of formula) (Some numbers) × (text ≡ dotted numbers)
SearchFinds leaves texts bytes formula (FlowTooLarge at) = ⊥

-- What a rule that follows data finds: a notice with the list, the formula's number and the children's of the first set that has
-- more than 10,000 members; or else one with the place where the first function begins that is too large; or else a finding for
-- each member of its sinks that data of a source gets to, in order.
abbrev pub TaintFinds : List Leaf → List (List ℕ) → List ℕ → Node → TaintRule → Outcome → Type 0
TaintFinds leaves texts bytes root rule (Findings findings) = AreFollowed leaves texts bytes root rule findings
TaintFinds leaves texts bytes root rule (Crowded text) = (list : RuleList) × (numbers : List ℕ) × OverRule leaves texts bytes rule (Some (list, numbers)) × (text ≡ named (list_word list) numbers)
TaintFinds leaves texts bytes root rule (FlowTooLarge at) = IsTooLarge leaves texts bytes root rule at

-- what a body finds in a text with that tree
abbrev pub BodyFinds : List Leaf → List (List ℕ) → List ℕ → Node → Body → Outcome → Type 0
BodyFinds leaves texts bytes root (bodies.Search formula) outcome = SearchFinds leaves texts bytes formula outcome
BodyFinds leaves texts bytes root (bodies.Taint rule) outcome = TaintFinds leaves texts bytes root rule outcome

-- what a part finds, where there is one
abbrev pub PartFinds : List Leaf → List (List ℕ) → List ℕ → Node → Option Part → Outcome → Type 0
PartFinds leaves texts bytes root None outcome = ⊥
PartFinds leaves texts bytes root (Some part) outcome = BodyFinds leaves texts bytes root part.body outcome

-- the findings, and none where there is a notice
abbrev pub findings_of : Outcome → List Finding
findings_of (Findings findings) = findings
findings_of _ = []

-- the notice is that of the outcome
abbrev pub Tells : Outcome → FoundNotice → Type 0
Tells outcome (notices.Crowded text) = outcome ≡ Crowded text.now
Tells outcome (notices.FlowTooLarge at) = outcome ≡ FlowTooLarge at

abbrev pub HasNoNotice : Outcome → Type 0
HasNoNotice (Findings findings) = Unit {0}
HasNoNotice _ = ⊥
