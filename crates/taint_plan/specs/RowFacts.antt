-- What the code says of assignments and carries, in facts.
use Rattle.std.specs.Prelude.{◌≡◌, ◌↔◌, ◌&&◌, ℕ, List, IsTrue}
use Rattle.node_tree.specs.declared.span.Span.{Span}
use Rattle.node_tree.specs.Numbers.{Numbered}
use Rattle.node_tree.specs.Kinds.{is_expression}
use Rattle.node_tree.specs.Tree.{kind_of, span_of}
use Rattle.graph_form.specs.Sets.{Among}
use Rattle.assignments.specs.declared.assignment.Manner.{Manner}
use Rattle.assignments.specs.declared.assignment.Reach.TheVariants as reaches
use Rattle.assignments.specs.Seen.{Named, Assigned}
use Rattle.assignments.specs.Targets.{targets}
use Rattle.taint_form.specs.declared.origins.Aim.{Aim}
use Rattle.taint_form.specs.Origins.{IsAim, IsRenewed}
use Rattle.taint_tables.specs.declared.sets.Carry.{Carry}
use Rattle.taint_tables.specs.Numbers.{Numbering}
use Rattle.taint_tables.specs.Taints.{IsFactOf, Taints}
use Rattle.taint_plan.specs.Facts.{IsTargetFact, IsRenewedFact}
use Rattle.taint_plan.specs.Spreading.{renews, is_plain}

-- the aims are the facts of the targets
pub record AreAims (numbers : Numbering) (a : Assigned) (aims : List Aim) : Type 0 where
  pub aimed : (fact : ℕ) → IsAim aims fact ↔ IsTargetFact numbers a fact
  pub renewed : (fact : ℕ) → IsRenewed aims fact ↔ IsRenewedFact numbers a fact

-- one of the nodes has the range
abbrev pub Stands : List Numbered → Span → Type 0
Stands nodes range = (s : Numbered) × Among nodes s × (span_of s.node ≡ range)

-- the node is an expression with that range
abbrev pub HasRange : Span → Numbered → Type 0
HasRange range s = IsTrue (is_expression (kind_of s.node)) × (span_of s.node ≡ range)

-- it is, and the fact taints it
abbrev pub TaintsHere : List Span → Numbering → Span → Numbered → ℕ → Type 0
TaintsHere sanitizers numbers range s fact = HasRange range s × Taints sanitizers numbers s.node fact

abbrev pub TaintsOne : List Span → Numbering → List Numbered → Span → ℕ → Type 0
TaintsOne sanitizers numbers nodes range fact = (s : Numbered) × Among nodes s × TaintsHere sanitizers numbers range s fact

-- the fact is that of the base of a node
abbrev pub IsBaseFact : Numbering → Numbered → ℕ → Type 0
IsBaseFact numbers s fact = (b : Named) × Among (targets reaches.Base s) b × IsFactOf numbers b.name fact

-- the node is an expression with that range, and the fact is that of its base
abbrev pub BaseHere : Numbering → Span → Numbered → ℕ → Type 0
BaseHere numbers range s fact = HasRange range s × IsBaseFact numbers s fact

abbrev pub HasBaseFact : Numbering → List Numbered → Span → ℕ → Type 0
HasBaseFact numbers nodes range fact = (s : Numbered) × Among nodes s × BaseHere numbers range s fact

-- the carry adds the one fact with the other among these nodes, where it stands there
abbrev pub CarriesOver : List Span → Numbering → List Numbered → Carry → ℕ → ℕ → Type 0
CarriesOver sanitizers numbers nodes c from to = TaintsOne sanitizers numbers nodes c.source from × HasBaseFact numbers nodes c.target to

-- the same for one of these carries that has that range
abbrev pub CarriesAt : List Span → Numbering → List Numbered → List Carry → Span → ℕ → ℕ → Type 0
CarriesAt sanitizers numbers nodes carries range from to = (c : Carry) × Among carries c × (c.range ≡ range) × CarriesOver sanitizers numbers nodes c from to

-- the same for one of these carries that has the range of one of these nodes
abbrev pub CarriesWithin : List Span → Numbering → List Numbered → List Carry → List Numbered → ℕ → ℕ → Type 0
CarriesWithin sanitizers numbers nodes carries these from to = (c : Carry) × Among carries c × Stands these c.range × CarriesOver sanitizers numbers nodes c from to

-- the aim is that of a target, where targets are assigned in that manner
abbrev pub IsAimOf : Numbering → Manner → Named → Aim → Type 0
IsAimOf numbers manner t aim = IsFactOf numbers t.name aim.fact × (aim.renewed ≡ (renews manner && is_plain t.reach))
