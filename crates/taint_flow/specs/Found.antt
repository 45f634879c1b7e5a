-- What the search by a plan finds.
use Rattle.std.specs.Prelude.{◌≡◌, ◌↔◌, ◌+◌, ◌<◌, ℕ, List, slice_get, Some}
use Rattle.std.specs.Global.{Vec}
use Rattle.node_tree.specs.declared.span.Span.{Span}
use Rattle.graph_form.specs.declared.graph.Graph.{Graph}
use Rattle.graph_form.specs.Sets.{Among}
use Rattle.flow_reach.specs.declared.moves.Moves.{Moves}
use Rattle.flow_reach.specs.Carried.{CarriedFrom}
use Rattle.taint_form.specs.Tables.{Holds}
use Rattle.taint_plan.specs.declared.goal.Goal.{Goal}
use Rattle.taint_plan.specs.declared.plan.Plan.{Plan}
use Rattle.taint_flow.specs.declared.rule.Rule.{Rule}
use Rattle.taint_tables.specs.PlacesOf.{ArePlacesOf}

-- what is found by halving is what the sets of the rule have
pub record IsRule (rule : Rule) : Type 0 where
  pub sources : Holds rule.sources.now rule.sets.now.sources
  pub sanitizers : Holds rule.sanitizers.now rule.sets.now.sanitizers
  pub places : ArePlacesOf rule.sets.now rule.places.now

-- the facts begin at the entry
abbrev pub FromEntry : List ℕ → ℕ → ℕ → Type 0
FromEntry facts point fact = (point ≡ 0) × Among facts fact

-- goals are of so many points and facts
abbrev pub AreInside : ℕ → ℕ → List Goal → Type 0
AreInside points facts goals = (g : Goal) → Among goals g → (g.point < points) × (g.fact < facts)

-- goals are of so many sinks
abbrev pub AreOfSinks : ℕ → List Goal → Type 0
AreOfSinks sinks goals = (g : Goal) → Among goals g → g.sink < sinks

-- a goal of the sink with that place is one of these pairs of a point and a fact
abbrev pub ByGoals : (ℕ → ℕ → Type 0) → List Goal → ℕ → Type 0
ByGoals These goals sink = (g : Goal) × Among goals g × (g.sink ≡ sink) × These g.point g.fact

-- the source is this one, and a goal of the sink is one of these pairs
abbrev pub BySource : Span → (ℕ → ℕ → Type 0) → List Goal → ℕ → Span → Type 0
BySource source These goals sink s = (s ≡ source) × ByGoals These goals sink

-- the facts that begin are among so many
abbrev pub AreFew : ℕ → List (Vec ℕ) → Type 0
AreFew most begins = (facts : Vec ℕ) → Among begins facts → (fact : ℕ) → Among facts.items fact → fact < most

-- the goal of the fact of the name with that number, which comes after those of so many sources
abbrev pub of_name : ℕ → Goal → Goal
of_name sources g = record { sink = g.sink; point = g.point; fact = sources + g.fact }

-- the goals of the facts of so many sources
abbrev pub AreOwn : ℕ → List Goal → List Goal → Type 0
AreOwn sources goals own = (g : Goal) → Among own g ↔ (Among goals g × (g.fact < sources))

-- the goals of names, each with the number of its name
abbrev pub AreNamed : ℕ → List Goal → List Goal → Type 0
AreNamed sources goals named = (g : Goal) → Among named g ↔ Among goals (of_name sources g)

-- some route from the entry, where these facts begin, carries the fact of the name to the point
abbrev pub CarriesName : List ℕ → Graph → Moves → ℕ → ℕ → ℕ → Type 0
CarriesName facts graph moves sources point name = CarriedFrom (FromEntry facts) graph moves point (sources + name)

-- one of the first so many sources begins with facts that find the sink
abbrev pub ByFirst : (List ℕ → ℕ → Type 0) → List (Vec ℕ) → List Span → ℕ → ℕ → Span → Type 0
ByFirst Finds begins sources n sink source =
    (i : ℕ) × (i < n) × (slice_get sources i ≡ Some source) × ((facts : Vec ℕ) × (slice_get begins i ≡ Some facts) × Finds facts.items sink)

-- the same, where they find it as some route carries them to a goal of the sink
abbrev pub ByPlan : Graph → Plan → List Span → ℕ → ℕ → Span → Type 0
ByPlan graph plan sources n sink source = ByFirst (λ facts k. ByGoals (CarriedFrom (FromEntry facts) graph plan.moves) plan.goals k) plan.begins.items sources n sink source

-- the same, where some route carries a name to a goal of it
abbrev pub ByNames : Graph → Plan → ℕ → List Goal → List Span → ℕ → ℕ → Span → Type 0
ByNames graph plan count named sources n sink source = ByFirst (λ facts k. ByGoals (CarriesName facts graph plan.moves count) named k) plan.begins.items sources n sink source
