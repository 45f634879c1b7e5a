-- The nodes of a point as assignments that all take the values before the point.
use Rattle.std.specs.Prelude.{◌≡◌, ◌⊎◌, ◌↔◌, ◌<◌, ℕ, List, [], ◌∷◌, length, map, slice_index, slice_index_or, slice_set, slice_get, Some}
use Rattle.graph_form.specs.Sets.{Among}
use Rattle.flow_reach.specs.Adds.{Ascends, Coded}
use Rattle.held_values.specs.declared.assign.Assign.{Assign}
use Rattle.held_values.specs.declared.assign.Effects.{Effects}
use Rattle.held_values.specs.declared.assign.Source.{Source}
use Rattle.held_values.specs.declared.assign.Source.TheVariants.{Sets, Copies}
use Rattle.held_values.specs.declared.merged.Merged.{Merged}
use Rattle.held_values.specs.Holding.{value_of, after_node, after_nodes, AreInside}

-- a source in terms of the state before the point, where the names got these since
abbrev pub source_before : List Source → Source → Source
source_before sources (Sets value) = Sets value
source_before sources (Copies name) = slice_index_or sources name (Sets 0)

-- the same of an assignment
abbrev pub assign_before : List Source → Assign → Assign
assign_before sources assign = record { name = assign.name; source = source_before sources assign.source }

-- the names get these sources, one after the other
abbrev pub put_all : List Source → List Assign → List Source
put_all sources [] = sources
put_all sources (x ∷ xs) = put_all (slice_set sources x.name x.source) xs

-- one of the assignments is to the name
abbrev pub Assigns : List Assign → ℕ → Type 0
Assigns assigns name = (assign : Assign) × Among assigns assign × (assign.name ≡ name)

-- each name comes from itself
abbrev pub AreOwn : List Source → Type 0
AreOwn sources = (name : ℕ) → name < length sources → slice_index_or sources name (Sets 0) ≡ Copies name

-- the names that they copy are there
abbrev pub AreSourcesInside : List Source → Type 0
AreSourcesInside sources = (name other : ℕ) → name < length sources → slice_index_or sources name (Sets 0) ≡ Copies other → other < length sources

-- a node was added: what the names come from now, and which names were assigned
pub record AddsNode (node : List Assign) (old new : List Source) (before after : List ℕ) : Type 0 where
  pub size : length new ≡ length old
  pub says : (state : List ℕ) → map (value_of state) new ≡ after_node (map (value_of state) old) (map (value_of state) old) node
  pub inside : AreSourcesInside old → AreSourcesInside new
  pub others : (name : ℕ) → (Assigns node name → ⊥) → slice_index_or new name (Sets 0) ≡ slice_index_or old name (Sets 0)
  pub names : (name : ℕ) → Among after name ↔ (Among before name ⊎ Assigns node name)

-- the assignment to a name by what it comes from
abbrev pub assign_to : List Source → ℕ → Assign
assign_to sources name = record { name = name; source = slice_index_or sources name (Sets 0) }

-- what the nodes do is what the assignments do at once
pub record IsMerged (names : ℕ) (nodes : List (List Assign)) (assigns : List Assign) : Type 0 where
  pub inside : AreInside names assigns
  pub each : (state : List ℕ) → length state ≡ names → (assign : Assign) → Among assigns assign → slice_index (after_nodes state nodes) assign.name ≡ value_of state assign.source
  pub others : (state : List ℕ) → length state ≡ names → (name : ℕ) → name < names → (Assigns assigns name → ⊥) → slice_index (after_nodes state nodes) name ≡ slice_index state name

-- the assignment at this place is to the name, or copies it
abbrev pub Concerns : List Assign → ℕ → ℕ → Type 0
Concerns assigns name place = (assign : Assign) × (slice_get assigns place ≡ Some assign) × ((assign.name ≡ name) ⊎ (assign.source ≡ Copies name))

-- the numbers are those of names and the places that concern them, in order
pub record IsIndex (assigns : List Assign) (index : List ℕ) : Type 0 where
  pub exact : (name place : ℕ) → Coded index name place ↔ Concerns assigns name place
  pub ascends : Ascends index

-- what the nodes of a point do, with its index
pub record IsMergedOf (names : ℕ) (nodes : List (List Assign)) (merged : Merged) : Type 0 where
  pub assigns : IsMerged names nodes merged.assigns.items
  pub index : IsIndex merged.assigns.items merged.index.items

-- the same for each point
pub record AreMerged (effects : Effects) (merged : List Merged) : Type 0 where
  pub size : length merged ≡ length effects.points
  pub each : (point : ℕ) (one : Merged) → slice_get merged point ≡ Some one → IsMergedOf (length effects.start) (slice_index_or effects.points point []) one

-- a name's value gives the other name a value: the assignment sets it, or copies it
abbrev pub Yields : Source → ℕ → ℕ → ℕ → ℕ → Type 0
Yields (Sets given) name value target after = (name ≡ target) × (after ≡ given)
Yields (Copies other) name value target after = (name ≡ other) × (after ≡ value)

-- the assignment gives the target a value, where the name has this one
abbrev pub Gives : Assign → ℕ → ℕ → ℕ → ℕ → Type 0
Gives assign name value target after = (assign.name ≡ target) × Yields assign.source name value target after

-- where the name has this value before the point, it leaves the target with the value after it
abbrev pub Turns : List Assign → ℕ → ℕ → ℕ → ℕ → Type 0
Turns assigns name value target after =
    ((name ≡ target) × (after ≡ value) × (Assigns assigns name → ⊥)) ⊎ ((assign : Assign) × Among assigns assign × Gives assign name value target after)

-- one of the assignments at these places gives the target a value
abbrev pub GivesAt : List Assign → List ℕ → ℕ → ℕ → ℕ → ℕ → Type 0
GivesAt assigns places name value target after =
    (place : ℕ) × Among places place × (assign : Assign) × (slice_get assigns place ≡ Some assign) × Gives assign name value target after

-- one of the assignments at these places is to the name
abbrev pub IsToAt : List Assign → List ℕ → ℕ → Type 0
IsToAt assigns places name = (place : ℕ) × Among places place × (assign : Assign) × (slice_get assigns place ≡ Some assign) × (assign.name ≡ name)
