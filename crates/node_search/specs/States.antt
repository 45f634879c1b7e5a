-- Where the search of a list of kids stands.
use Rattle.std.specs.Prelude.{◌≡◌, ◌⊎◌, ◌↔◌, ◌≤◌, ℕ, List, [], ◌∷◌, take, drop, Bool, true, false}
use Rattle.node_tree.specs.declared.node.Node.{Node}
use Rattle.node_tree.specs.Tree.{text_of}
use Rattle.node_tree.specs.declared.known.Known.{Known}
use Rattle.node_tree.specs.Numbers.{Numbered, kids_at}
use Rattle.meta_bind.specs.declared.bound.Bound.{Bound}
use Rattle.node_search.specs.declared.state.State.{State}
use Rattle.node_match.specs.Sets.{Among}
use Rattle.node_match.specs.Free.{Part}
use Rattle.node_match.specs.Relation.{MatchesKid, Binds, nodes_of}
use Rattle.node_match.specs.Fronts.{End, Leads}

-- the parts match these nodes, or where it floats what remains after some of them
abbrev pub Goes : List Known → Bool → Numbered → List Part → List Numbered → List Bound → End → Type 0
Goes C true h ps ns b c = (k : ℕ) × Leads C h ps (drop k ns) b c
Goes C false h ps ns b c = Leads C h ps ns b c

-- kids of a holder that are searched in order: all of them, or some
pub record Line : Type 0 where
  pub holder : Numbered
  pub kids : List Numbered

-- all kids of a node
abbrev pub line_of : Numbered → Line
line_of h = record { holder = h; kids = kids_at h }

-- what the parts that are left lead to from a state
abbrev pub From : List Known → Line → List Part → State → End → Type 0
From C l ps s c = Goes C s.floating l.holder ps (drop s.at l.kids) s.trail c

-- the same from one of the states
abbrev pub AnyFrom : List Known → Line → List Part → List State → End → Type 0
AnyFrom C l ps states c = (s : State) × Among states s × From C l ps s c

-- the new states lead to what the old ones lead to, and to what P says
abbrev pub AddsFrom : List Known → Line → List State → List State → (List Part → End → Type 0) → Type 0
AddsFrom C l old new P = (ps : List Part) (c : End) → AnyFrom C l ps new c ↔ (AnyFrom C l ps old c ⊎ P ps c)

-- from one of these bindings, at this place
abbrev pub Entered : List Known → Line → List Part → ℕ → List (List Bound) → End → Type 0
Entered C l ps at found c = (d : List Bound) × Among found d × Leads C l.holder ps (drop at l.kids) d c

-- the first node matches the pattern, and the others those that are left
abbrev pub Heads : List Known → Numbered → Node → List Part → List Numbered → List Bound → End → Type 0
Heads C h p ps [] b c = ⊥
Heads C h p ps (n ∷ ns) b c = (d : List Bound) × MatchesKid C h p n b d × Leads C h ps ns d c

-- some nodes at the front, at least so many, are bound, and the others match the parts that are left
abbrev pub Runs : List Known → ℕ → Numbered → Node → List Part → List Numbered → List Bound → End → Type 0
Runs C least h p ps ns b c = (k : ℕ) × (least ≤ k) × (d : List Bound) × Binds h.node (text_of p) (nodes_of (take k ns)) b d × Leads C h ps (drop k ns) d c

-- so many nodes at the front are bound, and the others match the parts that are left
abbrev pub RunOf : List Known → ℕ → Numbered → Node → List Part → List Numbered → List Bound → End → Type 0
RunOf C k h p ps ns b c = (d : List Bound) × Binds h.node (text_of p) (nodes_of (take k ns)) b d × Leads C h ps (drop k ns) d c

-- the new states lead to what the old ones lead to by one part more
abbrev pub Steps : List Known → Line → Part → List State → List State → Type 0
Steps C l p old new = (ps : List Part) (c : End) → AnyFrom C l ps new c ↔ AnyFrom C l (p ∷ ps) old c

-- some state floats from there on with this binding
abbrev pub IsCovered : List State → ℕ → List Bound → Type 0
IsCovered states at b = (s : State) × Among states s × (s.floating ≡ true) × (s.at ≤ at) × (s.trail ≡ b)
