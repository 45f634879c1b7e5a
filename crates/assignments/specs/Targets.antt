-- The names that a target assigns.
use Rattle.std.specs.Prelude.{ℕ, Bool, true, false, List, [], ◌∷◌, if◌then◌else◌, codes}
use Rattle.std.specs.List.{flat_map}
use Rattle.std.specs.Str.{bytes_eq}
use Rattle.node_tree.specs.declared.kind.Kind.{Kind}
use Rattle.node_tree.specs.declared.kind.Kind.TheVariants as kinds
use Rattle.node_tree.specs.Numbers.{Numbered}
use Rattle.node_tree.specs.Tree.{kind_of, text_of}
use Rattle.point_nodes.specs.Tops.{part}
use Rattle.assignments.specs.declared.assignment.Reach.{Reach}
use Rattle.assignments.specs.declared.assignment.Reach.TheVariants as reaches
use Rattle.assignments.specs.Seen.{Named}
use Rattle.assignments.specs.Trees.{from_kids}

-- what holds an object has no parts
abbrev pub unless_base : {X : Type 0} → Reach → List X → List X
unless_base reaches.Base kids = []
unless_base _ kids = kids

-- the operand of `*`
abbrev pub starred : {X : Type 0} → List ℕ → List X → List X
starred mark kids = if bytes_eq mark (codes "*") then part 0 kids else []

-- the kids of a target that lead to names: the parts of a tuple, a list or a star, and the object of an attribute, an item, a
-- dereference or a cast
abbrev pub leading : {X : Type 0} → Reach → Kind → List ℕ → List X → List X
leading reach kinds.Tuple text kids = unless_base reach kids
leading reach kinds.ListLit text kids = unless_base reach kids
leading reach kinds.Star text kids = unless_base reach kids
leading reach kinds.Attr text kids = part 0 kids
leading reach kinds.Sub text kids = part 0 kids
leading reach kinds.Unary text kids = starred text kids
leading reach kinds.Cast text kids = part 1 kids
leading reach _ text kids = []

-- what a name below such a node is of the target
abbrev pub below : Kind → Reach
below kinds.Tuple = reaches.Part
below kinds.ListLit = reaches.Part
below kinds.Star = reaches.Part
below _ = reaches.Base

abbrev pub is_name : Kind → Bool
is_name kinds.Name = true
is_name _ = false

abbrev pub name_here : Reach → Numbered → Named
name_here reach s = record { at = s.at; name = text_of s.node; reach = reach }

-- the names of a target, where each of its kids has these
abbrev pub targets_by : Numbered → List (Numbered × (Reach → List Named)) → Reach → List Named
targets_by s kids reach =
    let kind = kind_of s.node in
    if is_name kind then name_here reach s ∷ [] else flat_map (λ kid. kid.1 (below kind)) (leading reach kind (text_of s.node) kids)

-- the names of a target, or of what is this much of one
abbrev pub targets : Reach → Numbered → List Named
targets reach s = from_kids targets_by s reach
