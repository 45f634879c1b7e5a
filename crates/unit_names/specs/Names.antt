-- The names and the literals of a unit: what it assigns, what it hides, and what stands at its points.
use Rattle.std.specs.Prelude.{ℕ, Bool, true, false, if◌then◌else◌, codes, List, [], ◌∷◌, ◌++◌, take}
use Rattle.std.specs.List.{flat_map}
use Rattle.std.specs.Option.{option_to_list}
use Rattle.std.specs.Str.{bytes_eq}
use Rattle.node_tree.specs.declared.node.Node.{Node}
use Rattle.node_tree.specs.declared.kind.Kind.{Kind}
use Rattle.node_tree.specs.declared.kind.Kind.TheVariants as kinds
use Rattle.node_tree.specs.Kinds.{is_literal}
use Rattle.node_tree.specs.Numbers.{Numbered}
use Rattle.node_tree.specs.Tree.{kind_of, text_of, kids_of}
use Rattle.graph_form.specs.declared.graph.Point.{Point}
use Rattle.point_nodes.specs.Tops.{nodes_of}
use Rattle.assignments.specs.declared.assignment.Manner.{Manner}
use Rattle.assignments.specs.declared.assignment.Manner.TheVariants as manners
use Rattle.assignments.specs.declared.assignment.Reach.{Reach}
use Rattle.assignments.specs.declared.assignment.Reach.TheVariants as reaches
use Rattle.assignments.specs.Assignments.{assigned_of}
use Rattle.assignments.specs.Declarators.{parameters_of}
use Rattle.assignments.specs.Seen.{Named, Assigned}
use Rattle.assignments.specs.Targets.{is_name}
use Rattle.unit_names.specs.declared.scope.Scope.{Scope}
use Rattle.unit_names.specs.Words.{Word, word_of, name_word}

-- whether a target is assigned itself, and not only an object that it holds
abbrev pub is_assigned : Reach → Bool
is_assigned reaches.Base = false
is_assigned _ = true

-- a target's name, if it is assigned itself
abbrev pub target_word : Named → List Word
target_word t = if is_assigned t.reach then name_word t.name ∷ [] else []

abbrev pub target_words : Assigned → List Word
target_words a = flat_map target_word a.targets

-- the names that a point assigns
abbrev pub assigned_words : List Node → Point → List Word
assigned_words nodes p = flat_map target_words (assigned_of nodes p)

-- the names of a unit's parameters
abbrev pub parameter_words : List Node → ℕ → List Word
parameter_words nodes unit = flat_map (λ (s : Numbered). name_word (text_of s.node) ∷ []) (parameters_of nodes unit)

-- the names that a unit assigns or has as parameters
abbrev pub own_words : List Node → Scope → List Word
own_words nodes s = flat_map (assigned_words nodes) s.graph.points ++ parameter_words nodes s.unit

-- the name that a node is, if it is one, and the literal
abbrev pub name_here : Node → List Word
name_here n = if is_name (kind_of n) then word_of n ∷ [] else []

abbrev pub literal_here : Node → List Word
literal_here n = if is_literal (kind_of n) then word_of n ∷ [] else []

-- the name to which a node applies `&`
abbrev pub referred_by : Kind → List ℕ → List Node → List Word
referred_by kinds.Unary text kids = if bytes_eq text (codes "&") then flat_map name_here (take 1 kids) else []
referred_by _ text kids = []

abbrev pub referred_in : Node → List Word
referred_in n = referred_by (kind_of n) (text_of n) (kids_of n)

-- the names that a node says are those of another unit
abbrev pub shared_by : Kind → List Node → List Word
shared_by kinds.Global kids = flat_map (λ n. name_word (text_of n) ∷ []) kids
shared_by kinds.Nonlocal kids = flat_map (λ n. name_word (text_of n) ∷ []) kids
shared_by _ kids = []

abbrev pub shared_in : Node → List Word
shared_in n = shared_by (kind_of n) (kids_of n)

-- that to which a unit applies `&`
abbrev pub referred_at : List Node → Point → List Word
referred_at nodes p = flat_map (λ (s : Numbered). referred_in s.node) (nodes_of nodes p)

abbrev pub referred_of : List Node → Scope → List Word
referred_of nodes s = flat_map (referred_at nodes) s.graph.points

-- ---- the names and the literals of a unit

-- imports, caught exceptions and definitions have no targets that stand there as such
abbrev pub has_targets : Manner → Bool
has_targets manners.Imported = false
has_targets manners.Caught = false
has_targets manners.Defined = false
has_targets _ = true

abbrev pub plain_words : Assigned → List Word
plain_words a = if has_targets a.manner then target_words a else []

-- the names of an assignment: its targets, and what it copies
abbrev pub names_in : Assigned → List Word
names_in a = plain_words a ++ flat_map name_here (option_to_list a.value)

abbrev pub literals_in : Assigned → List Word
literals_in a = flat_map literal_here (option_to_list a.value)

abbrev pub names_at : List Node → Point → List Word
names_at nodes p = flat_map (λ (s : Numbered). name_here s.node) (nodes_of nodes p) ++ flat_map names_in (assigned_of nodes p)

abbrev pub literals_at : List Node → Point → List Word
literals_at nodes p = flat_map (λ (s : Numbered). literal_here s.node) (nodes_of nodes p) ++ flat_map literals_in (assigned_of nodes p)

-- the names at the points of a unit, and its parameters
abbrev pub name_words : List Node → Scope → List Word
name_words nodes s = flat_map (names_at nodes) s.graph.points ++ parameter_words nodes s.unit

-- the literals at the points of a unit
abbrev pub literal_words : List Node → Scope → List Word
literal_words nodes s = flat_map (literals_at nodes) s.graph.points
