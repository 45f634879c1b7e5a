-- The functions around a unit.
use Rattle.std.specs.List.{list_any}
use Rattle.std.specs.Prelude.{◌≡◌, Bool, ◌&&◌, nat_lt, ℕ, zero, suc, List, [], ◌∷◌, map, Option, Some, None}
use Rattle.node_tree.specs.declared.node.Node.{Node}
use Rattle.node_tree.specs.Numbers.{Numbered}
use Rattle.point_nodes.specs.Tops.{node_at}
use Rattle.unit_effects.specs.declared.entry.Function.{Function}
use Rattle.unit_names.specs.declared.scope.Scope.{Scope}
use Rattle.unit_effects.specs.Fixed.{end_of}
use Rattle.unit_names.specs.Names.{own_words}
use Rattle.unit_names.specs.Words.{Word, each_once}

-- those that don't end before a number, in whatever order
abbrev pub AreOpen : ℕ → List (ℕ × List Word) → List (ℕ × List Word) → Type 0
AreOpen at old new = (test : ℕ × List Word → Bool) → list_any test new ≡ list_any (λ f. nat_lt at f.0 && test f) old

-- a function by its end and its names
abbrev pub all_functions : List Function → List (ℕ × List Word)
all_functions = map (λ (f : Function). (f.end, f.own))

abbrev pub function_of : List Node → Scope → ℕ × List Word
function_of nodes s = (end_of (node_at nodes s.unit), each_once (own_words nodes s))

-- the function that a unit is, if it is one
abbrev pub entered_by : List Node → Scope → ℕ → Option Numbered → List (ℕ × List Word)
entered_by nodes s zero n = []
entered_by nodes s (suc k) None = []
entered_by nodes s (suc k) (Some n) = function_of nodes s ∷ []

abbrev pub entered : List Node → Scope → List (ℕ × List Word)
entered nodes s = entered_by nodes s s.unit (node_at nodes s.unit)
