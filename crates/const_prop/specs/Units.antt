-- The units of a file, one after the other.
use Rattle.std.specs.Prelude.{◌≡◌, ◌≤◌, ℕ, Bool, ◌&&◌, List, nat_lt, slice_get, Some}
use Rattle.std.specs.List.{flat_map, list_any}
use Rattle.node_tree.specs.declared.node.Node.{Node}
use Rattle.node_tree.specs.declared.kind.Kind.TheVariants as kinds
use Rattle.node_tree.specs.Tree.{kind_of}
use Rattle.graph_form.specs.declared.graph.Point.{Point}
use Rattle.graph_form.specs.Sets.{Among}
use Rattle.point_nodes.specs.Tops.{nodes_of}
use Rattle.unit_names.specs.declared.scope.Scope.{Scope}
use Rattle.unit_names.specs.Words.{Word}
use Rattle.unit_effects.specs.Fixed.{Value}
use Rattle.unit_effects.specs.Functions.{entered}
use Rattle.const_prop.specs.Constants.{start_of}
use Rattle.const_prop.specs.Sights.{Says, IsSeenIn}

-- each name at a point of these units was seen, and nothing else
pub record AreSeen (nodes : List Node) (scopes these : List Scope) (gs : List (ℕ × Value)) : Type 0 where
  pub only : (at : ℕ) (value : Value) → Among gs (at, value) → (s : Scope) × Among these s × IsSeenIn nodes (start_of nodes scopes s) s at value
  pub each : (s : Scope) (place : ℕ) (p : Point) (at : ℕ) (n : Node) → Among these s → slice_get s.graph.points place ≡ Some p → Among (nodes_of nodes p) (record { at = at; node = n }) → kind_of n ≡ kinds.Name
      → (value : Value) × Says nodes (start_of nodes scopes s) s place p at n value × Among gs (at, value)

-- of the functions among these units, at least those are open that end behind a number behind which none of these units begins
abbrev pub AreStillOpen : List Node → List Scope → List (ℕ × List Word) → Type 0
AreStillOpen nodes these open_ones =
    (at : ℕ) → ((s : Scope) → Among these s → s.unit ≤ at) → (test : ℕ × List Word → Bool) → list_any (λ f. nat_lt at f.0 && test f) open_ones ≡ list_any (λ f. nat_lt at f.0 && test f) (flat_map (entered nodes) these)
