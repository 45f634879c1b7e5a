-- Points and edges as numbers, in order.
use Rattle.std.specs.Prelude.{◌≡◌, ◌↔◌, ◌+◌, ◌*◌, ◌/◌, ◌%◌, ◌<◌, ◌≤◌, ℕ, zero, suc, List, length, take, slice_index}
use Rattle.graph_form.specs.declared.graph.Edge.{Edge}
use Rattle.graph_form.specs.declared.graph.Point.{Point}
use Rattle.graph_form.specs.declared.graph.Role.{Role}
use Rattle.graph_form.specs.declared.graph.Role.TheVariants as roles
use Rattle.graph_form.specs.Sets.{Among}
use Rattle.flow_edges.specs.declared.transfer.Transfer.{Transfer}
use Rattle.flow_graph.specs.Units.{role_place}

-- the number of a point
abbrev pub key_of : Point → ℕ
key_of p = p.node * 8 + role_place p.role

abbrev pub role_at : ℕ → Role
role_at zero = roles.Entry
role_at (suc zero) = roles.Exit
role_at (suc (suc zero)) = roles.Head
role_at (suc (suc (suc zero))) = roles.Init
role_at (suc (suc (suc (suc zero)))) = roles.Test
role_at _ = roles.Step

-- the point of a number
abbrev pub decoded : ℕ → Point
decoded key = record { node = key / 8; role = role_at (key % 8) }

-- the edge of a number
abbrev pub edge_of : ℕ → Edge
edge_of code = record { from = code / 4294967296; to = code % 4294967296 }

-- each number is less than those behind it
abbrev pub Ascends : List ℕ → Type 0
Ascends xs = (i j : ℕ) → i < j → j < length xs → slice_index xs i < slice_index xs j

-- the number stands at that place
abbrev pub IsPlace : List ℕ → ℕ → ℕ → Type 0
IsPlace xs x i = (i < length xs) × (slice_index xs i ≡ x)

-- the number is that of an edge between points of these numbers, along which the transfer goes
abbrev pub IsCodeOf : List ℕ → Transfer → ℕ → Type 0
IsCodeOf keys t x = (i : ℕ) × IsPlace keys (key_of t.from) i × (j : ℕ) × IsPlace keys (key_of t.to) j × (x ≡ i * 4294967296 + j)

-- the same for one of the transfers
abbrev pub IsCode : List ℕ → List Transfer → ℕ → Type 0
IsCode keys transfers x = (t : Transfer) × Among transfers t × IsCodeOf keys t x

-- no number is more than one behind it
abbrev pub Stays : List ℕ → Type 0
Stays xs = (i j : ℕ) → i ≤ j → j < length xs → slice_index xs i ≤ slice_index xs j

-- these are the first so many numbers, in order, each once
pub record Settles (xs : List ℕ) (i : ℕ) (all : List ℕ) : Type 0 where
  pub same : (x : ℕ) → Among all x ↔ Among (take i xs) x
  pub ascends : Ascends all

-- one of the transfers goes from the one point to the other
abbrev pub Transfers : List Transfer → Point → Point → Type 0
Transfers transfers a b = Among transfers (record { from = a; to = b })
