-- Paths that carry a goal's fact to its point, and which of them is the least.
use Rattle.std.specs.Prelude.{◌≡◌, ◌⊎◌, ◌<◌, ℕ, List, [], ◌∷◌, length, reverse}
use Rattle.graph_form.specs.declared.graph.Graph.{Graph}
use Rattle.graph_form.specs.Sets.{Among}
use Rattle.flow_reach.specs.declared.moves.Moves.{Moves}
use Rattle.flow_reach.specs.Carried.{Stop, Leads}

-- the points of stops, the last one first
abbrev pub points_of : List Stop → List ℕ
points_of [] = []
points_of (stop ∷ stops) = stop.point ∷ points_of stops

-- these points, from the entry on, are a path that carries the fact of a goal to its point
pub record IsTrace (graph : Graph) (moves : Moves) (goals : List (ℕ × ℕ)) (points : List ℕ) : Type 0 where
  pub stops : List Stop
  pub point : ℕ
  pub fact : ℕ
  pub leads : Leads graph moves stops point fact
  pub goal : Among goals (point, fact)
  pub same : points ≡ reverse (point ∷ points_of stops)

-- at the first place where the lists differ, the first one has the less point
abbrev pub Precedes : List ℕ → List ℕ → Type 0
Precedes [] ys = ⊥
Precedes (x ∷ xs) [] = ⊥
Precedes (x ∷ xs) (y ∷ ys) = (x < y) ⊎ ((x ≡ y) × Precedes xs ys)

-- fewer points, or as many, and the same or less at the first place where they differ
abbrev pub IsUpTo : List ℕ → List ℕ → Type 0
IsUpTo xs ys = (length xs < length ys) ⊎ ((length xs ≡ length ys) × (Precedes xs ys ⊎ (xs ≡ ys)))

-- no such path has fewer points, and of those with as many this one is the least
pub record IsLeast (graph : Graph) (moves : Moves) (goals : List (ℕ × ℕ)) (points : List ℕ) : Type 0 where
  pub trace : IsTrace graph moves goals points
  pub least : (others : List ℕ) → IsTrace graph moves goals others → IsUpTo points others
