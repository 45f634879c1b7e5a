-- Numbers, pairs and edges that are there.
use Rattle.std.specs.Prelude.{◌<◌, ℕ, List}
use Rattle.graph_form.specs.declared.graph.Edge.{Edge}
use Rattle.graph_form.specs.Sets.{Among}
use Rattle.flow_reach.specs.declared.moves.Move.{Move}
use Rattle.flow_reach.specs.Carried.{SpeaksOf}

abbrev pub AreBelow : List ℕ → ℕ → Type 0
AreBelow numbers most = (x : ℕ) → Among numbers x → x < most

abbrev pub ArePairsBelow : List (ℕ × ℕ) → ℕ → ℕ → Type 0
ArePairsBelow pairs first second = (x y : ℕ) → Among pairs (x, y) → (x < first) × (y < second)

abbrev pub AreEdgesBelow : List Edge → ℕ → Type 0
AreEdgesBelow edges points = (edge : Edge) → Among edges edge → (edge.from < points) × (edge.to < points)

-- each of the rows speaks of facts that are there
abbrev pub SpeakOf : ℕ → List Move → Type 0
SpeakOf facts rows = (row : Move) → Among rows row → SpeaksOf facts row
