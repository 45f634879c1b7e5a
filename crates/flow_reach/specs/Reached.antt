-- The answer as a relation between points and facts.
use Rattle.std.specs.Prelude.{◌≡◌, ◌↔◌, ◌+◌, ◌*◌, ◌<◌, ℕ, length}
use Rattle.graph_form.specs.declared.graph.Graph.{Graph}
use Rattle.flow_reach.specs.declared.moves.Moves.{Moves}
use Rattle.flow_reach.specs.declared.reached.Reached.{Reached}
use Rattle.flow_reach.specs.Bits.{Has, stride_of}
use Rattle.flow_reach.specs.Carried.{CarriedFrom, AtEntry}

-- the answer has the fact at the point
unfoldable pub Tells : Reached → ℕ → ℕ → Type 0
Tells reached point fact = Has reached.seen.items (point * stride_of reached.facts + fact)

-- the answer is about these points and facts, and has just the facts that some path carries from where they begin
pub record IsReachedFrom (Begins : ℕ → ℕ → Type 0) (graph : Graph) (moves : Moves) (reached : Reached) : Type 0 where
  pub points : reached.points ≡ length graph.points
  pub facts : reached.facts ≡ moves.facts
  pub exact : (point fact : ℕ) → point < length graph.points → fact < moves.facts → Tells reached point fact ↔ CarriedFrom Begins graph moves point fact

-- the same for paths from the entry
abbrev pub IsReached : Graph → Moves → Reached → Type 0
IsReached graph moves reached = IsReachedFrom (AtEntry moves) graph moves reached
