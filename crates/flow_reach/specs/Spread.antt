-- What the facts in one word lead to. Pairs of a point and a fact are numbers: a point's facts take whole words.
use Rattle.std.specs.Prelude.{◌≡◌, ◌↔◌, ◌⊎◌, ◌+◌, ◌*◌, ◌/◌, ◌%◌, ◌<◌, ◌≤◌, ℕ, zero, suc, List, [], ◌∷◌, length, slice_get, Some}
use Rattle.std.specs.Global.{Vec}
use Rattle.std.specs.Int.{bit_at}
use Rattle.graph_form.specs.declared.graph.Graph.{Graph}
use Rattle.graph_form.specs.Edges.{HasEdge}
use Rattle.graph_form.specs.Sets.{Among}
use Rattle.flow_reach.specs.declared.moves.Move.{Move}
use Rattle.flow_reach.specs.declared.moves.Moves.{Moves}
use Rattle.flow_reach.specs.declared.spread.Batch.{Batch}
use Rattle.flow_reach.specs.declared.worklist.Worklist.{Worklist}
use Rattle.flow_reach.specs.Bits.{Has, InWord, stride_of}
use Rattle.flow_reach.specs.Adds.{Coded, AreAdds}
use Rattle.flow_reach.specs.Carried.{Turns, CarriedFrom}
use Rattle.flow_reach.specs.declared.ready.Ready.{Ready}
use Rattle.flow_reach.specs.Worklist.{IsShaped}

-- the numbers of these facts at a point whose facts begin there
abbrev pub At : ℕ → List ℕ → ℕ → Type 0
At base facts k = (fact : ℕ) × Among facts fact × (k ≡ base + fact)

-- the numbers of these pairs of a point and a fact
abbrev pub AtPairs : ℕ → List (ℕ × ℕ) → ℕ → Type 0
AtPairs stride pairs k = (pair : ℕ × ℕ) × Among pairs pair × (k ≡ pair.0 * stride + pair.1)

-- the numbers of these facts at these points
abbrev pub AtEach : List ℕ → ℕ → List ℕ → ℕ → Type 0
AtEach points stride facts k = (point : ℕ) × Among points point × At (point * stride) facts k

-- the numbers in this column of words at these points
abbrev pub Kept : List ℕ → ℕ → ℕ → ℕ → ℕ → Type 0
Kept points width column bits k = (point : ℕ) × Among points point × InWord (point * width + column) bits k

-- the numbers at these points of the facts that are added with a fact
abbrev pub AddedBy : List ℕ → ℕ → List ℕ → ℕ → ℕ → Type 0
AddedBy points stride adds fact k = (point : ℕ) × Among points point × (second : ℕ) × Coded adds fact second × (k ≡ point * stride + second)

-- the same with one of the facts from a base on
abbrev pub Added : (ℕ → Type 0) → List ℕ → ℕ → List ℕ → ℕ → ℕ → Type 0
Added Bit points stride adds base k = (bit : ℕ) × Bit bit × AddedBy points stride adds (base + bit) k

-- the bits of a word
abbrev pub Bits : ℕ → ℕ → Type 0
Bits word bit = bit_at word bit ≡ 1

-- the bits of a word that another one doesn't have
abbrev pub Done : ℕ → ℕ → ℕ → Type 0
Done word left bit = (bit_at word bit ≡ 1) × (bit_at left bit ≡ 1 → ⊥)

-- what is kept of a batch of facts, and what is added with one of them
abbrev pub Follows : List ℕ → List ℕ → Batch → ℕ → Type 0
Follows points adds batch k =
    Kept points batch.width batch.column batch.kept k ⊎ Added (Bits batch.bits) points (batch.width * 64) adds (batch.column * 64) k

-- the number is one of a fact that its point drops
abbrev pub Dropped : List Move → ℕ → ℕ → ℕ → Type 0
Dropped rows stride to k = (point : ℕ) × (point < to) × (row : Move) × (slice_get rows point ≡ Some row) × At (point * stride) row.drops k

-- the fact goes on as it is, since its number isn't dropped
abbrev pub Left : List ℕ → ℕ → ℕ → ℕ → Type 0
Left dropped at fact after = (fact ≡ after) × (Has dropped at → ⊥)

-- the row of a point in a table has the other point
abbrev pub RowHas : List (Vec ℕ) → ℕ → ℕ → Type 0
RowHas [] from to = ⊥
RowHas (row ∷ rows) zero to = Among row.items to
RowHas (row ∷ rows) (suc from) to = RowHas rows from to

-- the table has a row for each point, with the points to which edges lead from it
pub record IsTable (graph : Graph) (table : List (Vec ℕ)) : Type 0 where
  pub rows : length table ≡ length graph.points
  pub exact : (from to : ℕ) → RowHas table from to ↔ HasEdge graph from to

-- what a fact at a point leads to at the next points
abbrev pub Next : Graph → Moves → ℕ → ℕ → ℕ → Type 0
Next graph moves stride at k =
    (point : ℕ) × HasEdge graph (at / stride) point × (fact : ℕ) × Turns moves (at / stride) (at % stride) fact × (k ≡ point * stride + fact)

-- what the facts of a word lead to
abbrev pub NextOf : Graph → Moves → ℕ → ℕ → ℕ → ℕ → Type 0
NextOf graph moves stride word bits k = (at : ℕ) × InWord word bits at × Next graph moves stride at k

-- the tables are those of the graph and of what its points do
pub record IsReady (graph : Graph) (moves : Moves) (ready : Ready) : Type 0 where
  pub after : IsTable graph ready.after.items
  pub added : AreAdds moves.rows ready.added.items
  pub room : length graph.points * stride_of moves.facts ≡ 64 * length ready.dropped.items
  pub few : length ready.dropped.items ≤ 50000000
  pub dropped : (k : ℕ) → Has ready.dropped.items k ↔ Dropped moves.rows (stride_of moves.facts) (length moves.rows) k

-- what is seen is carried, and all to which it leads is seen, unless it waits
pub record IsClosing (Begins : ℕ → ℕ → Type 0) (graph : Graph) (moves : Moves) (stride : ℕ) (work : Worklist) : Type 0 where
  pub shaped : IsShaped work
  pub room : length graph.points * stride ≡ 64 * length work.seen.items
  pub sound : (k : ℕ) → Has work.seen.items k → (k < length graph.points * stride) × CarriedFrom Begins graph moves (k / stride) (k % stride)
  pub start : (point fact : ℕ) → Begins point fact → Has work.seen.items (point * stride + fact)
  pub listed : (k : ℕ) → Has work.todo.items k → Has work.seen.items k
  pub closed : (k : ℕ) → Has work.seen.items k → Has work.todo.items k ⊎ ((m : ℕ) → Next graph moves stride k m → Has work.seen.items m)

-- just what is carried is seen
pub record IsFilled (Begins : ℕ → ℕ → Type 0) (graph : Graph) (moves : Moves) (seen : List ℕ) : Type 0 where
  pub room : length graph.points * stride_of moves.facts ≡ 64 * length seen
  pub exact : (point fact : ℕ) → fact < moves.facts → Has seen (point * stride_of moves.facts + fact) ↔ CarriedFrom Begins graph moves point fact
