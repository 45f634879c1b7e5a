-- Classes of paths in order.
use Rattle.std.specs.Prelude.{◌≡◌, ◌⊎◌, ◌↔◌, ◌+◌, ◌*◌, ◌<◌, ◌≤◌, ℕ, List, [], ◌∷◌, ◌++◌, length, map, slice_get, slice_range, Some, get_or}
use Rattle.std.specs.Global.{Vec}
use Rattle.graph_form.specs.declared.graph.Graph.{Graph}
use Rattle.graph_form.specs.Edges.{HasEdge}
use Rattle.graph_form.specs.Sets.{Among}
use Rattle.flow_reach.specs.declared.moves.Moves.{Moves}
use Rattle.flow_reach.specs.Bits.{Has, stride_of}
use Rattle.flow_reach.specs.Carried.{Turns}
use Rattle.trace_path.specs.declared.queue.Class.{Class}
use Rattle.trace_path.specs.declared.queue.Queue.{Queue}
use Rattle.trace_path.specs.Fresh.{Finds, missing}

-- the numbers don't fall
abbrev pub Ascends : List ℕ → Type 0
Ascends xs = (i j : ℕ) → i ≤ j → j < length xs → get_or xs i 0 ≤ get_or xs j 0

-- the point turns one of the facts into this one
abbrev pub Turned : Moves → ℕ → List ℕ → ℕ → Type 0
Turned moves point facts after = (fact : ℕ) × Among facts fact × Turns moves point fact after

-- the rows have the points to which edges lead from each point, in order
pub record IsNext (graph : Graph) (rows : List (Vec ℕ)) : Type 0 where
  pub size : length rows ≡ length graph.points
  pub each : (i : ℕ) (row : Vec ℕ) → slice_get rows i ≡ Some row → ((q : ℕ) → Among row.items q ↔ HasEdge graph i q) × Ascends row.items

-- one of the facts, whose numbers begin at a number, is in the set
abbrev pub HasOne : List ℕ → ℕ → List ℕ → Type 0
HasOne set base facts = (fact : ℕ) × Among facts fact × Has set (base + fact)

-- a class with its facts: the last point of its paths, the number of the class of the paths before it, and the facts that are
-- carried to the point along these, and along none that comes before
pub record Group : Type 0 where
  pub point : ℕ
  pub parent : ℕ
  pub facts : List ℕ

abbrev pub group_of : List ℕ → Class → Group
group_of facts c = record { point = c.point; parent = c.parent; facts = slice_range facts c.first c.end }

-- the classes of a queue, with their facts
abbrev pub groups : Queue → List Group
groups queue = map (group_of queue.facts.items) queue.classes.items

-- the class has that number
abbrev pub IsIn : List Class → ℕ → Class → Type 0
IsIn classes i c = slice_get classes i ≡ Some c

-- the same with its facts
abbrev pub IsAt : List Group → ℕ → Group → Type 0
IsAt groups i c = slice_get groups i ≡ Some c

-- the facts of each class stand in the list of facts
abbrev pub Within : Queue → Type 0
Within queue = (i : ℕ) (c : Class) → IsIn queue.classes.items i c → (c.first ≤ c.end) × (c.end ≤ length queue.facts.items)

-- the class stands on the one before: an edge leads to its point, and each of its facts comes from one of those
abbrev pub Comes : Graph → Moves → List Group → ℕ → Group → Type 0
Comes graph moves groups i c =
    (p : Group) × IsAt groups c.parent p × (c.parent < i) × HasEdge graph p.point c.point × ((g : ℕ) → Among c.facts g → (f : ℕ) × Among p.facts f × Turns moves p.point f g)

-- some class has the fact at the point, and it is the first one or stands on one of these
abbrev pub Held : List Group → ℕ → ℕ → ℕ → Type 0
Held groups limit point fact = (j : ℕ) × (d : Group) × IsAt groups j d × (d.point ≡ point) × Among d.facts fact × ((j ≡ 0) ⊎ (d.parent ≤ limit))

-- the class stands before the other one
abbrev pub InOrder : Group → Group → Type 0
InOrder c d = (c.parent < d.parent) ⊎ ((c.parent ≡ d.parent) × (c.point < d.point))

-- the classes are paths, in order, and lengthening those by the points that are done leads to facts that are held
pub record IsQueue (graph : Graph) (moves : Moves) (head : ℕ) (Done : ℕ → ℕ → Type 0) (groups : List Group) (seen : List ℕ) : Type 0 where
  pub zeroth : (c : Group) × IsAt groups 0 c × (c.point ≡ 0) × ((f : ℕ) → Among c.facts f ↔ Among moves.start f)
  pub comes : (i : ℕ) (c : Group) → IsAt groups i c → 0 < i → Comes graph moves groups i c
  pub order : (i j : ℕ) (c d : Group) → IsAt groups i c → IsAt groups j d → 0 < i → i < j → InOrder c d
  pub late : (i : ℕ) (c : Group) → IsAt groups i c → 0 < i → Done c.parent c.point
  pub closed : (i q : ℕ) (c : Group) → IsAt groups i c → Done i q → HasEdge graph c.point q → (f g : ℕ) → Among c.facts f → Turns moves c.point f g → Held groups i q g
  pub known : (q g : ℕ) → g < moves.facts → Has seen (q * stride_of moves.facts + g) → Held groups head q g
  pub noted : (i : ℕ) (c : Group) → IsAt groups i c → (f : ℕ) → Among c.facts f → Has seen (c.point * stride_of moves.facts + f)
  pub inside : (i : ℕ) (c : Group) → IsAt groups i c → (c.point < length graph.points) × ((f : ℕ) → Among c.facts f → f < moves.facts)
  pub room : length graph.points * stride_of moves.facts ≡ 64 * length seen

-- the same of a queue whose facts stand in their places, and which has few words
pub record Stands (graph : Graph) (moves : Moves) (head : ℕ) (Done : ℕ → ℕ → Type 0) (queue : Queue) : Type 0 where
  pub paths : IsQueue graph moves head Done (groups queue) queue.seen.items
  pub within : Within queue
  pub words : length queue.seen.items ≤ 50000000
  pub few : length queue.facts.items + missing queue.seen.items ≤ 3200000000

-- a step to one point
pub record Steps (head point base : ℕ) (turned : List ℕ) (old new : Queue) : Type 0 where
  pub found : List ℕ
  pub finds : Finds base turned old.seen.items new.seen.items found
  pub within : Within new
  pub longer : length new.facts.items ≡ length old.facts.items + length found
  pub pushed : ((found ≡ []) × (groups new ≡ groups old)) ⊎ ((c : Group) × (groups new ≡ groups old ++ c ∷ []) × (c.point ≡ point) × (c.parent ≡ head) × (c.facts ≡ found) × (0 < length found))

-- what the class of that number leads to
pub record Leaves (graph : Graph) (moves : Moves) (groups : List Group) (head : ℕ) (next turned : List ℕ) : Type 0 where
  pub class : Group
  pub at : IsAt groups head class
  pub forth : (q : ℕ) → Among next q ↔ HasEdge graph class.point q
  pub turns : (g : ℕ) → Among turned g ↔ Turned moves class.point class.facts g

-- the points of the paths of a class, the last one first
abbrev pub IsRoute : List Group → ℕ → List ℕ → Type 0
IsRoute groups i [] = ⊥
IsRoute groups i (p ∷ earlier) = (c : Group) × IsAt groups i c × (c.point ≡ p) × (((i ≡ 0) × (earlier ≡ [])) ⊎ ((0 < i) × IsRoute groups c.parent earlier))

-- each class but the first one stands on one before it
abbrev pub Descends : List Group → Type 0
Descends groups = (i : ℕ) (c : Group) → IsAt groups i c → 0 < i → c.parent < i

-- a fact of the class is a goal at its point
abbrev pub Meets : List (ℕ × ℕ) → Group → Type 0
Meets goals c = (fact : ℕ) × Among goals (c.point, fact) × Among c.facts fact

-- classes are added at the end, at most one for each pair that is seen now and wasn't
pub record Grows (old new : Queue) : Type 0 where
  pub longer : length old.classes.items ≤ length new.classes.items
  pub kept : (i : ℕ) (c : Group) → i < length old.classes.items → IsAt (groups new) i c → IsAt (groups old) i c
  pub less : missing new.seen.items + length new.classes.items ≤ missing old.seen.items + length old.classes.items
  pub room : length new.seen.items ≡ length old.seen.items

-- the first class, of these facts
pub record IsFirst (words : ℕ) (start : List ℕ) (queue : Queue) : Type 0 where
  pub old : List ℕ
  pub room : length old ≡ words
  pub none : (k : ℕ) → Has old k → ⊥
  pub group : Group
  pub point : group.point ≡ 0
  pub all : groups queue ≡ group ∷ []
  pub finds : Finds 0 start old queue.seen.items group.facts
  pub within : Within queue
  pub longer : length queue.facts.items ≡ length group.facts
