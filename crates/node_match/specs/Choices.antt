-- Where a choice among nodes stands.
use Rattle.std.specs.Prelude.{◌≡◌, ◌<◌, ◌≤◌, ℕ, List, [], ◌∷◌, length, slice_index_or, slice_set, Bool, true, false, if◌then◌else◌}
use Rattle.node_tree.specs.declared.node.Node.{Node}
use Rattle.node_tree.specs.declared.known.Known.{Known}
use Rattle.node_tree.specs.Numbers.{Numbered}
use Rattle.meta_bind.specs.declared.bound.Bound.{Bound}
use Rattle.node_match.specs.Sets.{Among}
use Rattle.node_match.specs.Orders.{choosers}
use Rattle.node_match.specs.Relation.{Matches, MatchesChoice}

-- those of the nodes that no pattern has taken
abbrev pub untaken : List Bool → List Numbered → List Numbered
untaken [] ns = []
untaken (t ∷ ts) [] = []
untaken (t ∷ ts) (n ∷ ns) = if t then untaken ts ns else n ∷ untaken ts ns

-- each is taken
abbrev pub all_taken : List Bool → Type 0
all_taken [] = Unit {0}
all_taken (t ∷ ts) = (t ≡ true) × all_taken ts

-- what the patterns take the binding to when each takes one of these nodes; some may be left over where it is loose
abbrev pub Chosen : List Known → Bool → Bool → List Node → List Numbered → List Bound → List Bound → Type 0
Chosen C named loose ps ns b c = (rest : List Numbered) × (loose ≡ false → rest ≡ []) × MatchesChoice C (choosers named ps) ns rest b c

-- the first pattern takes the node at this place, and the others some that no pattern has taken
abbrev pub TakesAt : List Known → Bool → Bool → ℕ → Node → List Node → List Bool → List Numbered → List Bound → List Bound → Type 0
TakesAt C named loose k p ps taken ns b c =
    (slice_index_or taken k true ≡ false) × (n : Numbered) × (n ≡ slice_index_or ns k n) × (d : List Bound) × Matches C p n b d × Chosen C named loose ps (untaken (slice_set taken k true) ns) d c

-- the same at this place or a later one
abbrev pub TakesFrom : List Known → Bool → Bool → ℕ → Node → List Node → List Bool → List Numbered → List Bound → List Bound → Type 0
TakesFrom C named loose least p ps taken ns b c = (k : ℕ) × (least ≤ k) × (k < length ns) × TakesAt C named loose k p ps taken ns b c

-- the patterns go on from one of these bindings
abbrev pub Picked : List Known → Bool → Bool → List Node → List Numbered → List (List Bound) → List Bound → Type 0
Picked C named loose ps ns found c = (d : List Bound) × Among found d × Chosen C named loose ps ns d c
