-- What is known of names wherever they stand.
use Rattle.std.specs.Prelude.{◌≡◌, ◌↔◌, ◌<◌, ℕ, Bool, true, false, ◌==◌, if◌then◌else◌, List, [], ◌∷◌, ◌++◌, length, map, slice_get, slice_index_or, Option, Some, None}
use Rattle.std.specs.Option.{option_map}
use Rattle.node_tree.specs.declared.node.Node.{Node}
use Rattle.node_tree.specs.declared.known.Known.{Known}
use Rattle.node_tree.specs.Tree.{kind_of}
use Rattle.node_tree.specs.KnownNames.{AreInOrder}
use Rattle.graph_form.specs.Sets.{Among}
use Rattle.assignments.specs.Targets.{is_name}
use Rattle.unit_effects.specs.Fixed.{Value}
use Rattle.const_prop.specs.declared.sighting.Sighting.{Sighting}
use Rattle.unit_names.specs.declared.word.Word.{Word as Lent}
use Rattle.unit_names.specs.Seen.{seen_word}
use Rattle.unit_names.specs.Words.{Word, leaf, same_word}

-- a name that was seen: its number, and the literal that it holds there
abbrev pub seen_sighting : Sighting → ℕ × Value
seen_sighting g = (g.at, option_map seen_word g.literal)

abbrev pub all_sightings : List Sighting → List (ℕ × Value)
all_sightings = map seen_sighting

-- what is known of a node, as contracts see it: nothing where it was seen nowhere, and nothing within where it can't hold a literal
abbrev pub seen_slot : Option (Option Lent) → Option Value
seen_slot = option_map (option_map seen_word)

abbrev pub both : Word → Value → Value
both v None = None
both v (Some w) = if same_word v w then Some v else None

abbrev pub joined : Value → Value → Value
joined None w = None
joined (Some v) w = both v w

-- what is known of a node once it was seen with this value: nothing within where it can't hold a literal
abbrev pub seen_more : Option Value → Value → Option Value
seen_more None v = Some v
seen_more (Some w) v = Some (joined w v)

-- the same after it was seen with all of these
abbrev pub seen_all : Option Value → List (ℕ × Value) → ℕ → Option Value
seen_all slot [] at = slot
seen_all slot (g ∷ gs) at = seen_all (if g.0 == at then seen_more slot g.1 else slot) gs at

-- it was seen, and with that literal wherever it was
pub record Agrees (gs : List (ℕ × Value)) (at : ℕ) (literal : Word) : Type 0 where
  pub some : (v : Value) × Among gs (at, v)
  pub every : (v : Value) → Among gs (at, v) → v ≡ Some literal

-- whether the node of that number is a name
abbrev pub name_by : Option Node → Bool
name_by None = false
name_by (Some n) = is_name (kind_of n)

abbrev pub is_name_there : List Node → ℕ → Bool
is_name_there nodes at = name_by (slice_get nodes at)

-- what is known of each of so many nodes after all sightings
pub record AreGathered (gs : List (ℕ × Value)) (count : ℕ) (slots : List (Option (Option Lent))) : Type 0 where
  pub size : length slots ≡ count
  pub each : (at : ℕ) → at < count → seen_slot (slice_index_or slots at None) ≡ seen_all None gs at

-- one sighting more
abbrev pub AddsSighting : List (Option (Option Lent)) → ℕ × Value → List (Option (Option Lent)) → Type 0
AddsSighting old g new = (gs : List (ℕ × Value)) (count : ℕ) → AreGathered gs count old → AreGathered (gs ++ g ∷ []) count new

-- the name that is known, where that is known of a node
abbrev pub known_at : Bool → ℕ → Option Value → List Known
known_at name at None = []
known_at name at (Some None) = []
known_at name at (Some (Some w)) = if name then record { at = at; literal = leaf w } ∷ [] else []

-- the names up to a number that were seen with a literal, wherever they were
pub record AreSettled (nodes : List Node) (gs : List (ℕ × Value)) (to : ℕ) (known : List Known) : Type 0 where
  pub in_order : AreInOrder known
  pub exact : (k : Known) → Among known k ↔ ((k.at < to) × (literal : Word) × (k.literal ≡ leaf literal) × (is_name_there nodes k.at ≡ true) × Agrees gs k.at literal)
