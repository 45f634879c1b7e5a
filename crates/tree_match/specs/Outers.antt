-- What a search knows of next places.
use Rattle.std.specs.Prelude.{◌≡◌, ◌<◌, List, [], ◌∷◌, length, true, false}
use Rattle.node_pool.specs.Spots.{seen}
use Rattle.node_match.specs.Free.{parts_of}
use Rattle.tree_match.specs.declared.aim.Search.{Search}
use Rattle.tree_match.specs.declared.outer.Outer.{Outer}
use Rattle.tree_match.specs.Landing.{AreNextOf}

-- of each list of all kids the next places that are given are those of its parts, and one of arguments isn't the last list
abbrev pub AllKnowNext : List Outer → Type 0
AllKnowNext [] = Unit {0}
AllKnowNext (o ∷ os) = (o.unnamed ≡ false → AreNextOf (seen o.holder.spot) (parts_of o.pattern.now) o.nexts.now) × (o.unnamed ≡ true → 0 < length os) × AllKnowNext os

-- the next places of a search along all kids
abbrev pub KnowsOwnNext : Search → Type 0
KnowsOwnNext s = s.unnamed ≡ false → AreNextOf (seen s.holder.spot) (parts_of s.pattern.now) s.nexts.now

-- the same of the list that is searched and of the outer ones
abbrev pub KnowsNext : Search → Type 0
KnowsNext s = KnowsOwnNext s × (s.unnamed ≡ true → 0 < length s.outer.now) × AllKnowNext s.outer.now
