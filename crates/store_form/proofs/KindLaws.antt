-- Kinds have places that fit a byte.
use Rattle.std.proofs.Common.{◌<◌, ◌≤◌, ◌^◌, arith, length, lit≤}
use borrow.Enum.Match.{tag_small}
use denote.Enum.Declared.{variants}
use Rattle.node_tree.specs.contracts.kind.Kind.{the_type}
use Rattle.node_tree.specs.declared.kind.Kind.{Kind}
use Rattle.node_tree.specs.Order.{kind_place}

few : length (variants the_type) ≤ 256
few = lit≤ tt

pub place_below : (k : Kind) → kind_place k < 256
place_below k = let h : kind_place k < length (variants the_type) = tag_small the_type k in omega (arith, few, h)

pub place_fits : (k : Kind) → kind_place k < 2 ^ 32
place_fits k = let h = place_below k in omega arith
