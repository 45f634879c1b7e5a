-- The places of words are below 65536.
use Rattle.std.proofs.Common.{◌≡◌, ℕ, ◌+◌, ◌*◌, ◌<◌, ◌≤◌, ◌%◌, List, [], ◌∷◌, length, ap, ◌∙◌, arith, lit≤}
use Rattle.std.proofs.Math.Nat.{mod-eq_of_lt}
use borrow.Enum.Match.{tag_small}
use denote.Enum.Declared.{variants}
use Rattle.node_tree.specs.contracts.kind.Kind.{the_type}
use Rattle.node_tree.specs.declared.kind.Kind.{Kind}
use Rattle.node_tree.specs.Order.{kind_place}
use Rattle.tree_code.specs.Sums.{mixed}
use Rattle.file_match.specs.Words.{Word, place_of, place_among}

few : length (variants the_type) ≤ 65536
few = lit≤ tt

kind_small : (kind : Kind) → kind_place kind < 65536
kind_small kind = let h : kind_place kind < length (variants the_type) = tag_small the_type kind in omega (arith, few, h)

mixed_small : (h : ℕ) (text : List ℕ) → h < 65536 → mixed h text < 65536
mixed_small h [] lt = lt
mixed_small h (b ∷ bs) lt = mixed_small ((h * 31 + b) % 65536) bs (omega arith)

place_small : (w : Word) → place_of w < 65536
place_small w = mixed_small (kind_place w.0) w.1 (kind_small w.0)

-- among 65536 places a word has its own
pub among_all : (count : ℕ) (w : Word) → count ≡ 65536 → place_among count w ≡ place_of w
among_all count w all = ap (λ (k : ℕ). place_of w % k) all ∙ mod-eq_of_lt (place_small w)
