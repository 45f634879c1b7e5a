-- Depths and brackets, counted step by step.
use Rattle.std.proofs.Common.{◌≡◌, ℕ, ◌+◌, ◌<◌, ◌≤◌, List, length, drop, get_or, refl, add-one, drop-cons, arith}
use Rattle.std.specs.Prelude.{max, leb, ◌&&◌}
use Rattle.std.proofs.lemmas.List.{drop_all}
use Rattle.node_tree.specs.declared.node.Node.{Node}
use Rattle.node_tree.specs.Tree.{depth_of, depth_is, kids_of}
use Rattle.grammar.specs.Rule.{open_at, behind, smaller}
use Rattle.grammar.proofs.Counts.{count_step, count_start}
use Rattle.py_expr.specs.declared.item.Item.{Item}
use Rattle.py_expr.specs.Words.{class}
use Rattle.py_expr.specs.Parts.{depth_nodes}
use Rattle.py_expr.specs.Table.{grammar}
use Rattle.py_expr.specs.Build.{token_at, source}
use Rattle.py_expr.specs.reader.Reading.{round_at}

pub depth_opened : (n : Node) → depth_of n ≡ 1 + depth_nodes (kids_of n)
depth_opened n = depth_is n

-- the depth of a list from one of its nodes on
pub depths_from : (ks : List Node) (i : ℕ) (d : Node) → i < length ks → depth_nodes (drop i ks) ≡ max (depth_of (get_or ks i d)) (depth_nodes (drop (i + 1) ks))
depths_from ks i d h = rw (add-one i, drop-cons ks i d) refl

pub depths_past : (ks : List Node) (i : ℕ) → length ks ≤ i → depth_nodes (drop i ks) ≡ 0
depths_past ks i h = rw (drop_all i ks h) refl

pub leb_max : (a b m : ℕ) → leb (max a b) m ≡ (leb a m && leb b m)
leb_max a b m = grind arith

-- how many brackets are open before a token
unfoldable pub open_before : List Item → ℕ → ℕ → ℕ
open_before ts from n = open_at grammar.opens grammar.closes (source ts).cls from n

pub open_start : (ts : List Item) (from : ℕ) → open_before ts from from ≡ 0
unfolding open_before
open_start ts from = count_start grammar.opens grammar.closes (source ts).cls from

pub open_next : (ts : List Item) (from n : ℕ) → from ≤ n → open_before ts from (n + 1) ≡ behind grammar.opens grammar.closes (class (token_at ts n).word) (open_before ts from n)
unfolding open_before
open_next ts from n h = rw add-one (count_step grammar.opens grammar.closes (source ts).cls from n h)

pub round_is : (ts : List Item) (from n : ℕ) → round_at ts from n ≡ smaller (open_before ts from n) (open_before ts from (n + 1))
unfolding open_before round_at
round_is ts from n = rw add-one refl
