-- What is read of all the items is the statements that they are, and the statements that they are are read.
use Rattle.std.proofs.Common.{◌≡◌, ℕ, suc, ◌<◌, ◌≤◌, List, [], ◌∷◌, length, refl, sym, ap, ◌∙◌, arith, Some, None}
use Rattle.std.specs.Prelude.{max}
use Rattle.node_tree.specs.declared.node.Node.{Node}
use Rattle.node_tree.specs.Tree.{depth_of}
use Rattle.grammar.proofs.Facts.{none_some, some_pair}
use Rattle.grammar.proofs.Theorem.{read_piece, piece_read}
use Rattle.py_expr.specs.declared.item.Item.{Item}
use Rattle.py_expr.specs.Parts.{wholes, depth_nodes, depth_all}
use Rattle.py_expr.specs.reader.Reading.{round_at}
use Rattle.py_suite.specs.Table.{File, grammar}
use Rattle.py_suite.specs.Build.{source}
use Rattle.py_suite.specs.reader.Sets.{sets, ranks}
use Rattle.py_suite.specs.reader.Reading.{level}
use Rattle.py_stmt.specs.Modules.{AreStatements}
use Rattle.py_suite.proofs.Passes.{pass}
use Rattle.py_suite.proofs.Depths.{deepens}

wholes_depth : (ns : List Node) → depth_all (wholes ns) ≡ depth_nodes ns
wholes_depth [] = refl
wholes_depth (n ∷ ns) = ap (max (depth_of n)) (wholes_depth ns)

same_wholes : (ns ms : List Node) → wholes ns ≡ wholes ms → ns ≡ ms
same_wholes [] [] e = refl
same_wholes [] (m ∷ ms) e = absurd cc
same_wholes (n ∷ ns) [] e = absurd cc
same_wholes (n ∷ ns) (m ∷ ms) e =
    let first : n ≡ m = cc in
    let rest : wholes ns ≡ wholes ms = cc in
    ap (λ (x : Node). x ∷ ns) first ∙ ap (λ (xs : List Node). m ∷ xs) (same_wholes ns ms rest)

-- all the items are statements where they are read so
pub read_are : (ts : List Item) (ns : List Node) (end : ℕ) → level ts 1003 File 0 ≡ Some (wholes ns, end) → end ≡ length ts → depth_nodes ns ≤ 501 → ((k : ℕ) → 0 ≤ k → k < end → round_at ts 0 k ≤ 500) → AreStatements ts ns
unfolding level round_at
read_are ts ns end h e shallow few = rw (← e) (read_piece grammar sets ranks pass depth_all (source ts) (deepens ts) (suc (length ts)) 1003 File (wholes ns) 0 end h (omega (arith, shallow, wholes_depth ns)) few)

-- and are read so where they are statements
pub are_read : (ts : List Item) (ns : List Node) → AreStatements ts ns → level ts 1003 File 0 ≡ Some (wholes ns, length ts)
unfolding level
are_read ts ns r = piece_read grammar sets ranks pass depth_all (source ts) (deepens ts) (suc (length ts)) File (wholes ns) 0 (length ts) r refl (omega arith)

-- so they are these statements alone
pub one_whole : (ts : List Item) (ns ms : List Node) (end : ℕ) → AreStatements ts ns → level ts 1003 File 0 ≡ Some (wholes ms, end) → (ns ≡ ms) × (length ts ≡ end)
one_whole ts ns ms end r h = let p : _ = some_pair (wholes ns) (wholes ms) (length ts) end (sym (are_read ts ns r) ∙ h) in (same_wholes ns ms p.0, p.1)

pub not_nothing : (ts : List Item) (ns ms : List Node) → AreStatements ts ns → level ts 1003 File 0 ≡ None → Some ms ≡ None
not_nothing ts ns ms r h = absurd (none_some (wholes ns, length ts) (sym h ∙ are_read ts ns r))

-- no token stands inside too many brackets
pub are_bracketed : (ts : List Item) (ns : List Node) (k : ℕ) → AreStatements ts ns → k < length ts → round_at ts 0 k ≤ 500
unfolding round_at
are_bracketed ts ns k r h = r.few_brackets k (omega arith) h
