-- What is read of the level File is statements and the end.
use Rattle.std.proofs.Common.{◌≡◌, ℕ, zero, suc, ◌+◌, ◌<◌, List, [], ◌∷◌, ◌++◌, ap, ◌∙◌, add-one, eqb, cond, true, refl, Option, Some, None}
use Rattle.std.proofs.lemmas.List.{append-nil}
use Rattle.node_tree.specs.declared.node.Node.{Node}
use Rattle.grammar.specs.Rule.{has, opt, ref}
use Rattle.grammar.specs.Reader.{◌>>=◌}
use Rattle.py_expr.specs.declared.item.Item.{Item}
use Rattle.py_expr.specs.declared.word.Word.TheVariants as w
use Rattle.py_expr.specs.Words.{class}
use Rattle.py_expr.specs.Build.{token_at}
use Rattle.py_expr.specs.Parts.{Part, wholes}
use Rattle.py_suite.specs.Table.{File, Stmts, table}
use Rattle.py_suite.specs.reader.Reading.{level, row}
use Rattle.py_suite.proofs.Steps.{level_row}

pub file_step : (ts : List Item) (room i : ℕ) → zero < room → level ts room File i ≡ row ts room (table File) i
file_step ts room i h = level_row ts room File i h

-- statements and the end behind them
abbrev closed : List Item → Option (List Part × ℕ) → Option (List Part × ℕ)
closed ts o = ◌>>=◌ {A = List Part × ℕ} {B = List Part × ℕ} o (λ x. ◌>>=◌ {A = List Part × ℕ} {B = List Part × ℕ} (cond (has (class w.End ∷ []) (class (token_at ts x.1).word)) (Some ([], suc x.1)) None) (λ y. Some (x.0 ++ y.0, y.1)))

pub file_read : (ts : List Item) (room i j : ℕ) (ks : List Node) → zero < room → row ts room (opt (ref Stmts)) i ≡ Some (wholes ks, j) → eqb (class w.End) (class (token_at ts j).word) ≡ true → level ts room File i ≡ Some (wholes ks, j + 1)
file_read ts room i j ks h statements mark = rw add-one (level_row ts room File i h ∙ (ap (closed ts) statements ∙ rw (mark, append-nil (wholes ks)) refl))
