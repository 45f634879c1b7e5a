use Rattle.std.proofs.Common.{rules, ◌≡◌, [], ◌∷◌, length, arith}
use Rattle.node_tree.specs.declared.kind.Kind.TheVariants as k
use Rattle.node_tree.specs.Tree.{kind_of, kids_of}
use Rattle.py_stmt.proofs.Patterns as patterns
use Rattle.py_stmt.proofs.pattern.is_expression.Goals as goal

pub returns : goal.returns
returns c =
    let one : c.args.statements.now ≡ c.statement-item.result ∷ [] = patterns.one_item c.args.statements.now c.statement-item.result c.in-len1.len_at_least c.in-len1.len_below c.statement-item.is in
    let kind : kind_of c.statement-item.result ≡ k.ExprStmt = search (rules, c.ne.ensures, c.if-ne.false) in (
      λ h. (let few : length (kids_of c.statement-item.result) ≡ 1 = grind (arith, h, c.len.ensures) in patterns.is_expression c.args.statements.now c.statement-item.result one kind few),
      λ r. (let few : length (kids_of c.statement-item.result) ≡ 1 = patterns.has_one_kid c.args.statements.now c.statement-item.result r.0 one r.1 in grind (arith, few, c.len.ensures)),
    )
