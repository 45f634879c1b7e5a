use Rattle.std.proofs.Common.{◌≡◌, List, length, get_or, ap, subst, arith}
use Rattle.node_tree.specs.declared.node.Node.{Node}
use Rattle.node_search.proofs.Counted.{count_kid}
use Rattle.tree_match.proofs.KeyLaws.{key_name, key_inside, on_found, on_some}
use Rattle.tree_match.proofs.key.+key_of.Goals as goal

pub returns-then-is_that_name : goal.returns-then-is_that_name
returns-then-is_that_name t c =
    let is = c.if-is_that_name.true in
    key_name c.args.holder c.args.pattern.now c.args.name.now c.args.node.now (c.is_that_name.ensures.role is) (c.is_that_name.ensures.named is) (c.is_that_name.ensures.same is)

pub key_of-requires : goal.key_of-requires
key_of-requires t c =
    let fewer = count_kid c.args.node.now c.as_slice.result.now c.in-Some.at c.index-as_slice-at.result c.as_slice.ensures (omega (arith, c.if-len-at.false, c.len.ensures, ap length c.as_slice.ensures)) c.index-as_slice-at.is in
    (omega (arith, fewer, c.requires), tt)

pub returns : goal.returns
returns t c =
    let p = c.args.pattern.now in
    let n = c.args.node.now in
    let kid = c.index-as_slice-at.result in
    let P : List Node → Type 0 = λ kids. kid ≡ get_or kids c.in-Some.at kid in
    let found = c.in_ok-at.ensures in
    on_found c.in_ok-found.found _ _
    (λ key. key_inside c.args.holder p c.args.name.now n c.in-Some.at c.in-Some.part.now kid key.now (c.is_in_order.ensures c.if-not-is_in_order.false) (on_some _ _ _ c.in-Some.is found.before) (on_some _ _ _ c.in-Some.is found.one) (on_some _ _ _ c.in-Some.is found.part) (omega (arith, c.if-len-at.false, c.len.ensures)) (subst P c.as_slice.ensures c.index-as_slice-at.is)) c.in_ok-found.ensures
