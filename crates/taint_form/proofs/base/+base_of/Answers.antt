use Rattle.std.proofs.Common.{◌<◌, sym, ◌∙◌, arith}
use Rattle.node_tree.specs.Numbers.{count_of}
use Rattle.taint_form.proofs.Bases.{base_by, base_out, base_name, kid_smaller}
use Rattle.taint_form.proofs.base.+base_of.Goals as goal

pub base_of-requires : goal.base_of-requires
base_of-requires t c =
    let n = c.args.node.now in
    let less : count_of c.in-Some.kid.now < count_of n = kid_smaller n (sym c.is_name.ensures ∙ c.if-is_name.false) c.in-Some.kid.now c.in-Some.ensures in
    (omega (arith, less, c.decreases), tt)

pub returns-then-is_name : goal.returns-then-is_name
returns-then-is_name t c = base_name c.args.node.now c.as_str.result (sym c.is_name.ensures ∙ c.if-is_name.true) c.as_str.ensures

pub returns-in-None : goal.returns-in-None
returns-in-None t c = base_out c.args.node.now (sym c.is_name.ensures ∙ c.if-is_name.false) c.in-None.ensures

pub returns-in-Some : goal.returns-in-Some
returns-in-Some t c = base_by c.args.node.now (sym c.is_name.ensures ∙ c.if-is_name.false) c.in-Some.kid.now c.base_of.result c.in-Some.ensures c.base_of.ensures
