use Rattle.std.proofs.Common.{◌↔◌, List, ◌+◌, take, subst}
use Rattle.std.specs.Borrow.{Bor}
use Rattle.std.proofs.lemmas.List.{take_all}
use Rattle.node_tree.specs.declared.node.Node.{Node}
use Rattle.graph_form.specs.Sets.{Among}
use Rattle.taint_form.specs.Expressions.{nodes_now}
use Rattle.taint_tables.specs.Taints.{DenotesAny}
use Rattle.taint_tables.specs.Numbers.{numbers_of}
use Rattle.taint_tables.proofs.FactLists.{denoted_more, lent_more}
use Rattle.taint_tables.proofs.facts.Look.facts_of.Goals as goal

pub returns : goal.returns
returns c fact =
    let P : List (Bor Node) → Type 0 = λ xs. Among c.loop-one.facts.items fact ↔ DenotesAny (numbers_of c.args.self.census.now) (nodes_now xs) fact in
    subst P (take_all c.loop-one.one-index c.args.nodes.now c.loop-one-test.false) (c.loop-one.invariant fact)

pub loop-one-preserved : goal.loop-one-preserved
loop-one-preserved c =
    let xs = c.args.nodes.now in
    let i = c.loop-one.one-index in
    denoted_more (numbers_of c.args.self.census.now) (nodes_now (take i xs)) (nodes_now (take (i + 1) xs)) c.one-item.result.now c.loop-one.facts.items c.add_facts.new.into.items (lent_more xs i c.one-item.result c.loop-one-test.true c.one-item.is)
    c.loop-one.invariant c.in_ok-add_facts.ensures
