use Rattle.std.proofs.Common.{◌≡◌, ◌++◌, ap, ◌∙◌}
use Rattle.taint_tables.specs.Numbers.{numbers_of}
use Rattle.taint_form.specs.Expressions.{exposed, nodes_now}
use Rattle.taint_tables.proofs.FactLists.{exposed_taint}
use Rattle.taint_tables.proofs.facts.Look.facts.Goals as goal

pub returns : goal.returns
returns c spans holds =
    let shown : nodes_now c.as_slice.result.now ≡ exposed spans c.args.node.now =
    ap nodes_now c.as_slice.ensures ∙ c.in_ok-add_exposed.ensures spans holds ∙ ap (λ xs. nodes_now xs ++ exposed spans c.args.node.now) c.new-shown.ensures in
    exposed_taint (numbers_of c.args.self.census.now) spans c.args.node.now (nodes_now c.as_slice.result.now) c.in_ok-facts.facts.items c.in_ok-facts-2.facts.items shown c.in_ok-facts.ensures c.in_ok-facts-2.ensures
