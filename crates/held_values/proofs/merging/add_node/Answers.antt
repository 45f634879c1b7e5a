use Rattle.std.proofs.Common.{◌≡◌, List, length, map, sym, ◌∙◌, ap, subst}
use Rattle.graph_form.specs.Sets.{Among}
use Rattle.held_values.specs.declared.assign.Assign.{Assign}
use Rattle.held_values.specs.declared.assign.Source.{Source}
use Rattle.held_values.specs.Holding.{AreInside}
use Rattle.held_values.specs.Merged.{assign_before, put_all}
use Rattle.held_values.proofs.Nodes.{node_added, taken_there}
use Rattle.held_values.proofs.merging.add_node.Goals as goal

pub resolve-requires : goal.resolve-requires
resolve-requires c = let P : List Source → Type 0 = λ s. AreInside (length s) c.args.node.now in subst P (sym c.deref.ensures.value) c.requires

pub put-requires : goal.put-requires
put-requires c assign among =
    let P : List Assign → Type 0 = λ xs. Among xs assign in
    taken_there c.deref.result.now c.args.node.now (length c.args.sources.now.items) c.requires assign (subst P (c.deref-2.ensures.value ∙ c.in_ok-resolve.ensures) among)

pub returns : goal.returns
returns c =
    let old = c.args.sources.now.items in
    let is : c.put.new.sources.items ≡ put_all old (map (assign_before old) c.args.node.now) =
    c.put.ensures ∙ ap (put_all old) (c.deref-2.ensures.value ∙ c.in_ok-resolve.ensures ∙ ap (λ s. map (assign_before s) c.args.node.now) c.deref.ensures.value) in
    node_added old c.put.new.sources.items c.args.node.now c.args.names.now.items c.list_names.new.names.items c.requires is c.in_ok-list_names.ensures
