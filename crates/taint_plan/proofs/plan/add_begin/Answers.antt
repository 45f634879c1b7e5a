use Rattle.std.proofs.Common.{◌↔◌, ◌⊎◌, ℕ, List, refl, sym, subst, arith}
use Rattle.std.proofs.lemmas.Option.{slice_get_read}
use Rattle.node_tree.specs.Tree.{span_of}
use Rattle.node_pool.specs.Spots.{seen}
use Rattle.graph_form.specs.Sets.{Among}
use Rattle.taint_tables.specs.Taints.{IsFactOf}
use Rattle.taint_tables.specs.Numbers.{numbers_of}
use Rattle.taint_plan.proofs.PlanLists.{begins_here, source_below}
use Rattle.taint_plan.proofs.plan.add_begin.Goals as goal

pub index_mut-requires : goal.index_mut-requires
index_mut-requires c = omega (arith, source_below c.args.look.census.now c.requires.numbered (span_of c.args.spot.node.now) c.in-Some.source (sym c.in-Some.ensures), c.requires.size)

pub returns-clause-added : goal.returns-clause-added
returns-clause-added c source fact =
    let numbers = numbers_of c.args.look.census.now in
    let begins = c.args.begins.now.items in
    let i = c.in-Some.source in
    let row = c.index_mut.result.now in
    let lt = source_below c.args.look.census.now c.requires.numbered (span_of c.args.spot.node.now) i (sym c.in-Some.ensures) in
    let P : List ℕ → Type 0 = λ t. (x : ℕ) → Among c.add_fact.new.into.items x ↔ (Among row.items x ⊎ IsFactOf numbers t x) in
    begins_here numbers (seen c.args.spot) begins i row c.add_fact.new.into (sym c.in-Some.ensures) (slice_get_read begins _ i row refl (omega (arith, lt, c.requires.size)) c.index_mut.ensures.value) (subst P c.as_str.ensures c.in_ok-add_fact.ensures) source fact
