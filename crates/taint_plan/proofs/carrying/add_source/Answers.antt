use Rattle.std.proofs.Common.{◌↔◌, ℕ, List, subst, sym}
use Rattle.graph_form.specs.Sets.{Among}
use Rattle.node_pool.specs.Spots.{seen}
use Rattle.taint_tables.specs.Taints.{Taints}
use Rattle.taint_tables.specs.Numbers.{numbers_of}
use Rattle.taint_plan.specs.RowFacts.{HasRange, TaintsHere}
use Rattle.taint_tables.proofs.FactLists.{pushed_same}
use Rattle.taint_plan.proofs.carrying.add_source.Goals as goal

pub returns : goal.returns
returns c spans holds =
    let numbers = numbers_of c.args.look.census.now in
    let s = seen c.args.spot in
    let has : HasRange c.args.range s = c.is_expression_at.ensures.0 c.if-not-is_expression_at.false in
    let P : List ℕ → Type 0 = λ xs. (f : ℕ) → Among xs f ↔ Taints spans numbers s.node f in
    let facts = subst P (sym c.deref.ensures.value) (c.in_ok-facts.ensures spans holds) in
    pushed_same (Among c.deref.result.now) (TaintsHere spans numbers c.args.range s) c.args.into.now.items c.push_all.new.into.items (λ f. (λ a. (has, (facts f).0 a), λ h. (facts f).1 h.1)) c.in_ok-push_all.ensures
