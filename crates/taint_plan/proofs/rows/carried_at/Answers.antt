use Rattle.std.proofs.Common.{◌≡◌, ◌↔◌, ℕ, List, [], ap, ◌∙◌, subst}
use Rattle.std.specs.Prelude.{IfOk}
use Rattle.node_tree.specs.Numbers.{Numbered}
use Rattle.node_pool.specs.Spots.{all_seen}
use Rattle.graph_form.specs.Sets.{Among}
use Rattle.point_nodes.specs.Tops.{nodes_of}
use Rattle.taint_tables.specs.declared.sets.Carry.{Carry}
use Rattle.taint_plan.specs.Facts.{CarriesFact}
use Rattle.taint_tables.specs.Numbers.{numbers_of}
use Rattle.taint_plan.proofs.rows.carried_at.Goals as goal

pub returns-then-is_empty : goal.returns-then-is_empty
returns-then-is_empty c spans holds from to =
    let none = c.is_empty.ensures c.if-is_empty.true in
    let P : List (ℕ × ℕ) → Type 0 = λ ps. Among ps (from, to) in (
      λ h. absurd (subst P c.new.ensures.items h),
      λ (k, among, carries). absurd (let Q : List Carry → Type 0 = λ ks. Among ks k in subst Q none among),
    )

pub returns : goal.returns
returns c spans holds =
    let numbers = numbers_of c.args.look.census.now in
    let nodes : all_seen c.as_slice.result.now ≡ nodes_of c.args.tree.now c.args.point = ap all_seen c.as_slice.ensures ∙ c.in_ok-spots.ensures in
    let N : List Numbered → Type 0 = λ ns. IfOk c.carried.result (λ pairs. (from to : ℕ) → Among pairs.items (from, to) ↔ ((k : Carry) × Among c.args.carries.now k × CarriesFact spans numbers ns k from to)) in
    subst N nodes (c.carried.ensures spans holds)
