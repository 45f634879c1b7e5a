use Rattle.std.proofs.Common.{◌≡◌, ◌↔◌, inl, inr, ℕ, List, ap, sym, subst, ◌∙◌}
use Rattle.graph_form.specs.Sets.{Among}
use Rattle.point_nodes.specs.Tops.{nodes_of}
use Rattle.assignments.specs.Assignments.{assigned_of}
use Rattle.assignments.specs.Seen.{Assigned, all_assignments}
use Rattle.taint_form.specs.Origins.{Comes}
use Rattle.taint_tables.specs.declared.sets.Carry.{Carry}
use Rattle.taint_plan.specs.Facts.{AfterFacts, CarriesFact, Same}
use Rattle.taint_tables.specs.Numbers.{numbers_of}
use Rattle.taint_plan.proofs.rows.row.Goals as goal

pub returns : goal.returns
returns c spans holds from to =
    let numbers = numbers_of c.args.look.census.now in
    let list : all_assignments c.as_slice.result.now ≡ assigned_of c.args.tree.now c.args.point = ap all_assignments c.as_slice.ensures ∙ c.in_ok-list.ensures in
    let A : List Assigned → Type 0 = λ xs. Comes c.in_ok-origins.origins from to ↔ AfterFacts spans numbers Same xs from to in
    let R : List (ℕ × ℕ) → Type 0 = λ ps. Among ps (from, to) ↔ ((k : Carry) × Among c.args.carries.now k × CarriesFact spans numbers (nodes_of c.args.tree.now c.args.point) k from to) in
    let a = subst A list (c.in_ok-origins.ensures.after spans holds from to) in
    let p = subst R (sym c.deref.ensures.value) (c.in_ok-pairs.ensures spans holds from to) in
    let r = c.in_ok-row.ensures from to in (
      λ h. elim (r.0 h) [ inl x ↦ inl (a.0 x) | inr y ↦ inr (p.0 y) ],
      λ h. r.1 (elim h [ inl x ↦ inl (a.1 x) | inr y ↦ inr (p.1 y) ]),
    )
