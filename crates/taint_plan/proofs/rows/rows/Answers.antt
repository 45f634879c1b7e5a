use Rattle.std.proofs.Common.{◌≡◌, ◌↔◌, inl, inr, ℕ, List, length, get_or, Some, ap, subst, ◌∙◌, arith, length-append}
use Rattle.std.specs.Prelude.{slice_get}
use Rattle.std.proofs.lemmas.Option.{get_or_from_slice_get}
use Rattle.graph_form.specs.declared.graph.Point.{Point}
use Rattle.graph_form.specs.declared.graph.Role.TheVariants.{Entry}
use Rattle.flow_reach.specs.declared.moves.Move.{Move}
use Rattle.flow_reach.specs.Carried.{TurnsBy}
use Rattle.flow_reach.proofs.Sorted.{got_push}
use Rattle.taint_plan.specs.Facts.{PointFactOf}
use Rattle.taint_tables.specs.Numbers.{numbers_of}
use Rattle.taint_plan.proofs.rows.rows.Goals as goal

abbrev none : Point
none = record { node = 0; role = Entry }

pub loop-point-preserved : goal.loop-point-preserved
loop-point-preserved c =
    let points = c.args.points.now in
    let i = c.loop-point.point-index in
    let old = c.loop-point.rows in
    let made = c.in_ok-row.field-0 in
    let inv = c.loop-point.invariant in
    record {
      size = omega (arith, inv.size, ap length c.in_ok-push.ensures.ok, length-append {A = Move});
      each = λ spans holds k p row at got from to.
          let G : List Move → Type 0 = λ rs. slice_get rs k ≡ Some row in
          elim (got_push old made k row (subst G c.in_ok-push.ensures.ok got)) [
            | inl o ↦ inv.each spans holds k p row at o from to
            | inr (e, is) ↦
                let K : ℕ → Type 0 = λ n. slice_get points n ≡ Some p in
                let read : get_or points i none ≡ p = get_or_from_slice_get points i p none (subst K (e ∙ inv.size) at) in
                let P : Point → Type 0 = λ q. TurnsBy made from to ↔ PointFactOf c.args.tree.now spans c.args.carries.now (numbers_of c.args.look.census.now) q from to in
                let R : Move → Type 0 = λ r. TurnsBy r from to ↔ PointFactOf c.args.tree.now spans c.args.carries.now (numbers_of c.args.look.census.now) p from to in
                subst R is (subst P read (c.in_ok-row.ensures spans holds from to))
          ];
    }
