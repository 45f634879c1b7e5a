use Rattle.std.proofs.Common.{List, ap, sym, ◌∙◌}
use Rattle.std.specs.Prelude.{Vec, Some}
use Rattle.std.specs.Option.{option_copied}
use Rattle.std.specs.declared.alloc.Global.{Global}
use Rattle.meta_bind.specs.declared.bound.Bound.{Bound}
use Rattle.tree_match.specs.Members.{Member}
use Rattle.range_algebra.proofs.LeafSets.{take_more, take_past}
use Rattle.range_algebra.proofs.leaf.borrowed.Goals as goal
use Rattle.range_algebra.proofs.leaf.borrowed.Goals.{in-Some+in_ok-of+in_ok-push, in_default}

pub loop-at-preserved : goal.loop-at-preserved
loop-at-preserved c = elim c.match-get.branch [
  | in-Some+in_ok-of+in_ok-push w ↦
      let there = sym c.get.ensures ∙ ap option_copied w.in-Some.is ∙ ap (λ (b : List Bound). Some (w.in-Some.field-0.now.0, b)) (sym w.in_ok-of.ensures) in
      ap (λ (v : Vec Member Global). v.items) w.members-is ∙ take_more _ _ _ _ _ c.loop-at.invariant there w.in_ok-push.ensures.items
  | in_default w ↦ absurd (take_past _ _ _ (sym c.get.ensures ∙ ap option_copied w.in_default.is) c.loop-at-test.true c.len-at-end.ensures)
]
