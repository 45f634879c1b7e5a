use Rattle.std.proofs.Common.{◌⊎◌, ◌≤◌, ◌++◌, ◌∙◌, ap, List, length, inl, inr}
use Rattle.meta_bind.specs.declared.trail.Held.{Held}
use Rattle.meta_bind.specs.Bounds.{seen_held}
use Rattle.meta_bind.proofs.Joins.{all_done, slice_rest}
use Rattle.meta_bind.proofs.join.join.Goals as goal
use Rattle.meta_bind.proofs.join.join.Goals.{then-loop-at-test+else-at-b, else-loop-at-test}

pub returns : goal.returns
returns c =
    let end : (length c.args.a.now ≤ c.loop-at.at.0) ⊎ (length c.args.b.now ≤ c.loop-at.at.1) =
    elim c.loop-at-test.branch [ then-loop-at-test+else-at-b w ↦ inr w.if-at-b.false | else-loop-at-test w ↦ inl w.loop-at-test.false ] in
    all_done c.args.keep seen_held c.args.a.now c.args.b.now c.loop-at.out.items c.extend_from_slice.new.self.items c.extend_from_slice-2.new.self.items c.loop-at.at.0 c.loop-at.at.1 _ end c.loop-at.invariant.first_ascends c.loop-at.invariant.joins
    (c.in_ok-extend_from_slice.ensures.items ∙ ap (λ (xs : List Held). c.loop-at.out.items ++ xs) (slice_rest c.args.a.now c.loop-at.at.0))
    (c.in_ok-extend_from_slice-2.ensures.items ∙ ap (λ (xs : List Held). c.extend_from_slice.new.self.items ++ xs) (slice_rest c.args.b.now c.loop-at.at.1))
