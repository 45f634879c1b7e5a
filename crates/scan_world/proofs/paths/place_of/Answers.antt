use Rattle.std.proofs.Common.{◌<◌, ◌+◌, ◌-◌, ◌/◌, length, ◌∙◌, sym, ap, arith}
use Rattle.std.specs.Ordering.{nat_cmp, ordering_reverse}
use Rattle.node_tree.proofs.Orders.{nat_order, lists_order}
use Rattle.scan_world.specs.Files.{path_cmp}
use Rattle.scan_world.proofs.Ascents.{above_at, place_between, contains_at}
use Rattle.scan_world.proofs.paths.place_of.Goals as goal

pub loop-low-preserved-in-Greater : goal.loop-low-preserved-in-Greater
loop-low-preserved-in-Greater c =
    let path = c.args.path.now in
    let item = c.index-paths-middle.result in
    let order = sym (c.cmp.ensures ∙ ap (path_cmp path) c.as_str.ensures) ∙ c.in-Greater.is in
    let less = (lists_order nat_cmp nat_order).flip item path ∙ ap ordering_reverse order in
    let lt : c.loop-low.low + (c.loop-low.high - c.loop-low.low) / 2 < length c.args.paths.now = omega (arith, c.loop-low.invariant.within) in
    record {
      ordered = omega arith;
      within = c.loop-low.invariant.within;
      above = above_at c.args.paths.now path item _ lt c.index-paths-middle.is less;
      below = c.loop-low.invariant.below;
    }

pub returns-in-Equal : goal.returns-in-Equal
returns-in-Equal c =
    let path = c.args.path.now in
    let item = c.index-paths-middle.result in
    let lt : c.loop-low.low + (c.loop-low.high - c.loop-low.low) / 2 < length c.args.paths.now = omega (arith, c.loop-low.invariant.within) in
    contains_at c.args.paths.now _ path item lt c.index-paths-middle.is
    ((lists_order nat_cmp nat_order).same path item (sym (c.cmp.ensures ∙ ap (path_cmp path) c.as_str.ensures) ∙ c.in-Equal.is))

pub returns : goal.returns
returns c =
    let i = c.loop-low.invariant in
    place_between c.args.paths.now c.args.path.now c.loop-low.low c.loop-low.high c.requires i.ordered c.loop-low-test.false i.within i.above i.below
