use Rattle.std.proofs.Common.{◌≡◌, rules, ◌∙◌, Some}
use Rattle.std.specs.Prelude.{FitsSigned}
use Rattle.std.proofs.lemmas.Int.{to_z-of_z}
use mir.Syntax.{w128}
use Rattle.meta_filter.specs.Values.{value_of}
use Rattle.meta_filter.proofs.Layers.{arith_here}
use Rattle.meta_filter.proofs.holds.+value_of.Goals as goal

pub returns-in_ok-y-in-Arith : goal.returns-in_ok-y-in-Arith
returns-in_ok-y-in-Arith t c =
    let x = c.in_ok-x-in-Arith.x in
    let y = c.in_ok-y-in-Arith.y in
    let fx : FitsSigned w128 x = search rules in
    let fy : FitsSigned w128 y = search rules in
    let left : value_of c.args.binding.now c.args.bytes.now c.in-Arith.left ≡ Some x = search rules in
    let right : value_of c.args.binding.now c.args.bytes.now c.in-Arith.right ≡ Some y = search rules in
    (rw (to_z-of_z w128 x fx, to_z-of_z w128 y fy) at c.computed.ensures) ∙ arith_here c.args.binding.now c.args.bytes.now c.args.amount.now c.in-Arith.left c.in-Arith.right c.in-Arith.op x y c.in-Arith.is left right
