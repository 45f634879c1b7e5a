use Rattle.std.proofs.Common.{◌≡◌, ◌+◌, ◌-◌, rules}
use Rattle.store_file.proofs.Forests.{left_first, left_more}
use Rattle.store_file.proofs.codes.move_tree.Goals as goal

pub loop-nodes-init : goal.loop-nodes-init
loop-nodes-init c = λ n r e. left_first c.args.code.now.rest.now c.args.out.now n r e

pub loop-nodes-preserved : goal.loop-nodes-preserved
loop-nodes-preserved c = λ n r e.
    let sum : c.in-Some.more ≡ c.loop-nodes.nodes - 1 + c.in_ok-kids.kids = search rules in
    left_more c.args.code.now.rest.now c.args.out.now c.loop-nodes.nodes c.loop-nodes.code.rest.now c.loop-nodes.out n r (c.loop-nodes.invariant n r e) (search rules) c.in_ok-kids.kids c.in-Some.more c.move_head.new.code.rest.now c.move_head.new.out c.in_ok-kids.ensures.moved sum
