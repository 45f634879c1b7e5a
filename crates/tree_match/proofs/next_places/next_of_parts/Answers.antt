use Rattle.std.proofs.Common.{◌∷◌, [], ap, length, length-append, arith}
use Rattle.node_pool.specs.Spots.{seen}
use Rattle.node_match.specs.Free.{parts_of}
use Rattle.tree_match.proofs.Landing.{next_more}
use Rattle.tree_match.proofs.next_places.next_of_parts.Goals as goal

pub loop-at-preserved : goal.loop-at-preserved
loop-at-preserved c =
    let inv = c.loop-at.invariant in
    record {
      next = next_more (seen c.args.holder) (parts_of c.args.pattern.now) c.loop-at.all c.push.new.self c.in_ok-next.next c.loop-at.at inv.next inv.many c.in_ok-push.ensures.ok c.in_ok-next.ensures;
      many = omega (arith, inv.many, ap length c.in_ok-push.ensures.ok, length-append c.loop-at.all (c.in_ok-next.next ∷ []));
    }
