use Rattle.std.proofs.Common.{◌≡◌, ◌+◌, ◌-◌, take, drop, ap, ◌∙◌, arith}
use Rattle.node_pool.specs.Spots.{seen, all_seen}
use Rattle.point_nodes.proofs.Parts.{part_seen}
use Rattle.assignments.proofs.parts.part.Goals as goal

pub returns-then-place-nodes : goal.returns-then-place-nodes
returns-then-place-nodes c =
    let place = c.args.place in
    let one : place + 1 - place ≡ 1 = omega arith in
    ap (λ n. all_seen (take n (drop place c.args.nodes.now))) one ∙ part_seen seen place c.args.nodes.now
