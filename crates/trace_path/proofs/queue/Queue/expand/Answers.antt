use Rattle.std.proofs.Common.{arith, ap, sym, ◌∙◌, subst, List, ℕ, ◌≡◌, ◌+◌, ◌*◌, take, get_or}
use Rattle.std.proofs.lemmas.List.{take_all}
use Rattle.graph_form.specs.Sets.{Among}
use Rattle.graph_form.proofs.Amongs.{among_at, among_more}
use Rattle.flow_reach.specs.Bits.{stride_of}
use Rattle.trace_path.specs.Queue.{Stands}
use Rattle.trace_path.proofs.Lengthen.{DoneBy, stepped, step_leaves, step_grows, grows_self, step_room, taken_up, stands_begins, stands_ends}
use Rattle.trace_path.proofs.queue.Queue.expand.Goals as goal

pub loop-point-init : goal.loop-point-init
loop-point-init c = record {
  stands = stands_begins c.args.graph.now c.args.moves.now c.args.head (Among (take 0 c.args.next.now)) c.args.self.now (λ q n. n) c.requires.stands;
  leaves = c.requires.leaves;
  grows = grows_self c.args.self.now;
}

pub lengthen-requires-clause-room : goal.lengthen-requires-clause-room
lengthen-requires-clause-room c fact among =
    let i = c.loop-point.invariant in
    let point = get_or c.args.next.now c.loop-point.point-index 0 in
    let edge = (i.leaves.forth point).0 (among_at c.args.next.now c.loop-point.point-index 0 c.loop-point-test.true) in
    let is : point * c.stride-stride.result ≡ point * stride_of c.args.moves.now.facts = ap (λ s. point * s) c.stride-stride.ensures in
    step_room c.args.graph.now c.args.moves.now c.requires.fits c.args.head point (point * c.stride-stride.result) _ c.args.turned.now c.args.next.now _ _ is i.stands.paths i.leaves edge fact among

pub loop-point-preserved : goal.loop-point-preserved
loop-point-preserved c =
    let i = c.loop-point.invariant in
    let point = get_or c.args.next.now c.loop-point.point-index 0 in
    let edge = (i.leaves.forth point).0 (among_at c.args.next.now c.loop-point.point-index 0 c.loop-point-test.true) in
    let is : point * c.stride-stride.result ≡ point * stride_of c.args.moves.now.facts = ap (λ s. point * s) c.stride-stride.ensures in
    let more = among_more c.args.next.now c.loop-point.point-index 0 c.loop-point-test.true in
    let upto = taken_up c.args.next.now c.loop-point.point-index c.requires.ascends c.loop-point-test.true in
    record {
      stands = stepped c.args.graph.now c.args.moves.now c.requires.fits c.args.head point (point * c.stride-stride.result) is (Among (take c.loop-point.point-index c.args.next.now)) (Among (take (c.loop-point.point-index + 1) c.args.next.now)) more upto c.loop-point.self c.lengthen.new.self c.args.turned.now c.args.next.now i.stands i.leaves edge c.in_ok-lengthen.ensures;
      leaves = step_leaves c.args.graph.now c.args.moves.now c.requires.fits c.args.head point (point * c.stride-stride.result) is (Among (take c.loop-point.point-index c.args.next.now)) (Among (take (c.loop-point.point-index + 1) c.args.next.now)) more upto c.loop-point.self c.lengthen.new.self c.args.turned.now c.args.next.now i.stands i.leaves edge c.in_ok-lengthen.ensures;
      grows = step_grows _ _ _ _ _ _ _ i.grows c.in_ok-lengthen.ensures;
    }

pub returns-clause-stands : goal.returns-clause-stands
returns-clause-stands c =
    let i = c.loop-point.invariant in
    let whole : take c.loop-point.point-index c.args.next.now ≡ c.args.next.now = take_all c.loop-point.point-index c.args.next.now c.loop-point-test.false in
    let P : List ℕ → Type 0 = λ ns. Stands c.args.graph.now c.args.moves.now c.args.head (DoneBy c.args.head (Among ns)) c.loop-point.self in
    stands_ends c.args.graph.now c.args.moves.now c.args.head c.loop-point.self c.args.next.now c.args.turned.now i.leaves (subst P whole i.stands)
