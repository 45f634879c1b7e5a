use Rattle.std.proofs.Common.{refl, arith, inl, inr, subst, sym, ap, ◌∙◌, ◌↔◌, List, ℕ, ◌≡◌, ◌<◌, ◌≤◌, ◌+◌, ◌*◌, length, get_or, mul_comm}
use Rattle.std.proofs.lemmas.Bool.{cases_eq}
use Rattle.std.proofs.lemmas.Nat.{mul-add-lt}
use Rattle.std.proofs.lemmas.Option.{slice_get_read}
use Rattle.graph_form.specs.Sets.{Among}
use Rattle.flow_reach.specs.Bits.{stride_of}
use Rattle.flow_reach.proofs.Closing.{facts_fit}
use Rattle.trace_path.specs.Queue.{Group, IsAt, IsFirst, Meets, Turned, groups, group_of}
use Rattle.trace_path.proofs.Counts.{missing_small}
use Rattle.trace_path.proofs.Least.{no_trace, least, descends}
use Rattle.trace_path.proofs.Lengthen.{at_one, first_stands, as_many}
use Rattle.trace_path.proofs.Members.{class_room, leaves_of, meets_read}
use Rattle.trace_path.proofs.Places.{group_read}
use Rattle.trace_path.proofs.search.find.Goals as goal

pub numbers-requires-clause-room : goal.numbers-requires-clause-room
numbers-requires-clause-room c k at =
    let stride = stride_of c.args.moves.now.facts in
    let there = c.requires.goals at.0.0 at.0.1 at.1 in
    let lt = mul-add-lt at.0.0 stride at.0.1 (length c.args.graph.now.points) there.0 (facts_fit c.args.moves.now.facts at.0.1 there.1) in
    omega (arith, lt, at.2, ap (λ s. at.0.0 * s) c.stride-stride.ensures, c.requires.ready.room, mul_comm stride (length c.args.graph.now.points), c.len-words.ensures)

pub new-requires-clause-room : goal.new-requires-clause-room
new-requires-clause-room c fact among =
    let stride = stride_of c.args.moves.now.facts in
    let P : List ℕ → Type 0 = λ fs. Among fs fact in
    let small = c.requires.fits.start fact (subst P c.as_slice.ensures among) in
    let lt = mul-add-lt 0 stride fact (length c.args.graph.now.points) c.requires.fits.entry (facts_fit c.args.moves.now.facts fact small) in
    omega (arith, lt, c.requires.ready.room, mul_comm stride (length c.args.graph.now.points), c.len-words.ensures)

pub loop-head-init : goal.loop-head-init
loop-head-init c =
    let F : List ℕ → Type 0 = λ fs. IsFirst c.len-words.result fs c.in_ok-queue.queue in
    let first = subst F c.as_slice.ensures c.in_ok-queue.ensures in
    let few : c.len-words.result ≤ 50000000 = omega (arith, c.len-words.ensures, c.requires.ready.few) in
    record {
      stands = first_stands c.args.graph.now c.args.moves.now c.requires.fits c.len-words.result c.in_ok-queue.queue few (omega (arith, c.requires.ready.room, c.len-words.ensures)) first;
      unmet = λ i x at lt. absurd (omega (arith, lt));
      few = omega (arith, first.finds.less, missing_small first.old, first.room, few, as_many c.in_ok-queue.queue, ap length first.all);
      inside = omega arith;
    }

pub meets-requires-clause-small : goal.meets-requires-clause-small
meets-requires-clause-small c = omega (arith, c.deref.ensures.len, c.in_ok-wanted.ensures.room, c.len-words.ensures, c.requires.ready.few)

pub meets-requires-clause-room : goal.meets-requires-clause-room
meets-requires-clause-room c fact among =
    let d = c.index.result.now in
    let lt : c.loop-head.head < length c.loop-head.queue.classes.items = omega (arith, c.loop-head-test.true, c.len.ensures) in
    let here = slice_get_read c.loop-head.queue.classes.items _ c.loop-head.head d refl lt c.index.ensures in
    let at = group_read c.loop-head.queue c.loop-head.head d here in
    let paths = c.loop-head.invariant.stands.paths in
    let P : List ℕ → Type 0 = λ fs. Among fs fact in
    let room = class_room c.args.graph.now c.args.moves.now c.loop-head.head _ (groups c.loop-head.queue) _ paths c.loop-head.head (group_of c.loop-head.queue.facts.items d) at fact (subst P (c.facts_of.ensures d here) among) in
    omega (arith, room, ap (λ s. d.point * s) c.stride-stride.ensures, paths.room, c.requires.ready.room, c.deref.ensures.len, c.in_ok-wanted.ensures.room, c.len-words.ensures)

pub turn_all-requires-clause-point : goal.turn_all-requires-clause-point
turn_all-requires-clause-point c =
    let d = c.index.result.now in
    let lt : c.loop-head.head < length c.loop-head.queue.classes.items = omega (arith, c.loop-head-test.true, c.len.ensures) in
    let here = slice_get_read c.loop-head.queue.classes.items _ c.loop-head.head d refl lt c.index.ensures in
    (c.loop-head.invariant.stands.paths.inside c.loop-head.head (group_of c.loop-head.queue.facts.items d) (group_read c.loop-head.queue c.loop-head.head d here)).0

pub turn_all-requires-clause-facts : goal.turn_all-requires-clause-facts
turn_all-requires-clause-facts c fact among =
    let d = c.index.result.now in
    let lt : c.loop-head.head < length c.loop-head.queue.classes.items = omega (arith, c.loop-head-test.true, c.len.ensures) in
    let here = slice_get_read c.loop-head.queue.classes.items _ c.loop-head.head d refl lt c.index.ensures in
    let P : List ℕ → Type 0 = λ fs. Among fs fact in
    (c.loop-head.invariant.stands.paths.inside c.loop-head.head (group_of c.loop-head.queue.facts.items d) (group_read c.loop-head.queue c.loop-head.head d here)).1 fact (subst P (c.facts_of-in-loop-head.ensures d here) among)

pub walk-requires-clause-descends : goal.walk-requires-clause-descends
walk-requires-clause-descends c = descends c.args.graph.now c.args.moves.now c.loop-head.head _ (groups c.loop-head.queue) _ c.loop-head.invariant.stands.paths

pub bounds-next-point : goal.bounds-next-point
bounds-next-point c =
    let d = c.index.result.now in
    let lt : c.loop-head.head < length c.loop-head.queue.classes.items = omega (arith, c.loop-head-test.true, c.len.ensures) in
    let here = slice_get_read c.loop-head.queue.classes.items _ c.loop-head.head d refl lt c.index.ensures in
    let there = (c.loop-head.invariant.stands.paths.inside c.loop-head.head (group_of c.loop-head.queue.facts.items d) (group_read c.loop-head.queue c.loop-head.head d here)).0 in
    omega (arith, there, c.requires.next.size)

pub expand-requires-clause-leaves : goal.expand-requires-clause-leaves
expand-requires-clause-leaves c =
    let d = c.index.result.now in
    let lt : c.loop-head.head < length c.loop-head.queue.classes.items = omega (arith, c.loop-head-test.true, c.len.ensures) in
    let here = slice_get_read c.loop-head.queue.classes.items _ c.loop-head.head d refl lt c.index.ensures in
    let at = group_read c.loop-head.queue c.loop-head.head d here in
    let there = (c.loop-head.invariant.stands.paths.inside c.loop-head.head (group_of c.loop-head.queue.facts.items d) at).0 in
    let T : List ℕ → Type 0 = λ ts. (g : ℕ) → Among ts g ↔ Turned c.args.moves.now d.point c.facts_of-in-loop-head.result.now g in
    (leaves_of c.args.graph.now c.args.moves.now (groups c.loop-head.queue) c.loop-head.head (group_of c.loop-head.queue.facts.items d) c.args.next.now c.index-next-point.result c.deref-in-loop-head.result.now c.deref-in-loop-head-2.result.now c.facts_of-in-loop-head.result.now c.requires.next at there c.index-next-point.is c.deref-in-loop-head.ensures.value (c.facts_of-in-loop-head.ensures d here) (subst T (sym c.deref-in-loop-head-2.ensures.value) c.in_ok-turn_all.ensures)).0

pub expand-requires-clause-ascends : goal.expand-requires-clause-ascends
expand-requires-clause-ascends c =
    let d = c.index.result.now in
    let lt : c.loop-head.head < length c.loop-head.queue.classes.items = omega (arith, c.loop-head-test.true, c.len.ensures) in
    let here = slice_get_read c.loop-head.queue.classes.items _ c.loop-head.head d refl lt c.index.ensures in
    let at = group_read c.loop-head.queue c.loop-head.head d here in
    let there = (c.loop-head.invariant.stands.paths.inside c.loop-head.head (group_of c.loop-head.queue.facts.items d) at).0 in
    let T : List ℕ → Type 0 = λ ts. (g : ℕ) → Among ts g ↔ Turned c.args.moves.now d.point c.facts_of-in-loop-head.result.now g in
    (leaves_of c.args.graph.now c.args.moves.now (groups c.loop-head.queue) c.loop-head.head (group_of c.loop-head.queue.facts.items d) c.args.next.now c.index-next-point.result c.deref-in-loop-head.result.now c.deref-in-loop-head-2.result.now c.facts_of-in-loop-head.result.now c.requires.next at there c.index-next-point.is c.deref-in-loop-head.ensures.value (c.facts_of-in-loop-head.ensures d here) (subst T (sym c.deref-in-loop-head-2.ensures.value) c.in_ok-turn_all.ensures)).1

pub returns-then-meets : goal.returns-then-meets
returns-then-meets c =
    let d = c.index.result.now in
    let lt : c.loop-head.head < length c.loop-head.queue.classes.items = omega (arith, c.loop-head-test.true, c.len.ensures) in
    let here = slice_get_read c.loop-head.queue.classes.items _ c.loop-head.head d refl lt c.index.ensures in
    let at = group_read c.loop-head.queue c.loop-head.head d here in
    let i = c.loop-head.invariant in
    let m = meets_read c.args.graph.now c.args.moves.now c.loop-head.head _ (groups c.loop-head.queue) _ i.stands.paths c.args.goals.now c.requires.goals c.loop-head.head (group_of c.loop-head.queue.facts.items d) at c.stride-stride.result c.in_ok-wanted.wanted.items c.deref.result.now c.facts_of.result.now c.stride-stride.ensures c.deref.ensures.value (c.facts_of.ensures d here) c.in_ok-wanted.ensures.has in
    let r = c.in_ok-points.ensures in
    least c.args.graph.now c.args.moves.now c.loop-head.head (groups c.loop-head.queue) c.loop-head.queue.seen.items i.stands.paths c.args.goals.now i.unmet (group_of c.loop-head.queue.facts.items d) r.0 c.in_ok-points.points at (m.0 (c.meets.ensures.0 c.if-meets.true)) r.1 r.2

pub loop-head-preserved : goal.loop-head-preserved
loop-head-preserved c =
    let d = c.index.result.now in
    let lt : c.loop-head.head < length c.loop-head.queue.classes.items = omega (arith, c.loop-head-test.true, c.len.ensures) in
    let here = slice_get_read c.loop-head.queue.classes.items _ c.loop-head.head d refl lt c.index.ensures in
    let g = group_of c.loop-head.queue.facts.items d in
    let at = group_read c.loop-head.queue c.loop-head.head d here in
    let i = c.loop-head.invariant in
    let m = meets_read c.args.graph.now c.args.moves.now c.loop-head.head _ (groups c.loop-head.queue) _ i.stands.paths c.args.goals.now c.requires.goals c.loop-head.head g at c.stride-stride.result c.in_ok-wanted.wanted.items c.deref.result.now c.facts_of.result.now c.stride-stride.ensures c.deref.ensures.value (c.facts_of.ensures d here) c.in_ok-wanted.ensures.has in
    let e = c.in_ok-expand.ensures in
    record {
      stands = e.stands;
      unmet = λ k x at_x less met.
          let le : k < length c.loop-head.queue.classes.items = omega (arith, less, lt) in
          let was = e.grows.kept k x le at_x in
          elim (cases_eq k c.loop-head.head) [
            | inl same ↦
                let A : ℕ → Type 0 = λ n. IsAt (groups c.loop-head.queue) n x in
                let one : x ≡ g = at_one (groups c.loop-head.queue) c.loop-head.head x g (subst A same was) at in
                let M : Group → Type 0 = λ y. Meets c.args.goals.now y in
                let t = c.meets.ensures.1 (m.1 (subst M one met)) in
                let f = c.if-meets.false in
                cc
            | inr ne ↦ i.unmet k x was (omega (arith, less, ne)) met
          ];
      few = omega (arith, e.grows.less, i.few);
      inside = omega (arith, e.grows.longer, lt);
    }

pub returns : goal.returns
returns c =
    let all : length (groups c.loop-head.queue) ≤ c.loop-head.head = omega (arith, c.loop-head-test.false, c.len.ensures, as_many c.loop-head.queue) in
    no_trace c.args.graph.now c.args.moves.now c.loop-head.head (groups c.loop-head.queue) c.loop-head.queue.seen.items c.loop-head.invariant.stands.paths c.args.goals.now c.loop-head.invariant.unmet all
