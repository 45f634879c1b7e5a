use Rattle.std.proofs.Common.{arith, inr, sym, subst, ap, ◌∙◌, ℕ, ◌≡◌, ◌<◌, ◌/◌, ◌*◌, length, mul_comm}
use Rattle.std.proofs.lemmas.Nat.{mul-add-lt}
use Rattle.flow_reach.specs.Bits.{stride_of, width_of}
use Rattle.flow_reach.specs.Carried.{Pairs}
use Rattle.flow_reach.specs.Spread.{AtPairs}
use Rattle.flow_reach.specs.Worklist.{Grows}
use Rattle.flow_reach.proofs.Closing.{begun, stepped, filled, smaller, next_room, facts_fit}
use Rattle.flow_reach.proofs.Following.{took, reads, batch_is, words_there, column_lt}
use Rattle.flow_reach.proofs.Grow.{grows_as}
use Rattle.flow_reach.proofs.search.fill.Goals as goal

pub see_pairs-requires-clause-room : goal.see_pairs-requires-clause-room
see_pairs-requires-clause-room c k at =
    let stride = stride_of c.args.moves.now.facts in
    let wide : c.stride-width.result / 64 * 64 ≡ stride = omega (arith, c.stride-width.ensures) in
    let there = c.requires.inside at.0.0 at.0.1 at.1 in
    let lt = mul-add-lt at.0.0 stride at.0.1 (length c.args.graph.now.points) there.0 (facts_fit c.args.moves.now.facts at.0.1 there.1) in
    omega (arith, lt, at.2, ap (λ s. at.0.0 * s) wide, c.requires.ready.room, mul_comm stride (length c.args.graph.now.points), c.in_ok-work.ensures.room, c.len.ensures)

pub loop-word-init : goal.loop-word-init
loop-word-init c =
    let wide : c.stride-width.result / 64 * 64 ≡ stride_of c.args.moves.now.facts = omega (arith, c.stride-width.ensures) in
    let P : ℕ → Type 0 = λ s. Grows (AtPairs s c.args.begins.now) c.in_ok-work.work c.see_pairs.new.work in
    begun (Pairs c.args.begins.now) c.args.graph.now c.args.moves.now c.requires.fits c.requires.inside _ c.args.begins.now c.in_ok-work.work c.see_pairs.new.work (λ p f h. h) (λ p f h. h) (omega (arith, c.requires.ready.room, c.len.ensures)) c.in_ok-work.ensures (subst P wide c.in_ok-see_pairs.ensures)

pub index-requires : goal.index-requires
index-requires c = omega (arith, c.in-Some.ensures.inside, c.loop-word.invariant.room, c.requires.ready.room)

pub index-requires-in-Some : goal.index-requires-in-Some
index-requires-in-Some c =
    let wide : c.stride-width.result / 64 ≡ width_of c.args.moves.now.facts = omega (arith, c.stride-width.ensures) in
    let t = took (Pairs c.args.begins.now) c.args.graph.now c.args.moves.now c.requires.fits c.requires.inside (c.stride-width.result / 64) c.in-Some.word c.in-Some.bits c.loop-word.work c.take.new.self wide c.loop-word.invariant c.in-Some.ensures in
    omega (arith, t.point, c.requires.ready.after.rows)

pub index-requires-in-Some-2 : goal.index-requires-in-Some-2
index-requires-in-Some-2 c =
    let wide : c.stride-width.result / 64 ≡ width_of c.args.moves.now.facts = omega (arith, c.stride-width.ensures) in
    let t = took (Pairs c.args.begins.now) c.args.graph.now c.args.moves.now c.requires.fits c.requires.inside (c.stride-width.result / 64) c.in-Some.word c.in-Some.bits c.loop-word.work c.take.new.self wide c.loop-word.invariant c.in-Some.ensures in
    omega (arith, t.point, c.requires.ready.added.size, c.requires.fits.rows)

pub follow-requires-clause-ascends : goal.follow-requires-clause-ascends
follow-requires-clause-ascends c =
    let wide : c.stride-width.result / 64 ≡ width_of c.args.moves.now.facts = omega (arith, c.stride-width.ensures) in
    let t = took (Pairs c.args.begins.now) c.args.graph.now c.args.moves.now c.requires.fits c.requires.inside (c.stride-width.result / 64) c.in-Some.word c.in-Some.bits c.loop-word.work c.take.new.self wide c.loop-word.invariant c.in-Some.ensures in
    let r = reads c.args.graph.now c.args.moves.now (c.in-Some.word / (c.stride-width.result / 64)) c.deref.result.now c.deref-in-Some.result.now c.args.ready.now.after.items c.args.ready.now.added.items c.index-in-Some.result.now c.index-in-Some-2.result.now c.requires.fits t.point c.requires.ready.after c.requires.ready.added c.index-in-Some.ensures c.deref.ensures.value c.index-in-Some-2.ensures c.deref-in-Some.ensures.value in
    r.added.ascends

pub follow-requires-clause-width : goal.follow-requires-clause-width
follow-requires-clause-width c = omega (arith, c.stride-width.type_inv, c.stride-width.ensures, c.args.moves.now.facts)

pub follow-requires-clause-column : goal.follow-requires-clause-column
follow-requires-clause-column c =
    let wide : c.stride-width.result / 64 ≡ width_of c.args.moves.now.facts = omega (arith, c.stride-width.ensures) in
    let t = took (Pairs c.args.begins.now) c.args.graph.now c.args.moves.now c.requires.fits c.requires.inside (c.stride-width.result / 64) c.in-Some.word c.in-Some.bits c.loop-word.work c.take.new.self wide c.loop-word.invariant c.in-Some.ensures in
    omega (arith, column_lt (c.stride-width.result / 64) c.in-Some.word t.some, wide)

pub follow-requires-clause-facts : goal.follow-requires-clause-facts
follow-requires-clause-facts c bit has =
    let wide : c.stride-width.result / 64 ≡ width_of c.args.moves.now.facts = omega (arith, c.stride-width.ensures) in
    let t = took (Pairs c.args.begins.now) c.args.graph.now c.args.moves.now c.requires.fits c.requires.inside (c.stride-width.result / 64) c.in-Some.word c.in-Some.bits c.loop-word.work c.take.new.self wide c.loop-word.invariant c.in-Some.ensures in
    omega (arith, t.facts bit has)

pub follow-requires-clause-words : goal.follow-requires-clause-words
follow-requires-clause-words c =
    let wide : c.stride-width.result / 64 ≡ width_of c.args.moves.now.facts = omega (arith, c.stride-width.ensures) in
    let t = took (Pairs c.args.begins.now) c.args.graph.now c.args.moves.now c.requires.fits c.requires.inside (c.stride-width.result / 64) c.in-Some.word c.in-Some.bits c.loop-word.work c.take.new.self wide c.loop-word.invariant c.in-Some.ensures in
    let r = reads c.args.graph.now c.args.moves.now (c.in-Some.word / (c.stride-width.result / 64)) c.deref.result.now c.deref-in-Some.result.now c.args.ready.now.after.items c.args.ready.now.added.items c.index-in-Some.result.now c.index-in-Some-2.result.now c.requires.fits t.point c.requires.ready.after c.requires.ready.added c.index-in-Some.ensures c.deref.ensures.value c.index-in-Some-2.ensures c.deref-in-Some.ensures.value in
    let room : length c.args.graph.now.points * stride_of c.args.moves.now.facts ≡ 64 * length c.take.new.self.seen.items = c.loop-word.invariant.room ∙ ap (λ s. 64 * length s) (sym c.in-Some.ensures.seen) in
    words_there c.args.graph.now c.args.moves.now c.requires.fits (c.stride-width.result / 64) c.in-Some.word c.in-Some.bits c.take.new.self c.deref.result.now c.deref-in-Some.result.now wide t r room

pub follow-requires-clause-room : goal.follow-requires-clause-room
follow-requires-clause-room c k added =
    let wide : c.stride-width.result / 64 ≡ width_of c.args.moves.now.facts = omega (arith, c.stride-width.ensures) in
    let t = took (Pairs c.args.begins.now) c.args.graph.now c.args.moves.now c.requires.fits c.requires.inside (c.stride-width.result / 64) c.in-Some.word c.in-Some.bits c.loop-word.work c.take.new.self wide c.loop-word.invariant c.in-Some.ensures in
    let r = reads c.args.graph.now c.args.moves.now (c.in-Some.word / (c.stride-width.result / 64)) c.deref.result.now c.deref-in-Some.result.now c.args.ready.now.after.items c.args.ready.now.added.items c.index-in-Some.result.now c.index-in-Some-2.result.now c.requires.fits t.point c.requires.ready.after c.requires.ready.added c.index-in-Some.ensures c.deref.ensures.value c.index-in-Some-2.ensures c.deref-in-Some.ensures.value in
    let inside : c.in-Some.word < length c.args.ready.now.dropped.items = omega (arith, c.in-Some.ensures.inside, c.loop-word.invariant.room, c.requires.ready.room) in
    let dropped_is = c.requires.ready.dropped in
    let is = batch_is c.args.graph.now c.args.moves.now c.requires.fits (c.stride-width.result / 64) c.in-Some.word c.in-Some.bits c.without.result c.index.result.now c.deref.result.now c.deref-in-Some.result.now c.args.ready.now.dropped.items wide c.in-Some.ensures.fits t r inside c.index.ensures dropped_is c.without.ensures.bits in
    let next = (is k).0 (inr added) in
    let here = c.loop-word.invariant.listed next.0 ((c.in-Some.ensures.waited next.0).0 next.1).0 in
    omega (arith, next_room (Pairs c.args.begins.now) c.args.graph.now c.args.moves.now c.requires.fits c.requires.inside c.loop-word.work next.0 k c.loop-word.invariant here next.2, ap length c.in-Some.ensures.seen)

pub loop-word-smaller : goal.loop-word-smaller
loop-word-smaller c = smaller _ _ _ _ _ _ c.in-Some.ensures c.in_ok-follow.ensures

pub loop-word-preserved : goal.loop-word-preserved
loop-word-preserved c =
    let wide : c.stride-width.result / 64 ≡ width_of c.args.moves.now.facts = omega (arith, c.stride-width.ensures) in
    let t = took (Pairs c.args.begins.now) c.args.graph.now c.args.moves.now c.requires.fits c.requires.inside (c.stride-width.result / 64) c.in-Some.word c.in-Some.bits c.loop-word.work c.take.new.self wide c.loop-word.invariant c.in-Some.ensures in
    let r = reads c.args.graph.now c.args.moves.now (c.in-Some.word / (c.stride-width.result / 64)) c.deref.result.now c.deref-in-Some.result.now c.args.ready.now.after.items c.args.ready.now.added.items c.index-in-Some.result.now c.index-in-Some-2.result.now c.requires.fits t.point c.requires.ready.after c.requires.ready.added c.index-in-Some.ensures c.deref.ensures.value c.index-in-Some-2.ensures c.deref-in-Some.ensures.value in
    let inside : c.in-Some.word < length c.args.ready.now.dropped.items = omega (arith, c.in-Some.ensures.inside, c.loop-word.invariant.room, c.requires.ready.room) in
    let dropped_is = c.requires.ready.dropped in
    let is = batch_is c.args.graph.now c.args.moves.now c.requires.fits (c.stride-width.result / 64) c.in-Some.word c.in-Some.bits c.without.result c.index.result.now c.deref.result.now c.deref-in-Some.result.now c.args.ready.now.dropped.items wide c.in-Some.ensures.fits t r inside c.index.ensures dropped_is c.without.ensures.bits in
    stepped (Pairs c.args.begins.now) c.args.graph.now c.args.moves.now c.requires.fits c.requires.inside c.in-Some.word c.in-Some.bits c.loop-word.work c.take.new.self c.follow.new.work c.loop-word.invariant c.in-Some.ensures (grows_as _ _ _ _ c.in_ok-follow.ensures is)

pub returns : goal.returns
returns c = filled (Pairs c.args.begins.now) c.args.graph.now c.args.moves.now c.requires.fits c.requires.inside c.loop-word.work c.take.new.self c.loop-word.invariant c.in_default.ensures
