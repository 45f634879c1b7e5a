use Rattle.std.proofs.Common.{◌≡◌, ◌<◌, ◌*◌, ◌%◌, ◌^◌, ℕ, List, length, sym, ◌∙◌, ap, subst, refl, arith}
use Rattle.held_values.specs.Slots.{IsNew, Raised, Enters}
use Rattle.held_values.proofs.Closing.{begun, stepped, filled, idle}
use Rattle.held_values.proofs.Concerns.{got_read}
use Rattle.held_values.proofs.Filling.{few_pairs, few_literals, takes, ready, passed, room, small, within}
use Rattle.held_values.proofs.Raising.{raised_as, smaller}
use Rattle.held_values.proofs.propagation.fill.Goals as goal

pub loop-at-init : goal.loop-at-init
loop-at-init c =
    let g = c.args.graph.now in
    let e = c.args.effects.now in
    let fits = c.requires.fits in
    let few = few_literals (length g.points) (length e.start) e.literals c.requires.small fits.entry in
    let pairs : c.len-points.result * c.len.result ≡ length g.points * length e.start = ap (λ x. x * c.len.result) c.len-points.ensures ∙ ap (λ y. length g.points * y) c.len.ensures in
    let P : ℕ → Type 0 = λ n. IsNew n c.in_ok-slots.slots in
    let R : List ℕ → Type 0 = λ s. Raised (Enters s c.len-points.result (length s)) c.in_ok-slots.slots c.enter.new.slots in
    let W : ℕ → Type 0 = λ n. Raised (Enters e.start n (length e.start)) c.in_ok-slots.slots c.enter.new.slots in
    begun g e c.in_ok-merged.merged.items fits c.in_ok-merged.ensures few c.in_ok-slots.slots c.enter.new.slots (subst P pairs c.in_ok-slots.ensures) (subst W c.len-points.ensures (subst R c.as_slice.ensures c.in_ok-enter.ensures))

pub nonzero_div-name : goal.nonzero_div-name
nonzero_div-name c =
    let g = c.args.graph.now in
    let e = c.args.effects.now in
    let fits = c.requires.fits in
    let are = c.in_ok-merged.ensures in
    let few = few_literals (length g.points) (length e.start) e.literals c.requires.small fits.entry in
    let w = c.loop-at.slots in
    let at = c.in-Some.at in
    let took = takes g e c.in_ok-merged.merged.items fits are few at w c.pop.new.self.items c.loop-at.invariant c.in-Some.ensures.items in
    omega (arith, c.len-points.ensures, fits.entry)

pub nonzero_rem-point : goal.nonzero_rem-point
nonzero_rem-point c =
    let g = c.args.graph.now in
    let e = c.args.effects.now in
    let fits = c.requires.fits in
    let are = c.in_ok-merged.ensures in
    let few = few_literals (length g.points) (length e.start) e.literals c.requires.small fits.entry in
    let w = c.loop-at.slots in
    let at = c.in-Some.at in
    let took = takes g e c.in_ok-merged.merged.items fits are few at w c.pop.new.self.items c.loop-at.invariant c.in-Some.ensures.items in
    omega (arith, c.len-points.ensures, fits.entry)

pub index-value-requires : goal.index-value-requires
index-value-requires c =
    let g = c.args.graph.now in
    let e = c.args.effects.now in
    let fits = c.requires.fits in
    let are = c.in_ok-merged.ensures in
    let few = few_literals (length g.points) (length e.start) e.literals c.requires.small fits.entry in
    let w = c.loop-at.slots in
    let at = c.in-Some.at in
    let took = takes g e c.in_ok-merged.merged.items fits are few at w c.pop.new.self.items c.loop-at.invariant c.in-Some.ensures.items in
    omega (arith, took.there, w.values.ok.0)

pub index-requires : goal.index-requires
index-requires c =
    let g = c.args.graph.now in
    let e = c.args.effects.now in
    let fits = c.requires.fits in
    let are = c.in_ok-merged.ensures in
    let few = few_literals (length g.points) (length e.start) e.literals c.requires.small fits.entry in
    let w = c.loop-at.slots in
    let at = c.in-Some.at in
    let took = takes g e c.in_ok-merged.merged.items fits are few at w c.pop.new.self.items c.loop-at.invariant c.in-Some.ensures.items in
    let there : at % c.len-points.result < length g.points = let P : ℕ → Type 0 = λ n. at % n < length g.points in subst P (sym c.len-points.ensures) took.parts.point in
    omega (arith, there, are.size, fits.points, c.in_ok-merged.merged.ok.0)

pub targets-requires : goal.targets-requires
targets-requires c =
    let g = c.args.graph.now in
    let e = c.args.effects.now in
    let fits = c.requires.fits in
    let are = c.in_ok-merged.ensures in
    let few = few_literals (length g.points) (length e.start) e.literals c.requires.small fits.entry in
    let w = c.loop-at.slots in
    let at = c.in-Some.at in
    let took = takes g e c.in_ok-merged.merged.items fits are few at w c.pop.new.self.items c.loop-at.invariant c.in-Some.ensures.items in
    let there : at % c.len-points.result < length g.points = let P : ℕ → Type 0 = λ n. at % n < length g.points in subst P (sym c.len-points.ensures) took.parts.point in
    let one = c.index.result.now in
    let got = got_read c.in_ok-merged.merged.items (at % c.len-points.result) one (omega (arith, there, are.size, fits.points)) c.index.ensures in
    (are.each (at % c.len-points.result) one got).index

pub index-requires-in-Some : goal.index-requires-in-Some
index-requires-in-Some c =
    let g = c.args.graph.now in
    let e = c.args.effects.now in
    let fits = c.requires.fits in
    let are = c.in_ok-merged.ensures in
    let few = few_literals (length g.points) (length e.start) e.literals c.requires.small fits.entry in
    let w = c.loop-at.slots in
    let at = c.in-Some.at in
    let took = takes g e c.in_ok-merged.merged.items fits are few at w c.pop.new.self.items c.loop-at.invariant c.in-Some.ensures.items in
    let there : at % c.len-points.result < length g.points = let P : ℕ → Type 0 = λ n. at % n < length g.points in subst P (sym c.len-points.ensures) took.parts.point in
    omega (arith, there, c.in_ok-after.ensures.rows, c.in_ok-after.after.ok.0)

pub raise_at-requires-clause-inside : goal.raise_at-requires-clause-inside
raise_at-requires-clause-inside c target among =
    let g = c.args.graph.now in
    let e = c.args.effects.now in
    let fits = c.requires.fits in
    let are = c.in_ok-merged.ensures in
    let few = few_literals (length g.points) (length e.start) e.literals c.requires.small fits.entry in
    let w = c.loop-at.slots in
    let at = c.in-Some.at in
    let took = takes g e c.in_ok-merged.merged.items fits are few at w c.pop.new.self.items c.loop-at.invariant c.in-Some.ensures.items in
    let r = ready g e c.in_ok-merged.merged.items fits are few at w c.len-points.result c.index-value.result.now c.index.result.now c.in_ok-after.after.items c.index-in-Some.result.now c.deref.result.now c.targets.new.targets.items c.deref-in-Some.result.now took c.len-points.ensures c.index-value.ensures c.index.ensures c.in_ok-after.ensures c.index-in-Some.ensures c.deref.ensures.value c.deref-in-Some.ensures.value c.in_ok-targets.ensures in
    let bound : length w.values.items < 2 ^ 32 = omega (arith, c.loop-at.invariant.size, few_pairs (length g.points) (length e.start) e.literals c.requires.small) in
    within g e c.in_ok-merged.merged.items fits are few at w c.loop-at.invariant took c.deref.result.now c.deref-in-Some.result.now r c.len-points.result c.len-points.ensures bound target among

pub raise_at-requires-clause-room : goal.raise_at-requires-clause-room
raise_at-requires-clause-room c target point there among =
    let g = c.args.graph.now in
    let e = c.args.effects.now in
    let fits = c.requires.fits in
    let are = c.in_ok-merged.ensures in
    let few = few_literals (length g.points) (length e.start) e.literals c.requires.small fits.entry in
    let w = c.loop-at.slots in
    let at = c.in-Some.at in
    let took = takes g e c.in_ok-merged.merged.items fits are few at w c.pop.new.self.items c.loop-at.invariant c.in-Some.ensures.items in
    let r = ready g e c.in_ok-merged.merged.items fits are few at w c.len-points.result c.index-value.result.now c.index.result.now c.in_ok-after.after.items c.index-in-Some.result.now c.deref.result.now c.targets.new.targets.items c.deref-in-Some.result.now took c.len-points.ensures c.index-value.ensures c.index.ensures c.in_ok-after.ensures c.index-in-Some.ensures c.deref.ensures.value c.deref-in-Some.ensures.value c.in_ok-targets.ensures in
    room g e c.in_ok-merged.merged.items fits are few at w c.loop-at.invariant took c.deref.result.now c.deref-in-Some.result.now r c.len-points.result c.len-points.ensures target point there among

pub raise_at-requires-clause-small : goal.raise_at-requires-clause-small
raise_at-requires-clause-small c target among =
    let g = c.args.graph.now in
    let e = c.args.effects.now in
    let fits = c.requires.fits in
    let are = c.in_ok-merged.ensures in
    let few = few_literals (length g.points) (length e.start) e.literals c.requires.small fits.entry in
    let w = c.loop-at.slots in
    let at = c.in-Some.at in
    let took = takes g e c.in_ok-merged.merged.items fits are few at w c.pop.new.self.items c.loop-at.invariant c.in-Some.ensures.items in
    let r = ready g e c.in_ok-merged.merged.items fits are few at w c.len-points.result c.index-value.result.now c.index.result.now c.in_ok-after.after.items c.index-in-Some.result.now c.deref.result.now c.targets.new.targets.items c.deref-in-Some.result.now took c.len-points.ensures c.index-value.ensures c.index.ensures c.in_ok-after.ensures c.index-in-Some.ensures c.deref.ensures.value c.deref-in-Some.ensures.value c.in_ok-targets.ensures in
    small g e c.in_ok-merged.merged.items fits are few at w c.loop-at.invariant took c.deref.result.now c.deref-in-Some.result.now r c.len-points.result c.len-points.ensures target among

pub loop-at-smaller : goal.loop-at-smaller
loop-at-smaller c =
    smaller c.loop-at.slots _ c.raise_at.new.slots c.in-Some.at c.in-Some.ensures.items refl c.in_ok-raise_at.ensures.weight

pub loop-at-preserved : goal.loop-at-preserved
loop-at-preserved c =
    let g = c.args.graph.now in
    let e = c.args.effects.now in
    let fits = c.requires.fits in
    let are = c.in_ok-merged.ensures in
    let few = few_literals (length g.points) (length e.start) e.literals c.requires.small fits.entry in
    let w = c.loop-at.slots in
    let at = c.in-Some.at in
    let took = takes g e c.in_ok-merged.merged.items fits are few at w c.pop.new.self.items c.loop-at.invariant c.in-Some.ensures.items in
    let r = ready g e c.in_ok-merged.merged.items fits are few at w c.len-points.result c.index-value.result.now c.index.result.now c.in_ok-after.after.items c.index-in-Some.result.now c.deref.result.now c.targets.new.targets.items c.deref-in-Some.result.now took c.len-points.ensures c.index-value.ensures c.index.ensures c.in_ok-after.ensures c.index-in-Some.ensures c.deref.ensures.value c.deref-in-Some.ensures.value c.in_ok-targets.ensures in
    stepped g e c.in_ok-merged.merged.items fits are few at w _ c.raise_at.new.slots c.loop-at.invariant c.in-Some.ensures.items refl (raised_as _ _ _ _ c.in_ok-raise_at.ensures (passed g e c.in_ok-merged.merged.items fits are few at w c.loop-at.invariant took c.deref.result.now c.deref-in-Some.result.now r c.len-points.result c.len-points.ensures))

pub returns : goal.returns
returns c =
    let g = c.args.graph.now in
    let e = c.args.effects.now in
    let fits = c.requires.fits in
    let few = few_literals (length g.points) (length e.start) e.literals c.requires.small fits.entry in
    filled g e c.in_ok-merged.merged.items fits c.in_ok-merged.ensures few c.loop-at.slots c.loop-at.invariant (idle c.loop-at.slots.waiting.items (λ lt. let z = c.in_default.ensures.variant.1 (omega (arith, lt, c.loop-at.slots.waiting.ok.0)) in cc))
