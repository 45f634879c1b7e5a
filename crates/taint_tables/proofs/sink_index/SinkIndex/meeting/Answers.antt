use Rattle.std.proofs.Common.{◌≡◌, ◌↔◌, ◌≤◌, ◌<◌, ◌-◌, ℕ, List, length, Some, ap, subst, arith}
use Rattle.std.specs.Prelude.{slice_get}
use Rattle.std.proofs.lemmas.Grind.{get_or_default_zero}
use Rattle.graph_form.specs.Sets.{Among}
use Rattle.taint_tables.specs.declared.sink.Sink.{Sink}
use Rattle.taint_tables.specs.Hulls.{Meets}
use Rattle.taint_tables.proofs.SinkLists.{found_more, all_found}
use Rattle.taint_tables.proofs.sink_index.SinkIndex.meeting.Goals as goal

pub loop-at-init : goal.loop-at-init
loop-at-init c = record {
  inside = omega arith;
  found = λ s. (
    λ h. (let P : List Sink → Type 0 = λ xs. Among xs s in absurd (subst P c.new-found.ensures.items h)),
    λ (k, le, less, got, ends). absurd (omega (arith, le, less)),
  );
}

pub loop-at-preserved : goal.loop-at-preserved
loop-at-preserved c =
    let size : length c.deref.result.now ≡ length c.self.inside.sinks.items = ap length c.deref.ensures.value in
    record {
      inside = omega (arith, c.loop-at.invariant.inside);
      found =
          found_more c.self.inside.sinks.items c.args.hull.first_end c.loop-at.at (c.loop-at.at - 1) c.count_to-at.result c.index-in-loop-at.result.now c.loop-at.found.items c.add_if.new.into.items (omega (arith, c.loop-at-test.true))
          (omega (arith, c.loop-at-test.true, c.loop-at.invariant.inside)) (omega (arith, c.loop-at-test.true, c.loop-at.invariant.inside, c.count_to-at.ensures.within, size)) c.index-in-loop-at.ensures c.loop-at.invariant.found c.in_ok-add_if.ensures;
    }

pub returns : goal.returns
returns c =
    let found = c.loop-at.found.items in
    let hull = c.args.hull in
    let P : List Sink → Type 0 = λ xs. (s : Sink) → Among found s ↔ (Among xs s × Meets hull s.range) in
    let Q : List Sink → Type 0 = λ xs. (k : ℕ) (s : Sink) → slice_get xs k ≡ Some s → (k < c.count_to-at.result) ↔ (s.range.from ≤ hull.last_begin) in
    subst P c.self.view_is
    (all_found c.self.inside.sinks.items hull c.loop-at.at c.count_to-at.result found (subst Q c.deref.ensures.value c.count_to-at.ensures.parts) c.loop-at.invariant.found (λ k s less got. absurd (omega (arith, less, c.loop-at-test.false))))

pub returns-then-index-hull : goal.returns-then-index-hull
returns-then-index-hull c =
    let found = c.loop-at.found.items in
    let hull = c.args.hull in
    let sinks = c.self.inside.sinks.items in
    let ends = c.self.inside.ends.items in
    let at = c.loop-at.at - 1 in
    let P : List Sink → Type 0 = λ xs. (s : Sink) → Among found s ↔ (Among xs s × Meets hull s.range) in
    let Q : List Sink → Type 0 = λ xs. (k : ℕ) (s : Sink) → slice_get xs k ≡ Some s → (k < c.count_to-at.result) ↔ (s.range.from ≤ hull.last_begin) in
    let size : length c.deref.result.now ≡ length sinks = ap length c.deref.ensures.value in
    let within : at < length ends = omega (arith, c.loop-at-test.true, c.loop-at.invariant.inside, c.count_to-at.ensures.within, size, c.self.invariant.1.size) in
    let read = get_or_default_zero ends at c.index.result.now within in
    subst P c.self.view_is
    (all_found sinks hull c.loop-at.at c.count_to-at.result found (subst Q c.deref.ensures.value c.count_to-at.ensures.parts) c.loop-at.invariant.found
    (λ k s less got. omega (arith, c.self.invariant.1.last k at s (omega (arith, less)) within got, read, c.index.ensures, c.if-index-hull.true)))
