use Rattle.std.proofs.Common.{◌≡◌, List, ◌∷◌, reverse, Some, refl, sym, ◌∙◌, subst}
use Rattle.std.specs.Prelude.{Option, MatchOption}
use Rattle.std.proofs.lemmas.Option.{slice_get_within}
use Rattle.node_tree.specs.declared.span.Span.{Span}
use Rattle.graph_form.specs.declared.graph.Point.{Point}
use Rattle.graph_form.specs.Sets.{Among}
use Rattle.taint_flow.specs.Taint.{Hit}
use Rattle.taint_trace.specs.Trace.{IsTraceBy, HasNoTrace}
use Rattle.taint_trace.proofs.Followed.{found_by}
use Rattle.taint_trace.proofs.tracer.Tracer.trace.Goals as goal

pub unreachable-requires : goal.unreachable-requires
unreachable-requires c =
    let is = found_by c.args.self.now c.args.sets.now.sinks c.args.sets.now.ranges c.args.finding.now c.requires.found in
    c.in_default.not-Some is.source is.source_is

pub unreachable-requires-in_default-sink : goal.unreachable-requires-in_default-sink
unreachable-requires-in_default-sink c =
    let is = found_by c.args.self.now c.args.sets.now.sinks c.args.sets.now.ranges c.args.finding.now c.requires.found in
    c.in_default-sink.ensures is.sink

pub first_trace-requires-clause-fits : goal.first_trace-requires-clause-fits
first_trace-requires-clause-fits c =
    let is = found_by c.args.self.now c.args.sets.now.sinks c.args.sets.now.ranges c.args.finding.now c.requires.found in
    is.fits

pub first_trace-requires-clause-listed : goal.first_trace-requires-clause-listed
first_trace-requires-clause-listed c =
    let sets = c.args.sets.now.ranges in
    let is = found_by c.args.self.now c.args.sets.now.sinks sets c.args.finding.now c.requires.found in
    let same : is.source ≡ c.in-Some.source = (let e : Some is.source ≡ Some c.in-Some.source = sym is.source_is ∙ c.in-Some.is in cc) in
    let Listed : Span → Type 0 = Among sets.sources in
    subst Listed same is.hit.listed

pub first_trace-requires-clause-sink : goal.first_trace-requires-clause-sink
first_trace-requires-clause-sink c = slice_get_within c.args.sets.now.ranges.sinks c.in-Some-sink.sink c.args.finding.now.span c.in-Some-sink.ensures

pub unreachable-requires-in-None : goal.unreachable-requires-in-None
unreachable-requires-in-None c =
    let root = c.args.self.now in
    let sets = c.args.sets.now.ranges in
    let is = found_by root c.args.sets.now.sinks sets c.args.finding.now c.requires.found in
    let range = c.args.finding.now.span in
    let Found : Option (List Point) → Type 0 = λ o. MatchOption o (HasNoTrace root sets c.in-Some.source range) (IsTraceBy root sets c.in-Some.source range) in
    let none = subst Found c.in-None.is (c.in_ok-path.ensures range c.in-Some-sink.ensures) in
    let same : is.source ≡ c.in-Some.source = (let e : Some is.source ≡ Some c.in-Some.source = sym is.source_is ∙ c.in-Some.is in cc) in
    let Hits : Span → Type 0 = λ source. Hit root sets range source in
    let hit = subst Hits same is.hit in
    none hit.unit hit.unit_is (reverse (hit.point ∷ hit.earlier)) (record { earlier = hit.earlier; last = hit.point; whole = refl; hits = hit.hits })

pub returns : goal.returns
returns c =
    let root = c.args.self.now in
    let sets = c.args.sets.now.ranges in
    let range = c.args.finding.now.span in
    let Found : Option (List Point) → Type 0 = λ o. MatchOption o (HasNoTrace root sets c.in-Some.source range) (IsTraceBy root sets c.in-Some.source range) in
    record {
      exact = λ leaves texts bytes rule read. record {
        sinks = c.args.sets.now.sinks;
        sets = sets;
        read = read;
        source = c.in-Some.source;
        source_is = c.in-Some.is;
        trace = subst Found c.in-Some-2.is (c.in_ok-path.ensures range c.in-Some-sink.ensures);
      };
    }
