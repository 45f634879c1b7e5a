use Rattle.std.proofs.Common.{◌≡◌, ◌<◌, List, length, Some, sym, ap, ◌∙◌, subst, arith}
use Rattle.std.specs.Prelude.{Option, MatchOption, slice_get, slice_index_or}
use Rattle.std.proofs.lemmas.Option.{slice_get-get_or}
use Rattle.graph_form.specs.declared.graph.Point.{Point}
use Rattle.graph_form.proofs.Amongs.{among_at}
use Rattle.taint_trace.specs.Trace.{IsLeastPath, HasNoPath}
use Rattle.taint_trace.proofs.Firsts.{none_more, none_before, none_at_all}
use Rattle.taint_trace.proofs.Fitting.{small_at}
use Rattle.taint_trace.proofs.Sought.{unit_at, graph_at, as_many}
use Rattle.taint_trace.proofs.tracing.first_trace.Goals as goal

pub loop-place-init : goal.loop-place-init
loop-place-init c range at k place unit less = absurd (omega (arith, less))

pub bounds-units-at : goal.bounds-units-at
bounds-units-at c =
    let root = c.args.flow.now in
    let places = c.args.places.now in
    let units = c.units-units.result.now in
    let are = c.units-units.ensures in
    let i = c.loop-place.place-index in
    let at = slice_index_or places i 0 in
    let stands = (c.requires.places.exact at).0 (among_at places i 0 c.loop-place-test.true) in
    as_many root units are at stands.unit stands.unit_is

pub offset_bounds-units-at : goal.offset_bounds-units-at
offset_bounds-units-at c =
    let root = c.args.flow.now in
    let places = c.args.places.now in
    let units = c.units-units.result.now in
    let are = c.units-units.ensures in
    let i = c.loop-place.place-index in
    let at = slice_index_or places i 0 in
    let stands = (c.requires.places.exact at).0 (among_at places i 0 c.loop-place-test.true) in
    let within : at < length units = as_many root units are at stands.unit stands.unit_is in
    omega (arith, within)

pub least_path-requires-clause-graph : goal.least_path-requires-clause-graph
least_path-requires-clause-graph c =
    let root = c.args.flow.now in
    let places = c.args.places.now in
    let units = c.units-units.result.now in
    let are = c.units-units.ensures in
    let i = c.loop-place.place-index in
    let at = slice_index_or places i 0 in
    let stands = (c.requires.places.exact at).0 (among_at places i 0 c.loop-place-test.true) in
    let within : at < length units = as_many root units are at stands.unit stands.unit_is in
    let unit = c.index-units-at.result in
    let got : slice_get units at ≡ Some unit = slice_get-get_or units at unit within ∙ ap Some (sym c.index-units-at.is) in
    graph_at root units are at unit got

pub least_path-requires-clause-small : goal.least_path-requires-clause-small
least_path-requires-clause-small c =
    let root = c.args.flow.now in
    let places = c.args.places.now in
    let units = c.units-units.result.now in
    let are = c.units-units.ensures in
    let i = c.loop-place.place-index in
    let at = slice_index_or places i 0 in
    let stands = (c.requires.places.exact at).0 (among_at places i 0 c.loop-place-test.true) in
    let within : at < length units = as_many root units are at stands.unit stands.unit_is in
    let unit = c.index-units-at.result in
    let got : slice_get units at ≡ Some unit = slice_get-get_or units at unit within ∙ ap Some (sym c.index-units-at.is) in
    small_at root c.args.sets.now.ranges c.args.source at unit.unit stands (unit_at root units are at unit got) c.requires.listed c.requires.fits

pub returns-in-Some : goal.returns-in-Some
returns-in-Some c range listed =
    let root = c.args.flow.now in
    let places = c.args.places.now in
    let units = c.units-units.result.now in
    let are = c.units-units.ensures in
    let i = c.loop-place.place-index in
    let at = slice_index_or places i 0 in
    let stands = (c.requires.places.exact at).0 (among_at places i 0 c.loop-place-test.true) in
    let within : at < length units = as_many root units are at stands.unit stands.unit_is in
    let unit = c.index-units-at.result in
    let got : slice_get units at ≡ Some unit = slice_get-get_or units at unit within ∙ ap Some (sym c.index-units-at.is) in
    let there : slice_get places i ≡ Some at = slice_get-get_or places i 0 c.loop-place-test.true in
    let sets = c.args.sets.now.ranges in
    let source = c.args.source in
    let Found : Option (List Point) → Type 0 = λ o. MatchOption o (HasNoPath root sets source range unit.unit) (IsLeastPath root sets source range unit.unit) in
    record {
      place = at;
      unit = unit.unit;
      stands = unit_at root units are at unit got;
      first = none_before root sets source range places c.requires.places i at there (c.loop-place.invariant range listed);
      least = subst Found c.in-Some.is (c.in_ok-path.ensures range listed);
    }

pub loop-place-preserved : goal.loop-place-preserved
loop-place-preserved c range listed =
    let root = c.args.flow.now in
    let places = c.args.places.now in
    let units = c.units-units.result.now in
    let are = c.units-units.ensures in
    let i = c.loop-place.place-index in
    let at = slice_index_or places i 0 in
    let stands = (c.requires.places.exact at).0 (among_at places i 0 c.loop-place-test.true) in
    let within : at < length units = as_many root units are at stands.unit stands.unit_is in
    let unit = c.index-units-at.result in
    let got : slice_get units at ≡ Some unit = slice_get-get_or units at unit within ∙ ap Some (sym c.index-units-at.is) in
    let there : slice_get places i ≡ Some at = slice_get-get_or places i 0 c.loop-place-test.true in
    let sets = c.args.sets.now.ranges in
    let source = c.args.source in
    let Found : Option (List Point) → Type 0 = λ o. MatchOption o (HasNoPath root sets source range unit.unit) (IsLeastPath root sets source range unit.unit) in
    none_more root sets source range places i at unit.unit there (unit_at root units are at unit got) (subst Found c.in_default.is (c.in_ok-path.ensures range listed)) (c.loop-place.invariant range listed)

pub returns : goal.returns
returns c range listed = none_at_all c.args.flow.now c.args.sets.now.ranges c.args.source range c.args.places.now c.requires.places c.loop-place.place-index c.loop-place-test.false (c.loop-place.invariant range listed)
