use Rattle.std.proofs.Common.{◌≡◌, ◌<◌, ℕ, List, map, length, Some, Err, sym, ap, ◌∙◌, subst}
use Rattle.std.specs.Prelude.{Option, MatchOption, slice_get}
use Rattle.std.proofs.lemmas.Option.{slice_get-get_or}
use Rattle.graph_form.specs.declared.graph.Point.{Point}
use Rattle.graph_form.specs.Sets.{Among}
use Rattle.flow_reach.specs.Carried.{Inside, Pairs}
use Rattle.trace_path.specs.Trace.{IsTrace, IsLeast}
use Rattle.taint_flow.specs.Traces.{goals_of}
use Rattle.taint_trace.proofs.Fitting.{never_large}
use Rattle.taint_trace.proofs.Paths.{none_hits, least_hits, places_there}
use Rattle.taint_trace.proofs.Sought.{goals_inside}
use Rattle.taint_trace.proofs.least.least_path.Goals as goal

pub shortest-requires-clause-goals : goal.shortest-requires-clause-goals
shortest-requires-clause-goals c =
    let m = c.in_ok-moves.moves in
    let unit = c.args.unit.now in
    let graph = unit.graph in
    let are = c.in_ok-goals.ensures ∙ ap (goals_of c.args.sink) c.as_slice.ensures in
    let In : List (ℕ × ℕ) → Type 0 = λ gs. Inside (Pairs gs) graph m.moves in
    subst In (sym are) (goals_inside graph m c.in_ok-moves.ensures.goals c.args.sink)

pub unreachable-requires : goal.unreachable-requires
unreachable-requires c =
    let m = c.in_ok-moves.moves in
    let unit = c.args.unit.now in
    let graph = unit.graph in
    let told = c.in_ok-moves.ensures in
    never_large c.args.flow.now unit.unit graph c.requires.graph m.moves.facts told.facts c.requires.small (c.in-Err-TooLarge.ensures.large (ap Err c.in-Err-TooLarge.field-0-is))

pub points_at-requires : goal.points_at-requires
points_at-requires c =
    let m = c.in_ok-moves.moves in
    let unit = c.args.unit.now in
    let graph = unit.graph in
    let ss = c.args.sets.now.ranges.sinks in
    let are = c.in_ok-goals.ensures ∙ ap (goals_of c.args.sink) c.as_slice.ensures in
    let places = c.in-Ok-Some.places in
    let Least : List (ℕ × ℕ) → Type 0 = λ gs. IsLeast graph m.moves gs places in
    let Found : Option (List ℕ) → Type 0 = λ o. MatchOption o ((points : List ℕ) → IsTrace graph m.moves c.in_ok-goals.goals points → ⊥) (IsLeast graph m.moves c.in_ok-goals.goals) in
    let least = subst Least are (subst Found c.in-Ok-Some.field-0-is c.in-Ok-Some.ensures.least) in
    let there = places_there c.args.flow.now unit.unit c.args.sets.now.ranges c.args.source graph m c.requires.graph c.in_ok-moves.ensures.hits c.args.sink _ (slice_get-get_or ss c.args.sink c.args.source c.requires.sink) places least.trace in
    let Below : List ℕ → List Point → Type 0 = λ xs ps. (place : ℕ) → Among xs place → place < length ps in
    subst (λ (xs : List ℕ). Below xs c.as_slice-in-Ok-Some.result.now) (sym c.as_slice-in-Ok-Some-2.ensures) (subst (λ (ps : List Point). Below places ps) (sym c.as_slice-in-Ok-Some.ensures) there)

pub returns-in-Ok-Some : goal.returns-in-Ok-Some
returns-in-Ok-Some c range at =
    let m = c.in_ok-moves.moves in
    let unit = c.args.unit.now in
    let graph = unit.graph in
    let are = c.in_ok-goals.ensures ∙ ap (goals_of c.args.sink) c.as_slice.ensures in
    let places = c.in-Ok-Some.places in
    let Least : List (ℕ × ℕ) → Type 0 = λ gs. IsLeast graph m.moves gs places in
    let Found : Option (List ℕ) → Type 0 = λ o. MatchOption o ((points : List ℕ) → IsTrace graph m.moves c.in_ok-goals.goals points → ⊥) (IsLeast graph m.moves c.in_ok-goals.goals) in
    let least = subst Least are (subst Found c.in-Ok-Some.field-0-is c.in-Ok-Some.ensures.least) in
    let items = c.as_slice-in-Ok-Some.result.now in
    let path = c.in_ok-points_at-in-Ok-Some.field-0 in
    let same : map (slice_get graph.points) places ≡ map Some path =
    ap (λ (ps : List Point). map (slice_get ps) places) (sym c.as_slice-in-Ok-Some.ensures) ∙ ap (map (slice_get items)) (sym c.as_slice-in-Ok-Some-2.ensures) ∙ c.in_ok-points_at-in-Ok-Some.ensures in
    least_hits c.args.flow.now unit.unit c.args.sets.now.ranges c.args.source graph m c.requires.graph c.in_ok-moves.ensures.hits c.args.sink range at places path least same

pub returns-in-Ok-None : goal.returns-in-Ok-None
returns-in-Ok-None c range at =
    let m = c.in_ok-moves.moves in
    let unit = c.args.unit.now in
    let graph = unit.graph in
    let are = c.in_ok-goals.ensures ∙ ap (goals_of c.args.sink) c.as_slice.ensures in
    let Found : Option (List ℕ) → Type 0 = λ o. MatchOption o ((points : List ℕ) → IsTrace graph m.moves c.in_ok-goals.goals points → ⊥) (IsLeast graph m.moves c.in_ok-goals.goals) in
    let None : List (ℕ × ℕ) → Type 0 = λ gs. (places : List ℕ) → IsTrace graph m.moves gs places → ⊥ in
    none_hits c.args.flow.now unit.unit c.args.sets.now.ranges c.args.source graph m c.requires.graph c.in_ok-moves.ensures.hits c.args.sink range at (subst None are (subst Found c.in-Ok-None.field-0-is c.in-Ok-None.ensures.least))
