use Rattle.std.proofs.Common.{◌≡◌, ◌↔◌, ◌++◌, ℕ, take}
use Rattle.graph_form.specs.Sets.{Among}
use Rattle.taint_form.specs.Origins.{AddsBy}
use Rattle.taint_form.proofs.origins.Origins.row.Given as goal

abbrev pub invariant-loop-fact : goal.invariant-loop-fact
invariant-loop-fact l = record {
  drops : l.drops ≡ take l.fact-index l.fact-items;
  adds : (from to : ℕ) → Among l.adds (from, to) ↔ ((fact : ℕ) × Among (take l.fact-index l.fact-items) fact × AddsBy l.self fact from to);
}

abbrev pub invariant-loop-pair : goal.invariant-loop-pair
invariant-loop-pair l = l.adds ≡ l.initial.adds ++ take l.pair-index l.carried
