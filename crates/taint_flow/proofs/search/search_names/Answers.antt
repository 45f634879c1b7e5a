use Rattle.std.proofs.Common.{List, ℕ, arith, get_or}
use Rattle.std.proofs.lemmas.Option.{slice_get-get_or}
use Rattle.taint_flow.specs.Found.{ByGoals, CarriesName}
use Rattle.taint_flow.proofs.Finding.{first_more, first_none}
use Rattle.taint_flow.proofs.Routes.{some_at}
use Rattle.taint_flow.proofs.search.search_names.Goals as goal

pub loop-number-init : goal.loop-number-init
loop-number-init c =
    let plan = c.args.plan.now in
    let Finds : List ℕ → ℕ → Type 0 = λ facts k. ByGoals (CarriesName facts c.args.graph.now plan.moves c.args.split.now.sources) c.args.named.now k in
    first_none Finds plan.begins.items c.args.sources.now c.args.least.now.sources.items

pub loop-number-preserved : goal.loop-number-preserved
loop-number-preserved c =
    let plan = c.args.plan.now in
    let sources = c.args.sources.now in
    let i = c.loop-number.number in
    let source = get_or sources i (record { from = 0; to = 0 }) in
    let old = c.args.least.now.sources.items in
    let new = c.search_source.new.least.sources.items in
    let Finds : List ℕ → ℕ → Type 0 = λ facts k. ByGoals (CarriesName facts c.args.graph.now plan.moves c.args.split.now.sources) c.args.named.now k in
    let (facts, at) = some_at plan.begins.items i (omega (arith, c.loop-number-test.true, c.requires.keeps.lists, c.requires.sources)) in
    first_more Finds plan.begins.items sources i source facts old c.loop-number.least.sources.items new (slice_get-get_or sources i (record { from = 0; to = 0 }) c.loop-number-test.true) at c.loop-number.invariant (c.in_ok-search_source.ensures facts at)
