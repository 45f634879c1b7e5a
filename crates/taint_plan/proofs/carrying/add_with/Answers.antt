use Rattle.std.proofs.Common.{◌≡◌, ◌↔◌, ◌⊎◌, ℕ, List, ◌+◌, take, get_or, subst}
use Rattle.std.proofs.lemmas.List.{take_all}
use Rattle.graph_form.specs.Sets.{Among}
use Rattle.graph_form.proofs.Amongs.{among_more}
use Rattle.taint_tables.proofs.FactLists.{with_more}
use Rattle.taint_plan.proofs.carrying.add_with.Goals as goal

pub loop-second-preserved : goal.loop-second-preserved
loop-second-preserved c =
    let xs = c.args.seconds.now in
    let i = c.loop-second.second-index in
    with_more c.args.first (take i xs) (take (i + 1) xs) (get_or xs i 0) c.args.into.now.items c.loop-second.into.items _ (among_more xs i 0 c.loop-second-test.true) c.loop-second.invariant c.in_ok-push.ensures.items

pub returns : goal.returns
returns c from to =
    let P : List ℕ → Type 0 = λ xs. Among c.loop-second.into.items (from, to) ↔ (Among c.args.into.now.items (from, to) ⊎ ((c.args.first ≡ from) × Among xs to)) in
    subst P (take_all c.loop-second.second-index c.args.seconds.now c.loop-second-test.false) (c.loop-second.invariant from to)
