use Rattle.std.proofs.Common.{◌↔◌, ◌⊎◌, ℕ, List, ◌+◌, take, get_or, subst}
use Rattle.std.proofs.lemmas.List.{take_all}
use Rattle.graph_form.specs.Sets.{Among}
use Rattle.graph_form.proofs.Amongs.{among_more}
use Rattle.taint_tables.proofs.FactLists.{firsts_more}
use Rattle.taint_plan.proofs.carrying.add_pairs.Goals as goal

pub loop-first-preserved : goal.loop-first-preserved
loop-first-preserved c =
    let xs = c.args.firsts.now in
    let i = c.loop-first.first-index in
    firsts_more c.args.seconds.now (take i xs) (take (i + 1) xs) (get_or xs i 0) c.args.into.now.items c.loop-first.into.items c.add_with.new.into.items (among_more xs i 0 c.loop-first-test.true) c.loop-first.invariant c.in_ok-add_with.ensures

pub returns : goal.returns
returns c from to =
    let P : List ℕ → Type 0 = λ xs. Among c.loop-first.into.items (from, to) ↔ (Among c.args.into.now.items (from, to) ⊎ (Among xs from × Among c.args.seconds.now to)) in
    subst P (take_all c.loop-first.first-index c.args.firsts.now c.loop-first-test.false) (c.loop-first.invariant from to)
