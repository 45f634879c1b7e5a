use Rattle.std.proofs.Common.{◌↔◌, ◌⊎◌, ℕ, List, ◌+◌, take, get_or, subst}
use Rattle.std.proofs.lemmas.List.{take_all}
use Rattle.graph_form.specs.Sets.{Among}
use Rattle.graph_form.proofs.Amongs.{among_more}
use Rattle.taint_form.proofs.Maps.{pushed_more}
use Rattle.taint_tables.proofs.facts.push_all.Goals as goal

pub loop-number-preserved : goal.loop-number-preserved
loop-number-preserved c =
    let xs = c.args.numbers.now in
    let i = c.loop-number.number-index in
    pushed_more c.args.into.now.items (take i xs) (take (i + 1) xs) (get_or xs i 0) c.loop-number.into.items _ (among_more xs i 0 c.loop-number-test.true) c.loop-number.invariant c.in_ok-push.ensures.items

pub returns : goal.returns
returns c x =
    let P : List ℕ → Type 0 = λ xs. Among c.loop-number.into.items x ↔ (Among c.args.into.now.items x ⊎ Among xs x) in
    subst P (take_all c.loop-number.number-index c.args.numbers.now c.loop-number-test.false) (c.loop-number.invariant x)
