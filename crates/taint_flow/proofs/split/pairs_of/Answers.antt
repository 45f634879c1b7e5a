use Rattle.std.proofs.Common.{◌↔◌, ◌+◌, ℕ, List, get_or, subst}
use Rattle.std.proofs.lemmas.List.{take_all}
use Rattle.graph_form.specs.Sets.{Among}
use Rattle.graph_form.proofs.Amongs.{among_more}
use Rattle.flow_reach.proofs.Steps.{either_way, pair_is}
use Rattle.taint_flow.proofs.split.pairs_of.Goals as goal

pub loop-pair-init : goal.loop-pair-init
loop-pair-init c from to = (λ h. (let P : List (ℕ × ℕ) → Type 0 = λ xs. Among xs (from, to) in absurd (subst P c.new-pairs.ensures h)), λ h. absurd h)

pub loop-pair-preserved : goal.loop-pair-preserved
loop-pair-preserved c from to =
    let xs = c.args.facts.now in
    let i = c.loop-pair.pair-index in
    let p = pair_is (get_or xs i (0, 0)) (c.args.sources + from) (c.args.sources + to) in
    either_way _ _ _ _ _ _ (c.in_ok-add_pair.ensures from to) (c.loop-pair.invariant from to) (p.1, p.0) (among_more xs i (0, 0) c.loop-pair-test.true (c.args.sources + from, c.args.sources + to))

pub returns : goal.returns
returns c from to =
    let P : List (ℕ × ℕ) → Type 0 = λ xs. Among c.loop-pair.pairs (from, to) ↔ Among xs (c.args.sources + from, c.args.sources + to) in
    subst P (take_all c.loop-pair.pair-index c.args.facts.now c.loop-pair-test.false) (c.loop-pair.invariant from to)
