use Rattle.std.proofs.Common.{◌↔◌, ◌+◌, ℕ, List, subst}
use Rattle.std.proofs.lemmas.List.{take_all}
use Rattle.graph_form.specs.Sets.{Among}
use Rattle.graph_form.proofs.Amongs.{among_more}
use Rattle.flow_reach.proofs.Steps.{either_way}
use Rattle.taint_flow.proofs.split.names_of.Goals as goal

pub loop-fact-init : goal.loop-fact-init
loop-fact-init c name = (λ h. (let P : List ℕ → Type 0 = λ xs. Among xs name in absurd (subst P c.new-names.ensures h)), λ h. absurd h)

pub loop-fact-preserved : goal.loop-fact-preserved
loop-fact-preserved c name =
    let xs = c.args.facts.now in
    either_way _ _ _ _ _ _ (c.in_ok-add_name.ensures name) (c.loop-fact.invariant name) (λ h. h, λ h. h) (among_more xs c.loop-fact.fact-index 0 c.loop-fact-test.true (c.args.sources + name))

pub returns : goal.returns
returns c name =
    let P : List ℕ → Type 0 = λ xs. Among c.loop-fact.names name ↔ Among xs (c.args.sources + name) in
    subst P (take_all c.loop-fact.fact-index c.args.facts.now c.loop-fact-test.false) (c.loop-fact.invariant name)
