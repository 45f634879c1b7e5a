use Rattle.std.proofs.Common.{subst, List, ℕ, ◌≡◌, ◌↔◌, take}
use Rattle.std.proofs.lemmas.List.{take_all}
use Rattle.graph_form.specs.Sets.{Among}
use Rattle.flow_edges.specs.declared.transfer.Transfer.{Transfer}
use Rattle.flow_graph.specs.Keys.{IsCode}
use Rattle.flow_graph.proofs.Orders.{codes_more}
use Rattle.flow_graph.proofs.arrange.codes_of.Goals as goal

pub loop-transfer-preserved : goal.loop-transfer-preserved
loop-transfer-preserved c = codes_more c.args.keys.now c.args.transfers.now c.loop-transfer.transfer-index _ _ _ c.loop-transfer-test.true c.loop-transfer.invariant c.in_ok-add_code.ensures

pub returns : goal.returns
returns c x =
    let whole : take c.loop-transfer.transfer-index c.args.transfers.now ≡ c.args.transfers.now = take_all c.loop-transfer.transfer-index c.args.transfers.now c.loop-transfer-test.false in
    let P : List Transfer → Type 0 = λ ts. Among c.loop-transfer.codes.items x ↔ IsCode c.args.keys.now ts x in
    subst P whole (c.loop-transfer.invariant x)
