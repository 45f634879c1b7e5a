use Rattle.std.proofs.Common.{sym, ap, subst, ◌∙◌, ◌≡◌, ℕ}
use Rattle.graph_form.specs.Sets.{Among}
use Rattle.flow_graph.specs.Keys.{key_of, IsPlace}
use Rattle.flow_graph.proofs.Orders.{code_some, code_none, no_place}
use Rattle.flow_graph.proofs.arrange.add_code.Goals as goal

pub returns : goal.returns
returns c =
    let P : ℕ → Type 0 = λ k. IsPlace c.args.keys.now k c.in-Some.from in
    let Q : ℕ → Type 0 = λ k. IsPlace c.args.keys.now k c.in-Some-place_of.to in
    code_some c.args.keys.now c.args.transfer.now c.in-Some.from c.in-Some-place_of.to c.args.codes.now.items _ c.requires.ascends (subst P c.key.ensures.key c.in-Some.ensures) (subst Q c.key-2.ensures.key c.in-Some-place_of.ensures) c.in_ok-push.ensures.items

pub returns-in_default : goal.returns-in_default
returns-in_default c =
    let N : ℕ → Type 0 = λ k. Among c.args.keys.now k → ⊥ in
    code_none c.args.keys.now c.args.transfer.now c.args.codes.now.items (λ i p j q. no_place c.args.keys.now (key_of c.args.transfer.now.from) (subst N c.key.ensures.key c.in_default.ensures) i p)

pub returns-in_default-place_of : goal.returns-in_default-place_of
returns-in_default-place_of c =
    let N : ℕ → Type 0 = λ k. Among c.args.keys.now k → ⊥ in
    code_none c.args.keys.now c.args.transfer.now c.args.codes.now.items (λ i p j q. no_place c.args.keys.now (key_of c.args.transfer.now.to) (subst N c.key-2.ensures.key c.in_default-place_of.ensures) j q)
