use Rattle.std.proofs.Common.{arith, refl, subst, sym, ◌∙◌, List, ℕ, ◌≡◌, ◌↔◌, IsTrue}
use Rattle.std.proofs.lemmas.Option.{slice_get_read}
use Rattle.graph_form.specs.Sets.{Among}
use Rattle.flow_reach.proofs.Steps.{not_true}
use Rattle.trace_path.proofs.check.has_edge.Goals as goal

pub returns-then-from-after : goal.returns-then-from-after
returns-then-from-after c = (λ t. absurd (not_true t), λ edge. absurd (omega (arith, c.requires.fits c.args.from c.args.to edge, c.requires.after.size, c.if-from-after.true)))

pub returns : goal.returns
returns c =
    let at = slice_get_read c.args.after.now _ c.args.from c.index-after-from.result refl c.if-from-after.false c.index-after-from.is in
    let row = (c.requires.after.each c.args.from c.index-after-from.result at).0 c.args.to in
    let P : List ℕ → Type 0 = λ xs. Among xs c.args.to in
    (λ t. row.0 (subst P c.deref.ensures.value (c.among.ensures.0 t)), λ edge. c.among.ensures.1 (subst P (sym c.deref.ensures.value) (row.1 edge)))
