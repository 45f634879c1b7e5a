use Rattle.std.proofs.Common.{sym, subst, ◌∙◌, List, ℕ, ◌≡◌, ◌↔◌, get_or}
use Rattle.std.proofs.lemmas.Option.{slice_get_read}
use Rattle.graph_form.specs.Sets.{Among}
use Rattle.flow_reach.specs.declared.moves.Move.{Move}
use Rattle.trace_path.specs.Along.{TurnedBy}
use Rattle.trace_path.proofs.Follow.{follows_is, no_edge}
use Rattle.trace_path.proofs.check.follow.Goals as goal

pub returns-then-not-has_edge-clause-same : goal.returns-then-not-has_edge-clause-same
returns-then-not-has_edge-clause-same c g = no_edge c.args.graph.now c.args.moves.now c.args.from c.args.to c.args.facts.now c.new.result.items c.has_edge.result c.has_edge.ensures c.if-not-has_edge.true c.new.ensures.items g

pub returns-clause-same : goal.returns-clause-same
returns-clause-same c g =
    let edge = c.has_edge.ensures.0 c.if-not-has_edge.false in
    let M : List Move → Type 0 = λ ms. c.index-as_slice-from.result ≡ get_or ms c.args.from c.index-as_slice-from.result in
    let at = slice_get_read c.args.moves.now.rows _ c.args.from c.index-as_slice-from.result (sym c.requires.fits.rows) (c.requires.fits.edges c.args.from c.args.to edge).0 (subst M c.as_slice.ensures c.index-as_slice-from.is) in
    let T : List ℕ → Type 0 = λ xs. (x : ℕ) → Among c.in_ok-later.later.items x ↔ Among xs x in
    let same = subst T c.deref.ensures.value c.in_ok-later.ensures.same in
    follows_is c.args.graph.now c.args.moves.now c.args.from c.args.to c.index-as_slice-from.result c.args.facts.now c.in_ok-later.later.items edge at (λ x. let a = same x in let b = c.in_ok-turned.ensures x in (λ h. b.0 (a.0 h), λ h. a.1 (b.1 h))) g
