use Rattle.std.proofs.Common.{arith, subst, sym, List, ℕ}
use Rattle.graph_form.specs.declared.graph.Edge.{Edge}
use Rattle.flow_reach.specs.declared.moves.Move.{Move}
use Rattle.flow_reach.specs.Fitting.{AreBelow, AreEdgesBelow, SpeakOf}
use Rattle.flow_reach.proofs.Steps.{not_true}
use Rattle.flow_reach.proofs.Sorted.{got_among, among_got}
use Rattle.flow_reach.proofs.fitting.fits.Goals as goal

pub returns-then-not-edges_below : goal.returns-then-not-edges_below
returns-then-not-edges_below c = (
  λ t. absurd (not_true t),
  λ fits.
      let P : List Edge → Type 0 = λ es. AreEdgesBelow es c.len-points.result in
      let there : AreEdgesBelow c.args.graph.now.edges c.len-points.result = λ e among. let r = fits.edges e.from e.to among in (omega (arith, r.0, c.len-points.ensures), omega (arith, r.1, c.len-points.ensures)) in
      let t = c.edges_below.ensures.1 (subst P (sym c.as_slice.ensures) there) in
      let f = c.if-not-edges_below.true in
      absurd cc,
)

pub returns-then-not-below : goal.returns-then-not-below
returns-then-not-below c = (
  λ t. absurd (not_true t),
  λ fits.
      let P : List ℕ → Type 0 = λ xs. AreBelow xs c.args.moves.now.facts in
      let t = c.below.ensures.1 (subst P (sym c.as_slice-2.ensures) fits.start) in
      let f = c.if-not-below.true in
      absurd cc,
)

pub returns : goal.returns
returns c =
    let E : List Edge → Type 0 = λ es. AreEdgesBelow es c.len-points.result in
    let P : List ℕ → Type 0 = λ xs. AreBelow xs c.args.moves.now.facts in
    let R : List Move → Type 0 = λ rows. SpeakOf c.args.moves.now.facts rows in (
      λ t. record {
        entry = omega (arith, c.if-points-eq0.false, c.len-points.ensures);
        few = omega (arith, c.if-points-gt4294967295.false, c.len-points.ensures);
        edges = λ from to among.
            let r = subst E c.as_slice.ensures (c.edges_below.ensures.0 c.if-not-edges_below.false) (record { from = from; to = to }) among in
            (omega (arith, r.0, c.len-points.ensures), omega (arith, r.1, c.len-points.ensures));
        rows = omega (arith, c.if-len-points.false, c.len.ensures, c.len-points.ensures);
        start = subst P c.as_slice-2.ensures (c.below.ensures.0 c.if-not-below.false);
        speaks = λ point row got. subst R c.as_slice-3.ensures (c.speak_of.ensures.0 t) row (got_among c.args.moves.now.rows point row got);
      },
      λ fits. c.speak_of.ensures.1 (subst R (sym c.as_slice-3.ensures) (λ row among. let g = among_got c.args.moves.now.rows row among in fits.speaks g.0 row g.1)),
    )
