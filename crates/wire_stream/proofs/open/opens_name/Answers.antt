use Rattle.wire_stream.proofs.Fills.{refuted, no_way}
use Rattle.wire_stream.proofs.open.opens_name.Goals as goal

pub returns-clause-closed : goal.returns-clause-closed
returns-clause-closed c = λ f. no_way c.args.bytes.now
    (refuted c.in_ok-bare.bare _ c.if-bare.false c.in_ok-bare.ensures.1)
    (refuted c.in_ok-letter.letter _ c.if-letter.false c.in_ok-letter.ensures.1)
    (refuted c.in_ok-one.one _ c.if-one.false c.in_ok-one.ensures.1)
    (refuted c.in_ok-pair.pair _ c.if-pair.false c.in_ok-pair.ensures.1)
    (refuted c.in_ok-triple.triple _ c.if-triple.false c.in_ok-triple.ensures.1)
    (refuted c.in_ok-high_pair.high_pair _ c.if-high_pair.false c.in_ok-high_pair.ensures.1)
    (refuted c.in_ok-high_triple.high_triple _ f c.in_ok-high_triple.ensures.1)
