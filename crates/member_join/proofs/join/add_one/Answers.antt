use Rattle.std.proofs.Common.{sym, ◌∙◌}
use Rattle.node_match.proofs.Sets.{adds_none}
use Rattle.member_join.proofs.Added.{with_agreement, needed_touches}
use Rattle.member_join.proofs.join.add_one.Goals as goal

pub returns-then-not-touches : goal.returns-then-not-touches
returns-then-not-touches c =
    adds_none _ _ (λ x p. let e = sym (c.touches.ensures.1 (needed_touches c.args.role c.args.state.now c.args.member.now c.args.later.now x p.0 p.1)) ∙ c.if-not-touches.true in cc)

pub returns-then-not-agrees : goal.returns-then-not-agrees
returns-then-not-agrees c = adds_none _ _ (λ x p. let e = sym (c.agrees.ensures.1 p.0.0) ∙ c.if-not-agrees.true in cc)

pub returns : goal.returns
returns c =
    with_agreement c.args.role c.args.state.now c.args.member.now c.args.later.now _ _ c.in_ok-joined.field-0 c.in_ok-joined.ensures (let f = c.agrees.ensures.0 in let t = c.if-not-agrees.false in f t) _ c.add_needed.ensures
