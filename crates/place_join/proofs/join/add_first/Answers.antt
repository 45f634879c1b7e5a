use Rattle.std.proofs.Common.{sym, ◌∙◌}
use Rattle.node_match.proofs.Sets.{adds_none}
use Rattle.place_join.proofs.Firsts.{found_none, found_taken, only, adds_if}
use Rattle.place_join.proofs.join.add_first.Goals as goal

pub returns-then-is_some : goal.returns-then-is_some
returns-then-is_some c = adds_none _ _ (found_taken c.args.plain.now c.args.further.now c.args.one.now _ c.first_at.ensures (sym c.is_some.ensures ∙ c.if-is_some.true))

pub returns : goal.returns
returns c =
    adds_if _ _ _ _ _ c.add.ensures (only c.args.plain.now c.args.further.now c.args.one.now _ (found_none c.args.plain.now c.args.one.now _ c.first_at.ensures (sym c.is_some.ensures ∙ c.if-is_some.false)) c.in-Some.ensures)
