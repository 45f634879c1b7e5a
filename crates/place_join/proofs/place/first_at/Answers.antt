use Rattle.std.proofs.Common.{sym, ◌∙◌, arith}
use Rattle.place_join.proofs.Places.{none_past, none_there, some_there}
use Rattle.place_join.proofs.place.first_at.Goals as goal

pub returns-then-members-at : goal.returns-then-members-at
returns-then-members-at c = none_past c.args.members.now c.args.one.now c.requires _ c.count_before-at.ensures c.if-members-at.true

pub returns-then-is_there : goal.returns-then-is_there
returns-then-is_there c =
    some_there c.args.members.now c.args.one.now c.requires _ c.count_before-at.ensures _ (omega (arith, c.if-members-at.false)) c.index-members-at.is (sym c.is_there.ensures ∙ c.if-is_there.true)

pub returns-else-is_there : goal.returns-else-is_there
returns-else-is_there c =
    none_there c.args.members.now c.args.one.now c.requires _ c.count_before-at.ensures _ (omega (arith, c.if-members-at.false)) c.index-members-at.is (sym c.is_there.ensures ∙ c.if-is_there.false)
