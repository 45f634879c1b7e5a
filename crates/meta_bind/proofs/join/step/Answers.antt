use Rattle.std.proofs.Common.{sym, ◌∙◌}
use Rattle.meta_bind.specs.Bounds.{seen_held}
use Rattle.meta_bind.proofs.Joins.{rest_first, rest_second, step_less, step_same, step_greater}
use Rattle.meta_bind.proofs.join.step.Goals as goal

pub returns-in_ok-push-in-Less-clause-ascend : goal.returns-in_ok-push-in-Less-clause-ascend
returns-in_ok-push-in-Less-clause-ascend c =
    (rest_first c.args.keep seen_held c.args.a.now c.args.b.now c.args.at.0 c.args.at.1 c.index-a-i.result c.index-b-j.result c.requires.first c.requires.second c.index-a-i.is c.index-b-j.is c.requires.first_ascends, c.requires.second_ascends)

pub returns-in_ok-push-in-Less-clause-joins : goal.returns-in_ok-push-in-Less-clause-joins
returns-in_ok-push-in-Less-clause-joins c =
    step_less c.args.keep seen_held c.args.a.now c.args.b.now c.args.at.0 c.args.at.1 c.index-a-i.result c.index-b-j.result c.requires.first c.requires.second c.index-a-i.is c.index-b-j.is c.requires.first_ascends c.requires.second_ascends
    c.args.out.now.items c.push.new.self.items (sym c.cmp.ensures ∙ c.in-Less.is) c.in_ok-push-in-Less.ensures.items

pub returns-in_ok-push-in-Equal-clause-ascend : goal.returns-in_ok-push-in-Equal-clause-ascend
returns-in_ok-push-in-Equal-clause-ascend c = (
  rest_first c.args.keep seen_held c.args.a.now c.args.b.now c.args.at.0 c.args.at.1 c.index-a-i.result c.index-b-j.result c.requires.first c.requires.second c.index-a-i.is c.index-b-j.is c.requires.first_ascends,
  rest_second c.args.keep seen_held c.args.a.now c.args.b.now c.args.at.0 c.args.at.1 c.index-a-i.result c.index-b-j.result c.requires.first c.requires.second c.index-a-i.is c.index-b-j.is c.requires.second_ascends,
)

pub returns-in_ok-push-in-Equal-clause-joins : goal.returns-in_ok-push-in-Equal-clause-joins
returns-in_ok-push-in-Equal-clause-joins c =
    step_same c.args.keep seen_held c.args.a.now c.args.b.now c.args.at.0 c.args.at.1 c.index-a-i.result c.index-b-j.result c.requires.first c.requires.second c.index-a-i.is c.index-b-j.is c.requires.first_ascends c.requires.second_ascends
    c.args.out.now.items c.push-in-Equal.new.self.items c.kept.result c.kept.ensures (sym c.cmp.ensures ∙ c.in-Equal.is) c.in_ok-push-in-Equal.ensures.items

pub returns-in_ok-push-in-Greater-clause-ascend : goal.returns-in_ok-push-in-Greater-clause-ascend
returns-in_ok-push-in-Greater-clause-ascend c =
    (c.requires.first_ascends, rest_second c.args.keep seen_held c.args.a.now c.args.b.now c.args.at.0 c.args.at.1 c.index-a-i.result c.index-b-j.result c.requires.first c.requires.second c.index-a-i.is c.index-b-j.is c.requires.second_ascends)

pub returns-in_ok-push-in-Greater-clause-joins : goal.returns-in_ok-push-in-Greater-clause-joins
returns-in_ok-push-in-Greater-clause-joins c =
    step_greater c.args.keep seen_held c.args.a.now c.args.b.now c.args.at.0 c.args.at.1 c.index-a-i.result c.index-b-j.result c.requires.first c.requires.second c.index-a-i.is c.index-b-j.is c.requires.first_ascends c.requires.second_ascends
    c.args.out.now.items c.push-in-Greater.new.self.items (sym c.cmp.ensures ∙ c.in-Greater.is) c.in_ok-push-in-Greater.ensures.items
