use Rattle.std.proofs.Common.{◌↔◌, sym, subst}
use Rattle.std.specs.Prelude.{IsTrue}
use Rattle.tree_match.specs.Members.{Member}
use Rattle.member_join.specs.Ranges.{ShareByte}
use Rattle.range_algebra.proofs.Regexes.{shared_at, none_at}
use Rattle.range_algebra.proofs.condition.shares_at.Goals as goal

pub returns-then-at-members : goal.returns-then-at-members
returns-then-at-members c =
    let P : Member → Type 0 = λ m. IsTrue c.shares_byte.result ↔ ShareByte c.args.range m.0 in
    shared_at c.args.range c.args.members.now c.args.at c.index-members-at.result c.shares_byte.result c.if-at-members.true c.index-members-at.is (subst P (sym c.index-members-at.is) c.shares_byte.ensures)

pub returns : goal.returns
returns c = none_at c.args.range c.args.members.now c.args.at c.if-at-members.false
