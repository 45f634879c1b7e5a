use Rattle.member_join.specs.Blocks.{AreHullsOf}
use Rattle.member_join.proofs.block.hulls_of.Given as goal

abbrev pub invariant-loop-name : goal.invariant-loop-name
invariant-loop-name l = AreHullsOf l.members l.hulls.items
