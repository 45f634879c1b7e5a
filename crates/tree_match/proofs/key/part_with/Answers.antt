use Rattle.std.proofs.Common.{List, subst}
use Rattle.std.specs.Prelude.{None, Some}
use Rattle.meta_bind.specs.declared.bound.Bound.{Bound}
use Rattle.node_match.specs.declared.class.Role.{Role}
use Rattle.node_match.specs.Kinds.{IsOne}
use Rattle.node_match.specs.Free.{parts_of}
use Rattle.node_search.specs.Steady.{IsSteady}
use Rattle.tree_match.proofs.KeyLaws.{before_more}
use Rattle.tree_match.proofs.key.part_with.Goals as goal

pub loop-at-preserved-in_default : goal.loop-at-preserved-in_default
loop-at-preserved-in_default c = before_more c.loop-at.at (parts_of c.args.pattern.now) _ None c.loop-at.invariant c.in_default.ensures tt

pub loop-at-preserved : goal.loop-at-preserved
loop-at-preserved c =
    let P : Role → Type 0 = IsOne in
    let Q : List Bound → Type 0 = λ b. IsSteady b c.in-Some.part.now in
    before_more c.loop-at.at (parts_of c.args.pattern.now) _ (Some c.in-Some.part.now) c.loop-at.invariant c.in-Some.ensures
    (subst P c.role_of.ensures (c.is_one.ensures.0 c.if-not-is_one.false), subst Q c.new-none.ensures (c.in_ok-is_steady.ensures c.if-not-branch.false))
