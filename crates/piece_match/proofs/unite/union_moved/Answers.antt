use Rattle.std.proofs.Common.{◌≡◌, inl, inr, List, length, refl, sym, ap, arith, ◌∙◌}
use Rattle.std.proofs.lemmas.Bool.{eqb-true}
use Rattle.tree_match.specs.Members.{Member}
use Rattle.piece_match.proofs.Unions.{crowded_part, none_more, moved_calm, moved_some}
use Rattle.piece_match.proofs.unite.union_moved.Goals as goal

pub loop-part-preserved : goal.loop-part-preserved
loop-part-preserved c =
    let l = c.loop-part in
    record {
      few = omega (arith, c.len.ensures);
      ordered = c.in_ok-members.ensures.ordered;
      calm = λ a. moved_calm c.args.parts.now l.part-index c.part-item.result c.loop-part-test.true c.part-item.is _ c.in-Full.is (l.invariant.calm a);
      gathers = λ m. moved_some c.args.parts.now l.part-index c.part-item.result c.loop-part-test.true c.part-item.is _ c.in-Full.is _ l.members _ m (c.into_members.ensures.members ∙ c.in_ok-later.ensures) (c.in_ok-members.ensures.same m) (l.invariant.gathers m);
    }

pub returns-in_default : goal.returns-in_default
returns-in_default c = inl (crowded_part c.args.parts.now c.loop-part.part-index c.part-item.result c.loop-part-test.true c.part-item.is c.in_default.is)

pub returns-then-len-gt-MOST_MEMBERS : goal.returns-then-len-gt-MOST_MEMBERS
returns-then-len-gt-MOST_MEMBERS c =
    let l = c.loop-part in
    inr (record {
      some = c.in_ok-members.members;
      members = λ m h. (moved_some c.args.parts.now l.part-index c.part-item.result c.loop-part-test.true c.part-item.is _ c.in-Full.is _ l.members _ m (c.into_members.ensures.members ∙ c.in_ok-later.ensures) (c.in_ok-members.ensures.same m) (l.invariant.gathers m)).0 (inl h);
      ordered = c.in_ok-members.ensures.ordered;
      more = omega (arith, c.len.ensures);
    })

pub loop-part-preserved-then-is_empty : goal.loop-part-preserved-then-is_empty
loop-part-preserved-then-is_empty c =
    let l = c.loop-part in
    let none : length c.in-Full.set ≡ 0 =
    ap (λ (ms : List Member). length ms) (sym c.members-in-loop-part.ensures.members) ∙ eqb-true (length c.members-in-loop-part.result.now) 0 (sym c.if-is_empty.ensures) in
    record {
      few = l.invariant.few;
      ordered = l.invariant.ordered;
      calm = λ a. moved_calm c.args.parts.now l.part-index c.part-item.result c.loop-part-test.true c.part-item.is _ c.in-Full.is (l.invariant.calm a);
      gathers = λ m. moved_some c.args.parts.now l.part-index c.part-item.result c.loop-part-test.true c.part-item.is _ c.in-Full.is _ l.members _ m refl (none_more c.part-item.result.start c.in-Full.set l.members m none) (l.invariant.gathers m);
    }
