use Rattle.std.proofs.Common.{List, sym, subst, arith}
use Rattle.std.proofs.lemmas.List.{drop_all}
use Rattle.node_match.specs.declared.class.Role.{Role}
use Rattle.node_match.specs.Kinds.{IsOne}
use Rattle.node_match.specs.Free.{Part, parts_of}
use Rattle.node_match.specs.Refused.{all_single}
use Rattle.node_match.proofs.Parts.{parts_as_many}
use Rattle.tree_match.proofs.last_states.are_single.Goals as goal

pub loop-at-preserved-in_default : goal.loop-at-preserved-in_default
loop-at-preserved-in_default c single =
    let P : List Part → Type 0 = all_single in
    c.loop-at.invariant (subst P (sym c.in_default.ensures) (tt, single))

pub loop-at-preserved : goal.loop-at-preserved
loop-at-preserved c single =
    let P : List Part → Type 0 = all_single in
    let Q : Role → Type 0 = IsOne in
    c.loop-at.invariant (subst P (sym c.in-Some.ensures) (subst Q c.role_of.ensures (c.is_one.ensures.0 c.if-not-is_one.false), single))

pub returns : goal.returns
returns c _ =
    let P : List Part → Type 0 = all_single in
    c.loop-at.invariant (subst P (sym (drop_all c.loop-at.at (parts_of c.args.pattern.now) (omega (arith, parts_as_many c.args.pattern.now, c.loop-at-test.false, c.len-at-end.ensures)))) tt)
