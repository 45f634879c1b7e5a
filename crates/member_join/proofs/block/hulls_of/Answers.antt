use Rattle.std.proofs.Common.{List, sym, ap, ◌∙◌, subst}
use Rattle.std.specs.Prelude.{Vec}
use Rattle.std.specs.declared.alloc.Global.{Global}
use Rattle.member_join.specs.Blocks.{IsHullOf, AreHullsOf}
use Rattle.sorted_sets.specs.Sizes.{Each}
use Rattle.member_join.specs.declared.block.Hull.{Hull}
use Rattle.sorted_sets.proofs.Lasts.{each_snoc}
use Rattle.member_join.proofs.block.hulls_of.Goals.{in-Some+in_ok-push, in_default}
use Rattle.member_join.proofs.block.hulls_of.Goals as goal

pub loop-name-preserved : goal.loop-name-preserved
loop-name-preserved c =
    let P : List Hull → Type 0 = AreHullsOf c.args.members.now in
    let items : Vec Hull Global → List Hull = λ v. v.items in
    elim c.match-hull_of.branch [
      | in-Some+in_ok-push w ↦ subst P (sym (ap items w.hulls-is ∙ w.in_ok-push.ensures.items)) (each_snoc (λ (h : Hull). Each (IsHullOf h) c.args.members.now) _ w.in-Some.hull c.loop-name.invariant w.in-Some.ensures)
      | in_default w ↦ subst P (sym (ap items w.hulls-is)) c.loop-name.invariant
    ]
