use Rattle.std.proofs.Common.{◌↔◌, List, subst, arith, refl}
use Rattle.std.proofs.lemmas.List.{drop_all}
use Rattle.node_match.specs.Free.{Part, parts_of}
use Rattle.node_match.specs.Refused.{all_single}
use Rattle.node_match.proofs.Parts.{parts_as_many}
use Rattle.node_match.proofs.refusal.are_single.Goals as goal

pub returns : goal.returns
returns c =
    let ps = parts_of c.args.pattern.now in
    let P : List Part → Type 0 = λ qs. all_single ps ↔ all_single qs in
    let all = subst P (drop_all c.loop-at.at ps (omega (arith, parts_as_many c.args.pattern.now, c.loop-at-test.false, c.len-at-end.ensures))) c.loop-at.invariant in
    (λ _. all.1 tt, λ _. refl)
