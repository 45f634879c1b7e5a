use Rattle.std.proofs.Common.{◌≡◌, ◌↔◌, ◌∙◌, List, subst}
use Rattle.std.proofs.lemmas.List.{take_all}
use Rattle.tree_match.specs.Members.{Member}
use Rattle.node_match.specs.Sets.{Among}
use Rattle.sorted_sets.proofs.Settling.{same_items}
use Rattle.member_join.proofs.block.sorted.Goals as goal

pub returns : goal.returns
returns c =
    let all : c.loop-member.sorted.items ≡ c.args.members.now = c.loop-member.invariant ∙ take_all _ _ c.loop-member-test.false in
    let P : List Member → Type 0 = λ xs. (m : Member) → Among c.sort_by.new.self.items m ↔ Among xs m in
    subst P all (same_items _ _ c.sort_by.ensures.permutation)
