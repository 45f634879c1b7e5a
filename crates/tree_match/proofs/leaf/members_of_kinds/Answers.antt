use Rattle.std.proofs.Common.{ℕ, ◌≡◌, sym, ap, arith, refl, inl, inr, get_or, ◌<◌, length, List, subst}
use Rattle.std.proofs.lemmas.List.{drop_all, get_or_default, length-map}
use Rattle.tree_match.specs.Starts.{kind_at}
use Rattle.node_tree.specs.Numbers.{pre_at}
use Rattle.node_pool.specs.Spots.{seen}
use Rattle.tree_match.specs.Ascending.{IsAscending}
use Rattle.tree_match.specs.Members.{Member, member_cmp, MemberAt}
use Rattle.node_match.proofs.Sets.{gathered, gathered_all}
use Rattle.node_match.proofs.Numbering.{pre_many, one_further}
use Rattle.tree_match.proofs.MemberOrder.{next_node, start_nodes, none_in}
use Rattle.tree_match.proofs.leaf.members_of_kinds.Goals as goal

pub loop-further-init : goal.loop-further-init
loop-further-init c = record {
  few = omega (arith, ap length c.new-members.ensures);
  ordered = let P : List Member → Type 0 = λ xs. IsAscending member_cmp xs in subst P (sym c.new-members.ensures) tt;
  gathers = λ m. start_nodes (MemberAt c.args.known.names.now c.args.pattern.now) _ _ _ m c.new-members.ensures refl;
}

pub loop-further-preserved : goal.loop-further-preserved
loop-further-preserved c =
    let xs = pre_at (seen c.args.root) in
    let lt : c.loop-further.further < length xs = omega (arith, pre_many (seen c.args.root), c.size-further-end.ensures.size, c.loop-further-test.true) in
    let spot = get_or xs c.loop-further.further (seen c.args.root) in
    let is : spot ≡ get_or xs c.loop-further.further spot = get_or_default xs c.loop-further.further (seen c.args.root) spot lt in
    let here = one_further (pre_at (seen c.args.root)) c.loop-further.further spot (omega (arith, pre_many (seen c.args.root), c.size-further-end.ensures.size, c.loop-further-test.true)) is in
    record {
      few = omega (arith, c.len.ensures);
      ordered = c.in_ok-add_begun_at.ensures.ordered;
      gathers = λ m. gathered _ _ _ _ _ _ ((c.in_ok-add_begun_at.ensures.added spot is).whole (omega (arith, c.len.ensures)) m) (next_node (MemberAt c.args.known.names.now c.args.pattern.now) spot _ _ m here) (c.loop-further.invariant.gathers m);
    }

pub returns-then-len-gt-MOST_MEMBERS : goal.returns-then-len-gt-MOST_MEMBERS
returns-then-len-gt-MOST_MEMBERS c =
    let xs = pre_at (seen c.args.root) in
    let lt : c.loop-further.further < length xs = omega (arith, pre_many (seen c.args.root), c.size-further-end.ensures.size, c.loop-further-test.true) in
    let spot = get_or xs c.loop-further.further (seen c.args.root) in
    let is : spot ≡ get_or xs c.loop-further.further spot = get_or_default xs c.loop-further.further (seen c.args.root) spot lt in
    let here = one_further (pre_at (seen c.args.root)) c.loop-further.further spot (omega (arith, pre_many (seen c.args.root), c.size-further-end.ensures.size, c.loop-further-test.true)) is in
    record {
      some = c.add_begun_at.new.members;
      members = λ m h. elim ((c.in_ok-add_begun_at.ensures.added spot is).sound m h) [
        | inl a ↦ (c.loop-further.invariant.gathers m).0 (inl a)
        | inr at ↦ (c.loop-further.invariant.gathers m).0 (inr ((next_node (MemberAt c.args.known.names.now c.args.pattern.now) spot _ _ m here).1 (inl at)))
      ];
      ordered = c.in_ok-add_begun_at.ensures.ordered;
      more = omega (arith, c.len.ensures);
    }

pub returns : goal.returns
returns c =
    let done = drop_all c.loop-further.further (pre_at (seen c.args.root)) (omega (arith, pre_many (seen c.args.root), c.size-further-end.ensures.size, c.loop-further-test.false)) in (
      record {
        exact = λ m. gathered_all _ _ _ (none_in (MemberAt c.args.known.names.now c.args.pattern.now) _ m (done)) (c.loop-further.invariant.gathers m);
        ordered = c.loop-further.invariant.ordered;
      },
      c.loop-further.invariant.few,
    )

pub bounds-kinds-further : goal.bounds-kinds-further
bounds-kinds-further c = omega (arith, ap length c.requires, length-map (pre_at (seen c.args.root)) kind_at, pre_many (seen c.args.root), c.size-further-end.ensures.size, c.loop-further-test.true)

pub add_begun_at-requires-clause-kind : goal.add_begun_at-requires-clause-kind
add_begun_at-requires-clause-kind c = ap (λ (ns : List ℕ). get_or ns c.loop-further.further 0) c.requires
