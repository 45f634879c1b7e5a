use Rattle.std.proofs.Common.{◌∙◌, sym, subst, List, arith}
use Rattle.node_tree.specs.declared.known.Known.{Known}
use Rattle.node_tree.specs.KnownNames.{AreInOrder}
use Rattle.piece_match.proofs.Names.{names_start, behind_start, names_step, behind_step, names_end, names_all, between_ordered}
use Rattle.piece_match.proofs.cut.names_between.Goals as goal

pub loop-i-init : goal.loop-i-init
loop-i-init c = record {
  kept = names_start c.args.first c.args.end c.args.known.now c.new-kept.result c.args.next c.new-kept.ensures c.requires.behind;
  behind = behind_start c.args.first c.args.end c.args.known.now c.args.next c.requires.further c.requires.behind;
}

pub loop-i-preserved : goal.loop-i-preserved
loop-i-preserved c =
    let l = c.loop-i in
    let one = c.index-known-i.result in
    record {
      kept = names_step c.args.first c.args.end c.args.known.now l.i one c.loop-i-test.true c.index-known-i.is l.kept _ (omega arith) c.in_ok-add_name.ensures l.invariant.kept;
      behind = behind_step c.args.first c.args.end c.args.known.now l.i one c.loop-i-test.true c.index-known-i.is (omega arith) l.invariant.behind;
    }

pub returns-then-end-one-clause-kept : goal.returns-then-end-one-clause-kept
returns-then-end-one-clause-kept c =
    let l = c.loop-i in
    c.of.ensures ∙ names_end c.args.first c.args.end c.args.known.now l.i c.index-known-i.result c.loop-i-test.true c.index-known-i.is l.kept c.requires.ordered (omega arith) l.invariant.kept

pub of-requires : goal.of-requires
of-requires c =
    let l = c.loop-i in
    let kept = names_end c.args.first c.args.end c.args.known.now l.i c.index-known-i.result c.loop-i-test.true c.index-known-i.is l.kept c.requires.ordered (omega arith) l.invariant.kept in
    let P : List Known → Type 0 = AreInOrder in
    subst P (sym kept) (between_ordered c.args.first c.args.end c.args.known.now c.requires.ordered)

pub of-requires-2 : goal.of-requires-2
of-requires-2 c =
    let l = c.loop-i in
    let kept = names_all c.args.first c.args.end c.args.known.now l.kept l.i (omega arith) l.invariant.kept in
    let P : List Known → Type 0 = AreInOrder in
    subst P (sym kept) (between_ordered c.args.first c.args.end c.args.known.now c.requires.ordered)
