use Rattle.std.proofs.Common.{◌+◌, refl, drop}
use Rattle.std.proofs.lemmas.List.{drop_all}
use Rattle.meta_bind.proofs.Lookups.{opened}
use Rattle.node_match.proofs.Sets.{among_at}
use Rattle.file_results.proofs.Hits.{all_start, all_on, all_end}
use Rattle.file_results.proofs.row.rows_of.Goals as goal

pub loop-one-init : goal.loop-one-init
loop-one-init c = let js = c.args.judged.now in all_start c.args.running.now c.new-rows.result.items js (drop 0 js) c.new-rows.ensures.items refl

pub rule_at-requires : goal.rule_at-requires
rule_at-requires c = c.requires c.one-item.result (among_at c.args.judged.now c.loop-one.one-index c.one-item.result c.loop-one-test.true c.one-item.is)

pub loop-one-preserved : goal.loop-one-preserved
loop-one-preserved c =
    let i = c.loop-one.one-index in
    let js = c.args.judged.now in
    let j = c.one-item.result in
    all_on c.args.running.now c.loop-one.rows.items c.add_rows.new.rows.items js (drop i js) (drop (i + 1) js) j c.rule_at.result.now c.as_str-id.result.now c.findings.result.now c.loop-one.invariant (opened js i j c.loop-one-test.true c.one-item.is) c.rule_at.ensures c.as_str-id.ensures c.findings.ensures c.in_ok-add_rows.ensures

pub returns : goal.returns
returns c = let js = c.args.judged.now in all_end c.args.running.now c.loop-one.rows.items js (drop c.loop-one.one-index js) c.loop-one.invariant (drop_all c.loop-one.one-index js c.loop-one-test.false)
