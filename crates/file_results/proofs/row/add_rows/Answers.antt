use Rattle.std.proofs.Common.{◌+◌, refl, drop}
use Rattle.std.proofs.lemmas.List.{drop_all}
use Rattle.meta_bind.proofs.Lookups.{opened}
use Rattle.file_results.proofs.Hits.{hits_start, hits_on, hits_end}
use Rattle.file_results.proofs.row.add_rows.Goals as goal

pub loop-finding-init : goal.loop-finding-init
loop-finding-init c = let fs = c.args.findings.now in hits_start c.args.number c.args.id.now c.args.rows.now.items fs (drop 0 fs) refl

pub loop-finding-preserved : goal.loop-finding-preserved
loop-finding-preserved c =
    let i = c.loop-finding.finding-index in
    let fs = c.args.findings.now in
    let f = c.finding-item.result in
    hits_on c.args.number c.args.id.now _ c.loop-finding.rows.items c.push.new.self.items fs (drop i fs) (drop (i + 1) fs) f c.in_ok-of.field-0 c.loop-finding.invariant (opened fs i f c.loop-finding-test.true c.finding-item.is) c.in_ok-push.ensures.items c.in_ok-of.ensures

pub returns : goal.returns
returns c = let fs = c.args.findings.now in hits_end c.args.number c.args.id.now _ c.loop-finding.rows.items fs (drop c.loop-finding.finding-index fs) c.loop-finding.invariant (drop_all c.loop-finding.finding-index fs c.loop-finding-test.false)
