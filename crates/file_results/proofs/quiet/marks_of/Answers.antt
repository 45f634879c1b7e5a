use Rattle.std.proofs.Common.{◌+◌, ℕ, List, ap, ◌∙◌, drop}
use Rattle.meta_bind.proofs.Lookups.{opened}
use Rattle.quieting.specs.Lines.{is_quieted}
use Rattle.file_results.specs.Quieted.{is_quieted_by}
use Rattle.file_results.proofs.Quieted.{marked_on}
use Rattle.file_results.proofs.quiet.marks_of.Goals as goal

pub loop-one-preserved : goal.loop-one-preserved
loop-one-preserved c =
    let i = c.loop-one.one-index in
    let quiets = c.args.quiets.now in
    let found = c.args.found.now in
    let r = c.one-item.result in
    let is = c.is_quieted-mark.ensures quiets c.in_ok-lines.ensures ∙ ap (λ (id : List ℕ). is_quieted quiets r.start.line id) c.as_str.ensures in
    marked_on (is_quieted_by quiets) found (drop i found) (drop (i + 1) found) r c.loop-one.marks.items c.push.new.self.items c.is_quieted-mark.result c.loop-one.invariant (opened found i r c.loop-one-test.true c.one-item.is) is c.in_ok-push.ensures.items
