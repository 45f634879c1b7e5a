use Rattle.std.proofs.Common.{ap, sym, ◌∙◌, arith, ◌+◌, drop}
use Rattle.yaml_cells.specs.Block.{before}
use Rattle.yaml_cells.proofs.Rows.{row_gap, row_bad, row_said, row_pushed, empty}
use Rattle.yaml_cells.proofs.block.block_of.Goals as goal
use Rattle.yaml_cells.proofs.block.block_of.Goals.{in-None, in-Some+in-Ok+in_ok-push_before-in-Some+in_ok-push-in-Some}

pub returns-in_default : goal.returns-in_default
returns-in_default c =
    sym
    (c.loop-at.invariant.said
    ∙ ap (before c.loop-at.content)
    (row_bad c.args.header c.column_of-column.result c.args.ended c.loop-at.last c.loop-at.gap c.args.body.now c.loop-at.at c.index-body-at.result c.as_bytes.result.now c.past_column-row.result.now c.loop-at-test.true (c.as_bytes.ensures.value ∙ c.as_str.ensures ∙ c.index-body-at.is) c.past_column-row.ensures c.in-Some.first.now c.in-Some.field-0-1.now c.in-Some.ensures.cases.0 c.in_default.ensures.cases.0))

pub loop-at-preserved : goal.loop-at-preserved
loop-at-preserved c =
    elim c.match-split_first.branch [
      | in-None w ↦
          record {
            said = rw (w.content-is, w.last-is, w.gap-is)
                (c.loop-at.invariant.said ∙ ap (before c.loop-at.content)
                (row_gap c.args.header c.column_of-column.result c.args.ended c.loop-at.last c.loop-at.gap c.args.body.now c.loop-at.at c.index-body-at.result c.as_bytes.result.now c.past_column-row.result.now c.loop-at-test.true (c.as_bytes.ensures.value ∙ c.as_str.ensures ∙ c.index-body-at.is) c.past_column-row.ensures (empty c.past_column-row.result.now w.in-None.ensures.cases)));
            gap = omega (arith, w.gap-is, c.loop-at.invariant.gap);
          }
      | in-Some+in-Ok+in_ok-push_before-in-Some+in_ok-push-in-Some w ↦
          record {
            said = rw (w.content-is, w.last-is, w.gap-is)
                (c.loop-at.invariant.said ∙ ap (before c.loop-at.content)
                (row_said c.args.header c.column_of-column.result c.args.ended c.loop-at.last c.loop-at.gap c.args.body.now c.loop-at.at c.index-body-at.result c.as_bytes.result.now c.past_column-row.result.now c.loop-at-test.true (c.as_bytes.ensures.value ∙ c.as_str.ensures ∙ c.index-body-at.is) c.past_column-row.ensures w.in-Some.first.now w.in-Some.field-0-1.now w.in-Some.ensures.cases.0 w.in-Ok.ensures.cases.1)
                ∙ row_pushed c.args.header c.column_of-column.result c.args.ended c.loop-at.last c.loop-at.gap (drop (c.loop-at.at + 1) c.args.body.now) w.in-Some.first.now c.loop-at.content w.push_before.new.content w.push.new.self c.past_column-row.result.now w.in-Ok.text.now w.is_kept-kept.result w.is_kept-kept.ensures w.in_ok-push_before-in-Some.ensures w.in_ok-push-in-Some.ensures.ok w.in-Ok.ensures.cases.0);
            gap = omega (arith, w.gap-is);
          }
    ]
