use Rattle.std.proofs.Common.{◌+◌, ◌-◌, suc, List, ℕ, Option, reverse, ap, sym, ◌∙◌, subst, arith, refl}
use Rattle.std.proofs.lemmas.Result.{err_from_is_err_and}
use Rattle.yaml_cells.specs.declared.value.YValue.{YValue}
use Rattle.yaml_read.specs.Building.{Built, Leaves, node_at, items_at, entries_at, flow_at}
use Rattle.yaml_read.proofs.Steps.{with_items, with_entries, items_begin, entries_begin, flow_begin, steps_is, items_turn, entries_turn, flow_turn, sequence_done, mapping_gives, mapping_bad, bracketed_broken, bracketed_done, node_dash, node_key, node_scalar, node_open}
use Rattle.yaml_read.proofs.build.+build.Goals as goal

pub entries-loop-turn-init : goal.entries-loop-turn-init
entries-loop-turn-init t c = record {
  turns = omega arith;
  most = steps_is c.args.cells.now c.len-most.result c.len-most.ensures;
  rest = entries_begin (node_at c.args.room) (suc c.len-most.result) c.args.column (reverse c.args.cells.now) c.new-all.result c.new-all.ensures;
}

pub entries-returns-in_default : goal.entries-returns-in_default
entries-returns-in_default t c =
    mapping_gives (node_at c.args.room) c.len-most.result c.loop-turn.turn c.args.column (reverse c.args.cells.now) (reverse c.loop-turn.cells) (reverse c.take_key.new.cells) c.loop-turn.all c.mapping.result
    c.loop-turn.invariant.most c.loop-turn.invariant.rest c.loop-turn-test.true c.in_default.ensures.0 c.in_default.ensures.1 c.mapping.ensures

pub entries-returns-in_err-value : goal.entries-returns-in_err-value
entries-returns-in_err-value t c =
    let p = err_from_is_err_and c.from_residual.result c.from_residual.ensures.1 in
    rw (p.1, p.2)
    (mapping_bad (node_at c.args.room) c.len-most.result c.loop-turn.turn c.args.column (reverse c.args.cells.now) (reverse c.loop-turn.cells) (reverse c.take_key.new.cells) (reverse c.node.new.cells) c.loop-turn.all c.in-Some.key c.below_key-least.result c.in_err-value.field-0.0
    c.loop-turn.invariant.most c.loop-turn.invariant.rest c.loop-turn-test.true c.in-Some.ensures c.below_key-least.ensures c.in_err-value.ensures)

pub entries-loop-turn-preserved : goal.entries-loop-turn-preserved
entries-loop-turn-preserved t c =
    let least = ap (λ (x : ℕ). node_at c.args.room x (reverse c.take_key.new.cells)) (sym c.below_key-least.ensures) ∙ c.in_ok-value.ensures in
    record {
      turns = omega arith;
      most = c.loop-turn.invariant.most;
      rest = c.loop-turn.invariant.rest
          ∙ entries_turn (node_at c.args.room) (suc c.len-most.result) c.loop-turn.turn c.args.column (reverse c.loop-turn.cells) (reverse c.take_key.new.cells) (reverse c.node.new.cells) c.loop-turn.all c.in-Some.key c.in_ok-value.value (omega arith) c.in-Some.ensures least
          ∙ ap (λ (x : List (List ℕ × YValue)). with_entries x (entries_at (node_at c.args.room) (suc c.len-most.result - (c.loop-turn.turn + 1)) c.args.column (reverse c.node.new.cells))) (sym c.in_ok-push.ensures.ok);
    }

pub flow-loop-turn-init : goal.flow-loop-turn-init
flow-loop-turn-init t c = record {
  turns = omega arith;
  most = steps_is c.args.cells.now c.len-most.result c.len-most.ensures;
  rest = flow_begin (node_at c.args.room 0) (suc c.len-most.result) (reverse c.args.cells.now) c.new-all.result c.new-all.ensures;
}

pub items-loop-turn-init : goal.items-loop-turn-init
items-loop-turn-init t c = record {
  turns = omega arith;
  most = steps_is c.args.cells.now c.len-most.result c.len-most.ensures;
  rest = items_begin (node_at c.args.room (c.args.column + 1)) (suc c.len-most.result) c.args.column (reverse c.args.cells.now) c.new-all.result c.new-all.ensures;
}

pub items-returns-then-not-is_dash : goal.items-returns-then-not-is_dash
items-returns-then-not-is_dash t c =
    sequence_done (node_at c.args.room) c.len-most.result c.loop-turn.turn c.args.column (reverse c.args.cells.now) (reverse c.loop-turn.cells) c.loop-turn.all c.loop-turn.invariant.most c.loop-turn.invariant.rest (sym c.if-not-is_dash.ensures)

pub items-loop-turn-preserved : goal.items-loop-turn-preserved
items-loop-turn-preserved t c = record {
  turns = omega arith;
  most = c.loop-turn.invariant.most;
  rest = c.loop-turn.invariant.rest
      ∙ items_turn (node_at c.args.room (c.args.column + 1)) (suc c.len-most.result) c.loop-turn.turn c.args.column (reverse c.loop-turn.cells) (reverse c.skip.new.cells) (reverse c.node.new.cells) c.loop-turn.all c.in_ok-item.item (omega arith) (sym c.if-not-is_dash.ensures) c.skip.ensures c.in_ok-item.ensures
      ∙ ap (λ (x : List YValue). with_items x (items_at (node_at c.args.room (c.args.column + 1)) (suc c.len-most.result - (c.loop-turn.turn + 1)) c.args.column (reverse c.node.new.cells))) (sym c.in_ok-push.ensures.ok);
}

pub node-returns-in-Dash : goal.node-returns-in-Dash
node-returns-in-Dash t c =
    let P : Option Built → Type 0 = λ x. Leaves x c.items.result (reverse c.items.new.cells) in
    subst P (sym (node_dash c.args.room c.args.least c.in-Dash.column (reverse c.args.cells.now) c.if-room-eq0.false c.in-Dash.ensures)) c.items.ensures

pub node-returns-in-Key : goal.node-returns-in-Key
node-returns-in-Key t c =
    let P : Option Built → Type 0 = λ x. Leaves x c.entries.result (reverse c.entries.new.cells) in
    subst P (sym (node_key c.args.room c.args.least c.in-Key.column (reverse c.args.cells.now) c.if-room-eq0.false c.in-Key.ensures)) c.entries.ensures

pub node-returns-in-Scalar : goal.node-returns-in-Scalar
node-returns-in-Scalar t c =
    let P : Option Built → Type 0 = λ x. Leaves x c.scalar.result (reverse c.scalar.new.cells) in
    subst P (sym (node_scalar c.args.room c.args.least (reverse c.args.cells.now) c.if-room-eq0.false c.in-Scalar.ensures)) c.scalar.ensures

pub node-returns-in-Open : goal.node-returns-in-Open
node-returns-in-Open t c =
    let P : Option Built → Type 0 = λ x. Leaves x c.flow.result (reverse c.flow.new.cells) in
    subst P (sym (node_open c.args.room c.args.least (reverse c.args.cells.now) (reverse c.skip.new.cells) c.if-room-eq0.false c.in-Open.ensures c.skip.ensures)) c.flow.ensures

pub flow-returns-then-not-go_on : goal.flow-returns-then-not-go_on
flow-returns-then-not-go_on t c = (
  refl,
  bracketed_broken (node_at c.args.room) c.len-most.result c.loop-turn.turn (reverse c.args.cells.now) (reverse c.loop-turn.cells) (reverse c.node.new.cells) c.loop-turn.all c.in_ok-item.item
      c.loop-turn.invariant.most c.loop-turn.invariant.rest c.loop-turn-test.true (sym c.if-is_close.ensures) (sym c.if-not-is_item.ensures) c.in_ok-item.ensures c.if-not-go_on.ensures,
)

pub flow-loop-turn-preserved : goal.flow-loop-turn-preserved
flow-loop-turn-preserved t c = record {
  turns = omega arith;
  most = c.loop-turn.invariant.most;
  rest = c.loop-turn.invariant.rest
      ∙ flow_turn (node_at c.args.room 0) (suc c.len-most.result) c.loop-turn.turn (reverse c.loop-turn.cells) (reverse c.node.new.cells) (reverse c.go_on.new.cells) c.loop-turn.all c.in_ok-item.item (omega arith) (sym c.if-is_close.ensures) (sym c.if-not-is_item.ensures) c.in_ok-item.ensures c.if-not-go_on.ensures
      ∙ ap (λ (x : List YValue). with_items x (flow_at (node_at c.args.room 0) (suc c.len-most.result - (c.loop-turn.turn + 1)) (reverse c.go_on.new.cells))) (sym c.in_ok-push.ensures.ok);
}

pub flow-returns-then-is_close : goal.flow-returns-then-is_close
flow-returns-then-is_close t c =
    bracketed_done (node_at c.args.room) c.len-most.result c.loop-turn.turn (reverse c.args.cells.now) (reverse c.loop-turn.cells) (reverse c.skip.new.cells) c.loop-turn.all
    c.loop-turn.invariant.most c.loop-turn.invariant.rest c.loop-turn-test.true (sym c.if-is_close.ensures) c.skip.ensures
