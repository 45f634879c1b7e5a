use Rattle.std.proofs.Common.{rules, arith, refl, ◌∙◌, ap}
use Rattle.node_pool.proofs.Placing.{begun, placed_more, fits, all_placed, count_done, trees_more, count_is}
use Rattle.std.proofs.Common.{length, length-append}
use Rattle.node_tree.specs.declared.node.Node.{Node, the_lemmas}
use Rattle.node_pool.proofs.put.+put.Goals as goal

pub add-requires : goal.add-requires
add-requires t c = omega (arith, c.requires.room, count_is c.args.tree.now)

pub loop-kid-init : goal.loop-kid-init
loop-kid-init t c = record {
  entries = begun _ _ _ _ c.as_slice-kid-items.result.now c.add.ensures.items refl;
  size = refl;
  memory = c.add.ensures.memory;
}

pub loop-kid-preserved : goal.loop-kid-preserved
loop-kid-preserved t c = record {
  entries = placed_more _ _ _ _ _ _ _ c.loop-kid.invariant.entries c.put-size.ensures.entries c.loop-kid-test.true c.kid-item.is;
  size = omega (arith, c.loop-kid.invariant.size, c.put-size.ensures.size, ap length (trees_more c.as_slice-kid-items.result.now c.loop-kid.kid-index c.kid-item.result c.loop-kid-test.true c.kid-item.is), length-append {A = Node});
  memory = omega (arith, c.loop-kid.invariant.memory, c.put-size.ensures.memory);
}

pub put-size-requires : goal.put-size-requires
put-size-requires t c =
    let f = fits _ _ _ _ _ _ _ c.loop-kid.invariant.entries c.as_slice-kid-items.ensures c.loop-kid-test.true c.kid-item.is c.loop-kid.invariant.size in
    (search (rules, the_lemmas), (omega (arith, f.room, c.requires.room, c.loop-kid.invariant.memory, c.loop-kid.entries.ok.0, c.args.entries.now.ok.0), omega (arith, f.part, c.requires.fits)))

pub overflow_add-size : goal.overflow_add-size
overflow_add-size t c =
    let f = fits _ _ _ _ _ _ _ c.loop-kid.invariant.entries c.as_slice-kid-items.ensures c.loop-kid-test.true c.kid-item.is c.loop-kid.invariant.size in
    omega (arith, f.size, c.requires.fits, c.put-size.ensures.size)

pub returns-clause-entries : goal.returns-clause-entries
returns-clause-entries t c =
    all_placed _ _ _ _ _ _ _ _ _ c.loop-kid.invariant.entries c.as_slice-kid-items.ensures c.loop-kid-test.false (c.len-at.ensures ∙ omega (arith, c.args.entries.now.ok.0)) c.loop-kid.invariant.size c.replace.ensures.items refl

pub returns-clause-size : goal.returns-clause-size
returns-clause-size t c = count_done _ _ _ _ c.as_slice-kid-items.ensures c.loop-kid-test.false c.loop-kid.invariant.size
