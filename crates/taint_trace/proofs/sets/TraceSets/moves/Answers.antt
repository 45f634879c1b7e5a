use Rattle.taint_trace.proofs.sets.TraceSets.moves.Goals as goal

pub returns-clause-facts : goal.returns-clause-facts
returns-clause-facts c = c.unit_moves.ensures.facts c.args.flow.now c.self.inside.sets.ranges (record { nodes_are = c.nodes.ensures; graph = c.requires.graph }) c.self.invariant.tables_are
