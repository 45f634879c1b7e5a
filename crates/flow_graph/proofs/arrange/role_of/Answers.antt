use Rattle.flow_graph.proofs.Orders.{last_role}
use Rattle.flow_graph.proofs.arrange.role_of.Goals as goal

pub returns : goal.returns
returns c = last_role c.args.place c.if-place-eq0.false c.if-place-eq1.false c.if-place-eq2.false c.if-place-eq3.false c.if-place-eq4.false
