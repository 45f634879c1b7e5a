use Rattle.std.proofs.Common.{sym, ap, ◌∙◌, refl}
use Rattle.std.specs.Ordering.{nat_cmp}
use Rattle.std.specs.BTreeMap.{get}
use Rattle.taint_form.proofs.Maps.{comes_here, comes_elsewhere, listed_after}
use Rattle.taint_form.proofs.origins.Origins.touch.Goals as goal

pub returns-clause-listed : goal.returns-clause-listed
returns-clause-listed c =
    let u = c.in_ok-insert.ensures.updates in
    listed_after c.list.new.self.from c.insert.new.self c.args.fact c.args.origins u.1 u.2 c.args.self.now _ refl (sym c.in_ok-list.ensures.same) c.requires c.in_ok-list.ensures.listed

pub returns-clause-here : goal.returns-clause-here
returns-clause-here c =
    let u = c.in_ok-insert.ensures.updates in
    comes_here c.list.new.self.from c.insert.new.self c.args.fact c.args.origins u.1 u.2

pub returns-clause-others : goal.returns-clause-others
returns-clause-others c =
    let u = c.in_ok-insert.ensures.updates in
    comes_elsewhere c.args.self.now.from c.insert.new.self c.args.fact c.args.origins u.1 (λ q e. u.2 q e ∙ ap (λ m. get nat_cmp m q) c.in_ok-list.ensures.same)
