use Rattle.open_store.proofs.Rows.{fit_as, held_as}
use Rattle.open_store.proofs.held.OpenStore.number.Goals as goal

pub returns-clause-open : goal.returns-clause-open
returns-clause-open g c = record {
  sound = c.number.ensures.sound;
  fit = fit_as c.args.self.now.store c.number.new.self c.number.ensures.fit c.args.self.now.rows.items c.requires.fit;
  apart = c.requires.apart;
}

pub returns-clause-same : goal.returns-clause-same
returns-clause-same g c o p q =
    held_as g.P.Ord.cmp g.Q.Ord.cmp g.met.P.Ord.total c.args.self.now.store c.number.new.self c.args.self.now.path c.number.ensures.same c.number.ensures.rows c.args.self.now.rows.items c.requires.fit o p q
