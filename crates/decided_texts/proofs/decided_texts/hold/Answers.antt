use Rattle.decided_texts.proofs.Keeping.{held_with}
use Rattle.decided_texts.proofs.decided_texts.hold.Goals as goal

pub returns-in-Ok-clause-held : goal.returns-in-Ok-clause-held
returns-in-Ok-clause-held c = held_with c.args.by_text.now c.insert.new.self c.in_ok-key.key c.args.text.now c.args.rx c.in_ok-key.ensures.ok c.in-Ok.ensures.updates
