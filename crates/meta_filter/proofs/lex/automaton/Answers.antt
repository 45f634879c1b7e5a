use Rattle.std.proofs.Common.{sym, subst}
use Rattle.lexing.specs.Automaton.{Started, Accepts}
use Rattle.meta_filter.specs.Tokens.{rules}
use Rattle.meta_filter.proofs.Certificate.{accepts_0, sound_0}
use Rattle.meta_filter.proofs.lex.automaton.Goals as goal

pub new-requires : goal.new-requires
new-requires c = sound_0

pub returns : goal.returns
returns c = subst (λ (x : Started). Accepts x.table x.start rules) (sym c.new.ensures) accepts_0
