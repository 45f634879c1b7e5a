use Rattle.std.proofs.Common.{ℕ, sym, subst}
use Rattle.std.specs.Prelude.{slice_index}
use Rattle.lexing.specs.Automaton.{Started, IsSound, Accepts}
use Rattle.py_lex.specs.Starts.{rules_of}
use Rattle.py_lex.specs.declared.table.TheConstants.{STARTS}
use Rattle.py_lex.proofs.Certificate.{the_table}
use Rattle.py_lex.proofs.Looking.{sound, accepts}
use Rattle.py_lex.proofs.parts.automaton.Goals as goal

pub new-requires : goal.new-requires
new-requires c = subst (λ (k : ℕ). IsSound (record { table = the_table; start = slice_index STARTS k })) (sym c.start_place.ensures.value) (sound c.args.lexemes c.args.mode c.args.forms)

pub returns : goal.returns
returns c =
    subst (λ (a : Started). Accepts a.table a.start (rules_of c.args.lexemes c.args.mode c.args.forms)) (sym c.new.ensures)
    (subst (λ (k : ℕ). Accepts the_table (slice_index STARTS k) (rules_of c.args.lexemes c.args.mode c.args.forms)) (sym c.start_place.ensures.value) (accepts c.args.lexemes c.args.mode c.args.forms))
