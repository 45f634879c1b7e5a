-- What an automaton is, without where its table lies in memory.
use Rattle.lexing.specs.Automaton.{Started}
use Rattle.lexing.specs.declared.automaton.Automaton.TheInside.{Inside}

abbrev pub started : Inside → Started
started a = record { table = record { columns = a.columns.now; rows = a.rows.now; width = a.width }; start = a.start }
