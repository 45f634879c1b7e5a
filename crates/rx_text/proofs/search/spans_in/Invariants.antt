use Rattle.regex.specs.Strings.{regex_pattern, placed_spans_left}
use Rattle.rx_text.specs.Searches.{spans_of}
use Rattle.rx_text.proofs.Steps.{Gathers}
use Rattle.rx_text.proofs.search.spans_in.Given as goal

abbrev pub invariant-loop-found : goal.invariant-loop-found
invariant-loop-found l = Gathers l.text (placed_spans_left l.found-iterator) l.spans (spans_of (regex_pattern l.regex) l.text)
