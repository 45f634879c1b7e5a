use Rattle.std.proofs.Common.{ap, ◌∙◌}
use Rattle.std.specs.Prelude.{is_some}
use Rattle.unit_names.specs.Seen.{seen_word}
use Rattle.unit_names.proofs.WordPlaces.{is_there}
use Rattle.unit_names.proofs.words.Words.contains.Goals as goal

pub returns : goal.returns
returns c = c.is_some.ensures ∙ ap is_some c.place.ensures.place ∙ is_there c.args.self.now (seen_word c.args.word)
