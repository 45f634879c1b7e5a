use Rattle.std.proofs.Common.{sym, ◌∙◌}
use Rattle.unit_names.specs.Seen.{seen_word}
use Rattle.unit_names.proofs.WordPlaces.{no_place}
use Rattle.unit_names.proofs.words.Words.add.Goals as goal

pub push-requires : goal.push-requires
push-requires c = no_place c.args.self.now (seen_word c.args.word) (sym c.contains.ensures ∙ c.if-contains.false)
