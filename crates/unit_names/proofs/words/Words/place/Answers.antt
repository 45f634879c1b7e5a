use Rattle.std.proofs.Common.{ap, sym, ◌∙◌}
use Rattle.unit_names.specs.Seen.{seen_word}
use Rattle.unit_names.specs.Words.{place_of}
use Rattle.std.proofs.Common.{refl}
use Rattle.unit_names.proofs.words.Words.place.Goals as goal

pub returns-clause-place : goal.returns-clause-place
returns-clause-place c = c.copied.ensures ∙ c.get.ensures.value ∙ c.self.invariant.1 (c.place.result, c.args.word.text) (seen_word c.args.word) (sym c.place.ensures) refl ∙ ap (λ ws. place_of ws (seen_word c.args.word)) c.self.view_is
