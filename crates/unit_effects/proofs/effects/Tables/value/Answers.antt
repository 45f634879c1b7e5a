use Rattle.std.proofs.Common.{sym, ◌∙◌, arith}
use Rattle.unit_names.specs.Seen.{seen_word}
use Rattle.unit_names.proofs.WordPlaces.{place_less}
use Rattle.unit_effects.proofs.effects.Tables.value.Goals as goal

pub overflow_add-result : goal.overflow_add-result
overflow_add-result c =
    let less = place_less c.args.self.now.literals.now (seen_word c.in-Some.literal) c.in-Some-place.place (sym c.place.ensures.place ∙ c.in-Some-place.is) in
    omega (arith, less, c.place.ensures.small)
