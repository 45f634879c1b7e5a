use Rattle.std.proofs.Common.{◌≡◌, ◌+◌, ◌<◌, [], ◌∷◌, ◌++◌, length, map, refl, sym, ap, subst, ◌∙◌, arith, length-append}
use Rattle.std.specs.Prelude.{◌^◌}
use Rattle.std.proofs.lemmas.List.{map-append, length-map}
use Rattle.unit_names.specs.Places.{TellsPlaces}
use Rattle.unit_names.specs.Seen.{seen_word}
use Rattle.unit_names.specs.Words.{place_of}
use Rattle.unit_names.proofs.WordPlaces.{noted}
use Rattle.unit_names.proofs.words.Words.push.Goals as goal

pub invariant_of-self-in-Ok : goal.invariant_of-self-in-Ok
invariant_of-self-in-Ok c =
    let w = seen_word c.args.word in
    let all = c.self.inside.all in
    let pushed : map seen_word c.push.new.self ≡ map seen_word all ++ w ∷ [] = ap (map seen_word) c.in_ok-push.ensures.ok ∙ map-append seen_word all (c.args.word ∷ []) in
    let size : length c.push.new.self ≡ length all + 1 = ap length c.in_ok-push.ensures.ok ∙ length-append all (c.args.word ∷ []) in
    let fits : length c.push.new.self < 2 ^ 32 = omega (arith, size, c.if-len.false, c.len.ensures) in
    (fits, subst (TellsPlaces c.insert.new.self) (sym pushed) (noted w (c.place.result, c.args.word.text) (map seen_word all) c.len-place.result c.self.inside.places c.insert.new.self (sym c.place.ensures) refl c.self.invariant.1 (ap (λ ws. place_of ws w) c.self.view_is ∙ c.requires) (c.len-place.ensures ∙ sym (length-map all seen_word)) c.in-Ok.ensures.updates))
