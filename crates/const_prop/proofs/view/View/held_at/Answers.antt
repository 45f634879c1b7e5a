use Rattle.std.proofs.Common.{◌≡◌, ◌<◌, length, sym, ◌∙◌, subst, arith}
use Rattle.std.specs.Prelude.{Option, IfSome}
use Rattle.std.specs.Borrow.{Bor}
use Rattle.std.specs.Option.{option_copied}
use Rattle.held_values.specs.declared.held.HeldValues.{HeldValues}
use Rattle.unit_names.specs.Seen.{seen_word}
use Rattle.unit_names.proofs.WordPlaces.{place_less}
use Rattle.const_prop.proofs.view.View.held_at.Goals as goal

pub told-requires-clause-name : goal.told-requires-clause-name
told-requires-clause-name c =
    let P : Option (Bor HeldValues) → Type 0 = λ o. IfSome (option_copied o) (λ h. (c.args.place < h.points) × (h.names ≡ length c.args.self.now.tables.names.now)) in
    let h = subst P c.in_ok-held.was c.requires in
    let less = place_less c.args.self.now.tables.names.now (seen_word c.args.name) c.in_ok-number.number (sym c.place.ensures.place ∙ c.in_ok-number.was) in
    omega (arith, less, h.1)
