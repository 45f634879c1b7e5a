use Rattle.std.proofs.Common.{◌≡◌, ℕ, List, take, drop, ap, ◌∙◌, rules}
use Rattle.std.proofs.lemmas.List.{take_at, drop_at}
use Rattle.store_file.specs.declared.digest.Digest.{Digest}
use Rattle.store_file.proofs.digest.Digest.take.Goals as goal

pub returns-clause-found : goal.returns-clause-found
returns-clause-found c = λ x left is e.
    let bytes : c.in-Ok.bytes ≡ take 32 c.args.front.now.rest.now = search rules in
    let made : List ℕ → Digest = λ (bs : List ℕ). record { bytes = bs } in (
      ap made (bytes ∙ ap (take 32) e ∙ take_at x.bytes left 32 is),
      c.split_at.ensures.back ∙ ap (drop 32) e ∙ drop_at x.bytes left 32 is,
    )
