use Rattle.std.proofs.Common.{◌∙◌, List, [], ◌∷◌, ◌++◌, map, take, sym, ap}
use Rattle.std.proofs.lemmas.List.{map-append, take_more}
use Rattle.file_parts.specs.declared.parts.Part.{Part}
use Rattle.file_parts.specs.Parts.{SeenPart, seen_part}
use Rattle.kept_leaves.proofs.opening.open_parts.Goals as goal

pub loop-part-preserved : goal.loop-part-preserved
loop-part-preserved c =
    let (leaves, knows, same, path, parts, places) = c.loop-part.invariant in
    let added = c.in_ok-open_part.ensures in
    let items = c.as_slice-part-items.result.now in
    let i = c.loop-part.part-index in
    let item = c.part-item.result in
    let next = take_more items i item c.loop-part-test.true ∙ ap (λ (q : Part). take i items ++ q ∷ []) (sym c.part-item.is) in (
      added.leaves,
      added.knows,
      λ o a b. added.same o a b ∙ same o a b,
      added.path ∙ path,
      added.parts ∙ ap (λ (xs : List SeenPart). xs ++ seen_part item ∷ []) parts ∙ sym (ap (map seen_part) next ∙ map-append seen_part (take i items) (item ∷ [])),
      added.places places,
    )
