-- The points, merged one after the other.
use Rattle.std.proofs.Common.{◌≡◌, ℕ, ◌+◌, ◌<◌, inl, inr, List, [], ◌∷◌, ◌++◌, length, get_or, Some, sym, ◌∙◌, subst, refl, arith, length-append}
use Rattle.std.specs.Prelude.{slice_get, slice_index_or}
use Rattle.std.proofs.lemmas.List.{get_or_read}
use Rattle.flow_reach.proofs.Sorted.{got_push}
use Rattle.held_values.specs.declared.assign.Assign.{Assign}
use Rattle.held_values.specs.declared.assign.Effects.{Effects}
use Rattle.held_values.specs.declared.merged.Merged.{Merged}
use Rattle.held_values.specs.Merged.{IsMergedOf}

pub record AreMergedTo (effects : Effects) (to : ℕ) (all : List Merged) : Type 0 where
  pub size : length all ≡ to
  pub each : (point : ℕ) (one : Merged) → slice_get all point ≡ Some one → IsMergedOf (length effects.start) (slice_index_or effects.points point []) one

pub merged_none : (effects : Effects) (all : List Merged) → all ≡ [] → AreMergedTo effects 0 all
merged_none effects all none = let P : List Merged → Type 0 = λ xs. AreMergedTo effects 0 xs in subst P (sym none) (record { size = refl; each = λ point one got. absurd cc })

pub merged_more : (effects : Effects) (to : ℕ) (all new : List Merged) (one : Merged) (nodes : List (List Assign)) → new ≡ all ++ one ∷ [] → nodes ≡ get_or effects.points to nodes → to < length effects.points → IsMergedOf (length effects.start) nodes one → AreMergedTo effects to all → AreMergedTo effects (to + 1) new
merged_more effects to all new one nodes is read lt this m =
    let there : nodes ≡ slice_index_or effects.points to [] = get_or_read effects.points to nodes lt read [] in
    let P : List Merged → Type 0 = λ xs. AreMergedTo effects (to + 1) xs in
    subst P (sym is) (record {
      size = omega (arith, length-append all (one ∷ []), m.size);
      each = λ point other got. elim (got_push all one point other got) [
        | inl old ↦ m.each point other old
        | inr (e, same) ↦
            let Q : Merged → Type 0 = λ x. IsMergedOf (length effects.start) (slice_index_or effects.points point []) x in
            let R : ℕ → Type 0 = λ p. IsMergedOf (length effects.start) (slice_index_or effects.points p []) one in
            let S : List (List Assign) → Type 0 = λ n. IsMergedOf (length effects.start) n one in
            subst Q same (subst R (sym m.size ∙ sym e) (subst S there this))
      ];
    })
