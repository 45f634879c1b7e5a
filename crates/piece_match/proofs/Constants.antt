-- The constants of a piece are those of the file, by numbers counted from the kid's.
use Rattle.std.proofs.Common.{◌≡◌, ℕ, ◌+◌, ◌-◌, ◌<◌, List, [], ◌∷◌, map, refl, sym, ap, ◌∙◌, arith, Bool, true, false, cond, nat_eq, nat_lt}
use Rattle.std.specs.Prelude.{Option, Some, ◌&&◌, nat_le, filter, if◌then◌else◌}
use Rattle.std.proofs.lemmas.Bool.Decides.{nat_tests}
use Rattle.node_tree.specs.declared.node.Node.{Node}
use Rattle.node_tree.specs.declared.known.Known.{Known}
use Rattle.node_tree.specs.declared.view.Pattern.{Pattern}
use Rattle.node_match.specs.Relation.{held_at}
use Rattle.tree_match.specs.Members.{known_to}
use Rattle.piece_form.specs.Cut.{known_between}

-- a known name, by its number from another one's
abbrev recounted : ℕ → Known → Known
recounted first k = record { at = k.at - first; literal = k.literal }

abbrev is_between : ℕ → ℕ → Known → Bool
is_between first end k = nat_le first k.at && nat_lt k.at end

module _ (first size i : ℕ) (within : i < size) where
  inside : (at : ℕ) → nat_le first at && nat_lt at (first + size) ≡ true → nat_eq (at - first) i ≡ nat_eq at (first + i)
  inside at e = grind (arith, nat_tests, e)

  outside : (at : ℕ) → nat_le first at && nat_lt at (first + size) ≡ false → nat_eq at (first + i) ≡ false
  outside at e = grind (arith, nat_tests, e, within)

  -- a piece knows of its node what the file knows of it
  pub known_in_piece : (ks : List Known) → held_at (known_between first (first + size) ks) i ≡ held_at ks (first + i)
  known_in_piece [] = refl
  known_in_piece (k ∷ ks) = by (is_between first (first + size) k) refl (known_in_piece ks)
    where
      by : (b : Bool) → is_between first (first + size) k ≡ b → held_at (known_between first (first + size) ks) i ≡ held_at ks (first + i)
          → held_at (map (recounted first) (cond b (k ∷ filter (is_between first (first + size)) ks) (filter (is_between first (first + size)) ks))) i ≡ cond (nat_eq k.at (first + i)) (Some k.literal) (held_at ks (first + i))
      by true e rest =
          ap (λ (b : Bool). cond b (Some k.literal) (held_at (known_between first (first + size) ks) i)) (inside k.at e)
          ∙ ap (λ (r : Option Node). cond (nat_eq k.at (first + i)) (Some k.literal) r) rest
      by false e rest = rest ∙ sym (ap (λ (b : Bool). cond b (Some k.literal) (held_at ks (first + i))) (outside k.at e))

  -- and so does a pattern that knows of constants, or of none
  pub known_alike : (pattern : Pattern) (ks : List Known) → held_at (known_to pattern ks) (first + i) ≡ held_at (known_to pattern (known_between first (first + size) ks)) i
  known_alike pattern ks = by pattern.constants
    where
      by : (b : Bool) → held_at (if b then ks else []) (first + i) ≡ held_at (if b then known_between first (first + size) ks else []) i
      by true = sym (known_in_piece ks)
      by false = refl
