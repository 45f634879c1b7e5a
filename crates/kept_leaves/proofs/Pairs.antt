-- Pairs as a set, where some count as one.
use Rattle.std.proofs.Common.{◌∙◌, List, [], ◌∷◌, ◌++◌, ◌⊎◌, inl, inr, refl, sym, ap}
use Rattle.piece_form.specs.Identity.{identity_of}
use Rattle.piece_match.proofs.Amongs.{among_first, among_second, among_either}
use Rattle.kept_leaves.specs.Pairs.{Pair, IsSamePair, IsOneOf, AreApart}

pub same_itself : (x : Pair) → IsSamePair x x
same_itself x = record { path = refl; piece = refl; pattern = refl }

pub same_back : (x y : Pair) → IsSamePair x y → IsSamePair y x
same_back x y e = record { path = sym e.path; piece = sym e.piece; pattern = sym e.pattern }

pub same_then : (x y z : Pair) → IsSamePair x y → IsSamePair y z → IsSamePair x z
same_then x y z e f = record { path = e.path ∙ f.path; piece = e.piece ∙ f.piece; pattern = e.pattern ∙ f.pattern }

-- the pairs of two lists
module _ (ps qs : List Pair) (x : Pair) where
  pub one_first : IsOneOf ps x → IsOneOf (ps ++ qs) x
  one_first (y, a, same) = (y, among_first ps qs y a, same)

  pub one_second : IsOneOf qs x → IsOneOf (ps ++ qs) x
  one_second (y, a, same) = (y, among_second ps qs y a, same)

  pub one_either : IsOneOf (ps ++ qs) x → IsOneOf ps x ⊎ IsOneOf qs x
  one_either (y, a, same) = elim (among_either ps qs y a) [ inl b ↦ inl (y, b, same) | inr b ↦ inr (y, b, same) ]

pub one_more : (p : Pair) (ps : List Pair) (x : Pair) → IsOneOf ps x → IsOneOf (p ∷ ps) x
one_more p ps x (y, a, same) = (y, inr a, same)

-- the one pair of a list of one
pub one_alone : (p x : Pair) → IsOneOf (p ∷ []) x → IsSamePair p x
one_alone p x (y, a, same) =
    elim a [
      | inl e ↦ (record { path = ap (λ (z : Pair). z.path) e ∙ same.path; piece = ap (λ (z : Pair). identity_of z.piece) e ∙ same.piece; pattern = ap (λ (z : Pair). z.pattern) e ∙ same.pattern })
      | inr b ↦ absurd b
    ]

pub alone : (p x : Pair) → IsSamePair p x → IsOneOf (p ∷ []) x
alone p x same = (p, inl refl, same)

-- lists of which no pair is in both
pub apart_append : (ps qs : List Pair) → AreApart ps → AreApart qs → ((x : Pair) → IsOneOf ps x → IsOneOf qs x → ⊥) → AreApart (ps ++ qs)
apart_append [] qs one two cross = two
apart_append (p ∷ ps) qs one two cross = (
  λ o. elim (one_either ps qs p o) [ inl b ↦ one.0 b | inr b ↦ cross p (p, inl refl, same_itself p) b ],
  apart_append ps qs one.1 two (λ x b c. cross x (one_more p ps x b) c),
)
