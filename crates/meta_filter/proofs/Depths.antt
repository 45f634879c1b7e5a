-- How deep pieces are.
use Rattle.std.proofs.Common.{◌≡◌, ℕ, ◌<◌, ◌≤◌, List, [], ◌∷◌, ◌++◌, refl, arith}
use Rattle.std.specs.Prelude.{true, false, max, Option}
use Rattle.grammar.specs.Rule.{Deepens}
use Rattle.grammar.proofs.Facts.{true_false}
use Rattle.meta_filter.specs.declared.token.Token.{Token}
use Rattle.meta_filter.specs.declared.part.Part.{Part}
use Rattle.meta_filter.specs.declared.part.Links.{Links}
use Rattle.meta_filter.specs.Parts.{joined, compare_op}
use Rattle.meta_filter.specs.Table.{Builder, FromLeft, Linked, Inverted, Negated, Enclosed, strong}
use Rattle.meta_filter.specs.Build.{Piece, part, sign, depth_all, from_left, first_link, next_link, linked, chain, build, source}

in_left : (ys zs : List Piece) → depth_all ys ≤ depth_all (ys ++ zs)
in_left [] zs = omega arith
in_left (y ∷ ys) zs = omega (arith, in_left ys zs)

in_right : (ys zs : List Piece) → depth_all zs ≤ depth_all (ys ++ zs)
in_right [] zs = omega arith
in_right (y ∷ ys) zs = omega (arith, in_right ys zs)

from_left_deep : (p : Part) (xs : List Piece) → max p.depth (depth_all xs) ≤ depth_all (from_left p xs)
from_left_deep p [] = omega arith
from_left_deep p (part q ∷ xs) = omega arith
from_left_deep p (sign op ∷ []) = omega arith
from_left_deep p (sign op ∷ sign w ∷ xs) = omega arith
from_left_deep p (sign op ∷ part q ∷ xs) = omega (arith, from_left_deep (joined op p q) xs)

linked_deep : (d : ℕ) (links : Option Links) (xs : List Piece) → max d (depth_all xs) ≤ depth_all (linked d links xs)
linked_deep d links [] = omega arith
linked_deep d links (part q ∷ xs) = omega arith
linked_deep d links (sign op ∷ []) = omega arith
linked_deep d links (sign op ∷ sign w ∷ xs) = omega arith
linked_deep d links (sign op ∷ part q ∷ xs) = omega (arith, linked_deep (max d q.depth) (next_link links (compare_op op) q.meaning) xs)

chain_deep : (p : Part) (xs : List Piece) → max p.depth (depth_all xs) ≤ depth_all (chain p xs)
chain_deep p [] = omega arith
chain_deep p (x ∷ xs) = linked_deep p.depth (first_link p.meaning) (x ∷ xs)

strict : (b : Builder) (xs : List Piece) → strong b ≡ true → depth_all xs < depth_all (build b xs)
strict FromLeft xs h = true_false false h refl
strict Linked xs h = true_false false h refl
strict Inverted [] h = omega arith
strict Inverted (part p ∷ []) h = omega arith
strict Inverted (part p ∷ x ∷ xs) h = omega arith
strict Inverted (sign w ∷ xs) h = omega arith
strict Negated [] h = omega arith
strict Negated (part p ∷ []) h = omega arith
strict Negated (part p ∷ x ∷ xs) h = omega arith
strict Negated (sign w ∷ xs) h = omega arith
strict Enclosed [] h = omega arith
strict Enclosed (part p ∷ []) h = omega arith
strict Enclosed (part p ∷ x ∷ xs) h = omega arith
strict Enclosed (sign w ∷ xs) h = omega arith

weak : (b : Builder) (xs : List Piece) → depth_all xs ≤ depth_all (build b xs)
weak FromLeft [] = omega arith
weak FromLeft (part p ∷ xs) = from_left_deep p xs
weak FromLeft (sign w ∷ xs) = omega arith
weak Linked [] = omega arith
weak Linked (part p ∷ xs) = chain_deep p xs
weak Linked (sign w ∷ xs) = omega arith
weak Inverted xs = omega (arith, strict Inverted xs refl)
weak Negated xs = omega (arith, strict Negated xs refl)
weak Enclosed xs = omega (arith, strict Enclosed xs refl)

pub deepens : (ts : List Token) → Deepens strong depth_all (source ts)
deepens ts = record { left = in_left; right = in_right; weak = λ b i j xs. weak b xs; strict = λ b i j xs. strict b xs }
