-- Paths below a prefix.
use Rattle.std.proofs.Common.{◌≡◌, ◌↔◌, inl, inr, ℕ, Bool, true, false, List, ◌++◌, length, take, drop, codes, sym, ap, ◌∙◌, subst, IsTrue}
use Rattle.std.specs.Str.{bytes_eq}
use Rattle.std.proofs.lemmas.Bool.{false≢true}
use Rattle.std.proofs.lemmas.List.{take-append-drop}
use Rattle.std.proofs.lemmas.Slice.Eq.{bytes_eq-Decides}
use Rattle.std.proofs.Math.Seq.{take-append_seam, drop-append_seam}
use Rattle.scan_world.specs.Files.{IsBelow, IsUnder}

-- a path that does not begin with the prefix
pub none_under : (prefix path : List ℕ) → bytes_eq prefix (codes ".") ≡ false → bytes_eq (take (length prefix) path) prefix ≡ false → IsUnder prefix path → IsTrue false
none_under prefix path there other (inl here) = absurd (false≢true (sym there ∙ (bytes_eq-Decides prefix (codes ".")).1 here))
none_under prefix path there other (inr (rest, is, below)) =
    let front : take (length prefix) path ≡ prefix = ap (take (length prefix)) is ∙ take-append_seam prefix rest in
    absurd (false≢true (sym other ∙ (bytes_eq-Decides (take (length prefix) path) prefix).1 front))

-- one that does
pub some_under : (prefix path rest : List ℕ) (b : Bool) → bytes_eq prefix (codes ".") ≡ false → bytes_eq (take (length prefix) path) prefix ≡ true → rest ≡ drop (length prefix) path
    → IsTrue b ↔ IsBelow rest → IsTrue b ↔ IsUnder prefix path
some_under prefix path rest b there same is decides =
    let P : List ℕ → Type 0 = λ xs. IsBelow xs in
    let whole : path ≡ prefix ++ rest =
    sym (take-append-drop (length prefix) path) ∙ ap (λ xs. xs ++ drop (length prefix) path) ((bytes_eq-Decides (take (length prefix) path) prefix).0 same) ∙ ap (λ ys. prefix ++ ys) (sym is) in (
      λ t. inr (rest, whole, decides.0 t),
      λ h. elim h [
        | inl here ↦ absurd (false≢true (sym there ∙ (bytes_eq-Decides prefix (codes ".")).1 here))
        | inr (other, other_is, below) ↦
            let tail : other ≡ rest = sym (drop-append_seam prefix other) ∙ ap (drop (length prefix)) (sym other_is) ∙ sym is in
            decides.1 (subst P tail below)
      ],
    )
