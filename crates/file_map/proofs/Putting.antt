-- Files put one after the other.
use Rattle.std.proofs.Common.{◌≡◌, inl, inr, ℕ, List, [], ◌∷◌, ◌++◌, refl, ap, ◌∙◌}
use Rattle.std.specs.Prelude.{Option, None, Some}
use Rattle.scan_world.specs.Files.{Files, IsUnder}
use Rattle.file_map.specs.FileMap.{File, with_file, over_limit}
use Rattle.file_map.specs.Sync.{AreOutside, with_files, or_later, first_over}
use Rattle.file_map.specs.declared.limit.LimitKind.{LimitKind}

pub with_files_on : (base : Files) (xs ys : List File) → with_files base (xs ++ ys) ≡ with_files (with_files base xs) ys
with_files_on base [] ys = refl
with_files_on base (x ∷ xs) ys = with_files_on (with_file base x) xs ys

none_first : (a b : Option (LimitKind × ℕ)) → or_later a b ≡ None → (a ≡ None) × (b ≡ None)
none_first None b h = (refl, h)
none_first (Some x) b h = absurd cc

pub first_over_on : (base : Files) (xs ys : List File) → first_over base xs ≡ None → first_over base (xs ++ ys) ≡ first_over (with_files base xs) ys
first_over_on base [] ys h = refl
first_over_on base (x ∷ xs) ys h =
    let t = none_first (over_limit (with_file base x)) (first_over (with_file base x) xs) h in
    ap (λ (o : Option (LimitKind × ℕ)). or_later o (first_over (with_file base x) (xs ++ ys))) t.0 ∙ first_over_on (with_file base x) xs ys t.1

-- a file more that passes no limit
pub one_within : (base : Files) (xs : List File) (f : File) → first_over base xs ≡ None → over_limit (with_file (with_files base xs) f) ≡ None → first_over base (xs ++ f ∷ []) ≡ None
one_within base xs f h e = first_over_on base xs (f ∷ []) h ∙ ap (λ (o : Option (LimitKind × ℕ)). or_later o None) e

-- a file that passes a limit, whatever comes later
pub one_over : (base : Files) (xs later : List File) (f : File) (over : LimitKind × ℕ) → first_over base xs ≡ None → over_limit (with_file (with_files base xs) f) ≡ Some over → first_over base (xs ++ f ∷ later) ≡ Some over
one_over base xs later f over h e = first_over_on base xs (f ∷ later) h ∙ ap (λ (o : Option (LimitKind × ℕ)). or_later o (first_over (with_file (with_files base xs) f) later)) e

pub outside_under : (prefix : List ℕ) (f : File) (fs outside : List File) → IsUnder prefix f.0 → AreOutside prefix fs outside → AreOutside prefix (f ∷ fs) outside
outside_under prefix f fs outside is h = inl (is, h)

pub outside_apart : (prefix : List ℕ) (f : File) (fs outside : List File) → (IsUnder prefix f.0 → ⊥) → AreOutside prefix fs outside → AreOutside prefix (f ∷ fs) (f ∷ outside)
outside_apart prefix f fs outside nay h = inr (nay, (outside, refl, h))
