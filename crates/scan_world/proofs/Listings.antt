-- Paths that are gathered from files.
use Rattle.std.proofs.Common.{◌≡◌, ◌⊎◌, ◌↔◌, inl, inr, ℕ, ◌+◌, ◌<◌, List, [], ◌∷◌, ◌++◌, length, take, get_or, Contains, Option, None, Some, IsSome, refl, sym, ap, ◌∙◌, subst, arith}
use Rattle.std.specs.Str.{bytes_eq}
use Rattle.std.proofs.lemmas.Bool.{cases_Bool, cond-true, cond-false, false≢true}
use Rattle.std.proofs.lemmas.List.{take_more}
use Rattle.std.proofs.lemmas.List.Elements.{All-nil, All-from_get_or, Contains-get_or}
use Rattle.std.proofs.lemmas.Slice.Eq.{bytes_eq-Decides}
use Rattle.scan_world.specs.Files.{Files, file_at, IsUnder, PathsAscend}
use Rattle.scan_world.specs.Trees.{IsListing}

File : Type 0
File = List ℕ × List ℕ

-- a file more, after the others
pub with_last : (path : List ℕ) (files : Files) (name bytes : List ℕ) → IsSome (file_at path (files ++ (name, bytes) ∷ [])) ↔ (IsSome (file_at path files) ⊎ (name ≡ path))
with_last path [] name bytes =
    let P : Option (List ℕ) → Type 0 = λ found. IsSome found ↔ (IsSome {T = List ℕ} None ⊎ (name ≡ path)) in
    elim (cases_Bool (bytes_eq name path)) [
      | inl same ↦ subst P (sym (cond-true _ (Some bytes) None same)) (λ h. inr ((bytes_eq-Decides name path).0 same), λ h. refl)
      | inr other ↦ subst P (sym (cond-false _ (Some bytes) None other)) (λ h. absurd (false≢true h), λ h. elim h [ inl a ↦ a | inr e ↦ absurd (false≢true (sym other ∙ (bytes_eq-Decides name path).1 e)) ])
    ]
with_last path (file ∷ files) name bytes =
    let ih = with_last path files name bytes in
    let P : Option (List ℕ) → Option (List ℕ) → Type 0 = λ found before. IsSome found ↔ (IsSome before ⊎ (name ≡ path)) in
    elim (cases_Bool (bytes_eq file.0 path)) [
      | inl same ↦
          let here = λ (rest : Option (List ℕ)). cond-true (bytes_eq file.0 path) (Some file.1) rest same in
          subst (λ found. P found (file_at path (file ∷ files))) (sym (here _)) (subst (λ before. P (Some file.1) before) (sym (here _)) (λ h. inl refl, λ h. refl))
      | inr other ↦
          let later = λ (rest : Option (List ℕ)). cond-false (bytes_eq file.0 path) (Some file.1) rest other in
          subst (λ found. P found (file_at path (file ∷ files))) (sym (later _)) (subst (λ before. P (file_at path (files ++ (name, bytes) ∷ [])) before) (sym (later _)) ih)
    ]

pub no_files : (prefix : List ℕ) → IsListing prefix (Some []) []
no_files prefix = record {
  ordered = tt;
  under = All-nil (IsUnder prefix);
  all = λ path. (λ h. absurd (omega (arith, h.1)), λ h. absurd (false≢true h.1));
}

module _ (prefix : List ℕ) (files : Files) (i : ℕ) (file : List ℕ × List ℕ) (paths : List (List ℕ)) (lt : i < length files) (is : file ≡ get_or files i file) (so_far : IsListing prefix (Some (take i files)) paths) where
  whole : take (i + 1) files ≡ take i files ++ (file.0, file.1) ∷ []
  whole = take_more files i file lt ∙ ap (λ (f : List ℕ × List ℕ). take i files ++ f ∷ []) (sym is)

  have : (path : List ℕ) → IsSome (file_at path (take (i + 1) files)) ↔ (IsSome (file_at path (take i files)) ⊎ (file.0 ≡ path))
  have path = let P : Files → Type 0 = λ fs. IsSome (file_at path fs) ↔ (IsSome (file_at path (take i files)) ⊎ (file.0 ≡ path)) in subst P (sym whole) (with_last path (take i files) file.0 file.1)

  module _ (new : List (List ℕ)) (under : IsUnder prefix file.0) (added : (other : List ℕ) → Contains new other ↔ (Contains paths other ⊎ (file.0 ≡ other))) where
    those : (path : List ℕ) → Contains new path ↔ (IsUnder prefix path × IsSome (file_at path (take (i + 1) files)))
    those path = (
      λ h. elim ((added path).0 h) [
        | inl a ↦ (let known = (so_far.all path).0 a in (known.0, (have path).1 (inl known.1)))
        | inr e ↦ (let P : List ℕ → Type 0 = λ p. IsUnder prefix p in (subst P e under, (have path).1 (inr e)))
      ],
      λ h. elim ((have path).0 h.1) [
        | inl a ↦ (added path).1 (inl ((so_far.all path).1 (h.0, a)))
        | inr e ↦ (added path).1 (inr e)
      ],
    )

    -- its path lies under the prefix and was added
    pub one_more : PathsAscend new → IsListing prefix (Some (take (i + 1) files)) new
    one_more up = record {
      ordered = up;
      under = All-from_get_or (IsUnder prefix) new [] (λ k low. ((those (get_or new k [])).0 (Contains-get_or new k [] low)).0);
      all = those;
    }

  -- its path lies elsewhere
  pub passed : (IsUnder prefix file.0 → ⊥) → IsListing prefix (Some (take (i + 1) files)) paths
  passed elsewhere = record {
    ordered = so_far.ordered;
    under = so_far.under;
    all = λ path. (
      λ h. let known = (so_far.all path).0 h in (known.0, (have path).1 (inl known.1)),
      λ h. elim ((have path).0 h.1) [
        | inl a ↦ (so_far.all path).1 (h.0, a)
        | inr e ↦ (let P : List ℕ → Type 0 = λ p. IsUnder prefix p in absurd (elsewhere (subst P (sym e) h.0)))
      ],
    );
  }
