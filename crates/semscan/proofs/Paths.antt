-- Paths in order, each once.
use Rattle.std.proofs.Common.{◌≡◌, ℕ, suc, ◌+◌, List, [], ◌∷◌, ◌++◌, length, get_or, refl, sym, ap, ◌∙◌, subst, arith}
use Rattle.std.specs.declared.cmp.Ordering.TheVariants.{Less}
use Rattle.std.specs.Prelude.{All}
use Rattle.std.proofs.lemmas.List.Elements.{All-nil, All-cons, All-append}
use Rattle.scan_world.specs.Files.{IsUnder, path_cmp, PathsAscend}

abbrev pub Path : Type 0
Path = List ℕ

pub ascends_alone : (xs : List Path) (x : Path) → length xs ≡ 0 → PathsAscend (xs ++ x ∷ [])
ascends_alone [] x e = tt
ascends_alone (y ∷ ys) x e = absurd (omega arith)

-- one path more, above the last
pub ascends_last : (xs : List Path) (last x : Path) → PathsAscend xs → path_cmp last x ≡ Less → ((i : ℕ) → length xs ≡ i + 1 → get_or xs i last ≡ last) → PathsAscend (xs ++ x ∷ [])
ascends_last [] last x up less is = tt
ascends_last (y ∷ []) last x up less is = let P : Path → Type 0 = λ z. path_cmp z x ≡ Less in (subst P (sym (is 0 refl)) less, tt)
ascends_last (y ∷ z ∷ zs) last x up less is = (up.0, ascends_last (z ∷ zs) last x up.1 less (λ i e. is (suc i) (omega arith)))

-- ---- a path that is put at the end

module _ (paths new : List Path) (x text : Path) (same : text ≡ x) (put : new ≡ paths ++ text ∷ []) where
  with_it : new ≡ paths ++ x ∷ []
  with_it = put ∙ ap (λ (p : Path). paths ++ p ∷ []) same

  pub put_above : (slice : List Path) → slice ≡ paths → PathsAscend (slice ++ x ∷ []) → PathsAscend new
  put_above slice e up = let P : List Path → Type 0 = λ l. PathsAscend l in subst P (ap (λ (l : List Path). l ++ x ∷ []) e ∙ sym with_it) up

  pub put_under : (prefix : Path) → All (IsUnder prefix) paths → IsUnder prefix x → All (IsUnder prefix) new
  put_under prefix all is =
      let U : Path → Type 0 = λ p. IsUnder prefix p in
      let P : List Path → Type 0 = λ l. All U l in
      subst P (sym with_it) (All-append U paths (x ∷ []) all (All-cons U x [] is (All-nil U)))
