-- What a path is, and the language that it names.
use Rattle.std.specs.Prelude.{◌≡◌, ◌≢◌, ◌≤◌, ℕ, List, [], length, All, codes, if◌then◌else◌, Option, Some, None, nat_eq, Bool, ◌∷◌}
use Rattle.std.specs.List.{ends_with, list_any}
use Rattle.node_tree.specs.declared.view.Lang.{Lang}
use Rattle.node_tree.specs.declared.view.Lang.TheVariants.{Json, Python, C, Regex}
use Rattle.path_glob.specs.Segments.{segments}

-- a segment of a path is not empty, and names neither the folder it stands in nor the one above
pub record IsSegment (segment : List ℕ) : Type 0 where
  pub some : segment ≢ []
  pub not_here : segment ≢ codes "."
  pub not_above : segment ≢ codes ".."

-- a path is a text of 1 to 1,024 bytes without control bytes, each of whose segments names something
pub record IsPath (text : List ℕ) : Type 0 where
  pub some : 1 ≤ length text
  pub most : length text ≤ 1024
  pub printed : All (λ byte. 32 ≤ byte) text
  pub named : All IsSegment (segments text)

-- a segment that begins with a dot names something hidden
abbrev pub IsHidden : List ℕ → Type 0
IsHidden [] = ⊥
IsHidden (byte ∷ bytes) = byte ≡ 46

-- the text ends with one of these
abbrev pub has_ending : List (List ℕ) → List ℕ → Bool
has_ending endings text = list_any (λ ending. ends_with nat_eq text ending) endings

abbrev pub python_endings : List (List ℕ)
python_endings = codes ".py" ∷ codes ".pyi" ∷ []

abbrev pub c_endings : List (List ℕ)
c_endings = codes ".c" ∷ codes ".h" ∷ []

-- the endings of files that are only searched
abbrev pub plain_endings : List (List ℕ)
plain_endings =
    codes ".txt" ∷ codes ".md" ∷ codes ".yaml" ∷ codes ".yml" ∷ codes ".toml" ∷ codes ".ini" ∷ codes ".cfg" ∷ codes ".sh" ∷ codes ".html" ∷ []

-- the language that the ending of a path names
abbrev pub language : List ℕ → Option Lang
language path =
    if has_ending python_endings path then Some Python else (if has_ending c_endings path then Some C else (if has_ending (codes ".json" ∷ []) path then Some Json
    else (if has_ending plain_endings path then Some Regex else None)))
