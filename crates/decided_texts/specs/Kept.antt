-- How decided texts are kept.
use Rattle.std.specs.Prelude.{◌≡◌, ℕ, true, false, List, Option, None, Some, String, if◌then◌else◌}
use Rattle.std.specs.BTreeMap.{BTreeMap, get_by_text}
use Rattle.decided_texts.specs.Decided.{is_refused}

-- what is kept of a text, where these were refused and those were built
abbrev pub kept : List (List ℕ) → List (List ℕ) → List ℕ → Option (Option (List ℕ))
kept refused built text = if is_refused refused text then Some None else (if is_refused built text then Some (Some text) else None)

-- the map keeps just what these texts came to, none of which was both refused and built
pub record IsKept {Y : Type 0} (by_text : BTreeMap (String Y) (Option (List ℕ))) (refused built : List (List ℕ)) : Type 0 where
  pub holds : (text : List ℕ) → get_by_text by_text text ≡ kept refused built text
  pub apart : (text : List ℕ) → is_refused built text ≡ true → is_refused refused text ≡ false
