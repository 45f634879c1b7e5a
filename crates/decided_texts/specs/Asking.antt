-- Which texts a builder is asked for when texts are decided.
use Rattle.std.specs.Prelude.{◌≡◌, ◌||◌, ℕ, Bool, List, [], ◌∷◌, Option, if◌then◌else◌}
use Rattle.std.specs.List.{list_any}
use Rattle.std.specs.Str.{bytes_eq}
use Rattle.rx_text.specs.Asking.{AsksAll}
use Rattle.decided_texts.specs.Decided.{Decisions, is_decided}

-- of these texts those that aren't known, in order and each once
abbrev pub wanted : (List ℕ → Bool) → List (List ℕ) → List (List ℕ)
wanted known [] = []
wanted known (text ∷ texts) = if known text then wanted known texts else text ∷ wanted (λ other. bytes_eq text other || known other) texts

-- the text is one of these, or it was known before
abbrev pub or_known : List (List ℕ) → (List ℕ → Bool) → List ℕ → Bool
or_known texts known text = list_any (λ other. bytes_eq other text) texts || known text

-- The builder was asked for those of the texts that weren't decided, in order and each once, where it tells that. Just these
-- texts are decided then, and those that were decided before.
pub record Settles (texts : List (List ℕ)) (old new : Decisions) (before after : Option (List (List ℕ))) : Type 0 where
  pub asked : AsksAll before after (wanted (is_decided old) texts)
  pub decided : (text : List ℕ) → is_decided new text ≡ or_known texts (is_decided old) text
