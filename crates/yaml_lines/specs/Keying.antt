-- Keys as the code has them.
use Rattle.std.specs.Prelude.{◌≡◌, ◌≤◌, ℕ, List, Option, length}
use Rattle.std.specs.Str.{IsUtf8}
use Rattle.std.specs.Option.{option_map}
use Rattle.yaml_lines.specs.Key.{Keyed, key_of}
use Rattle.yaml_lines.specs.declared.key.Key.{Key}

-- the key that the code has
abbrev pub keyed_of : Key → Keyed
keyed_of k = record { content = k.content; rest = k.rest.now }

-- it is the key of the text, if that has one
abbrev pub IsKey : List ℕ → Option Key → Type 0
IsKey text k = option_map keyed_of k ≡ key_of text

-- a part of a text that is no longer, and cuts no character
pub record IsRest (text rest : List ℕ) : Type 0 where
  pub utf8 : IsUtf8 rest
  pub len : length rest ≤ length text
