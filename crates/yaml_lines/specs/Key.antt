-- Keys.
use Rattle.std.specs.Prelude.{ℕ, ◌+◌, ◌-◌, List, [], ◌∷◌, ◌==◌, ◌||◌, ◌&&◌, if◌then◌else◌, Bool, true, false, Option, Some, None, codes, length, encode_utf8_all}
use Rattle.std.specs.Prelude.{take, drop}
use Rattle.std.specs.List.{list_any}
use Rattle.std.specs.Str.{chars, is_utf8}
use Rattle.std.specs.Option.{option_map, option_and_then}
use Rattle.yaml_lines.specs.Blanks.{is_blank, past_blanks, before_blanks, ends_sign, is_sign, past_sign}
use Rattle.yaml_lines.specs.Scan.{after, at_place}
use Rattle.yaml_lines.specs.Escape.{unescaped_at, undoubled_at}
use Rattle.yaml_lines.specs.declared.escape.Reading.TheVariants.{Plain}
use Rattle.yaml_lines.specs.declared.scan.Place.{Place}
use Rattle.yaml_lines.specs.declared.scan.Place.TheVariants.{Begin, Inside, SingleEnd}
use Rattle.yaml_lines.specs.declared.scan.Scan.{Scan}

-- the opposite
abbrev pub negate : Bool → Bool
negate b = if b then false else true

-- the indicators that begin no plain scalar
abbrev pub is_indicator : ℕ → Bool
is_indicator b = list_any (λ c. c == b) (codes ",[]{}#&*!|>'\"%@`")

-- a plain scalar begins with no indicator; `-`, `?` and `:` are indicators only where they stand alone
abbrev pub begins_plain : List ℕ → Bool
begins_plain [] = false
begins_plain (b ∷ bs) = if b == 45 || b == 63 || b == 58 then negate (ends_sign bs) else negate (is_indicator b)

-- the byte begins a comment: `gap` says whether a blank stands before it
abbrev pub is_hash : Bool → ℕ → Bool
is_hash gap b = gap && b == 35

-- where the first `:` stands that stands alone, unless a comment begins before it
abbrev pub colon_at : Bool → List ℕ → Option ℕ
colon_at gap [] = None
colon_at gap (b ∷ bs) =
    if is_sign 58 b bs then Some 0 else (if is_hash gap b then None else option_map (λ n. n + 1) (colon_at (is_blank b) bs))

-- the scalar has ended before this byte
abbrev pub has_ended : Place → ℕ → Bool
has_ended Inside b = true
has_ended SingleEnd b = negate (b == 39)
has_ended place b = false

-- the scalar may end here
abbrev pub may_end : Place → Bool
may_end Inside = true
may_end SingleEnd = true
may_end place = false

-- how many bytes are left of a quoted scalar
abbrev pub quoted_at : Scan → List ℕ → Option ℕ
quoted_at s [] = if may_end s.place then Some 0 else None
quoted_at s (b ∷ bs) = if has_ended s.place b then Some 0 else option_map (λ n. n + 1) (quoted_at (after s b) bs)

-- how many bytes a quoted scalar at the start of a text takes
abbrev pub quoted_len : List ℕ → Option ℕ
quoted_len text = quoted_at (at_place Begin 0) text

-- a key's content, and what follows its `:`
pub record Keyed : Type 0 where
  pub content : List ℕ
  pub rest : List ℕ

-- such a key
abbrev pub keyed : List ℕ → List ℕ → Keyed
keyed content rest = record { content = content; rest = rest }

-- what stands between such quotes says this, where it can be read. In a text, which is UTF-8, it is UTF-8
abbrev pub content_of : ℕ → List ℕ → Option (List ℕ)
content_of quote inner =
    if is_utf8 inner then (if quote == 39 then Some (encode_utf8_all (undoubled_at false (chars inner))) else option_map encode_utf8_all (unescaped_at Plain (chars inner)))
    else None

-- what a quoted scalar says
abbrev pub unquoted : List ℕ → Option (List ℕ)
unquoted [] = None
unquoted (quote ∷ bs) = content_of quote (take (length bs - 1) bs)

-- the key whose quoted scalar has so many bytes. In a text, which is UTF-8, what follows the scalar is UTF-8
abbrev pub quoted_key : List ℕ → ℕ → Option Keyed
quoted_key text len =
    if is_utf8 (drop len text) then option_and_then (λ rest. option_map (λ content. keyed content rest) (unquoted (take len text))) (past_sign 58 (past_blanks (drop len text)))
    else None

-- the key of a plain scalar
abbrev pub plain_key : List ℕ → Option Keyed
plain_key text = option_map (λ at. keyed (before_blanks (take at text)) (drop (at + 1) text)) (colon_at false text)

-- the key at the start of a text
abbrev pub key_of : List ℕ → Option Keyed
key_of [] = None
key_of (b ∷ bs) =
    if b == 39 || b == 34 then option_and_then (quoted_key (b ∷ bs)) (quoted_len (b ∷ bs))
    else (if begins_plain (b ∷ bs) then plain_key (b ∷ bs) else None)
