-- What is outside the profile.
use Rattle.std.specs.Prelude.{ℕ, List, [], ◌∷◌, ◌==◌, ◌||◌, ◌&&◌, nat_le, if◌then◌else◌, Bool, true, false, Option, Some, None}
use Rattle.yaml_lines.specs.Blanks.{is_blank, ends_sign, is_skipped}
use Rattle.yaml_lines.specs.declared.fault.Feature.{Feature}
use Rattle.yaml_lines.specs.declared.fault.Feature.TheVariants.{Directive, Document, ComplexKey, Anchor, Alias, Tag, FlowMap, IndentDigit}

-- an ASCII digit
abbrev pub is_digit : ℕ → Bool
is_digit b = nat_le 48 b && nat_le b 57

-- what becomes of the last line ends: `-` strips them, `+` keeps them
abbrev pub is_sign : ℕ → Bool
is_sign b = b == 45 || b == 43

-- a block scalar's indicator, and whether it is a digit
abbrev pub indicator : ℕ → Option Bool
indicator b = if is_sign b then Some false else (if is_digit b then Some true else None)

-- what follows `|` or `>` in a header, and whether it has a digit: at most a sign and a digit, in any order
abbrev pub indicators : List ℕ → Option Bool
indicators [] = Some false
indicators (a ∷ []) = if is_blank a then Some false else indicator a
indicators (a ∷ b ∷ rest) =
    if is_blank a then Some false
    else (if is_blank b then indicator a else (if ((is_sign a && is_digit b) || (is_digit a && is_sign b)) && ends_sign rest then Some true else None))

-- the header of a block scalar at the start of a value
abbrev pub header : List ℕ → Option Bool
header [] = None
header (b ∷ bs) = if b == 124 || b == 62 then indicators bs else None

-- the line begins with three such bytes that stand alone
abbrev pub is_mark : ℕ → List ℕ → Bool
is_mark m (a ∷ b ∷ c ∷ rest) = (a == m && b == m && c == m) && ends_sign rest
is_mark m bs = false

-- the line is `---`, maybe with a comment
abbrev pub is_start : List ℕ → Bool
is_start (a ∷ b ∷ c ∷ rest) = is_mark 45 (a ∷ b ∷ c ∷ rest) && is_skipped rest
is_start bs = false

-- the text begins with the byte
abbrev pub begins_with : ℕ → List ℕ → Bool
begins_with c [] = false
begins_with c (b ∷ bs) = b == c

-- the feature that stands at the start of the line
abbrev pub line_feature : List ℕ → Option Feature
line_feature line = if is_mark 45 line || is_mark 46 line then Some Document else (if begins_with 37 line then Some Directive else None)

-- the feature that a key or a value begins with
abbrev pub text_feature : List ℕ → Option Feature
text_feature [] = None
text_feature (b ∷ bs) =
    if b == 38 then Some Anchor
    else (if b == 42 then Some Alias else (if b == 33 then Some Tag else (if b == 123 then Some FlowMap else None)))

-- the feature that the content of a line begins with
abbrev pub content_feature : List ℕ → Option Feature
content_feature [] = None
content_feature (b ∷ bs) = if b == 63 && ends_sign bs then Some ComplexKey else text_feature (b ∷ bs)

-- a header with a digit
abbrev pub digit_feature : Option Bool → Option Feature
digit_feature (Some true) = Some IndentDigit
digit_feature (Some false) = None
digit_feature None = None

-- the first of two features
abbrev pub or_else : Option Feature → Option Feature → Option Feature
or_else (Some f) second = Some f
or_else None second = second

-- the feature that a value begins with
abbrev pub value_feature : List ℕ → Option Feature
value_feature value = or_else (text_feature value) (digit_feature (header value))
