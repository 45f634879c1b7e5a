-- The content of quoted scalars that stand on one line, character by character.
use Rattle.std.specs.Prelude.{ℕ, ◌+◌, ◌-◌, ◌*◌, List, [], ◌∷◌, ◌==◌, ◌||◌, ◌&&◌, nat_lt, nat_le, if◌then◌else◌, Bool, false, Option, Some, None}
use Rattle.std.specs.Char.{digit_value}
use Rattle.std.specs.Option.{option_map}
use Rattle.yaml_lines.specs.declared.escape.Reading.{Reading}
use Rattle.yaml_lines.specs.declared.escape.Step.{Step}
use Rattle.yaml_lines.specs.declared.escape.Step.TheVariants.{Fails, Reads, Gives}
use Rattle.yaml_lines.specs.declared.escape.Reading.TheVariants.{Plain, Escape, Code}

-- the characters that an escape of one character names, by that character: YAML 1.2.2, 5.7
abbrev pub escapes : List (ℕ × ℕ)
escapes =
    (48, 0) ∷ (97, 7) ∷ (98, 8) ∷ (116, 9) ∷ (9, 9) ∷ (110, 10) ∷ (118, 11) ∷ (102, 12) ∷ (114, 13) ∷ (101, 27) ∷ (32, 32) ∷ (34, 34) ∷ (47, 47) ∷ (92, 92)
    ∷ (78, 133) ∷ (95, 160) ∷ (76, 8232) ∷ (80, 8233) ∷ []

-- what the list has for a character
abbrev pub named_in : List (ℕ × ℕ) → ℕ → Option ℕ
named_in [] c = None
named_in (e ∷ es) c = if e.0 == c then Some e.1 else named_in es c

-- how many hexadecimal digits follow
abbrev pub digits_after : ℕ → Option ℕ
digits_after c = if c == 120 then Some 2 else (if c == 117 then Some 4 else (if c == 85 then Some 8 else None))

-- a number that is a character
abbrev pub is_scalar : ℕ → Bool
is_scalar n = nat_lt n 55296 || (nat_lt 57343 n && nat_lt n 1114112)

-- what one of so many digits that are left does, after those that make this number
abbrev pub digit_step : ℕ → ℕ → ℕ → Step
digit_step left value c =
    let more = value * 16 + digit_value c in
    if nat_le 16 (digit_value c) || nat_lt 1114111 more then Fails
    else (if nat_lt 1 left then Reads (Code (left - 1) more) else (if is_scalar more then Gives more else Fails))

-- a character that an escape names ends the escape
abbrev pub named_step : Option ℕ → Step
named_step None = Fails
named_step (Some c) = Gives c

-- what follows an escape of so many digits, or of one character
abbrev pub code_step : ℕ → Option ℕ → Step
code_step c None = named_step (named_in escapes c)
code_step c (Some left) = Reads (Code left 0)

-- what a character after a backslash does
abbrev pub escape_step : ℕ → Step
escape_step c = code_step c (digits_after c)

-- what the next character does
abbrev pub step_of : Reading → ℕ → Step
step_of Plain c = if c == 92 then Reads Escape else Gives c
step_of Escape c = escape_step c
step_of (Code left value) c = digit_step left value c

-- a character before the others
abbrev pub onto : ℕ → Option (List ℕ) → Option (List ℕ)
onto c rest = option_map (λ cs. c ∷ cs) rest

-- what is read after a character that does this
abbrev pub after_step : (Reading → Option (List ℕ)) → Step → Option (List ℕ)
after_step read Fails = None
after_step read (Reads next) = read next
after_step read (Gives c) = onto c (read Plain)

-- no escape may be left open
abbrev pub at_end : Reading → Option (List ℕ)
at_end Plain = Some []
at_end reading = None

-- what stands between double quotes, without its escapes
abbrev pub unescaped_at : Reading → List ℕ → Option (List ℕ)
unescaped_at reading [] = at_end reading
unescaped_at reading (c ∷ cs) = after_step (λ next. unescaped_at next cs) (step_of reading c)

-- the character is the second of two quotes that stand for one
abbrev pub is_second : Bool → ℕ → Bool
is_second second c = second && c == 39

-- what stands between single quotes, where two stand for one
abbrev pub undoubled_at : Bool → List ℕ → List ℕ
undoubled_at second [] = []
undoubled_at second (c ∷ cs) = if is_second second c then undoubled_at false cs else c ∷ undoubled_at (c == 39) cs
