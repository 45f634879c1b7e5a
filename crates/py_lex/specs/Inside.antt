-- Within an f-string: its text and its fields.
use Rattle.std.specs.Prelude.{◌≡◌, ℕ, ◌+◌, ◌≤◌, Bool, true, false, ◌==◌, if◌then◌else◌, List, [], ◌∷◌, ◌++◌, length, Option, Some, None, Result, Ok, Err}
use Rattle.node_tree.specs.declared.span.Span.{Span}
use Rattle.node_tree.specs.declared.fault.LexFault.{LexFault}
use Rattle.node_tree.specs.declared.fault.LexFault.TheVariants.{Memory, NoTokens}
use Rattle.lexing.specs.Reading.{Turn}
use Rattle.py_lex.specs.Classes.{class_of}
use Rattle.py_lex.specs.Layout.{word_of, depth_after, written}
use Rattle.py_lex.specs.declared.class.Class.{Class}
use Rattle.py_lex.specs.declared.class.Class.TheVariants as classes
use Rattle.py_lex.specs.declared.token.PyWord.{PyWord}
use Rattle.py_lex.specs.declared.token.FPart.{FPart}
use Rattle.py_lex.specs.declared.token.FPart.TheVariants as parts
use Rattle.py_lex.specs.declared.inside.Place.{Place}
use Rattle.py_lex.specs.declared.inside.Place.TheVariants as places
use Rattle.py_lex.specs.declared.inside.Field.{Field}
use Rattle.py_lex.specs.declared.inside.Inside.{Inside}

abbrev pub has_backslash : List ℕ → Bool
has_backslash [] = false
has_backslash (b ∷ bs) = if b == 92 then true else has_backslash bs

-- ---- a field as far as it was read

abbrev pub opened : ℕ → Field
opened from = record { from = from; tokens = []; conversion = [] }

-- the inside of an f-string begins
abbrev pub first : ℕ → Inside
first at = record { at = at; place = places.Plain; depth = 0; field = opened 0; format = []; inner = opened 0 }

abbrev pub with_token : Field → PyWord → List ℕ → ℕ → List FPart → Field
with_token field word text at xs = record field { tokens = field.tokens ++ written word text at xs ∷ [] }

-- blanks and line ends are nothing; a backslash or a comment has no place in a field
abbrev pub kept_gap : Field → Class → Option Field
kept_gap field classes.Blank = Some field
kept_gap field classes.LineEnd = Some field
kept_gap field _ = None

abbrev pub kept_by : Option PyWord → Field → Class → List ℕ → ℕ → List FPart → Option Field
kept_by None field class text at xs = kept_gap field class
kept_by (Some word) field class text at xs = if has_backslash text then None else Some (with_token field word text at xs)

-- the field with a lexeme of its expression
abbrev pub kept : Field → Class → List ℕ → ℕ → List FPart → Option Field
kept field class text at xs = kept_by (word_of class text) field class text at xs

-- what was made, unless memory ran out
abbrev pub Keeps : Option Field → Field → Result (Unit {0}) LexFault → Type 0
Keeps o new (Ok l) = o ≡ Some new
Keeps o new (Err Memory) = Unit {0}
Keeps o new (Err NoTokens) = o ≡ None

-- ---- steps

abbrev pub span : ℕ → ℕ → Span
span from to = record { from = from; to = to }

abbrev pub quiet : Inside → Option (Turn Inside FPart)
quiet s = Some (record { after = s; tokens = [] })

-- in the text of an f-string
abbrev pub plain_step : Inside → Class → List ℕ → Option (Turn Inside FPart)
plain_step s classes.Plain text = Some (record { after = record s { at = s.at + length text }; tokens = parts.Plain text (span s.at (s.at + length text)) ∷ [] })
plain_step s classes.FieldStart text = quiet (record s { at = s.at + length text; place = places.Field; depth = 0; field = opened s.at })
plain_step s _ text = None

-- a field ends, and is a part
abbrev pub field_end : Inside → List ℕ → Option (Turn Inside FPart)
field_end s text = Some (record {
  after = record s { at = s.at + length text; place = places.Plain; field = opened 0; format = [] };
  tokens = parts.Field s.field.tokens s.field.conversion s.format (span s.field.from (s.at + length text)) ∷ [];
})

abbrev pub format_start : Inside → List ℕ → Option (Turn Inside FPart)
format_start s text = quiet (record s { at = s.at + length text; place = places.Format })

abbrev pub with_field : Inside → Class → List ℕ → Option Field → Option (Turn Inside FPart)
with_field s class text None = None
with_field s class text (Some field) = quiet (record s { at = s.at + length text; depth = depth_after class s.depth; field = field })

-- in the expression of a field
abbrev pub field_step : Inside → Class → List ℕ → List FPart → Option (Turn Inside FPart)
field_step s classes.Colon text xs = format_start s text
field_step s classes.FieldEnd text xs = field_end s text
field_step s classes.Conversion text xs = quiet (record s { at = s.at + length text; place = places.Converted; field = record s.field { conversion = text } })
field_step s class text xs = with_field s class text (kept s.field class text s.at xs)

-- behind the conversion of a field
abbrev pub converted_step : Inside → Class → List ℕ → Option (Turn Inside FPart)
converted_step s classes.Colon text = format_start s text
converted_step s classes.FieldEnd text = field_end s text
converted_step s _ text = None

-- in the format of a field
abbrev pub format_step : Inside → Class → List ℕ → Option (Turn Inside FPart)
format_step s classes.Plain text = quiet (record s { at = s.at + length text; format = s.format ++ parts.Plain text (span s.at (s.at + length text)) ∷ [] })
format_step s classes.FieldStart text = quiet (record s { at = s.at + length text; place = places.FormatField; depth = 0; inner = opened s.at })
format_step s classes.FieldEnd text = field_end s text
format_step s _ text = None

-- a field in a format ends; it has no format
abbrev pub inner_end : Inside → List ℕ → Option (Turn Inside FPart)
inner_end s text =
    quiet (record s { at = s.at + length text; place = places.Format; inner = opened 0; format = s.format ++ parts.Field s.inner.tokens s.inner.conversion [] (span s.inner.from (s.at + length text)) ∷ [] })

abbrev pub with_inner : Inside → Class → List ℕ → Option Field → Option (Turn Inside FPart)
with_inner s class text None = None
with_inner s class text (Some field) = quiet (record s { at = s.at + length text; depth = depth_after class s.depth; inner = field })

abbrev pub inner_step : Inside → Class → List ℕ → List FPart → Option (Turn Inside FPart)
inner_step s classes.Colon text xs = None
inner_step s classes.FieldEnd text xs = inner_end s text
inner_step s classes.Conversion text xs = quiet (record s { at = s.at + length text; place = places.FormatConverted; inner = record s.inner { conversion = text } })
inner_step s class text xs = with_inner s class text (kept s.inner class text s.at xs)

abbrev pub inner_converted_step : Inside → Class → List ℕ → Option (Turn Inside FPart)
inner_converted_step s classes.FieldEnd text = inner_end s text
inner_converted_step s _ text = None

abbrev pub step_at : Place → Inside → Class → List ℕ → List FPart → Option (Turn Inside FPart)
step_at places.Plain s class text xs = plain_step s class text
step_at places.Field s class text xs = field_step s class text xs
step_at places.Converted s class text xs = converted_step s class text
step_at places.Format s class text xs = format_step s class text
step_at places.FormatField s class text xs = inner_step s class text xs
step_at places.FormatConverted s class text xs = inner_converted_step s class text

abbrev pub step : Inside → ℕ → List ℕ → List FPart → Option (Turn Inside FPart)
step s number text xs = step_at s.place s (class_of number) text xs

-- an f-string ends in its text
abbrev pub finish_at : Place → Option (List FPart)
finish_at places.Plain = Some []
finish_at _ = None

abbrev pub finish : Inside → Option (List FPart)
finish s = finish_at s.place

-- ---- what functions give

-- numbers that cannot run over
pub record IsBounded (s : Inside) : Type 0 where
  pub depth : s.depth ≤ s.at
  pub field : s.field.from ≤ s.at
  pub inner : s.inner.from ≤ s.at
