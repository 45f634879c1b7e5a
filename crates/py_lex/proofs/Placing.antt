-- The tokens of a text lie in it, in order, and so do the parts of its f-strings.
use Rattle.std.proofs.Common.{◌≡◌, ℕ, zero, suc, ◌+◌, ◌-◌, ◌≤◌, ◌==◌, Bool, true, false, List, [], ◌∷◌, ◌++◌, length, drop, refl, sym, ap, ◌∙◌, subst, arith, append_assoc, length-drop}
use Rattle.std.specs.Prelude.{encode_utf8_all, if◌then◌else◌, slice_range, nat_lt, Option, Some, None, IfSome, option_map}
use Rattle.std.specs.Str.{chars, IsUtf8, IsCharBoundary}
use Rattle.std.proofs.lemmas.List.{drop-drop, drop-append-le, length-take}
use Rattle.std.proofs.lemmas.List.Folds.{drop_split}
use Rattle.std.proofs.lemmas.Str.{encodes-chars, scalars-chars, IsUtf8-append, IsUtf8-between, IsUtf8-drop}
use Rattle.lexing.specs.Reading.{Lexeme, Turn, Reader, Reads}
use Rattle.lexing.specs.Mark.{past_mark, mark_len}
use Rattle.node_tree.specs.declared.view.Mode.{Mode}
use Rattle.node_tree.specs.Span.{LiesIn}
use Rattle.py_lex.specs.declared.token.PyToken.{PyToken}
use Rattle.py_lex.specs.declared.token.FPart.{FPart}
use Rattle.py_lex.specs.declared.token.FPart.TheVariants as parts
use Rattle.py_lex.specs.declared.token.PyWord.{PyWord}
use Rattle.py_lex.specs.declared.token.PyWord.TheVariants as words
use Rattle.py_lex.specs.Classes.{class_of}
use Rattle.py_lex.specs.declared.class.Class.{Class}
use Rattle.py_lex.specs.declared.class.Class.TheVariants as classes
use Rattle.py_lex.specs.declared.layout.Line.{Line}
use Rattle.py_lex.specs.declared.layout.Line.TheVariants as lines
use Rattle.py_lex.specs.declared.layout.Layout.{Layout}
use Rattle.py_lex.specs.Columns.{top}
use Rattle.py_lex.specs.Layout.{word_of, sign, written, joined, close, open_line, begun, begin_by, begin, with_token, token_step, moved, blank_by, fresh_line, end_by, splice_by, gap_step, step_by, last_newline, ending}
use Rattle.py_lex.specs.Layout as layout
use Rattle.py_lex.specs.Parts.{Parting, Parted, PartedIf, is_f_string, parted, inside_language, inside_start, inside_end, HasInside, HasBetween, HasParts}
use Rattle.py_lex.specs.Lexing.{py_language, first_line, IsTokensOf}
use Rattle.py_lex.specs.Inside.{span, opened, kept_gap, kept_by, kept, has_backslash, plain_step, field_end, format_start, with_field, field_step, converted_step, format_step, inner_end, with_inner, inner_step, inner_converted_step, step_at, finish_at}
use Rattle.py_lex.specs.Inside as insides
use Rattle.py_lex.specs.declared.inside.Place.{Place}
use Rattle.py_lex.specs.declared.inside.Place.TheVariants as places
use Rattle.py_lex.specs.declared.inside.Field.{Field}
use Rattle.py_lex.specs.declared.inside.Inside.{Inside}
use Rattle.py_lex.specs.Places.{Lies, AreTokensIn}
use Rattle.py_lex.proofs.Standing.{Stands, cut, front_stands, left_stands, lies, whole, past}
use Rattle.py_lex.proofs.Lying.{InTokens, InParts, no_tokens, no_parts, le_tokens, join_tokens, join_parts, later_tokens, later_parts, earlier_tokens, earlier_parts, a_sign, a_mark, a_written, a_plain, a_field}

-- ---- readings

some_is : {X : Type 0} (P : X → Type 0) (o : Option X) (x : X) → IfSome o P → o ≡ Some x → P x
some_is {X = X} P o x h e = subst (λ (r : Option X). IfSome r P) e h

mapped : {X Y : Type 0} (P : X → Type 0) (Q : Y → Type 0) (f : X → Y) (o : Option X) → ((x : X) → P x → Q (f x)) → IfSome o P → IfSome (option_map f o) Q
mapped P Q f None g h = tt
mapped P Q f (Some x) g h = g x h

-- what each step keeps and the end has, a reading has; tokens of a state lie from its base on
reading : {S T : Type 0} (R : Reader S T) (base : S → ℕ) (Holds : S → List ℕ → Type 0) (L : Lies T) (to : ℕ) → ((from : ℕ) (ts : List T) (mid : ℕ) (us : List T) (end : ℕ) → L from ts mid → L mid us end → L from (ts ++ us) end)
    → ((s : S) (cs : List ℕ) (w : ℕ) (front left : List ℕ) (turn : Turn S T) → Holds s cs → cs ≡ front ++ left → R.step s w front turn → L (base s) turn.tokens (base turn.after) × Holds turn.after left)
    → ((s : S) (cs : List ℕ) (ts : List T) → Holds s cs → R.finish s ts → L (base s) ts to) → (s : S) (cs : List ℕ) (xs : List Lexeme) (ts : List T) (rest : List ℕ) → Holds s cs → Reads R s cs xs ts rest → L (base s) ts to
reading R base Holds L to join step last s cs [] ts rest holds h = last s cs ts holds h.2
reading {T = T} R base Holds L to join step last s cs (x ∷ xs) ts rest holds h =
    let k = step s cs x.word x.text h.1 h.2 holds h.4.parts h.5 in
    subst (λ (us : List T). L (base s) us to) (sym h.7) (join (base s) h.2.tokens (base h.2.after) h.3 to k.0 (reading R base Holds L to join step last h.2.after h.1 xs h.3 rest k.1 h.6))

-- the parts that a lexeme may have lie in it
abbrev PartsIn : List ℕ → Parting → Type 0
PartsIn text P = (at : ℕ) (class : Class) (cs : List ℕ) (xs : List FPart) → Stands text at cs (at + length (encode_utf8_all cs)) → P at class cs xs → InParts text at xs (at + length (encode_utf8_all cs))

parted_in : (text : List ℕ) (P : Parting) → PartsIn text P → PartsIn text (Parted P)
parted_in text P f at class cs xs s = by_form (is_f_string class)
  where
    by_form : (b : Bool) → PartedIf b (P at class cs xs) xs → InParts text at xs (at + length (encode_utf8_all cs))
    by_form true h = f at class cs xs s h
    by_form false e = subst (λ (ps : List FPart). InParts text at ps (at + length (encode_utf8_all cs))) (sym e) (no_parts text at (at + length (encode_utf8_all cs)) (omega arith))

-- ---- lines

-- tokens of a turn lie up to the place that reading moves on to
record Turned (text : List ℕ) (from to : ℕ) (t : Turn Layout PyToken) : Type 0 where
  lie : InTokens text from t.tokens to
  moves : t.after.at ≡ to

abbrev Stays : List ℕ → ℕ → Turn (List ℕ) PyToken → Type 0
Stays text at t = InTokens text at t.tokens at

closed : (text : List ℕ) (at : ℕ) (cs : List ℕ) (column : ℕ) → IsCharBoundary text at → IfSome (close at cs column) (Stays text at)
unfolding close
closed text at [] column b = by_column (column == 0)
  where
    by_column : (x : Bool) → IfSome (if x then Some (record { after = []; tokens = [] }) else None) (Stays text at)
    by_column true = no_tokens text at at (omega arith)
    by_column false = tt
closed text at (c ∷ cs) column b = by_column (closed text at cs column b) (nat_lt column c) (column == c)
  where
    more : (o : Option (Turn (List ℕ) PyToken)) → IfSome o (Stays text at) → IfSome (joined (sign words.Dedent at 0 ∷ []) o) (Stays text at)
    more None h = tt
    more (Some t) h = join_tokens text at (sign words.Dedent at 0 ∷ []) at t.tokens at (a_mark text words.Dedent at b) h

    by_column : IfSome (close at cs column) (Stays text at) → (x y : Bool) → IfSome (if x then joined (sign words.Dedent at 0 ∷ []) (close at cs column) else (if y then Some (record { after = c ∷ cs; tokens = [] }) else None)) (Stays text at)
    by_column h true y = more (close at cs column) h
    by_column h false true = no_tokens text at at (omega arith)
    by_column h false false = tt

opens : (text : List ℕ) (at : ℕ) (cs : List ℕ) (column : ℕ) → IsCharBoundary text at → IfSome (open_line at cs column) (Stays text at)
opens text at cs column b = by_column (nat_lt (top cs) column)
  where
    by_column : (x : Bool) → IfSome (if x then Some (record { after = column ∷ cs; tokens = sign words.Indent at 0 ∷ [] }) else close at cs column) (Stays text at)
    by_column true = a_mark text words.Indent at b
    by_column false = closed text at cs column b

module _ (text : List ℕ) (s : Layout) (cut_at : IsCharBoundary text s.at) where
  begins : (line : Line) → IfSome (begin_by line s) (Turned text s.at s.at)
  begins lines.Inside = record { lie = no_tokens text s.at s.at (omega arith); moves = refl }
  begins lines.Start = mapped (Stays text s.at) (Turned text s.at s.at) (begun s) _ (λ t h. record { lie = h; moves = refl }) (opens text s.at s.columns (if s.first then 0 else s.column) cut_at)
  begins lines.Fixed = mapped (Stays text s.at) (Turned text s.at s.at) (begun s) _ (λ t h. record { lie = h; moves = refl }) (opens text s.at s.columns (if s.first then 0 else s.column) cut_at)

  ends : IfSome (layout.finish s) (λ ts. InTokens text s.at ts s.at)
  ends =
      mapped (Stays text s.at) (λ ts. InTokens text s.at ts s.at) (ending s) _
      (λ t h. join_tokens text s.at (last_newline s.line s.at s.depth ++ t.tokens) s.at (sign words.End s.at 0 ∷ []) s.at (join_tokens text s.at (last_newline s.line s.at s.depth) s.at t.tokens s.at (newline s.line) h) (a_mark text words.End s.at cut_at))
      (closed text s.at s.columns 0 cut_at)
    where
      newline : (line : Line) → InTokens text s.at (last_newline line s.at s.depth) s.at
      newline lines.Start = no_tokens text s.at s.at (omega arith)
      newline lines.Fixed = no_tokens text s.at s.at (omega arith)
      newline lines.Inside = by_depth (s.depth == 0)
        where
          by_depth : (b : Bool) → InTokens text s.at (if b then sign words.Newline s.at 0 ∷ [] else []) s.at
          by_depth true = a_mark text words.Newline s.at cut_at
          by_depth false = no_tokens text s.at s.at (omega arith)

module _ (text : List ℕ) (s : Layout) (bytes : List ℕ) (l : LiesIn text (span s.at (s.at + length bytes))) where
  stays : InTokens text s.at [] (s.at + length bytes)
  stays = no_tokens text s.at (s.at + length bytes) (omega arith)

  writes : (class : Class) (word : PyWord) (xs : List FPart) → InParts text s.at xs (s.at + length bytes) → IfSome (token_step s class word bytes xs) (Turned text s.at (s.at + length bytes))
  unfolding token_step
  writes class word xs h = mapped (Turned text s.at s.at) (Turned text s.at (s.at + length bytes)) (with_token class word bytes xs) (begin s) one (begins text s l.begins s.line)
    where
      one : (t : Turn Layout PyToken) → Turned text s.at s.at t → Turned text s.at (s.at + length bytes) (with_token class word bytes xs t)
      one t k = record {
        lie = join_tokens text s.at t.tokens s.at (written word bytes t.after.at xs ∷ []) (s.at + length bytes) k.lie (subst (λ (n : ℕ). InTokens text s.at (written word bytes n xs ∷ []) (s.at + length bytes)) (sym k.moves) (a_written text word bytes s.at xs l h));
        moves = ap (λ (n : ℕ). n + length bytes) k.moves;
      }

  ends_line : (line : Line) → Turned text s.at (s.at + length bytes) (end_by line s (length bytes))
  ends_line lines.Start = record { lie = stays; moves = refl }
  ends_line lines.Fixed = record { lie = stays; moves = refl }
  ends_line lines.Inside = by_depth (s.depth == 0)
    where
      by_depth : (b : Bool) → Turned text s.at (s.at + length bytes) (if b then record { after = fresh_line s (length bytes); tokens = sign words.Newline s.at (length bytes) ∷ [] } else layout.quiet (moved s (length bytes)))
      by_depth true = record { lie = a_sign text words.Newline s.at (length bytes) l; moves = refl }
      by_depth false = record { lie = stays; moves = refl }

  blank : (line : Line) → Turned text s.at (s.at + length bytes) (layout.quiet (blank_by line s bytes))
  blank lines.Start = record { lie = stays; moves = refl }
  blank lines.Fixed = record { lie = stays; moves = refl }
  blank lines.Inside = record { lie = stays; moves = refl }

  splice : (line : Line) → Turned text s.at (s.at + length bytes) (layout.quiet (splice_by line s (length bytes)))
  splice lines.Start = record { lie = stays; moves = refl }
  splice lines.Fixed = record { lie = stays; moves = refl }
  splice lines.Inside = record { lie = stays; moves = refl }

  gap : (class : Class) → Turned text s.at (s.at + length bytes) (gap_step s class bytes)
  gap classes.Blank = blank s.line
  gap classes.LineEnd = ends_line s.line
  gap classes.Splice = splice s.line
  gap _ = record { lie = stays; moves = refl }

  line_turns : (o : Option PyWord) (class : Class) (xs : List FPart) → InParts text s.at xs (s.at + length bytes) → IfSome (step_by o s class bytes xs) (Turned text s.at (s.at + length bytes))
  line_turns (Some word) class xs h = writes class word xs h
  line_turns None class xs h = gap class

-- ---- the inside of an f-string

-- the field lies up to the place
record FieldLies (text : List ℕ) (field : Field) (to : ℕ) : Type 0 where
  cut : IsCharBoundary text field.from
  tokens : InTokens text field.from field.tokens to

-- the part that is not yet at its end
abbrev HoldsAt : Place → List ℕ → Inside → Type 0
HoldsAt places.Plain text s = s.format ≡ []
HoldsAt places.Field text s = FieldLies text s.field s.at × InParts text s.field.from s.format s.at
HoldsAt places.Converted text s = FieldLies text s.field s.at × InParts text s.field.from s.format s.at
HoldsAt places.Format text s = FieldLies text s.field s.at × InParts text s.field.from s.format s.at
HoldsAt places.FormatField text s = FieldLies text s.field s.at × InParts text s.field.from s.format s.inner.from × FieldLies text s.inner s.at
HoldsAt places.FormatConverted text s = FieldLies text s.field s.at × InParts text s.field.from s.format s.inner.from × FieldLies text s.inner s.at

-- the part to come begins there or behind it
abbrev base_at : Place → Inside → ℕ
base_at places.Plain s = s.at
base_at _ s = s.field.from

record Goes (text : List ℕ) (from to : ℕ) (t : Turn Inside FPart) : Type 0 where
  lie : InParts text from t.tokens (base_at t.after.place t.after)
  holds : HoldsAt t.after.place text t.after
  moves : t.after.at ≡ to

goes : (text : List ℕ) (from to : ℕ) (place : Place) (s : Inside) (ps : List FPart) → s.place ≡ place → InParts text from ps (base_at place s) → HoldsAt place text s → s.at ≡ to → Goes text from to (record { after = s; tokens = ps })
goes text from to place s ps e lie holds moves = record { lie = subst (λ (p : Place). InParts text from ps (base_at p s)) (sym e) lie; holds = subst (λ (p : Place). HoldsAt p text s) (sym e) holds; moves = moves }

module _ (text : List ℕ) (class : Class) (bytes : List ℕ) (at : ℕ) (xs : List FPart) (l : LiesIn text (span at (at + length bytes))) (ins : InParts text at xs (at + length bytes)) where
  later_field : (field : Field) → FieldLies text field at → FieldLies text field (at + length bytes)
  later_field field h = record { cut = h.cut; tokens = later_tokens text field.from field.tokens at (at + length bytes) h.tokens (omega arith) }

  abbrev Keeping : Field → Field → Type 0
  Keeping field kept = (field.from ≡ kept.from) × FieldLies text kept (at + length bytes)

  keeps_gap : (field : Field) → FieldLies text field at → (c : Class) → IfSome (kept_gap field c) (Keeping field)
  keeps_gap field h classes.Blank = (refl, later_field field h)
  keeps_gap field h classes.LineEnd = (refl, later_field field h)
  keeps_gap field h _ = tt

  keeps : (field : Field) → FieldLies text field at → (o : Option PyWord) → IfSome (kept_by o field class bytes at xs) (Keeping field)
  keeps field h None = keeps_gap field h class
  keeps field h (Some word) = by_text (has_backslash bytes)
    where
      by_text : (b : Bool) → IfSome (if b then None else Some (insides.with_token field word bytes at xs)) (Keeping field)
      by_text true = tt
      by_text false = (refl, record { cut = h.cut; tokens = join_tokens text field.from field.tokens at (written word bytes at xs ∷ []) (at + length bytes) h.tokens (a_written text word bytes at xs l ins) })

module _ (text : List ℕ) (s : Inside) (class : Class) (bytes : List ℕ) (xs : List FPart) (l : LiesIn text (span s.at (s.at + length bytes))) (ins : InParts text s.at xs (s.at + length bytes)) where
  -- the field that is read, and its format up to a place
  record InField (to : ℕ) : Type 0 where
    field : FieldLies text s.field s.at
    format : InParts text s.field.from s.format to
    le : to ≤ s.at

  abbrev Going : ℕ → Option (Turn Inside FPart) → Type 0
  Going from o = IfSome o (Goes text from (s.at + length bytes))

  nothing : InParts text s.field.from [] s.field.from
  nothing = no_parts text s.field.from s.field.from (omega arith)

  longer : (to : ℕ) → InField to → FieldLies text s.field (s.at + length bytes)
  longer to h = later_field text class bytes s.at xs l ins s.field h.field

  longer_inner : FieldLies text s.inner s.at → FieldLies text s.inner (s.at + length bytes)
  longer_inner h = later_field text class bytes s.at xs l ins s.inner h

  longer_format : InField s.at → InParts text s.field.from s.format (s.at + length bytes)
  longer_format h = later_parts text s.field.from s.format s.at (s.at + length bytes) h.format (omega arith)

  -- a place that begins before the lexeme and is a boundary
  from_lies : (from : ℕ) → from ≤ s.at → IsCharBoundary text from → LiesIn text (span from (s.at + length bytes))
  from_lies from le b = record { ordered = omega arith; begins = b; ends = l.ends }

  fresh : FieldLies text (opened s.at) (s.at + length bytes)
  fresh = record { cut = l.begins; tokens = no_tokens text s.at (s.at + length bytes) (omega arith) }

  goes_plain : s.place ≡ places.Plain → s.format ≡ [] → (c : Class) → Going s.at (plain_step s c bytes)
  goes_plain e h classes.Plain = goes text s.at (s.at + length bytes) places.Plain _ _ e (a_plain text bytes s.at (s.at + length bytes) l) h refl
  goes_plain e h classes.FieldStart =
      goes text s.at (s.at + length bytes) places.Field _ _ refl (no_parts text s.at s.at (omega arith))
      (fresh, subst (λ (ps : List FPart). InParts text s.at ps (s.at + length bytes)) (sym h) (no_parts text s.at (s.at + length bytes) (omega arith))) refl
  goes_plain e h _ = tt

  goes_end : InField s.at → Going s.field.from (field_end s bytes)
  goes_end h =
      goes text s.field.from (s.at + length bytes) places.Plain _ _ refl
      (a_field text s.field.tokens s.field.conversion s.format s.field.from (s.at + length bytes) (from_lies s.field.from (le_tokens text s.field.from s.field.tokens s.at h.field.tokens) h.field.cut) (longer s.at h).tokens (longer_format h)) refl refl

  goes_format_start : InField s.at → Going s.field.from (format_start s bytes)
  goes_format_start h = goes text s.field.from (s.at + length bytes) places.Format _ _ refl nothing (longer s.at h, longer_format h) refl

  goes_with_field : s.place ≡ places.Field → InField s.at → (o : Option Field) → IfSome o (Keeping text class bytes s.at xs l ins s.field) → Going s.field.from (with_field s class bytes o)
  goes_with_field e h None k = tt
  goes_with_field e h (Some field) k =
      goes text s.field.from (s.at + length bytes) places.Field _ _ e (no_parts text s.field.from field.from (omega (arith, k.0)))
      (k.1, subst (λ (n : ℕ). InParts text n s.format (s.at + length bytes)) k.0 (longer_format h)) refl

  goes_kept : s.place ≡ places.Field → InField s.at → Going s.field.from (with_field s class bytes (kept s.field class bytes s.at xs))
  goes_kept e h = goes_with_field e h (kept s.field class bytes s.at xs) (keeps text class bytes s.at xs l ins s.field h.field (word_of class bytes))

  goes_conversion : InField s.at → Going s.field.from (insides.quiet (record s { at = s.at + length bytes; place = places.Converted; field = record s.field { conversion = bytes } }))
  goes_conversion h = goes text s.field.from (s.at + length bytes) places.Converted _ _ refl nothing (record { cut = h.field.cut; tokens = (longer s.at h).tokens }, longer_format h) refl

  goes_converted : InField s.at → (c : Class) → Going s.field.from (converted_step s c bytes)
  goes_converted h classes.Colon = goes_format_start h
  goes_converted h classes.FieldEnd = goes_end h
  goes_converted h _ = tt

  goes_format : s.place ≡ places.Format → InField s.at → (c : Class) → Going s.field.from (format_step s c bytes)
  goes_format e h classes.Plain =
      goes text s.field.from (s.at + length bytes) places.Format _ _ e nothing
      (longer s.at h, join_parts text s.field.from s.format s.at (parts.Plain bytes (span s.at (s.at + length bytes)) ∷ []) (s.at + length bytes) h.format (a_plain text bytes s.at (s.at + length bytes) l)) refl
  goes_format e h classes.FieldStart = goes text s.field.from (s.at + length bytes) places.FormatField _ _ refl nothing (longer s.at h, h.format, fresh) refl
  goes_format e h classes.FieldEnd = goes_end h
  goes_format e h _ = tt

  goes_inner_end : InField s.inner.from → FieldLies text s.inner s.at → Going s.field.from (inner_end s bytes)
  goes_inner_end h i =
      goes text s.field.from (s.at + length bytes) places.Format _ _ refl nothing (
        longer s.inner.from h,
        join_parts text s.field.from s.format s.inner.from (parts.Field s.inner.tokens s.inner.conversion [] (span s.inner.from (s.at + length bytes)) ∷ []) (s.at + length bytes) h.format
            (a_field text s.inner.tokens s.inner.conversion [] s.inner.from (s.at + length bytes) (from_lies s.inner.from h.le i.cut) (longer_inner i).tokens (no_parts text s.inner.from (s.at + length bytes) (omega (arith, h.le)))),
      ) refl

  goes_with_inner : s.place ≡ places.FormatField → InField s.inner.from → (o : Option Field) → IfSome o (Keeping text class bytes s.at xs l ins s.inner) → Going s.field.from (with_inner s class bytes o)
  goes_with_inner e h None k = tt
  goes_with_inner e h (Some field) k =
      goes text s.field.from (s.at + length bytes) places.FormatField _ _ e nothing (longer s.inner.from h, subst (λ (n : ℕ). InParts text s.field.from s.format n) k.0 h.format, k.1) refl

  goes_inner_kept : s.place ≡ places.FormatField → InField s.inner.from → FieldLies text s.inner s.at → Going s.field.from (with_inner s class bytes (kept s.inner class bytes s.at xs))
  goes_inner_kept e h i = goes_with_inner e h (kept s.inner class bytes s.at xs) (keeps text class bytes s.at xs l ins s.inner i (word_of class bytes))

  goes_inner_conversion : InField s.inner.from → FieldLies text s.inner s.at → Going s.field.from (insides.quiet (record s { at = s.at + length bytes; place = places.FormatConverted; inner = record s.inner { conversion = bytes } }))
  goes_inner_conversion h i = goes text s.field.from (s.at + length bytes) places.FormatConverted _ _ refl nothing (longer s.inner.from h, h.format, record { cut = i.cut; tokens = (longer_inner i).tokens }) refl

  goes_inner_converted : InField s.inner.from → FieldLies text s.inner s.at → (c : Class) → Going s.field.from (inner_converted_step s c bytes)
  goes_inner_converted h i classes.FieldEnd = goes_inner_end h i
  goes_inner_converted h i _ = tt

  in_field : FieldLies text s.field s.at × InParts text s.field.from s.format s.at → InField s.at
  in_field h = record { field = h.0; format = h.1; le = omega arith }

  in_format : FieldLies text s.field s.at × InParts text s.field.from s.format s.inner.from × FieldLies text s.inner s.at → InField s.inner.from
  in_format h = record { field = h.0; format = h.1; le = le_tokens text s.inner.from s.inner.tokens s.at h.2.tokens }

goes_field : (text : List ℕ) (s : Inside) (class : Class) (bytes : List ℕ) (xs : List FPart) (l : LiesIn text (span s.at (s.at + length bytes))) (ins : InParts text s.at xs (s.at + length bytes)) → s.place ≡ places.Field → InField text s class bytes xs l ins s.at
    → Going text s class bytes xs l ins s.field.from (field_step s class bytes xs)
goes_field text s classes.Colon bytes xs l ins e h = goes_format_start text s classes.Colon bytes xs l ins h
goes_field text s classes.FieldEnd bytes xs l ins e h = goes_end text s classes.FieldEnd bytes xs l ins h
goes_field text s classes.Conversion bytes xs l ins e h = goes_conversion text s classes.Conversion bytes xs l ins h
goes_field text s class bytes xs l ins e h = goes_kept text s class bytes xs l ins e h

goes_inner : (text : List ℕ) (s : Inside) (class : Class) (bytes : List ℕ) (xs : List FPart) (l : LiesIn text (span s.at (s.at + length bytes))) (ins : InParts text s.at xs (s.at + length bytes)) → s.place ≡ places.FormatField
    → InField text s class bytes xs l ins s.inner.from → FieldLies text s.inner s.at → Going text s class bytes xs l ins s.field.from (inner_step s class bytes xs)
goes_inner text s classes.Colon bytes xs l ins e h i = tt
goes_inner text s classes.FieldEnd bytes xs l ins e h i = goes_inner_end text s classes.FieldEnd bytes xs l ins h i
goes_inner text s classes.Conversion bytes xs l ins e h i = goes_inner_conversion text s classes.Conversion bytes xs l ins h i
goes_inner text s class bytes xs l ins e h i = goes_inner_kept text s class bytes xs l ins e h i

goes_at : (text : List ℕ) (s : Inside) (class : Class) (bytes : List ℕ) (xs : List FPart) (l : LiesIn text (span s.at (s.at + length bytes))) (ins : InParts text s.at xs (s.at + length bytes)) (place : Place) → s.place ≡ place → HoldsAt place text s
    → Going text s class bytes xs l ins (base_at place s) (step_at place s class bytes xs)
goes_at text s class bytes xs l ins places.Plain e h = goes_plain text s class bytes xs l ins e h class
goes_at text s class bytes xs l ins places.Field e h = goes_field text s class bytes xs l ins e (in_field text s class bytes xs l ins h)
goes_at text s class bytes xs l ins places.Converted e h = goes_converted text s class bytes xs l ins (in_field text s class bytes xs l ins h) class
goes_at text s class bytes xs l ins places.Format e h = goes_format text s class bytes xs l ins e (in_field text s class bytes xs l ins h) class
goes_at text s class bytes xs l ins places.FormatField e h = goes_inner text s class bytes xs l ins e (in_format text s class bytes xs l ins h) h.2
goes_at text s class bytes xs l ins places.FormatConverted e h = goes_inner_converted text s class bytes xs l ins (in_format text s class bytes xs l ins h) h.2 class

ends_inside : (text : List ℕ) (s : Inside) (to : ℕ) (place : Place) → s.at ≤ to → IfSome (finish_at place) (λ ps. InParts text (base_at place s) ps to)
ends_inside text s to places.Plain le = no_parts text s.at to le
ends_inside text s to _ le = tt

-- ---- whole readings

record InsideStands (text : List ℕ) (to : ℕ) (s : Inside) (cs : List ℕ) : Type 0 where
  stands : Stands text s.at cs to
  holds : HoldsAt s.place text s

inside_lies : (text : List ℕ) (P : Parting) (mode : Mode) (at : ℕ) (cs : List ℕ) (to : ℕ) (xs : List FPart) → PartsIn text P → Stands text at cs to → HasInside P mode at cs xs → InParts text at xs to
inside_lies text P mode at cs to xs f stands h =
    reading (parted P (inside_language mode)) (λ s. base_at s.place s) (InsideStands text to) (InParts text) to (join_parts text) step last (insides.first at) cs h.0 xs [] (record { stands = stands; holds = refl }) h.1
  where
    step : (s : Inside) (cs : List ℕ) (w : ℕ) (front left : List ℕ) (turn : Turn Inside FPart) → InsideStands text to s cs → cs ≡ front ++ left → (parted P (inside_language mode)).step s w front turn
        → InParts text (base_at s.place s) turn.tokens (base_at turn.after.place turn.after) × InsideStands text to turn.after left
    step s cs w front left turn h parts (ps, p, is) =
        let here = front_stands front left h.stands parts in
        let ins = parted_in text P f s.at (class_of w) front ps here p in
        let k = some_is (Goes text (base_at s.place s) (s.at + length (encode_utf8_all front))) _ turn (goes_at text s (class_of w) (encode_utf8_all front) ps (lies here) ins s.place refl h.holds) is in
        (k.lie, record { stands = subst (λ (n : ℕ). Stands text n left to) (sym k.moves) (left_stands front left h.stands parts); holds = k.holds })

    last : (s : Inside) (cs : List ℕ) (ps : List FPart) → InsideStands text to s cs → insides.finish s ≡ Some ps → InParts text (base_at s.place s) ps to
    last s cs ps h is = some_is (λ qs. InParts text (base_at s.place s) qs to) _ ps (ends_inside text s to s.place (omega (arith, h.stands.ends))) is

between_lies : (text : List ℕ) (P : Parting) (mode : Mode) → PartsIn text P → (at : ℕ) (class : Class) (cs : List ℕ) (xs : List FPart) → Stands text at cs (at + length (encode_utf8_all cs)) → HasBetween P mode at class (encode_utf8_all cs) xs → InParts text at xs (at + length (encode_utf8_all cs))
between_lies text P mode f at class cs xs s h =
    earlier_parts text at (at + from) xs (at + length bytes) (omega arith) (later_parts text (at + from) xs (at + to) (at + length bytes) (inside_lies text P mode (at + from) (chars inner) (at + to) xs f stands h.1) (omega (arith, h.0.2.0)))
  where
    bytes : List ℕ
    bytes = encode_utf8_all cs

    from : ℕ
    from = inside_start class bytes

    to : ℕ
    to = inside_end class bytes

    inner : List ℕ
    inner = slice_range bytes from to

    utf8 : IsUtf8 bytes
    utf8 = (cs, (s.scalars, refl))

    utf8_inner : IsUtf8 inner
    utf8_inner = IsUtf8-between bytes from to utf8 h.0.0 h.0.1 h.0.2

    spelled : encode_utf8_all (chars inner) ≡ inner
    spelled = encodes-chars inner utf8_inner

    stands : Stands text (at + from) (chars inner) (at + to)
    stands = record {
      back = drop to bytes ++ s.back;
      stands = sym (drop-drop from at text) ∙ ap (drop from) s.stands ∙ drop-append-le from bytes s.back h.0.1.0 ∙ ap (λ (x : List ℕ). x ++ s.back) (drop_split bytes from to h.0.0) ∙ append_assoc inner (drop to bytes) s.back ∙ ap (λ (x : List ℕ). x ++ (drop to bytes ++ s.back)) (sym spelled);
      scalars = scalars-chars inner utf8_inner;
      utf8_back = IsUtf8-append (drop to bytes) s.back (IsUtf8-drop bytes to utf8 h.0.2) s.utf8_back;
      ends = omega (arith, ap length spelled, length-take (to - from) (drop from bytes), length-drop from bytes, h.0.0, h.0.2.0);
      within = omega (arith, s.within, h.0.2.0);
    }

parts_in : (text : List ℕ) (mode : Mode) (levels : ℕ) → PartsIn text (HasParts levels mode)
parts_in text mode zero at class cs xs s h = absurd h
parts_in text mode (suc levels) at class cs xs s h = between_lies text (HasParts levels mode) mode (parts_in text mode levels) at class cs xs s h

record LineStands (text : List ℕ) (s : Layout) (cs : List ℕ) : Type 0 where
  stands : Stands text s.at cs (length text)

module _ (mode : Mode) (text : List ℕ) (s : Layout) (w : ℕ) (front : List ℕ) (turn : Turn Layout PyToken) (here : Stands text s.at front (s.at + length (encode_utf8_all front))) (is : (parted (HasParts (length text) mode) (py_language mode)).step s w front turn) where
  turned : Turned text s.at (s.at + length (encode_utf8_all front)) turn
  turned =
      let bytes = encode_utf8_all front in
      let ins = parted_in text (HasParts (length text) mode) (parts_in text mode (length text)) s.at (class_of w) front is.0 here is.1 in
      some_is (Turned text s.at (s.at + length bytes)) _ turn (line_turns text s bytes (lies here) (word_of (class_of w) bytes) (class_of w) is.0 ins) is.2

  -- a lexeme moves the place on by its bytes
  pub passes : turn.after.at ≡ s.at + length (encode_utf8_all front)
  passes = turned.moves

-- the tokens of a text lie in it
pub placed : (mode : Mode) (text : List ℕ) (ts : List PyToken) → IsUtf8 text → IsTokensOf mode text ts → AreTokensIn text ts
placed mode text ts u h =
    earlier_tokens text 0 (mark_len (chars text)) ts (length text) (omega arith)
    (reading (parted (HasParts (length text) mode) (py_language mode)) (λ s. s.at) (LineStands text) (InTokens text) (length text) (join_tokens text) step last (first_line (chars text)) (past_mark (chars text)) h.0 ts [] (record { stands = past text (chars text) (length text) (whole text u) }) h.1)
  where
    step : (s : Layout) (cs : List ℕ) (w : ℕ) (front left : List ℕ) (turn : Turn Layout PyToken) → LineStands text s cs → cs ≡ front ++ left → (parted (HasParts (length text) mode) (py_language mode)).step s w front turn
        → InTokens text s.at turn.tokens turn.after.at × LineStands text turn.after left
    step s cs w front left turn h parts is =
        let k = turned mode text s w front turn (front_stands front left h.stands parts) is in
        (subst (λ (n : ℕ). InTokens text s.at turn.tokens n) (sym k.moves) k.lie, record { stands = subst (λ (n : ℕ). Stands text n left (length text)) (sym k.moves) (left_stands front left h.stands parts) })

    last : (s : Layout) (cs : List ℕ) (us : List PyToken) → LineStands text s cs → layout.finish s ≡ Some us → InTokens text s.at us (length text)
    last s cs us h is = later_tokens text s.at us s.at (length text) (some_is (λ vs. InTokens text s.at vs s.at) _ us (ends text s (cut h.stands)) is) (omega (arith, h.stands.ends, h.stands.within))
