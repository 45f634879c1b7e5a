-- Looking for the longest lexeme that has parts: where an f-string has none, its form is left out.
use Rattle.std.proofs.Common.{◌≡◌, ◌≢◌, ℕ, ◌<◌, ◌==◌, Bool, true, false, inl, inr, List, [], ◌∷◌, refl, sym, ap, ◌∙◌, subst, arith, eqb-true, eq-eqb}
use Rattle.std.specs.Prelude.{Some, if◌then◌else◌, slice_index, Result, Ok, Err}
use Rattle.std.specs.Str.{chars}
use Rattle.node_tree.specs.declared.view.Mode.{Mode}
use Rattle.node_tree.specs.declared.fault.LexFault.{LexFault}
use Rattle.node_tree.specs.declared.fault.LexFault.TheVariants.{Memory, NoTokens}
use Rattle.node_tree.specs.declared.view.Mode.TheVariants as modes
use Rattle.lexing.specs.Rules.{Rule, Spells}
use Rattle.lexing.specs.Automaton.{Accepts, IsSound, IsPiece}
use Rattle.lexing.specs.Conditions.{BeginsWithSuch, BeginsWithNoneSuch, without, IsPrefixFree}
use Rattle.lexing.proofs.Certificate.{find, certified}
use Rattle.lexing.proofs.Conditions.{closed, passed, passed_none, prefix_free}
use Rattle.py_lex.specs.Classes.{class_of, number_of}
use Rattle.py_lex.specs.Starts.{rules_of, fewer, start_place}
use Rattle.py_lex.specs.Parts.{Parting, is_f_string, PartedIf, HasSome, Looks}
use Rattle.py_lex.specs.declared.class.Class.{Class}
use Rattle.py_lex.specs.declared.class.Class.TheVariants.{FShort, FLong}
use Rattle.py_lex.specs.declared.class.Class.TheVariants as classes
use Rattle.py_lex.specs.declared.class.Forms.{Forms}
use Rattle.py_lex.specs.declared.class.Forms.TheVariants.{Both, Short, Long, Neither}
use Rattle.py_lex.specs.declared.parts.Lexemes.{Lexemes}
use Rattle.py_lex.specs.declared.parts.Lexemes.TheVariants.{Text, Field, Converted, Plain, Format}
use Rattle.py_lex.specs.declared.parts.Found.{Found}
use Rattle.py_lex.specs.declared.token.FPart.{FPart}
use Rattle.py_lex.specs.declared.table.TheConstants.{STARTS}
use Rattle.py_lex.proofs.Endings.{short_closed, long_closed}
use Rattle.py_lex.proofs.Certificate.{the_table, entries, rows, entries_1, entries_2, entries_3, entries_4, entries_5, entries_6, entries_7, entries_8, entries_9, entries_10, entries_11, entries_12, entries_13, sound_0, sound_1, sound_2, sound_3, sound_4, sound_5, sound_6, sound_7, sound_8, sound_9, sound_10, sound_11, sound_12, sound_13, sound_14, sound_15, sound_16, sound_17, sound_18}

-- ---- the automaton's starts

-- what is known of a start: its rules, and its rules without a form of f-strings
record Start (lexemes : Lexemes) (mode : Mode) (forms : Forms) : Type 0 where
  found : find entries (slice_index STARTS (start_place lexemes mode forms)) ≡ Some (rules_of lexemes mode forms)
  sound : IsSound (record { table = the_table; start = slice_index STARTS (start_place lexemes mode forms) })
  short : without (number_of FShort) (rules_of lexemes mode forms) ≡ rules_of lexemes mode (fewer FShort forms)
  long : without (number_of FLong) (rules_of lexemes mode forms) ≡ rules_of lexemes mode (fewer FLong forms)

at_start : (lexemes : Lexemes) (mode : Mode) (forms : Forms) → Start lexemes mode forms
unfolding entries entries_1 entries_2 entries_3 entries_4 entries_5 entries_6 entries_7 entries_8 entries_9 entries_10 entries_11 entries_12 entries_13
at_start Text modes.Text Both = record { found = refl; sound = sound_0; short = refl; long = refl }
at_start Text modes.Text Short = record { found = refl; sound = sound_1; short = refl; long = refl }
at_start Text modes.Text Long = record { found = refl; sound = sound_2; short = refl; long = refl }
at_start Text modes.Text Neither = record { found = refl; sound = sound_3; short = refl; long = refl }
at_start Text modes.Pattern Both = record { found = refl; sound = sound_4; short = refl; long = refl }
at_start Text modes.Pattern Short = record { found = refl; sound = sound_5; short = refl; long = refl }
at_start Text modes.Pattern Long = record { found = refl; sound = sound_6; short = refl; long = refl }
at_start Text modes.Pattern Neither = record { found = refl; sound = sound_7; short = refl; long = refl }
at_start Field modes.Text Both = record { found = refl; sound = sound_8; short = refl; long = refl }
at_start Field modes.Text Short = record { found = refl; sound = sound_9; short = refl; long = refl }
at_start Field modes.Text Long = record { found = refl; sound = sound_10; short = refl; long = refl }
at_start Field modes.Text Neither = record { found = refl; sound = sound_11; short = refl; long = refl }
at_start Field modes.Pattern Both = record { found = refl; sound = sound_12; short = refl; long = refl }
at_start Field modes.Pattern Short = record { found = refl; sound = sound_13; short = refl; long = refl }
at_start Field modes.Pattern Long = record { found = refl; sound = sound_14; short = refl; long = refl }
at_start Field modes.Pattern Neither = record { found = refl; sound = sound_15; short = refl; long = refl }
at_start Converted mode forms = record { found = refl; sound = sound_16; short = refl; long = refl }
at_start Plain mode forms = record { found = refl; sound = sound_17; short = refl; long = refl }
at_start Format mode forms = record { found = refl; sound = sound_18; short = refl; long = refl }

pub sound : (lexemes : Lexemes) (mode : Mode) (forms : Forms) → IsSound (record { table = the_table; start = slice_index STARTS (start_place lexemes mode forms) })
sound lexemes mode forms = (at_start lexemes mode forms).sound

pub accepts : (lexemes : Lexemes) (mode : Mode) (forms : Forms) → Accepts the_table (slice_index STARTS (start_place lexemes mode forms)) (rules_of lexemes mode forms)
accepts lexemes mode forms = certified the_table entries (slice_index STARTS (start_place lexemes mode forms)) (rules_of lexemes mode forms) rows (at_start lexemes mode forms).found

-- ---- the number of a class

first : (w n : ℕ) (x y c : Class) → (if w == n then x else y) ≡ c → number_of x ≡ n → (y ≡ c → w ≡ number_of c) → w ≡ number_of c
first w n x y c e q more = here (w == n) refl e
  where
    here : (b : Bool) → (w == n) ≡ b → (if b then x else y) ≡ c → w ≡ number_of c
    here true t e = eqb-true w n t ∙ sym q ∙ ap number_of e
    here false t e = more e

-- each class but the last has one number
number_is : (w : ℕ) (c : Class) → class_of w ≡ c → c ≢ classes.Conversion → w ≡ number_of c
number_is w c e ne = first w 0 classes.Name _ c e refl (λ e. first w 1 classes.Number _ c e refl (λ e. first w 2 classes.Str _ c e refl (λ e. first w 3 classes.Mark _ c e refl (λ e. first w 4 classes.Opening _ c e refl (λ e. first w 5 classes.Closing _ c e refl (λ e. first w 6 classes.Meta _ c e refl (λ e. first w 7 classes.MetaDots _ c e refl (λ e. first w 8 classes.Blank _ c e refl (λ e. first w 9 classes.LineEnd _ c e refl (λ e. first w 10 classes.Splice _ c e refl (λ e. first w 11 classes.Comment _ c e refl (λ e. first w 12 classes.FShort _ c e refl (λ e. first w 13 classes.FLong _ c e refl (λ e. first w 14 classes.Plain _ c e refl (λ e. first w 15 classes.FieldStart _ c e refl (λ e. first w 16 classes.FieldEnd _ c e refl (λ e. first w 17 classes.Colon _ c e refl (λ e. absurd (ne (sym e))))))))))))))))))))

-- ---- rules without a form of f-strings

left_out : (lexemes : Lexemes) (mode : Mode) (forms : Forms) (w : ℕ) → is_f_string (class_of w) ≡ true → without w (rules_of lexemes mode forms) ≡ rules_of lexemes mode (fewer (class_of w) forms)
left_out lexemes mode forms w is = by_class (class_of w) refl is
  where
    by_class : (c : Class) → class_of w ≡ c → is_f_string c ≡ true → without w (rules_of lexemes mode forms) ≡ rules_of lexemes mode (fewer c forms)
    by_class FShort e t = subst (λ (n : ℕ). without n (rules_of lexemes mode forms) ≡ rules_of lexemes mode (fewer FShort forms)) (sym (number_is w FShort e (λ x. absurd cc))) (at_start lexemes mode forms).short
    by_class FLong e t = subst (λ (n : ℕ). without n (rules_of lexemes mode forms) ≡ rules_of lexemes mode (fewer FLong forms)) (sym (number_is w FLong e (λ x. absurd cc))) (at_start lexemes mode forms).long
    by_class _ e t = absurd cc

ends_first : (lexemes : Lexemes) (mode : Mode) (forms : Forms) (w : ℕ) → is_f_string (class_of w) ≡ true → IsPrefixFree (rules_of lexemes mode forms) w
ends_first lexemes mode forms w is = by_class (class_of w) refl is
  where
    free : (n : ℕ) → closed n entries ≡ true → IsPrefixFree (rules_of lexemes mode forms) n
    free n h = prefix_free the_table entries (slice_index STARTS (start_place lexemes mode forms)) (rules_of lexemes mode forms) n rows h (at_start lexemes mode forms).found

    by_class : (c : Class) → class_of w ≡ c → is_f_string c ≡ true → IsPrefixFree (rules_of lexemes mode forms) w
    by_class FShort e t = subst (λ (n : ℕ). IsPrefixFree (rules_of lexemes mode forms) n) (sym (number_is w FShort e (λ x. absurd cc))) (free 12 short_closed)
    by_class FLong e t = subst (λ (n : ℕ). IsPrefixFree (rules_of lexemes mode forms) n) (sym (number_is w FLong e (λ x. absurd cc))) (free 13 long_closed)
    by_class _ e t = absurd cc

-- ---- how many forms are left

abbrev pub count : Forms → ℕ
count Both = 2
count Short = 1
count Long = 1
count Neither = 0

without_gone : (w : ℕ) (rs : List Rule) (cs : List ℕ) → Spells (without w rs) w cs → ⊥
without_gone w [] cs h = h
without_gone w (r ∷ rs) cs h = here (without_gone w rs cs) (r.word == w) refl h
  where
    here : (Spells (without w rs) w cs → ⊥) → (b : Bool) → (r.word == w) ≡ b → Spells (if b then without w rs else r ∷ without w rs) w cs → ⊥
    here more true e h = more h
    here more false e (inl h) = let k : true ≡ false = sym (eq-eqb r.word w h.0) ∙ e in absurd cc
    here more false e (inr h) = more h

fewer_by : (c : Class) (forms : Forms) → (fewer c forms ≡ forms → ⊥) → is_f_string c ≡ true → count (fewer c forms) < count forms
fewer_by FShort Both ne is = omega arith
fewer_by FShort Short ne is = omega arith
fewer_by FShort Long ne is = absurd (ne refl)
fewer_by FShort Neither ne is = absurd (ne refl)
fewer_by FLong Both ne is = omega arith
fewer_by FLong Short ne is = absurd (ne refl)
fewer_by FLong Long ne is = omega arith
fewer_by FLong Neither ne is = absurd (ne refl)
fewer_by _ forms ne is = absurd cc

-- where an f-string was found, its form was looked for
pub smaller : (lexemes : Lexemes) (mode : Mode) (forms : Forms) (w : ℕ) (cs : List ℕ) → Spells (rules_of lexemes mode forms) w cs → is_f_string (class_of w) ≡ true → count (fewer (class_of w) forms) < count forms
smaller lexemes mode forms w cs sp is = fewer_by (class_of w) forms (λ same. without_gone w (rules_of lexemes mode forms) cs (subst (λ (rs : List Rule). Spells rs w cs) (sym (left_out lexemes mode forms w is ∙ ap (rules_of lexemes mode) same)) sp)) is

-- ---- looking again

-- an f-string without parts gives way to what is found without its form
pub passed_over : (P : Parting) (lexemes : Lexemes) (mode : Mode) (forms : Forms) (at : ℕ) (text : List ℕ) (w : ℕ) (front rest : List ℕ) (r : Result Found LexFault) → IsPiece (rules_of lexemes mode forms) text w front rest → is_f_string (class_of w) ≡ true
    → ((xs : List FPart) → P at (class_of w) (chars front) xs → ⊥) → Looks P (rules_of lexemes mode (fewer (class_of w) forms)) at text r → Looks P (rules_of lexemes mode forms) at text r
passed_over P lexemes mode forms at text w front rest r p is no_parts h = by_result r h
  where
    barred : HasSome P at w (chars front) → ⊥
    barred (xs, x) = no_parts xs (subst (λ (b : Bool). PartedIf b (P at (class_of w) (chars front) xs) xs) is x)

    free : IsPrefixFree (rules_of lexemes mode forms) w
    free = ends_first lexemes mode forms w is

    same : rules_of lexemes mode (fewer (class_of w) forms) ≡ without w (rules_of lexemes mode forms)
    same = sym (left_out lexemes mode forms w is)

    by_result : (r : Result Found LexFault) → Looks P (rules_of lexemes mode (fewer (class_of w) forms)) at text r → Looks P (rules_of lexemes mode forms) at text r
    by_result (Ok f) g = record {
      whole = g.whole;
      begins = passed (HasSome P at) (rules_of lexemes mode forms) (chars text) w (chars front) (chars rest) f.word (chars f.text.now) (chars f.rest.now) p.begins barred free
          (subst (λ (rs : List Rule). BeginsWithSuch (HasSome P at) rs (chars text) f.word (chars f.text.now) (chars f.rest.now)) same g.begins);
      parts = g.parts;
      only = g.only;
      some = g.some;
      sharp = p.sharp;
      utf8 = g.utf8;
      utf8_rest = g.utf8_rest;
    }
    by_result (Err Memory) g = tt
    by_result (Err NoTokens) g = passed_none (HasSome P at) (rules_of lexemes mode forms) (chars text) w (chars front) (chars rest) p.begins barred free (subst (λ (rs : List Rule). BeginsWithNoneSuch (HasSome P at) rs (chars text)) same g)
