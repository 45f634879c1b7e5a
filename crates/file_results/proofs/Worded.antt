-- Texts without the word that comments quiet by.
use Rattle.std.proofs.Common.{◌≡◌, ◌↔◌, IsTrue, ℕ, ◌+◌, ◌-◌, Bool, true, false, List, [], ◌∷◌, ◌++◌, length, take, drop, refl, sym, ap, ◌∙◌, subst, arith, append_assoc, append-nil, length-append}
use Rattle.std.specs.Prelude.{if◌then◌else◌, ◌==◌, ◌&&◌, Option, None, Some, nat_eq, slice_index, slice_range}
use Rattle.std.specs.Option.{is_some}
use Rattle.std.specs.List.{starts_with, prefix_len, cons_option}
use Rattle.std.proofs.lemmas.List.{take-append-drop, get_or-append-add, get_or_append_left}
use Rattle.std.proofs.lemmas.Bool.Decides.{Decides-eqb}
use Rattle.std.proofs.lemmas.Slice.Eq.{starts_is}
use Rattle.memchr.specs.Find.{OccursAt, FindsNeedle}
use Rattle.node_tree.specs.declared.span.Span.{Span}
use Rattle.node_tree.specs.Places.{lines_before}
use Rattle.quieting.specs.declared.quiet.Quiet.{Quiet}
use Rattle.quieting.specs.Comments.{is_block, content_of, is_blank, past_blanks, quieting_word, past_word}
use Rattle.quieting.specs.Quieting.{said, quiet_of, quiets_of}
use Rattle.file_results.specs.Quieted.{HasWord}

-- ---- a part of a text that has the word

-- the word stands between two parts of the text
abbrev Stands : List ℕ → Type 0
Stands text = (before after : List ℕ) × (text ≡ before ++ (quieting_word ++ after))

-- where it stands it is found
stands_somewhere : (text : List ℕ) → Stands text → HasWord text
stands_somewhere text (before, after, e) =
    let P : List ℕ → Type 0 = λ t. OccursAt t quieting_word (length before) in (
      length before,
      subst P (sym e) (record {
        fits = omega (arith, length-append before (quieting_word ++ after), length-append quieting_word after);
        reads = λ j lt. get_or-append-add before (quieting_word ++ after) j 0 ∙ get_or_append_left quieting_word after 0 j lt;
      }),
    )

-- a text has it where a part of it does
stands_after : (front text : List ℕ) → Stands text → Stands (front ++ text)
stands_after front text (before, after, e) = (front ++ before, after, ap (λ (t : List ℕ). front ++ t) e ∙ sym (append_assoc front before (quieting_word ++ after)))

stands_before : (text back : List ℕ) → Stands text → Stands (text ++ back)
stands_before text back (before, after, e) =
    (before, after ++ back, ap (λ (t : List ℕ). t ++ back) e ∙ append_assoc before (quieting_word ++ after) back ∙ ap (λ (t : List ℕ). before ++ t) (append_assoc quieting_word after back))

stands_dropped : (n : ℕ) (text : List ℕ) → Stands (drop n text) → Stands text
stands_dropped n text h = let P : List ℕ → Type 0 = λ t. Stands t in subst P (take-append-drop n text) (stands_after (take n text) (drop n text) h)

stands_taken : (n : ℕ) (text : List ℕ) → Stands (take n text) → Stands text
stands_taken n text h = let P : List ℕ → Type 0 = λ t. Stands t in subst P (take-append-drop n text) (stands_before (take n text) (drop n text) h)

stands_within : (text : List ℕ) (from to : ℕ) → Stands (slice_range text from to) → Stands text
stands_within text from to h = stands_dropped from text (stands_taken (to - from) (drop from text) h)

stands_begun : (text : List ℕ) → starts_with nat_eq text quieting_word ≡ true → Stands text
stands_begun text e = ([], drop (length quieting_word) text, (starts_is Decides-eqb text quieting_word (starts_with nat_eq text quieting_word) refl).0 e)

-- ---- comments without it

-- what stands in a comment is a part of it
content_by : (b c d : Bool) (t : List ℕ) → Stands (if b then drop 1 t else (if c then drop 2 t else (if d then slice_range t 2 (length t - 2) else []))) → Stands t
content_by true c d t h = stands_dropped 1 t h
content_by false true d t h = stands_dropped 2 t h
content_by false false true t h = stands_within t 2 (length t - 2) h
content_by false false false t h = let P : List ℕ → Type 0 = λ u. Stands u in subst P (append-nil t) (stands_after t [] h)

content_stands : (t : List ℕ) → Stands (content_of t) → Stands t
content_stands t h = content_by (slice_index t 0 == 35) (slice_index t 0 == 47 && slice_index t 1 == 47) (is_block t) t h

-- what doesn't have the word doesn't begin with it
past_none : (content : List ℕ) (b : Bool) → starts_with nat_eq (past_blanks content) quieting_word ≡ b → (Stands content → ⊥) → past_word content ≡ None
past_none content true e none = absurd (none (stands_dropped (prefix_len is_blank content) content (stands_begun (past_blanks content) e)))
past_none content false e none = ap (λ (c : Bool). if c then Some (drop 9 (past_blanks content)) else None) e

module _ (text : List ℕ) (none : HasWord text → ⊥) where
  quiet_none : (span : Span) → quiet_of text span ≡ None
  quiet_none span =
      let comment = slice_range text span.from span.to in
      let content = content_of comment in
      let past = past_none content (starts_with nat_eq (past_blanks content) quieting_word) refl (λ h. none (stands_somewhere text (stands_within text span.from span.to (content_stands comment h)))) in
      ap (λ (o : Option (List ℕ)). elim o [ None ↦ None | Some rest ↦ said (lines_before text span.from + 1) rest ]) past

  -- no comment quiets anything
  pub quiets_none : (spans : List Span) → quiets_of text spans ≡ []
  quiets_none [] = refl
  quiets_none (span ∷ spans) = ap (λ (o : Option Quiet). cons_option o (quiets_of text spans)) (quiet_none span) ∙ quiets_none spans

-- ---- the search for the word

pub found_word : (text : List ℕ) (r : Option ℕ) → FindsNeedle text quieting_word 0 r → IsTrue (is_some r) ↔ HasWord text
found_word text None none = (λ e. absurd (let f : false ≡ true = e in cc), λ has. absurd (none has.0 (omega arith) (let fits = has.1.fits in omega arith) has.1))
found_word text (Some k) found = (λ _. (k, found.1), λ _. refl)
