-- What the automaton of the tokens of a text says of its states, each with the word that is read in it and characters that finish it.
-- The states are those of the table of json_tree; that all this is right is computed here.
use Rattle.std.proofs.Common.{◌≡◌, ◌≢◌, ℕ, zero, suc, ◌+◌, ◌<◌, ◌≤◌, Bool, true, false, ◌&&◌, ◌||◌, ◌==◌, ◌⊎◌, inl, inr, List, [], ◌∷◌, refl, sym, ap, ◌∙◌, subst, arith, eqb-true, nat_lt}
use Rattle.std.specs.Prelude.{slice_index, if◌then◌else◌, not, pred, Option, Some, None}
use Rattle.std.proofs.lemmas.Bool.{and_parts}
use Rattle.lexing.specs.Rules.{symbol}
use Rattle.lexing.specs.Automaton.{accepted}
use Rattle.lexing.proofs.Certificate.{all_below, below_at, symbol_few}
use Rattle.lexing.proofs.Basics.{or_cases}
use Rattle.json_tree.specs.declared.table.TheConstants.{COLUMNS, ROWS}
use Rattle.json_tree.specs.declared.token.Word.{Word}
use Rattle.json_tree.specs.Words.{number_of, word_of}
use Rattle.json_tree.specs.States.{next_state, may_end, column}
use Rattle.json_tree.proofs.Certificate.{the_table, sound_0}
use Rattle.json_tree.proofs.States.{in_ascii, beyond}
use Rattle.json_check.specs.fronts.Fronts.{begun}
use Rattle.json_check.proofs.Runs.{is_text, of_class, of_number_is}

-- a state, the number of the word that is read in it, plus 1, and characters that finish it
pub record Label : Type 0 where
  pub state : ℕ
  pub word : ℕ
  pub finish : List ℕ

abbrev label : ℕ → ℕ → List ℕ → Label
label s w f = record { state = s; word = w; finish = f }

unfoldable pub labels : List Label
labels =
    label 108 1 ([])
    ∷ label 144 8 (34 ∷ [])
    ∷ label 180 6 ([])
    ∷ label 216 9 (48 ∷ [])
    ∷ label 252 9 ([])
    ∷ label 288 9 ([])
    ∷ label 324 7 ([])
    ∷ label 360 4 ([])
    ∷ label 396 5 ([])
    ∷ label 432 10 (97 ∷ 108 ∷ 115 ∷ 101 ∷ [])
    ∷ label 468 10 (117 ∷ 108 ∷ 108 ∷ [])
    ∷ label 504 10 (114 ∷ 117 ∷ 101 ∷ [])
    ∷ label 540 2 ([])
    ∷ label 576 3 ([])
    ∷ label 720 8 ([])
    ∷ label 756 8 (34 ∷ 34 ∷ [])
    ∷ label 792 9 (48 ∷ [])
    ∷ label 828 9 (48 ∷ [])
    ∷ label 864 10 (108 ∷ 115 ∷ 101 ∷ [])
    ∷ label 900 10 (108 ∷ 108 ∷ [])
    ∷ label 936 10 (117 ∷ 101 ∷ [])
    ∷ label 1116 8 (48 ∷ 48 ∷ 48 ∷ 48 ∷ 34 ∷ [])
    ∷ label 1152 9 ([])
    ∷ label 1188 9 (48 ∷ [])
    ∷ label 1224 9 ([])
    ∷ label 1260 10 (115 ∷ 101 ∷ [])
    ∷ label 1296 10 (108 ∷ [])
    ∷ label 1332 10 (101 ∷ [])
    ∷ label 1476 8 (48 ∷ 48 ∷ 48 ∷ 34 ∷ [])
    ∷ label 1512 10 ([])
    ∷ label 1656 8 (48 ∷ 48 ∷ 34 ∷ [])
    ∷ label 1728 8 (48 ∷ 34 ∷ [])
    ∷ []

-- the word of a state among these, or 0
abbrev pub word_among : List Label → ℕ → ℕ
word_among [] s = 0
word_among (l ∷ ls) s = if l.state == s then l.word else word_among ls s

abbrev pub finish_among : List Label → ℕ → List ℕ
finish_among [] s = []
finish_among (l ∷ ls) s = if l.state == s then l.finish else finish_among ls s

unfoldable pub label_of : ℕ → ℕ
label_of s = word_among labels s

unfoldable pub finish_of : ℕ → List ℕ
finish_of s = finish_among labels s

-- ---- what is computed

abbrev each : (Label → Bool) → List Label → Bool
each p [] = true
each p (l ∷ ls) = p l && each p ls

each_holds : (p : ℕ → Bool) (ls : List Label) (s : ℕ) → each (λ l. p l.state) ls ≡ true → word_among ls s ≢ 0 → p s ≡ true
each_holds p [] s h n = absurd (n refl)
each_holds p (l ∷ ls) s h n = by_test (l.state == s) refl (each_holds p ls s (and_parts (p l.state) (each (λ l. p l.state) ls) h).1)
  where
    by_test : (b : Bool) → (l.state == s) ≡ b → (word_among ls s ≢ 0 → p s ≡ true) → p s ≡ true
    by_test true e more = subst (λ (k : ℕ). p k ≡ true) (eqb-true l.state s e) (and_parts (p l.state) (each (λ l. p l.state) ls) h).0
    by_test false e more = more (λ z. n (ap (λ (b : Bool). if b then l.word else word_among ls s) e ∙ z))

abbrev pub all_ascii : List ℕ → Bool
all_ascii [] = true
all_ascii (c ∷ cs) = nat_lt c 128 && all_ascii cs

live_among : (s : ℕ) → label_of s ≢ 0 → word_among labels s ≢ 0
unfolding label_of
live_among s h = h

-- from a state on: the word stays, and where a word may end, no other begins but where it may end still
abbrev goes_right : ℕ → ℕ → Bool
goes_right s k =
    (k == 0) || ((slice_index ROWS (s + k) == 0)
    || ((label_of (slice_index ROWS (s + k)) == label_of s) && ((slice_index ROWS s == 0) || ((slice_index ROWS (36 + k) == 0) || not (slice_index ROWS (slice_index ROWS (s + k)) == 0)))))

-- a state accepts its word, or none, and what finishes it leads on to its word
abbrev ends_right : ℕ → Bool
ends_right s = ((slice_index ROWS s == 0) || (slice_index ROWS s == label_of s)) && ((accepted the_table s (finish_of s) == label_of s) && (all_ascii (finish_of s) && ((slice_index ROWS (s + 3) == 0) || ((slice_index ROWS (s + 3) == 108) || (slice_index ROWS s == 0)))))

all_go_right : each (λ l. all_below (goes_right l.state) 36) labels ≡ true
unfolding labels label_of
all_go_right = refl

all_end_right : each (λ l. ends_right l.state) labels ≡ true
unfolding labels label_of finish_of accepted symbol
all_end_right = refl

some_column : all_below (λ y. not (slice_index COLUMNS y == 0)) 131 ≡ true
some_column = refl

abbrev number : Option Word → ℕ
number None = 0
number (Some x) = suc (number_of x)

-- what a character begins
abbrev begins_of : ℕ → ℕ → Bool
begins_of k c = (slice_index ROWS (36 + k) == 0) || (not (label_of (slice_index ROWS (36 + k)) == 0) && (number (begun c) == number (word_of (pred (label_of (slice_index ROWS (36 + k)))))))

abbrev begins_right : ℕ → Bool
begins_right c = begins_of (slice_index COLUMNS c) c

all_begin_right : all_below begins_right 128 ≡ true
unfolding labels label_of
all_begin_right = refl

-- ---- what is cited

or_else : (n : ℕ) (b : Bool) → ((n == 0) || b) ≡ true → n ≢ 0 → b ≡ true
or_else n b h some = elim (or_cases (n == 0) b h) [ inl z ↦ absurd (some (eqb-true n 0 z)) | inr y ↦ y ]

not_zero : (n : ℕ) → not (n == 0) ≡ true → n ≢ 0
not_zero zero h = absurd cc
not_zero (suc n) h = λ e. absurd (omega (arith, e))

column_some : (c : ℕ) → column c ≢ 0
unfolding column
column_some c = not_zero (slice_index COLUMNS (symbol c)) (below_at (λ y. not (slice_index COLUMNS y == 0)) 131 (symbol c) some_column (symbol_few c))

column_few : (c : ℕ) → column c < 36
unfolding column
column_few c = sound_0.whole.columns (symbol c)

goes : (s c : ℕ) → label_of s ≢ 0 → next_state s c ≢ 0 → ((label_of (next_state s c) == label_of s) && ((slice_index ROWS s == 0) || ((next_state 36 c == 0) || not (slice_index ROWS (next_state s c) == 0)))) ≡ true
unfolding next_state
goes s c live some =
    or_else _ _ (or_else (column c) _ (below_at (goes_right s) 36 (column c) (each_holds (λ s. all_below (goes_right s) 36) labels s all_go_right (live_among s live)) (column_few c)) (column_some c)) some

pub next_word : (s c : ℕ) → label_of s ≢ 0 → next_state s c ≢ 0 → label_of (next_state s c) ≡ label_of s
next_word s c live some = eqb-true _ _ (and_parts (label_of (next_state s c) == label_of s) _ (goes s c live some)).0

pub next_end : (s c : ℕ) → label_of s ≢ 0 → may_end s ≡ true → next_state 36 c ≢ 0 → next_state s c ≢ 0 → may_end (next_state s c) ≡ true
unfolding may_end
next_end s c live ends first some = or_else _ _ (or_else _ _ (and_parts (label_of (next_state s c) == label_of s) _ (goes s c live some)).1 (not_zero _ ends)) first

ends : (s : ℕ) → label_of s ≢ 0 → ends_right s ≡ true
ends s live = each_holds ends_right labels s all_end_right (live_among s live)

pub word_ends : (s : ℕ) → label_of s ≢ 0 → may_end s ≡ true → slice_index ROWS s ≡ label_of s
unfolding may_end
word_ends s live h = eqb-true _ _ (or_else _ _ (and_parts ((slice_index ROWS s == 0) || (slice_index ROWS s == label_of s)) _ (ends s live)).0 (not_zero _ h))

pub finishes : (s : ℕ) → label_of s ≢ 0 → accepted the_table s (finish_of s) ≡ label_of s
finishes s live =
    let a = (and_parts ((slice_index ROWS s == 0) || (slice_index ROWS s == label_of s)) _ (ends s live)).1 in
    eqb-true _ _ (and_parts (accepted the_table s (finish_of s) == label_of s) _ a).0

pub finish_ascii : (s : ℕ) → label_of s ≢ 0 → all_ascii (finish_of s) ≡ true
finish_ascii s live =
    let a = (and_parts ((slice_index ROWS s == 0) || (slice_index ROWS s == label_of s)) _ (ends s live)).1 in
    let b = (and_parts (accepted the_table s (finish_of s) == label_of s) _ a).1 in
    (and_parts (all_ascii (finish_of s)) _ b).0

pub blank_next : (s : ℕ) → label_of s ≢ 0 → may_end s ≡ true → next_state s 32 ≢ 0 → next_state s 32 ≡ 108
unfolding may_end next_state column symbol
blank_next s live h some =
    let a = (and_parts ((slice_index ROWS s == 0) || (slice_index ROWS s == label_of s)) _ (ends s live)).1 in
    let b = (and_parts (accepted the_table s (finish_of s) == label_of s) _ a).1 in
    let c = (and_parts (all_ascii (finish_of s)) _ b).1 in
    elim (or_cases _ _ (or_else _ _ c some)) [ inl e ↦ eqb-true _ _ e | inr z ↦ absurd (not_zero _ h (eqb-true _ _ z)) ]

number_back : (a b : Option Word) → number a ≡ number b → a ≡ b
number_back a b e = sym (back_is a) ∙ ap back e ∙ back_is b
  where
    back : ℕ → Option Word
    back zero = None
    back (suc n) = Some (of_class n)

    back_is : (o : Option Word) → back (number o) ≡ o
    back_is None = refl
    back_is (Some x) = ap (λ (y : Word). Some y) (of_number_is x)

-- a character that begins a lexeme, and its word
pub record IsBegun (c : ℕ) : Type 0 where
  pub live : label_of (next_state 36 c) ≢ 0
  pub word : begun c ≡ word_of (pred (label_of (next_state 36 c)))

begins_in_ascii : (c : ℕ) → c < 128 → next_state 36 c ≢ 0 → IsBegun c
unfolding next_state
begins_in_ascii c lt some =
    let col : slice_index COLUMNS c ≡ column c = in_ascii c lt in
    let a : begins_right c ≡ true = below_at begins_right 128 c all_begin_right lt in
    let t : begins_of (column c) c ≡ true = subst (λ (k : ℕ). begins_of k c ≡ true) col a in
    let b = and_parts _ _ (or_else _ _ t some) in
    record { live = not_zero _ b.0; word = number_back _ _ (eqb-true _ _ b.1) }

pub begins : (c : ℕ) → next_state 36 c ≢ 0 → IsBegun c
unfolding next_state
begins c some = elim (in_or_out c) [ inl lt ↦ begins_in_ascii c lt some | inr le ↦ absurd (some (ap (λ (k : ℕ). slice_index ROWS (36 + k)) (sym (beyond c le)))) ]
  where
    in_or_out : (c : ℕ) → (c < 128) ⊎ (128 ≤ c)
    in_or_out c = grind arith

-- the state before a text is that in blanks, and only blanks go on from there
first_right : all_below (λ k. (k == 0) || ((slice_index ROWS (108 + k) == 0) || ((slice_index ROWS (108 + k) == 108) && (slice_index ROWS (36 + k) == 108)))) 36 ≡ true
first_right = refl

pub first_blank : (c : ℕ) → next_state 108 c ≢ 0 → (next_state 108 c ≡ 108) × (next_state 36 c ≡ 108)
unfolding next_state
first_blank c some =
    let a = and_parts _ _ (or_else _ _ (or_else (column c) _ (below_at (λ k. (k == 0) || ((slice_index ROWS (108 + k) == 0) || ((slice_index ROWS (108 + k) == 108) && (slice_index ROWS (36 + k) == 108)))) 36 (column c) first_right (column_few c)) (column_some c)) some) in
    (eqb-true _ _ a.0, eqb-true _ _ a.1)

pub first_label : label_of 108 ≡ 1
unfolding labels label_of
first_label = refl

-- the words of a lexeme of this label: one, or none where it is blanks
abbrev pub words_of : ℕ → List Word
words_of n = elim (word_of (pred n)) [ None ↦ [] | Some x ↦ x ∷ [] ]

abbrev pub all_text : List Word → Bool
all_text [] = true
all_text (x ∷ xs) = is_text x && all_text xs

all_text_right : each (λ l. all_text (words_of (label_of l.state))) labels ≡ true
unfolding labels label_of
all_text_right = refl

pub text_words : (s : ℕ) → label_of s ≢ 0 → all_text (words_of (label_of s)) ≡ true
text_words s live = each_holds (λ s. all_text (words_of (label_of s))) labels s all_text_right (live_among s live)
