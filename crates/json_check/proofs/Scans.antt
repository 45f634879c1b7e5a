-- Characters read one by one: the states of the automaton, and the words of the tokens that begin.
use Rattle.std.proofs.Common.{◌≡◌, ◌≢◌, ℕ, zero, suc, ◌+◌, ◌<◌, ◌≤◌, Bool, true, false, ◌==◌, ◌⊎◌, inl, inr, List, [], ◌∷◌, ◌++◌, length, refl, sym, ap, ◌∙◌, subst, arith, eqb-true, append_assoc, length-append}
use Rattle.std.proofs.lemmas.List.{append-nil}
use Rattle.std.proofs.lemmas.Bool.{and_parts}
use Rattle.json_check.proofs.Runs.{is_text}
use Rattle.std.specs.Prelude.{slice_index, encode_utf8_all, pred, map, not, Option, Some, None}
use Rattle.node_tree.specs.declared.view.Mode.TheVariants.{Text}
use Rattle.lexing.specs.Rules.{symbol, Rule, Spells}
use Rattle.lexing.specs.Automaton.{accepted}
use Rattle.lexing.specs.Conditions.{BeginsWithSuch}
use Rattle.lexing.specs.Reading.{Lexeme, Turn, Reads, HasTokens, reader}
use Rattle.lexing.proofs.Scanning.{dead_stays}
use Rattle.lexing.proofs.Basics.{and_both, cons_is, head_is, tail_is}
use Rattle.json_tree.specs.declared.table.TheConstants.{ROWS}
use Rattle.json_tree.specs.declared.token.Word.{Word}
use Rattle.json_tree.specs.declared.token.Word.TheVariants as w
use Rattle.json_tree.specs.declared.token.Token.{Token}
use Rattle.json_tree.specs.Words.{word_of, word_in}
use Rattle.json_tree.specs.Tokens.{rules}
use Rattle.json_tree.specs.Lexing.{json_language, given}
use Rattle.json_tree.specs.States.{next_state, may_end, column}
use Rattle.json_tree.proofs.Certificate.{the_table, accepts_0, sound_0}
use Rattle.json_check.proofs.Labels.{label_of, finish_of, next_word, next_end, word_ends, finishes, begins, first_blank, first_label, words_of, all_text, text_words}

abbrev pub live : ℕ → Type 0
live s = label_of s ≢ 0

-- from a state to another, over these characters, among which tokens of these words begin
pub data Scans : ℕ → List ℕ → List Word → ℕ → Type 0 where
  s_end : {q r : ℕ} {cs : List ℕ} {ws : List Word} → q ≡ r → cs ≡ [] → ws ≡ [] → Scans q cs ws r
  s_in : {q r : ℕ} {cs : List ℕ} {ws : List Word} (c : ℕ) (ds : List ℕ) → cs ≡ c ∷ ds → next_state q c ≢ 0 → Scans (next_state q c) ds ws r → Scans q cs ws r
  s_new : {q r : ℕ} {cs : List ℕ} {ws : List Word} (c : ℕ) (ds : List ℕ) (vs : List Word) → cs ≡ c ∷ ds → next_state q c ≡ 0 → may_end q ≡ true → next_state 36 c ≢ 0 → ws ≡ words_of (label_of (next_state 36 c)) ++ vs → Scans (next_state 36 c) ds vs r → Scans q cs ws r

pub scans_on : {q r t : ℕ} {cs ds : List ℕ} {ws vs : List Word} → Scans q cs ws r → Scans r ds vs t → Scans q (cs ++ ds) (ws ++ vs) t
scans_on (s_end e f g) b = rw (e, f, g) b
scans_on {ds = ds} (s_in c xs e n a) b = s_in c (xs ++ ds) (ap (λ (x : List ℕ). x ++ ds) e) n (scans_on a b)
scans_on {ds = ds} {vs = vs} (s_new c xs us e z m n g a) b = s_new c (xs ++ ds) (us ++ vs) (ap (λ (x : List ℕ). x ++ ds) e) z m n (ap (λ (x : List Word). x ++ vs) g ∙ append_assoc (words_of (label_of (next_state 36 c))) us vs) (scans_on a b)

pub scans_live : {q r : ℕ} {cs : List ℕ} {ws : List Word} → Scans q cs ws r → live q → live r
scans_live (s_end e f g) h = subst live e h
scans_live {q = q} (s_in c xs e n a) h = scans_live a (λ z. h (sym (next_word q c h n) ∙ z))
scans_live (s_new c xs us e z m n g a) h = scans_live a (begins c n).live

-- ---- the automaton

dead : (f : List ℕ) → accepted the_table 0 f ≡ 0
unfolding accepted
dead [] = sound_0.whole.dead 0 sound_0.whole.some
dead (c ∷ f) = ap (λ (s : ℕ). accepted the_table s f) (dead_stays the_table sound_0.whole (symbol c)) ∙ dead f

accepted_next : (s c : ℕ) (f : List ℕ) → accepted the_table s (c ∷ f) ≡ accepted the_table (next_state s c) f
unfolding accepted next_state column
accepted_next s c f = refl

accepted_here : (s : ℕ) → accepted the_table s [] ≡ slice_index ROWS s
unfolding accepted
accepted_here s = refl

goes_some : (s c w : ℕ) (f : List ℕ) → accepted the_table s (c ∷ f) ≡ suc w → next_state s c ≢ 0
goes_some s c w f a z = let e : 0 ≡ suc w = sym (dead f) ∙ ap (λ (k : ℕ). accepted the_table k f) (sym z) ∙ sym (accepted_next s c f) ∙ a in absurd (omega (arith, e))

pub ends_here : (s w : ℕ) → slice_index ROWS s ≡ suc w → may_end s ≡ true
unfolding may_end
ends_here s w e = ap (λ (n : ℕ). not (n == 0)) e ∙ some w
  where
    some : (w : ℕ) → not (suc w == 0) ≡ true
    some w = grind arith

-- within a lexeme
pub record Inside (s : ℕ) (f : List ℕ) (w : ℕ) : Type 0 where
  pub to : ℕ
  pub scans : Scans s f [] to
  pub live : live to
  pub label : label_of to ≡ label_of s
  pub word : slice_index ROWS to ≡ suc w
  pub goes : (xs : List ℕ) → accepted the_table s (f ++ xs) ≡ accepted the_table to xs

pub inside : (f : List ℕ) (s w : ℕ) → live s → accepted the_table s f ≡ suc w → Inside s f w
inside [] s w h a = record { to = s; scans = s_end refl refl refl; live = h; label = refl; word = sym (accepted_here s) ∙ a; goes = λ xs. refl }
inside (c ∷ f) s w h a =
    let n = goes_some s c w f a in
    let l = next_word s c h n in
    let b = inside f (next_state s c) w (λ z. h (sym l ∙ z)) (sym (accepted_next s c f) ∙ a) in
    record { to = b.to; scans = s_in c f refl n b.scans; live = b.live; label = b.label ∙ l; word = b.word; goes = λ xs. accepted_next s c (f ++ xs) ∙ b.goes xs }

-- what finishes a state
pub finished : (s : ℕ) → live s → (t : ℕ) × Scans s (finish_of s) [] t × live t × (may_end t ≡ true)
finished s h = by_label (label_of s) refl
  where
    by_label : (n : ℕ) → label_of s ≡ n → (t : ℕ) × Scans s (finish_of s) [] t × live t × (may_end t ≡ true)
    by_label zero e = absurd (h e)
    by_label (suc w) e = let b = inside (finish_of s) s w h (finishes s h ∙ e) in (b.to, b.scans, b.live, ends_here b.to w b.word)

-- ---- tokens

text_word : (at : ℕ) (bs : List ℕ) (o : Option Word) → map (λ (t : Token). t.word) (given Text at bs o) ≡ elim o [ None ↦ [] | Some x ↦ x ∷ [] ]
text_word at bs None = refl
text_word at bs (Some x) = ap (λ (y : Word). y ∷ []) (same x)
  where
    same : (x : Word) → word_in Text x bs ≡ x
    same w.End = refl
    same w.LeftBrace = refl
    same w.RightBrace = refl
    same w.LeftBracket = refl
    same w.RightBracket = refl
    same w.Comma = refl
    same w.Colon = refl
    same w.Str = refl
    same w.Number = refl
    same w.Const = refl
    same w.StrAny = refl
    same w.Meta = refl
    same w.MetaDots = refl
    same w.Dots = refl
    same w.DeepOpen = refl
    same w.DeepClose = refl

map_both : (ts us : List Token) → map (λ (t : Token). t.word) (ts ++ us) ≡ map (λ (t : Token). t.word) ts ++ map (λ (t : Token). t.word) us
map_both [] us = refl
map_both (t ∷ ts) us = ap (λ (x : List Word). t.word ∷ x) (map_both ts us)

abbrev pub words_in : List Token → List Word
words_in ts = map (λ (t : Token). t.word) ts

-- a front, or one more at least
split : (f left longer after : List ℕ) → f ++ left ≡ longer ++ after → (length longer ≤ length f) ⊎ ((c : ℕ) × (g : List ℕ) × (longer ≡ f ++ (c ∷ g)) × (left ≡ c ∷ (g ++ after)))
split [] left [] after e = inl (omega arith)
split [] left (c ∷ g) after e = inr (c, g, refl, e)
split (x ∷ f) left [] after e = inl (omega arith)
split (x ∷ f) left (y ∷ longer) after e =
    elim (split f left longer after (tail_is x y (f ++ left) (longer ++ after) e)) [
      | inl le ↦ inl (omega (arith, le))
      | inr more ↦ inr (more.0, more.1, cons_is y x longer (f ++ (more.0 ∷ more.1)) (sym (head_is x y (f ++ left) (longer ++ after) e)) more.2, more.3)
    ]

word_at_end : (q : ℕ) → live q → may_end q ≡ true → accepted the_table q [] ≡ suc (pred (label_of q))
word_at_end q h m = accepted_here q ∙ word_ends q h m ∙ some (label_of q) h
  where
    some : (n : ℕ) → n ≢ 0 → n ≡ suc (pred n)
    some zero h = absurd (h refl)
    some (suc n) h = refl

-- a lexeme ends where nothing goes on
piece : (f left : List ℕ) (q : ℕ) → ((xs : List ℕ) → accepted the_table 36 (f ++ xs) ≡ accepted the_table q xs) → live q → may_end q ≡ true → ((c : ℕ) (ds : List ℕ) → left ≡ c ∷ ds → next_state q c ≡ 0) → BeginsWithSuch (λ w cs. Unit {0}) (rules Text) (f ++ left) (pred (label_of q)) f left
piece f left q run h m stops = record {
  parts = refl;
  spells = accepts_0.sound f (pred (label_of q)) (ap (accepted the_table 36) (sym (append-nil f)) ∙ run [] ∙ word_at_end q h m);
  such = tt;
  longest = λ v longer after sp such e. elim (split f left longer after e) [ inl le ↦ le | inr more ↦ absurd (none v longer more.0 more.1 sp more.2 (stops more.0 _ more.3)) ];
}
  where
    none : (v : ℕ) (longer : List ℕ) (c : ℕ) (g : List ℕ) → Spells (rules Text) v longer → longer ≡ f ++ (c ∷ g) → next_state q c ≡ 0 → ⊥
    none v longer c g sp e z =
        let a : 0 ≡ suc v = sym (dead g) ∙ ap (λ (k : ℕ). accepted the_table k g) (sym z) ∙ sym (accepted_next q c g) ∙ sym (run (c ∷ g)) ∙ ap (accepted the_table 36) (sym e) ∙ accepts_0.complete longer v sp in
        absurd (omega (arith, a))

-- tokens of characters from a byte on
abbrev pub Tokens : ℕ → List ℕ → List Token → Type 0
Tokens at cs ts = HasTokens (reader (json_language Text)) at cs ts []

one_piece : (at : ℕ) (f left : List ℕ) (w : ℕ) (ts : List Token) → 0 < length f → BeginsWithSuch (λ w cs. Unit {0}) (rules Text) (f ++ left) w f left → Tokens (at + length (encode_utf8_all f)) left ts → Tokens at (f ++ left) (given Text at (encode_utf8_all f) (word_of w) ++ ts)
one_piece at [] left w ts some b (xs, r) = absurd (omega (arith, some))
one_piece at (c ∷ f) left w ts some b (xs, r) = (record { word = w; text = c ∷ f } ∷ xs, (refl, left, record { after = at + length (encode_utf8_all (c ∷ f)); tokens = given Text at (encode_utf8_all (c ∷ f)) (word_of w) }, ts, b, refl, r, refl))

-- what is scanned to an end of a lexeme has tokens of these words
pub scanned : {q r : ℕ} {cs : List ℕ} {ws : List Word} → Scans q cs ws r → may_end r ≡ true → live q → (f : List ℕ) → 0 < length f → ((xs : List ℕ) → accepted the_table 36 (f ++ xs) ≡ accepted the_table q xs) → (at : ℕ) → (ts : List Token) × Tokens at (f ++ cs) ts × (words_in ts ≡ words_of (label_of q) ++ ws)
scanned {q = q} {r = r} {cs = cs} {ws = ws} (s_end e g h) m l f some run at =
    let p = piece f [] q run l (subst (λ (k : ℕ). may_end k ≡ true) (sym e) m) (λ c ds z. absurd cc) in
    let ts : List Token = given Text at (encode_utf8_all f) (word_of (pred (label_of q))) in (
      ts ++ [],
      subst (λ (x : List ℕ). Tokens at (f ++ x) (ts ++ [])) (sym g) (one_piece at f [] (pred (label_of q)) [] some p ([], (refl, refl, refl))),
      map_both ts [] ∙ ap (λ (x : List Word). x ++ []) (text_word at (encode_utf8_all f) (word_of (pred (label_of q)))) ∙ ap (λ (x : List Word). words_of (label_of q) ++ x) (sym h),
    )
scanned {q = q} {cs = cs} {ws = ws} (s_in c ds e n a) m l f some run at =
    let one : (xs : List ℕ) → accepted the_table 36 ((f ++ c ∷ []) ++ xs) ≡ accepted the_table (next_state q c) xs = λ xs. ap (accepted the_table 36) (append_assoc f (c ∷ []) xs) ∙ run (c ∷ xs) ∙ accepted_next q c xs in
    let w = next_word q c l n in
    let b = scanned a m (λ z. l (sym w ∙ z)) (f ++ c ∷ []) (more f c) one at in (
      b.0,
      subst (λ (x : List ℕ). Tokens at x b.0) (append_assoc f (c ∷ []) ds ∙ ap (λ (x : List ℕ). f ++ x) (sym e)) b.1,
      b.2 ∙ ap (λ (k : ℕ). words_of k ++ ws) w,
    )
  where
    more : (f : List ℕ) (c : ℕ) → 0 < length (f ++ c ∷ [])
    more [] c = omega arith
    more (x ∷ f) c = omega arith
scanned {q = q} {cs = cs} {ws = ws} (s_new c ds vs e z m' n g a) m l f some run at =
    let to : ℕ = at + length (encode_utf8_all f) in
    let b = scanned a m (begins c n).live (c ∷ []) (omega arith) (λ xs. accepted_next 36 c xs) to in
    let p = piece f (c ∷ ds) q run l m' (λ d xs h. ap (next_state q) (sym (head_is c d ds xs h)) ∙ z) in
    let ts : List Token = given Text at (encode_utf8_all f) (word_of (pred (label_of q))) in (
      ts ++ b.0,
      subst (λ (x : List ℕ). Tokens at (f ++ x) (ts ++ b.0)) (sym e) (one_piece at f (c ∷ ds) (pred (label_of q)) b.0 some p b.1),
      map_both ts b.0 ∙ ap (λ (x : List Word). x ++ words_in b.0) (text_word at (encode_utf8_all f) (word_of (pred (label_of q)))) ∙ ap (λ (x : List Word). words_of (label_of q) ++ x) (b.2 ∙ sym g),
    )

-- ---- from the start

pub start_live : live 108
start_live = λ z. (let e : 1 ≡ 0 = sym first_label ∙ z in absurd (omega (arith, e)))

pub from_start : {r : ℕ} {cs : List ℕ} {ws : List Word} → Scans 108 cs ws r → may_end r ≡ true → (at : ℕ) → (ts : List Token) × Tokens at cs ts × (words_in ts ≡ ws)
from_start {cs = cs} {ws = ws} (s_end e g h) m at = ([], subst (λ (x : List ℕ). Tokens at x []) (sym g) ([], (refl, refl, refl)), sym h)
from_start {cs = cs} {ws = ws} (s_in c ds e n a) m at =
    let f = first_blank c n in
    let same : next_state 108 c ≡ next_state 36 c = f.0 ∙ sym f.1 in
    let b = scanned a m (λ z. start_live (ap label_of (sym f.0) ∙ z)) (c ∷ []) (omega arith) (λ xs. accepted_next 36 c xs ∙ ap (λ (k : ℕ). accepted the_table k xs) (sym same)) at in
    (b.0, subst (λ (x : List ℕ). Tokens at x b.0) (sym e) b.1, b.2 ∙ ap (λ (k : ℕ). words_of k ++ ws) (ap label_of f.0 ∙ first_label))
from_start {cs = cs} {ws = ws} (s_new c ds vs e z m' n g a) m at =
    let b = scanned a m (begins c n).live (c ∷ []) (omega arith) (λ xs. accepted_next 36 c xs) at in
    (b.0, subst (λ (x : List ℕ). Tokens at x b.0) (sym e) b.1, b.2 ∙ sym g)

-- ---- from tokens

-- at the end of a lexeme: what begins another does not go on with this one, but for blanks
abbrev Bound : ℕ → List ℕ → Type 0
Bound q cs = (c : ℕ) (ds : List ℕ) → cs ≡ c ∷ ds → next_state 36 c ≢ 0 → (next_state q c ≡ 0) ⊎ ((next_state q c ≡ 108) × (next_state 36 c ≡ 108))

zero_or : (n : ℕ) → (n ≡ 0) ⊎ (n ≢ 0)
zero_or zero = inl refl
zero_or (suc n) = inr (λ e. absurd (omega (arith, e)))

-- a lexeme's first character
entered : (q c : ℕ) (ds : List ℕ) (ws : List Word) (r : ℕ) → next_state 36 c ≢ 0 → may_end q ≡ true → (next_state q c ≡ 0) ⊎ ((next_state q c ≡ 108) × (next_state 36 c ≡ 108)) → Scans (next_state 36 c) ds ws r → Scans q (c ∷ ds) (words_of (label_of (next_state 36 c)) ++ ws) r
entered q c ds ws r n m (inl z) a = s_new c ds ws refl z m n refl a
entered q c ds ws r n m (inr (e, f)) a =
    let same : next_state 36 c ≡ next_state q c = f ∙ sym e in
    let none : words_of (label_of (next_state 36 c)) ++ ws ≡ ws = ap (λ (k : ℕ). words_of k ++ ws) (ap label_of f ∙ first_label) in
    subst (λ (vs : List Word). Scans q (c ∷ ds) vs r) (sym none) (s_in c ds refl (λ z. n (same ∙ z)) (subst (λ (k : ℕ). Scans k ds ws r) same a))

ends_some : (s : ℕ) → may_end s ≡ true → (v : ℕ) × (slice_index ROWS s ≡ suc v)
unfolding may_end
ends_some s h = by_value (slice_index ROWS s) refl
  where
    by_value : (n : ℕ) → slice_index ROWS s ≡ n → (v : ℕ) × (slice_index ROWS s ≡ suc v)
    by_value zero e = let k : false ≡ true = ap (λ (n : ℕ). not (n == 0)) (sym e) ∙ h in absurd cc
    by_value (suc v) e = (v, e)

-- behind a longest spelling is such an end
bound_behind : (f left : List ℕ) (t w : ℕ) → ((xs : List ℕ) → accepted the_table 36 (f ++ xs) ≡ accepted the_table t xs) → live t → may_end t ≡ true → BeginsWithSuch (λ w cs. Unit {0}) (rules Text) (f ++ left) w f left → Bound t left
bound_behind f left t w run l m b c ds e n = elim (zero_or (next_state t c)) [ inl z ↦ inl z | inr some ↦ (let s = ends_some (next_state t c) (next_end t c l m n some) in absurd (no s.0 s.1)) ]
  where
    no : (v : ℕ) → slice_index ROWS (next_state t c) ≡ suc v → ⊥
    no v s =
        let a : accepted the_table 36 (f ++ c ∷ []) ≡ suc v = run (c ∷ []) ∙ accepted_next t c [] ∙ accepted_here (next_state t c) ∙ s in
        let le = b.longest v (f ++ c ∷ []) ds (accepts_0.sound (f ++ c ∷ []) v a) tt (ap (λ (x : List ℕ). f ++ x) e ∙ sym (append_assoc f (c ∷ []) ds)) in
        absurd (omega (arith, le, length-append f (c ∷ [])))

-- what stands behind a lexeme, from an end of it on
abbrev Later : List ℕ → List Token → Type 0
Later left later = (t : ℕ) → live t → may_end t ≡ true → Bound t left → (r : ℕ) × Scans t left (words_in later) r × (may_end r ≡ true)

tokens_first : (xs : List Lexeme) (at : ℕ) (cs : List ℕ) (ts : List Token) (q : ℕ) → may_end q ≡ true → Bound q cs → (w : ℕ) (f left : List ℕ) (turn : Turn ℕ Token) (later : List Token) → BeginsWithSuch (λ w cs. Unit {0}) (rules Text) cs w f left
    → Some (record { after = at + length (encode_utf8_all f); tokens = given Text at (encode_utf8_all f) (word_of w) }) ≡ Some turn → ts ≡ turn.tokens ++ later → Later left later → (r : ℕ) × Scans q cs (words_in ts) r × (may_end r ≡ true)
tokens_first xs at cs ts q m b w [] left turn later p step parts on = let k : 0 ≡ suc w = sym (accepted_here 36) ∙ accepts_0.complete [] w p.spells in absurd (omega (arith, k))
tokens_first xs at cs ts q m b w (c ∷ f) left turn later p step parts on =
    let a : accepted the_table 36 (c ∷ f) ≡ suc w = accepts_0.complete (c ∷ f) w p.spells in
    let n = goes_some 36 c w f a in
    let g = begins c n in
    let i = inside f (next_state 36 c) w g.live (sym (accepted_next 36 c f) ∙ a) in
    let mi = ends_here i.to w i.word in
    let run : (ys : List ℕ) → accepted the_table 36 ((c ∷ f) ++ ys) ≡ accepted the_table i.to ys = λ ys. accepted_next 36 c (f ++ ys) ∙ i.goes ys in
    let p' : BeginsWithSuch (λ w cs. Unit {0}) (rules Text) ((c ∷ f) ++ left) w (c ∷ f) left = subst (λ (ys : List ℕ). BeginsWithSuch (λ w cs. Unit {0}) (rules Text) ys w (c ∷ f) left) p.parts p in
    let z = on i.to i.live mi (bound_behind (c ∷ f) left i.to w run i.live mi p') in
    let label : pred (label_of (next_state 36 c)) ≡ w = ap pred (sym i.label ∙ sym (word_ends i.to i.live mi) ∙ i.word) in
    let words : words_in ts ≡ words_of (label_of (next_state 36 c)) ++ words_in later =
    ap words_in parts ∙ map_both turn.tokens later ∙ ap (λ (t : Turn ℕ Token). words_in t.tokens ++ words_in later) (turn_is step) ∙ ap (λ (x : List Word). x ++ words_in later) (text_word at (encode_utf8_all (c ∷ f)) (word_of w)) ∙ ap (λ (k : ℕ). elim (word_of k) [ None ↦ [] | Some x ↦ x ∷ [] ] ++ words_in later) (sym label) in (
      z.0,
      subst (λ (vs : List Word). Scans q cs vs z.0) (sym words)
          (subst (λ (ys : List ℕ). Scans q ys (words_of (label_of (next_state 36 c)) ++ words_in later) z.0) (sym p.parts)
          (entered q c (f ++ left) (words_in later) z.0 n m (b c (f ++ left) p.parts n) (scans_on i.scans z.1))),
      z.2,
    )
  where
    turn_is : Some (record { after = at + length (encode_utf8_all (c ∷ f)); tokens = given Text at (encode_utf8_all (c ∷ f)) (word_of w) }) ≡ Some turn → turn ≡ record { after = at + length (encode_utf8_all (c ∷ f)); tokens = given Text at (encode_utf8_all (c ∷ f)) (word_of w) }
    turn_is e = cc

-- the tokens of characters are scanned, from the end of a lexeme on
pub tokens_scan : (xs : List Lexeme) (at : ℕ) (cs : List ℕ) (ts : List Token) → Reads (reader (json_language Text)) at cs xs ts [] → (q : ℕ) → live q → may_end q ≡ true → Bound q cs → (r : ℕ) × Scans q cs (words_in ts) r × (may_end r ≡ true)
tokens_scan [] at [] ts (e, f, g) q l m b = (q, s_end refl refl (ap words_in (nothing g)), m)
  where
    nothing : Some [] ≡ Some ts → ts ≡ []
    nothing g = cc
tokens_scan [] at (c ∷ cs) ts (e, f, g) q l m b = absurd cc
tokens_scan (x ∷ xs) at cs ts (e, left, turn, later, p, step, more, parts) q l m b = tokens_first xs at cs ts q m b x.word x.text left turn later p step parts (λ t lt mt bt. tokens_scan xs turn.after left later more t lt mt bt)

-- the tokens of a text are scanned from the start
pub from_tokens : (at : ℕ) (cs : List ℕ) (ts : List Token) → Tokens at cs ts → (r : ℕ) × Scans 108 cs (words_in ts) r × (may_end r ≡ true)
from_tokens at cs ts (xs, h) = tokens_scan xs at cs ts h 108 start_live in_blanks first
  where
    in_blanks : may_end 108 ≡ true
    in_blanks = ends_here 108 0 refl

    first : Bound 108 cs
    first c ds e n = elim (zero_or (next_state 108 c)) [ inl z ↦ inl z | inr some ↦ inr (first_blank c some) ]

-- ---- words of a text

all_text_both : (xs ys : List Word) → all_text xs ≡ true → all_text ys ≡ true → all_text (xs ++ ys) ≡ true
all_text_both [] ys h k = k
all_text_both (x ∷ xs) ys h k = let p = and_parts (is_text x) (all_text xs) h in and_both (is_text x) (all_text (xs ++ ys)) p.0 (all_text_both xs ys p.1 k)

pub scans_text : {q r : ℕ} {cs : List ℕ} {ws : List Word} → Scans q cs ws r → all_text ws ≡ true
scans_text (s_end e f g) = ap all_text g
scans_text (s_in c ds e n a) = scans_text a
scans_text (s_new c ds vs e z m n g a) = ap all_text g ∙ all_text_both (words_of (label_of (next_state 36 c))) vs (text_words (next_state 36 c) (begins c n).live) (scans_text a)
