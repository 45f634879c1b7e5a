-- What was read can be gone on with, and what has a tree is read.
use Rattle.std.proofs.Common.{◌≡◌, ◌≢◌, ℕ, zero, suc, ◌+◌, ◌<◌, ◌≤◌, Bool, true, false, ◌==◌, ◌&&◌, ◌⊎◌, inl, inr, List, [], ◌∷◌, ◌++◌, length, refl, sym, ap, ◌∙◌, subst, arith, append_assoc}
use Rattle.std.proofs.lemmas.Bool.{and_parts}
use Rattle.std.specs.Prelude.{Option, Some, None}
use Rattle.std.specs.Str.{chars}
use Rattle.node_tree.specs.declared.node.Node.{Node}
use Rattle.node_tree.specs.declared.kind.Kind.TheVariants.{Root}
use Rattle.node_tree.specs.declared.view.Mode.TheVariants.{Text}
use Rattle.lexing.specs.Automaton.{accepted}
use Rattle.lexing.specs.Rules.{symbol}
use Rattle.lexing.specs.Mark.{past_mark, mark_len}
use Rattle.lexing.proofs.Basics.{and_both}
use Rattle.json_tree.specs.declared.token.Word.{Word}
use Rattle.json_tree.specs.declared.token.Word.TheVariants as w
use Rattle.json_tree.specs.declared.token.Token.{Token}
use Rattle.json_tree.specs.Build.{node}
use Rattle.json_tree.specs.Spells.{IsTreeOf, IsValueOf}
use Rattle.json_tree.specs.States.{next_state, may_end, column}
use Rattle.json_tree.proofs.Certificate.{the_table}
use Rattle.json_check.specs.Viable.{HasTree}
use Rattle.json_check.specs.declared.nest.Container.{Container}
use Rattle.json_check.specs.declared.nest.Container.TheVariants.{Array, Object}
use Rattle.json_check.specs.declared.nest.Next.{Next}
use Rattle.json_check.specs.declared.nest.Next.TheVariants.{Value, ItemOrEnd, NameOrEnd, Name, Colon, CommaOrEnd}
use Rattle.json_check.specs.fronts.Moves.{Standing, at_first, is_over}
use Rattle.json_check.specs.fronts.Fronts.{Front, at_start, read_on, is_whole_text}
use Rattle.json_check.proofs.Labels.{labels, label_of, finish_of, finish_ascii, all_ascii, blank_next, words_of, all_text}
use Rattle.json_check.proofs.Runs.{at, Runs}
use Rattle.json_check.proofs.Accepts.{value_runs}
use Rattle.json_check.proofs.Builds.{value_built}
use Rattle.json_check.proofs.Standings.{Good, closing, finishing, Whole, can_finish, few_brackets, behind_words}
use Rattle.json_check.proofs.Scans.{live, Scans, s_end, s_in, s_new, scans_on, scans_live, inside, finished, from_start, from_tokens, scans_text, start_live, words_in, Tokens, ends_here}
use Rattle.json_check.proofs.Fronts.{front, words_on, words_good, words_run, runs_words, text_at, scans_read, read_scans}

-- ---- words, spelled

abbrev spell : Word → List ℕ
spell w.RightBrace = 125 ∷ []
spell w.RightBracket = 93 ∷ []
spell w.Colon = 58 ∷ []
spell w.Str = 34 ∷ 34 ∷ []
spell x = 48 ∷ []

abbrev is_spelled : Word → Bool
is_spelled w.RightBrace = true
is_spelled w.RightBracket = true
is_spelled w.Colon = true
is_spelled w.Str = true
is_spelled w.Number = true
is_spelled x = false

abbrev spelled : List Word → List ℕ
spelled [] = []
spelled (x ∷ xs) = 32 ∷ (spell x ++ spelled xs)

abbrev all_spelled : List Word → Bool
all_spelled [] = true
all_spelled (x ∷ xs) = is_spelled x && all_spelled xs

-- from a state over characters to the end of a lexeme
abbrev Leads : ℕ → List ℕ → List Word → Type 0
Leads q cs ws = (r : ℕ) × Scans q cs ws r × live r × (may_end r ≡ true)

lexeme : (c : ℕ) (f : List ℕ) (x : Word) → next_state 108 c ≡ 0 → (n : ℕ) → next_state 36 c ≡ suc n → words_of (label_of (next_state 36 c)) ≡ x ∷ [] → live (next_state 36 c) → (v : ℕ) → accepted the_table (next_state 36 c) f ≡ suc v → Leads 108 (c ∷ f) (x ∷ [])
lexeme c f x z n e h l v a =
    let i = inside f (next_state 36 c) v l a in
    (i.to, s_new c f [] refl z (ends_here 108 0 refl) (λ k. (let m : suc n ≡ 0 = sym e ∙ k in absurd (omega (arith, m)))) (ap (λ (ws : List Word). ws ++ []) (sym h)) i.scans, i.live, ends_here i.to v i.word)

word_scans : (x : Word) → is_spelled x ≡ true → Leads 108 (spell x) (x ∷ [])
unfolding next_state column symbol accepted label_of labels
word_scans w.RightBrace h = lexeme 125 [] w.RightBrace refl 575 refl refl (λ e. (let k : 3 ≡ 0 = e in absurd (omega (arith, k)))) 2 refl
word_scans w.RightBracket h = lexeme 93 [] w.RightBracket refl 395 refl refl (λ e. (let k : 5 ≡ 0 = e in absurd (omega (arith, k)))) 4 refl
word_scans w.Colon h = lexeme 58 [] w.Colon refl 323 refl refl (λ e. (let k : 7 ≡ 0 = e in absurd (omega (arith, k)))) 6 refl
word_scans w.Str h = lexeme 34 (34 ∷ []) w.Str refl 143 refl refl (λ e. (let k : 8 ≡ 0 = e in absurd (omega (arith, k)))) 7 refl
word_scans w.Number h = lexeme 48 [] w.Number refl 251 refl refl (λ e. (let k : 9 ≡ 0 = e in absurd (omega (arith, k)))) 8 refl
word_scans w.End h = absurd cc
word_scans w.LeftBrace h = absurd cc
word_scans w.LeftBracket h = absurd cc
word_scans w.Comma h = absurd cc
word_scans w.Const h = absurd cc
word_scans w.StrAny h = absurd cc
word_scans w.Meta h = absurd cc
word_scans w.MetaDots h = absurd cc
word_scans w.Dots h = absurd cc
word_scans w.DeepOpen h = absurd cc
word_scans w.DeepClose h = absurd cc

zero_or : (n : ℕ) → (n ≡ 0) ⊎ (n ≢ 0)
zero_or zero = inl refl
zero_or (suc n) = inr (λ e. absurd (omega (arith, e)))

first_is_blank : next_state 36 32 ≡ 108
unfolding next_state column symbol
first_is_blank = refl

no_words : [] ≡ words_of (label_of (next_state 36 32)) ++ []
unfolding next_state column symbol label_of labels
no_words = refl

blank_scans : (q : ℕ) → live q → may_end q ≡ true → Scans q (32 ∷ []) [] 108
blank_scans q l m = elim (zero_or (next_state q 32)) [
  | inl z ↦ s_new 32 [] [] refl z m (λ k. (let e : 108 ≡ 0 = sym first_is_blank ∙ k in absurd (omega (arith, e)))) no_words (s_end first_is_blank refl refl)
  | inr n ↦ s_in 32 [] refl n (s_end (blank_next q l m n) refl refl)
]

words_scan : (xs : List Word) (q : ℕ) → all_spelled xs ≡ true → live q → may_end q ≡ true → Leads q (spelled xs) xs
words_scan [] q h l m = (q, s_end refl refl refl, l, m)
words_scan (x ∷ xs) q h l m =
    let p = and_parts (is_spelled x) (all_spelled xs) h in
    let a = word_scans x p.0 in
    let b = words_scan xs a.0 p.1 a.2 a.3 in
    (b.0, scans_on (blank_scans q l m) (scans_on a.1 b.1), b.2, b.3)

closing_spelled : (o : List Container) → all_spelled (closing o) ≡ true
closing_spelled [] = refl
closing_spelled (Array ∷ o) = closing_spelled o
closing_spelled (Object ∷ o) = closing_spelled o

finishing_spelled : (n : Next) (o : List Container) → all_spelled (finishing n o) ≡ true
finishing_spelled Value o = closing_spelled o
finishing_spelled Name o = closing_spelled o
finishing_spelled Colon o = closing_spelled o
finishing_spelled ItemOrEnd o = closing_spelled o
finishing_spelled NameOrEnd o = closing_spelled o
finishing_spelled CommaOrEnd o = closing_spelled o

ascii_both : (cs ds : List ℕ) → all_ascii cs ≡ true → all_ascii ds ≡ true → all_ascii (cs ++ ds) ≡ true
ascii_both [] ds h k = k
ascii_both (c ∷ cs) ds h k = let p = and_parts _ _ h in and_both _ _ p.0 (ascii_both cs ds p.1 k)

spell_ascii : (x : Word) → all_ascii (spell x) ≡ true
spell_ascii w.RightBrace = refl
spell_ascii w.RightBracket = refl
spell_ascii w.Colon = refl
spell_ascii w.Str = refl
spell_ascii w.Number = refl
spell_ascii w.End = refl
spell_ascii w.LeftBrace = refl
spell_ascii w.LeftBracket = refl
spell_ascii w.Comma = refl
spell_ascii w.Const = refl
spell_ascii w.StrAny = refl
spell_ascii w.Meta = refl
spell_ascii w.MetaDots = refl
spell_ascii w.Dots = refl
spell_ascii w.DeepOpen = refl
spell_ascii w.DeepClose = refl

spelled_ascii : (xs : List Word) → all_ascii (spelled xs) ≡ true
spelled_ascii [] = refl
spelled_ascii (x ∷ xs) = ascii_both (spell x) (spelled xs) (spell_ascii x) (spelled_ascii xs)

-- ---- trees

-- where the words of all tokens lead to the end, they spell a value
value_of : (ts : List Token) (d : ℕ) → behind_words at_first (words_in ts) ≡ Some (at CommaOrEnd [] d) → (n : Node) × IsValueOf ts n
value_of ts d h =
    let r : Runs ts (at Value [] 1) 0 (at CommaOrEnd [] d) (length ts) = words_run ts at_first (at CommaOrEnd [] d) h in
    let b = value_built ts (length ts) d 0 1 r (omega arith) in
    (b.0, record { spelled = b.1; shallow = omega (arith, b.2); few_brackets = λ k le lt. few_brackets ts r k lt })

pub tree_of : (text : List ℕ) (ts : List Token) (d : ℕ) → Tokens (mark_len (chars text)) (past_mark (chars text)) ts → behind_words at_first (words_in ts) ≡ Some (at CommaOrEnd [] d) → HasTree text
tree_of text ts d h k = let v = value_of ts d k in (node Root 0 (length text) (v.0 ∷ []), record { tokens = ts; lexes = h; value = v.0; spells = v.1; is_root = refl })

start_good : Good at_first
start_good = record { depth = refl; sound = tt; fits = omega arith }

-- characters that go on with what was read to a whole text, at any byte
pub record GoesOn (cs : List ℕ) : Type 0 where
  pub more : List ℕ
  pub ascii : all_ascii more ≡ true
  pub tokens : (at : ℕ) → (ts : List Token) × (d : ℕ) × Tokens at (cs ++ more) ts × (behind_words at_first (words_in ts) ≡ Some (record { next = CommaOrEnd; around = []; depth = d }))

pub can_go_on : (cs : List ℕ) (f : Front) → read_on at_start cs ≡ Some f → GoesOn cs
can_go_on cs f h =
    let r = read_scans cs 108 at_first f h in
    let s = f.standing in
    let g : Good s = words_good at_first r.words s start_good r.leads in
    let l = scans_live r.scans start_live in
    let fin = finished f.state l in
    let ws = finishing s.next s.around in
    let on = words_scan ws fin.0 (finishing_spelled s.next s.around) fin.2 fin.3 in
    let all : Scans 108 (cs ++ (finish_of f.state ++ spelled ws)) (r.words ++ ws) on.0 = scans_on r.scans (scans_on fin.1 on.1) in
    let z = can_finish s g in record {
      more = finish_of f.state ++ spelled ws;
      ascii = ascii_both (finish_of f.state) (spelled ws) (finish_ascii f.state l) (spelled_ascii ws);
      tokens = λ byte. (let t = from_start all on.3 byte in (t.0, z.0, t.1, ap (behind_words at_first) t.2 ∙ words_on at_first r.words ws s r.leads ∙ z.1));
    }

-- a text that has a tree is read as a whole text
pub tree_read : (text : List ℕ) → HasTree text → (f : Front) × (read_on at_start (past_mark (chars text)) ≡ Some f) × (is_whole_text f ≡ true)
tree_read text (root, t) =
    let s = from_tokens (mark_len (chars text)) (past_mark (chars text)) t.tokens t.lexes in
    let h = scans_text s.1 in
    let r = value_runs t.tokens (λ i. text_at t.tokens i h) (t.value ∷ []) 0 (length t.tokens) t.spells.spelled (omega (arith, t.spells.shallow)) in
    let k = runs_words t.tokens (at Value [] 1) (at CommaOrEnd [] 1) r in
    (front s.0 (at CommaOrEnd [] 1), scans_read s.1 at_first (at CommaOrEnd [] 1) k, ap (λ (b : Bool). b && true) s.2)

over_is : (s : Standing) → is_over s ≡ true → s ≡ at CommaOrEnd [] s.depth
over_is s h = by_parts s.next s.around refl refl h
  where
    by_parts : (n : Next) (o : List Container) → s.next ≡ n → s.around ≡ o → is_over s ≡ true → s ≡ at CommaOrEnd [] s.depth
    by_parts CommaOrEnd [] e f h = ap (λ (n : Next). at n s.around s.depth) e ∙ ap (λ (o : List Container). at CommaOrEnd o s.depth) f
    by_parts CommaOrEnd (c ∷ o) e f h = let k : false ≡ true = ap (λ (o : List Container). is_over (at CommaOrEnd o s.depth)) (sym f) ∙ ap (λ (n : Next). is_over (at n s.around s.depth)) (sym e) ∙ h in absurd cc
    by_parts Value o e f h = let k : false ≡ true = ap (λ (n : Next). is_over (at n s.around s.depth)) (sym e) ∙ h in absurd cc
    by_parts ItemOrEnd o e f h = let k : false ≡ true = ap (λ (n : Next). is_over (at n s.around s.depth)) (sym e) ∙ h in absurd cc
    by_parts NameOrEnd o e f h = let k : false ≡ true = ap (λ (n : Next). is_over (at n s.around s.depth)) (sym e) ∙ h in absurd cc
    by_parts Name o e f h = let k : false ≡ true = ap (λ (n : Next). is_over (at n s.around s.depth)) (sym e) ∙ h in absurd cc
    by_parts Colon o e f h = let k : false ≡ true = ap (λ (n : Next). is_over (at n s.around s.depth)) (sym e) ∙ h in absurd cc

-- and what is read as a whole text has one
pub read_tree : (text : List ℕ) (f : Front) → read_on at_start (past_mark (chars text)) ≡ Some f → is_whole_text f ≡ true → HasTree text
read_tree text f h whole =
    let p = and_parts (may_end f.state) (is_over f.standing) whole in
    let r = read_scans (past_mark (chars text)) 108 at_first f h in
    let t = from_start r.scans p.0 (mark_len (chars text)) in
    tree_of text t.0 f.standing.depth t.1 (ap (behind_words at_first) t.2 ∙ r.leads ∙ ap (λ (s : Standing). Some s) (over_is f.standing p.1))
