-- A front that was read: it was scanned, and its words lead to where one stands.
use Rattle.std.proofs.Common.{◌≡◌, ◌≢◌, ℕ, zero, suc, ◌+◌, ◌<◌, ◌≤◌, Bool, true, false, ◌==◌, ◌&&◌, ◌⊎◌, inl, inr, List, [], ◌∷◌, ◌++◌, length, drop, refl, sym, ap, ◌∙◌, subst, arith, eqb-true, get_or}
use Rattle.std.proofs.Math.Seq.{drop-cons}
use Rattle.std.proofs.lemmas.List.{drop_all}
use Rattle.std.proofs.lemmas.Bool.{and_parts}
use Rattle.std.specs.Prelude.{if◌then◌else◌, pred, Option, Some, None}
use Rattle.json_tree.specs.declared.token.Word.{Word}
use Rattle.json_tree.specs.declared.token.Token.{Token}
use Rattle.json_tree.specs.Words.{word_of}
use Rattle.json_tree.specs.Build.{end_token}
use Rattle.json_tree.specs.States.{next_state, may_end}
use Rattle.json_check.specs.declared.nest.Next.TheVariants.{Value, CommaOrEnd}
use Rattle.json_check.specs.fronts.Moves.{Standing, behind_token}
use Rattle.json_check.specs.fronts.Fronts.{Front, begun, with_token, behind_word, longer, read_on}
use Rattle.json_check.proofs.Labels.{label_of, begins, words_of, all_text}
use Rattle.json_check.proofs.Runs.{at, word_at, is_text, Runs, r_here, r_on, runs_forward}
use Rattle.json_check.proofs.Scans.{Scans, s_end, s_in, s_new, words_in}
use Rattle.json_check.proofs.Standings.{behind_words, Good, good_on}

abbrev pub front : ℕ → Standing → Front
front q s = record { state = q; standing = s }

is_zero : (n : ℕ) → n ≢ 0 → (n == 0) ≡ false
is_zero n h = grind arith

-- ---- words, one by one

word_leads : (s : Standing) (o : Option Word) (vs : List Word) → behind_words s (elim o [ None ↦ [] | Some x ↦ x ∷ [] ] ++ vs) ≡ elim (behind_word s o) [ None ↦ None | Some u ↦ behind_words u vs ]
word_leads s None vs = refl
word_leads s (Some x) vs = refl

pub words_on : (s : Standing) (xs ys : List Word) (u : Standing) → behind_words s xs ≡ Some u → behind_words s (xs ++ ys) ≡ behind_words u ys
words_on s [] ys u h = ap (λ (o : Option Standing). elim o [ None ↦ None | Some v ↦ behind_words v ys ]) h
words_on s (x ∷ xs) ys u h = by_step (behind_token s x) refl (λ v. words_on v xs ys u)
  where
    by_step : (o : Option Standing) → behind_token s x ≡ o → ((v : Standing) → behind_words v xs ≡ Some u → behind_words v (xs ++ ys) ≡ behind_words u ys) → behind_words s (x ∷ (xs ++ ys)) ≡ behind_words u ys
    by_step None e on = let k : None ≡ Some u = ap (λ (o : Option Standing). elim o [ None ↦ None | Some v ↦ behind_words v xs ]) (sym e) ∙ h in absurd cc
    by_step (Some v) e on =
        let k : behind_words v xs ≡ Some u = ap (λ (o : Option Standing). elim o [ None ↦ None | Some v ↦ behind_words v xs ]) (sym e) ∙ h in
        ap (λ (o : Option Standing). elim o [ None ↦ None | Some v ↦ behind_words v (xs ++ ys) ]) e ∙ on v k

pub words_good : (s : Standing) (xs : List Word) (u : Standing) → Good s → behind_words s xs ≡ Some u → Good u
words_good s [] u g h = subst Good (same h) g
  where
    same : Some s ≡ Some u → s ≡ u
    same e = cc
words_good s (x ∷ xs) u g h = by_step (behind_token s x) refl (λ v gv. words_good v xs u gv)
  where
    by_step : (o : Option Standing) → behind_token s x ≡ o → ((v : Standing) → Good v → behind_words v xs ≡ Some u → Good u) → Good u
    by_step None e on = let k : None ≡ Some u = ap (λ (o : Option Standing). elim o [ None ↦ None | Some v ↦ behind_words v xs ]) (sym e) ∙ h in absurd cc
    by_step (Some v) e on = on v (good_on s v x g e).0 (ap (λ (o : Option Standing). elim o [ None ↦ None | Some v ↦ behind_words v xs ]) (sym e) ∙ h)

-- ---- tokens, one by one

later : {x : Token} {ts : List Token} {s t : Standing} {i j : ℕ} → Runs ts s i t j → Runs (x ∷ ts) s (suc i) t (suc j)
later (r_here e f) = r_here e (ap suc f)
later (r_on u e a) = r_on u e (later a)

pub words_run : (ts : List Token) (s t : Standing) → behind_words s (words_in ts) ≡ Some t → Runs ts s 0 t (length ts)
words_run [] s t h = r_here (same h) refl
  where
    same : Some s ≡ Some t → s ≡ t
    same e = cc
words_run (x ∷ ts) s t h = by_step (behind_token s x.word) refl (λ v. words_run ts v t)
  where
    by_step : (o : Option Standing) → behind_token s x.word ≡ o → ((v : Standing) → behind_words v (words_in ts) ≡ Some t → Runs ts v 0 t (length ts)) → Runs (x ∷ ts) s 0 t (length (x ∷ ts))
    by_step None e on = let k : None ≡ Some t = ap (λ (o : Option Standing). elim o [ None ↦ None | Some v ↦ behind_words v (words_in ts) ]) (sym e) ∙ h in absurd cc
    by_step (Some v) e on = r_on v e (later (on v (ap (λ (o : Option Standing). elim o [ None ↦ None | Some v ↦ behind_words v (words_in ts) ]) (sym e) ∙ h)))

run_words : {ts : List Token} {s t : Standing} {i j : ℕ} → Runs ts s i t j → j ≡ length ts → behind_words s (words_in (drop i ts)) ≡ Some t
run_words {ts = ts} {s = s} {t = t} {i = i} (r_here e f) l = ap (λ (x : List Token). behind_words s (words_in x)) (drop_all i ts (omega (arith, f, l))) ∙ ap (λ (x : Standing). Some x) e
run_words {ts = ts} {s = s} {t = t} {i = i} (r_on u e a) l =
    ap (λ (x : List Token). behind_words s (words_in x)) (drop-cons ts i end_token (omega (arith, l, runs_forward a)))
    ∙ ap (λ (o : Option Standing). elim o [ None ↦ None | Some v ↦ behind_words v (words_in (drop (suc i) ts)) ]) e ∙ run_words a l

pub runs_words : (ts : List Token) (s t : Standing) → Runs ts s 0 t (length ts) → behind_words s (words_in ts) ≡ Some t
runs_words ts s t r = run_words r refl

pub text_at : (ts : List Token) (i : ℕ) → all_text (words_in ts) ≡ true → is_text (word_at ts i) ≡ true
text_at [] i h = refl
text_at (x ∷ ts) zero h = (and_parts (is_text x.word) (all_text (words_in ts)) h).0
text_at (x ∷ ts) (suc i) h = text_at ts i (and_parts (is_text x.word) (all_text (words_in ts)) h).1

-- ---- characters, one by one

longer_in : (q c : ℕ) (s : Standing) → next_state q c ≢ 0 → longer (front q s) c ≡ Some (front (next_state q c) s)
longer_in q c s n = rw (is_zero (next_state q c) n) refl

longer_new : (q c : ℕ) (s : Standing) → next_state q c ≡ 0 → may_end q ≡ true → next_state 36 c ≢ 0 → longer (front q s) c ≡ with_token (next_state 36 c) (behind_word s (begun c))
longer_new q c s z m n = rw (z, m, is_zero (next_state 36 c) n) refl

-- what is scanned, with words that lead on, is read
pub scans_read : {q r : ℕ} {cs : List ℕ} {ws : List Word} → Scans q cs ws r → (s u : Standing) → behind_words s ws ≡ Some u → read_on (front q s) cs ≡ Some (front r u)
scans_read {q = q} {r = r} {cs = cs} {ws = ws} (s_end e f g) s u h = ap (read_on (front q s)) f ∙ ap (λ (k : ℕ). Some (front k s)) e ∙ ap (λ (v : Standing). Some (front r v)) (same (ap (behind_words s) (sym g) ∙ h))
  where
    same : Some s ≡ Some u → s ≡ u
    same e = cc
scans_read {q = q} (s_in c ds e n a) s u h = ap (read_on (front q s)) e ∙ ap (λ (o : Option Front). elim o [ None ↦ None | Some g ↦ read_on g ds ]) (longer_in q c s n) ∙ scans_read a s u h
scans_read {q = q} {r = r} {ws = ws} (s_new c ds vs e z m n g a) s u h =
    ap (read_on (front q s)) e
    ∙ ap (λ (o : Option Front). elim o [ None ↦ None | Some g ↦ read_on g ds ]) (longer_new q c s z m n)
    ∙ by_word (behind_word s (begun c)) (sym (word_leads s (begun c) vs) ∙ ap (λ (o : Option Word). behind_words s (elim o [ None ↦ [] | Some x ↦ x ∷ [] ] ++ vs)) (begins c n).word ∙ ap (behind_words s) (sym g) ∙ h) (λ v. scans_read a v u)
  where
    by_word : (o : Option Standing) → elim o [ None ↦ None | Some v ↦ behind_words v vs ] ≡ Some u → ((v : Standing) → behind_words v vs ≡ Some u → read_on (front (next_state 36 c) v) ds ≡ Some (front r u)) → elim (with_token (next_state 36 c) o) [ None ↦ None | Some g ↦ read_on g ds ] ≡ Some (front r u)
    by_word None k on = absurd cc
    by_word (Some v) k on = on v k

-- what is read was scanned
pub record IsRead (q : ℕ) (s : Standing) (cs : List ℕ) (f : Front) : Type 0 where
  pub words : List Word
  pub scans : Scans q cs words f.state
  pub leads : behind_words s words ≡ Some f.standing

zero_or : (n : ℕ) → (n ≡ 0) ⊎ (n ≢ 0)
zero_or zero = inl refl
zero_or (suc n) = inr (λ e. absurd (omega (arith, e)))

pub read_scans : (cs : List ℕ) (q : ℕ) (s : Standing) (f : Front) → read_on (front q s) cs ≡ Some f → IsRead q s cs f
read_scans [] q s f h = subst (λ (g : Front). IsRead q s [] g) (same h) (record { words = []; scans = s_end refl refl refl; leads = refl })
  where
    same : Some (front q s) ≡ Some f → front q s ≡ f
    same e = cc
read_scans (c ∷ cs) q s f h = by_next (zero_or (next_state q c)) (λ p v. read_scans cs p v f)
  where
    none : longer (front q s) c ≡ None → ⊥
    none e = let k : None ≡ Some f = ap (λ (o : Option Front). elim o [ None ↦ None | Some g ↦ read_on g cs ]) (sym e) ∙ h in absurd cc

    by_word : next_state q c ≡ 0 → may_end q ≡ true → next_state 36 c ≢ 0 → (o : Option Standing) → behind_word s (begun c) ≡ o → ((p : ℕ) (v : Standing) → read_on (front p v) cs ≡ Some f → IsRead p v cs f) → IsRead q s (c ∷ cs) f
    by_word z m n None e on = absurd (none (longer_new q c s z m n ∙ ap (with_token (next_state 36 c)) e))
    by_word z m n (Some v) e on =
        let r = on (next_state 36 c) v (ap (λ (o : Option Front). elim o [ None ↦ None | Some g ↦ read_on g cs ]) (sym (longer_new q c s z m n ∙ ap (with_token (next_state 36 c)) e)) ∙ h) in record {
          words = words_of (label_of (next_state 36 c)) ++ r.words;
          scans = s_new c cs r.words refl z m n refl r.scans;
          leads = ap (λ (o : Option Word). behind_words s (elim o [ None ↦ [] | Some x ↦ x ∷ [] ] ++ r.words)) (sym (begins c n).word) ∙ word_leads s (begun c) r.words ∙ ap (λ (o : Option Standing). elim o [ None ↦ None | Some u ↦ behind_words u r.words ]) e ∙ r.leads;
        }

    by_first : next_state q c ≡ 0 → may_end q ≡ true → (next_state 36 c ≡ 0) ⊎ (next_state 36 c ≢ 0) → ((p : ℕ) (v : Standing) → read_on (front p v) cs ≡ Some f → IsRead p v cs f) → IsRead q s (c ∷ cs) f
    by_first z m (inl y) on = absurd (none (rw (z, m, y) refl))
    by_first z m (inr n) on = by_word z m n (behind_word s (begun c)) refl on

    by_end : next_state q c ≡ 0 → (b : Bool) → may_end q ≡ b → ((p : ℕ) (v : Standing) → read_on (front p v) cs ≡ Some f → IsRead p v cs f) → IsRead q s (c ∷ cs) f
    by_end z true m on = by_first z m (zero_or (next_state 36 c)) on
    by_end z false m on = absurd (none (rw (z, m) refl))

    by_next : (next_state q c ≡ 0) ⊎ (next_state q c ≢ 0) → ((p : ℕ) (v : Standing) → read_on (front p v) cs ≡ Some f → IsRead p v cs f) → IsRead q s (c ∷ cs) f
    by_next (inl z) on = by_end z (may_end q) refl on
    by_next (inr n) on =
        let r = on (next_state q c) s (ap (λ (o : Option Front). elim o [ None ↦ None | Some g ↦ read_on g cs ]) (sym (longer_in q c s n)) ∙ h) in record { words = r.words; scans = s_in c cs refl n r.scans; leads = r.leads }

-- a front of what is read is read
pub front_read : (cs ds : List ℕ) (f g : Front) → read_on f (cs ++ ds) ≡ Some g → (h : Front) × (read_on f cs ≡ Some h) × (read_on h ds ≡ Some g)
front_read [] ds f g e = (f, refl, e)
front_read (c ∷ cs) ds f g e = by_step (longer f c) refl (λ k. front_read cs ds k g)
  where
    by_step : (o : Option Front) → longer f c ≡ o → ((k : Front) → read_on k (cs ++ ds) ≡ Some g → (h : Front) × (read_on k cs ≡ Some h) × (read_on h ds ≡ Some g)) → (h : Front) × (read_on f (c ∷ cs) ≡ Some h) × (read_on h ds ≡ Some g)
    by_step None q on = let k : None ≡ Some g = ap (λ (o : Option Front). elim o [ None ↦ None | Some g ↦ read_on g (cs ++ ds) ]) (sym q) ∙ e in absurd cc
    by_step (Some k) q on =
        let r = on k (ap (λ (o : Option Front). elim o [ None ↦ None | Some g ↦ read_on g (cs ++ ds) ]) (sym q) ∙ e) in
        (r.0, ap (λ (o : Option Front). elim o [ None ↦ None | Some g ↦ read_on g cs ]) q ∙ r.1, r.2)

-- and goes on with what can go on
pub read_more : (cs ds : List ℕ) (f h : Front) → read_on f cs ≡ Some h → read_on f (cs ++ ds) ≡ read_on h ds
read_more [] ds f h e = ap (λ (o : Option Front). elim o [ None ↦ None | Some g ↦ read_on g ds ]) e
read_more (c ∷ cs) ds f h e = by_step (longer f c) refl (λ k. read_more cs ds k h)
  where
    by_step : (o : Option Front) → longer f c ≡ o → ((k : Front) → read_on k cs ≡ Some h → read_on k (cs ++ ds) ≡ read_on h ds) → read_on f (c ∷ (cs ++ ds)) ≡ read_on h ds
    by_step None q on = let k : None ≡ Some h = ap (λ (o : Option Front). elim o [ None ↦ None | Some g ↦ read_on g cs ]) (sym q) ∙ e in absurd cc
    by_step (Some k) q on = ap (λ (o : Option Front). elim o [ None ↦ None | Some g ↦ read_on g (cs ++ ds) ]) q ∙ on k (ap (λ (o : Option Front). elim o [ None ↦ None | Some g ↦ read_on g cs ]) (sym q) ∙ e)
