-- A table that stands in another under other names reads, and spells, just what it did.
use Rattle.std.proofs.Common.{◌≡◌, ℕ, zero, suc, ◌<◌, ◌≤◌, List, [], ◌∷◌, ◌++◌, refl, arith}
use Rattle.std.specs.Prelude.{Bool, true, false, cond, ◌||◌, ◌&&◌, Option, Some, None}
use Rattle.grammar.specs.Rule.{Rule, done, mark, word, ref, deep, again, seq, around, alt, look, choose, opt, must, rep, make, has, Source, Table, Grammar, Loop, outside, within, Derives, d_done, d_mark, d_word, d_ref, d_deep, d_again, d_rep, d_seq, d_around, d_left, d_right, d_seen, d_unseen, d_chosen, d_unchosen, d_without, d_with, d_barred, d_taken, d_make}
use Rattle.grammar.specs.Sets.{Sets, nul, first, first_of, empty_of}
use Rattle.grammar.specs.Reader.{Read, ◌>>=◌, turns, read, choice, climb, read_level}
use Rattle.grammar.specs.Check.{apart, within_set, Ranks, fit, passes}
use Rattle.grammar.specs.Renamed.{renamed}
use Rattle.grammar.proofs.Facts.{and_both, ltb_true}
use Rattle.grammar.proofs.Checked.{fits, ranked}

-- the other name of the loop around
abbrev named : {L M : Type 0} → (L → M) → Option L → Option M
named w None = None
named w (Some q) = Some (w q)

-- a rule and what it is under the other names
data Row {K B C L M : Type 0} (v : B → C) (w : L → M) : Rule K B L → Rule K C M → Type 0 where
  row : (r : Rule K B L) → Row v w r (renamed v w r)

-- the same of the loop around
data Round {K B C L M : Type 0} (v : B → C) (w : L → M) : Loop K B L → Loop K C M → Type 0 where
  nothing : Round v w outside outside
  loop : (l : L) (r : Rule K B L) → Round v w (within l r) (within (w l) (renamed v w r))

-- Tokens that have the same classes, leaves and nodes for both tables.
module _ {K B C L M N : Type 0} (v : B → C) (w : L → M) (t : Source K B N) (u : Source K C N) (same_classes : u.cls ≡ t.cls) (same_leaf : (k : K) (n : ℕ) → u.leaf k n ≡ t.leaf k n) (same_build : (b : B) (i j : ℕ) (ys : List N) → u.build (v b) i j ys ≡ t.build b i j ys) where
  -- The rows of a table that passes the check, in a table where the levels have the same sets. Equations along z take each part over.
  module _ (g : Grammar K B L) (S : Sets L) (R : Ranks B L) (pass : (l : L) → passes g S R l ≡ true) (table' : Table K C M) (S' : Sets M) (same_rows : (l : L) → table' (w l) ≡ renamed v w (g.table l)) (same_first : (l : L) → S'.first (w l) ≡ S.first l) (same_empty : (l : L) → S'.empty (w l) ≡ S.empty l) (m top' : ℕ) (within_top : R.top ≤ top') where
    -- what is declared of the loop around
    first_named : (q : Option L) → first_of S' (named w q) ≡ first_of S q
    first_named None = refl
    first_named (Some q) = same_first q

    empty_named : (q : Option L) → empty_of S' (named w q) ≡ empty_of S q
    empty_named None = refl
    empty_named (Some q) = same_empty q

    -- whether a rule can be empty
    nul_renamed : (r : Rule K B L) (q : Option L) → nul S' (named w q) (renamed v w r) ≡ nul S q r
    nul_renamed done q = refl
    nul_renamed (mark cs) q = refl
    nul_renamed (word k cs) q = refl
    nul_renamed (ref l) q = same_empty l
    nul_renamed (deep l) q = same_empty l
    nul_renamed again q = empty_named q
    nul_renamed (seq r s) q = λ z. nul_renamed r q z && nul_renamed s q z
    nul_renamed (around cs ds r) q = refl
    nul_renamed (alt r s) q = λ z. nul_renamed r q z || nul_renamed s q z
    nul_renamed (look k cs ds b r s) q = nul_renamed s q
    nul_renamed (choose p r s) q = λ z. nul_renamed r q z || nul_renamed s q z
    nul_renamed (opt r) q = refl
    nul_renamed (must cs r) q = refl
    nul_renamed (rep l r) q = same_empty l
    nul_renamed (make b r) q = nul_renamed r q

    -- what begins a rule
    first_renamed : (r : Rule K B L) (q : Option L) → first S' (named w q) (renamed v w r) ≡ first S q r
    first_renamed done q = refl
    first_renamed (mark cs) q = refl
    first_renamed (word k cs) q = refl
    first_renamed (ref l) q = same_first l
    first_renamed (deep l) q = same_first l
    first_renamed again q = first_named q
    first_renamed (seq r s) q = λ z. first_renamed r q z ++ cond (nul_renamed r q z) (first_renamed s q z) []
    first_renamed (around cs ds r) q = refl
    first_renamed (alt r s) q = λ z. first_renamed r q z ++ first_renamed s q z
    first_renamed (look k cs ds b r s) q = λ z. cs ++ first_renamed s q z
    first_renamed (choose p r s) q = λ z. first_renamed r q z ++ first_renamed s q z
    first_renamed (opt r) q = first_renamed r q
    first_renamed (must cs r) q = first_renamed r q
    first_renamed (rep l r) q = same_first l
    first_renamed (make b r) q = first_renamed r q

    -- what a rule reads, if the levels of rank below p, the deeper ones and the loop around read the same
    reads_renamed : (r : Rule K B L) (p : ℕ) (inner : Bool) (q : Option L) (V : Bool → L → Read N) (V' : Bool → M → Read N) (A A' : Read N) → ((l : L) → R.rank l < p → (i : ℕ) → V' false (w l) i ≡ V false l i) → ((l : L) (i : ℕ) → V' true (w l) i ≡ V true l i) → ((i : ℕ) → A' i ≡ A i) → fit g R p inner r ≡ true → (i : ℕ) → read u S' m V' A' (named w q) (renamed v w r) i ≡ read t S m V A q r i
    reads_renamed done p e q V V' A A' a b c f i = refl
    reads_renamed (mark cs) p e q V V' A A' a b c f i = λ z. cond (has cs (same_classes z i)) (Some ([], suc i)) None
    reads_renamed (word k cs) p e q V V' A A' a b c f i = λ z. cond (has cs (same_classes z i)) (Some (same_leaf k i z ∷ [], suc i)) None
    reads_renamed (ref l) p e q V V' A A' a b c f i = a l (ltb_true (R.rank l) p f) i
    reads_renamed (deep l) p e q V V' A A' a b c f i = b l i
    reads_renamed again p e q V V' A A' a b c f i = c i
    reads_renamed (seq r s) p e q V V' A A' a b c f i =
        let y : _ = and_both (fit g R p e r) (fit g R p e s) f in
        λ z. ◌>>=◌ {B = List N × ℕ} (reads_renamed r p e q V V' A A' a b c y.0 i z) (λ x. ◌>>=◌ {B = List N × ℕ} (reads_renamed s p e q V V' A A' a b c y.1 x.1 z) (λ x'. Some (x.0 ++ x'.0, x'.1)))
    reads_renamed (around cs ds r) p e q V V' A A' a b c f i =
        let y : _ = and_both (within_set cs g.opens && (within_set ds g.closes && apart g.opens ds)) (fit g R p true r) f in
        λ z. cond (has cs (same_classes z i)) (◌>>=◌ {B = List N × ℕ} (reads_renamed r p true q V V' A A' a b c y.1 (suc i) z) (λ x. cond (has ds (same_classes z x.1)) (Some (x.0, suc x.1)) None)) None
    reads_renamed (alt r s) p e q V V' A A' a b c f i =
        let y : _ = and_both (fit g R p e r) (fit g R p e s) f in
        λ z. cond (has (first_renamed r q z) (same_classes z i)) (reads_renamed r p e q V V' A A' a b c y.0 i z) (reads_renamed s p e q V V' A A' a b c y.1 i z)
    reads_renamed (look k cs ds d r s) p e q V V' A A' a b c f i =
        let y : _ = and_both (apart g.opens cs && apart g.closes cs) ((apart g.opens ds && apart g.closes ds) && (fit g R p (R.strong d || e) r && fit g R p e s)) f in
        let y' : _ = and_both (apart g.opens ds && apart g.closes ds) (fit g R p (R.strong d || e) r && fit g R p e s) y.1 in
        let y'' : _ = and_both (fit g R p (R.strong d || e) r) (fit g R p e s) y'.1 in
        λ z. cond (has cs (same_classes z i) && has ds (same_classes z (suc i))) (◌>>=◌ {B = List N × ℕ} (reads_renamed r p (R.strong d || e) q V V' A A' a b c y''.0 (suc (suc i)) z) (λ x. Some (same_build d i x.1 (same_leaf k i z ∷ x.0) z, x.1))) (reads_renamed s p e q V V' A A' a b c y''.1 i z)
    reads_renamed (choose h r s) p e q V V' A A' a b c f i =
        let y : _ = and_both (fit g R p e r) (fit g R p e s) f in
        λ z. cond (h (same_classes z) i) (reads_renamed r p e q V V' A A' a b c y.0 i z) (reads_renamed s p e q V V' A A' a b c y.1 i z)
    reads_renamed (opt r) p e q V V' A A' a b c f i = λ z. cond (has (first_renamed r q z) (same_classes z i)) (reads_renamed r p e q V V' A A' a b c f i z) (Some ([], i))
    reads_renamed (must cs r) p e q V V' A A' a b c f i = λ z. cond (has cs (same_classes z i)) (reads_renamed r p e q V V' A A' a b c f i z) (Some ([], i))
    reads_renamed (rep l r) p e q V V' A A' a b c f i = λ z. turns {X = Read N} (λ j. None) (λ X j. reads_renamed r p e (Some l) V V' X X a b (λ n. refl) f j z) m i
    reads_renamed (make d r) p e q V V' A A' a b c f i = λ z. ◌>>=◌ {B = List N × ℕ} (reads_renamed r p (R.strong d || e) q V V' A A' a b c f i z) (λ x. Some (same_build d i x.1 x.0 z, x.1))

    -- what a level reads, with any two numbers above its rank
    climbs_renamed : (D : L → Read N) (D' : M → Read N) → ((l : L) (i : ℕ) → D' (w l) i ≡ D l i) → (k k' : ℕ) (l : L) → R.rank l < k → R.rank l < k' → (i : ℕ) → climb u S' m table' D' k' (w l) i ≡ climb t S m g.table D k l i
    climbs_renamed D D' d zero k' l h h' i = absurd (omega arith)
    climbs_renamed D D' d (suc k) zero l h h' i = absurd (omega arith)
    climbs_renamed D D' d (suc k) (suc k') l h h' i =
        rw (same_rows l) (reads_renamed (g.table l) (R.rank l) false None (choice (climb t S m g.table D k) D) (choice (climb u S' m table' D' k') D') (λ j. None) (λ j. None) (λ l' lt j. climbs_renamed D D' d k k' l' (omega arith) (omega arith) j) d (λ j. refl) (fits g S R pass l) i)

    -- A level reads the same under its other name.
    pub same_reading : (room : ℕ) (l : L) (i : ℕ) → read_level u S' m table' top' room (w l) i ≡ read_level t S m g.table R.top room l i
    same_reading zero l i = refl
    same_reading (suc h) l i =
        let lt : R.rank l < R.top = ltb_true (R.rank l) R.top (ranked g S R pass l) in
        climbs_renamed (read_level t S m g.table R.top h) (read_level u S' m table' top' h) (same_reading h) R.top top' l lt (omega (arith, lt, within_top)) i

  -- The rows of any table.
  module _ (table : Table K B L) (table' : Table K C M) (same_rows : (l : L) → table' (w l) ≡ renamed v w (table l)) where
    -- what a rule spells, it spells under the other names
    there : {c : Loop K B L} {c' : Loop K C M} {r : Rule K B L} {xs : List N} {i j : ℕ} → Round v w c c' → Derives t table c r xs i j → Derives u table' c' (renamed v w r) xs i j
    there a (d_done e s) = d_done e s
    there a (d_mark h e s) = d_mark (rw same_classes h) e s
    there a (d_word {k = k} {i = i} h e s) = d_word (rw same_classes h) (rw (same_leaf k i) e) s
    there a (d_ref {l = l} d) = d_ref (rw (same_rows l) (there nothing d))
    there a (d_deep {l = l} d) = d_deep (rw (same_rows l) (there nothing d))
    there (loop l r) (d_again d) = d_again (there (loop l r) d)
    there a (d_rep {l = l} {r = r} d) = d_rep (there (loop l r) d)
    there a (d_seq k ys zs d e s) = d_seq k ys zs (there a d) (there a e) s
    there a (d_around k h d h' s) = d_around k (rw same_classes h) (there a d) (rw same_classes h') s
    there a (d_left d) = d_left (there a d)
    there a (d_right d) = d_right (there a d)
    there a (d_seen {w = k} {b = b} {i = i} {j = j} ys h h' d s) = d_seen ys (rw same_classes h) (rw same_classes h') (there a d) (rw (same_leaf k i, same_build b i j (t.leaf k i ∷ ys)) s)
    there a (d_unseen h d) = d_unseen (rw same_classes h) (there a d)
    there a (d_chosen h d) = d_chosen (rw same_classes h) (there a d)
    there a (d_unchosen h d) = d_unchosen (rw same_classes h) (there a d)
    there a (d_without e s) = d_without e s
    there a (d_with d) = d_with (there a d)
    there a (d_barred h e s) = d_barred (rw same_classes h) e s
    there a (d_taken d) = d_taken (there a d)
    there a (d_make {b = b} {i = i} {j = j} ys d s) = d_make ys (there a d) (rw (same_build b i j ys) s)

    -- each row, under its other name
    rows : (l : L) → Row v w (table l) (table' (w l))
    rows l = rw (same_rows l) (row (table l))

    -- what it spells there, it spells here
    back : {c' : Loop K C M} {r' : Rule K C M} {xs : List N} {i j : ℕ} {c : Loop K B L} {r : Rule K B L} → Round v w c c' → Row v w r r' → Derives u table' c' r' xs i j → Derives t table c r xs i j
    back a (row done) (d_done e s) = d_done e s
    back a (row (mark cs)) (d_mark h e s) = d_mark (rw same_classes at h) e s
    back a (row (word k cs)) (d_word {i = i} h e s) = d_word (rw same_classes at h) (rw (same_leaf k i) at e) s
    back a (row (ref l)) (d_ref d) = d_ref (back nothing (rows l) d)
    back a (row (deep l)) (d_deep d) = d_deep (back nothing (rows l) d)
    back nothing (row again) d = elim d [ ]
    back (loop l r) (row again) (d_again d) = d_again (back (loop l r) (row r) d)
    back a (row (rep l r)) (d_rep d) = d_rep (back (loop l r) (row r) d)
    back a (row (seq r s)) (d_seq k ys zs d e s') = d_seq k ys zs (back a (row r) d) (back a (row s) e) s'
    back a (row (around cs ds r)) (d_around k h d h' s) = d_around k (rw same_classes at h) (back a (row r) d) (rw same_classes at h') s
    back a (row (alt r s)) (d_left d) = d_left (back a (row r) d)
    back a (row (alt r s)) (d_right d) = d_right (back a (row s) d)
    back a (row (look k cs ds b r s)) (d_seen {i = i} {j = j} ys h h' d e) = d_seen ys (rw same_classes at h) (rw same_classes at h') (back a (row r) d) (rw (same_leaf k i, same_build b i j (t.leaf k i ∷ ys)) at e)
    back a (row (look k cs ds b r s)) (d_unseen h d) = d_unseen (rw same_classes at h) (back a (row s) d)
    back a (row (choose p r s)) (d_chosen h d) = d_chosen (rw same_classes at h) (back a (row r) d)
    back a (row (choose p r s)) (d_unchosen h d) = d_unchosen (rw same_classes at h) (back a (row s) d)
    back a (row (opt r)) (d_without e s) = d_without e s
    back a (row (opt r)) (d_with d) = d_with (back a (row r) d)
    back a (row (must cs r)) (d_barred h e s) = d_barred (rw same_classes at h) e s
    back a (row (must cs r)) (d_taken d) = d_taken (back a (row r) d)
    back a (row (make b r)) (d_make {i = i} {j = j} ys d e) = d_make ys (back a (row r) d) (rw (same_build b i j ys) at e)

    -- A level spells what it did under its other name.
    pub same_pieces : (l : L) (xs : List N) (i j : ℕ) → Derives t table outside (table l) xs i j → Derives u table' outside (table' (w l)) xs i j
    same_pieces l xs i j d = rw (same_rows l) (there nothing d)

    -- And nothing else.
    pub no_other_pieces : (l : L) (xs : List N) (i j : ℕ) → Derives u table' outside (table' (w l)) xs i j → Derives t table outside (table l) xs i j
    no_other_pieces l xs i j d = back nothing (rows l) d
