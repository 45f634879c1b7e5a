-- The reader of a level gives exactly the pieces and the closed runs of the level, within the limits.
use Rattle.std.proofs.Common.{◌≡◌, ℕ, zero, suc, pred, ◌+◌, ◌-◌, ◌<◌, ◌≤◌, List, [], ◌∷◌, length, get_or, refl, arith, ◌∙◌, inl, inr}
use Rattle.std.specs.Prelude.{Bool, true, false, cond, ◌||◌, ◌&&◌, not, Option, Some, None, ◌⊎◌, ltb}
use Rattle.std.proofs.lemmas.List.{get_or_past}
use Rattle.grammar.specs.Rule.{Rule, Source, Grammar, Derives, outside, d_deep, has, open_at, brackets_round, Deepens, with_classes, IsClosed, IsPiece, IsRun}
use Rattle.grammar.specs.Sets.{Sets}
use Rattle.grammar.specs.Reader.{read_level, room_of}
use Rattle.grammar.specs.Tests.{Tests, targets, says, tests, IsTest, AllTests, Declared, no_tests, arms}
use Rattle.grammar.specs.Check.{each, within_set, Ranks, late, loops, follows, keeps, settled, some_level, begun_level, hollow_level, fruitful, bears, passes, closes, closes_runs}
use Rattle.grammar.proofs.Facts.{true_false, and_both, implied, no_some, ltb_less}
use Rattle.grammar.proofs.Spelled.{Rel, Ladder, pick, Level, Never}
use Rattle.grammar.proofs.Good.{Good, good_pick, good_ladder, good_level, good_never}
use Rattle.grammar.proofs.Exact.{exact_level}
use Rattle.grammar.proofs.Longest.{longest_level, Agrees}
use Rattle.grammar.proofs.Meaning.{pick_derived, ladder_derived, level_derived}
use Rattle.grammar.proofs.Checked.{is_grammar, fits, ranked, looped}
use Rattle.grammar.proofs.Bounded.{bounded}
use Rattle.grammar.proofs.Fair.{Fair}
use Rattle.grammar.proofs.Words.{Match, says_holds, some_levels, hollow_levels, begun_levels}
use Rattle.grammar.proofs.Extends.{Longer, extends}
use Rattle.grammar.proofs.Counts.{count_open, count_close, count_along, count_le, few}

-- where no row has a test, nothing has to be said of it
all_tests : (Q : ((ℕ → ℕ) → ℕ → Bool) → Type 0) → ((p : (ℕ → ℕ) → ℕ → Bool) → Q p) → (ps : List ((ℕ → ℕ) → ℕ → Bool)) → AllTests Q ps
all_tests Q h [] = record {}
all_tests Q h (p ∷ ps) = (h p, all_tests Q h ps)

pub none_declared : {K B L : Type 0} (r : Rule K B L) → AllTests (IsTest (no_tests {L = L}) None) (tests r)
none_declared {L = L} r = all_tests (IsTest (no_tests {L = L}) None) (λ p. record {}) (tests r)

module _ {K B L N : Type 0} (g : Grammar K B L) (S : Sets L) (R : Ranks B L) (pass : (l : L) → passes g S R l ≡ true) (depth : List N → ℕ) where
  -- what is derived is spelled by the level, for trees of depth d in limit brackets
  leveled : (u : Source K B N) → Deepens R.strong depth u → (from d limit m : ℕ) (l : L) (xs : List N) (i j : ℕ) → from ≤ i → Derives u g.table outside (g.table l) xs i j → depth xs ≤ d → j < m → ((n : ℕ) → i ≤ n → n ≤ j → open_at g.opens g.closes u.cls from n ≤ limit) → Level u S m g.table R.top (suc (d + limit)) l None xs i j
  leveled u deep from d limit m l xs i j bi x dd jm lim =
      bounded u g.table S (is_grammar g S R pass) g R from (open_at g.opens g.closes u.cls from)
      (count_open g.opens g.closes u.cls from) (count_close g.opens g.closes u.cls from) (count_along g.opens g.closes u.cls from)
      (fits g S R pass) (ranked g S R pass) depth deep.left deep.right deep.weak deep.strict m limit
      (λ l. (and_both (late S None (g.table l)) (loops S (g.table l)) (looped g S R pass l)).0) (λ l. (and_both (late S None (g.table l)) (loops S (g.table l)) (looped g S R pass l)).1)
      (d_deep {c = outside} x) j (suc (d + limit)) zero None zero d i true (record {}) (record {}) (record {}) (record {}) refl refl (omega arith) (inl refl) (omega arith) (omega arith) jm dd bi lim (room (at i)) (λ h. room' (at i))
    where
      at : ℕ → ℕ
      at = open_at g.opens g.closes u.cls from

      room : (a : ℕ) → d + (limit - a) ≤ suc (d + limit)
      room a = omega arith

      room' : (a : ℕ) → d + (limit - a) < suc (d + limit)
      room' a = omega arith

  module _ (t : Source K B N) (deep : Deepens R.strong depth t) (m : ℕ) where
    -- the room for the limits suffices
    piece_leveled : (l : L) (xs : List N) (i j : ℕ) → IsPiece g depth t l xs i j → j < m → Level t S m g.table R.top (room_of g) l None xs i j
    piece_leveled l xs i j p jm = leveled t deep i g.most_depth (suc g.most_brackets) m l xs i j (omega arith) p.spelled p.shallow jm (few g.opens g.closes t.cls i j g.most_brackets p.few_brackets)

    -- What is read ends at its beginning or behind it.
    pub read_forward : (room : ℕ) (l : L) (xs : List N) (i j : ℕ) → read_level t S m g.table R.top room l i ≡ Some (xs, j) → i ≤ j
    read_forward room l xs i j r = (good_level t S m g.table (is_grammar g S R pass) R.top room l).order (Some (t.cls j)) xs i j ((exact_level t S m g.table (is_grammar g S R pass) R.top room l).sound xs i j r)

    -- What is read within the limits is a piece.
    pub read_piece : (room : ℕ) (l : L) (xs : List N) (i j : ℕ) → read_level t S m g.table R.top room l i ≡ Some (xs, j) → depth xs ≤ g.most_depth → ((n : ℕ) → i ≤ n → n < j → brackets_round g.opens g.closes t.cls i n ≤ g.most_brackets) → IsPiece g depth t l xs i j
    read_piece room l xs i j r shallow few = record {
      spelled = level_derived t S m g.table R.top room l (Some (t.cls j)) xs i j ((exact_level t S m g.table (is_grammar g S R pass) R.top room l).sound xs i j r);
      shallow = shallow;
      few_brackets = few;
    }

    -- Each piece that the next token can't go on with, by the sets, is what is read.
    pub piece_read : (l : L) (xs : List N) (i j : ℕ) → IsPiece g depth t l xs i j → has (S.more l) (t.cls j) ≡ false → j < m → read_level t S m g.table R.top (room_of g) l i ≡ Some (xs, j)
    piece_read l xs i j p stops jm = (exact_level t S m g.table (is_grammar g S R pass) R.top (room_of g) l).complete xs i j
        ((good_level t S m g.table (is_grammar g S R pass) R.top (room_of g) l).closed xs i j (t.cls j) (piece_leveled l xs i j p jm) stops)

    module _ (T : Tests L) (declared : (l : L) → Declared T l (g.table l)) (mode : ℕ → Bool) (h : ℕ) (closing : (l : L) → closes g S R T mode h l ≡ true) where
      -- the parts of the check of a row
      pub row : (l : L) → R.shut l ≡ true → (each (λ a. within_set (targets (arms T.automaton a)) T.states) T.states ≡ true) × (keeps T None l (g.table l) ≡ true) × (settled S T R.shut (T.start l) None (T.follow l) (g.table l) ≡ true) × (elim (T.follow l) [ None ↦ bears g S T mode h l | Some cs ↦ true ] ≡ true)
      row l c =
          let a : _ = and_both (each (λ a. within_set (targets (arms T.automaton a)) T.states) T.states && (keeps T None l (g.table l) && settled S T R.shut (T.start l) None (T.follow l) (g.table l))) _ (implied (R.shut l) _ (closing l) c) in
          let b : _ = and_both (each (λ a. within_set (targets (arms T.automaton a)) T.states) T.states) (keeps T None l (g.table l) && settled S T R.shut (T.start l) None (T.follow l) (g.table l)) a.0 in
          let d : _ = and_both (keeps T None l (g.table l)) (settled S T R.shut (T.start l) None (T.follow l) (g.table l)) b.1 in
          (b.0, d.0, d.1, a.1)

      pub all_kept : (l : L) → R.shut l ≡ true → keeps T None l (g.table l) ≡ true
      all_kept l c = (row l c).1

      pub all_fair : (l : L) → R.shut l ≡ true → Fair S T R.shut (T.start l) None (T.follow l) (g.table l)
      all_fair l c = ((row l c).2, (is_grammar g S R pass).clear l, declared l)

      bearing : (l : L) → R.shut l ≡ true → T.follow l ≡ None → bears g S T mode h l ≡ true
      bearing l c n = rw n at (row l c).3

      full : (l : L) → R.shut l ≡ true → T.follow l ≡ None → S.empty l ≡ true → hollow_level g.table h l zero ≡ true
      full l c n = implied (S.empty l) (hollow_level g.table h l zero) (and_both (not (S.empty l) || hollow_level g.table h l zero) _ (bearing l c n)).0

      fruits : (l : L) → R.shut l ≡ true → T.follow l ≡ None → fruitful mode (says T.automaton (T.start l)) (some_level T g.table h) (begun_level T g.table h) (hollow_level g.table h) S None None (g.table l) ≡ true
      fruits l c n = (and_both (not (S.empty l) || hollow_level g.table h l zero) _ (bearing l c n)).1

      -- What is read of a level that is shut, and that any class may follow, is a closed run, within the limits.
      pub read_run_tests : (room : ℕ) (l : L) (xs : List N) (i j : ℕ) → R.shut l ≡ true → T.follow l ≡ None → read_level t S m g.table R.top room l i ≡ Some (xs, j) → depth xs ≤ g.most_depth → ((n : ℕ) → i ≤ n → n < j → brackets_round g.opens g.closes t.cls i n ≤ g.most_brackets) → IsRun g mode depth t l xs i j
      unfolding Agrees
      read_run_tests room l xs i j c fo r shallow few = record {
        piece = read_piece room l xs i j r shallow few;
        closed = λ f in_mode ag ys k e. (longest_level t (with_classes t f) S g.table (is_grammar g S R pass) T R.shut (row l c).0 all_fair all_kept m (suc k) R.top room (suc (depth ys + k)) l c).forth xs ys i j k (any (T.follow l) (t.cls j) fo) ag
            ((exact_level t S m g.table (is_grammar g S R pass) R.top room l).sound xs i j r)
            (leveled (with_classes t f) (record { left = deep.left; right = deep.right; weak = deep.weak; strict = deep.strict }) zero (depth ys) k (suc k) l ys i k (omega arith) e (omega arith) (omega arith) (λ n a b. upto f n k b));
      }
        where
          upto : (f : ℕ → ℕ) (n k : ℕ) → n ≤ k → open_at g.opens g.closes f zero n ≤ k
          upto f n k b = omega (arith, count_le g.opens g.closes f n)

          any : (F : Option (List ℕ)) (c : ℕ) → F ≡ None → follows F c ≡ true
          any F c e = rw e refl

      module _ (x : ℕ) (in_mode : mode x ≡ true) (steady : each (λ a. within_set (targets (arms T.automaton a)) T.states) T.states ≡ true) where
        Extend : (L → Rel N) → Type 0
        Extend X = (l : L) → R.shut l ≡ true → T.follow l ≡ None → (xs : List N) (i j : ℕ) → t.cls j ≡ x → X l None xs i j → X l (Some x) xs i j ⊎ Longer N S g.table (is_grammar g S R pass) T R.shut steady all_fair all_kept mode t outside (g.table l) i j x

        extends_pick : (X Y : L → Rel N) → Extend X → Extend Y → (u : Bool) → Extend (pick X Y u)
        extends_pick X Y a b false = a
        extends_pick X Y a b true = b

        extends_ladder : (X : L → Rel N) → ((l : L) → Good t (S.first l) (S.empty l) (S.more l) (X l)) → ((l : L) (o : Option ℕ) (xs : List N) (i j : ℕ) → X l o xs i j → Derives t g.table outside (g.table l) xs i j) → Extend X → (k : ℕ) → Extend (Ladder t S m g.table X k)
        unfolding Extend
        extends_ladder X gx b e zero l c fo xs i j here d = inl d
        extends_ladder X gx b e (suc k) l c fo xs i j here d = extends N S g.table (is_grammar g S R pass) T R.shut steady all_fair all_kept mode (says T.automaton (T.start l)) (T.start l) (says_holds T (T.start l)) t m x in_mode (some_level T g.table h) (begun_level T g.table h) (hollow_level g.table h) (some_levels N g.table T declared h) (begun_levels N g.table T declared h) (hollow_levels N g.table h) full
            (pick (Ladder t S m g.table X k) X) (good_pick t S (Ladder t S m g.table X k) X (good_ladder t S m g.table (is_grammar g S R pass) X gx k) gx) (pick_derived t g.table (Ladder t S m g.table X k) X (ladder_derived t S m g.table X b k) b) (extends_pick (Ladder t S m g.table X k) X (extends_ladder X gx b e k) e) (g.table l) None None outside (Never N) (good_never t [] false []) (λ o xs' i' j' e'. absurd (omega (arith, e'.no))) (λ xs' i' j' here' e'. absurd (omega (arith, e'.no))) (λ w n. no_some w n) (λ e'. true_false false e' refl) (record {}) (rw fo at (all_fair l c)) (fruits l c fo) xs i j here d

        extends_level : (n : ℕ) → Extend (Level t S m g.table R.top n)
        unfolding Extend
        extends_level zero l c fo xs i j here d = inl d
        extends_level (suc n) l c fo xs i j here d = extends_ladder (Level t S m g.table R.top n) (good_level t S m g.table (is_grammar g S R pass) R.top n) (level_derived t S m g.table R.top n) (extends_level n) R.top l c fo xs i j here d

        -- t up to j, and then the classes of w
        goes_on : ℕ → List ℕ → ℕ → ℕ
        goes_on j w n = cond (ltb n j) (t.cls n) (get_or w (n - j) zero)

        matched : (u : Source K B N) (w : List ℕ) (i : ℕ) → ((n : ℕ) → u.cls (i + n) ≡ get_or w n zero) → Match u i w (i + length w)
        matched u [] i h = omega arith
        matched u (c ∷ w) i h = (rw (zero_right i) at (h zero), rw (shift i (length w)) (matched u w (suc i) (λ n. rw (shift' i n) (h (suc n)))))
          where
            zero_right : (i : ℕ) → i + zero ≡ i
            zero_right i = omega arith

            shift : (i n : ℕ) → i + suc n ≡ suc i + n
            shift i n = omega arith

            shift' : (i n : ℕ) → suc i + n ≡ i + suc n
            shift' i n = omega arith

        -- the mode has all classes of a word, and of what stands behind it
        word_classes : (w : List ℕ) → each mode w ≡ true → mode zero ≡ true → (n : ℕ) → mode (get_or w n zero) ≡ true
        word_classes [] h z n = z
        word_classes (c ∷ w) h z zero = (and_both (mode c) (each mode w) h).0
        word_classes (c ∷ w) h z (suc n) = word_classes w (and_both (mode c) (each mode w) h).1 z n

        closed_stops : (n : ℕ) (l : L) (xs : List N) (i j : ℕ) → R.shut l ≡ true → T.follow l ≡ None → mode zero ≡ true → ((k : ℕ) → mode (t.cls k) ≡ true) → t.cls j ≡ x → IsClosed g.table mode t l i j → Level t S m g.table R.top n l None xs i j → Level t S m g.table R.top n l (Some x) xs i j
        unfolding goes_on Extend
        closed_stops n l xs i j c fo end all at cl d = elim (extends_level n l c fo xs i j at d) [
          | inl p ↦ p
          | inr p ↦ absurd (too_long p)
        ]
          where
            not_below : (n : ℕ) → ltb (j + n) j ≡ false
            not_below n = grind arith

            minus : (n : ℕ) → j + n - j ≡ n
            minus n = omega arith

            too_long : Longer N S g.table (is_grammar g S R pass) T R.shut steady all_fair all_kept mode t outside (g.table l) i j x → ⊥
            too_long p =
                let w : List ℕ = x ∷ p.0 in
                let y : _ = p.2 (with_classes t (goes_on j w)) (λ n a b. before n b) (j + length w) (matched (with_classes t (goes_on j w)) w j (λ n. after n)) (after (length w) ∙ get_or_past w (length w) zero (omega arith)) in
                over (cl (goes_on j w) (λ n. classes n) (λ n a. upto n a) y.0 (j + length w) y.1)
              where
                before : (n : ℕ) → n < j → t.cls n ≡ goes_on j (x ∷ p.0) n
                before n h = rw (ltb_less n j h) refl

                after : (n : ℕ) → goes_on j (x ∷ p.0) (j + n) ≡ get_or (x ∷ p.0) n zero
                after n = rw (not_below n, minus n) refl

                cases : (n : ℕ) → n ≤ j → (n < j) ⊎ (n ≡ j + zero)
                cases n h = grind arith

                right : (j : ℕ) → j + zero ≡ j
                right j = omega arith

                upto : (n : ℕ) → n ≤ j → t.cls n ≡ goes_on j (x ∷ p.0) n
                upto n h = elim (cases n h) [ inl lt ↦ before n lt | inr eq ↦ rw eq (rw (after zero) (rw (right j) at)) ]

                either : (b : Bool) (u v : ℕ) → mode u ≡ true → mode v ≡ true → mode (cond b u v) ≡ true
                either true u v hu hv = hu
                either false u v hu hv = hv

                all_word : (n : ℕ) → mode (get_or (x ∷ p.0) n zero) ≡ true
                all_word = word_classes (x ∷ p.0) (both in_mode p.1) end
                  where
                    both : {a b : Bool} → a ≡ true → b ≡ true → (a && b) ≡ true
                    both h k = rw (h, k) refl

                classes : (n : ℕ) → mode (goes_on j (x ∷ p.0) n) ≡ true
                classes n = either (ltb n j) (t.cls n) (get_or (x ∷ p.0) (n - j) zero) (all n) (all_word (n - j))

                over : j + suc (length p.0) ≤ j → ⊥
                over h = omega arith

      -- Each closed run of such a level is what is read, where all tokens are of the mode, and so is what stands behind them.
      pub run_read_tests : (l : L) (xs : List N) (i j : ℕ) → R.shut l ≡ true → T.follow l ≡ None → mode zero ≡ true → ((k : ℕ) → mode (t.cls k) ≡ true) → IsRun g mode depth t l xs i j → j < m → read_level t S m g.table R.top (room_of g) l i ≡ Some (xs, j)
      run_read_tests l xs i j c fo end all r jm = (exact_level t S m g.table (is_grammar g S R pass) R.top (room_of g) l).complete xs i j
          (closed_stops (t.cls j) (all j) (row l c).0 (room_of g) l xs i j c fo end all refl r.closed (piece_leveled l xs i j r.piece jm))

    -- The same for tables in which no row has a test.
    module _ (mode : ℕ → Bool) (h : ℕ) (closing : (l : L) → closes_runs g S R mode h l ≡ true) where
      -- What is read of a level that is shut, within the limits, is a closed run.
      pub read_run : (room : ℕ) (l : L) (xs : List N) (i j : ℕ) → R.shut l ≡ true → read_level t S m g.table R.top room l i ≡ Some (xs, j) → depth xs ≤ g.most_depth → ((n : ℕ) → i ≤ n → n < j → brackets_round g.opens g.closes t.cls i n ≤ g.most_brackets) → IsRun g mode depth t l xs i j
      read_run room l xs i j c r shallow few = read_run_tests no_tests (λ l. none_declared (g.table l)) mode h closing room l xs i j c refl r shallow few

      -- Each closed run is what is read, where all tokens are of the mode, and so is what stands behind them.
      pub run_read : (l : L) (xs : List N) (i j : ℕ) → R.shut l ≡ true → mode zero ≡ true → ((k : ℕ) → mode (t.cls k) ≡ true) → IsRun g mode depth t l xs i j → j < m → read_level t S m g.table R.top (room_of g) l i ≡ Some (xs, j)
      run_read l xs i j c end all r jm = run_read_tests no_tests (λ l. none_declared (g.table l)) mode h closing l xs i j c refl end all r jm
