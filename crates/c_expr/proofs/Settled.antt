-- The tests of the table are states of the automaton.
use Rattle.std.proofs.Common.{◌≡◌, ℕ, zero, suc, ◌-◌, ◌<◌, List, [], ◌∷◌, refl, ap, sym, ◌∙◌, arith, cond}
use Rattle.std.specs.Prelude.{Bool, true, false, ◌&&◌, ◌||◌}
use Rattle.grammar.specs.Rule.{has}
use Rattle.grammar.specs.Tests.{say, go, step, verdict}
use Rattle.grammar.proofs.Lookahead.{then, test_step}
use Rattle.c_expr.specs.declared.word.Word.TheVariants as w
use Rattle.c_expr.specs.Words.{class}
use Rattle.c_expr.specs.Settling.{names, spec_words, operand_starts, behind_stars, is_pointer, is_cast, opens_cast, sizes_type, takes_type, opens_declarator, opens_enumerators}
use Rattle.c_expr.specs.Table.{automaton}

abbrev star : List ℕ
star = class w.Star ∷ []

-- where stars stand, and then one of a set, the automaton says yes
stars : (a : ℕ) (cs : List ℕ) → ((x : ℕ) → step automaton a x ≡ cond (has star x) (go a) (cond (has cs x) (say true) (say false))) → ((x : ℕ) → has star x ≡ true → has cs x ≡ false) → (f : ℕ → ℕ) (n i : ℕ) → has cs (f (behind_stars f n i)) ≡ verdict automaton (suc n) a f i
unfolding behind_stars verdict
stars a cs is apart f zero i = by (has star (f i)) (has cs (f i)) refl (apart (f i)) ∙ sym (ap (λ m. then automaton zero f i m) (is (f i)))
  where
    by : (b d : Bool) → has star (f i) ≡ b → (has star (f i) ≡ true → d ≡ false) → d ≡ then automaton zero f i (cond b (go a) (cond d (say true) (say false)))
    by true d h k = k h
    by false true h k = refl
    by false false h k = refl
stars a cs is apart f (suc n) i = by (stars a cs is apart f n (suc i)) (has star (f i)) (has cs (f i)) refl ∙ sym (ap (λ m. then automaton (suc n) f i m) (is (f i)))
  where
    by : has cs (f (behind_stars f n (suc i))) ≡ verdict automaton (suc n) a f (suc i) → (b d : Bool) → has cs (f i) ≡ d → has cs (f (cond b (behind_stars f n (suc i)) i)) ≡ then automaton (suc n) f i (cond b (go a) (cond d (say true) (say false)))
    by rest true d h = rest
    by rest false true h = h
    by rest false false h = h

behind_step : (f : ℕ → ℕ) (n i : ℕ) → zero < n → behind_stars f n i ≡ cond (has star (f i)) (behind_stars f (n - 1) (suc i)) i
unfolding behind_stars
behind_step f zero i h = absurd (omega arith)
behind_step f (suc n) i h = rw less refl
  where
    less : suc n - 1 ≡ n
    less = omega arith

-- NAME, stars, and then one of the set
pointer : (a b : ℕ) (cs : List ℕ) → ((x : ℕ) → step automaton a x ≡ cond (has star x) (go b) (say false)) → ((x : ℕ) → step automaton b x ≡ cond (has star x) (go b) (cond (has cs x) (say true) (say false))) → ((x : ℕ) → has star x ≡ true → has cs x ≡ false) → (f : ℕ → ℕ) (i : ℕ) → (has star (f i) && has cs (f (behind_stars f 500 i))) ≡ verdict automaton 501 a f i
pointer a b cs is is' apart f i = by (has star (f i)) refl ∙ sym (test_step automaton 501 a f i (omega arith) ∙ ap (λ m. then automaton 500 f i m) (is (f i)))
  where
    by : (c : Bool) → has star (f i) ≡ c → (c && has cs (f (behind_stars f 500 i))) ≡ then automaton 500 f i (cond c (go b) (say false))
    by true h = ap (λ k. has cs (f k)) (behind_step f 500 i (omega arith) ∙ ap (λ c. cond c (behind_stars f 499 (suc i)) i) h) ∙ stars b cs is' apart f 499 (suc i)
    by false h = refl

no_close : (x : ℕ) → has star x ≡ true → has (class w.CloseRound ∷ []) x ≡ false
unfolding class
no_close x h = grind arith

no_comma : (x : ℕ) → has star x ≡ true → has (class w.Comma ∷ class w.CloseRound ∷ []) x ≡ false
unfolding class
no_comma x h = grind arith

-- an argument
pub takes_type_is : (f : ℕ → ℕ) (i : ℕ) → takes_type f i ≡ verdict automaton 502 9 f i
takes_type_is f i = by (has spec_words (f i)) (has names (f i)) ∙ sym (test_step automaton 502 9 f i (omega arith))
  where
    by : (b d : Bool) → (b || (d && (has star (f (suc i)) && has (class w.Comma ∷ class w.CloseRound ∷ []) (f (behind_stars f 500 (suc i)))))) ≡ then automaton 501 f i (cond b (say true) (cond d (go 10) (say false)))
    by true d = refl
    by false true = pointer 10 11 (class w.Comma ∷ class w.CloseRound ∷ []) (λ x. refl) (λ x. refl) no_comma f (suc i)
    by false false = refl

or_none : (b c : Bool) → c ≡ false → (b || c) ≡ b
or_none true c h = refl
or_none false c h = h

operand : (f : ℕ → ℕ) (i : ℕ) → has operand_starts (f i) ≡ verdict automaton 500 4 f i
operand f i = by (has operand_starts (f i)) ∙ sym (test_step automaton 500 4 f i (omega arith))
  where
    by : (b : Bool) → b ≡ then automaton 499 f i (cond b (say true) (say false))
    by true = refl
    by false = refl

-- behind `(` NAME
behind_name : (f : ℕ → ℕ) (i : ℕ) → ((has star (f i) && has (class w.CloseRound ∷ []) (f (behind_stars f 500 i))) || (has (class w.CloseRound ∷ []) (f i) && has operand_starts (f (suc i)))) ≡ verdict automaton 501 2 f i
behind_name f i = by (has star (f i)) (has (class w.CloseRound ∷ []) (f i)) refl (no_close (f i)) ∙ sym (test_step automaton 501 2 f i (omega arith))
  where
    and_none : (d e : Bool) → d ≡ false → (d && e) ≡ false
    and_none true e h = cc
    and_none false e h = refl

    by : (b d : Bool) → has star (f i) ≡ b → (has star (f i) ≡ true → d ≡ false) → ((b && has (class w.CloseRound ∷ []) (f (behind_stars f 500 i))) || (d && has operand_starts (f (suc i)))) ≡ then automaton 500 f i (cond b (go 3) (cond d (go 4) (say false)))
    by true d h k = or_none (has (class w.CloseRound ∷ []) (f (behind_stars f 500 i))) (d && has operand_starts (f (suc i))) (and_none d (has operand_starts (f (suc i))) (k h)) ∙ (ap (λ n. has (class w.CloseRound ∷ []) (f n)) (behind_step f 500 i (omega arith) ∙ ap (λ c. cond c (behind_stars f 499 (suc i)) i) h) ∙ stars 3 (class w.CloseRound ∷ []) (λ x. refl) no_close f 499 (suc i))
    by false true h k = operand f (suc i)
    by false false h k = refl

-- what stands behind the `(` of a cast
in_cast : (f : ℕ → ℕ) (i : ℕ) → is_cast f i ≡ verdict automaton 502 1 f i
unfolding is_cast
in_cast f i = by (has spec_words (f i)) (has names (f i)) ∙ sym (test_step automaton 502 1 f i (omega arith))
  where
    by : (b d : Bool) → ((b || (d && (has star (f (suc i)) && has (class w.CloseRound ∷ []) (f (behind_stars f 500 (suc i)))))) || (d && (has (class w.CloseRound ∷ []) (f (suc i)) && has operand_starts (f (suc (suc i)))))) ≡ then automaton 501 f i (cond b (say true) (cond d (go 2) (say false)))
    by true d = refl
    by false true = behind_name f (suc i)
    by false false = refl

-- a cast
pub opens_cast_is : (f : ℕ → ℕ) (i : ℕ) → opens_cast f i ≡ verdict automaton 503 0 f i
opens_cast_is f i = by (has (class w.OpenRound ∷ []) (f i)) ∙ sym (test_step automaton 503 0 f i (omega arith))
  where
    by : (b : Bool) → (b && is_cast f (suc i)) ≡ then automaton 502 f i (cond b (go 1) (say false))
    by true = in_cast f (suc i)
    by false = refl

-- the type behind the `(` of a `sizeof`
in_sizeof : (f : ℕ → ℕ) (i : ℕ) → (has spec_words (f i) || is_pointer (class w.CloseRound ∷ []) f i) ≡ verdict automaton 502 7 f i
in_sizeof f i = by (has spec_words (f i)) (has names (f i)) ∙ sym (test_step automaton 502 7 f i (omega arith))
  where
    by : (b d : Bool) → (b || (d && (has star (f (suc i)) && has (class w.CloseRound ∷ []) (f (behind_stars f 500 (suc i)))))) ≡ then automaton 501 f i (cond b (say true) (cond d (go 8) (say false)))
    by true d = refl
    by false true = pointer 8 3 (class w.CloseRound ∷ []) (λ x. refl) (λ x. refl) no_close f (suc i)
    by false false = refl

-- a type behind `sizeof`
pub sizes_type_is : (f : ℕ → ℕ) (i : ℕ) → sizes_type f i ≡ verdict automaton 504 5 f i
sizes_type_is f i = by (has (class w.Sizeof ∷ []) (f i)) ∙ sym (test_step automaton 504 5 f i (omega arith))
  where
    bracket : (b : Bool) → (b && (has spec_words (f (suc (suc i))) || is_pointer (class w.CloseRound ∷ []) f (suc (suc i)))) ≡ then automaton 502 f (suc i) (cond b (go 7) (say false))
    bracket true = in_sizeof f (suc (suc i))
    bracket false = refl

    by : (b : Bool) → (b && (has (class w.OpenRound ∷ []) (f (suc i)) && (has spec_words (f (suc (suc i))) || is_pointer (class w.CloseRound ∷ []) f (suc (suc i))))) ≡ then automaton 503 f i (cond b (go 6) (say false))
    by true = bracket (has (class w.OpenRound ∷ []) (f (suc i))) ∙ sym (test_step automaton 503 6 f (suc i) (omega arith))
    by false = refl

-- two marks that follow one another
marks : (a b : ℕ) (cs : List ℕ) → ((x : ℕ) → step automaton a x ≡ cond (has cs x) (go b) (say false)) → (f : ℕ → ℕ) (n i : ℕ) (r : Bool) → r ≡ verdict automaton n b f (suc i) → (has cs (f i) && r) ≡ verdict automaton (suc n) a f i
unfolding verdict
marks a b cs is f n i r h = by (has cs (f i)) ∙ sym (ap (λ m. then automaton n f i m) (is (f i)))
  where
    by : (c : Bool) → (c && r) ≡ then automaton n f i (cond c (go b) (say false))
    by true = h
    by false = refl

-- the last of them
last_mark : (a : ℕ) (cs : List ℕ) → ((x : ℕ) → step automaton a x ≡ cond (has cs x) (say true) (say false)) → (f : ℕ → ℕ) (n i : ℕ) → has cs (f i) ≡ verdict automaton (suc n) a f i
unfolding verdict
last_mark a cs is f n i = by (has cs (f i)) ∙ sym (ap (λ m. then automaton n f i m) (is (f i)))
  where
    by : (c : Bool) → c ≡ then automaton n f i (cond c (say true) (say false))
    by true = refl
    by false = refl

pub opens_declarator_is : (f : ℕ → ℕ) (i : ℕ) → opens_declarator f i ≡ verdict automaton 64 12 f i
opens_declarator_is f i = marks 12 13 (class w.OpenRound ∷ []) (λ x. refl) f 63 i (has (class w.Star ∷ class w.OpenRound ∷ []) (f (suc i))) (last_mark 13 (class w.Star ∷ class w.OpenRound ∷ []) (λ x. refl) f 62 (suc i))

pub opens_enumerators_is : (f : ℕ → ℕ) (i : ℕ) → opens_enumerators f i ≡ verdict automaton 64 14 f i
opens_enumerators_is f i = marks 14 15 (class w.OpenCurly ∷ []) (λ x. refl) f 63 i (has names (f (suc i)) && has (class w.Comma ∷ class w.Equals ∷ class w.CloseCurly ∷ []) (f (suc (suc i))))
    (marks 15 16 names (λ x. refl) f 62 (suc i) (has (class w.Comma ∷ class w.Equals ∷ class w.CloseCurly ∷ []) (f (suc (suc i)))) (last_mark 16 (class w.Comma ∷ class w.Equals ∷ class w.CloseCurly ∷ []) (λ x. refl) f 61 (suc (suc i))))
