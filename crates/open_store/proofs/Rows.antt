-- What a change of a row in hand, or of the store beside them, makes of what is kept.
use Rattle.std.proofs.Common.{◌≡◌, ◌∙◌, ℕ, zero, suc, List, [], ◌∷◌, ◌++◌, refl, sym, ap, subst, Bool, true, false, cond, set, arith, inl, inr}
use Rattle.std.specs.Prelude.{Option, None, Some, ◌&&◌, map, nat_eq, slice_get, slice_index_or, unwrap_or, option_map, is_some, Result, Ok, Err, OnOk, OnErr, ◌⊎◌, ◌≤◌, ◌<◌, length}
use Rattle.std.specs.declared.cmp.Ordering.{Ordering}
use Rattle.std.specs.declared.cmp.Ordering.TheVariants.{Equal}
use Rattle.std.specs.Ordering.{is_eq}
use Rattle.std.specs.Cmp.{IsTotalOrder}
use Rattle.std.specs.Cmp.Lexicographic.{bytes_decides}
use Rattle.std.specs.Str.{bytes_eq}
use Rattle.std.specs.BTreeMap.{BTreeMap, get}
use Rattle.std.proofs.lemmas.Cmp.{tied_itself, tied_back}
use Rattle.std.proofs.lemmas.Bool.Decides.{nat_tests}
use Rattle.piece_store.specs.declared.row.Row.{Row}
use Rattle.piece_store.specs.declared.store.Store.{Store}
use Rattle.piece_store.specs.Kept.{answer_of, by_number, kept, put_pair, put_piece, row_answer, IsRowOf}
use Rattle.piece_store.specs.Slots.{slot, put_at, marked, row_slot}
use Rattle.piece_store.specs.Views.{at, met_by, table_slot}
use Rattle.piece_store.specs.declared.table.Table.{Table}
use Rattle.piece_store.proofs.ByNumber.{is_equal, number_test, no_number, same_found, by_numbers, none_pair}
use Rattle.open_store.specs.declared.held.HeldRow.{HeldRow}
use Rattle.open_store.specs.InHand.{with_rows, HasNone, AreApart, AreRowsOf}

pub itself : (path : List ℕ) → bytes_eq path path ≡ true
itself path = (bytes_decides path path).1 refl

-- a row in which the answer of one number is put, seen by patterns
module _ {Q : Type 0} (S : Q → Q → Ordering) (total : IsTotalOrder S) (m : BTreeMap Q ℕ) (apart : (q r : Q) (i : ℕ) → get S m q ≡ Some i → get S m r ≡ Some i → S q r ≡ Equal) (pattern : Q) (i : ℕ) (found : get S m pattern ≡ Some i) where
  pub answer_put : {V : Type 0} (empty : V) (x : Option (Option V × Bool)) (f : ℕ → Option (Option V × Bool)) (q : Q)
      → by_number (λ j. answer_of empty (put_at i x f j)) (get S m q) ≡ cond (is_eq (S pattern q)) (answer_of empty x) (by_number (λ j. answer_of empty (f j)) (get S m q))
  answer_put {V} empty x f q = by (get S m q) refl
    where
      at_some : (c : Bool) (y : Option (Option V × Bool)) → answer_of empty (cond c x y) ≡ cond c (answer_of empty x) (answer_of empty y)
      at_some true y = refl
      at_some false y = refl

      by : (n : Option ℕ) → get S m q ≡ n → by_number (λ j. answer_of empty (put_at i x f j)) n ≡ cond (is_eq (S pattern q)) (answer_of empty x) (by_number (λ j. answer_of empty (f j)) n)
      by None e = sym (ap (λ (c : Bool). cond c (answer_of empty x) None) (no_number S total m apart pattern i found q e))
      by (Some j) e = at_some (nat_eq i j) (f j) ∙ ap (λ (c : Bool). cond c (answer_of empty x) (answer_of empty (f j))) (number_test S total m apart pattern i found q j e)

at_head : {X : Type 0} (a b c : Bool) (x y z : X) → cond (a && b) (cond c x y) z ≡ cond (a && (b && c)) x (cond (a && b) y z)
at_head true true true x y z = refl
at_head true true false x y z = refl
at_head true false c x y z = refl
at_head false b c x y z = refl

at_tail : {X : Type 0} (a d b c : Bool) (x y z : X) → (d ≡ true → b ≡ true → ⊥) → cond (a && d) y (cond (a && (b && c)) x z) ≡ cond (a && (b && c)) x (cond (a && d) y z)
at_tail true true true c x y z apart = absurd (apart refl refl)
at_tail true true false c x y z apart = refl
at_tail true false b c x y z apart = refl
at_tail false d b c x y z apart = refl

module _ {P : Type 0} (R : P → P → Ordering) (total : IsTotalOrder R) where
  not_equal : (p q : P) → (R q p ≡ Equal → ⊥) → is_eq (R p q) ≡ false
  not_equal p q differ = by (is_eq (R p q)) refl
    where
      by : (b : Bool) → is_eq (R p q) ≡ b → b ≡ false
      by true e = absurd (differ (tied_back total p q (is_equal (R p q) e)))
      by false e = refl

  not_both : (s r p : P) → (R r s ≡ Equal → ⊥) → is_eq (R s p) ≡ true → is_eq (R r p) ≡ true → ⊥
  not_both s r p differ e f =
      let here = is_equal (R s p) e in
      let there = is_equal (R r p) f in
      differ (total.congr r p s there ∙ tied_back total s p here)

module _ {P V : Type 0} (R : P → P → Ordering) (total : IsTotalOrder R) where
  -- a piece is not one of a row behind which it is another
  apart_at : (rows : List (HeldRow P V)) (i : ℕ) (r : HeldRow P V) (piece : P) → HasNone R rows piece → slice_get rows i ≡ Some r → R r.piece piece ≡ Equal → ⊥
  apart_at [] i r piece none e f = let c : None ≡ Some r = e in cc
  apart_at (s ∷ rs) zero r piece none e f = let is : s ≡ r = cc in none.0 (ap (λ (t : HeldRow P V). R t.piece piece) is ∙ f)
  apart_at (s ∷ rs) (suc i) r piece none e f = apart_at rs i r piece none.1 e f

  -- none is one of the piece behind the others either
  pub none_behind : (rows : List (HeldRow P V)) (r : HeldRow P V) (piece : P) → HasNone R rows piece → (R r.piece piece ≡ Equal → ⊥) → HasNone R (rows ++ r ∷ []) piece
  none_behind [] r piece none differ = (differ, tt)
  none_behind (s ∷ rs) r piece none differ = (none.0, none_behind rs r piece none.1 differ)

  pub apart_behind : (rows : List (HeldRow P V)) (r : HeldRow P V) → AreApart R rows → HasNone R rows r.piece → AreApart R (rows ++ r ∷ [])
  apart_behind [] r apart none = (tt, tt)
  apart_behind (s ∷ rs) r apart none =
      (none_behind rs r s.piece apart.0 (λ e. none.0 (tied_back total r.piece s.piece e)), apart_behind rs r apart.1 none.1)

  pub apart_before : (rows : List (HeldRow P V)) (r : HeldRow P V) → AreApart R (rows ++ r ∷ []) → AreApart R rows
  apart_before [] r apart = tt
  apart_before (s ∷ rs) r apart = (none_before rs r s.piece apart.0, apart_before rs r apart.1)
    where
      none_before : (ts : List (HeldRow P V)) (r : HeldRow P V) (piece : P) → HasNone R (ts ++ r ∷ []) piece → HasNone R ts piece
      none_before [] r piece none = tt
      none_before (t ∷ ts) r piece none = (none.0, none_before ts r piece none.1)

module _ {P Q V : Type 0} (R : P → P → Ordering) (S : Q → Q → Ordering) (total : IsTotalOrder R) where
  -- what is kept for a piece in hand is what its row says
  pub held_at : (store : Store P Q V) (path : List ℕ) (rows : List (HeldRow P V)) (i : ℕ) (r : HeldRow P V) → AreApart R rows → slice_get rows i ≡ Some r → (q : Q) → with_rows R S store path rows path r.piece q ≡ row_answer S store r.row q
  held_at store path [] i r apart e q = let c : None ≡ Some r = e in cc
  held_at store path (s ∷ rs) zero r apart e q =
      let is : s ≡ r = cc in
      let mine = λ (a b : Bool). cond (a && b) (row_answer S store s.row q) (with_rows R S store path rs path r.piece q) in
      ap (λ (a : Bool). mine a (is_eq (R s.piece r.piece))) (itself path)
      ∙ ap (λ (b : Bool). mine true b) (ap (λ (t : HeldRow P V). is_eq (R s.piece t.piece)) (sym is) ∙ ap is_eq (tied_itself total s.piece))
      ∙ ap (λ (t : HeldRow P V). row_answer S store t.row q) is
  held_at store path (s ∷ rs) (suc i) r apart e q =
      let none = not_equal R total s.piece r.piece (apart_at R total rs i r s.piece apart.0 e) in
      let mine = λ (a b : Bool). cond (a && b) (row_answer S store s.row q) (with_rows R S store path rs path r.piece q) in
      ap (λ (a : Bool). mine a (is_eq (R s.piece r.piece))) (itself path)
      ∙ ap (λ (b : Bool). mine true b) none
      ∙ held_at store path rs i r apart.1 e q

  -- a row in hand in which the answer of one pattern is put
  pub held_put : (store : Store P Q V) (path : List ℕ) (q : Q) (x : Option (V × Bool)) (r t : HeldRow P V) → t.piece ≡ r.piece
      → ((s : Q) → row_answer S store t.row s ≡ cond (is_eq (S q s)) x (row_answer S store r.row s))
      → (rows : List (HeldRow P V)) (i : ℕ) → AreApart R rows → slice_get rows i ≡ Some r
      → (o : List ℕ) (p : P) (s : Q) → with_rows R S store path (set rows i t) o p s ≡ put_pair R S path r.piece q x (with_rows R S store path rows) o p s
  held_put store path q x r t same puts [] i apart e o p s = let c : None ≡ Some r = e in cc
  held_put store path q x r t same puts (u ∷ rs) zero apart e o p s =
      let is : u ≡ r = cc in
      let a = bytes_eq path o in
      let z = with_rows R S store path rs o p s in
      ap (λ (k : P). cond (a && is_eq (R k p)) (row_answer S store t.row s) z) same
      ∙ ap (λ (y : Option (V × Bool)). cond (a && is_eq (R r.piece p)) y z) (puts s)
      ∙ at_head a (is_eq (R r.piece p)) (is_eq (S q s)) x (row_answer S store r.row s) z
      ∙ ap (λ (v : HeldRow P V). cond (a && (is_eq (R r.piece p) && is_eq (S q s))) x (cond (a && is_eq (R v.piece p)) (row_answer S store v.row s) z)) (sym is)
  held_put store path q x r t same puts (u ∷ rs) (suc i) apart e o p s =
      let a = bytes_eq path o in
      ap (λ (y : Option (V × Bool)). cond (a && is_eq (R u.piece p)) (row_answer S store u.row s) y) (held_put store path q x r t same puts rs i apart.1 e o p s)
      ∙ at_tail a (is_eq (R u.piece p)) (is_eq (R r.piece p)) (is_eq (S q s)) x (row_answer S store u.row s) (with_rows R S store path rs o p s)
      (not_both R total u.piece r.piece p (apart_at R total rs i r u.piece apart.0 e))

  -- a row in hand that says what it said
  pub held_same : (store : Store P Q V) (path : List ℕ) (r t : HeldRow P V) → t.piece ≡ r.piece → ((s : Q) → row_answer S store t.row s ≡ row_answer S store r.row s)
      → (rows : List (HeldRow P V)) (i : ℕ) → slice_get rows i ≡ Some r → (o : List ℕ) (p : P) (s : Q) → with_rows R S store path (set rows i t) o p s ≡ with_rows R S store path rows o p s
  held_same store path r t same answers [] i e o p s = let c : None ≡ Some r = e in cc
  held_same store path r t same answers (u ∷ rs) zero e o p s =
      let is : u ≡ r = cc in
      let z = with_rows R S store path rs o p s in
      ap (λ (k : P). cond (bytes_eq path o && is_eq (R k p)) (row_answer S store t.row s) z) same
      ∙ ap (λ (y : Option (V × Bool)). cond (bytes_eq path o && is_eq (R r.piece p)) y z) (answers s)
      ∙ ap (λ (v : HeldRow P V). cond (bytes_eq path o && is_eq (R v.piece p)) (row_answer S store v.row s) z) (sym is)
  held_same store path r t same answers (u ∷ rs) (suc i) e o p s =
      ap (λ (y : Option (V × Bool)). cond (bytes_eq path o && is_eq (R u.piece p)) (row_answer S store u.row s) y) (held_same store path r t same answers rs i e o p s)

  -- rows that say of another store what they say of this one
  pub held_as : (old new : Store P Q V) (path : List ℕ) → ((o : List ℕ) (p : P) (q : Q) → kept R S new o p q ≡ kept R S old o p q)
      → ((row : Row V) → IsRowOf old row → (q : Q) → row_answer S new row q ≡ row_answer S old row q)
      → (rows : List (HeldRow P V)) → AreRowsOf old rows → (o : List ℕ) (p : P) (q : Q) → with_rows R S new path rows o p q ≡ with_rows R S old path rows o p q
  held_as old new path same answers [] fit o p q = same o p q
  held_as old new path same answers (r ∷ rs) fit o p q =
      let t = bytes_eq path o && is_eq (R r.piece p) in
      ap (λ (y : Option (V × Bool)). cond t y (with_rows R S new path rs o p q)) (answers r.row fit.0 q)
      ∙ ap (λ (z : Option (V × Bool)). cond t (row_answer S old r.row q) z) (held_as old new path same answers rs fit.1 o p q)

  -- a row behind the others, which the store had or has
  pub held_behind : (old new : Store P Q V) (path : List ℕ) (r : HeldRow P V)
      → ((o : List ℕ) (p : P) (q : Q) → put_piece R path r.piece (row_answer S new r.row) (kept R S new) o p q ≡ kept R S old o p q)
      → ((row : Row V) (q : Q) → row_answer S new row q ≡ row_answer S old row q)
      → (rows : List (HeldRow P V)) → (o : List ℕ) (p : P) (q : Q) → with_rows R S new path (rows ++ r ∷ []) o p q ≡ with_rows R S old path rows o p q
  held_behind old new path r same answers [] o p q = same o p q
  held_behind old new path r same answers (s ∷ rs) o p q =
      let t = bytes_eq path o && is_eq (R s.piece p) in
      ap (λ (y : Option (V × Bool)). cond t y (with_rows R S new path (rs ++ r ∷ []) o p q)) (answers s.row q)
      ∙ ap (λ (z : Option (V × Bool)). cond t (row_answer S old s.row q) z) (held_behind old new path r same answers rs o p q)

-- the same rows of the same pieces
module _ {P V : Type 0} (R : P → P → Ordering) where
  pub none_set : (rows : List (HeldRow P V)) (i : ℕ) (r t : HeldRow P V) → slice_get rows i ≡ Some r → t.piece ≡ r.piece → (piece : P) → HasNone R rows piece → HasNone R (set rows i t) piece
  none_set [] i r t e same piece none = tt
  none_set (s ∷ rs) zero r t e same piece none =
      let is : s ≡ r = cc in (λ f. none.0 (ap (λ (u : HeldRow P V). R u.piece piece) is ∙ ap (λ (k : P). R k piece) (sym same) ∙ f), none.1)
  none_set (s ∷ rs) (suc i) r t e same piece none = (none.0, none_set rs i r t e same piece none.1)

  pub apart_set : (rows : List (HeldRow P V)) (i : ℕ) (r t : HeldRow P V) → slice_get rows i ≡ Some r → t.piece ≡ r.piece → AreApart R rows → AreApart R (set rows i t)
  apart_set [] i r t e same apart = tt
  apart_set (s ∷ rs) zero r t e same apart =
      let is : s ≡ r = cc in
      let F : P → Type 0 = λ k. HasNone R rs k in
      (subst F (ap (λ (u : HeldRow P V). u.piece) is ∙ sym same) apart.0, apart.1)
  apart_set (s ∷ rs) (suc i) r t e same apart = (none_set rs i r t e same s.piece apart.0, apart_set rs i r t e same apart.1)

module _ {P Q V : Type 0} where
  pub fit_set : (store : Store P Q V) (rows : List (HeldRow P V)) (i : ℕ) (t : HeldRow P V) → IsRowOf store t.row → AreRowsOf store rows → AreRowsOf store (set rows i t)
  fit_set store [] i t row fit = tt
  fit_set store (s ∷ rs) zero t row fit = (row, fit.1)
  fit_set store (s ∷ rs) (suc i) t row fit = (fit.0, fit_set store rs i t row fit.1)

  pub fit_as : (old new : Store P Q V) → ((row : Row V) → IsRowOf old row → IsRowOf new row) → (rows : List (HeldRow P V)) → AreRowsOf old rows → AreRowsOf new rows
  fit_as old new fits [] fit = tt
  fit_as old new fits (r ∷ rs) fit = (fits r.row fit.0, fit_as old new fits rs fit.1)

  pub fit_at : (store : Store P Q V) (rows : List (HeldRow P V)) (i : ℕ) (r : HeldRow P V) → slice_get rows i ≡ Some r → AreRowsOf store rows → IsRowOf store r.row
  fit_at store [] i r e fit = let c : None ≡ Some r = e in cc
  fit_at store (s ∷ rs) zero r e fit = let is : s ≡ r = cc in let F : HeldRow P V → Type 0 = λ u. IsRowOf store u.row in subst F is fit.0
  fit_at store (s ∷ rs) (suc i) r e fit = fit_at store rs i r e fit.1

  pub fit_behind : (store : Store P Q V) (rows : List (HeldRow P V)) (r : HeldRow P V) → AreRowsOf store rows → IsRowOf store r.row → AreRowsOf store (rows ++ r ∷ [])
  fit_behind store [] r fit row = (row, tt)
  fit_behind store (s ∷ rs) r fit row = (fit.0, fit_behind store rs r fit.1 row)

  pub fit_before : (store : Store P Q V) (rows : List (HeldRow P V)) (r : HeldRow P V) → AreRowsOf store (rows ++ r ∷ []) → AreRowsOf store rows × IsRowOf store r.row
  fit_before store [] r fit = (tt, fit.0)
  fit_before store (s ∷ rs) r fit = let more = fit_before store rs r fit.1 in ((fit.0, more.0), more.1)

module _ {P V : Type 0} where
  -- rows are pieces at the same places
  pub pieces_set : (rows : List (HeldRow P V)) (i : ℕ) (r t : HeldRow P V) → slice_get rows i ≡ Some r → t.piece ≡ r.piece → map (λ (u : HeldRow P V). u.piece) (set rows i t) ≡ map (λ (u : HeldRow P V). u.piece) rows
  pieces_set [] i r t e same = refl
  pieces_set (s ∷ rs) zero r t e same = let is : s ≡ r = cc in ap (λ (k : P). k ∷ map (λ (u : HeldRow P V). u.piece) rs) (same ∙ ap (λ (u : HeldRow P V). u.piece) (sym is))
  pieces_set (s ∷ rs) (suc i) r t e same = ap (λ (ks : List P). s.piece ∷ ks) (pieces_set rs i r t e same)

-- ---- one place of a list

pub get_at : {X : Type 0} (xs : List X) (i : ℕ) (d : X) → i < length xs → slice_get xs i ≡ Some (slice_index_or xs i d)
get_at [] i d h = absurd (omega (arith, h))
get_at (x ∷ xs) zero d h = refl
get_at (x ∷ xs) (suc i) d h = get_at xs i d (omega (arith, h))

-- the element in hand is the one that stands there
pub here : {X : Type 0} (xs : List X) (i : ℕ) (u : X) → i < length xs → u ≡ slice_index_or xs i u → slice_get xs i ≡ Some u
here xs i u h is = get_at xs i u h ∙ ap (λ x. Some x) (sym is)

pub same_one : {X : Type 0} (xs : List X) (i : ℕ) (u r : X) → slice_get xs i ≡ Some u → slice_get xs i ≡ Some r → u ≡ r
same_one xs i u r e f = let g : Some u ≡ Some r = sym e ∙ f in cc

-- ---- slots of a row

pub itself_number : (i : ℕ) → nat_eq i i ≡ true
itself_number i = grind (arith, nat_tests)

same_number : (i j : ℕ) → nat_eq i j ≡ true → i ≡ j
same_number i j e = grind (arith, nat_tests, e)

-- marking uses no number that isn't used
pub fits_marked : {X : Type 0} (number next : ℕ) (f g : ℕ → Option (X × Bool)) → ((i : ℕ) → g i ≡ put_at number (marked (f number)) f i)
    → ((i : ℕ) → next ≤ i → f i ≡ None) → (i : ℕ) → next ≤ i → g i ≡ None
fits_marked number next f g puts none i h = puts i ∙ by (nat_eq number i) refl
  where
    by : (b : Bool) → nat_eq number i ≡ b → cond b (marked (f number)) (f i) ≡ None
    by true e = ap (λ j. marked (f j)) (same_number number i e) ∙ ap marked (none i h)
    by false e = none i h

-- what is put at a number that is used uses no other
pub fits_put : {X : Type 0} (number next : ℕ) (x : Option X) (f g : ℕ → Option X) → number < next → ((i : ℕ) → g i ≡ put_at number x f i)
    → ((i : ℕ) → next ≤ i → f i ≡ None) → (i : ℕ) → next ≤ i → g i ≡ None
fits_put number next x f g given puts none i h = puts i ∙ by (nat_eq number i) refl
  where
    by : (b : Bool) → nat_eq number i ≡ b → cond b x (f i) ≡ None
    by true e = absurd (let same = same_number number i e in omega (arith, same, given, h))
    by false e = none i h

-- what holds after either outcome of a call
pub either : {X E : Type 0} (A B : Type 0) (r : Result X E) → OnOk r A → OnErr r B → A ⊎ B
either A B (Ok x) a b = inl a
either A B (Err e) a b = inr b

-- an answer as it is lent is there where it is kept
pub lent_some : {V : Type 0} (empty : V) (k : Option (Option V × Bool)) → is_some (answer_of empty k) ≡ is_some k
lent_some empty None = refl
lent_some empty (Some k) = refl

pub looked : {V : Type 0} (empty : V) (k : Option (Option V × Bool)) → option_map (λ k. k.0) (answer_of empty k) ≡ option_map (λ v. unwrap_or v empty) (option_map (λ k. k.0) k)
looked empty None = refl
looked empty (Some k) = refl

-- a row without answers has none for a pattern
pub no_answers : {V : Type 0} (empty : V) (f : ℕ → Option (Option V × Bool)) → ((i : ℕ) → f i ≡ None) → (n : Option ℕ) → by_number (λ j. answer_of empty (f j)) n ≡ None
no_answers empty f none n = by_numbers (λ j. answer_of empty (f j)) (λ j. None) (λ j. ap (answer_of empty) (none j)) n ∙ none_pair empty n

module _ {P Q V : Type 0} (S : Q → Q → Ordering) where
  -- stores with the same numbers read a row alike
  pub answers_as : (a b : Store P Q V) → a.numbers ≡ b.numbers → a.empty ≡ b.empty → (row : Row V) (q : Q) → row_answer S a row q ≡ row_answer S b row q
  answers_as a b numbers empty row q =
      ap (λ (m : BTreeMap Q ℕ). by_number (λ i. answer_of a.empty (slot row i)) (get S m q)) numbers
      ∙ ap (λ (e : V). by_number (λ i. answer_of e (slot row i)) (get S b.numbers q)) empty

  -- what a row has for a pattern of a number
  pub row_at : (store : Store P Q V) (row : Row V) (q : Q) (number : ℕ) → get S store.numbers q ≡ Some number → row_answer S store row q ≡ answer_of store.empty (slot row number)
  row_at store row q number e = ap (by_number (λ i. answer_of store.empty (slot row i))) e

module _ {P Q V : Type 0} (R : P → P → Ordering) (S : Q → Q → Ordering) (total : IsTotalOrder R) where
  table_alike : (t : Option (Table P V)) (a c : P) (i : ℕ) → R a c ≡ Equal → table_slot R t a i ≡ table_slot R t c i
  table_alike None a c i e = refl
  table_alike (Some table) a c i e = ap (λ (r : Option (Row V)). met_by table.met (row_slot r i)) (same_found R total a c e table.rows.entries)

  -- equal pieces have what is kept in common
  pub kept_alike : (store : Store P Q V) (path : List ℕ) (a c : P) (q : Q) → R a c ≡ Equal → kept R S store path a q ≡ kept R S store path c q
  kept_alike store path a c q e =
      by_numbers (λ i. answer_of store.empty (at R store.shelf path a i)) (λ i. answer_of store.empty (at R store.shelf path c i)) (λ i. ap (answer_of store.empty) (table_alike _ a c i e)) (get S store.numbers q)

  -- a row that was taken out stands for what it was
  pub taken_back : (old new : Store P Q V) (path : List ℕ) (piece : P) (row : Row V)
      → ((q : Q) → row_answer S new row q ≡ kept R S old path piece q)
      → ((o : List ℕ) (p : P) (q : Q) → kept R S new o p q ≡ put_piece R path piece (λ s. None) (kept R S old) o p q)
      → (o : List ℕ) (p : P) (q : Q) → put_piece R path piece (row_answer S new row) (kept R S new) o p q ≡ kept R S old o p q
  taken_back old new path piece row taken left o p q =
      ap (λ (z : Option (V × Bool)). cond (bytes_eq path o && is_eq (R piece p)) (row_answer S new row q) z) (left o p q) ∙ by (bytes_eq path o) (is_eq (R piece p)) refl refl
    where
      by : (a b : Bool) → bytes_eq path o ≡ a → is_eq (R piece p) ≡ b → cond (a && b) (row_answer S new row q) (cond (a && b) None (kept R S old o p q)) ≡ kept R S old o p q
      by true true e f = taken q ∙ ap (λ (t : List ℕ). kept R S old t piece q) ((bytes_decides path o).0 e) ∙ kept_alike old o piece p q (is_equal (R piece p) f)
      by true false e f = refl
      by false b e f = refl
