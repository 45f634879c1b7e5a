-- What is kept: a finite map from pairs to answers, and which of the pairs were met in this turn.
use Rattle.std.specs.Prelude.{◌≡◌, ◌<◌, ◌≤◌, ℕ, Option, None, Some, Bool, ◌&&◌, cond, List, unwrap_or}
use Rattle.std.specs.declared.cmp.Ordering.{Ordering}
use Rattle.std.specs.declared.cmp.Ordering.TheVariants.{Equal}
use Rattle.std.specs.Ordering.{is_eq}
use Rattle.std.specs.BTreeMap.{get}
use Rattle.std.specs.Str.{bytes_eq}
use Rattle.piece_store.specs.declared.row.Row.{Row}
use Rattle.piece_store.specs.declared.store.Store.{Store}
use Rattle.piece_store.specs.Slots.{slot}
use Rattle.piece_store.specs.Views.{at}

-- an answer as it is lent, where none within stands for the empty one
abbrev pub answer_of : {V : Type 0} → V → Option (Option V × Bool) → Option (V × Bool)
answer_of empty None = None
answer_of empty (Some k) = Some (unwrap_or k.0 empty, k.1)

-- what is found by the number of a pattern, where it has one
abbrev pub by_number : {X : Type 0} → (ℕ → Option X) → Option ℕ → Option X
by_number f None = None
by_number f (Some i) = f i

-- what the store has for a path, a piece and a pattern: the answer, and whether the pair was met in this turn. R compares
-- pieces, and S patterns
abbrev pub kept : {P Q V : Type 0} → (P → P → Ordering) → (Q → Q → Ordering) → Store P Q V → List ℕ → P → Q → Option (V × Bool)
kept R S store path p q = by_number (λ i. answer_of store.empty (at R store.shelf path p i)) (get S store.numbers q)

-- the same map but at one pair
abbrev pub put_pair : {P Q X : Type 0} → (P → P → Ordering) → (Q → Q → Ordering) → List ℕ → P → Q → X → (List ℕ → P → Q → X) → List ℕ → P → Q → X
put_pair R S path p q x f o r s = cond (bytes_eq path o && (is_eq (R p r) && is_eq (S q s))) x (f o r s)

-- the same map but at one piece of a path
abbrev pub put_piece : {P Q X : Type 0} → (P → P → Ordering) → List ℕ → P → (Q → X) → (List ℕ → P → Q → X) → List ℕ → P → Q → X
put_piece R path p g f o r s = cond (bytes_eq path o && is_eq (R p r)) (g s) (f o r s)

-- what a row that was taken out of the store has for a pattern
abbrev pub row_answer : {P Q V : Type 0} → (Q → Q → Ordering) → Store P Q V → Row V → Q → Option (V × Bool)
row_answer S store row q = by_number (λ i. answer_of store.empty (slot row i)) (get S store.numbers q)

-- the row uses no number that the store hasn't given yet
abbrev pub IsRowOf : {P Q V : Type 0} → Store P Q V → Row V → Type 0
IsRowOf store row = (i : ℕ) → store.next ≤ i → slot row i ≡ None

-- each pattern has a number of its own, no number that isn't given yet is used, and the empty answer is that
pub record IsSound {P Q V : Type 0} (R : P → P → Ordering) (S : Q → Q → Ordering) (nothing : V) (store : Store P Q V) : Type 0 where
  pub given : (q : Q) (i : ℕ) → get S store.numbers q ≡ Some i → i < store.next
  pub apart : (q r : Q) (i : ℕ) → get S store.numbers q ≡ Some i → get S store.numbers r ≡ Some i → S q r ≡ Equal
  pub unused : (path : List ℕ) (p : P) (i : ℕ) → store.next ≤ i → at R store.shelf path p i ≡ None
  pub empty : store.empty ≡ nothing
