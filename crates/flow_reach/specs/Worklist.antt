-- Numbers that were seen, and those of them that still wait.
use Rattle.std.specs.Prelude.{◌≡◌, ◌⊎◌, ◌↔◌, ◌≤◌, ◌<◌, ◌+◌, ◌*◌, ◌-◌, ◌/◌, ◌^◌, ℕ, zero, suc, length}
use Rattle.graph_form.specs.Sets.{Among}
use Rattle.flow_reach.specs.Bits.{bit_of, Has, InWord}
use Rattle.flow_reach.specs.declared.worklist.Worklist.{Worklist}

-- both sets have the same room, listed words are there, and each word with a waiting number is listed
pub record IsShaped (work : Worklist) : Type 0 where
  pub same : length work.todo.items ≡ length work.seen.items
  pub small : length work.seen.items < 2 ^ 32
  pub inside : (word : ℕ) → Among work.words.items word → word < length work.seen.items
  pub covers : (k : ℕ) → Has work.todo.items k → Among work.words.items (k / 64)

-- nothing is seen, and there is room
pub record IsNew (words : ℕ) (work : Worklist) : Type 0 where
  pub room : length work.seen.items ≡ words
  pub seen : (k : ℕ) → bit_of work.seen.items k ≡ 0
  pub todo : (k : ℕ) → bit_of work.todo.items k ≡ 0
  pub shaped : IsShaped work

-- the word is listed too
pub record Lists (word : ℕ) (old new : Worklist) : Type 0 where
  pub seen : new.seen ≡ old.seen
  pub todo : new.todo ≡ old.todo
  pub listed : Among new.words.items word
  pub shaped : IsShaped new

-- what is left to do for a number: one that isn't seen will be seen and taken
abbrev pub cost_of : Worklist → ℕ → ℕ
cost_of work k = 2 * (1 - bit_of work.seen.items k) + bit_of work.todo.items k

-- the sum over the numbers below n
abbrev pub total : (ℕ → ℕ) → ℕ → ℕ
total f zero = 0
total f (suc n) = f n + total f n

-- what is left to do
unfoldable pub weight_of : Worklist → ℕ
weight_of work = total (cost_of work) (64 * length work.seen.items)

-- these numbers are seen too, and those that weren't seen wait
pub record Grows (Set : ℕ → Type 0) (old new : Worklist) : Type 0 where
  pub seen : (k : ℕ) → Has new.seen.items k ↔ (Has old.seen.items k ⊎ Set k)
  pub kept : (k : ℕ) → Has old.todo.items k → Has new.todo.items k
  pub fresh : (k : ℕ) → Has new.seen.items k → Has old.seen.items k ⊎ Has new.todo.items k
  pub only : (k : ℕ) → Has new.todo.items k → Has old.todo.items k ⊎ Set k
  pub cost : (k : ℕ) → cost_of new k ≤ cost_of old k
  pub room : length new.seen.items ≡ length old.seen.items
  pub shaped : IsShaped new

-- the numbers of the word that waited are these, and wait no longer
pub record Takes (word bits : ℕ) (old new : Worklist) : Type 0 where
  pub fits : bits < 2 ^ 64
  pub some : (k : ℕ) × InWord word bits k
  pub waited : (k : ℕ) → InWord word bits k ↔ (Has old.todo.items k × (k / 64 ≡ word))
  pub inside : word < length old.seen.items
  pub seen : new.seen.items ≡ old.seen.items
  pub todo : (k : ℕ) → Has new.todo.items k ↔ (Has old.todo.items k × (k / 64 ≡ word → ⊥))
  pub less : weight_of new < weight_of old
  pub shaped : IsShaped new

-- nothing waits
pub record IsIdle (old new : Worklist) : Type 0 where
  pub seen : new.seen.items ≡ old.seen.items
  pub none : (k : ℕ) → Has old.todo.items k → ⊥
