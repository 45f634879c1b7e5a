-- What is written of some entries.
use Rattle.std.specs.Prelude.{◌≡◌, ◌⊎◌, ℕ, ◌-◌, List, [], ◌∷◌, length, nat_le, if◌then◌else◌, Bool, true, false}
use Rattle.std.specs.Ordering.{is_eq, is_lt}
use Rattle.store_file.specs.declared.entry.Entry.{Entry}
use Rattle.store_file.specs.declared.offer.Offer.{Offer}
use Rattle.store_file.specs.StoreText.{entry_bytes, entry_cmp, IsEntry}

-- the entry that is offered
abbrev pub entry_of : Offer → Entry
entry_of o = record { piece = o.piece; pattern = o.pattern; leaf = o.leaf.now }

-- some entry has the digests of this one
abbrev pub is_there : Entry → List Entry → Bool
is_there e [] = false
is_there e (f ∷ fs) = if is_eq (entry_cmp e f) then true else is_there e fs

-- with the entry at its place in the order
abbrev pub insert_entry : Entry → List Entry → List Entry
insert_entry e [] = e ∷ []
insert_entry e (f ∷ fs) = if is_lt (entry_cmp e f) then e ∷ f ∷ fs else f ∷ insert_entry e fs

-- the same, where no entry has its digests yet
abbrev pub put_entry : Entry → List Entry → List Entry
put_entry e es = if is_there e es then es else insert_entry e es

-- the entry is put in, if it may be written
abbrev pub PutsOne : Entry → List Entry → List Entry → Type 0
PutsOne e old new = (IsEntry e × (new ≡ put_entry e old)) ⊎ ((IsEntry e → ⊥) × (new ≡ old))

-- each of these is put in that may be written, one after the other
abbrev pub PutsAll : List Entry → List Entry → List Entry → Type 0
PutsAll [] old new = new ≡ old
PutsAll (e ∷ es) old new = (mid : List Entry) × PutsOne e old mid × PutsAll es mid new

-- as many entries from the first on as fit into so many bytes
abbrev pub fitting : ℕ → List Entry → List Entry
fitting room [] = []
fitting room (e ∷ es) = if nat_le (length (entry_bytes e)) room then e ∷ fitting (room - length (entry_bytes e)) es else []
