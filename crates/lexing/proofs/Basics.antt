-- Facts on tests and lists that several proofs use.
use Rattle.std.proofs.Common.{◌≡◌, ℕ, Bool, true, false, ◌&&◌, ◌||◌, ◌⊎◌, inl, inr, List, [], ◌∷◌, ◌++◌, refl, sym}

pub or_cases : (a b : Bool) → (a || b) ≡ true → (a ≡ true) ⊎ (b ≡ true)
or_cases true b h = inl refl
or_cases false b h = inr h

pub or_left : (a b : Bool) → a ≡ true → (a || b) ≡ true
or_left true b h = refl
or_left false b h = absurd cc

pub or_right : (a b : Bool) → b ≡ true → (a || b) ≡ true
or_right true b h = refl
or_right false b h = h

pub and_both : (a b : Bool) → a ≡ true → b ≡ true → (a && b) ≡ true
and_both true b h k = k
and_both false b h k = absurd cc

pub no_front : (u v : List ℕ) → [] ≡ u ++ v → u ≡ []
no_front [] v h = refl
no_front (x ∷ u) v h = absurd cc

pub no_back : (u v : List ℕ) → [] ≡ u ++ v → v ≡ []
no_back [] v h = sym h
no_back (x ∷ u) v h = absurd cc

pub head_is : (c d : ℕ) (cs ds : List ℕ) → c ∷ cs ≡ d ∷ ds → c ≡ d
head_is c d cs ds e = cc

pub tail_is : (c d : ℕ) (cs ds : List ℕ) → c ∷ cs ≡ d ∷ ds → cs ≡ ds
tail_is c d cs ds e = cc

pub cons_is : (c d : ℕ) (cs ds : List ℕ) → c ≡ d → cs ≡ ds → c ∷ cs ≡ d ∷ ds
cons_is c d cs ds h k = cc
