-- What holds of all nodes that are left, and of one that is taken, holds of all.
use Rattle.std.proofs.Common.{◌≡◌, ◌↔◌, suc, List, ◌∷◌, subst, sym, arith}
use Rattle.std.specs.Prelude.{All}
use Rattle.std.proofs.lemmas.List.Elements.{All-cons}

rest : {X : Type 0} (P : X → Type 0) (x : X) (xs : List X) → All P (x ∷ xs) → All P xs
rest P x xs h k d lt = h (suc k) d (omega arith)

pub taken : {X : Type 0} (P : X → Type 0) (whole left next : List X) (x : X) → left ≡ x ∷ next → P x → (All P whole ↔ All P left) → All P whole ↔ All P next
taken {X} P whole left next x is here all =
    let Q : List X → Type 0 = λ l. All P l in
    (λ h. rest P x next (subst Q is (all.0 h)), λ h. all.1 (subst Q (sym is) (All-cons P x next here h)))
