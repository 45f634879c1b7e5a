-- How far a pattern has come when it meets a sign that stands for any run.
use Rattle.std.specs.Prelude.{◌<◌, ◌≤◌, List, length}
use Rattle.path_glob.specs.Fitting.{Fits, FitsLater}
use Rattle.path_glob.specs.declared.front.Front.{Front}
use Rattle.path_glob.specs.declared.front.Front.TheVariants.{Whole, Run, Miss}

-- the signs before one that stands for any run fit, and what follows it is to fit what is left from some place on
pub record Meets {P X : Type 0} (Stands : P → List X → Type 0) (Ends : List X → Type 0) (signs : List P) (items : List X) (more : List P) (left : List X) : Type 0 where
  pub forth : FitsLater Stands Ends signs items → FitsLater Stands Ends more left
  pub back : FitsLater Stands Ends more left → Fits Stands Ends signs items
  pub fewer : length more < length signs
  pub no_more : length left ≤ length items

abbrev pub IsFront : {G S P X : Type 0} → (G → List P) → (S → List X) → (P → List X → Type 0) → (List X → Type 0) → List P → List X → Front G S → Type 0
IsFront signs_of items_of Stands Ends signs items Whole = Fits Stands Ends signs items
IsFront signs_of items_of Stands Ends signs items (Run more left) = Meets Stands Ends signs items (signs_of more) (items_of left)
IsFront signs_of items_of Stands Ends signs items Miss = Fits Stands Ends signs items → ⊥
