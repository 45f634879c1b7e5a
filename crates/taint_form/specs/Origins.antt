-- From which facts before a point the facts after some of its nodes come.
use Rattle.std.specs.Prelude.{◌≡◌, ◌⊎◌, ℕ, IsTrue, List, Option, Some, None}
use Rattle.std.specs.Ordering.{nat_cmp}
use Rattle.std.specs.Global.{Vec}
use Rattle.std.specs.BTreeMap.{get}
use Rattle.graph_form.specs.Sets.{Among}
use Rattle.taint_form.specs.declared.origins.Aim.{Aim}
use Rattle.taint_form.specs.declared.origins.Origins.{Origins}

-- a fact that isn't touched comes from itself
abbrev pub ComesBy : Option (Vec ℕ) → ℕ → ℕ → Type 0
ComesBy None from to = to ≡ from
ComesBy (Some origins) from to = Among origins.items from

-- the one fact after the nodes comes from the other before the point
abbrev pub Comes : Origins → ℕ → ℕ → Type 0
Comes o from to = ComesBy (get nat_cmp o.from to) from to

-- a value comes from a fact, where it is tainted by some facts after earlier nodes
abbrev pub ComesAny : (ℕ → ℕ → Type 0) → List ℕ → ℕ → Type 0
ComesAny Before facts from = (fact : ℕ) × Among facts fact × Before from fact

abbrev pub IsAim : List Aim → ℕ → Type 0
IsAim aims to = (aim : Aim) × Among aims aim × (aim.fact ≡ to)

abbrev pub IsRenewed : List Aim → ℕ → Type 0
IsRenewed aims to = (aim : Aim) × Among aims aim × (aim.fact ≡ to) × IsTrue aim.renewed

-- after one node more: a target comes from what its value comes from, and what isn't renewed from what it came from before
abbrev pub AfterOne : (ℕ → Type 0) → (ℕ → ℕ → Type 0) → List Aim → ℕ → ℕ → Type 0
AfterOne Value Before aims from to = (IsAim aims to × Value from) ⊎ (Before from to × (IsRenewed aims to → ⊥))

-- each touched fact is listed
pub record IsListed (o : Origins) : Type 0 where
  pub listed : (fact : ℕ) (origins : Vec ℕ) → get nat_cmp o.from fact ≡ Some origins → Among o.touched.items fact
  pub there : (fact : ℕ) → Among o.touched.items fact → (origins : Vec ℕ) × (get nat_cmp o.from fact ≡ Some origins)

-- the pair is of that fact, which is touched, and one from which it comes
abbrev pub AddsBy : Origins → ℕ → ℕ → ℕ → Type 0
AddsBy o fact from to = (fact ≡ to) × (origins : Vec ℕ) × (get nat_cmp o.from fact ≡ Some origins) × Among origins.items from

-- what a target comes from: the value, and what it came from before, unless it is renewed
abbrev pub JoinsTo : List ℕ → (ℕ → ℕ → Type 0) → Aim → ℕ → Type 0
JoinsTo value Before aim from = Among value from ⊎ (Before from aim.fact × (IsTrue aim.renewed → ⊥))
