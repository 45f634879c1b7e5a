-- What is read item by item, one item more.
use Rattle.std.proofs.Common.{◌≡◌, ℕ, List, ◌++◌, sym, ap, ◌∙◌, subst, Ok, Err}
use Rattle.std.specs.Prelude.{Result}
use Rattle.rule_keys.specs.declared.stop.Misfit.{Misfit}
use Rattle.rule_keys.specs.declared.stop.Stop.{Stop}
use Rattle.rule_keys.specs.declared.stop.Stop.TheVariants.{Memory, Bad}
use Rattle.rule_keys.specs.Misfits.{Fits, IsUnder, under}
use Rattle.rule_keys.specs.Values.{and_then}

-- some items before those that are read
abbrev pub prefixed : {X : Type 0} → List X → Result (List X) Misfit → Result (List X) Misfit
prefixed xs (Ok ys) = Ok (xs ++ ys)
prefixed xs (Err m) = Err m

-- what is told of a value, told further up
pub fits_under : {X : Type 0} (part : List ℕ) (w : Result X Misfit) (read r : Result X Stop) → Fits (λ (x : X). x) w read → IsUnder part read r → Fits (λ (x : X). x) (under part w) r
fits_under {X} part w (Ok x) r e is =
    let P : Result X Stop → Type 0 = λ z. Fits (λ (y : X). y) (under part w) z in
    subst P (sym is) (ap (under part) e)
fits_under part w (Err stop) (Ok y) e is = absurd is
fits_under {X} part w (Err Memory) (Err stop) e is = subst (λ (z : Stop). Fits (λ (y : X). y) (under part w) (Err z)) (sym is) tt
fits_under part w (Err (Bad m)) (Err Memory) e is = tt
fits_under part w (Err (Bad m)) (Err (Bad n)) e is = ap (under part) e ∙ ap Err (sym is)

-- what is told after what was told before
pub fits_then : {X Y : Type 0} (w : Result X Misfit) (f : X → Result Y Misfit) (x : X) (r : Result Y Stop) → w ≡ Ok x → Fits (λ (y : Y). y) (f x) r → Fits (λ (y : Y). y) (and_then w f) r
fits_then {X} {Y} w f x r e h = subst (λ (z : Result X Misfit). Fits (λ (y : Y). y) (and_then z f) r) (sym e) h
