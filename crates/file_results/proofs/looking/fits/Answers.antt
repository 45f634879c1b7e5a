use Rattle.std.proofs.Common.{◌≡◌, refl}
use Rattle.std.specs.Prelude.{Bool, true, false, IsTrue, Contains}
use Rattle.file_results.proofs.looking.fits.Goals as goal

-- a test that can't be false is true
not_false : (b : Bool) → (b ≡ false → ⊥) → IsTrue b
not_false true f = refl
not_false false f = absurd (f refl)

pub returns : goal.returns
returns c = (
  λ e. record { somewhere = λ no. (c.matches.ensures.somewhere no).0 e; from_the_root = λ slash. (c.matches.ensures.from_the_root slash).0 e },
  λ m. not_false c.matches.result (λ e.
      let no : Contains c.args.glob.now 47 → ⊥ = λ slash. let t = (c.matches.ensures.from_the_root slash).1 (m.from_the_root slash) in absurd cc in
      let t = (c.matches.ensures.somewhere no).1 (m.somewhere no) in
      absurd cc),
)
