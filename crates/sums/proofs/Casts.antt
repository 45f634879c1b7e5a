-- What the test of a cast says, token by token.
use Rattle.std.proofs.Common.{◌≡◌, ℕ, zero, suc, ◌-◌, ◌<◌, List, [], ◌∷◌, refl, ◌∙◌, cond}
use Rattle.std.specs.Prelude.{Bool, true, false, ◌||◌, eqb}
use Rattle.sums.specs.declared.token.Token.{Token}
use Rattle.sums.specs.declared.token.Word.TheVariants.{Name, Number, OpenRound, CloseRound, Times}
use Rattle.grammar.specs.Rule.{has}
use Rattle.grammar.specs.Tests.{say, go, verdict, test}
use Rattle.sums.specs.Token.{class, token_at}
use Rattle.sums.specs.Table.{automaton}
use Rattle.sums.specs.Build.{source}
use Rattle.sums.specs.Reading.{says_at}
use Rattle.grammar.proofs.Lookahead.{then, test_step}

pub bracket_step : (ts : List Token) (n i : ℕ) → zero < n → says_at ts n 0 i ≡ cond (eqb (class OpenRound) (class (token_at ts i).word)) (says_at ts (n - 1) 1 (suc i)) false
unfolding says_at
bracket_step ts n i h = test_step automaton n 0 (source ts).cls i h ∙ by (eqb (class OpenRound) (class (token_at ts i).word))
  where
    by : (b : Bool) → then automaton (n - 1) (source ts).cls i (cond (b || false) (go 1) (say false)) ≡ cond b (verdict automaton (n - 1) 1 (source ts).cls (suc i)) false
    by true = refl
    by false = refl

pub name_step : (ts : List Token) (n i : ℕ) → zero < n → says_at ts n 1 i ≡ cond (eqb (class Name) (class (token_at ts i).word)) (says_at ts (n - 1) 2 (suc i)) false
unfolding says_at
name_step ts n i h = test_step automaton n 1 (source ts).cls i h ∙ by (eqb (class Name) (class (token_at ts i).word))
  where
    by : (b : Bool) → then automaton (n - 1) (source ts).cls i (cond (b || false) (go 2) (say false)) ≡ cond b (verdict automaton (n - 1) 2 (source ts).cls (suc i)) false
    by true = refl
    by false = refl

pub behind_name_step : (ts : List Token) (n i : ℕ) → zero < n → says_at ts n 2 i ≡ cond (eqb (class Times) (class (token_at ts i).word)) (says_at ts (n - 1) 3 (suc i)) (cond (eqb (class CloseRound) (class (token_at ts i).word)) (says_at ts (n - 1) 4 (suc i)) false)
unfolding says_at
behind_name_step ts n i h = test_step automaton n 2 (source ts).cls i h ∙ by (eqb (class Times) (class (token_at ts i).word)) (eqb (class CloseRound) (class (token_at ts i).word))
  where
    by : (b d : Bool) → then automaton (n - 1) (source ts).cls i (cond (b || false) (go 3) (cond (d || false) (go 4) (say false))) ≡ cond b (verdict automaton (n - 1) 3 (source ts).cls (suc i)) (cond d (verdict automaton (n - 1) 4 (source ts).cls (suc i)) false)
    by true d = refl
    by false true = refl
    by false false = refl

pub star_step : (ts : List Token) (n i : ℕ) → zero < n → says_at ts n 3 i ≡ cond (eqb (class Times) (class (token_at ts i).word)) (says_at ts (n - 1) 3 (suc i)) (eqb (class CloseRound) (class (token_at ts i).word))
unfolding says_at
star_step ts n i h = test_step automaton n 3 (source ts).cls i h ∙ by (eqb (class Times) (class (token_at ts i).word)) (eqb (class CloseRound) (class (token_at ts i).word))
  where
    by : (b d : Bool) → then automaton (n - 1) (source ts).cls i (cond (b || false) (go 3) (cond (d || false) (say true) (say false))) ≡ cond b (verdict automaton (n - 1) 3 (source ts).cls (suc i)) d
    by true d = refl
    by false true = refl
    by false false = refl

pub operand_step : (ts : List Token) (n i : ℕ) → zero < n → says_at ts n 4 i ≡ has (class Name ∷ class Number ∷ []) (class (token_at ts i).word)
unfolding says_at
operand_step ts n i h = test_step automaton n 4 (source ts).cls i h ∙ by (has (class Name ∷ class Number ∷ []) (class (token_at ts i).word))
  where
    by : (b : Bool) → then automaton (n - 1) (source ts).cls i (cond b (say true) (say false)) ≡ b
    by true = refl
    by false = refl

-- what the row of a cast goes by
pub cast_test : (ts : List Token) (i : ℕ) → test automaton 0 (source ts).cls i ≡ says_at ts automaton.most 0 i
unfolding says_at
cast_test ts i = refl
