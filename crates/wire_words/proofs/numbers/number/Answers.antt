use Rattle.std.proofs.Common.{◌≡◌, ℕ, Bool, true, false, List, sym, ◌∙◌, subst, arith}
use Rattle.wire_words.proofs.Figures.{IsPadding, not_padded, refused, same_number, written}
use Rattle.wire_words.proofs.Parts.{if_none}
use Rattle.wire_words.proofs.numbers.number.Goals as goal

pub returns-then-is_padded-clause-none : goal.returns-then-is_padded-clause-none
returns-then-is_padded-clause-none c = λ n small e. not_padded n c.as_bytes.result.now (omega arith) (c.as_bytes.ensures.value ∙ e) (c.is_padded.ensures.0 c.if-is_padded.true)

pub returns-in_err-n-clause-none : goal.returns-in_err-n-clause-none
returns-in_err-n-clause-none c = if_none c.from_residual.result _ (λ n small e. refused c.parse.result c.args.word.now c.parse.ensures.value.0 c.in_err-n.ensures.value n (omega arith) e)

pub returns-then-n-most-clause-none : goal.returns-then-n-most-clause-none
returns-then-n-most-clause-none c = λ n small e.
    let s = same_number c.parse.result c.args.word.now c.in_ok-n.n c.parse.ensures.value.0 c.in_ok-n.ensures.value n (omega arith) e in omega arith

bare : (b : Bool) (ws word : List ℕ) → b ≡ false → (IsPadding ws → b ≡ true) → ws ≡ word → IsPadding word → ⊥
bare b ws word f back e p = let h : b ≡ true = back (subst IsPadding (sym e) p) in absurd cc

pub returns-clause-some : goal.returns-clause-some
returns-clause-some c = (
  omega arith,
  written c.parse.result c.args.word.now c.in_ok-n.n c.parse.ensures.value.0 c.in_ok-n.ensures.value
      (bare c.is_padded.result c.as_bytes.result.now c.args.word.now c.if-is_padded.false c.is_padded.ensures.1 c.as_bytes.ensures.value),
)
