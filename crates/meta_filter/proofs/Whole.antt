-- What is read of all the tokens is the part that they spell, and the part that they spell is what is read.
use Rattle.std.proofs.Common.{◌≡◌, ℕ, zero, suc, ◌≤◌, List, [], ◌∷◌, length, refl, arith, sym, subst, ap, ◌∙◌, Some, Err}
use Rattle.std.specs.Prelude.{None, Bool, true, false, cond, ltb}
use Rattle.rule_form.specs.declared.comparison.Comparison.{Comparison}
use Rattle.std.proofs.lemmas.List.{get_or_past}
use Rattle.grammar.specs.Rule.{has, open_at, brackets_round}
use Rattle.grammar.proofs.Facts.{none_some, some_pair}
use Rattle.grammar.proofs.Theorem.{read_piece, piece_read}
use Rattle.meta_filter.specs.declared.fault.CompareFault.{CompareFault}
use Rattle.meta_filter.specs.declared.fault.CompareFault.TheVariants as faults
use Rattle.meta_filter.specs.declared.token.Token.{Token}
use Rattle.meta_filter.specs.declared.part.Part.{Part}
use Rattle.meta_filter.specs.declared.part.Meaning.TheVariants.{Truth}
use Rattle.meta_filter.specs.Lexing.{IsTokensOf}
use Rattle.meta_filter.specs.Table.{Either, grammar}
use Rattle.meta_filter.specs.Words.{class}
use Rattle.meta_filter.specs.Build.{part, end_token, source, depth_all}
use Rattle.meta_filter.specs.Sets.{sets, ranks}
use Rattle.meta_filter.specs.Reading.{Gives, level, one}
use Rattle.meta_filter.specs.Comparisons.{IsPartOf, IsComparisonOf, IsFault, GivesComparison}
use Rattle.meta_filter.proofs.Passes.{pass}
use Rattle.meta_filter.proofs.Depths.{deepens}

-- no token is a bracket
none_open : (f : ℕ → ℕ) (n : ℕ) → open_at [] [] f 0 n ≡ 0
unfolding open_at
none_open f zero = refl
none_open f (suc n) = by_place (ltb n 0) (none_open f n)
  where
    by_place : (b : Bool) → open_at [] [] f 0 n ≡ 0 → cond b 0 (open_at [] [] f 0 n) ≡ 0
    by_place true e = refl
    by_place false e = e

none_round : (f : ℕ → ℕ) (n : ℕ) → brackets_round [] [] f 0 n ≤ 0
none_round f n = rw (none_open f n, none_open f (suc n)) (omega arith)

all_is_part : (ts : List Token) (p : Part) → level ts 102 Either 0 ≡ Some (part p ∷ [], length ts) → p.depth ≤ 100 → IsPartOf ts p
unfolding level
all_is_part ts p h shallow = read_piece grammar sets ranks pass depth_all (source ts) (deepens ts) (suc (length ts)) 102 Either (part p ∷ []) 0 (length ts) h (omega (arith, shallow)) (λ k a b. none_round (source ts).cls k)

-- what is read of all the tokens, within the limit of depth, is the part that they spell
pub read_is_part : (ts : List Token) (p : Part) (j : ℕ) → level ts 102 Either 0 ≡ Some (part p ∷ [], j) → j ≡ length ts → p.depth ≤ 100 → IsPartOf ts p
read_is_part ts p j h all shallow = all_is_part ts p (subst (λ (k : ℕ). level ts 102 Either 0 ≡ Some (part p ∷ [], k)) all h) shallow

-- no operator stands behind the last token
stops : (ts : List Token) → has (sets.more Either) ((source ts).cls (length ts)) ≡ false
unfolding class
stops ts = rw (get_or_past ts (length ts) end_token (omega arith)) refl

-- the part that the tokens spell is read
part_is_read : (ts : List Token) (p : Part) → IsPartOf ts p → level ts 102 Either 0 ≡ Some (part p ∷ [], length ts)
unfolding level
part_is_read ts p is = piece_read grammar sets ranks pass depth_all (source ts) (deepens ts) (suc (length ts)) Either (part p ∷ []) 0 (length ts) is (stops ts) (omega arith)

-- two answers of the reader are one
pub one_part : (ts : List Token) (p q : Part) (j : ℕ) → IsPartOf ts p → level ts 102 Either 0 ≡ Some (part q ∷ [], j) → (p ≡ q) × (length ts ≡ j)
one_part ts p q j is h = let e : _ = some_pair (part p ∷ []) (part q ∷ []) (length ts) j (sym (part_is_read ts p is) ∙ h) in (head_of e.0, e.1)
  where
    head_of : part p ∷ [] ≡ part q ∷ [] → p ≡ q
    head_of e = cc

pub part_is_shallow : (ts : List Token) (p : Part) → IsPartOf ts p → p.depth ≤ 100
part_is_shallow ts p is = omega (arith, is.shallow)

-- a fault that comes although a part is spelled is want of memory
pub fails_still : (ts : List Token) (p : Part) (e : CompareFault) → IsPartOf ts p → Gives one (Err e) (level ts 102 Either 0) → Gives (λ (q : Part). q) (Err e) (Some p)
fails_still ts p faults.Memory is f = tt
fails_still ts p faults.NoComparison is f = absurd (none_some (part p ∷ [], length ts) (sym f ∙ part_is_read ts p is))

-- ---- from the text

module _ (text : List ℕ) where
  -- a fault that leaves no comparison is the one that is given
  pub refused : (e : CompareFault) → ((c : Comparison) → IsComparisonOf text c → GivesComparison c (Err e)) → IsFault text e
  refused faults.Memory only = tt
  refused faults.NoComparison only = λ c is. only c is

  -- a text whose tokens are not read is refused
  pub no_tokens : (e : CompareFault) → ((ts : List Token) → IsTokensOf text ts → Gives (λ (l : List Token). l) (Err e) (Some ts)) → (c : Comparison) → IsComparisonOf text c → GivesComparison c (Err e)
  no_tokens faults.Memory only c is = tt
  no_tokens faults.NoComparison only c is = let h : Some is.tokens ≡ None = only is.tokens is.lexes in absurd cc

  module _ (ts us : List Token) (only : (xs : List Token) → IsTokensOf text xs → Some xs ≡ Some ts) (same : us ≡ ts) where
    -- the tokens of the comparison are those that were read
    here : (c : Comparison) → (is : IsComparisonOf text c) → IsPartOf us (record { depth = is.depth; meaning = Truth c })
    here c is = subst (λ (x : List Token). IsPartOf x (record { depth = is.depth; meaning = Truth c })) (same_list is.tokens (only is.tokens is.lexes) ∙ sym same) is.spells
      where
        same_list : (xs : List Token) → Some xs ≡ Some ts → xs ≡ ts
        same_list xs h = cc

    pub no_part : (e : CompareFault) → ((p : Part) → IsPartOf us p → Gives (λ (q : Part). q) (Err e) (Some p)) → (c : Comparison) → IsComparisonOf text c → GivesComparison c (Err e)
    no_part faults.Memory none c is = tt
    no_part faults.NoComparison none c is = none_some _ (sym (none (record { depth = is.depth; meaning = Truth c }) (here c is)))

    module _ (p : Part) (one : (q : Part) → IsPartOf us q → Some q ≡ Some p) where
      -- the comparison is what the part that was read stands for
      pub meant : (c : Comparison) → IsComparisonOf text c → Truth c ≡ p.meaning
      meant c is = let h : Some (record { depth = is.depth; meaning = Truth c }) ≡ Some p = one (record { depth = is.depth; meaning = Truth c }) (here c is) in ap (λ (q : Part). q.meaning) (unwrapped h)
        where
          unwrapped : {q : Part} → Some q ≡ Some p → q ≡ p
          unwrapped e = cc
