-- Where nodes end, and what is absent at the end of a statement.
use Rattle.std.proofs.Common.{◌≡◌, ℕ, zero, suc, ◌-◌, ◌<◌, List, [], ◌∷◌, ◌++◌, refl, ap, arith}
use Rattle.std.specs.Prelude.{true, false}
use Rattle.std.proofs.lemmas.List.{append-nil}
use Rattle.node_tree.specs.declared.node.Node.{Node}
use Rattle.py_expr.specs.declared.item.Item.{Item}
use Rattle.py_expr.specs.Build.{token_at, end_of, absent}
use Rattle.py_suite.specs.Build.{is_layout, code_end, absents}

pub code_end_start : (ts : List Item) (n : ℕ) → n ≡ zero → code_end ts n ≡ 0
unfolding code_end
code_end_start ts n h = rw h refl

-- a token of layout is passed over, and another is where it ends
pub code_end_back : (ts : List Item) (n m : ℕ) → zero < n → m ≡ n - 1 → is_layout (token_at ts m).word ≡ true → code_end ts n ≡ code_end ts m
unfolding code_end
code_end_back ts zero m h less l = absurd (omega arith)
code_end_back ts (suc n) m h less l = let same : m ≡ n = omega arith in rw same (rw (rw same at l) refl)

pub code_end_here : (ts : List Item) (n : ℕ) → zero < n → is_layout (token_at ts (n - 1)).word ≡ false → code_end ts n ≡ end_of ts n
unfolding code_end
code_end_here ts zero h l = absurd (omega arith)
code_end_here ts (suc n) h l = let less : suc n - 1 ≡ n = omega arith in rw (rw less at l) (rw (end_of, less) refl)

-- one less is absent
pub absents_more : (kids : List Node) (from n m : ℕ) → n ≡ suc m → kids ++ absents from n ≡ (kids ++ absent from ∷ []) ++ absents from m
absents_more kids from n m h = rw h (one_more kids)
  where
    one_more : (ks : List Node) → ks ++ (absent from ∷ absents from m) ≡ (ks ++ absent from ∷ []) ++ absents from m
    one_more [] = refl
    one_more (k ∷ ks) = ap (λ (ns : List Node). k ∷ ns) (one_more ks)

pub absents_none : (kids : List Node) (from n : ℕ) → n ≡ zero → kids ++ absents from n ≡ kids
absents_none kids from n h = rw h (append-nil kids)

pub ruleset padded_laws = (absents_more, absents_none)
