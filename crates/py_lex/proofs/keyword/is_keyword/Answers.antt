use Rattle.std.proofs.Common.{◌≡◌, ℕ, Bool, false, List, [], length, refl, sym, ap, ◌∙◌, arith}
use Rattle.lexing.specs.WordList.{is_among}
use Rattle.py_lex.specs.Keywords.{is_keyword, keywords}
use Rattle.py_lex.proofs.WordLengths.{of_len, among_of_len, none_of_len}
use Rattle.py_lex.proofs.keyword.is_keyword.Goals as goal

-- the words of the text's length are enough
by_len : (bytes text : List ℕ) (n : ℕ) (words : List (List ℕ)) (r : Bool) → bytes ≡ text → length bytes ≡ n → of_len n keywords ≡ words → r ≡ is_among words bytes → r ≡ is_keyword text
unfolding is_keyword
by_len bytes text n words r b e is h = h ∙ ap (λ (ws : List (List ℕ)). is_among ws bytes) (sym is ∙ ap (λ (k : ℕ). of_len k keywords) (sym e)) ∙ sym (among_of_len keywords bytes) ∙ ap (is_among keywords) b

pub returns-then-len-eq2 : goal.returns-then-len-eq2
returns-then-len-eq2 c = by_len _ _ 2 _ _ c.as_bytes-bytes.ensures.value c.if-len-eq2.true refl c.is_among.ensures

pub returns-then-len-eq3 : goal.returns-then-len-eq3
returns-then-len-eq3 c = by_len _ _ 3 _ _ c.as_bytes-bytes.ensures.value c.if-len-eq3.true refl c.is_among-then-len-eq3.ensures

pub returns-then-len-eq4 : goal.returns-then-len-eq4
returns-then-len-eq4 c = by_len _ _ 4 _ _ c.as_bytes-bytes.ensures.value c.if-len-eq4.true refl c.is_among-then-len-eq4.ensures

pub returns-then-len-eq5 : goal.returns-then-len-eq5
returns-then-len-eq5 c = by_len _ _ 5 _ _ c.as_bytes-bytes.ensures.value c.if-len-eq5.true refl c.is_among-then-len-eq5.ensures

pub returns-then-len-eq6 : goal.returns-then-len-eq6
returns-then-len-eq6 c = by_len _ _ 6 _ _ c.as_bytes-bytes.ensures.value c.if-len-eq6.true refl c.is_among-then-len-eq6.ensures

pub returns-then-len-eq7 : goal.returns-then-len-eq7
returns-then-len-eq7 c = by_len _ _ 7 _ _ c.as_bytes-bytes.ensures.value c.if-len-eq7.true refl c.is_among-then-len-eq7.ensures

pub returns-then-len-eq8 : goal.returns-then-len-eq8
returns-then-len-eq8 c = by_len _ _ 8 _ _ c.as_bytes-bytes.ensures.value c.if-len-eq8.true refl c.is_among-then-len-eq8.ensures

pub returns-else-len-eq8 : goal.returns-else-len-eq8
returns-else-len-eq8 c =
    let bytes = c.as_bytes-bytes.result.now in
    by_len bytes _ (length bytes) [] false c.as_bytes-bytes.ensures.value refl (none_of_len keywords (length bytes) refl (λ low high. grind (arith, low, high, c.if-len-eq2.false, c.if-len-eq3.false, c.if-len-eq4.false, c.if-len-eq5.false, c.if-len-eq6.false, c.if-len-eq7.false, c.if-len-eq8.false))) refl
