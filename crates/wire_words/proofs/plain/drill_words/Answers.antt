use Rattle.std.proofs.Common.{◌≡◌, ◌≤◌, ◌∷◌, [], List, ℕ, codes, sym, ap, ◌∙◌, map, string_bytes, arith}
use Rattle.std.specs.Fmt.{decimal}
use Rattle.wire_words.proofs.Parts.{two, same_text, un_not}
use Rattle.wire_words.proofs.Agree.{decimal_same}
use Rattle.wire_words.proofs.plain.drill_words.Goals as goal

-- a number that is written as 0 is 0
none : (words : List (List ℕ)) (n m : ℕ) (first word : List ℕ) → words ≡ first ∷ word ∷ [] → words ≡ codes "drill" ∷ decimal n ∷ [] → word ≡ decimal m → m ≡ 0 → 1 ≤ n → n ≤ 10000 → ⊥
none words n m first word e f g zero some most =
    let h : decimal n ≡ word = second words first word (codes "drill") (decimal n) e f in
    let same = decimal_same n m (omega arith) (omega arith) (h ∙ g) in
    omega arith
  where
    second : (words : List (List ℕ)) (a b x y : List ℕ) → words ≡ a ∷ b ∷ [] → words ≡ x ∷ y ∷ [] → y ≡ b
    second words a b x y e f = cc

pub returns-then-count-eq0-clause-other : goal.returns-then-count-eq0-clause-other
returns-then-count-eq0-clause-other c = λ n asked.
    let ws = two c.args.words.now c.command-item.result c.word-item.result c.in-len2.len_at_least c.in-len2.len_below c.command-item.is c.word-item.is in
    none (map string_bytes c.args.words.now) n c.in_ok-count.count (string_bytes c.command-item.result) (string_bytes c.word-item.result) (ap (map string_bytes) ws) asked.are (sym c.as_str-2.ensures.value ∙ c.in_ok-count.ensures.some.1) c.if-count-eq0.true asked.some asked.most

pub returns-clause-asked : goal.returns-clause-asked
returns-clause-asked c =
    let ws = two c.args.words.now c.command-item.result c.word-item.result c.in-len2.len_at_least c.in-len2.len_below c.command-item.is c.word-item.is in
    let a : string_bytes c.command-item.result ≡ codes "drill" = sym c.as_str.ensures.value ∙ same_text _ _ (un_not _ (sym c.ne.ensures ∙ c.if-ne.false)) in
    record {
      some = omega arith;
      most = c.in_ok-count.ensures.some.0;
      are =
          ap (map string_bytes) ws ∙ ap (λ (t : List ℕ). t ∷ string_bytes c.word-item.result ∷ []) a
          ∙ ap (λ (t : List ℕ). codes "drill" ∷ t ∷ []) (sym c.as_str-2.ensures.value ∙ c.in_ok-count.ensures.some.1);
    }
