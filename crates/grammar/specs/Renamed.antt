-- Grammars under other names.
use Rattle.grammar.specs.Rule.{Rule, done, mark, word, ref, deep, again, seq, around, alt, look, choose, opt, must, rep, make}

-- the same rule under other names of builders and levels
abbrev pub renamed : {K B C L M : Type 0} → (B → C) → (L → M) → Rule K B L → Rule K C M
renamed v w done = done
renamed v w (mark cs) = mark cs
renamed v w (word k cs) = word k cs
renamed v w (ref l) = ref (w l)
renamed v w (deep l) = deep (w l)
renamed v w again = again
renamed v w (seq r s) = seq (renamed v w r) (renamed v w s)
renamed v w (around cs ds r) = around cs ds (renamed v w r)
renamed v w (alt r s) = alt (renamed v w r) (renamed v w s)
renamed v w (look k cs ds b r s) = look k cs ds (v b) (renamed v w r) (renamed v w s)
renamed v w (choose p r s) = choose p (renamed v w r) (renamed v w s)
renamed v w (opt r) = opt (renamed v w r)
renamed v w (must cs r) = must cs (renamed v w r)
renamed v w (rep l r) = rep (w l) (renamed v w r)
renamed v w (make b r) = make (v b) (renamed v w r)
