-- Lists of tokens and of parts that lie in a text, one behind the other.
use Rattle.std.proofs.Common.{◌≡◌, ℕ, zero, suc, ◌+◌, ◌≤◌, List, [], ◌∷◌, ◌++◌, length, sym, ap, ◌∙◌, subst, arith}
use Rattle.std.specs.Str.{IsCharBoundary}
use Rattle.std.proofs.lemmas.List.{append-nil}
use Rattle.node_tree.specs.Span.{LiesIn}
use Rattle.py_lex.specs.declared.token.PyToken.{PyToken, out-PyToken, roll-PyToken, out-roll-PyToken}
use Rattle.py_lex.specs.declared.token.FPart.{FPart, out-FPart, out-roll-FPart}
use Rattle.py_lex.specs.declared.token.FPart.TheVariants.{rolls-Plain, rolls-Field}
use Rattle.py_lex.specs.declared.token.FPart.TheVariants as parts
use Rattle.py_lex.specs.declared.token.FPart.TheOpen as layers
use Rattle.py_lex.specs.declared.token.FPart.TheOpen.{FPart-F, PyToken-F}
use Rattle.py_lex.specs.declared.token.PyWord.{PyWord}
use Rattle.py_lex.specs.Layout.{sign, written}
use Rattle.py_lex.specs.Inside.{span}
use Rattle.py_lex.specs.Places.{Lies, TokensLie, PartsLie, InsideLies}

-- ---- lists of tokens

module _ (I : Lies FPart) (text : List ℕ) where
  tokens_le : (from : ℕ) (ts : List PyToken) (to : ℕ) → TokensLie I text from ts to → from ≤ to
  tokens_le from [] to h = h
  tokens_le from (t ∷ ts) to h = omega (arith, h.0, h.1.ordered, tokens_le (out-PyToken t).span.to ts to h.3)

  tokens_earlier : (before from : ℕ) (ts : List PyToken) (to : ℕ) → before ≤ from → TokensLie I text from ts to → TokensLie I text before ts to
  tokens_earlier before from [] to le h = omega (arith, le, h)
  tokens_earlier before from (t ∷ ts) to le h = (omega (arith, le, h.0), h.1, h.2, h.3)

  tokens_joined : (from : ℕ) (ts : List PyToken) (mid : ℕ) (us : List PyToken) (to : ℕ) → TokensLie I text from ts mid → TokensLie I text mid us to → TokensLie I text from (ts ++ us) to
  tokens_joined from [] mid us to h k = tokens_earlier from mid us to h k
  tokens_joined from (t ∷ ts) mid us to h k = (h.0, h.1, h.2, tokens_joined (out-PyToken t).span.to ts mid us to h.3 k)

-- ---- lists of parts

-- a part as it is open, and what is said from its end on
abbrev Layer : Lies PyToken → Lies FPart → List ℕ → ℕ → (ℕ → Type 0) → FPart-F FPart PyToken → Type 0
Layer T I text from next (layers.Plain written span) = (from ≤ span.from) × LiesIn text span × next span.to
Layer T I text from next (layers.Field ts conversion format span) = (from ≤ span.from) × LiesIn text span × T span.from ts span.to × I span.from format span.to × next span.to

module _ (T : Lies PyToken) (I : Lies FPart) (text : List ℕ) where
  layer_le : (from to : ℕ) (next : ℕ → Type 0) (o : FPart-F FPart PyToken) → ((n : ℕ) → next n → n ≤ to) → Layer T I text from next o → from ≤ to
  layer_le from to next (layers.Plain written span) f h = omega (arith, h.0, h.1.ordered, f span.to h.2)
  layer_le from to next (layers.Field ts conversion format span) f h = omega (arith, h.0, h.1.ordered, f span.to h.4)

  layer_mapped : (before from : ℕ) (next later : ℕ → Type 0) (o : FPart-F FPart PyToken) → before ≤ from → ((n : ℕ) → next n → later n) → Layer T I text from next o → Layer T I text before later o
  layer_mapped before from next later (layers.Plain written span) le f h = (omega (arith, le, h.0), h.1, f span.to h.2)
  layer_mapped before from next later (layers.Field ts conversion format span) le f h = (omega (arith, le, h.0), h.1, h.2, h.3, f span.to h.4)

  parts_le : (from : ℕ) (ps : List FPart) (to : ℕ) → PartsLie T I text from ps to → from ≤ to
  parts_le from [] to h = h
  parts_le from (p ∷ ps) to h = layer_le from to (λ n. PartsLie T I text n ps to) (out-FPart p) (λ n k. parts_le n ps to k) h

  parts_earlier : (before from : ℕ) (ps : List FPart) (to : ℕ) → before ≤ from → PartsLie T I text from ps to → PartsLie T I text before ps to
  parts_earlier before from [] to le h = omega (arith, le, h)
  parts_earlier before from (p ∷ ps) to le h = layer_mapped before from (λ n. PartsLie T I text n ps to) (λ n. PartsLie T I text n ps to) (out-FPart p) le (λ n k. k) h

  parts_joined : (from : ℕ) (ps : List FPart) (mid : ℕ) (qs : List FPart) (to : ℕ) → PartsLie T I text from ps mid → PartsLie T I text mid qs to → PartsLie T I text from (ps ++ qs) to
  parts_joined from [] mid qs to h k = parts_earlier from mid qs to h k
  parts_joined from (p ∷ ps) mid qs to h k = layer_mapped from from (λ n. PartsLie T I text n ps mid) (λ n. PartsLie T I text n (ps ++ qs) to) (out-FPart p) (omega arith) (λ n l. parts_joined n ps mid qs to l k) h

-- ---- however deep parts are looked at

abbrev pub InTokens : List ℕ → Lies PyToken
InTokens text from ts to = (levels : ℕ) → TokensLie (InsideLies levels text) text from ts to

abbrev pub InParts : List ℕ → Lies FPart
InParts text from ps to = (levels : ℕ) → InsideLies levels text from ps to

module _ (text : List ℕ) where
  pub no_tokens : (from to : ℕ) → from ≤ to → InTokens text from [] to
  no_tokens from to le = λ n. le

  pub no_parts : (from to : ℕ) → from ≤ to → InParts text from [] to
  no_parts from to le zero = tt
  no_parts from to le (suc n) = le

  pub le_tokens : (from : ℕ) (ts : List PyToken) (to : ℕ) → InTokens text from ts to → from ≤ to
  le_tokens from ts to h = tokens_le (InsideLies 0 text) text from ts to (h 0)

  le_parts : (from : ℕ) (ps : List FPart) (to : ℕ) → InParts text from ps to → from ≤ to
  le_parts from ps to h = parts_le (TokensLie (InsideLies 0 text) text) (InsideLies 0 text) text from ps to (h 1)

  pub join_tokens : (from : ℕ) (ts : List PyToken) (mid : ℕ) (us : List PyToken) (to : ℕ) → InTokens text from ts mid → InTokens text mid us to → InTokens text from (ts ++ us) to
  join_tokens from ts mid us to h k = λ n. tokens_joined (InsideLies n text) text from ts mid us to (h n) (k n)

  pub join_parts : (from : ℕ) (ps : List FPart) (mid : ℕ) (qs : List FPart) (to : ℕ) → InParts text from ps mid → InParts text mid qs to → InParts text from (ps ++ qs) to
  join_parts from ps mid qs to h k zero = tt
  join_parts from ps mid qs to h k (suc n) = parts_joined (TokensLie (InsideLies n text) text) (InsideLies n text) text from ps mid qs to (h (suc n)) (k (suc n))

  pub later_tokens : (from : ℕ) (ts : List PyToken) (to end : ℕ) → InTokens text from ts to → to ≤ end → InTokens text from ts end
  later_tokens from ts to end h le = subst (λ (x : List PyToken). InTokens text from x end) (append-nil ts) (join_tokens from ts to [] end h (no_tokens to end le))

  pub later_parts : (from : ℕ) (ps : List FPart) (to end : ℕ) → InParts text from ps to → to ≤ end → InParts text from ps end
  later_parts from ps to end h le = subst (λ (x : List FPart). InParts text from x end) (append-nil ps) (join_parts from ps to [] end h (no_parts to end le))

  pub earlier_tokens : (before from : ℕ) (ts : List PyToken) (to : ℕ) → before ≤ from → InTokens text from ts to → InTokens text before ts to
  earlier_tokens before from ts to le h = join_tokens before [] from ts to (no_tokens before from le) h

  pub earlier_parts : (before from : ℕ) (ps : List FPart) (to : ℕ) → before ≤ from → InParts text from ps to → InParts text before ps to
  earlier_parts before from ps to le h = join_parts before [] from ps to (no_parts before from le) h

  -- one token, one part

  a_token : (o : PyToken-F FPart PyToken) → LiesIn text o.span → InParts text o.span.from o.parts o.span.to → InTokens text o.span.from (roll-PyToken o ∷ []) o.span.to
  a_token o l h n =
      subst (λ (x : PyToken-F FPart PyToken). (o.span.from ≤ x.span.from) × LiesIn text x.span × InsideLies n text x.span.from x.parts x.span.to × (x.span.to ≤ o.span.to)) (sym (out-roll-PyToken o)) (omega arith, l, h n, omega arith)

  pub a_sign : (w : PyWord) (from len : ℕ) → LiesIn text (span from (from + len)) → InTokens text from (sign w from len ∷ []) (from + len)
  a_sign w from len l = a_token (record { word = w; text = []; span = span from (from + len); parts = [] }) l (no_parts from (from + len) (omega arith))

  pub a_mark : (w : PyWord) (at : ℕ) → IsCharBoundary text at → InTokens text at (sign w at 0 ∷ []) at
  a_mark w at b =
      let e : at ≡ at + 0 = omega arith in
      subst (λ (n : ℕ). InTokens text at (sign w at 0 ∷ []) n) (sym e) (a_sign w at 0 (record { ordered = omega arith; begins = b; ends = subst (λ (n : ℕ). IsCharBoundary text n) e b }))

  pub a_written : (w : PyWord) (bytes : List ℕ) (from : ℕ) (xs : List FPart) → LiesIn text (span from (from + length bytes)) → InParts text from xs (from + length bytes) → InTokens text from (written w bytes from xs ∷ []) (from + length bytes)
  a_written w bytes from xs l h = a_token (record { word = w; text = bytes; span = span from (from + length bytes); parts = xs }) l h

  pub a_plain : (bytes : List ℕ) (from to : ℕ) → LiesIn text (span from to) → InParts text from (parts.Plain bytes (span from to) ∷ []) to
  a_plain bytes from to l zero = tt
  a_plain bytes from to l (suc n) =
      subst (λ (o : FPart-F FPart PyToken). Layer (TokensLie (InsideLies n text) text) (InsideLies n text) text from (λ m. m ≤ to) o) (sym (ap out-FPart (sym (rolls-Plain bytes (span from to))) ∙ out-roll-FPart (layers.Plain bytes (span from to)))) (omega arith, l, omega arith)

  pub a_field : (ts : List PyToken) (conversion : List ℕ) (format : List FPart) (from to : ℕ) → LiesIn text (span from to) → InTokens text from ts to → InParts text from format to → InParts text from (parts.Field ts conversion format (span from to) ∷ []) to
  a_field ts conversion format from to l h k zero = tt
  a_field ts conversion format from to l h k (suc n) =
      subst (λ (o : FPart-F FPart PyToken). Layer (TokensLie (InsideLies n text) text) (InsideLies n text) text from (λ m. m ≤ to) o) (sym (ap out-FPart (sym (rolls-Field ts conversion format (span from to))) ∙ out-roll-FPart (layers.Field ts conversion format (span from to)))) (omega arith, l, h n, k n, omega arith)
