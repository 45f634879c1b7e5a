-- The tokens of a text that has f-strings, read up to a place.
use Rattle.std.proofs.Common.{◌≡◌, ℕ, true, false, ◌==◌, List, [], ◌∷◌, ◌++◌, length, refl, sym, ap, ◌∙◌, subst, arith, eqb-true}
use Rattle.std.specs.Prelude.{encode_utf8_all, Some, None, Err}
use Rattle.std.specs.Str.{chars, IsUtf8}
use Rattle.std.proofs.lemmas.Str.{encodes-chars}
use Rattle.node_tree.specs.declared.fault.LexFault.{LexFault}
use Rattle.node_tree.specs.declared.fault.LexFault.TheVariants.{Memory, NoTokens}
use Rattle.lexing.specs.Conditions.{BeginsWithNoneSuch}
use Rattle.lexing.specs.Reading.{Turn, is_end, HasTokens}
use Rattle.lexing.proofs.Reading.{Goes, HasOneTurn, starts, goes_on, no_piece, stuck, ended, at_end}
use Rattle.py_lex.specs.Parts.{Parting, HasSome, PartedLanguage, parted, IsFound, Looks}
use Rattle.py_lex.specs.Layout.{begins_at, Turns}
use Rattle.py_lex.specs.Lexing.{first_line, Gives}
use Rattle.py_lex.specs.declared.layout.Layout.{Layout}
use Rattle.lexing.specs.Mark.{past_mark, mark_len}
use Rattle.py_lex.specs.declared.parts.Found.{Found}

-- from the first state on, characters gave these tokens, and the state and the rest of the text decide the others
pub record IsAt {S T : Type 0} (P : Parting) (L : PartedLanguage S T) (s₀ : S) (cs₀ : List ℕ) (done : List T) (s : S) (rest : List ℕ) : Type 0 where
  pub utf8 : IsUtf8 rest
  pub goes : Goes (parted P L) s₀ cs₀ done s (chars rest)

pub begins : {S T : Type 0} (P : Parting) (L : PartedLanguage S T) (s : S) (cs rest : List ℕ) (done : List T) → IsUtf8 rest → chars rest ≡ cs → done ≡ [] → IsAt P L s cs done s rest
begins {T = T} P L s cs rest done u e n =
    subst (λ (x : List T). IsAt P L s cs x s rest) (sym n) (record { utf8 = u; goes = subst (λ (x : List ℕ). Goes (parted P L) s cs [] s x) (sym e) (starts (parted P L) s cs) })

-- the same at the start of a text's first line, behind a byte order mark
pub begins_first : {T : Type 0} (P : Parting) (L : PartedLanguage Layout T) (cs rest : List ℕ) (done : List T) (at : ℕ) → IsUtf8 rest → chars rest ≡ past_mark cs → done ≡ [] → mark_len cs ≡ at → IsAt P L (first_line cs) (past_mark cs) done (begins_at at) rest
begins_first P L cs rest done at u e n m = subst (λ (x : ℕ). IsAt P L (first_line cs) (past_mark cs) done (begins_at x) rest) m (begins P L (first_line cs) (past_mark cs) rest done u e n)

-- ---- in the loop, while the rest is not empty

no_end : (rest : List ℕ) → IsUtf8 rest → false ≡ (length rest == 0) → is_end (chars rest) ≡ false
no_end rest u some = by_chars (chars rest) refl
  where
    by_chars : (cs : List ℕ) → chars rest ≡ cs → is_end cs ≡ false
    by_chars [] e = let n : rest ≡ [] = sym (encodes-chars rest u) ∙ ap encode_utf8_all e in let k : false ≡ true = some ∙ ap (λ (x : List ℕ). length x == 0) n in absurd cc
    by_chars (c ∷ cs) e = refl

-- a lexeme that gives a turn: its tokens were pushed
pub turned : {S T : Type 0} {P : Parting} {L : PartedLanguage S T} {s₀ s : S} {cs₀ : List ℕ} {done new : List T} {rest : List ℕ} {f : Found} {turn : Turn S T} → IsAt P L s₀ cs₀ done s rest → false ≡ (length rest == 0) → IsFound P (L.rules s) (L.at s) rest f
    → L.step s f.word f.text.now f.parts ≡ Some turn → new ≡ done ++ turn.tokens → IsAt P L s₀ cs₀ new turn.after f.rest.now
turned {S = S} {T = T} {P = P} {L = L} {s₀ = s₀} {s = s} {cs₀ = cs₀} {done = done} {new = new} {rest = rest} {f = f} {turn = turn} at some found e pushed =
    subst (λ (x : List T). IsAt P L s₀ cs₀ x turn.after f.rest.now) (sym pushed) (record { utf8 = found.utf8_rest; goes = on })
  where
    front : List ℕ
    front = chars f.text.now

    given : (t : Turn S T) → (parted P L).step s f.word front t → L.step s f.word (encode_utf8_all front) f.parts ≡ Some t
    given t (xs, p, is) = ap (L.step s f.word (encode_utf8_all front)) (found.only xs p) ∙ is

    one : HasOneTurn (parted P L) s f.word front
    one t t' a b = let k : Some t ≡ Some t' = sym (given t a) ∙ given t' b in cc

    on : Goes (parted P L) s₀ cs₀ (done ++ turn.tokens) turn.after (chars f.rest.now)
    on =
        goes_on (parted P L) s₀ cs₀ done s (chars rest) f.word front (chars f.rest.now) turn found.sharp one at.goes (no_end rest at.utf8 some) found.begins
        (f.parts, found.parts, ap (λ (b : List ℕ). L.step s f.word b f.parts) (encodes-chars f.text.now found.utf8) ∙ e)

-- a lexeme that gives no turn: the text has no tokens
pub barred : {S T : Type 0} {P : Parting} {L : PartedLanguage S T} {s₀ s : S} {cs₀ : List ℕ} {done : List T} {rest : List ℕ} {f : Found} → IsAt P L s₀ cs₀ done s rest → false ≡ (length rest == 0) → IsFound P (L.rules s) (L.at s) rest f
    → L.step s f.word f.text.now f.parts ≡ None → (ts : List T) → HasTokens (parted P L) s₀ cs₀ ts [] → ⊥
barred {S = S} {T = T} {P = P} {L = L} {s₀ = s₀} {s = s} {cs₀ = cs₀} {done = done} {rest = rest} {f = f} at some found e ts =
    stuck (parted P L) s₀ cs₀ done s (chars rest) f.word (chars f.text.now) (chars f.rest.now) found.sharp at.goes (no_end rest at.utf8 some) found.begins none ts []
  where
    none : (t : Turn S T) → (parted P L).step s f.word (chars f.text.now) t → ⊥
    none t (xs, p, is) =
        let k : Some t ≡ None = sym is ∙ sym (ap (L.step s f.word (encode_utf8_all (chars f.text.now))) (found.only xs p)) ∙ ap (λ (b : List ℕ). L.step s f.word b f.parts) (encodes-chars f.text.now found.utf8) ∙ e in cc

-- no lexeme: the text has no tokens
pub none_left : {S T : Type 0} {P : Parting} {L : PartedLanguage S T} {s₀ s : S} {cs₀ : List ℕ} {done : List T} {rest : List ℕ} → IsAt P L s₀ cs₀ done s rest → false ≡ (length rest == 0) → BeginsWithNoneSuch (HasSome P (L.at s)) (L.rules s) (chars rest)
    → (ts : List T) → HasTokens (parted P L) s₀ cs₀ ts [] → ⊥
none_left {P = P} {L = L} {s₀ = s₀} {s = s} {cs₀ = cs₀} {done = done} {rest = rest} at some none ts =
    no_piece (parted P L) s₀ cs₀ done s (chars rest) at.goes (no_end rest at.utf8 some) none ts []

-- nothing was found: for want of memory, or the text has no tokens
pub not_found : {S T : Type 0} {P : Parting} {L : PartedLanguage S T} {s₀ s : S} {cs₀ : List ℕ} {done : List T} {rest : List ℕ} (e : LexFault) → IsAt P L s₀ cs₀ done s rest → false ≡ (length rest == 0) → Looks P (L.rules s) (L.at s) rest (Err e)
    → (ts : List T) → HasTokens (parted P L) s₀ cs₀ ts [] → Gives ts (Err e)
not_found Memory at some l ts h = tt
not_found NoTokens at some l ts h = none_left at some l ts h

-- a step failed: for want of memory, or the text has no tokens
pub failed : {S T : Type 0} {P : Parting} {L : PartedLanguage S T} {s₀ s : S} {cs₀ : List ℕ} {done : List T} {rest : List ℕ} {f : Found} (s' : S) (new : List T) (e : LexFault) → IsAt P L s₀ cs₀ done s rest → false ≡ (length rest == 0) → IsFound P (L.rules s) (L.at s) rest f
    → Turns (L.step s f.word f.text.now f.parts) done new s' (Err e) → (ts : List T) → HasTokens (parted P L) s₀ cs₀ ts [] → Gives ts (Err e)
failed s' new Memory at some found t ts h = tt
failed s' new NoTokens at some found t ts h = barred at some found t ts h

-- ---- behind the loop, where the rest is empty

no_chars : (rest : List ℕ) → true ≡ (length rest == 0) → chars rest ≡ []
unfolding chars
no_chars [] e = refl
no_chars (b ∷ rest) e = absurd (omega (arith, eqb-true (length (b ∷ rest)) 0 (sym e)))

-- the end gives its tokens: these are the tokens of the text
pub given : {S T : Type 0} {P : Parting} {L : PartedLanguage S T} {s₀ s : S} {cs₀ : List ℕ} {done new last : List T} {rest : List ℕ} → IsAt P L s₀ cs₀ done s rest → true ≡ (length rest == 0) → L.finish s ≡ Some last → new ≡ done ++ last
    → HasTokens (parted P L) s₀ cs₀ new []
given {T = T} {P = P} {L = L} {s₀ = s₀} {s = s} {cs₀ = cs₀} {done = done} {last = last} {rest = rest} at e f pushed =
    subst (λ (x : List T). HasTokens (parted P L) s₀ cs₀ x []) (sym pushed)
    (subst (λ (x : List ℕ). HasTokens (parted P L) s₀ cs₀ (done ++ last) x) (no_chars rest e)
    (ended (parted P L) s₀ cs₀ done s (chars rest) last at.goes (ap is_end (no_chars rest e)) f))

-- and there are no others
pub only : {S T : Type 0} {P : Parting} {L : PartedLanguage S T} {s₀ s : S} {cs₀ : List ℕ} {done new last : List T} {rest : List ℕ} → IsAt P L s₀ cs₀ done s rest → true ≡ (length rest == 0) → L.finish s ≡ Some last → new ≡ done ++ last
    → (ts : List T) → HasTokens (parted P L) s₀ cs₀ ts [] → new ≡ ts
only {T = T} {P = P} {L = L} {s₀ = s₀} {s = s} {cs₀ = cs₀} {done = done} {last = last} {rest = rest} at e f pushed ts h =
    let o = at_end (parted P L) s₀ cs₀ done s (chars rest) at.goes (ap is_end (no_chars rest e)) ts [] h in
    let k : Some o.0 ≡ Some last = sym o.1 ∙ f in
    let l : o.0 ≡ last = cc in
    pushed ∙ sym (o.2 ∙ ap (λ (x : List T). done ++ x) l)

-- the end gives none: the text has no tokens
pub unfinished : {S T : Type 0} {P : Parting} {L : PartedLanguage S T} {s₀ s : S} {cs₀ : List ℕ} {done : List T} {rest : List ℕ} → IsAt P L s₀ cs₀ done s rest → true ≡ (length rest == 0) → L.finish s ≡ None → (ts : List T) → HasTokens (parted P L) s₀ cs₀ ts [] → ⊥
unfinished {P = P} {L = L} {s₀ = s₀} {s = s} {cs₀ = cs₀} {done = done} {rest = rest} at e f ts h =
    let o = at_end (parted P L) s₀ cs₀ done s (chars rest) at.goes (ap is_end (no_chars rest e)) ts [] h in
    let k : Some o.0 ≡ None = sym o.1 ∙ f in
    cc
