-- What a scanner cites: the tokens of a text that was read up to a place.
use Rattle.std.proofs.Common.{◌≡◌, ℕ, true, false, ◌==◌, List, [], ◌∷◌, ◌++◌, length, refl, sym, ap, ◌∙◌, subst, arith, eqb-true}
use Rattle.std.specs.Prelude.{encode_utf8_all, Some, None}
use Rattle.std.specs.Str.{chars, IsUtf8}
use Rattle.std.proofs.lemmas.Str.{encodes-chars}
use Rattle.lexing.specs.Rules.{BeginsWithNone}
use Rattle.lexing.specs.Automaton.{IsPiece}
use Rattle.lexing.specs.Reading.{Turn, Language, reader, is_end, HasTokens, Lexes}
use Rattle.lexing.proofs.Conditions.{such_here, none_here}
use Rattle.lexing.proofs.Reading.{Goes, HasOneTurn, starts, goes_on, no_piece, stuck, ended, at_end}

-- from the first state on, characters gave these tokens, and the state and the rest of the text decide the others
pub record IsAt {S T : Type 0} (L : Language S T) (s₀ : S) (cs₀ : List ℕ) (done : List T) (s : S) (rest : List ℕ) : Type 0 where
  pub utf8 : IsUtf8 rest
  pub goes : Goes (reader L) s₀ cs₀ done s (chars rest)

pub begins : {S T : Type 0} (L : Language S T) (s : S) (cs rest : List ℕ) (done : List T) → IsUtf8 rest → chars rest ≡ cs → done ≡ [] → IsAt L s cs done s rest
begins {T = T} L s cs rest done u e n =
    subst (λ (x : List T). IsAt L s cs x s rest) (sym n) (record { utf8 = u; goes = subst (λ (x : List ℕ). Goes (reader L) s cs [] s x) (sym e) (starts (reader L) s cs) })

-- ---- in the loop, while the rest is not empty

no_end : (rest : List ℕ) → IsUtf8 rest → false ≡ (length rest == 0) → is_end (chars rest) ≡ false
no_end rest u some = by_chars (chars rest) refl
  where
    by_chars : (cs : List ℕ) → chars rest ≡ cs → is_end cs ≡ false
    by_chars [] e = let n : rest ≡ [] = sym (encodes-chars rest u) ∙ ap encode_utf8_all e in let k : false ≡ true = some ∙ ap (λ (x : List ℕ). length x == 0) n in absurd cc
    by_chars (c ∷ cs) e = refl

-- a piece that gives a turn: its tokens were pushed
pub turned : {S T : Type 0} {L : Language S T} {s₀ s : S} {cs₀ : List ℕ} {done new : List T} {rest front back : List ℕ} {w : ℕ} {turn : Turn S T} → IsAt L s₀ cs₀ done s rest → false ≡ (length rest == 0) → IsPiece (L.rules s) rest w front back → IsUtf8 back
    → L.step s w front ≡ Some turn → new ≡ done ++ turn.tokens → IsAt L s₀ cs₀ new turn.after back
turned {S = S} {T = T} {L = L} {s₀ = s₀} {s = s} {cs₀ = cs₀} {done = done} {new = new} {rest = rest} {front = front} {back = back} {w = w} {turn = turn} at some p u e pushed =
    subst (λ (x : List T). IsAt L s₀ cs₀ x turn.after back) (sym pushed) (record { utf8 = u; goes = on })
  where
    one : HasOneTurn (reader L) s w (chars front)
    one t t' a b = let k : Some t ≡ Some t' = sym a ∙ b in cc

    on : Goes (reader L) s₀ cs₀ (done ++ turn.tokens) turn.after (chars back)
    on =
        goes_on (reader L) s₀ cs₀ done s (chars rest) w (chars front) (chars back) turn p.sharp one at.goes (no_end rest at.utf8 some) (such_here (λ w cs. Unit {0}) (L.rules s) (chars rest) w (chars front) (chars back) p.begins tt)
        (ap (L.step s w) p.spelled ∙ e)

-- a piece that gives no turn: the text has no tokens
pub barred : {S T : Type 0} {L : Language S T} {s₀ s : S} {cs₀ : List ℕ} {done : List T} {rest front back : List ℕ} {w : ℕ} → IsAt L s₀ cs₀ done s rest → false ≡ (length rest == 0) → IsPiece (L.rules s) rest w front back
    → L.step s w front ≡ None → (ts : List T) → Lexes L s₀ cs₀ ts → ⊥
barred {S = S} {T = T} {L = L} {s₀ = s₀} {s = s} {cs₀ = cs₀} {done = done} {rest = rest} {front = front} {back = back} {w = w} at some p e ts =
    stuck (reader L) s₀ cs₀ done s (chars rest) w (chars front) (chars back) p.sharp at.goes (no_end rest at.utf8 some) (such_here (λ w cs. Unit {0}) (L.rules s) (chars rest) w (chars front) (chars back) p.begins tt) none ts []
  where
    none : (t : Turn S T) → L.step s w (encode_utf8_all (chars front)) ≡ Some t → ⊥
    none t h = let k : Some t ≡ None = sym h ∙ ap (L.step s w) p.spelled ∙ e in cc

-- no piece: the text has no tokens
pub none_left : {S T : Type 0} {L : Language S T} {s₀ s : S} {cs₀ : List ℕ} {done : List T} {rest : List ℕ} → IsAt L s₀ cs₀ done s rest → false ≡ (length rest == 0) → BeginsWithNone (L.rules s) (chars rest) → (ts : List T) → Lexes L s₀ cs₀ ts → ⊥
none_left {L = L} {s₀ = s₀} {s = s} {cs₀ = cs₀} {done = done} {rest = rest} at some none ts =
    no_piece (reader L) s₀ cs₀ done s (chars rest) at.goes (no_end rest at.utf8 some) (none_here (λ w cs. Unit {0}) (L.rules s) (chars rest) none) ts []

-- ---- behind the loop, where the rest is empty

no_chars : (rest : List ℕ) → true ≡ (length rest == 0) → chars rest ≡ []
unfolding chars
no_chars [] e = refl
no_chars (b ∷ rest) e = absurd (omega (arith, eqb-true (length (b ∷ rest)) 0 (sym e)))

-- the end gives its tokens: these are the tokens of the text
pub given : {S T : Type 0} {L : Language S T} {s₀ s : S} {cs₀ : List ℕ} {done new last : List T} {rest : List ℕ} → IsAt L s₀ cs₀ done s rest → true ≡ (length rest == 0) → L.finish s ≡ Some last → new ≡ done ++ last → Lexes L s₀ cs₀ new
given {T = T} {L = L} {s₀ = s₀} {s = s} {cs₀ = cs₀} {done = done} {last = last} {rest = rest} at e f pushed =
    subst (λ (x : List T). Lexes L s₀ cs₀ x) (sym pushed)
    (subst (λ (x : List ℕ). HasTokens (reader L) s₀ cs₀ (done ++ last) x) (no_chars rest e)
    (ended (reader L) s₀ cs₀ done s (chars rest) last at.goes (ap is_end (no_chars rest e)) f))

-- and there are no others
pub only : {S T : Type 0} {L : Language S T} {s₀ s : S} {cs₀ : List ℕ} {done new last : List T} {rest : List ℕ} → IsAt L s₀ cs₀ done s rest → true ≡ (length rest == 0) → L.finish s ≡ Some last → new ≡ done ++ last → (ts : List T) → Lexes L s₀ cs₀ ts → new ≡ ts
only {T = T} {L = L} {s₀ = s₀} {s = s} {cs₀ = cs₀} {done = done} {last = last} {rest = rest} at e f pushed ts h =
    let o = at_end (reader L) s₀ cs₀ done s (chars rest) at.goes (ap is_end (no_chars rest e)) ts [] h in
    let k : Some o.0 ≡ Some last = sym o.1 ∙ f in
    let l : o.0 ≡ last = cc in
    pushed ∙ sym (o.2 ∙ ap (λ (x : List T). done ++ x) l)

-- the end gives none: the text has no tokens
pub unfinished : {S T : Type 0} {L : Language S T} {s₀ s : S} {cs₀ : List ℕ} {done : List T} {rest : List ℕ} → IsAt L s₀ cs₀ done s rest → true ≡ (length rest == 0) → L.finish s ≡ None → (ts : List T) → Lexes L s₀ cs₀ ts → ⊥
unfinished {L = L} {s₀ = s₀} {s = s} {cs₀ = cs₀} {done = done} {rest = rest} at e f ts h =
    let o = at_end (reader L) s₀ cs₀ done s (chars rest) at.goes (ap is_end (no_chars rest e)) ts [] h in
    let k : Some o.0 ≡ None = sym o.1 ∙ f in
    cc
