-- Reading lexeme after lexeme: what was read and what is left decide all the tokens that the characters have.
use Rattle.std.proofs.Common.{◌≡◌, ℕ, true, false, List, [], ◌∷◌, ◌++◌, length, refl, sym, ap, ◌∙◌, subst, arith, append_assoc}
use Rattle.lexing.specs.Rules.{Rule, Spells, IsSharp}
use Rattle.lexing.specs.Conditions.{BeginsWithSuch, BeginsWithNoneSuch}
use Rattle.lexing.specs.Reading.{Lexeme, Turn, Reader, Reads, HasTokens}
use Rattle.lexing.proofs.Basics.{cons_is}

-- fronts of one length
same_front : (f r g s : List ℕ) → f ++ r ≡ g ++ s → length f ≡ length g → (f ≡ g) × (r ≡ s)
same_front [] r [] s e l = (refl, e)
same_front [] r (y ∷ g) s e l = absurd (omega arith)
same_front (x ∷ f) r [] s e l = absurd (omega arith)
same_front (x ∷ f) r (y ∷ g) s e l =
    let h : x ≡ y = cc in
    let t : f ++ r ≡ g ++ s = cc in
    let p = same_front f r g s t (omega arith) in
    (cons_is x y f g h p.0, p.1)

record SamePiece (w v : ℕ) (f g r s : List ℕ) : Type 0 where
  word : w ≡ v
  front : f ≡ g
  rest : r ≡ s

-- a text begins with one longest spelling at most
same_piece : (V : ℕ → List ℕ → Type 0) (rules : List Rule) (cs : List ℕ) (w v : ℕ) (f g r s : List ℕ) → IsSharp rules → BeginsWithSuch V rules cs w f r → BeginsWithSuch V rules cs v g s → SamePiece w v f g r s
same_piece V rules cs w v f g r s sharp p q =
    let a = p.longest v g s q.spells q.such q.parts in
    let b = q.longest w f r p.spells p.such p.parts in
    let e = same_front f r g s (sym p.parts ∙ q.parts) (omega arith) in
    record { word = sharp.one_word g w v (subst (λ (x : List ℕ). Spells rules w x) e.0 p.spells) q.spells; front = e.0; rest = e.1 }

-- ---- the theorem

-- tokens were read, and what is left decides the others and where reading ends
pub record Goes {S T : Type 0} (R : Reader S T) (s₀ : S) (cs₀ : List ℕ) (done : List T) (s : S) (cs : List ℕ) : Type 0 where
  pub forth : (ts : List T) (rest : List ℕ) → HasTokens R s cs ts rest → HasTokens R s₀ cs₀ (done ++ ts) rest
  pub back : (ts : List T) (rest : List ℕ) → HasTokens R s₀ cs₀ ts rest → (us : List T) × HasTokens R s cs us rest × (ts ≡ done ++ us)

-- nothing was read
pub starts : {S T : Type 0} (R : Reader S T) (s : S) (cs : List ℕ) → Goes R s cs [] s cs
starts R s cs = record { forth = λ ts rest h. h; back = λ ts rest h. (ts, h, refl) }

-- a lexeme gives one turn at most
abbrev pub HasOneTurn : {S T : Type 0} → Reader S T → S → ℕ → List ℕ → Type 0
HasOneTurn {S = S} {T = T} R s w f = (t t' : Turn S T) → R.step s w f t → R.step s w f t' → t ≡ t'

-- one more lexeme
pub goes_on : {S T : Type 0} (R : Reader S T) (s₀ : S) (cs₀ : List ℕ) (done : List T) (s : S) (cs : List ℕ) (w : ℕ) (f r : List ℕ) (turn : Turn S T) → IsSharp (R.rules s) → HasOneTurn R s w f → Goes R s₀ cs₀ done s cs → R.ends s cs ≡ false
    → BeginsWithSuch (R.such s) (R.rules s) cs w f r → R.step s w f turn → Goes R s₀ cs₀ (done ++ turn.tokens) turn.after r
goes_on {S = S} {T = T} R s₀ cs₀ done s cs w f r turn sharp one g go b st = record {
  forth = λ ts rest h. subst (λ (x : List T). HasTokens R s₀ cs₀ x rest) (sym (append_assoc done turn.tokens ts)) (g.forth (turn.tokens ++ ts) rest (record { word = w; text = f } ∷ h.0, (go, r, turn, ts, b, st, h.1, refl)));
  back = λ ts rest h. (let o = g.back ts rest h in behind ts o.0 rest o.1.0 o.1.1 o.2);
}
  where
    behind : (ts us : List T) (rest : List ℕ) (xs : List Lexeme) → Reads R s cs xs us rest → ts ≡ done ++ us → (vs : List T) × HasTokens R turn.after r vs rest × (ts ≡ (done ++ turn.tokens) ++ vs)
    behind ts us rest [] h e = let k : true ≡ false = sym h.0 ∙ go in absurd cc
    behind ts us rest (q ∷ qs) (_, left, turn', later, bq, sq, more, parts) e =
        let same = same_piece (R.such s) (R.rules s) cs q.word w q.text f left r sharp bq b in
        let sw : R.step s w f turn' = subst (λ (x : List ℕ). R.step s w x turn') same.front (subst (λ (x : ℕ). R.step s x q.text turn') same.word sq) in
        let p : turn' ≡ turn = one turn' turn sw st in (
          later,
          (qs, subst (λ (x : Turn S T). Reads R x.after r qs later rest) p (subst (λ (x : List ℕ). Reads R turn'.after x qs later rest) same.rest more)),
          e ∙ ap (λ (x : List T). done ++ x) (parts ∙ ap (λ (x : Turn S T). x.tokens ++ later) p) ∙ sym (append_assoc done turn.tokens later),
        )

-- where reading does not end, and no lexeme begins, there are no tokens
pub no_piece : {S T : Type 0} (R : Reader S T) (s₀ : S) (cs₀ : List ℕ) (done : List T) (s : S) (cs : List ℕ) → Goes R s₀ cs₀ done s cs → R.ends s cs ≡ false → BeginsWithNoneSuch (R.such s) (R.rules s) cs → (ts : List T) (rest : List ℕ) → HasTokens R s₀ cs₀ ts rest → ⊥
no_piece {S = S} {T = T} R s₀ cs₀ done s cs g go none ts rest h = let o = g.back ts rest h in first o.0 o.1.0 o.1.1
  where
    first : (us : List T) (xs : List Lexeme) → Reads R s cs xs us rest → ⊥
    first us [] h = let k : true ≡ false = sym h.0 ∙ go in absurd cc
    first us (q ∷ qs) (_, left, turn', later, bq, sq, more, parts) = none q.word q.text left bq.spells bq.such bq.parts

-- where a lexeme gives no turn, there are no tokens
pub stuck : {S T : Type 0} (R : Reader S T) (s₀ : S) (cs₀ : List ℕ) (done : List T) (s : S) (cs : List ℕ) (w : ℕ) (f r : List ℕ) → IsSharp (R.rules s) → Goes R s₀ cs₀ done s cs → R.ends s cs ≡ false → BeginsWithSuch (R.such s) (R.rules s) cs w f r
    → ((t : Turn S T) → R.step s w f t → ⊥) → (ts : List T) (rest : List ℕ) → HasTokens R s₀ cs₀ ts rest → ⊥
stuck {S = S} {T = T} R s₀ cs₀ done s cs w f r sharp g go b barred ts rest h = let o = g.back ts rest h in first o.0 o.1.0 o.1.1
  where
    first : (us : List T) (xs : List Lexeme) → Reads R s cs xs us rest → ⊥
    first us [] h = let k : true ≡ false = sym h.0 ∙ go in absurd cc
    first us (q ∷ qs) (_, left, turn', later, bq, sq, more, parts) =
        let same = same_piece (R.such s) (R.rules s) cs q.word w q.text f left r sharp bq b in
        barred turn' (subst (λ (x : List ℕ). R.step s w x turn') same.front (subst (λ (x : ℕ). R.step s x q.text turn') same.word sq))

-- where reading ends, the tokens are those read and those of the end
pub ended : {S T : Type 0} (R : Reader S T) (s₀ : S) (cs₀ : List ℕ) (done : List T) (s : S) (cs : List ℕ) (last : List T) → Goes R s₀ cs₀ done s cs → R.ends s cs ≡ true → R.finish s last → HasTokens R s₀ cs₀ (done ++ last) cs
ended R s₀ cs₀ done s cs last g e f = g.forth last cs ([], (e, refl, f))

-- where reading ends, each list of tokens is the tokens read and those of one end
pub at_end : {S T : Type 0} (R : Reader S T) (s₀ : S) (cs₀ : List ℕ) (done : List T) (s : S) (cs : List ℕ) → Goes R s₀ cs₀ done s cs → R.ends s cs ≡ true → (ts : List T) (rest : List ℕ) → HasTokens R s₀ cs₀ ts rest → (last : List T) × R.finish s last × (ts ≡ done ++ last) × (rest ≡ cs)
at_end {S = S} {T = T} R s₀ cs₀ done s cs g e ts rest h = let o = g.back ts rest h in last o.0 o.1.0 o.1.1 o.2
  where
    last : (us : List T) (xs : List Lexeme) → Reads R s cs xs us rest → ts ≡ done ++ us → (last : List T) × R.finish s last × (ts ≡ done ++ last) × (rest ≡ cs)
    last us [] (_, is, f) q = (us, f, q, is)
    last us (q ∷ qs) (go, left, turn', later, bq, sq, more, parts) eq = let k : true ≡ false = sym e ∙ go in absurd cc
