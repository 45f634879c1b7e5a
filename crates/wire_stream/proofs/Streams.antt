-- What is used of a stream, step after step.
use Rattle.std.proofs.Common.{◌≡◌, ℕ, List, [], ◌++◌, refl, sym, ap, ◌∙◌, subst, append_assoc, append-nil}
use Rattle.std.specs.Prelude.{Option, Some, None, Result, Err, IsErrOf}
use Rattle.std.specs.Io.KnownBytes.{Consumes, Keeps, IsAtEnd}
use Rattle.wire_stream.specs.Streams.{Uses, OfStream, HasTroubleCause}
use Rattle.wire_stream.specs.declared.trouble.Trouble.{Trouble}
use Rattle.wire_stream.specs.declared.trouble.Trouble.TheVariants.{Memory, Failed, Bad}

-- a piece was read
pub uses_more : (a b : Option (List ℕ)) (h k piece : List ℕ) → Consumes a b piece → k ≡ h ++ piece → Uses a b h k []
uses_more None b h k piece c e = tt
uses_more (Some xs) None h k piece c e = absurd c
uses_more (Some xs) (Some ys) h k piece c e =
    ap (λ (l : List ℕ). h ++ l) c ∙ sym (append_assoc h piece ys) ∙ ap (λ (l : List ℕ). l ++ ys) (sym e)

-- bytes in hand were used
pub uses_hand : (a : Option (List ℕ)) (h k bytes : List ℕ) → h ≡ bytes ++ k → Uses a a h k bytes
uses_hand None h k bytes e = tt
uses_hand (Some xs) h k bytes e = ap (λ (l : List ℕ). l ++ xs) e ∙ append_assoc bytes k xs

pub uses_nothing : (a : Option (List ℕ)) (h : List ℕ) → Uses a a h h []
uses_nothing a h = uses_hand a h h [] refl

-- one after the other
pub uses_then : (a b c : Option (List ℕ)) (h k m x y : List ℕ) → Uses a b h k x → Uses b c k m y → Uses a c h m (x ++ y)
uses_then None b c h k m x y u v = tt
uses_then (Some xs) None c h k m x y u v = absurd u
uses_then (Some xs) (Some ys) None h k m x y u v = absurd v
uses_then (Some xs) (Some ys) (Some zs) h k m x y u v = u ∙ ap (λ (l : List ℕ). x ++ l) v ∙ sym (append_assoc x y (m ++ zs))

pub uses_is : (a b : Option (List ℕ)) (h k x y : List ℕ) → x ≡ y → Uses a b h k x → Uses a b h k y
uses_is a b h k x y e u = let P : List ℕ → Type 0 = λ l. Uses a b h k l in subst P e u

-- where nothing is in hand any more, and a read fails
pub uses_to_end : (a b c : Option (List ℕ)) (h k x : List ℕ) → Uses a b h k x → k ≡ [] → Keeps b c → Uses a c h [] x
uses_to_end None b c h k x u none keeps = tt
uses_to_end (Some xs) None c h k x u none keeps = absurd u
uses_to_end (Some xs) (Some ys) None h k x u none keeps = absurd keeps
uses_to_end (Some xs) (Some ys) (Some zs) h k x u none keeps = u ∙ ap (λ (l : List ℕ). x ++ (l ++ ys)) none ∙ ap (λ (l : List ℕ). x ++ l) (sym keeps)

-- what is in hand is used
pub uses_all : (a b c : Option (List ℕ)) (h k : List ℕ) → Uses a b h k [] → Keeps b c → Uses a c h [] k
uses_all None b c h k u keeps = tt
uses_all (Some xs) None c h k u keeps = absurd u
uses_all (Some xs) (Some ys) None h k u keeps = absurd keeps
uses_all (Some xs) (Some ys) (Some zs) h k u keeps = u ∙ ap (λ (l : List ℕ). k ++ l) (sym keeps)

-- what is left after bytes were used tells of what there was
pub told_before : (a b : Option (List ℕ)) (h k x : List ℕ) (P Q : List ℕ → Type 0) → Uses a b h k x → ((s : List ℕ) → Q s → P (x ++ s)) → OfStream b k Q → OfStream a h P
told_before None b h k x P Q u f q = tt
told_before (Some xs) None h k x P Q u f q = absurd u
told_before (Some xs) (Some ys) h k x P Q u f q = subst P (sym u) (f (k ++ ys) q)

-- what is in hand tells it, whatever comes
pub told_by_hand : (a : Option (List ℕ)) (h : List ℕ) (P : List ℕ → Type 0) → ((more : List ℕ) → P (h ++ more)) → OfStream a h P
told_by_hand None h P f = tt
told_by_hand (Some xs) h P f = f xs

-- nothing comes
pub told_at_end : (a : Option (List ℕ)) (h : List ℕ) (P : List ℕ → Type 0) → IsAtEnd a → P h → OfStream a h P
told_at_end None h P e p = tt
told_at_end (Some xs) h P e p = subst P (sym (ap (λ (l : List ℕ). h ++ l) e ∙ append-nil h)) p

pub told_also : (a : Option (List ℕ)) (h : List ℕ) (P Q : List ℕ → Type 0) → ((s : List ℕ) → Q s → P s) → OfStream a h Q → OfStream a h P
told_also None h P Q f q = tt
told_also (Some xs) h P Q f q = f (h ++ xs) q

-- the cause of a trouble that is passed on
pub cause_on : (a b c : ℕ) (e : Trouble) → b ≡ a → HasTroubleCause b c e → HasTroubleCause a c e
cause_on a b c Memory same h = h ∙ same
cause_on a b c Failed same h = let Q : ℕ → Type 0 = λ n. HasTroubleCause n c Failed in subst Q same h
cause_on a b c Bad same h = h ∙ same

-- a trouble without a read
pub cause_none : (T : Type 0) (a b : ℕ) (e : Trouble) → (IsErrOf {T = T} (Err e) Failed → ⊥) → b ≡ a → HasTroubleCause a b e
cause_none T a b Memory none same = same
cause_none T a b Failed none same = absurd (none refl)
cause_none T a b Bad none same = same

-- a trouble that is passed on as another call's answer
pub err_as : (T U : Type 0) (e x : Trouble) → IsErrOf {T = T} (Err e) x → IsErrOf {T = U} (Err e) x
err_as T U e x h = let s : e ≡ x = cc in let F : Trouble → Result U Trouble = λ y. Err y in ap F s
