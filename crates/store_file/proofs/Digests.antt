-- Texts that end with the digest of what stands before it.
use Rattle.std.proofs.Common.{◌≡◌, ℕ, ◌+◌, ◌-◌, List, ◌++◌, length, take, drop, sym, ap, ◌∙◌, length-append, arith}
use Rattle.std.proofs.lemmas.List.{take_at, drop_at}
use Rattle.sha2.specs.Sha256.{sha256}
use Rattle.sha2.proofs.Facts256.{length-sha256}

pub digested_length : (text front : List ℕ) → text ≡ front ++ sha256 front → length text ≡ length front + 32
digested_length text front e = ap (λ (v : List ℕ). length v) e ∙ length-append front (sha256 front) ∙ ap (λ (n : ℕ). length front + n) (length-sha256 front)

pub front_taken : (text front : List ℕ) → text ≡ front ++ sha256 front → take (length text - 32) text ≡ front
front_taken text front e =
    let n : length front ≡ length text - 32 = omega (arith, digested_length text front e) in
    ap (take (length text - 32)) e ∙ take_at front (sha256 front) (length text - 32) n

pub digest_left : (text front : List ℕ) → text ≡ front ++ sha256 front → drop (length text - 32) text ≡ sha256 front
digest_left text front e =
    let n : length front ≡ length text - 32 = omega (arith, digested_length text front e) in
    ap (drop (length text - 32)) e ∙ drop_at front (sha256 front) (length text - 32) n

-- the front is one
pub front_is : (text a b : List ℕ) → text ≡ a ++ sha256 a → text ≡ b ++ sha256 b → a ≡ b
front_is text a b ea eb = sym (front_taken text a ea) ∙ front_taken text b eb
