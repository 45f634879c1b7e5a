-- What was written, and what is left to read.
use Rattle.std.proofs.Common.{◌≡◌, ℕ, ◌≤◌, List, [], ◌∷◌, ◌++◌, refl, sym, ap, ◌∙◌, subst, append_assoc, arith}
use Rattle.std.specs.Prelude.{Option, Some, None}
use Rattle.std.specs.List.{concat}
use Rattle.std.specs.Io.KnownBytes.{Appends}
use Rattle.std.proofs.lemmas.List.{append-nil, length-append}
use Rattle.std.proofs.lemmas.List.Folds.{concat-append}
use Rattle.scan_world.specs.Streams.{AppendsFront}
use Rattle.wire_stream.specs.Lines.{line_bytes}
use Rattle.wire_stream.specs.Commands.{body_length, body_bytes, command_bytes}
use Rattle.wire_stream.specs.declared.wire.Wire.{Wire}
use Rattle.wire_stream.specs.Streams.{Uses, OfStream}
use Rattle.wire_stream.specs.Fronts.{Waits}
use Rattle.wire_stream.specs.Feeds.{Used}

pub nothing_written : (a : Option (List ℕ)) → Appends a a []
nothing_written None = tt
nothing_written (Some xs) = sym (append-nil xs)

written_on : (a b c : Option (List ℕ)) (x y : List ℕ) → Appends a b x → Appends b c y → Appends a c (x ++ y)
written_on None b c x y h k = tt
written_on (Some xs) None c x y h k = absurd h
written_on (Some xs) (Some ys) None x y h k = absurd k
written_on (Some xs) (Some ys) (Some zs) x y h k = k ∙ ap (λ (l : List ℕ). l ++ y) h ∙ append_assoc xs x y

pub lines_on : (a b c : Option (List ℕ)) (xs ys : List (List ℕ)) → Appends a b (concat xs) → Appends b c (concat ys) → Appends a c (concat (xs ++ ys))
lines_on a b c xs ys h k = subst (λ (l : List ℕ). Appends a c l) (sym (concat-append xs ys)) (written_on a b c (concat xs) (concat ys) h k)

pub lines_front : (a b c : Option (List ℕ)) (xs ys : List (List ℕ)) → Appends a b (concat xs) → AppendsFront b c (concat ys) → AppendsFront a c (concat (xs ++ ys))
lines_front a b c xs ys h (front, rest, e, k) =
    (concat xs ++ front, rest, concat-append xs ys ∙ ap (λ (l : List ℕ). concat xs ++ l) e ∙ sym (append_assoc (concat xs) front rest), written_on a b c (concat xs) front h k)

-- all of what was written is a front of it
pub whole_front : (a b : Option (List ℕ)) (x : List ℕ) → Appends a b x → AppendsFront a b x
whole_front a b x h = (x, [], sym (append-nil x), h)

pub one_line : (a b : Option (List ℕ)) (x y : List ℕ) → x ≡ y → Appends a b x → Appends a b (concat (y ∷ []))
one_line a b x y e h = subst (λ (l : List ℕ). Appends a b l) (e ∙ sym (append-nil y)) h

pub one_front : (a b : Option (List ℕ)) (x y : List ℕ) → x ≡ y → AppendsFront a b x → AppendsFront a b (concat (y ∷ []))
one_front a b x y e h = subst (λ (l : List ℕ). AppendsFront a b l) (e ∙ sym (append-nil y)) h

-- what is left of the stream: the bytes in hand, and those that a told source has left
abbrev pub left_of : Option (List ℕ) → List ℕ → Option (List ℕ)
left_of None hand = None
left_of (Some left) hand = Some (hand ++ left)

pub left_first : (left : Option (List ℕ)) (hand : List ℕ) → hand ≡ [] → left_of left hand ≡ left
left_first None hand e = refl
left_first (Some left) hand e = ap (λ (l : List ℕ). Some (l ++ left)) e

uses_left : (a b : Option (List ℕ)) (hand hand_after bytes : List ℕ) → Uses a b hand hand_after bytes → Uses (left_of a hand) (left_of b hand_after) [] [] bytes
uses_left None b hand hand_after bytes h = tt
uses_left (Some x) None hand hand_after bytes h = absurd h
uses_left (Some x) (Some y) hand hand_after bytes h = h

pub used_left : (a b : Option (List ℕ)) (hand hand_after : List ℕ) (wire : Wire) (count : ℕ) → Used a b hand hand_after wire count → Used (left_of a hand) (left_of b hand_after) [] [] wire count
used_left a b hand hand_after wire count u = record {
  line = u.line;
  body = u.body;
  good = u.good;
  whole = u.whole;
  is = u.is;
  counted = u.counted;
  uses = uses_left a b hand hand_after (command_bytes u.line u.body) u.uses;
}

-- a command has a byte at least
pub some_bytes : (a b : Option (List ℕ)) (hand hand_after : List ℕ) (wire : Wire) (count : ℕ) → Used a b hand hand_after wire count → 1 ≤ count
some_bytes a b hand hand_after wire count u =
    let n = length-append (line_bytes u.line) (10 ∷ body_bytes (body_length u.line) u.body) in
    omega (arith, u.counted, n)

pub of_left : (a : Option (List ℕ)) (hand : List ℕ) (P : List ℕ → Type 0) → OfStream a hand P → OfStream (left_of a hand) [] P
of_left None hand P h = tt
of_left (Some x) hand P h = h

pub waits_left : (a b : Option (List ℕ)) (hand : List ℕ) → Waits a b hand → Waits (left_of a hand) b []
waits_left a b hand (bytes, front, uses) = (bytes, front, on a b uses)
  where
    on : (a b : Option (List ℕ)) → Uses a b hand [] bytes → Uses (left_of a hand) b [] [] bytes
    on None b h = tt
    on (Some x) None h = absurd h
    on (Some x) (Some y) h = h
