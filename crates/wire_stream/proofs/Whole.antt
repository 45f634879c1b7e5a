-- Whole commands.
use Rattle.std.proofs.Common.{◌≡◌, ℕ, false, ◌+◌, ◌-◌, ◌<◌, ◌≤◌, List, [], ◌∷◌, ◌++◌, length, take, drop, replicate, refl, sym, ap, ◌∙◌, subst, arith, append_assoc, length-append}
use Rattle.std.specs.Prelude.{Option, Some, None, Err}
use Rattle.std.specs.Io.KnownBytes.{Keeps, IsAtEnd}
use Rattle.std.proofs.lemmas.List.{length-take-le, length-replicate}
use Rattle.wire_stream.specs.Lines.{Line, Put, Rule, IsLine, line_bytes}
use Rattle.wire_stream.specs.Asked.{IsLineOf, IsNoLine}
use Rattle.wire_stream.specs.Commands.{body_length, IsBody, body_bytes, command_bytes, wire_of, BeginsNone}
use Rattle.wire_stream.specs.Bodies.{IsWhole, IsNoWhole}
use Rattle.wire_stream.specs.Heads.{Lacks, IsLineEnd, IsRest, IsNoRest}
use Rattle.wire_stream.specs.Fronts.{IsLineFront, IsCommandFront, Waits, WaitsWithin}
use Rattle.wire_stream.specs.Feeds.{FeedState, Used, Next, BeginsLonger, IsFault, HasWireCause, fault_of}
use Rattle.wire_stream.specs.Streams.{Uses, OfStream, HasTroubleCause}
use Rattle.wire_stream.specs.declared.trouble.Trouble.{Trouble}
use Rattle.wire_stream.specs.declared.trouble.Trouble.TheVariants.{Memory, Failed, Bad}
use Rattle.wire_stream.specs.declared.wire.WireFault.{WireFault}
use Rattle.wire_stream.specs.declared.wire.WireFault.TheVariants as faults
use Rattle.wire_stream.specs.declared.wire.Wire.{Wire}
use Rattle.wire_stream.specs.declared.wire.Wire.TheVariants as wires
use Rattle.wire_stream.proofs.Firsts.{front_before}
use Rattle.wire_stream.proofs.Fills.{overlap}
use Rattle.wire_stream.proofs.Streams.{uses_hand, uses_nothing, uses_then, uses_is, uses_all, told_before, told_by_hand, told_at_end}
use Rattle.wire_stream.proofs.Commands.{begins_line, line_used, no_line, no_rest, no_end}

-- ---- the line

closed : (bytes : List ℕ) → Lacks 10 bytes → (IsLineFront bytes → ⊥) → (more : List ℕ) → BeginsNone (bytes ++ more)
closed bytes l none more line body rest b =
    let e = begins_line (bytes ++ more) line body rest b in
    let low = front_before 10 bytes more (line_bytes line) (body_bytes (body_length line) body ++ rest) l e in
    let o = overlap bytes more (line_bytes line) (10 ∷ (body_bytes (body_length line) body ++ rest)) e low in
    none (record { line = line; rest = o.0; good = b.good; are = o.1 })

pub line_closed : (a b : Option (List ℕ)) (h k : List ℕ) → Uses a b h k [] → Lacks 10 k → (IsLineFront k → ⊥) → OfStream a h BeginsNone
line_closed a b h k u l none = told_before a b h k [] BeginsNone BeginsNone u (λ s p. p) (told_by_hand b k BeginsNone (closed k l none))

pub line_ends : (a b : Option (List ℕ)) (h k : List ℕ) → Uses a b h k [] → Lacks 10 k → IsAtEnd b → OfStream a h BeginsNone
line_ends a b h k u l end = told_before a b h k [] BeginsNone BeginsNone u (λ s p. p) (told_at_end b k BeginsNone end (no_end k l))

pub line_waits : (a b c : Option (List ℕ)) (h k : List ℕ) → Uses a b h k [] → IsLineFront k → Keeps b c → (bytes : List ℕ) × IsLineFront bytes × Uses a c h [] bytes
line_waits a b c h k u f keeps = (k, f, uses_all a b c h k u keeps)

-- ---- what follows the line

pub rest_none : (a : Option (List ℕ)) (h : List ℕ) (line : Line) (wire : Wire) → (body_length line ≡ None) × (wire ≡ wire_of line []) → IsRest a a h h line wire 0
rest_none a h line wire s =
    let W : Option ℕ → Type 0 = λ o. IsBody o [] in
    let C : Option ℕ → Type 0 = λ o. 0 ≡ length (body_bytes o []) in
    let U : Option ℕ → Type 0 = λ o. Uses a a h h (body_bytes o []) in
    record { body = []; whole = subst W (sym s.0) refl; is = s.1; counted = subst C (sym s.0) refl; uses = subst U (sym s.0) (uses_nothing a h) }

pub rest_put : (a b : Option (List ℕ)) (h k : List ℕ) (n : ℕ) (path kept : List ℕ) (line : Line) → IsWhole a b h k n 1000001 kept → line ≡ Put n path → IsRest a b h k line (wires.Put path kept) (n + 1)
rest_put a b h k n path kept line w e =
    let P : Line → Type 0 = λ l. IsRest a b h k l (wires.Put path kept) (n + 1) in
    let len : length (w.body ++ (10 ∷ [])) ≡ length w.body + 1 = length-append w.body (10 ∷ []) in
    let size = w.whole in
    subst P (sym e) (record { body = w.body; whole = w.whole; is = ap (λ (l : List ℕ). wires.Put path l) w.is; counted = omega arith; uses = w.uses })

pub rest_rule : (a b : Option (List ℕ)) (h k : List ℕ) (n : ℕ) (name kept : List ℕ) (line : Line) → IsWhole a b h k n 262145 kept → line ≡ Rule n name → IsRest a b h k line (wires.Rule name kept) (n + 1)
rest_rule a b h k n name kept line w e =
    let P : Line → Type 0 = λ l. IsRest a b h k l (wires.Rule name kept) (n + 1) in
    let len : length (w.body ++ (10 ∷ [])) ≡ length w.body + 1 = length-append w.body (10 ∷ []) in
    let size = w.whole in
    subst P (sym e) (record { body = w.body; whole = w.whole; is = ap (λ (l : List ℕ). wires.Rule name l) w.is; counted = omega arith; uses = w.uses })

pub no_rest_put : (a : Option (List ℕ)) (h : List ℕ) (n : ℕ) (path : List ℕ) (line : Line) → OfStream a h (IsNoWhole n) → line ≡ Put n path → OfStream a h (IsNoRest line)
no_rest_put a h n path line w e = let P : Line → Type 0 = λ l. OfStream a h (IsNoRest l) in subst P (sym e) w

pub no_rest_rule : (a : Option (List ℕ)) (h : List ℕ) (n : ℕ) (name : List ℕ) (line : Line) → OfStream a h (IsNoWhole n) → line ≡ Rule n name → OfStream a h (IsNoRest line)
no_rest_rule a h n name line w e = let P : Line → Type 0 = λ l. OfStream a h (IsNoRest l) in subst P (sym e) w

pub size_put : (n : ℕ) (path : List ℕ) (line : Line) → IsLine line → line ≡ Put n path → n ≤ 268435456
size_put n path line g e = let P : Line → Type 0 = λ l. IsLine l in let h = subst P e g in h.0

pub size_rule : (n : ℕ) (name : List ℕ) (line : Line) → IsLine line → line ≡ Rule n name → n ≤ 268435456
size_rule n name line g e = let P : Line → Type 0 = λ l. IsLine l in let h = subst P e g in h.0

-- ---- the whole

line_end_used : (a b : Option (List ℕ)) (h k k2 : List ℕ) (end : ℕ) → Uses a b h k [] → IsLineEnd k end → k2 ≡ drop (end + 1) k → Uses a b h k2 (take end k ++ (10 ∷ []))
line_end_used a b h k k2 end u e d =
    uses_then a b b h k k2 [] (take end k ++ (10 ∷ [])) u (uses_hand b k k2 (take end k ++ (10 ∷ [])) (line_used k end e ∙ ap (λ (l : List ℕ). (take end k ++ (10 ∷ [])) ++ l) (sym d)))

pub command_used : (a b c : Option (List ℕ)) (h k k2 m : List ℕ) (end : ℕ) (line : Line) (wire : Wire) (count : ℕ) → Uses a b h k [] → IsLineEnd k end → IsLineOf (take end k) line → k2 ≡ drop (end + 1) k
    → IsRest b c k2 m line wire count → Used a c h m wire (end + 1 + count)
command_used a b c h k k2 m end line wire count u e is d r =
    let B = body_bytes (body_length line) r.body in
    let within = e.within in
    let size : length (take end k) ≡ end = length-take-le end k (omega arith) in
    let same : length (take end k) ≡ length (line_bytes line) = ap length is.are in
    let all : length (line_bytes line ++ (10 ∷ B)) ≡ length (line_bytes line) + length (10 ∷ B) = length-append (line_bytes line) (10 ∷ B) in
    let counted = r.counted in
    let bytes : (take end k ++ (10 ∷ [])) ++ B ≡ line_bytes line ++ (10 ∷ B) = append_assoc (take end k) (10 ∷ []) B ∙ ap (λ (l : List ℕ). l ++ (10 ∷ B)) is.are in
    record {
      line = line;
      body = r.body;
      good = is.good;
      whole = r.whole;
      is = r.is;
      counted = omega arith;
      uses = uses_is a c h m ((take end k ++ (10 ∷ [])) ++ B) (line_bytes line ++ (10 ∷ B)) bytes (uses_then a b c h k2 m (take end k ++ (10 ∷ [])) B (line_end_used a b h k k2 end u e d) r.uses);
    }

pub no_line_read : (a b : Option (List ℕ)) (h k : List ℕ) (end : ℕ) → Uses a b h k [] → IsLineEnd k end → IsNoLine (take end k) → OfStream a h BeginsNone
no_line_read a b h k end u e none = told_before a b h k [] BeginsNone BeginsNone u (λ s p. p) (told_by_hand b k BeginsNone (no_line k end e none))

pub no_rest_read : (a b : Option (List ℕ)) (h k k2 : List ℕ) (end : ℕ) (line : Line) → Uses a b h k [] → IsLineEnd k end → k2 ≡ drop (end + 1) k → IsLineOf (take end k) line → OfStream b k2 (IsNoRest line) → OfStream a h BeginsNone
no_rest_read a b h k k2 end line u e d is none =
    told_before a b h k2 (take end k ++ (10 ∷ [])) BeginsNone (IsNoRest line) (line_end_used a b h k k2 end u e d) (λ s p. no_rest (take end k) line s is p) none

-- ---- where a read fails

some_body : (o : Option ℕ) → (body : List ℕ) × IsBody o body
some_body None = ([], refl)
some_body (Some n) = (replicate n 0, length-replicate n 0)

pub front_of_command : (bytes : List ℕ) → IsLineFront bytes → IsCommandFront bytes
front_of_command bytes f =
    let b = some_body (body_length f.line) in
    let B = body_bytes (body_length f.line) b.0 in
    let n : length (f.rest ++ (10 ∷ B)) ≡ length f.rest + length (10 ∷ B) = length-append f.rest (10 ∷ B) in
    record {
      line = f.line;
      body = b.0;
      rest = f.rest ++ (10 ∷ B);
      good = f.good;
      whole = b.1;
      some = omega arith;
      are = ap (λ (l : List ℕ). l ++ (10 ∷ B)) f.are ∙ append_assoc bytes f.rest (10 ∷ B);
    }

pub line_read_waits : (a c : Option (List ℕ)) (h : List ℕ) → (bytes : List ℕ) × IsLineFront bytes × Uses a c h [] bytes → Waits a c h
line_read_waits a c h w = (w.0, front_of_command w.0 w.1, w.2)

-- a front of the body
front_of_rest : (o : Option ℕ) (n : ℕ) (used : List ℕ) → o ≡ Some n → length used ≤ n → (body rest : List ℕ) × IsBody o body × (0 < length rest) × (body_bytes o body ≡ used ++ rest)
front_of_rest o n used e le =
    let P : Option ℕ → Type 0 = λ o. (body rest : List ℕ) × IsBody o body × (0 < length rest) × (body_bytes o body ≡ used ++ rest) in
    let fill = replicate (n - length used) 0 in
    let size : length fill ≡ n - length used = length-replicate (n - length used) 0 in
    let all : length (used ++ fill) ≡ length used + length fill = length-append used fill in
    let ends : length (fill ++ (10 ∷ [])) ≡ length fill + 1 = length-append fill (10 ∷ []) in
    let whole : length (used ++ fill) ≡ n = omega arith in
    let some : 0 < length (fill ++ (10 ∷ [])) = omega arith in
    subst P (sym e) (used ++ fill, fill ++ (10 ∷ []), whole, some, append_assoc used fill (10 ∷ []))

pub rest_read_waits : (a b c : Option (List ℕ)) (h k k2 : List ℕ) (end n : ℕ) (line : Line) → Uses a b h k [] → IsLineEnd k end → k2 ≡ drop (end + 1) k → IsLineOf (take end k) line → body_length line ≡ Some n → WaitsWithin b c k2 n → Waits a c h
rest_read_waits a b c h k k2 end n line u e d is size w =
    let f = front_of_rest (body_length line) n w.0 size w.1 in
    let T = take end k ++ (10 ∷ []) in
    let are : command_bytes line f.0 ≡ (T ++ w.0) ++ f.1 =
    ap (λ (l : List ℕ). l ++ (10 ∷ body_bytes (body_length line) f.0)) (sym is.are) ∙ sym (append_assoc (take end k) (10 ∷ []) (body_bytes (body_length line) f.0))
    ∙ ap (λ (l : List ℕ). T ++ l) f.4 ∙ sym (append_assoc T w.0 f.1) in (
      T ++ w.0,
      record { line = line; body = f.0; rest = f.1; good = is.good; whole = f.2; some = f.3; are = are },
      uses_then a b c h k2 [] T w.0 (line_end_used a b h k k2 end u e d) w.2,
    )

-- ---- a command that is too long

pub used_longer : (a b : Option (List ℕ)) (h k : List ℕ) (wire : Wire) (count most : ℕ) → Used a b h k wire count → most < count → OfStream a h (BeginsLonger most)
used_longer None b h k wire count most u lt = tt
used_longer (Some xs) None h k wire count most u lt = absurd u.uses
used_longer (Some xs) (Some ys) h k wire count most u lt =
    let n = u.counted in
    record { line = u.line; body = u.body; rest = k ++ ys; begins = record { good = u.good; whole = u.whole; are = u.uses }; longer = omega arith }

-- ---- the feed

pub longer_fault : (a b : Option (List ℕ)) (feed : FeedState) (h k : List ℕ) (wire : Wire) (place count : ℕ) → h ≡ feed.hand → place ≡ feed.place → place ≤ 268435456 → Used a b h k wire count → 268435456 < place + count
    → OfStream a feed.hand (BeginsLonger (268435456 - feed.place))
longer_fault a b feed h k wire place count eh ep low u lt =
    let P : List ℕ → Type 0 = λ l. OfStream a l (BeginsLonger (268435456 - feed.place)) in
    subst P eh (used_longer a b h k wire count (268435456 - feed.place) u (omega arith))

pub next_of : (a b : Option (List ℕ)) (feed : FeedState) (h k : List ℕ) (wire : Wire) (place count : ℕ) → h ≡ feed.hand → place ≡ feed.place → Used a b h k wire count → place + count ≤ 268435456
    → Next a b feed (record { place = place + count; hand = k; failed = false }) wire
next_of a b feed h k wire place count eh ep u le =
    let P : List ℕ → Type 0 = λ l. Used a b l k wire count in
    record { count = count; used = subst P eh u; place = ap (λ (n : ℕ). n + count) ep; within = le }

pub fault_is : (a : Option (List ℕ)) (feed : FeedState) (h : List ℕ) (place : ℕ) (trouble : Trouble) (r : WireFault) → h ≡ feed.hand → place ≡ feed.place → r ≡ fault_of trouble place → (trouble ≡ Bad → OfStream a h BeginsNone) → IsFault a feed r
fault_is a feed h place Memory r eh ep e f = let P : WireFault → Type 0 = λ x. IsFault a feed x in subst P (sym e) tt
fault_is a feed h place Failed r eh ep e f = let P : WireFault → Type 0 = λ x. IsFault a feed x in subst P (sym e) tt
fault_is a feed h place Bad r eh ep e f =
    let P : WireFault → Type 0 = λ x. IsFault a feed x in
    let Q : List ℕ → Type 0 = λ l. OfStream a l BeginsNone in
    subst P (sym e) (ep, subst Q eh (f refl))

pub waits_is : (a c : Option (List ℕ)) (feed : FeedState) (h : List ℕ) (place : ℕ) (trouble : Trouble) (r : WireFault) → h ≡ feed.hand → r ≡ fault_of trouble place → r ≡ faults.Failed → (trouble ≡ Failed → Waits a c h) → Waits a c feed.hand
waits_is a c feed h place Memory r eh e is f = absurd cc
waits_is a c feed h place Failed r eh e is f = let Q : List ℕ → Type 0 = λ l. Waits a c l in subst Q eh (f refl)
waits_is a c feed h place Bad r eh e is f = absurd cc

pub cause_is : (m n : ℕ) (place : ℕ) (trouble : Trouble) (r : WireFault) → r ≡ fault_of trouble place → HasTroubleCause m n trouble → HasWireCause m n (Err r)
cause_is m n place Memory r e h = let P : WireFault → Type 0 = λ x. HasWireCause m n (Err x) in subst P (sym e) h
cause_is m n place Failed r e h = let P : WireFault → Type 0 = λ x. HasWireCause m n (Err x) in subst P (sym e) h
cause_is m n place Bad r e h = let P : WireFault → Type 0 = λ x. HasWireCause m n (Err x) in subst P (sym e) h
