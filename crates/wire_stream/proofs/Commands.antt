-- The bytes of commands.
use Rattle.std.proofs.Common.{◌≡◌, ℕ, ◌+◌, ◌≤◌, List, [], ◌∷◌, ◌++◌, length, take, drop, sym, ap, ◌∙◌, subst, arith, append_assoc}
use Rattle.std.specs.Prelude.{Option, None, Some}
use Rattle.wire_stream.specs.Lines.{Line, line_bytes}
use Rattle.wire_stream.specs.Asked.{IsLineOf, IsNoLine}
use Rattle.wire_stream.specs.Commands.{body_length, IsBody, body_bytes, Begins, BeginsNone}
use Rattle.wire_stream.specs.Heads.{Lacks, IsLineEnd, IsNoRest}
use Rattle.wire_stream.proofs.Firsts.{same_first, same_fronts, parts_at, lacks_before, front_before, no_place}
use Rattle.wire_stream.proofs.Lines.{line_lacks, line_short, same_line}

-- a line, and what follows its end
pub begins_line : (stream : List ℕ) (line : Line) (body rest : List ℕ) → Begins stream line body rest → stream ≡ line_bytes line ++ (10 ∷ (body_bytes (body_length line) body ++ rest))
begins_line stream line body rest b = b.are ∙ append_assoc (line_bytes line) (10 ∷ body_bytes (body_length line) body) rest

same_body : (o : Option ℕ) (x y r s : List ℕ) → IsBody o x → IsBody o y → body_bytes o x ++ r ≡ body_bytes o y ++ s → (x ≡ y) × (r ≡ s)
same_body None x y r s g h e = (g ∙ sym h, e)
same_body (Some n) x y r s g h e =
    let t = same_fronts x y ((10 ∷ []) ++ r) ((10 ∷ []) ++ s) (g ∙ sym h) (sym (append_assoc x (10 ∷ []) r) ∙ e ∙ append_assoc y (10 ∷ []) s) in
    (t.0, cc)

-- no command begins another
pub same_command : (stream : List ℕ) (a b : Line) (x y r s : List ℕ) → Begins stream a x r → Begins stream b y s → (a ≡ b) × (x ≡ y) × (r ≡ s)
same_command stream a b x y r s f g =
    let t = same_first 10 (line_bytes a) (body_bytes (body_length a) x ++ r) (line_bytes b) (body_bytes (body_length b) y ++ s) (line_lacks a f.good) (line_lacks b g.good)
    (sym (begins_line stream a x r f) ∙ begins_line stream b y s g) in
    let same = same_line a b f.good g.good t.0 in
    let P : Line → Type 0 = λ l. IsBody (body_length l) y in
    let Q : Line → Type 0 = λ l. body_bytes (body_length a) x ++ r ≡ body_bytes (body_length l) y ++ s in
    let u = same_body (body_length a) x y r s f.whole (subst P (sym same) g.whole) (subst Q (sym same) t.1) in
    (same, u.0, u.1)

-- a line that was found, its end, and what follows
pub line_parts : (bytes : List ℕ) (end : ℕ) → IsLineEnd bytes end → bytes ≡ take end bytes ++ (10 ∷ drop (end + 1) bytes)
line_parts bytes end e = parts_at bytes end 10 e.within e.is

pub line_used : (bytes : List ℕ) (end : ℕ) → IsLineEnd bytes end → bytes ≡ (take end bytes ++ (10 ∷ [])) ++ drop (end + 1) bytes
line_used bytes end e = line_parts bytes end e ∙ sym (append_assoc (take end bytes) (10 ∷ []) (drop (end + 1) bytes))

pub end_lacks : (bytes : List ℕ) (end : ℕ) → IsLineEnd bytes end → Lacks 10 (take end bytes)
end_lacks bytes end e = lacks_before bytes end 10 e.within e.first

-- where the line is none, no command begins
pub no_line : (bytes : List ℕ) (end : ℕ) → IsLineEnd bytes end → IsNoLine (take end bytes) → (more : List ℕ) → BeginsNone (bytes ++ more)
no_line bytes end e none more line body rest b =
    let whole : bytes ++ more ≡ take end bytes ++ (10 ∷ (drop (end + 1) bytes ++ more)) =
    ap (λ (l : List ℕ). l ++ more) (line_parts bytes end e) ∙ append_assoc (take end bytes) (10 ∷ drop (end + 1) bytes) more in
    let t = same_first 10 (take end bytes) (drop (end + 1) bytes ++ more) (line_bytes line) (body_bytes (body_length line) body ++ rest) (end_lacks bytes end e) (line_lacks line b.good)
    (sym whole ∙ begins_line (bytes ++ more) line body rest b) in
    none line (record { good = b.good; are = t.0 })

-- where what follows the line isn't its body, no command begins
pub no_rest : (front : List ℕ) (line : Line) (stream : List ℕ) → IsLineOf front line → IsNoRest line stream → BeginsNone ((front ++ (10 ∷ [])) ++ stream)
no_rest front line stream is none other body rest b =
    let whole : (front ++ (10 ∷ [])) ++ stream ≡ line_bytes line ++ (10 ∷ stream) = append_assoc front (10 ∷ []) stream ∙ ap (λ (l : List ℕ). l ++ (10 ∷ stream)) is.are in
    let t = same_first 10 (line_bytes line) stream (line_bytes other) (body_bytes (body_length other) body ++ rest) (line_lacks line is.good) (line_lacks other b.good)
    (sym whole ∙ begins_line ((front ++ (10 ∷ [])) ++ stream) other body rest b) in
    let same = same_line line other is.good b.good t.0 in
    let P : Line → Type 0 = λ l. IsBody (body_length l) body in
    let Q : Line → Type 0 = λ l. stream ≡ body_bytes (body_length l) body ++ rest in
    none body rest (subst P (sym same) b.whole) (subst Q (sym same) t.1)

-- a front that is too long has no line
pub too_long : (bytes : List ℕ) → Lacks 10 bytes → 1040 ≤ length bytes → (more : List ℕ) → BeginsNone (bytes ++ more)
too_long bytes l long more line body rest b =
    let low = front_before 10 bytes more (line_bytes line) (body_bytes (body_length line) body ++ rest) l (begins_line (bytes ++ more) line body rest b) in
    let short = line_short line b.good in
    absurd (omega arith)

-- a front without an end of a line, and nothing more
pub no_end : (bytes : List ℕ) → Lacks 10 bytes → BeginsNone bytes
no_end bytes l line body rest b = no_place 10 bytes (line_bytes line) (body_bytes (body_length line) body ++ rest) l (begins_line bytes line body rest b)
