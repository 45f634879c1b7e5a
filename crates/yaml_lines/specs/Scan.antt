-- How far a value has come: whether a quote or a flow sequence is open.
use Rattle.std.specs.Prelude.{ℕ, ◌+◌, ◌-◌, List, [], ◌∷◌, ◌==◌, ◌||◌, ◌&&◌, nat_lt, if◌then◌else◌, Bool, true, false}
use Rattle.yaml_lines.specs.Blanks.{is_blank}
use Rattle.yaml_lines.specs.declared.scan.Place.{Place}
use Rattle.yaml_lines.specs.declared.scan.Place.TheVariants.{Begin, Inside, Single, SingleEnd, Double, Escape}
use Rattle.yaml_lines.specs.declared.scan.Scan.{Scan}
use Rattle.yaml_lines.specs.declared.scan.Scanned.{Scanned}

-- a place with so many sequences open
abbrev pub at_place : Place → ℕ → Scan
at_place place depth = record { place = place; depth = depth }

-- where no scalar may begin, `,` begins an item and `]` ends a sequence, if one is open
abbrev pub after_inside : ℕ → ℕ → Scan
after_inside depth b =
    if depth == 0 then at_place Inside depth
    else (if b == 44 then at_place Begin depth else (if b == 93 then at_place Inside (depth - 1) else at_place Inside depth))

-- where a scalar may begin, a quote or `[` begins one
abbrev pub after_begin : ℕ → ℕ → Scan
after_begin depth b =
    if is_blank b then at_place Begin depth
    else (if b == 91 then at_place Begin (depth + 1)
    else (if b == 39 then at_place Single depth else (if b == 34 then at_place Double depth else after_inside depth b)))

-- the place after a byte at each place
abbrev pub after_at : Place → ℕ → ℕ → Scan
after_at Begin depth b = after_begin depth b
after_at Inside depth b = after_inside depth b
after_at Single depth b = if b == 39 then at_place SingleEnd depth else at_place Single depth
after_at SingleEnd depth b = if b == 39 then at_place Single depth else after_inside depth b
after_at Double depth b = if b == 92 then at_place Escape depth else (if b == 34 then at_place Inside depth else at_place Double depth)
after_at Escape depth b = at_place Double depth

-- the place after one more byte
abbrev pub after : Scan → ℕ → Scan
after s b = after_at s.place s.depth b

-- at a line's end a quote has ended its scalar, and a backslash has no more to escape
abbrev pub next_place : Place → Place
next_place SingleEnd = Inside
next_place Escape = Double
next_place place = place

-- the place at the start of the next line
abbrev pub next_line : Scan → Scan
next_line s = at_place (next_place s.place) s.depth

-- a quote is open
abbrev pub is_quoted : Place → Bool
is_quoted Single = true
is_quoted Double = true
is_quoted Escape = true
is_quoted place = false

-- a quote or a flow sequence is open
abbrev pub is_open : Scan → Bool
is_open s = nat_lt 0 s.depth || is_quoted s.place

-- a comment may begin here
abbrev pub is_free : Place → Bool
is_free Begin = true
is_free Inside = true
is_free place = false

-- the byte begins a comment: `gap` says whether a blank or nothing stands before it
abbrev pub begins_comment : Bool → Place → ℕ → Bool
begins_comment gap place b = (gap && b == 35) && is_free place

-- the same behind one more byte
abbrev pub one_more : Scanned → Scanned
one_more r = record { scan = r.scan; len = r.len + 1; comment = r.comment }

-- a line from a place on, up to its comment: `gap` says whether the byte before is a blank, or there is none
abbrev pub scan_at : Bool → Scan → List ℕ → Scanned
scan_at gap s [] = record { scan = s; len = 0; comment = false }
scan_at gap s (b ∷ bs) =
    if begins_comment gap s.place b then record { scan = s; len = 0; comment = true } else one_more (scan_at (is_blank b) (after s b) bs)

-- a whole line from a place on
abbrev pub scan_line : Scan → List ℕ → Scanned
scan_line s line = scan_at true s line
