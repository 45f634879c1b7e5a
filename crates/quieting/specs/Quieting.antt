-- Which findings comments quiet.
use Rattle.std.specs.Prelude.{ℕ, ◌+◌, ◌==◌, true, false, if◌then◌else◌, List, [], ◌∷◌, slice_range, Option, None, Some}
use Rattle.std.specs.List.{filter_map}
use Rattle.node_tree.specs.declared.span.Span.{Span}
use Rattle.node_tree.specs.Places.{lines_before}
use Rattle.quieting.specs.declared.quiet.Quiet.{Quiet}
use Rattle.quieting.specs.Words.{begins_gap}
use Rattle.quieting.specs.Comments.{content_of, past_word}
use Rattle.quieting.specs.Ids.{ids_in}

-- what a comment on that line quiets, by what follows its word: all rules where the word ends there, and behind a colon the rules of these ids; else it counts for nothing
abbrev pub said : ℕ → List ℕ → Option Quiet
said line [] = Some (record { line = line; all = true; ids = [] })
said line (b ∷ bs) =
    if begins_gap (b ∷ bs) then Some (record { line = line; all = true; ids = [] }) else (if b == 58 then Some (record { line = line; all = false; ids = ids_in bs }) else None)

-- the same by what stands in it
abbrev pub quiet_in : ℕ → List ℕ → Option Quiet
quiet_in line content = elim (past_word content) [ None ↦ None | Some rest ↦ said line rest ]

-- the same of a comment at that range of a text; its line is that of its first byte
abbrev pub quiet_of : List ℕ → Span → Option Quiet
quiet_of text span = quiet_in (lines_before text span.from + 1) (content_of (slice_range text span.from span.to))

-- of those comments that count, in order
abbrev pub quiets_of : List ℕ → List Span → List Quiet
quiets_of text comments = filter_map (quiet_of text) comments
