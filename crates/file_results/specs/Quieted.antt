-- Which findings comments quiet, where texts have the trees and the comments that a reader gives.
use Rattle.std.specs.Prelude.{◌≡◌, ◌↔◌, ℕ, Bool, true, if◌then◌else◌, List, [], ◌∷◌}
use Rattle.node_tree.specs.declared.span.Span.{Span}
use Rattle.node_tree.specs.declared.view.Lang.{Lang}
use Rattle.node_tree.specs.declared.view.Lang.TheVariants.{Python, C}
use Rattle.node_match.specs.Sets.{Among}
use Rattle.tree_match.specs.Ascending.{IsAscending}
use Rattle.file_open.specs.Reading.{Spells}
use Rattle.file_open.specs.Naming.{Knows}
use Rattle.quieting.specs.declared.quiet.Quiet.{Quiet}
use Rattle.quieting.specs.Comments.{quieting_word}
use Rattle.quieting.specs.Quieting.{quiets_of}
use Rattle.quieting.specs.Lines.{is_quieted}
use Rattle.report_form.specs.declared.report.Reported.{Reported}
use Rattle.memchr.specs.Find.{OccursAt}
use Rattle.file_results.specs.Looking.{LeafOf, own_leaf}
use Rattle.file_results.specs.Reports.{reported_cmp}

-- which texts of a language have which comments
abbrev pub Comments : Type 1
Comments = Lang → List ℕ → List Span → Type 0

-- which trees and which comments texts have, which names are known in the trees, which members patterns have in files with them,
-- and whether findings have their traces
pub record Grammars : Type 1 where
  pub spells : Spells
  pub knows : Knows
  pub comments : Comments
  pub leaf_of : LeafOf
  pub traced : Bool

-- those where patterns see through imports, by the names that are known in the trees
abbrev pub grammars_of : Spells → Knows → Comments → Bool → Grammars
grammars_of spells knows comments traced = record { spells = spells; knows = knows; comments = comments; leaf_of = own_leaf knows; traced = traced }

-- a file in the language with this text has these comments; one in another language than Python and C has none
abbrev pub HasComments : Comments → Lang → List ℕ → List Span → Type 0
HasComments comments Python text spans = comments Python text spans
HasComments comments C text spans = comments C text spans
HasComments comments _ text spans = spans ≡ []

-- one of these comments stands on the line that the finding begins on, or on the line before, and quiets its rule
abbrev pub is_quieted_by : List Quiet → Reported → Bool
is_quieted_by quiets r = is_quieted quiets r.start.line r.id

-- a comment of the file quiets the finding
abbrev pub IsQuietedIn : Comments → Lang → List ℕ → Reported → Type 0
IsQuietedIn comments lang text r = (spans : List Span) × HasComments comments lang text spans × (is_quieted_by (quiets_of text spans) r ≡ true)

-- ---- for private clauses

-- the word that comments quiet by stands somewhere in the text
abbrev pub HasWord : List ℕ → Type 0
HasWord text = (at : ℕ) × OccursAt text quieting_word at

-- the comments of the file quiet this
pub record AreQuiets (comments : Comments) (lang : Lang) (text : List ℕ) (quiets : List Quiet) : Type 0 where
  pub spans : List Span
  pub has : HasComments comments lang text spans
  pub only : (others : List Span) → HasComments comments lang text others → others ≡ spans
  pub are : quiets ≡ quiets_of text spans

-- of as many items as there are marks those whose mark is false, in the same order
abbrev pub unmarked : {X : Type 0} → List Bool → List X → List X
unmarked [] xs = []
unmarked (m ∷ ms) [] = []
unmarked (m ∷ ms) (x ∷ xs) = if m then unmarked ms xs else x ∷ unmarked ms xs

-- of these findings the ones that no comment of the file quiets, in the same order
pub record AreUnquieted (comments : Comments) (lang : Lang) (text : List ℕ) (found kept : List Reported) : Type 0 where
  pub exact : (r : Reported) → Among kept r ↔ (Among found r × (IsQuietedIn comments lang text r → ⊥))
  pub ordered : IsAscending reported_cmp found → IsAscending reported_cmp kept
