-- What the places of a file say of names: those that assign a name, have it as a parameter, or say that it is global or nonlocal.
use Rattle.std.specs.Prelude.{ℕ, ◌==◌, Bool, true, false, nat_lt, if◌then◌else◌, List, [], ◌∷◌, ◌++◌, length, map, filter, slice_get, Option, Some, None, codes}
use Rattle.std.specs.List.{flat_map, slice_split}
use Rattle.std.specs.Str.{bytes_eq}
use Rattle.std.specs.Option.{option_map}
use Rattle.std.specs.Borrow.{Bor}
use Rattle.node_tree.specs.declared.node.Node.{Node, fold-Node}
use Rattle.node_tree.specs.declared.kind.Kind.{Kind}
use Rattle.node_tree.specs.declared.kind.Kind.TheVariants as kinds
use Rattle.node_tree.specs.Numbers.{root_of}
use Rattle.node_tree.specs.Tree.{pre_of, kind_of, text_of, kids_of}
use Rattle.assignments.specs.declared.assignment.Manner.{Manner}
use Rattle.assignments.specs.declared.assignment.Manner.TheVariants as manners
use Rattle.assignments.specs.declared.assignment.Reach.{Reach}
use Rattle.assignments.specs.declared.assignment.Reach.TheVariants as reaches
use Rattle.assignments.specs.Assignments.{assigned_in, first_part}
use Rattle.assignments.specs.Seen.{Named, Assigned}
use Rattle.assignments.specs.Targets.{is_name}
use Rattle.import_names.specs.declared.claim.Claim.{Claim}
use Rattle.import_names.specs.declared.alias.Origin.{Origin}
use Rattle.import_names.specs.declared.alias.Origin.TheVariants as origins

-- a name that stands for no other
abbrev pub plain : List ℕ → Claim
plain name = record { name = name; parts = [] }

-- ---- what is assigned

-- a name that holds the object of a target isn't assigned
abbrev pub unless_base : Reach → List ℕ → List Claim
unless_base reaches.Base name = []
unless_base _ name = plain name ∷ []

abbrev pub target_claims : Named → List Claim
target_claims target = unless_base target.reach target.name

-- imports are looked at by themselves
abbrev pub by_manner : Manner → List Named → List Claim
by_manner manners.Imported targets = []
by_manner _ targets = flat_map target_claims targets

abbrev pub assigned_claims : Assigned → List Claim
assigned_claims a = by_manner a.manner a.targets

-- ---- imports

-- a dotted name, part by part
abbrev pub dotted : List ℕ → List (List ℕ)
dotted text = slice_split (λ byte. byte == 46) text

-- more than ten parts aren't taken
abbrev pub at_most_ten : List (List ℕ) → List (List ℕ)
at_most_ten parts = if nat_lt 10 (length parts) then [] else parts

-- what is imported under that name stands for these parts: the name behind those of the module, if it is from one; what is
-- relative to the file's own package stands for none
abbrev pub full_name : Origin → List ℕ → List (List ℕ)
full_name origins.Whole name = at_most_ten (dotted name)
full_name (origins.Module source) name = at_most_ten (dotted source ++ dotted name)
full_name origins.Relative name = []

-- of what is imported without `as` the first part is bound; it is an alias where there is no other part
abbrev pub unnamed : Origin → List ℕ → List Claim
unnamed origin name =
    if bytes_eq name (codes "*") then [] else
    (if bytes_eq (first_part name) name then record { name = name; parts = full_name origin name } ∷ [] else plain (first_part name) ∷ [])

-- the name that a node is which is no expression
abbrev pub id_by : Kind → List ℕ → Option (List ℕ)
id_by kinds.Id text = Some text
id_by _ text = None

abbrev pub id_of : Node → Option (List ℕ)
id_of n = id_by (kind_of n) (text_of n)

-- the same of the node at a place among kids
abbrev pub id_in : Option Node → Option (List ℕ)
id_in None = None
id_in (Some n) = id_of n

abbrev pub plain_in : Option (List ℕ) → List Claim
plain_in None = []
plain_in (Some name) = plain name ∷ []

-- the name behind `as`, and what is imported
abbrev pub imported : Origin → Option (List ℕ) → Option (List ℕ) → List Claim
imported origin None None = []
imported origin None (Some name) = unnamed origin name
imported origin (Some bound) None = plain bound ∷ []
imported origin (Some bound) (Some name) = record { name = bound; parts = full_name origin name } ∷ []

abbrev pub alias_by : Origin → Kind → List Node → List Claim
alias_by origin kinds.Alias kids = imported origin (id_in (slice_get kids 1)) (id_in (slice_get kids 0))
alias_by origin _ kids = []

abbrev pub alias_claims : Origin → Node → List Claim
alias_claims origin alias = alias_by origin (kind_of alias) (kids_of alias)

-- the module that a `from` names, behind these dots
abbrev pub origin_of : List ℕ → Option (List ℕ) → Origin
origin_of [] (Some source) = origins.Module source
origin_of dots source = origins.Relative

abbrev pub aliases_in : Option Node → List Node
aliases_in None = []
aliases_in (Some list) = kids_of list

-- what a `from` with these dots and kids says: the module, and the list of what is imported
abbrev pub from_by : List ℕ → List Node → List Claim
from_by dots kids = flat_map (alias_claims (origin_of dots (id_in (slice_get kids 0)))) (aliases_in (slice_get kids 1))

-- ---- variables of comprehensions

abbrev pub holds_parts : Kind → Bool
holds_parts kinds.Tuple = true
holds_parts kinds.ListLit = true
holds_parts kinds.Star = true
holds_parts _ = false

-- the names of a target, where each of its kids has these
abbrev pub names_by : Kind → List ℕ → List (List (List ℕ)) → List (List ℕ)
names_by kind text kids = if is_name kind then text ∷ [] else (if holds_parts kind then flat_map (λ names. names) kids else [])

-- the names of a target: it is one, or has parts
unfoldable pub target_names : Node → List (List ℕ)
target_names = fold-Node (List (List ℕ)) (λ x. names_by x.kind x.text x.kids)

abbrev pub names_in : Option Node → List (List ℕ)
names_in None = []
names_in (Some target) = target_names target

-- what a `for` of a comprehension with these kids says of the names of its target
abbrev pub variables_by : List Node → List Claim
variables_by kids = map plain (names_in (slice_get kids 0))

-- ---- all of them

-- what a node with that text and these kids says that assigns nothing itself
abbrev pub own_by : Kind → List ℕ → List Node → List Claim
own_by kinds.Import text kids = flat_map (alias_claims origins.Whole) kids
own_by kinds.FromImport text kids = from_by text kids
own_by kinds.Param text kids = plain_in (id_in (slice_get kids 0))
own_by kinds.CompFor text kids = variables_by kids
own_by kinds.Global text kids = flat_map (λ n. plain_in (id_of n)) kids
own_by kinds.Nonlocal text kids = flat_map (λ n. plain_in (id_of n)) kids
own_by _ text kids = []

abbrev pub own_claims : Node → List Claim
own_claims n = own_by (kind_of n) (text_of n) (kids_of n)

-- what is said of names in a file: of what is assigned anywhere, then of what nodes say themselves
abbrev pub claims_of : Node → List Claim
claims_of tree = flat_map assigned_claims (assigned_in false (root_of tree)) ++ flat_map own_claims (pre_of tree)

-- what a name stands for by all that is said of it: what one place says, where there is no other
abbrev pub by_only : List Claim → List (List ℕ)
by_only (claim ∷ []) = claim.parts
by_only _ = []

abbrev pub said_of : List ℕ → List Claim → List Claim
said_of name claims = filter (λ c. bytes_eq c.name name) claims

-- the dotted name for which a name stands, none where it stands for no other
abbrev pub meaning : List Claim → List ℕ → List (List ℕ)
meaning claims name = by_only (said_of name claims)

-- ---- for private clauses

abbrev pub assigned_in_all : Node → List Claim
assigned_in_all tree = flat_map assigned_claims (assigned_in false (root_of tree))

abbrev pub from_claims : Node → List Claim
from_claims n = from_by (text_of n) (kids_of n)

abbrev pub variable_claims : Node → List Claim
variable_claims n = variables_by (kids_of n)

-- a text that is lent, if there is one
abbrev pub seen_text : Option (Bor (List ℕ)) → Option (List ℕ)
seen_text = option_map (λ (t : Bor (List ℕ)). t.now)
