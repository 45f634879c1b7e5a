-- The edges of a unit, as a relation on its statements, what follows them and what stands around them.
use Rattle.std.specs.Prelude.{◌≡◌, ◌⊎◌, ◌++◌, ◌||◌, ℕ, zero, suc, Bool, true, false, List, [], ◌∷◌, map, take, drop}
use Rattle.std.specs.List.{flat_map}
use Rattle.graph_form.specs.declared.graph.Point.{Point}
use Rattle.graph_form.specs.declared.graph.Role.{Role}
use Rattle.graph_form.specs.declared.graph.Role.TheVariants as roles
use Rattle.flow_edges.specs.declared.statement.Form.{Form}
use Rattle.flow_edges.specs.declared.statement.Form.TheVariants as forms
use Rattle.flow_edges.specs.declared.statement.Statement.{Statement, out-Statement}
use Rattle.flow_edges.specs.declared.around.Around.{Around}
use Rattle.graph_form.specs.Sets.{Among}

abbrev pub form_of : Statement → Form
form_of s = (out-Statement s).form

abbrev pub kids_of : Statement → List Statement
kids_of s = (out-Statement s).kids

-- a point of a statement
abbrev pub at : Role → Statement → Point
at role s = record { node = (out-Statement s).number; role = role }

abbrev pub head : Statement → Point
head s = at roles.Head s

-- the k-th part
abbrev pub part : ℕ → List Statement → List Statement
part k kids = take 1 (drop k kids)

abbrev pub Route : Type 0
Route = List (List Point)

-- the same around, but something else follows
abbrev pub before : List Point → Around → Around
before next c = record c { next = next }

-- the first points of statements in a row; where there is none, what follows
abbrev pub firsts : (Statement → List Point → List Point) → List Statement → List Point → List Point
firsts F [] next = next
firsts F (s ∷ ss) next = F s (firsts F ss next)

abbrev pub first_by : (List Statement → List Point → List Point) → Statement → Form → List Point → List Point
first_by F s forms.Row next = F (kids_of s) next
first_by F s forms.Absent next = next
first_by F s forms.DoWhile next = F (kids_of s) (head s ∷ [])
first_by F s forms.ForC next = at roles.Init s ∷ []
first_by F s _ next = head s ∷ []

abbrev pub first : ℕ → Statement → List Point → List Point
first zero s next = next
first (suc d) s next = first_by (firsts (first d)) s (form_of s) next

-- the points of a statement and of those below it
abbrev pub points_by : List Point → Statement → Form → List Point
points_by below s forms.Row = below
points_by below s forms.Absent = below
points_by below s forms.ForC = at roles.Init s ∷ at roles.Test s ∷ at roles.Step s ∷ below
points_by below s _ = head s ∷ below

abbrev pub points : ℕ → Statement → List Point
points zero s = []
points (suc d) s = points_by (flat_map (points d) (kids_of s)) s (form_of s)

-- the Case and Default of a Switch's own
abbrev pub cases_by : List Statement → Statement → Form → List Statement
cases_by below s forms.Case = s ∷ []
cases_by below s forms.Default = s ∷ []
cases_by below s forms.Switch = []
cases_by below s _ = below

abbrev pub cases : ℕ → Statement → List Statement
cases zero s = []
cases (suc d) s = cases_by (flat_map (cases d) (kids_of s)) s (form_of s)

abbrev pub is_default : Form → Bool
is_default forms.Default = true
is_default _ = false

abbrev pub has_default : List Statement → Bool
has_default [] = false
has_default (s ∷ ss) = is_default (form_of s) || has_default ss

-- where a jump goes
abbrev pub route_by : Around → Statement → Form → Route
route_by c s forms.Return = c.finals ++ (c.exit ∷ []) ∷ []
route_by c s forms.Raise = c.raise_to
route_by c s forms.Break = c.break_to
route_by c s forms.Continue = c.continue_to
route_by c s forms.Goto = c.finals ++ ((out-Statement s).target ∷ []) ∷ []
route_by c s _ = []

abbrev pub hop : Route → List Point
hop [] = []
hop (points ∷ later) = points

abbrev pub later : Route → Route
later [] = []
later (points ∷ rest) = rest

-- what is left of the routes once their first points are reached, but for those that end there
abbrev pub lasting : Route → List Route
lasting [] = []
lasting (points ∷ rest) = (points ∷ rest) ∷ []

abbrev pub laters : List Route → List Route
laters routes = flat_map (λ r. lasting (later r)) routes

-- through a finally part, where there is one
abbrev pub via : List Point → Route → Route
via [] route = route
via (p ∷ ps) route = (p ∷ ps) ∷ route

abbrev pub or_else : List Point → List Point → List Point
or_else [] next = next
or_else (p ∷ ps) next = p ∷ ps

-- around the parts of statements
abbrev pub in_loop : Around → List Point → Around
in_loop c again = record c { next = again; break_to = c.next ∷ []; continue_to = again ∷ [] }

abbrev pub in_switch : Around → Around
in_switch c = record c { break_to = c.next ∷ [] }

abbrev pub in_side : Around → List Point → List Point → Around
in_side c final next = record c { next = next; break_to = via final c.break_to; continue_to = via final c.continue_to; raise_to = via final c.raise_to; finals = via final c.finals }

abbrev pub caught : List Point → Route → Route
caught [] route = route
caught (h ∷ hs) route = (h ∷ hs) ∷ []

abbrev pub in_body : Around → List Point → List Point → List Point → Around
in_body c final handlers next = let side = in_side c final next in record side { raise_to = caught handlers side.raise_to }

abbrev pub row_kids : List Statement → List Statement
row_kids [] = []
row_kids (s ∷ ss) = kids_of s

-- the parts of a Try, with the first points of each
pub record Tried : Type 0 where
  pub body : List Statement
  pub handlers : List Statement
  pub other : List Statement
  pub last : List Statement
  pub final : List Point
  pub after : List Point
  pub after_body : List Point
  pub heads : List Point

abbrev pub tried : (List Statement → List Point → List Point) → Around → List Statement → Tried
tried f c kids =
    let final = f (part 3 kids) [] in
    let after = or_else final c.next in
    let handlers = row_kids (part 1 kids) in
    record {
      body = part 0 kids;
      handlers = handlers;
      other = part 2 kids;
      last = part 3 kids;
      final = final;
      after = after;
      after_body = f (part 2 kids) after;
      heads = map head handlers;
    }

-- the routes of the jumps in a statement that go on behind the innermost finally part around it
abbrev pub pending_try : (Around → List Statement → List Route) → Around → Tried → List Route
pending_try P c t =
    P (in_body c t.final t.heads t.after_body) t.body ++ P (in_side c t.final t.after) t.handlers ++ P (in_side c t.final t.after) t.other

abbrev pub pending_out : (Around → List Statement → List Route) → Around → Tried → List Route → List Point → List Route
pending_out P c t inner [] = inner
pending_out P c t inner (p ∷ ps) = laters inner ++ P c t.last

abbrev pub pending_by : (Around → List Statement → List Route) → (List Statement → List Point → List Point) → Around → Statement → Form → List Route
pending_by P f c s forms.Loop = P (in_loop c (head s ∷ [])) (part 0 (kids_of s)) ++ P c (part 1 (kids_of s))
pending_by P f c s forms.DoWhile = P (in_loop c (head s ∷ [])) (kids_of s)
pending_by P f c s forms.ForC = P (in_loop c (at roles.Step s ∷ [])) (kids_of s)
pending_by P f c s forms.Switch = P (in_switch c) (kids_of s)
pending_by P f c s forms.Try = let t = tried f c (kids_of s) in pending_out P c t (pending_try P c t) t.final
pending_by P f c s forms.Row = P c (kids_of s)
pending_by P f c s forms.If = P c (kids_of s)
pending_by P f c s forms.With = P c (kids_of s)
pending_by P f c s forms.Handler = P c (kids_of s)
pending_by P f c s k = lasting (later (route_by c s k))

abbrev pub pending : ℕ → Around → Statement → List Route
pending zero c s = []
pending (suc d) c s = pending_by (λ around ss. flat_map (pending d around) ss) (firsts (first d)) c s (form_of s)

-- the same above a depth, for a form
abbrev pub Pended : ℕ → Around → Statement → Form → List Route
Pended d = pending_by (λ around ss. flat_map (pending d around) ss) (firsts (first d))

abbrev pub Inside : ℕ → Around → Tried → List Route
Inside d = pending_try (λ around ss. flat_map (pending d around) ss)

-- an edge from a point to each of these
abbrev pub Into : Point → List Point → Point → Point → Type 0
Into from targets a b = (a ≡ from) × Among targets b

-- the edges of statements in a row, each before the next one
abbrev pub InRow : (Around → Statement → Point → Point → Type 0) → (Statement → List Point → List Point) → Around → List Statement → Point → Point → Type 0
InRow F f c [] a b = ⊥
InRow F f c (s ∷ ss) a b = F (before (firsts f ss c.next) c) s a b ⊎ InRow F f c ss a b

-- the edges of statements that aren't in a row
abbrev pub InEach : (Around → Statement → Point → Point → Type 0) → Around → List Statement → Point → Point → Type 0
InEach F c [] a b = ⊥
InEach F c (s ∷ ss) a b = F c s a b ⊎ InEach F c ss a b

-- an edge from each of the points to each of the targets
abbrev pub Cross : List Point → List Point → Point → Point → Type 0
Cross points targets a b = Among points a × Among targets b

-- the edges of a Try: into the body, of the body, of handlers, else part and finally part, and from each point of the body
abbrev pub InTry : (Around → List Statement → Point → Point → Type 0) → (Around → List Statement → Point → Point → Type 0) → List Point → List Route → Around → Statement → Tried → Point → Point → Type 0
InTry R E inside jumps c s t a b =
    R (in_body c t.final t.heads t.after_body) t.body a b
    ⊎ E (in_side c t.final t.after) t.handlers a b
    ⊎ R (in_side c t.final t.after) t.other a b
    ⊎ Cross inside (or_else t.heads t.final) a b
    ⊎ R (before (c.next ++ flat_map hop jumps) c) t.last a b

-- one line for each form, where R has the edges of a row, E those of statements that aren't in a row, f the first points of
-- a row
abbrev pub FlowBy : (Around → List Statement → Point → Point → Type 0) → (Around → List Statement → Point → Point → Type 0) → (List Statement → List Point → List Point) → (List Statement → List Point) → (Around → List Statement → List Route) → (List Statement → List Statement) → Around → Statement → Form → Point → Point → Type 0
FlowBy R E f Q P K c s forms.Plain a b = Into (head s) c.next a b
FlowBy R E f Q P K c s forms.Case a b = Into (head s) c.next a b
FlowBy R E f Q P K c s forms.Default a b = Into (head s) c.next a b
FlowBy R E f Q P K c s forms.Absent a b = ⊥
FlowBy R E f Q P K c s forms.Row a b = R c (kids_of s) a b
FlowBy R E f Q P K c s forms.If a b =
    Into (head s) (f (part 0 (kids_of s)) c.next) a b ⊎ Into (head s) (f (part 1 (kids_of s)) c.next) a b ⊎ R c (part 0 (kids_of s)) a b ⊎ R c (part 1 (kids_of s)) a b
FlowBy R E f Q P K c s forms.Loop a b =
    Into (head s) (f (part 0 (kids_of s)) (head s ∷ [])) a b ⊎ Into (head s) (f (part 1 (kids_of s)) c.next) a b
    ⊎ R (in_loop c (head s ∷ [])) (part 0 (kids_of s)) a b ⊎ R c (part 1 (kids_of s)) a b
FlowBy R E f Q P K c s forms.DoWhile a b =
    Into (head s) (f (kids_of s) (head s ∷ [])) a b ⊎ Into (head s) c.next a b ⊎ R (in_loop c (head s ∷ [])) (kids_of s) a b
FlowBy R E f Q P K c s forms.ForC a b =
    Into (at roles.Init s) (at roles.Test s ∷ []) a b ⊎ Into (at roles.Test s) (f (kids_of s) (at roles.Step s ∷ [])) a b ⊎ Into (at roles.Test s) c.next a b
    ⊎ Into (at roles.Step s) (at roles.Test s ∷ []) a b ⊎ R (in_loop c (at roles.Step s ∷ [])) (kids_of s) a b
FlowBy R E f Q P K c s forms.With a b = Into (head s) (f (kids_of s) c.next) a b ⊎ R c (kids_of s) a b
FlowBy R E f Q P K c s forms.Handler a b = Into (head s) (f (kids_of s) c.next) a b ⊎ R c (kids_of s) a b
FlowBy R E f Q P K c s forms.Switch a b =
    Into (head s) (map head (K (kids_of s))) a b ⊎ ((has_default (K (kids_of s)) ≡ false) × Into (head s) c.next a b) ⊎ R (in_switch c) (kids_of s) a b
FlowBy R E f Q P K c s forms.Try a b =
    let t = tried f c (kids_of s) in
    Into (head s) (f t.body t.after_body) a b ⊎ InTry R E (Q t.body) (pending_try P c t) c s t a b
FlowBy R E f Q P K c s forms.Return a b = Into (head s) (hop (route_by c s forms.Return)) a b
FlowBy R E f Q P K c s forms.Raise a b = Into (head s) (hop (route_by c s forms.Raise)) a b
FlowBy R E f Q P K c s forms.Break a b = Into (head s) (hop (route_by c s forms.Break)) a b
FlowBy R E f Q P K c s forms.Continue a b = Into (head s) (hop (route_by c s forms.Continue)) a b
FlowBy R E f Q P K c s forms.Goto a b = Into (head s) (hop (route_by c s forms.Goto)) a b

-- an edge of a statement, down to a depth
abbrev pub Flow : ℕ → Around → Statement → Point → Point → Type 0
Flow zero c s a b = ⊥
Flow (suc d) c s a b =
    FlowBy (InRow (Flow d) (first d)) (InEach (Flow d)) (firsts (first d)) (flat_map (points d)) (λ around ss. flat_map (pending d around) ss) (flat_map (cases d)) c s (form_of s) a b

-- the same above a depth, for a form
abbrev pub Line : ℕ → Around → Statement → Form → Point → Point → Type 0
Line d = FlowBy (InRow (Flow d) (first d)) (InEach (Flow d)) (firsts (first d)) (flat_map (points d)) (λ around ss. flat_map (pending d around) ss) (flat_map (cases d))

-- the edges of a unit with this body
abbrev pub whole_unit : Point → Around
whole_unit exit = record { next = exit ∷ []; break_to = (exit ∷ []) ∷ []; continue_to = (exit ∷ []) ∷ []; raise_to = (exit ∷ []) ∷ []; finals = []; exit = exit }

abbrev pub IsEdge : ℕ → Point → Point → List Statement → Point → Point → Type 0
IsEdge d entry exit body a b = Into entry (firsts (first d) body (exit ∷ [])) a b ⊎ InRow (Flow d) (first d) (whole_unit exit) body a b
