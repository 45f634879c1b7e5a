-- What is sent of lists, item by item, and of what a report has beside the place of a finding.
use Rattle.std.proofs.Common.{◌≡◌, ℕ, suc, ◌+◌, ◌<◌, ◌≤◌, List, [], ◌∷◌, map, length, drop, drop-cons, get_or, arith, Option, None, Some, MatchOption, codes, refl, sym, subst, ap, ◌∙◌}
use Rattle.std.proofs.lemmas.List.{drop_all}
use Rattle.serde.specs.Event.{Log, Logs, seq_begins, seq_ends, map_begins, map_ends}
use Rattle.serde_json.specs.Data.{Data, string, array, object, Members, member}
use Rattle.serde_json.specs.View.{items_of}
use Rattle.serde_json.specs.Events.{SendsValue, SendsItems, SendsMembers, items_len, members_len}
use Rattle.graph_form.specs.declared.graph.Role.{Role}
use Rattle.node_tree.specs.declared.span.Span.{Span}
use Rattle.meta_bind.specs.declared.bound.Bound.{Bound}
use Rattle.meta_bind.specs.Bounds.{seen}
use Rattle.finding_json.specs.Reports.{range_data, metavar_members, trace_members, with_source, with_fix, one_if, one_unless_empty, SendsMember, SendsTrace}

-- whatever ends the items from place i well ends all of them well
abbrev pub ItemsLeft : {X : Type 0} → (X → Data) → List X → ℕ → Log → Log → Type 0
ItemsLeft f xs i start now = (end : Log) → SendsItems (items_of (map f (drop i xs))) now end → SendsItems (items_of (map f xs)) start end

items_len-map : {X : Type 0} (f : X → Data) (xs : List X) → items_len (items_of (map f xs)) ≡ length xs
items_len-map f [] = refl
items_len-map f (x ∷ xs) = ap suc (items_len-map f xs)

pub items_one_more : {X : Type 0} (f : X → Data) (xs : List X) (i : ℕ) (x : X) (start now next : Log) → i < length xs → x ≡ get_or xs i x
    → ItemsLeft f xs i start now → SendsValue (f x) now next → ItemsLeft f xs (i + 1) start next
items_one_more f xs i x start now next lt is left sent = λ end rest.
    let on : suc i ≡ i + 1 = omega arith in
    let split : drop i xs ≡ x ∷ drop (i + 1) xs = drop-cons xs i x lt ∙ ap (λ y. y ∷ drop (suc i) xs) (sym is) ∙ ap (λ k. x ∷ drop k xs) on in
    left end (subst (λ ys. SendsItems (items_of (map f ys)) now end) (sym split) (next, sent, rest))

pub items_end : {X : Type 0} (f : X → Data) (xs : List X) (n i : ℕ) (old first last new : Log) → n ≡ length xs → length xs ≤ i
    → Logs old first (seq_begins (Some n)) → ItemsLeft f xs i first last → Logs last new seq_ends → SendsValue (array (items_of (map f xs))) old new
items_end f xs n i old first last new len all begun left ended = (
  first,
  subst (λ m. Logs old first (seq_begins (Some m))) (len ∙ sym (items_len-map f xs)) begun,
  left new (subst (λ ys. SendsItems (items_of (map f ys)) last new) (sym (drop_all i xs all)) ended),
)

-- the same for the metavariables
abbrev pub MetavarsLeft : List Bound → ℕ → Log → Log → Type 0
MetavarsLeft bs i start now = (end : Log) → SendsMembers (metavar_members (map seen (drop i bs))) now end → SendsMembers (metavar_members (map seen bs)) start end

metavars_len : (bs : List Bound) → members_len (metavar_members (map seen bs)) ≡ length bs
metavars_len [] = refl
metavars_len (b ∷ bs) = ap suc (metavars_len bs)

pub metavars_end : (bs : List Bound) (n i : ℕ) (old first last new : Log) → n ≡ length bs → length bs ≤ i
    → Logs old first (map_begins (Some n)) → MetavarsLeft bs i first last → Logs last new map_ends → SendsValue (object (metavar_members (map seen bs))) old new
metavars_end bs n i old first last new len all begun left ended = (
  first,
  subst (λ m. Logs old first (map_begins (Some m))) (len ∙ sym (metavars_len bs)) begun,
  left new (subst (λ cs. SendsMembers (metavar_members (map seen cs)) last new) (sym (drop_all i bs all)) ended),
)

trace_sent : (trace : List (ℕ × Role)) (old mid new : Log) → SendsTrace trace old mid → Logs mid new map_ends → SendsMembers (trace_members trace) old new
trace_sent [] old mid new same ended = subst (λ l. Logs l new map_ends) same ended
trace_sent (p ∷ ps) old mid new sent ended = (sent.0, mid, sent.1, sent.2, ended)

source_sent : (source : Option Span) (rest : Members) (old mid new : Log) → MatchOption source (mid ≡ old) (λ s. SendsMember (codes "source") (range_data s) old mid)
    → SendsMembers rest mid new → SendsMembers (with_source source rest) old new
source_sent None rest old mid new same sent = subst (λ l. SendsMembers rest l new) same sent
source_sent (Some s) rest old mid new first sent = (first.0, mid, first.1, first.2, sent)

fix_sent : (fix : Option (List ℕ)) (message : Data) (rest : Members) (old mid new : Log) → MatchOption fix (mid ≡ old) (λ text. SendsMember (codes "fix") (string text) old mid)
    → SendsMembers (member (codes "message") message rest) mid new → SendsMembers (with_fix fix (member (codes "message") message rest)) old new
fix_sent None message rest old mid new same sent = subst (λ l. SendsMembers (member (codes "message") message rest) l new) same sent
fix_sent (Some text) message rest old mid new first sent = (first.0, mid, first.1, first.2, sent)

abbrev extra_members : Option (List ℕ) → List ℕ → Members → List ℕ → Option Span → List (ℕ × Role) → Members
extra_members fix message metavars word source trace =
    with_fix fix (member (codes "message") (string message) (member (codes "metavars") (object metavars) (member (codes "severity") (string word) (with_source source (trace_members trace)))))

trace_counted : (trace : List (ℕ × Role)) → members_len (trace_members trace) ≡ one_unless_empty trace
trace_counted [] = refl
trace_counted (p ∷ ps) = refl

source_counted : (source : Option Span) (trace : List (ℕ × Role)) → members_len (with_source source (trace_members trace)) ≡ one_if source + one_unless_empty trace
source_counted None trace = (let e = trace_counted trace in omega (arith, e))
source_counted (Some s) trace = (let e = trace_counted trace in omega (arith, e))

members_counted : (fix : Option (List ℕ)) (message : List ℕ) (metavars : Members) (word : List ℕ) (source : Option Span) (trace : List (ℕ × Role))
    → members_len (extra_members fix message metavars word source trace) ≡ 3 + one_if fix + one_if source + one_unless_empty trace
members_counted None message metavars word source trace = (let e = source_counted source trace in omega (arith, e))
members_counted (Some text) message metavars word source trace = (let e = source_counted source trace in omega (arith, e))

-- what is said of a finding beside its place, sent member by member
pub extra_sent : (fix : Option (List ℕ)) (message : List ℕ) (metavars : Members) (word : List ℕ) (source : Option Span) (trace : List (ℕ × Role)) (n : ℕ)
    → (old first fixed told bound judged from last new : Log)
    → n ≡ 3 + one_if fix + one_if source + one_unless_empty trace
    → Logs old first (map_begins (Some n))
    → MatchOption fix (fixed ≡ first) (λ text. SendsMember (codes "fix") (string text) first fixed)
    → SendsMember (codes "message") (string message) fixed told
    → SendsMember (codes "metavars") (object metavars) told bound
    → SendsMember (codes "severity") (string word) bound judged
    → MatchOption source (from ≡ judged) (λ s. SendsMember (codes "source") (range_data s) judged from)
    → SendsTrace trace from last
    → Logs last new map_ends
    → SendsValue (object (extra_members fix message metavars word source trace)) old new
extra_sent fix message metavars word source trace n old first fixed told bound judged from last new count begun fixes says binds judges comes traced ended =
    let ends = source_sent source (trace_members trace) judged from new comes (trace_sent trace from last new traced ended) in
    let rest : SendsMembers (member (codes "message") (string message) (member (codes "metavars") (object metavars) (member (codes "severity") (string word) (with_source source (trace_members trace))))) fixed new =
    (says.0, told, says.1, says.2, (binds.0, bound, binds.1, binds.2, (judges.0, judged, judges.1, judges.2, ends))) in (
      first,
      subst (λ m. Logs old first (map_begins (Some m))) (count ∙ sym (members_counted fix message metavars word source trace)) begun,
      fix_sent fix (string message) _ first fixed new fixes rest,
    )
