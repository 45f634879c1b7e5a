-- The queue grows by a class, or only what is done grows.
use Rattle.std.proofs.Common.{◌≡◌, ◌≢◌, ℕ, zero, suc, ◌+◌, ◌*◌, ◌-◌, ◌/◌, ◌%◌, ◌<◌, ◌≤◌, ◌⊎◌, ◌↔◌, inl, inr, List, [], ◌∷◌, ◌++◌, length, take, map, get_or, Some, sym, ◌∙◌, ap, subst, refl, arith, mul_comm}
use Rattle.std.specs.Prelude.{slice_get}
use Rattle.std.proofs.lemmas.Bool.{cases_eq}
use Rattle.std.proofs.lemmas.List.{length-map}
use Rattle.std.proofs.lemmas.Nat.{div-mul-add, mod-mul-add, mul-add-lt}
use Rattle.std.proofs.lemmas.Option.{slice_get_within, slice_get_read}
use Rattle.graph_form.specs.declared.graph.Graph.{Graph}
use Rattle.graph_form.specs.Sets.{Among}
use Rattle.flow_reach.specs.declared.moves.Moves.{Moves}
use Rattle.flow_reach.specs.declared.moves.Move.{Move}
use Rattle.std.specs.Global.{Vec}
use Rattle.graph_form.proofs.Amongs.{among_at}
use Rattle.flow_reach.specs.Bits.{Has, stride_of}
use Rattle.flow_reach.specs.Spread.{At, RowHas, IsTable}
use Rattle.graph_form.specs.Edges.{HasEdge}
use Rattle.flow_reach.specs.Carried.{Turns, TurnsBy, Fits}
use Rattle.flow_reach.proofs.Closing.{turned_there, facts_fit}
use Rattle.flow_reach.proofs.Following.{same_parts}
use Rattle.trace_path.specs.Fresh.{Finds, missing}
use Rattle.trace_path.proofs.Counts.{missing_small}
use Rattle.trace_path.specs.Queue.{Group, IsAt, Comes, Held, InOrder, IsQueue, Leaves, Steps, Grows, Stands, IsFirst, Ascends, Turned, groups, group_of}
use Rattle.trace_path.specs.declared.queue.Queue.{Queue}

-- ---- numbers of classes

pub at_one : (xs : List Group) (i : ℕ) (c d : Group) → IsAt xs i c → IsAt xs i d → c ≡ d
at_one xs i c d a b = let q : Some c ≡ Some d = sym a ∙ b in cc

pub at_old : (xs : List Group) (d : Group) (i : ℕ) (c : Group) → IsAt xs i c → IsAt (xs ++ d ∷ []) i c
at_old [] d i c at = absurd cc
at_old (x ∷ xs) d zero c at = at
at_old (x ∷ xs) d (suc i) c at = at_old xs d i c at

pub at_new : (xs : List Group) (d : Group) → IsAt (xs ++ d ∷ []) (length xs) d
at_new [] d = refl
at_new (x ∷ xs) d = at_new xs d

pub at_push : (xs : List Group) (d : Group) (i : ℕ) (c : Group) → IsAt (xs ++ d ∷ []) i c → IsAt xs i c ⊎ ((i ≡ length xs) × (d ≡ c))
at_push [] d zero c at = inr (refl, cc)
at_push [] d (suc i) c at = absurd cc
at_push (x ∷ xs) d zero c at = inl at
at_push (x ∷ xs) d (suc i) c at = elim (at_push xs d i c at) [ inl a ↦ inl a | inr e ↦ inr (ap suc e.0, e.1) ]

pub first_of : (xs : List ℕ) → 0 < length xs → (x : ℕ) × Among xs x
first_of [] lt = absurd (omega arith)
first_of (x ∷ xs) lt = (x, inl refl)

abbrev pub DoneBy : ℕ → (ℕ → Type 0) → ℕ → ℕ → Type 0
DoneBy head Old i q = (i < head) ⊎ ((i ≡ head) × Old q)

-- ---- one point more

module _ (graph : Graph) (moves : Moves) (fits : Fits graph moves) (head point : ℕ) (Old New : ℕ → Type 0) (split : (q : ℕ) → New q ↔ (Old q ⊎ (point ≡ q))) (upto : (q : ℕ) → Old q → q ≤ point) (classes : List Group) (old new turned next : List ℕ) (queue : IsQueue graph moves head (DoneBy head Old) classes old) (leaves : Leaves graph moves classes head next turned) (edge : HasEdge graph leaves.class.point point) where
  turned_small : (g : ℕ) → Among turned g → g < moves.facts
  turned_small g among = let t = (leaves.turns g).0 among in turned_there graph moves leaves.class.point t.0 g fits ((queue.inside head leaves.class leaves.at).1 t.0 t.1) t.2

  head_inside : head < length classes
  head_inside = slice_get_within classes head leaves.class leaves.at

  module _ (later : List Group) (found : List ℕ) (finds : Finds (point * stride_of moves.facts) turned old new found) (lift : (i : ℕ) (c : Group) → IsAt classes i c → IsAt later i c) (lower : (i : ℕ) (c : Group) → i < length classes → IsAt later i c → IsAt classes i c) (fresh : (g : ℕ) → Among found g → Held later head point g) where
    held_more : (limit q g : ℕ) → Held classes limit q g → Held later limit q g
    held_more limit q g (j, d, at, e, among, last) = (j, d, lift j d at, e, among, last)

    known_more : (q g : ℕ) → g < moves.facts → Has new (q * stride_of moves.facts + g) → Held later head q g
    known_more q g lt h = elim ((finds.seen (q * stride_of moves.facts + g)).0 h) [
      | inl o ↦ held_more head q g (queue.known q g lt o)
      | inr (f, among, e) ↦
          let s = same_parts (stride_of moves.facts) q point g f (facts_fit moves.facts g lt) (facts_fit moves.facts f (turned_small f among)) e in
          let P : ℕ → Type 0 = λ x. Held later head x g in
          let Q : ℕ → Type 0 = λ x. Held later head point x in
          subst P (sym s.0) (subst Q (sym s.1) (elim (finds.all f among) [
            | inl o ↦ held_more head point f (queue.known point f (turned_small f among) o)
            | inr fo ↦ fresh f fo
          ]))
    ]

    seen_more : (k : ℕ) → Has old k → Has new k
    seen_more k h = (finds.seen k).1 (inl h)

    closed_more : (i q : ℕ) (c : Group) → IsAt later i c → DoneBy head New i q → HasEdge graph c.point q → (f g : ℕ) → Among c.facts f → Turns moves c.point f g → Held later i q g
    closed_more i q c at (inl lt) ed f g among turns = held_more i q g (queue.closed i q c (lower i c (omega (arith, head_inside)) at) (inl lt) ed f g among turns)
    closed_more i q c at (inr (same, done)) ed f g among turns =
        let was : IsAt classes i c = lower i c (omega (arith, head_inside)) at in
        elim ((split q).0 done) [
          | inl o ↦ held_more i q g (queue.closed i q c was (inr (same, o)) ed f g among turns)
          | inr here ↦
              let A : ℕ → Type 0 = λ x. IsAt classes x c in
              let one : leaves.class ≡ c = at_one classes head leaves.class c leaves.at (subst A same was) in
              let T : Group → Type 0 = λ x. (f : ℕ) × Among x.facts f × Turns moves x.point f g in
              let there : Among turned g = (leaves.turns g).1 (subst T (sym one) (f, among, turns)) in
              let L : ℕ → Type 0 = λ x. Held later x q g in
              let Q : ℕ → Type 0 = λ x. Held later head x g in
              subst L (sym same) (subst Q here (known_more point g (turned_small g there) ((finds.seen (point * stride_of moves.facts + g)).1 (inr (g, there, refl)))))
        ]

  grown : (i q : ℕ) → DoneBy head Old i q → DoneBy head New i q
  grown i q (inl lt) = inl lt
  grown i q (inr (same, o)) = inr (same, (split q).1 (inl o))

  pub queue_same : Finds (point * stride_of moves.facts) turned old new [] → IsQueue graph moves head (DoneBy head New) classes new
  queue_same finds = record {
    zeroth = queue.zeroth;
    comes = queue.comes;
    order = queue.order;
    late = λ i c at lt. grown c.parent c.point (queue.late i c at lt);
    closed = closed_more classes [] finds (λ i c at. at) (λ i c lt at. at) (λ g n. absurd n);
    known = known_more classes [] finds (λ i c at. at) (λ i c lt at. at) (λ g n. absurd n);
    noted = λ i c at f among. seen_more classes [] finds (λ i c at. at) (λ i c lt at. at) (λ g n. absurd n) _ (queue.noted i c at f among);
    inside = queue.inside;
    room = omega (arith, queue.room, finds.room);
  }

  module _ (d : Group) (finds : Finds (point * stride_of moves.facts) turned old new d.facts) (at_point : d.point ≡ point) (at_head : d.parent ≡ head) (some : 0 < length d.facts) where
    pushed : List Group
    pushed = classes ++ d ∷ []

    lift : (i : ℕ) (c : Group) → IsAt classes i c → IsAt (classes ++ d ∷ []) i c
    lift i c at = at_old classes d i c at

    lower : (i : ℕ) (c : Group) → i < length classes → IsAt (classes ++ d ∷ []) i c → IsAt classes i c
    lower i c lt at = elim (at_push classes d i c at) [ inl a ↦ a | inr e ↦ absurd (let q = e.0 in omega arith) ]

    fresh : (g : ℕ) → Among d.facts g → Held (classes ++ d ∷ []) head point g
    fresh g among = (length classes, d, at_new classes d, at_point, among, inr (omega (arith, at_head)))

    comes_new : Comes graph moves (classes ++ d ∷ []) (length classes) d
    comes_new =
        let A : ℕ → Type 0 = λ x. IsAt (classes ++ d ∷ []) x leaves.class in
        let E : ℕ → Type 0 = λ x. HasEdge graph leaves.class.point x in
        (leaves.class, subst A (sym at_head) (lift head leaves.class leaves.at), omega (arith, at_head, head_inside), subst E (sym at_point) edge, λ g among. (leaves.turns g).0 (finds.some g among).0)

    -- no class so far lengthens that class by that point
    apart : (i : ℕ) (c : Group) → IsAt classes i c → 0 < i → c.parent ≡ head → c.point ≡ point → ⊥
    apart i c at lt same here =
        let g = first_of d.facts some in
        let t = finds.some g.0 g.1 in
        let turn = (leaves.turns g.0).0 t.0 in
        let held : Held classes head point g.0 = elim (queue.late i c at lt) [
          | inl less ↦ absurd (omega arith)
          | inr (e, o) ↦ let O : ℕ → Type 0 = λ x. Old x in queue.closed head point leaves.class leaves.at (inr (refl, subst O here o)) edge turn.0 g.0 turn.1 turn.2
        ] in
        let H : ℕ → Type 0 = λ x. Has old (x * stride_of moves.facts + g.0) in
        t.1 (subst H held.3 (queue.noted held.0 held.1 held.2 g.0 held.4))

    order_new : (i : ℕ) (c : Group) → IsAt classes i c → 0 < i → InOrder c d
    order_new i c at lt = elim (queue.late i c at lt) [
      | inl less ↦ inl (omega (arith, at_head))
      | inr (e, o) ↦ inr (e ∙ sym at_head, elim (cases_eq c.point point) [ inl h ↦ absurd (apart i c at lt e h) | inr ne ↦ omega (arith, upto c.point o, at_point) ])
    ]

    comes_old : (i : ℕ) (c : Group) → Comes graph moves classes i c → Comes graph moves (classes ++ d ∷ []) i c
    comes_old i c (p, at, lt, ed, from) = (p, lift c.parent p at, lt, ed, from)

    pub queue_push : IsQueue graph moves head (DoneBy head New) (classes ++ d ∷ []) new
    queue_push = record {
      zeroth = (queue.zeroth.0, lift 0 queue.zeroth.0 queue.zeroth.1, queue.zeroth.2, queue.zeroth.3);
      comes = λ i c at lt. elim (at_push classes d i c at) [
        | inl a ↦ comes_old i c (queue.comes i c a lt)
        | inr (e, same) ↦
            let P : ℕ → Type 0 = λ x. Comes graph moves (classes ++ d ∷ []) x c in
            let Q : Group → Type 0 = λ x. Comes graph moves (classes ++ d ∷ []) (length classes) x in
            subst P (sym e) (subst Q same comes_new)
      ];
      order = λ i j c e at_c at_e lt less. elim (at_push classes d j e at_e) [
        | inl b ↦ elim (at_push classes d i c at_c) [
          | inl a ↦ queue.order i j c e a b lt less
          | inr (q, s) ↦ absurd (omega (arith, q, less, slice_get_within classes j e b))
        ]
        | inr (q, same) ↦
            let P : Group → Type 0 = λ x. InOrder c x in
            subst P same (order_new i c (lower i c (omega (arith, less, q)) at_c) lt)
      ];
      late = λ i c at lt. elim (at_push classes d i c at) [
        | inl a ↦ grown c.parent c.point (queue.late i c a lt)
        | inr (e, same) ↦
            let P : Group → Type 0 = λ x. DoneBy head New x.parent x.point in
            let N : ℕ → Type 0 = λ x. New x in
            subst P same (inr (at_head, subst N (sym at_point) ((split point).1 (inr refl))))
      ];
      closed = closed_more (classes ++ d ∷ []) d.facts finds lift lower fresh;
      known = known_more (classes ++ d ∷ []) d.facts finds lift lower fresh;
      noted = λ i c at f among. elim (at_push classes d i c at) [
        | inl a ↦ (finds.seen _).1 (inl (queue.noted i c a f among))
        | inr (e, same) ↦
            let P : Group → Type 0 = λ x. Among x.facts f in
            let Q : Group → Type 0 = λ x. Has new (x.point * stride_of moves.facts + f) in
            let H : ℕ → Type 0 = λ x. Has new (x * stride_of moves.facts + f) in
            subst Q same (subst H (sym at_point) ((finds.seen _).1 (inr (f, (finds.some f (subst P (sym same) among)).0, refl))))
      ];
      inside = λ i c at. elim (at_push classes d i c at) [
        | inl a ↦ queue.inside i c a
        | inr (e, same) ↦
            let P : Group → Type 0 = λ x. (x.point < length graph.points) × ((f : ℕ) → Among x.facts f → f < moves.facts) in
            subst P same (omega (arith, at_point, (fits.edges leaves.class.point point edge).1), λ f among. turned_small f (finds.some f among).0)
      ];
      room = omega (arith, queue.room, finds.room);
    }

-- ---- a step of the queue

long_more : {X : Type 0} (xs : List X) (x : X) → length (xs ++ x ∷ []) ≡ length xs + 1
long_more [] x = refl
long_more (y ∷ ys) x = omega (arith, long_more ys x)

module _ (graph : Graph) (moves : Moves) (fits : Fits graph moves) (head point base : ℕ) (is : base ≡ point * stride_of moves.facts) (Old New : ℕ → Type 0) (split : (q : ℕ) → New q ↔ (Old q ⊎ (point ≡ q))) (upto : (q : ℕ) → Old q → q ≤ point) (old new : Queue) (turned next : List ℕ) (stands : Stands graph moves head (DoneBy head Old) old) (leaves : Leaves graph moves (groups old) head next turned) (edge : HasEdge graph leaves.class.point point) (steps : Steps head point base turned old new) where
  stepped_paths : IsQueue graph moves head (DoneBy head New) (groups new) new.seen.items
  stepped_paths =
      let P : List Group → Type 0 = λ cs. IsQueue graph moves head (DoneBy head New) cs new.seen.items in
      let B : ℕ → Type 0 = λ b. Finds b turned old.seen.items new.seen.items steps.found in
      let F : List ℕ → Type 0 = λ fs. Finds (point * stride_of moves.facts) turned old.seen.items new.seen.items fs in
      let finds = subst B is steps.finds in
      elim steps.pushed [
        | inl (none, same) ↦
            subst P (sym same) (queue_same graph moves fits head point Old New split upto (groups old) old.seen.items new.seen.items turned next stands.paths leaves edge (subst F none finds))
        | inr (d, same, p, h, f, some) ↦
            let lt : 0 < length d.facts = omega (arith, ap length f, some) in
            subst P (sym same) (queue_push graph moves fits head point Old New split upto (groups old) old.seen.items new.seen.items turned next stands.paths leaves edge d (subst F (sym f) finds) p h lt)
      ]

  pub stepped : Stands graph moves head (DoneBy head New) new
  stepped = record {
    paths = stepped_paths;
    within = steps.within;
    words = omega (arith, stands.words, steps.finds.room);
    few = omega (arith, stands.few, steps.finds.less, steps.longer);
  }

  pub step_leaves : Leaves graph moves (groups new) head next turned
  step_leaves =
      let P : List Group → Type 0 = λ cs. Leaves graph moves cs head next turned in
      elim steps.pushed [
        | inl (none, same) ↦ subst P (sym same) leaves
        | inr (d, same, p, h, f, some) ↦ subst P (sym same) (record { class = leaves.class; at = at_old (groups old) d head leaves.class leaves.at; forth = leaves.forth; turns = leaves.turns })
      ]

-- as many classes as groups
pub as_many : (queue : Queue) → length (groups queue) ≡ length queue.classes.items
as_many queue = length-map queue.classes.items (group_of queue.facts.items)

pub grows_self : (queue : Queue) → Grows queue queue
grows_self queue = record { longer = omega arith; kept = λ i c lt at. at; less = omega arith; room = refl }

pub step_grows : (head point base : ℕ) (turned : List ℕ) (first old new : Queue) → Grows first old → Steps head point base turned old new → Grows first new
step_grows head point base turned first old new grows steps = elim steps.pushed [
  | inl (none, same) ↦
      let e : length new.classes.items ≡ length old.classes.items = sym (as_many new) ∙ ap length same ∙ as_many old in
      record {
        longer = omega (arith, grows.longer, e);
        kept = λ i c lt at. grows.kept i c lt (let P : List Group → Type 0 = λ cs. IsAt cs i c in subst P same at);
        less = omega (arith, grows.less, steps.finds.less, e);
        room = steps.finds.room ∙ grows.room;
      }
  | inr (d, same, p, h, f, some) ↦
      let e : length new.classes.items ≡ length old.classes.items + 1 = sym (as_many new) ∙ ap length same ∙ long_more (groups old) d ∙ ap (λ n. n + 1) (as_many old) in
      record {
        longer = omega (arith, grows.longer, e);
        kept = λ i c lt at.
            let P : List Group → Type 0 = λ cs. IsAt cs i c in
            grows.kept i c lt (elim (at_push (groups old) d i c (subst P same at)) [ inl a ↦ a | inr q ↦ absurd (omega (arith, q.0, lt, grows.longer, as_many old)) ]);
        less = omega (arith, grows.less, steps.finds.less, some, e);
        room = steps.finds.room ∙ grows.room;
      }
]

pub step_room : (graph : Graph) (moves : Moves) (fits : Fits graph moves) (head point base : ℕ) (Done : ℕ → ℕ → Type 0) (turned next seen : List ℕ) (classes : List Group) → base ≡ point * stride_of moves.facts → IsQueue graph moves head Done classes seen → (leaves : Leaves graph moves classes head next turned) → HasEdge graph leaves.class.point point → (fact : ℕ) → Among turned fact → base + fact < 64 * length seen
step_room graph moves fits head point base Done turned next seen classes is queue leaves edge fact among =
    let t = (leaves.turns fact).0 among in
    let lt = turned_there graph moves leaves.class.point t.0 fact fits ((queue.inside head leaves.class leaves.at).1 t.0 t.1) t.2 in
    omega (arith, is, mul-add-lt point (stride_of moves.facts) fact (length graph.points) (fits.edges leaves.class.point point edge).1 (facts_fit moves.facts fact lt), mul_comm (stride_of moves.facts) (length graph.points), queue.room)

take_index : (xs : List ℕ) (i q : ℕ) → Among (take i xs) q → (j : ℕ) × (j < i) × (j < length xs) × (get_or xs j 0 ≡ q)
take_index xs zero q h = absurd h
take_index [] (suc i) q h = absurd h
take_index (x ∷ xs) (suc i) q (inl e) = (0, omega arith, omega arith, e)
take_index (x ∷ xs) (suc i) q (inr h) = let r = take_index xs i q h in (suc r.0, omega (arith, r.1), omega (arith, r.2), r.3)

-- points so far are not above the next one
pub taken_up : (xs : List ℕ) (i : ℕ) → Ascends xs → i < length xs → (q : ℕ) → Among (take i xs) q → q ≤ get_or xs i 0
taken_up xs i ascends lt q among = let r = take_index xs i q among in let le : r.0 ≤ i = omega (arith, r.1) in omega (arith, ascends r.0 i le lt, r.3)

-- ---- the start and the end of a class

pub queue_begins : (graph : Graph) (moves : Moves) (head : ℕ) (Old : ℕ → Type 0) (classes : List Group) (seen : List ℕ) → ((q : ℕ) → Old q → ⊥) → IsQueue graph moves head (λ i q. i < head) classes seen → IsQueue graph moves head (DoneBy head Old) classes seen
queue_begins graph moves head Old classes seen none queue = record {
  zeroth = queue.zeroth;
  comes = queue.comes;
  order = queue.order;
  late = λ i c at lt. inl (queue.late i c at lt);
  closed = λ i q c at done. queue.closed i q c at (elim done [ inl lt ↦ lt | inr (e, o) ↦ absurd (none q o) ]);
  known = queue.known;
  noted = queue.noted;
  inside = queue.inside;
  room = queue.room;
}

pub queue_ends : (graph : Graph) (moves : Moves) (head : ℕ) (classes : List Group) (seen next turned : List ℕ) → Leaves graph moves classes head next turned → IsQueue graph moves head (DoneBy head (Among next)) classes seen → IsQueue graph moves (head + 1) (λ i q. i < head + 1) classes seen
queue_ends graph moves head classes seen next turned leaves queue = record {
  zeroth = queue.zeroth;
  comes = queue.comes;
  order = queue.order;
  late = λ i c at lt. elim (queue.late i c at lt) [ inl less ↦ omega arith | inr (e, o) ↦ omega (arith, e) ];
  closed = λ i q c at done edge f g among turns. queue.closed i q c at (elim (cases_eq i head) [
    | inl same ↦
        let A : ℕ → Type 0 = λ x. IsAt classes x c in
        let one : leaves.class ≡ c = at_one classes head leaves.class c leaves.at (subst A same at) in
        let E : Group → Type 0 = λ x. HasEdge graph x.point q in
        inr (same, (leaves.forth q).1 (subst E (sym one) edge))
    | inr ne ↦ inl (omega (arith, done))
  ]) edge f g among turns;
  known = λ q g lt h. let k = queue.known q g lt h in (k.0, k.1, k.2, k.3, k.4, elim k.5 [ inl z ↦ inl z | inr le ↦ inr (omega (arith, le)) ]);
  noted = queue.noted;
  inside = queue.inside;
  room = queue.room;
}

pub stands_begins : (graph : Graph) (moves : Moves) (head : ℕ) (Old : ℕ → Type 0) (queue : Queue) → ((q : ℕ) → Old q → ⊥) → Stands graph moves head (λ i q. i < head) queue → Stands graph moves head (DoneBy head Old) queue
stands_begins graph moves head Old queue none stands = record {
  paths = queue_begins graph moves head Old (groups queue) queue.seen.items none stands.paths;
  within = stands.within;
  words = stands.words;
  few = stands.few;
}

pub stands_ends : (graph : Graph) (moves : Moves) (head : ℕ) (queue : Queue) (next turned : List ℕ) → Leaves graph moves (groups queue) head next turned → Stands graph moves head (DoneBy head (Among next)) queue → Stands graph moves (head + 1) (λ i q. i < head + 1) queue
stands_ends graph moves head queue next turned leaves stands = record {
  paths = queue_ends graph moves head (groups queue) queue.seen.items next turned leaves stands.paths;
  within = stands.within;
  words = stands.words;
  few = stands.few;
}

-- ---- the first class

pub begun : (graph : Graph) (moves : Moves) (fits : Fits graph moves) (old new : List ℕ) (d : Group) → ((k : ℕ) → Has old k → ⊥) → length graph.points * stride_of moves.facts ≡ 64 * length old → Finds 0 moves.start old new d.facts → d.point ≡ 0 → IsQueue graph moves 0 (λ i q. i < 0) (d ∷ []) new
begun graph moves fits old new d none room finds entry =
    let only : (i : ℕ) (c : Group) → IsAt (d ∷ []) i c → (i ≡ 0) × (d ≡ c) = only_one d in
    let unseen = none in
    record {
      zeroth = (d, refl, entry, λ f. (λ among. (finds.some f among).0, λ among. elim (finds.all f among) [ inl o ↦ absurd (unseen _ o) | inr h ↦ h ]));
      comes = λ i c at lt. absurd (omega (arith, (only i c at).0, lt));
      order = λ i j c e at_c at_e lt less. absurd (omega (arith, (only i c at_c).0, lt));
      late = λ i c at lt. absurd (omega (arith, (only i c at).0, lt));
      closed = λ i q c at done. absurd (omega (arith, done));
      known = λ q g lt h. elim ((finds.seen (q * stride_of moves.facts + g)).0 h) [
        | inl o ↦ absurd (unseen _ o)
        | inr (f, among, e) ↦
            let e0 : q * stride_of moves.facts + g ≡ 0 * stride_of moves.facts + f = omega (arith, e) in
            let s = same_parts (stride_of moves.facts) q 0 g f (facts_fit moves.facts g lt) (facts_fit moves.facts f (fits.start f among)) e0 in
            (0, d, refl, entry ∙ sym s.0, (let P : ℕ → Type 0 = λ x. Among d.facts x in subst P (sym s.1) (elim (finds.all f among) [ inl o ↦ absurd (unseen _ o) | inr k ↦ k ])), inl refl)
      ];
      noted = λ i c at f among.
          let P : Group → Type 0 = λ x. Among x.facts f in
          let Q : Group → Type 0 = λ x. Has new (x.point * stride_of moves.facts + f) in
          let H : ℕ → Type 0 = λ x. Has new (x * stride_of moves.facts + f) in
          let one = (only i c at).1 in
          subst Q one (subst H (sym entry) ((finds.seen _).1 (inr (f, (finds.some f (subst P (sym one) among)).0, zeroed (stride_of moves.facts) f))));
      inside = λ i c at.
          let P : Group → Type 0 = λ x. (x.point < length graph.points) × ((f : ℕ) → Among x.facts f → f < moves.facts) in
          subst P (only i c at).1 (omega (arith, entry, fits.entry), λ f among. fits.start f (finds.some f among).0);
      room = omega (arith, room, finds.room);
    }
  where
    only_one : (d : Group) (i : ℕ) (c : Group) → IsAt (d ∷ []) i c → (i ≡ 0) × (d ≡ c)
    only_one d zero c at = (refl, cc)
    only_one d (suc i) c at = absurd cc

    zeroed : (w f : ℕ) → 0 * w + f ≡ 0 + f
    zeroed w f = omega arith

-- the first class stands
pub first_stands : (graph : Graph) (moves : Moves) (fits : Fits graph moves) (words : ℕ) (queue : Queue) → words ≤ 50000000 → length graph.points * stride_of moves.facts ≡ 64 * words → IsFirst words moves.start queue → Stands graph moves 0 (λ i q. i < 0) queue
first_stands graph moves fits words queue few room first =
    let P : List Group → Type 0 = λ cs. IsQueue graph moves 0 (λ i q. i < 0) cs queue.seen.items in
    let size : length graph.points * stride_of moves.facts ≡ 64 * length first.old = omega (arith, room, first.room) in
    record {
      paths = subst P (sym first.all) (begun graph moves fits first.old queue.seen.items first.group first.none size first.finds first.point);
      within = first.within;
      words = omega (arith, few, first.room, first.finds.room);
      few = omega (arith, first.finds.less, first.longer, missing_small first.old, first.room, few);
    }
