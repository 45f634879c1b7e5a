-- Files that stand one before the other from the end of a list, and how those before a path are taken from there.
use Rattle.std.proofs.Common.{◌≡◌, inl, inr, ℕ, List, [], ◌∷◌, ◌++◌, map, refl, sym, ap, ◌∙◌, subst, append_assoc}
use Rattle.std.specs.Prelude.{Option, None, Some, IfSome, MatchOption, reverse}
use Rattle.std.specs.declared.cmp.Ordering.TheVariants.{Less, Equal, Greater}
use Rattle.std.specs.Cmp.{IsTotalOrder}
use Rattle.std.proofs.lemmas.Cmp.{on_total, tied_itself}
use Rattle.std.specs.Ordering.{ordering_reverse}
use Rattle.std.proofs.lemmas.List.{append-nil, reverse-append, reverse-reverse, map-append}
use Rattle.meta_bind.specs.Bounds.{name_cmp}
use Rattle.node_match.specs.Sets.{Among}
use Rattle.tree_match.specs.Ascending.{IsAscending}
use Rattle.running_rules.specs.NoteOrder.{name_total, name_same}
use Rattle.running_rules.proofs.Members.{among_left, among_right, among_either, among_map}
use Rattle.file_results.specs.Shown.{File, file_cmp}
use Rattle.file_results.proofs.Orders.{tail_ascends, first_below}
use Rattle.seen_files.specs.declared.seen.SeenFile.{SeenFile}
use Rattle.seen_files.specs.Seen.{file_of}
use Rattle.seen_files.specs.Walk.{AreBefore, EndsAfter, Takes}

-- ---- paths

pub file_total : IsTotalOrder file_cmp
file_total = on_total (λ (f : File). f.0) name_total

pub not_itself : (p q : List ℕ) → p ≡ q → name_cmp p q ≡ Less → ⊥
not_itself p q e less = let P : List ℕ → Type 0 = λ z. name_cmp p z ≡ Less in let f : Equal ≡ Less = sym (tied_itself name_total p) ∙ subst P (sym e) less in absurd cc

pub not_both : (p q : List ℕ) → name_cmp p q ≡ Less → name_cmp q p ≡ Less → ⊥
not_both p q e f = not_itself p p refl (name_total.trans p q p e f)

-- ---- lists

pub among_reverse : {X : Type 0} (xs : List X) (x : X) → Among xs x → Among (reverse xs) x
among_reverse [] x a = absurd a
among_reverse {X} (y ∷ ys) x a =
    let P : List X → Type 0 = λ l. Among l x in
    subst P (sym (reverse-append (y ∷ []) ys)) (elim a [ inl e ↦ among_right (reverse ys) (y ∷ []) x (inl e) | inr b ↦ among_left (reverse ys) (y ∷ []) x (among_reverse ys x b) ])

pub among_turned : {X : Type 0} (xs : List X) (x : X) → Among (reverse xs) x → Among xs x
among_turned {X} xs x a = let P : List X → Type 0 = λ l. Among l x in subst P (reverse-reverse xs) (among_reverse (reverse xs) x a)

ascends_back : (xs ys : List File) → IsAscending file_cmp (xs ++ ys) → IsAscending file_cmp ys
ascends_back [] ys up = up
ascends_back (x ∷ xs) ys up = ascends_back xs ys (tail_ascends file_cmp file_total x (xs ++ ys) up)

-- the files stand in order of path, the first at the end
abbrev pub IsStack : List SeenFile → Type 0
IsStack files = IsAscending file_cmp (map file_of (reverse files))

-- what stands in front of a file comes after it
pub comes_after : (front back : List SeenFile) (a b : SeenFile) → IsStack (front ++ a ∷ back) → Among front b → name_cmp a.path b.path ≡ Less
comes_after front back a b up h =
    let turned : reverse (front ++ a ∷ back) ≡ reverse back ++ a ∷ reverse front =
    reverse-append front (a ∷ back) ∙ ap (λ (l : List SeenFile). l ++ reverse front) (reverse-append (a ∷ []) back) ∙ append_assoc (reverse back) (a ∷ []) (reverse front) in
    let mapped : map file_of (reverse (front ++ a ∷ back)) ≡ map file_of (reverse back) ++ file_of a ∷ map file_of (reverse front) =
    ap (map file_of) turned ∙ map-append file_of (reverse back) (a ∷ reverse front) in
    let P : List File → Type 0 = IsAscending file_cmp in
    let rest = ascends_back (map file_of (reverse back)) (file_of a ∷ map file_of (reverse front)) (subst P mapped up) in
    first_below file_cmp file_total (file_of a) (map file_of (reverse front)) (file_of b) rest (among_map file_of (reverse front) b (among_reverse front b h))

-- ---- what is taken

module _ (path : List ℕ) (stack left gone new : List SeenFile) (split : stack ≡ left ++ gone) (stands : IsStack stack) (walked : List File)
    (passed : (s : SeenFile) → Among gone s → (f : File) × Among walked f × (name_cmp f.0 s.path ≡ Less → ⊥)) (next : (f : File) → Among walked f → name_cmp f.0 path ≡ Less) where
  not_gone : (s : SeenFile) → s.path ≡ path → Among gone s → ⊥
  not_gone s e a = let (f, k, never) = passed s a in let P : List ℕ → Type 0 = λ p. name_cmp f.0 p ≡ Less in never (subst P (sym e) (next f k))

  split_none : (g : List SeenFile) → left ≡ new ++ g → stack ≡ new ++ (g ++ gone)
  split_none g e = split ∙ ap (λ (l : List SeenFile). l ++ gone) e ∙ append_assoc new g gone

  split_some : (t : SeenFile) (g : List SeenFile) → left ≡ new ++ t ∷ g → stack ≡ new ++ t ∷ (g ++ gone)
  split_some t g e = split ∙ ap (λ (l : List SeenFile). l ++ gone) e ∙ append_assoc new (t ∷ g) gone

  stands_as : (other : List SeenFile) → stack ≡ other → IsStack other
  stands_as other e = let P : List SeenFile → Type 0 = IsStack in subst P e stands

  -- no file at the path is left where the last one comes after it
  not_left : (back : List SeenFile) → stack ≡ new ++ back → EndsAfter path new → (s : SeenFile) → s.path ≡ path → Among new s → ⊥
  not_left back e (inl none) s at a = let P : List SeenFile → Type 0 = λ l. Among l s in subst P none a
  not_left back e (inr (front, last, is, less)) s at a =
      let P : List SeenFile → Type 0 = λ l. Among l s in
      let e' : stack ≡ front ++ last ∷ back = e ∙ ap (λ (l : List SeenFile). l ++ back) is ∙ append_assoc front (last ∷ []) back in
      elim (among_either front (last ∷ []) s (subst P is a)) [
        | inl b ↦ not_itself path s.path (sym at) (name_total.trans path last.path s.path less (comes_after front back last s (stands_as (front ++ last ∷ back) e') b))
        | inr b ↦ elim b [ inl f ↦ not_itself path last.path (sym (ap (λ (t : SeenFile). t.path) f ∙ at)) less | inr c ↦ absurd c ]
      ]

  -- a file at the path is the one that is taken
  taken_is : (taken : Option SeenFile) (g : List SeenFile) → AreBefore path g → MatchOption taken ((left ≡ new ++ g) × EndsAfter path new) (λ s. (left ≡ new ++ s ∷ g) × (s.path ≡ path))
      → (s : SeenFile) → s.path ≡ path → Among stack s → taken ≡ Some s
  taken_is None g before (e, ends) s at a =
      let P : List SeenFile → Type 0 = λ l. Among l s in
      absurd (elim (among_either new (g ++ gone) s (subst P (split_none g e) a)) [
        | inl b ↦ not_left (g ++ gone) (split_none g e) ends s at b
        | inr b ↦ elim (among_either g gone s b) [ inl c ↦ not_itself s.path path at (before s c) | inr c ↦ not_gone s at c ]
      ])
  taken_is (Some t) g before (e, is) s at a =
      let P : List SeenFile → Type 0 = λ l. Among l s in
      elim (among_either new (t ∷ (g ++ gone)) s (subst P (split_some t g e) a)) [
        | inl b ↦ absurd (not_itself t.path s.path (is ∙ sym at) (comes_after new (g ++ gone) t s (stands_as (new ++ t ∷ (g ++ gone)) (split_some t g e)) b))
        | inr b ↦ elim b [
          | inl f ↦ ap (λ (u : SeenFile). Some u) f
          | inr c ↦ absurd (elim (among_either g gone s c) [ inl d ↦ not_itself s.path path at (before s d) | inr d ↦ not_gone s at d ])
        ]
      ]

  -- the one that is taken was there
  taken_was : (taken : Option SeenFile) (g : List SeenFile) → MatchOption taken ((left ≡ new ++ g) × EndsAfter path new) (λ s. (left ≡ new ++ s ∷ g) × (s.path ≡ path))
      → (s : SeenFile) → taken ≡ Some s → (s.path ≡ path) × Among stack s
  taken_was None g found s e = absurd (let f : None ≡ Some s = e in cc)
  taken_was (Some t) g (f, is) s e =
      let same : t ≡ s = cc in
      let P : SeenFile → Type 0 = λ u. (u.path ≡ path) × Among stack u in
      let Q : List SeenFile → Type 0 = λ l. Among l t in
      subst P same (is, subst Q (sym (split_some t g f)) (among_right new (t ∷ (g ++ gone)) t (inl refl)))

  -- what is gone now was passed
  module _ (bytes : List ℕ) where
    passed_on : (s : SeenFile) → Among gone s → (f : File) × Among (walked ++ (path, bytes) ∷ []) f × (name_cmp f.0 s.path ≡ Less → ⊥)
    passed_on s a = let (f, k, never) = passed s a in (f, among_left walked ((path, bytes) ∷ []) f k, never)

    passed_now : (s : SeenFile) → (name_cmp path s.path ≡ Less → ⊥) → (f : File) × Among (walked ++ (path, bytes) ∷ []) f × (name_cmp f.0 s.path ≡ Less → ⊥)
    passed_now s never = ((path, bytes), among_right walked ((path, bytes) ∷ []) (path, bytes) (inl refl), never)

    gone_now : (taken : Option SeenFile) (g : List SeenFile) → AreBefore path g → MatchOption taken ((left ≡ new ++ g) × EndsAfter path new) (λ s. (left ≡ new ++ s ∷ g) × (s.path ≡ path))
        → (gone' : List SeenFile) × (stack ≡ new ++ gone') × ((s : SeenFile) → Among gone' s → (f : File) × Among (walked ++ (path, bytes) ∷ []) f × (name_cmp f.0 s.path ≡ Less → ⊥))
    gone_now None g before (e, ends) = (
      g ++ gone,
      split_none g e,
      λ s a. elim (among_either g gone s a) [ inl b ↦ passed_now s (λ less. not_both path s.path less (before s b)) | inr b ↦ passed_on s b ],
    )
    gone_now (Some t) g before (e, is) = (
      t ∷ (g ++ gone),
      split_some t g e,
      λ s a. elim a [
        | inl f ↦ passed_now s (λ less. not_itself path s.path (sym is ∙ ap (λ (u : SeenFile). u.path) f) less)
        | inr b ↦ elim (among_either g gone s b) [ inl c ↦ passed_now s (λ less. not_both path s.path less (before s c)) | inr c ↦ passed_on s c ]
      ],
    )

  -- the same of what the call gives
  module _ (taken : Option SeenFile) (t : Takes path left taken new) where
    pub finds_it : (s : SeenFile) → s.path ≡ path → Among stack s → taken ≡ Some s
    finds_it = taken_is taken t.gone t.before t.found

    pub found_it : (s : SeenFile) → taken ≡ Some s → (s.path ≡ path) × Among stack s
    found_it = taken_was taken t.gone t.found

    pub goes_on : (bytes : List ℕ) → (gone' : List SeenFile) × (stack ≡ new ++ gone') × ((s : SeenFile) → Among gone' s → (f : File) × Among (walked ++ (path, bytes) ∷ []) f × (name_cmp f.0 s.path ≡ Less → ⊥))
    goes_on bytes = gone_now bytes taken t.gone t.before t.found

-- ---- how they are taken

-- those that are gone so far come before the path
abbrev pub Taking : List ℕ → List SeenFile → List SeenFile → Type 0
Taking path stack left = (gone : List SeenFile) × (stack ≡ left ++ gone) × AreBefore path gone

pub taking_none : (path : List ℕ) (stack : List SeenFile) → Taking path stack stack
taking_none path stack = ([], sym (append-nil stack), λ s a. absurd a)

-- the last one, by where it stands
module _ (path : List ℕ) (stack left : List SeenFile) (h : Taking path stack left) (new : List SeenFile) (last : SeenFile) (popped : left ≡ new ++ last ∷ []) where
  last_split : stack ≡ new ++ last ∷ h.0
  last_split = h.1 ∙ ap (λ (l : List SeenFile). l ++ h.0) popped ∙ append_assoc new (last ∷ []) h.0

  pub taking_on : name_cmp last.path path ≡ Less → Taking path stack new
  taking_on less = (last ∷ h.0, last_split, λ s a. elim a [ inl e ↦ (let P : SeenFile → Type 0 = λ t. name_cmp t.path path ≡ Less in subst P e less) | inr b ↦ h.2 s b ])

  pub takes_it : name_cmp last.path path ≡ Equal → Takes path stack (Some last) new
  takes_it tied = record { gone = h.0; before = h.2; found = (last_split, name_same last.path path tied) }

  pub takes_none : (back : List SeenFile) → back ≡ new ++ last ∷ [] → name_cmp last.path path ≡ Greater → Takes path stack None back
  takes_none back e after =
      let less : name_cmp path last.path ≡ Less = name_total.antisymm path last.path ∙ ap ordering_reverse after in
      record { gone = h.0; before = h.2; found = (h.1 ∙ ap (λ (l : List SeenFile). l ++ h.0) (popped ∙ sym e), inr (new, last, e, less)) }

pub takes_all : (path : List ℕ) (stack left new : List SeenFile) → Taking path stack left → left ≡ [] → new ≡ [] → Takes path stack None new
takes_all path stack left new h e f = record { gone = h.0; before = h.2; found = (h.1 ∙ ap (λ (l : List SeenFile). l ++ h.0) (e ∙ sym f), inl f) }

-- what is taken stands at the path
pub taken_at : (path : List ℕ) (old : List SeenFile) (taken : Option SeenFile) (new : List SeenFile) → Takes path old taken new → IfSome taken (λ s. s.path ≡ path)
taken_at path old None new t = tt
taken_at path old (Some s) new t = t.found.1
