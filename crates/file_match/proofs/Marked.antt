-- Marks of the places of words.
use Rattle.std.proofs.Common.{◌≡◌, ◌⊎◌, inl, inr, ◌↔◌, ℕ, zero, suc, ◌+◌, ◌<◌, ◌%◌, List, [], ◌∷◌, length, get_or, drop, arith, refl, sym, ap, ◌∙◌, subst}
use Rattle.std.specs.Prelude.{true, false, Bool, not, if◌then◌else◌}
use Rattle.std.specs.List.{AllClonesOf}
use Rattle.node_tree.specs.declared.known.Known.{Known}
use Rattle.node_tree.specs.declared.node.Node.{Node}
use Rattle.node_tree.specs.declared.view.Pattern.{Pattern}
use Rattle.node_tree.specs.declared.view.Shape.{Shape}
use Rattle.node_tree.specs.declared.view.Shape.TheVariants.{Run}
use Rattle.node_tree.specs.Numbers.{root_of}
use Rattle.node_tree.specs.Tree.{pre_of}
use Rattle.node_match.specs.Sets.{Among}
use Rattle.tree_match.specs.Members.{Member, MemberOf, MemberRun, IsMember, known_to}
use Rattle.file_match.specs.Trees.{known_in}
use Rattle.file_match.specs.Words.{Word, word_of, place_of, place_among, is_marked, IsMarked, HasPlaceAmong, HasRoom, Covers, Lacks, NeedsOf, ArePlaces, AreMarked, MayHave}
use Rattle.file_match.proofs.Bits.{none_marked}
use Rattle.file_match.proofs.Needed.{member_needs, run_needs}
use Rattle.file_match.proofs.Places.{among_all}

-- ---- a mark more

-- what is marked, and what is left to be, among so many places
module _ (count : ℕ) where
  abbrev pub CoversRest : List ℕ → List Node → List Node → Type 0
  CoversRest marks all rest = (i : ℕ) → (IsMarked marks i ⊎ HasPlaceAmong count rest i) ↔ HasPlaceAmong count all i

  has_next : (m : Node) (next : List Node) (i : ℕ) → HasPlaceAmong count (m ∷ next) i ↔ ((place_among count (word_of m) ≡ i) ⊎ HasPlaceAmong count next i)
  has_next m next i = (
    λ (n, a, is). elim a [ inl e ↦ inl (ap (λ (z : Node). place_among count (word_of z)) e ∙ is) | inr b ↦ inr (n, b, is) ],
    λ h. elim h [ inl is ↦ (m, inl refl, is) | inr (n, b, is) ↦ (n, inr b, is) ],
  )

  pub mark_next : (all : List Node) (marks new : List ℕ) (rest next : List Node) (m : Node) (place : ℕ) → CoversRest marks all rest → rest ≡ m ∷ next → place ≡ place_of (word_of m)
      → ((i : ℕ) → IsMarked new i ↔ (IsMarked marks i ⊎ (place % count ≡ i))) → CoversRest new all next
  mark_next all marks new rest next m place covers e place-is more i =
      let P : List Node → Type 0 = λ ns. HasPlaceAmong count ns i in
      let among : place % count ≡ place_among count (word_of m) = ap (λ (k : ℕ). k % count) place-is in
      let split = has_next m next i in (
        λ h. elim h [
          | inl x ↦ elim ((more i).0 x) [ inl y ↦ (covers i).0 (inl y) | inr is ↦ (covers i).0 (inr (subst P (sym e) (split.1 (inl (sym among ∙ is))))) ]
          | inr y ↦ (covers i).0 (inr (subst P (sym e) (split.1 (inr y))))
        ],
        λ h. elim ((covers i).1 h) [
          | inl x ↦ inl ((more i).1 (inl x))
          | inr y ↦ elim (split.0 (subst P e y)) [ inl is ↦ inl ((more i).1 (inr (among ∙ is))) | inr z ↦ inr z ]
        ],
      )

  pub covers_none : (marks : List ℕ) (all rest : List Node) → ((k : ℕ) → get_or marks k 0 ≡ 0) → rest ≡ all → CoversRest marks all rest
  covers_none marks all rest clear e i =
      let P : List Node → Type 0 = λ ns. HasPlaceAmong count ns i in
      (λ h. elim h [ inl x ↦ absurd (let f : false ≡ true = sym (none_marked marks clear i) ∙ x in cc) | inr y ↦ subst P e y ], λ h. inr (subst P (sym e) h))

  pub all_marked : (all : List Node) (marks : List ℕ) (rest : List Node) → HasRoom count marks → CoversRest marks all rest → rest ≡ [] → Covers count marks all
  all_marked all marks rest room covers none = record {
    room = room;
    exact = λ i. let P : List Node → Type 0 = λ ns. HasPlaceAmong count ns i in
        (λ h. (covers i).0 (inl h), λ h. elim ((covers i).1 h) [ inl x ↦ x | inr y ↦ absurd (subst P none y).1 ]);
  }

-- numbers that are all 0
pub all_zero : (K : ℕ → ℕ → Type 0) → ((x y : ℕ) → K x y → y ≡ x) → (marks : List ℕ) → AllClonesOf K 0 marks → (k : ℕ) → get_or marks k 0 ≡ 0
all_zero K same [] all k = refl
all_zero K same (m ∷ ms) all zero = elim all.0 [ inl x ↦ x | inr y ↦ same 0 m y ]
all_zero K same (m ∷ ms) all (suc k) = all_zero K same ms all.1 k

-- ---- needed places

-- where the place of a needed word is unmarked, the tree lacks that word
pub lacks_one : (count : ℕ) (marks places : List ℕ) (i : ℕ) → Among places i → is_marked marks (i % count) ≡ false → (fixed : Bool) (shape : Shape) (p tree : Node) → Covers count marks (pre_of tree)
    → ArePlaces fixed shape p places → Lacks fixed shape p tree
lacks_one count marks places i a unmarked fixed shape p tree covers are =
    let (w, needs, is) = (are i).0 a in
    let P : ℕ → Type 0 = λ k. is_marked marks (k % count) ≡ false in
    let none : is_marked marks (place_among count w) ≡ false = subst P is unmarked in (
      w,
      needs,
      λ (n, there, word).
          let marked : is_marked marks (place_among count w) ≡ true = (covers.exact (place_among count w)).1 (n, there, ap (place_among count) word) in
          absurd (let f : false ≡ true = sym none ∙ marked in cc),
    )

-- each place is marked just where the tree may have the pattern
pub marked_may : (count : ℕ) (marks places : List ℕ) (p : Pattern) (tree : Node) → count ≡ 65536 → Covers count marks (pre_of tree) → ArePlaces (not p.constants) p.shape p.tree places
    → AreMarked count marks places ↔ MayHave p tree
marked_may count marks places p tree all covers are =
    let same : (v w : Word) → place_among count v ≡ place_among count w → place_of v ≡ place_of w = λ v w e. sym (among_all count v all) ∙ e ∙ among_all count w all in (
      λ marked w needs.
          let (n, there, is) = (covers.exact (place_among count w)).0 (marked (place_of w) ((are (place_of w)).1 (w, needs, refl))) in
          (n, there, same (word_of n) w is),
      λ may i a.
          let (w, needs, is) = (are i).0 a in
          let (n, there, at) = may w needs in
          let P : ℕ → Type 0 = λ k. IsMarked marks (k % count) in
          subst P (sym is) ((covers.exact (place_among count w)).1 (n, there, ap (λ (k : ℕ). k % count) at)),
    )

-- all that are left are marked, and then all are
abbrev pub Marks : ℕ → List ℕ → List ℕ → List ℕ → Type 0
Marks count marks all left = AreMarked count marks left → AreMarked count marks all

pub marks_on : (count : ℕ) (marks all left rest : List ℕ) (place : ℕ) → Marks count marks all left → left ≡ place ∷ rest → IsMarked marks (place % count) → Marks count marks all rest
marks_on count marks all left rest place far e marked others = far (λ i a.
    let P : List ℕ → Type 0 = λ xs. Among xs i in
    let Q : ℕ → Type 0 = λ k. IsMarked marks (k % count) in
    elim (subst P e a) [ inl is ↦ subst Q is marked | inr b ↦ others i b ])

pub among_here : (xs : List ℕ) (i d : ℕ) → i < length xs → Among xs (get_or xs i d)
among_here [] i d lt = absurd (omega arith)
among_here (x ∷ xs) zero d lt = inl refl
among_here (x ∷ xs) (suc i) d lt = inr (among_here xs i d (omega arith))

pub left_here : (xs : List ℕ) (i d : ℕ) → i < length xs → drop i xs ≡ get_or xs i d ∷ drop (i + 1) xs
left_here [] i d lt = absurd (omega arith)
left_here (x ∷ xs) zero d lt = refl
left_here (x ∷ xs) (suc i) d lt = let f : suc (i + 1) ≡ suc i + 1 = omega arith in left_here xs i d (omega arith) ∙ ap (λ (k : ℕ). get_or xs i d ∷ drop k (x ∷ xs)) f

-- one isn't marked
pub unmarked_one : (count : ℕ) (marks all : List ℕ) (place : ℕ) → Among all place → is_marked marks (place % count) ≡ false → (false ≡ true) ↔ AreMarked count marks all
unmarked_one count marks all place a unmarked = (λ e. absurd (let f : false ≡ true = e in cc), λ marked. absurd (let f : false ≡ true = sym unmarked ∙ marked place a in cc))

pub marks_end : (count : ℕ) (marks all left : List ℕ) → Marks count marks all left → left ≡ [] → (true ≡ true) ↔ AreMarked count marks all
marks_end count marks all left far none = (λ e. far (λ i a. let P : List ℕ → Type 0 = λ xs. Among xs i in absurd (subst P none a)), λ m. refl)

-- ---- members

none_known : (constants : Bool) (known : List Known) → not constants ≡ true → (if constants then known else []) ≡ []
none_known true known e = absurd cc
none_known false known e = refl

-- a tree with a member may have the pattern
pub member_may : (p : Pattern) (tree : Node) (known : List Known) (m : Member) → IsMember p (known_in tree known) m → MayHave p tree
member_may p tree known m x w needs =
    let (n, there, word) = member_needs (known_to p known) (not p.constants) (none_known p.constants known) p.shape p.tree tree w m needs x in
    (n, there, ap place_of word)

-- where the tree lacks a word, it has no member
pub lacks_member : (fixed : Bool) (C : List Known) → (fixed ≡ true → C ≡ []) → (shape : Shape) (p tree : Node) → Lacks fixed shape p tree → (m : Member) → MemberOf C shape p tree m → ⊥
lacks_member fixed C none shape p tree (w, needs, lacks) m x = lacks (member_needs C fixed none shape p tree w m needs x)

-- nor has its root a run of its own
pub lacks_run : (fixed : Bool) (C : List Known) → (fixed ≡ true → C ≡ []) → (shape : Shape) (p tree : Node) → shape ≡ Run → Lacks fixed shape p tree → (m : Member) → MemberRun C p (root_of tree) m → ⊥
lacks_run fixed C none shape p tree is (w, needs, lacks) m x =
    let P : Shape → Type 0 = λ s. NeedsOf fixed s p w in
    lacks (run_needs C fixed none p (root_of tree) w m (subst P is needs) x)
