-- A unit has at most as many names as the file has different ones.
use Rattle.std.proofs.Common.{◌≡◌, inl, inr, ℕ, ◌≤◌, Bool, true, false, List, [], ◌∷◌, ◌++◌, length, map, refl, sym, subst, arith}
use Rattle.std.specs.Prelude.{◌||◌, ◌&&◌, ◌==◌, if◌then◌else◌}
use Rattle.std.specs.List.{flat_map}
use Rattle.std.specs.Set.{distinct_count}
use Rattle.std.specs.Str.{bytes_eq}
use Rattle.std.proofs.lemmas.List.{length-map, map-append}
use Rattle.std.proofs.lemmas.Slice.Eq.{bytes_eq-Decides}
use Rattle.node_tree.specs.declared.kind.Kind.{Kind}
use Rattle.node_tree.specs.declared.kind.Kind.TheVariants as kinds
use Rattle.node_tree.specs.declared.node.Node.{Node}
use Rattle.node_tree.specs.Order.{kind_place}
use Rattle.node_tree.specs.Tree.{pre_of, kind_of, text_of}
use Rattle.graph_form.specs.Sets.{Among}
use Rattle.graph_form.proofs.Amongs.{among_app}
use Rattle.unit_names.specs.Words.{Word, name_word, same_word, is_one_of, with_word, with_words, each_once}
use Rattle.taint_flow.specs.Bounds.{own_names, words_by, words_at}
use Rattle.taint_flow.specs.Sizes.{names_of}
use Rattle.taint_plan.proofs.Below.{among_flat}
use Rattle.taint_flow.proofs.Counted.{counted_within}
use Rattle.taint_flow.proofs.NameCounts.{unit_writes}

-- ---- words that stand once each have all the texts

abbrev texts : List Word → List (List ℕ)
texts ws = map (λ (w : Word). w.text) ws

second : (a b : Bool) → a && b ≡ true → b ≡ true
second true b e = e
second false b e = absurd cc

text_by : (x w : Word) (xs : List Word) (b : Bool) → same_word x w ≡ b → (b || is_one_of xs w) ≡ true → (is_one_of xs w ≡ true → Among (texts xs) w.text) → Among (texts (x ∷ xs)) w.text
text_by x w xs true same e later = inl ((bytes_eq-Decides x.text w.text).0 (second (kind_place x.kind == kind_place w.kind) (bytes_eq x.text w.text) same))
text_by x w xs false other e later = inr (later e)

text_there : (ws : List Word) (w : Word) → is_one_of ws w ≡ true → Among (texts ws) w.text
text_there [] w e = absurd cc
text_there (x ∷ xs) w e = text_by x w xs (same_word x w) refl e (text_there xs w)

module _ (ws : List Word) (v : Word) where
  among_both : (t : List ℕ) → Among (texts ws ++ v.text ∷ []) t → Among (texts (ws ++ v ∷ [])) t
  among_both t a = let P : List (List ℕ) → Type 0 = λ ts. Among ts t in subst P (sym (map-append (λ (w : Word). w.text) ws (v ∷ []))) a

  kept_by : (b : Bool) (t : List ℕ) → Among (texts ws) t → Among (texts (if b then ws else ws ++ v ∷ [])) t
  kept_by true t a = a
  kept_by false t a = among_both t ((among_app (texts ws) (v.text ∷ []) t).1 (inl a))

  new_by : (b : Bool) → is_one_of ws v ≡ b → Among (texts (if b then ws else ws ++ v ∷ [])) v.text
  new_by true there = text_there ws v there
  new_by false new = among_both v.text ((among_app (texts ws) (v.text ∷ []) v.text).1 (inr (inl refl)))

all_kept : (ws vs : List Word) (t : List ℕ) → Among (texts ws) t → Among (texts (with_words ws vs)) t
all_kept ws [] t a = a
all_kept ws (v ∷ vs) t a = all_kept (with_word ws v) vs t (kept_by ws v (is_one_of ws v) t a)

all_texts : (ws vs : List Word) (w : Word) → Among vs w → Among (texts (with_words ws vs)) w.text
all_texts ws [] w none = absurd none
all_texts ws (v ∷ vs) w (inl e) = let P : Word → Type 0 = λ x. Among (texts (with_words (with_word ws v) vs)) x.text in subst P e (all_kept (with_word ws v) vs v.text (new_by ws v (is_one_of ws v) refl))
all_texts ws (v ∷ vs) w (inr a) = all_texts (with_word ws v) vs w a

-- ---- the names of a unit

word_here : (kind : Kind) (text : List ℕ) → own_names kind ≡ 1 → Among (words_by kind text) (name_word text)
word_here kinds.Name text e = inl refl
word_here kinds.Id text e = inl refl
word_here _ text e = absurd cc

-- the names that the nodes of a tree are
abbrev all_in : Node → List Word
all_in root = flat_map words_at (pre_of root)

pub names_once : (root : Node) (unit : ℕ) → distinct_count bytes_eq (names_of root unit) ≤ length (each_once (flat_map words_at (pre_of root)))
names_once root unit = omega (arith, counted_within bytes_eq bytes_eq-Decides (names_of root unit) (texts (each_once (all_in root))) has, length-map (each_once (all_in root)) (λ (w : Word). w.text))
  where
    has : (name : List ℕ) → Among (names_of root unit) name → Among (texts (each_once (all_in root))) name
    has name among =
        let w = unit_writes root unit name among in
        let word = name_word (text_of w.word) in
        let there : Among (all_in root) word = (among_flat words_at (pre_of root) word).1 (w.word, w.within, word_here (kind_of w.word) (text_of w.word) w.is) in
        let P : List ℕ → Type 0 = Among (texts (each_once (all_in root))) in
        subst P w.text (all_texts [] (all_in root) word there)
