-- Items cut off where one stands inside too many brackets have the same closed runs.
use Rattle.std.proofs.Common.{◌≡◌, ℕ, zero, suc, ◌-◌, ◌<◌, ◌≤◌, List, [], ◌∷◌, length, take, ap, sym, ◌∙◌, arith, inl, inr}
use Rattle.std.specs.Prelude.{◌⊎◌, min}
use Rattle.std.proofs.lemmas.List.{get_or-take, get_or_past, length-take}
use Rattle.std.proofs.Math.Seq.{take-length}
use Rattle.node_tree.specs.declared.node.Node.{Node}
use Rattle.node_tree.specs.declared.view.Mode.{Mode}
use Rattle.grammar.specs.Rule.{open_at}
use Rattle.grammar.proofs.Counts.{count_same, inside_open}
use Rattle.grammar.proofs.Cuts.{Alike, nothing_open, ends_before, same_run}
use Rattle.py_expr.specs.declared.item.Item.{Item}
use Rattle.py_expr.specs.declared.level.PyLevel.{PyLevel}
use Rattle.py_expr.specs.Words.{class}
use Rattle.py_expr.specs.Parts.{whole, depth_all}
use Rattle.py_expr.specs.Table.{grammar}
use Rattle.py_expr.specs.Build.{token_at, end_item, end_of, source, leaf, made}
use Rattle.py_expr.specs.reader.Sets.{sets, ranks}
use Rattle.py_expr.specs.reader.Reading.{round_at}
use Rattle.py_expr.specs.Runs.{of_mode, level_at, IsRunTree, AreOf}
use Rattle.py_expr.proofs.Passes.{pass}
use Rattle.py_expr.proofs.Depths.{deepens}
use Rattle.py_expr.proofs.Modes.{end_of_mode}
use Rattle.py_expr.proofs.Runs.{close, shut_level}

-- Where items are cut off: at the end, or before one that stands inside too many brackets.
pub record IsCut (ts : List Item) (from cut : ℕ) : Type 0 where
  pub ordered : from ≤ cut
  pub within : cut ≤ length ts
  pub many : cut < length ts → 500 < round_at ts from cut

token_here : (ts : List Item) (cut n : ℕ) → n < cut → token_at (take cut ts) n ≡ token_at ts n
token_here ts cut n h = get_or-take cut ts n end_item h

-- up to a place before the cut nothing is different
alike : (ts : List Item) (cut last : ℕ) → last < cut → Alike (source ts) (source (take cut ts)) last
alike ts cut last h = record {
  cls = λ n le. ap (λ (t : Item). class t.word) (sym (token_here ts cut n (omega (arith, le, h))));
  leaf = λ k n lt. ap (leaf k) (sym (token_here ts cut n (omega (arith, lt, h))));
  build = λ b i j ps le le'. ap (λ (t : Item). made b t.text t.span.from (end_of ts j) ps) (sym (token_here ts cut i (omega (arith, le, le', h)))) ∙ ap (λ (t : Item). made b (token_at (take cut ts) i).text (token_at (take cut ts) i).span.from t.span.to ps) (sym (token_here ts cut (j - 1) (omega (arith, le, le', h))));
}

back : (ts : List Item) (cut last : ℕ) → last < cut → Alike (source (take cut ts)) (source ts) last
back ts cut last h = let a : _ = alike ts cut last h in record {
  cls = λ n le. sym (a.cls n le);
  leaf = λ k n lt. sym (a.leaf k n lt);
  build = λ b i j ps le le'. sym (a.build b i j ps le le');
}

-- either nothing is cut off, or it is before an item
whole_or_cut : (ts : List Item) (cut : ℕ) → cut ≤ length ts → (take cut ts ≡ ts) ⊎ (cut < length ts)
whole_or_cut ts cut h = elim (same_or_less cut (length ts) h) [
  | inl e ↦ inl (rw e (take-length ts))
  | inr l ↦ inr l
]
  where
    same_or_less : (a b : ℕ) → a ≤ b → (a ≡ b) ⊎ (a < b)
    same_or_less a b h = grind arith

cut_length : (ts : List Item) (cut : ℕ) → cut ≤ length ts → length (take cut ts) ≡ cut
cut_length ts cut h = length-take cut ts ∙ least cut (length ts) h
  where
    least : (a b : ℕ) → a ≤ b → min a b ≡ a
    least a b h = grind arith

-- A run of the items that are left is one of all.
pub tree_of_all : (mode : Mode) (ts : List Item) (l : PyLevel) (from cut : ℕ) (n : Node) (to : ℕ) → IsCut ts from cut → IsRunTree mode (take cut ts) l from n to → IsRunTree mode ts l from n to
unfolding round_at
tree_of_all mode ts l from cut n to c r = elim (whole_or_cut ts cut c.within) [
  | inl e ↦ rw e at r
  | inr some ↦
      let le : to ≤ cut = rw (cut_length ts cut c.within) at r.within in
      let lt : to < cut = ends (le_cases to cut le) some in
      record {
        within = omega (arith, le, c.within);
        run = same_run grammar sets ranks pass depth_all (of_mode mode) 36 (close mode) (source (take cut ts)) (source ts) (deepens (take cut ts)) (level_at l) (whole n ∷ []) from to (shut_level (level_at l)) (back ts cut to lt) r.run;
      }
]
  where
    le_cases : (a b : ℕ) → a ≤ b → (a < b) ⊎ (a ≡ b)
    le_cases a b h = grind arith

    ends : (to < cut) ⊎ (to ≡ cut) → cut < length ts → to < cut
    ends (inl lt) some = lt
    ends (inr eq) some = absurd (omega (arith, many, none, same))
      where
        many : 500 < open_at grammar.opens grammar.closes (source ts).cls from cut
        many = omega (arith, c.many some, inside_open grammar.opens grammar.closes (source ts).cls from cut)

        none : open_at grammar.opens grammar.closes (source (take cut ts)).cls from cut ≡ zero
        none = rw eq at (nothing_open grammar sets ranks pass depth_all (source (take cut ts)) (level_at l) (whole n ∷ []) from to r.run.piece.spelled)

        same : open_at grammar.opens grammar.closes (source (take cut ts)).cls from cut ≡ open_at grammar.opens grammar.closes (source ts).cls from cut
        same = count_same grammar.opens grammar.closes (source (take cut ts)).cls (source ts).cls from cut (λ k lt. ap (λ (t : Item). class t.word) (token_here ts cut k lt))

-- A run of all is one of the items that are left.
pub tree_of_left : (mode : Mode) (ts : List Item) (l : PyLevel) (from cut : ℕ) (n : Node) (to : ℕ) → IsCut ts from cut → IsRunTree mode ts l from n to → IsRunTree mode (take cut ts) l from n to
unfolding round_at
tree_of_left mode ts l from cut n to c r = elim (whole_or_cut ts cut c.within) [
  | inl e ↦ rw e r
  | inr some ↦
      let lt : to < cut = ends_before grammar sets ranks pass depth_all (source ts) (level_at l) (whole n ∷ []) from to cut r.run.piece c.ordered (c.many some) in
      record {
        within = rw (cut_length ts cut c.within) (omega (arith, lt));
        run = same_run grammar sets ranks pass depth_all (of_mode mode) 36 (close mode) (source ts) (source (take cut ts)) (deepens ts) (level_at l) (whole n ∷ []) from to (shut_level (level_at l)) (alike ts cut to lt) r.run;
      }
]

-- the items that are left are of the mode
pub left_of_mode : (mode : Mode) (ts : List Item) (cut : ℕ) → AreOf mode ts → AreOf mode (take cut ts)
unfolding class
left_of_mode mode ts cut all k = elim (less_or_not k cut) [
  | inl lt ↦ rw (token_here ts cut k lt) (all k)
  | inr ge ↦ rw (get_or_past (take cut ts) k end_item (omega (arith, length-take cut ts, least cut (length ts), ge))) (end_of_mode mode)
]
  where
    less_or_not : (a b : ℕ) → (a < b) ⊎ (b ≤ a)
    less_or_not a b = grind arith

    least : (a b : ℕ) → min a b ≤ a
    least a b = grind arith

-- the items that are left stand inside as many brackets
pub few_left : (ts : List Item) (from cut n : ℕ) → n < cut → round_at ts from n ≤ 500 → round_at (take cut ts) from n ≤ 500
unfolding round_at
few_left ts from cut n h few = rw (same n (omega (arith, h)), same (suc n) (omega (arith, h))) few
  where
    same : (m : ℕ) → m ≤ cut → open_at grammar.opens grammar.closes (source (take cut ts)).cls from m ≡ open_at grammar.opens grammar.closes (source ts).cls from m
    same m le = count_same grammar.opens grammar.closes (source (take cut ts)).cls (source ts).cls from m (λ k lt. ap (λ (t : Item). class t.word) (token_here ts cut k (omega (arith, lt, le))))

-- a place before the end of what is left is before the cut
pub end_within : (ts : List Item) (cut to n : ℕ) → n < to → to ≤ length (take cut ts) → n < cut
end_within ts cut to n h within = omega (arith, h, within, length-take cut ts, least cut (length ts))
  where
    least : (a b : ℕ) → min a b ≤ a
    least a b = grind arith
