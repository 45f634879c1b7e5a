-- What never stands behind the first token of a rule: where a rule begins with one of some classes, its second token is of none of some others.
use Rattle.std.proofs.Common.{◌≡◌, ℕ, suc, List, refl, sym, ◌∙◌, arith, inl, inr}
use Rattle.std.specs.Prelude.{◌<◌, Bool, true, false, ◌||◌, ◌&&◌, Option, Some, None, ◌⊎◌}
use Rattle.grammar.specs.Rule.{Rule, done, mark, word, ref, deep, again, seq, around, alt, look, choose, opt, must, rep, make, has, Source, Table, Loop, outside, within, Derives, d_done, d_mark, d_word, d_ref, d_deep, d_again, d_rep, d_seq, d_around, d_left, d_right, d_seen, d_unseen, d_chosen, d_unchosen, d_without, d_with, d_barred, d_taken, d_make}
use Rattle.grammar.specs.Sets.{Sets, first}
use Rattle.grammar.specs.Check.{apart}
use Rattle.grammar.proofs.Facts.{and_both, or_either, apart_holds, less_or_same}
use Rattle.grammar.proofs.Spelled.{IsClear, IsGrammar}
use Rattle.grammar.proofs.Bounded.{forward, head, Around_clear}

-- no spelling of the rule begins with a class of the heads and then has one of the others, if that is so of these levels
abbrev pub keeps : {K B L : Type 0} → Sets L → List ℕ → List ℕ → (L → Bool) → Option L → Rule K B L → Bool
keeps S heads others levels q done = true
keeps S heads others levels q (mark cs) = true
keeps S heads others levels q (word k cs) = true
keeps S heads others levels q (ref l) = apart heads (S.first l) || levels l
keeps S heads others levels q (deep l) = apart heads (S.first l) || levels l
keeps S heads others levels q again = true
keeps S heads others levels q (seq r s) = keeps S heads others levels q r && (keeps S heads others levels q s && apart others (first S q s))
keeps S heads others levels q (around cs ds r) = apart heads cs
keeps S heads others levels q (alt r s) = keeps S heads others levels q r && keeps S heads others levels q s
keeps S heads others levels q (look w cs ds b r s) = (apart heads cs || apart others ds) && keeps S heads others levels q s
keeps S heads others levels q (choose p r s) = keeps S heads others levels q r && keeps S heads others levels q s
keeps S heads others levels q (opt r) = keeps S heads others levels q r
keeps S heads others levels q (must cs r) = keeps S heads others levels q r
keeps S heads others levels q (rep l r) = keeps S heads others levels (Some l) r
keeps S heads others levels q (make b r) = keeps S heads others levels q r

module _ {K B L N : Type 0} (t : Source K B N) (table : Table K B L) (S : Sets L) (I : IsGrammar S table) (heads others : List ℕ) (levels : L → Bool) (all : (l : L) → levels l ≡ true → keeps S heads others levels None (table l) ≡ true) where
  abbrev Keeps : Option L → Rule K B L → Type 0
  Keeps q r = keeps S heads others levels q r ≡ true

  -- the same of the loop around, where there is one
  abbrev Loop_keeps : Loop K B L → Type 0
  Loop_keeps outside = record {}
  Loop_keeps (within l r) = Keeps (Some l) r

  never : (i : ℕ) (cs : List ℕ) → apart heads cs ≡ true → has heads (t.cls i) ≡ true → has cs (t.cls i) ≡ true → ⊥
  never i cs h g k = let e : true ≡ false = sym g ∙ apart_holds heads cs h (t.cls i) k in absurd cc

  pub lacks : {c : Loop K B L} {r : Rule K B L} {xs : List N} {i j : ℕ} → Derives t table c r xs i j → (q : Option L) → Around_clear t table S I c q → Loop_keeps c → IsClear S q r → Keeps q r → has heads (t.cls i) ≡ true → suc i < j → has others (t.cls (suc i)) ≡ false
  lacks (d_done e s) q a w k h g lt = absurd (omega (arith, s, lt))
  lacks (d_mark m e s) q a w k h g lt = absurd (omega (arith, s, lt))
  lacks (d_word m e s) q a w k h g lt = absurd (omega (arith, s, lt))
  lacks (d_ref {l = l} {i = i} d) q a w k h g lt = elim (or_either (apart heads (S.first l)) (levels l) h) [
    | inl e ↦ absurd (never i (S.first l) e g ((I.covers l).first (t.cls i) (head t table S I d None (record {}) (I.clear l) (omega (arith, lt)))))
    | inr e ↦ lacks d None (record {}) (record {}) (I.clear l) (all l e) g lt
  ]
  lacks (d_deep {l = l} {i = i} d) q a w k h g lt = elim (or_either (apart heads (S.first l)) (levels l) h) [
    | inl e ↦ absurd (never i (S.first l) e g ((I.covers l).first (t.cls i) (head t table S I d None (record {}) (I.clear l) (omega (arith, lt)))))
    | inr e ↦ lacks d None (record {}) (record {}) (I.clear l) (all l e) g lt
  ]
  lacks (d_again {l = l} {r = r} d) q a w k h g lt = lacks d (Some l) (refl, a.1, a.2) w a.1 w g lt
  lacks (d_rep {l = l} {r = r} d) q a w k h g lt = lacks d (Some l) (refl, k.0, k.1) h k.0 h g lt
  lacks (d_seq {r = r} {s = s} {i = i} m ys zs d e eq) q a w k h g lt =
      let p : _ = and_both (keeps S heads others levels q r) (keeps S heads others levels q s && apart others (first S q s)) h in
      let o : _ = and_both (keeps S heads others levels q s) (apart others (first S q s)) p.1 in
      elim (less_or_same i m (forward t table S I d)) [
        | inr z ↦ rw z (lacks e q a w k.1 o.0 (rw z at g) (rw z at lt))
        | inl z ↦ elim (less_or_same (suc i) m z) [
          | inl v ↦ lacks d q a w k.0 p.0 g v
          | inr v ↦ rw v (apart_holds others (first S q s) o.1 (t.cls m) (head t table S I e q a k.1 (rw v at lt)))
        ]
      ]
  lacks (d_around {cs = cs} {i = i} m v d z s) q a w k h g lt = absurd (never i cs h g v)
  lacks (d_left {r = r} {s = s} d) q a w k h g lt = lacks d q a w k.0 (and_both (keeps S heads others levels q r) (keeps S heads others levels q s) h).0 g lt
  lacks (d_right {r = r} {s = s} d) q a w k h g lt = lacks d q a w k.1 (and_both (keeps S heads others levels q r) (keeps S heads others levels q s) h).1 g lt
  lacks (d_seen {cs = cs} {ds = ds} {s = s} {i = i} ys u v d e) q a w k h g lt = elim (or_either (apart heads cs) (apart others ds) (and_both (apart heads cs || apart others ds) (keeps S heads others levels q s) h).0) [
    | inl z ↦ absurd (never i cs z g u)
    | inr z ↦ apart_holds others ds z (t.cls (suc i)) v
  ]
  lacks (d_unseen {cs = cs} {ds = ds} {s = s} u d) q a w k h g lt = lacks d q a w k.1 (and_both (apart heads cs || apart others ds) (keeps S heads others levels q s) h).1 g lt
  lacks (d_chosen {r = r} {s = s} u d) q a w k h g lt = lacks d q a w k.0 (and_both (keeps S heads others levels q r) (keeps S heads others levels q s) h).0 g lt
  lacks (d_unchosen {r = r} {s = s} u d) q a w k h g lt = lacks d q a w k.1 (and_both (keeps S heads others levels q r) (keeps S heads others levels q s) h).1 g lt
  lacks (d_barred u e s) q a w k h g lt = absurd (omega (arith, s, lt))
  lacks (d_taken d) q a w k h g lt = lacks d q a w k.0 h g lt
  lacks (d_without e s) q a w k h g lt = absurd (omega (arith, s, lt))
  lacks (d_with d) q a w k h g lt = lacks d q a w k.0 h g lt
  lacks (d_make ys d s) q a w k h g lt = lacks d q a w k h g lt
