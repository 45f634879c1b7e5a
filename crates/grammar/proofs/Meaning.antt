-- What a level spells is derived.
use Rattle.std.proofs.Common.{ℕ, zero, suc, List, arith, inl, inr}
use Rattle.std.specs.Prelude.{Bool, true, false, Option, Some, None}
use Rattle.grammar.specs.Rule.{Rule, done, mark, word, ref, deep, again, seq, around, alt, look, choose, opt, must, rep, make, Source, Table, Unlike, Loop, outside, within, Derives, d_done, d_mark, d_word, d_ref, d_deep, d_again, d_rep, d_seq, d_around, d_left, d_right, d_seen, d_unseen, d_chosen, d_unchosen, d_without, d_with, d_barred, d_taken, d_make}
use Rattle.grammar.specs.Sets.{Sets}
use Rattle.grammar.proofs.Facts.{ltb_less}
use Rattle.grammar.proofs.Spelled.{Rel, part, Other, rounds, Never, Spelled, Ladder, pick, Level}

module _ {K B L N : Type 0} (t : Source K B N) (table : Table K B L) where
  unlike : (cs ds : List ℕ) (o : Option ℕ) (i j : ℕ) → Other t cs ds o i j → Unlike t.cls cs ds i j
  unlike cs ds o i j w h lt = rw (ltb_less (suc i) j lt) at (w h)

  module _ (S : Sets L) (m : ℕ) (V : Bool → L → Rel N) (levels : (u : Bool) (l : L) (o : Option ℕ) (xs : List N) (i j : ℕ) → V u l o xs i j → Derives t table outside (table l) xs i j) where
    pub derived : (r : Rule K B L) (q : Option L) (c : Loop K B L) (A : Rel N) → ((o : Option ℕ) (xs : List N) (i j : ℕ) → A o xs i j → Derives t table c again xs i j) → (o : Option ℕ) (xs : List N) (i j : ℕ) → Spelled t S m V A q r o xs i j → Derives t table c r xs i j
    derived done q c A a o xs i j d = d_done d.0 d.1
    derived (mark cs) q c A a o xs i j d = d_mark d.0 d.1 d.2
    derived (word k cs) q c A a o xs i j d = d_word d.0 d.1 d.2
    derived (ref l) q c A a o xs i j d = d_ref (levels false l o xs i j d)
    derived (deep l) q c A a o xs i j d = d_deep (levels true l o xs i j d)
    derived again q c A a o xs i j d = a o xs i j d
    derived (seq r s) q c A a o xs i j d = d_seq d.0 d.1 d.2 (derived r q c A a (part d.0 j o) d.1 i d.0 d.3) (derived s q c A a o d.2 d.0 j d.4) d.5
    derived (around cs ds r) q c A a o xs i j d = d_around d.0 d.1 (derived r q c A a None xs (suc i) d.0 d.2) d.3 d.4
    derived (alt r s) q c A a o xs i j d = elim d [ inl p ↦ d_left (derived r q c A a o xs i j p) | inr p ↦ d_right (derived s q c A a o xs i j p) ]
    derived (look w cs ds b r s) q c A a o xs i j d = elim d [ inl p ↦ d_seen p.0 p.1 p.2 (derived r q c A a o p.0 (suc (suc i)) j p.3) p.4 | inr p ↦ d_unseen (unlike cs ds o i j p.0) (derived s q c A a o xs i j p.1) ]
    derived (choose p r s) q c A a o xs i j d = elim d [ inl u ↦ d_chosen u.0 (derived r q c A a o xs i j u.1) | inr u ↦ d_unchosen u.0 (derived s q c A a o xs i j u.1) ]
    derived (must cs r) q c A a o xs i j d = elim d [ inl p ↦ d_barred p.0 p.1 p.2 | inr p ↦ d_taken (derived r q c A a o xs i j p) ]
    derived (opt r) q c A a o xs i j d = elim d [ inl p ↦ d_without p.0 p.1 | inr p ↦ d_with (derived r q c A a o xs i j p) ]
    derived (rep l r) q c A a o xs i j d = d_rep (turned (derived r (Some l) (within l r)) m o xs i j d)
      where
        turned : ((X : Rel N) → ((o : Option ℕ) (xs : List N) (i j : ℕ) → X o xs i j → Derives t table (within l r) again xs i j) → (o : Option ℕ) (xs : List N) (i j : ℕ) → Spelled t S m V X (Some l) r o xs i j → Derives t table (within l r) r xs i j) → (n : ℕ) (o : Option ℕ) (xs : List N) (i j : ℕ) → rounds (Never N) (λ X. Spelled t S m V X (Some l) r) n o xs i j → Derives t table (within l r) r xs i j
        turned step zero o xs i j d = absurd (omega (arith, d.no))
        turned step (suc n) o xs i j d = step (rounds (Never N) (λ X. Spelled t S m V X (Some l) r) n) (λ o' xs' i' j' e. d_again (turned step n o' xs' i' j' e)) o xs i j d
    derived (make b r) q c A a o xs i j d = d_make d.0 (derived r q c A a o d.0 i j d.1) d.2

pub pick_derived : {K B L N : Type 0} (t : Source K B N) (table : Table K B L) (X Y : L → Rel N) → ((l : L) (o : Option ℕ) (xs : List N) (i j : ℕ) → X l o xs i j → Derives t table outside (table l) xs i j) → ((l : L) (o : Option ℕ) (xs : List N) (i j : ℕ) → Y l o xs i j → Derives t table outside (table l) xs i j) → (u : Bool) (l : L) (o : Option ℕ) (xs : List N) (i j : ℕ) → pick X Y u l o xs i j → Derives t table outside (table l) xs i j
pick_derived t table X Y a b false = a
pick_derived t table X Y a b true = b

pub ladder_derived : {K B L N : Type 0} (t : Source K B N) (S : Sets L) (m : ℕ) (table : Table K B L) (X : L → Rel N) → ((l : L) (o : Option ℕ) (xs : List N) (i j : ℕ) → X l o xs i j → Derives t table outside (table l) xs i j) → (k : ℕ) (l : L) (o : Option ℕ) (xs : List N) (i j : ℕ) → Ladder t S m table X k l o xs i j → Derives t table outside (table l) xs i j
ladder_derived t S m table X b zero l o xs i j d = absurd (omega (arith, d.no))
ladder_derived t S m table X b (suc k) l o xs i j d = derived t table S m (pick (Ladder t S m table X k) X) (pick_derived t table (Ladder t S m table X k) X (ladder_derived t S m table X b k) b) (table l) None outside (Never _) (λ o' xs' i' j' e. absurd (omega (arith, e.no))) o xs i j d

pub level_derived : {K B L N : Type 0} (t : Source K B N) (S : Sets L) (m : ℕ) (table : Table K B L) (top h : ℕ) (l : L) (o : Option ℕ) (xs : List N) (i j : ℕ) → Level t S m table top h l o xs i j → Derives t table outside (table l) xs i j
level_derived t S m table top zero l o xs i j d = absurd (omega (arith, d.no))
level_derived t S m table top (suc h) l o xs i j d = ladder_derived t S m table (Level t S m table top h) (level_derived t S m table top h) top l o xs i j d
