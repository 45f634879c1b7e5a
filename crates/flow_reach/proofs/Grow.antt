-- How numbers that are seen grow, step by step.
use Rattle.std.proofs.Common.{ℕ, ◌⊎◌, ◌↔◌, inl, inr, ◌∙◌, arith}
use Rattle.flow_reach.specs.Worklist.{Grows}
use Rattle.flow_reach.specs.declared.worklist.Worklist.{Worklist}

pub grows_then : (P Q R : ℕ → Type 0) (a b d : Worklist) → Grows P a b → Grows Q b d → ((k : ℕ) → R k ↔ (P k ⊎ Q k)) → Grows R a d
grows_then P Q R a b d f g same = record {
  seen = λ k. (
    λ h. elim ((g.seen k).0 h) [
      | inl x ↦ elim ((f.seen k).0 x) [ inl o ↦ inl o | inr p ↦ inr ((same k).1 (inl p)) ]
      | inr q ↦ inr ((same k).1 (inr q))
    ],
    λ h. elim h [
      | inl o ↦ (g.seen k).1 (inl ((f.seen k).1 (inl o)))
      | inr r ↦ elim ((same k).0 r) [ inl p ↦ (g.seen k).1 (inl ((f.seen k).1 (inr p))) | inr q ↦ (g.seen k).1 (inr q) ]
    ],
  );
  kept = λ k h. g.kept k (f.kept k h);
  fresh = λ k h. elim (g.fresh k h) [
    | inl x ↦ elim (f.fresh k x) [ inl o ↦ inl o | inr t ↦ inr (g.kept k t) ]
    | inr t ↦ inr t
  ];
  only = λ k h. elim (g.only k h) [
    | inl x ↦ elim (f.only k x) [ inl o ↦ inl o | inr p ↦ inr ((same k).1 (inl p)) ]
    | inr q ↦ inr ((same k).1 (inr q))
  ];
  cost = λ k. omega (arith, f.cost k, g.cost k);
  room = g.room ∙ f.room;
  shaped = g.shaped;
}

pub grows_as : (P Q : ℕ → Type 0) (a b : Worklist) → Grows P a b → ((k : ℕ) → P k ↔ Q k) → Grows Q a b
grows_as P Q a b f same = record {
  seen = λ k. (
    λ h. elim ((f.seen k).0 h) [ inl o ↦ inl o | inr p ↦ inr ((same k).0 p) ],
    λ h. elim h [ inl o ↦ (f.seen k).1 (inl o) | inr q ↦ (f.seen k).1 (inr ((same k).1 q)) ],
  );
  kept = f.kept;
  fresh = f.fresh;
  only = λ k h. elim (f.only k h) [ inl o ↦ inl o | inr p ↦ inr ((same k).0 p) ];
  cost = f.cost;
  room = f.room;
  shaped = f.shaped;
}
