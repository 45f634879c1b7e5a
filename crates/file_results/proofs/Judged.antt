-- What rules find in a file.
use Rattle.std.proofs.Common.{◌≡◌, ◌⊎◌, inl, inr, ◌↔◌, ℕ, ◌+◌, ◌<◌, ◌≤◌, List, [], ◌∷◌, ◌++◌, length, refl, sym, ap, ◌∙◌, subst, Some, Ok, append_assoc, append-nil, arith}
use Rattle.std.specs.Prelude.{Option, Result, Err, IfOk, slice_get, All}
use Rattle.node_tree.specs.declared.memory.Memory.{Memory}
use Rattle.node_tree.specs.declared.node.Node.{Node}
use Rattle.node_tree.specs.declared.view.Lang.{Lang}
use Rattle.node_tree.specs.declared.view.Pattern.{Pattern}
use Rattle.rule_form.specs.declared.rule.Rule.{Rule}
use Rattle.rule_form.specs.declared.rule.Part.{Part}
use Rattle.tree_match.specs.declared.leaf.Leaf.{Leaf}
use Rattle.node_match.specs.Sets.{Among, Adds}
use Rattle.tree_match.specs.Members.{KnownTree}
use Rattle.file_match.specs.Trees.{known_in}
use Rattle.node_match.proofs.Sets.{gathered, pushed, among_more, adds_as, adds_none}
use Rattle.file_parts.proofs.Once.{seen_once}
use Rattle.part_judge.specs.declared.outcome.Outcome.{Outcome}
use Rattle.taint_judge.specs.Placed.{IsFindingPlaced}
use Rattle.part_judge.specs.Findings.{PartFinds, findings_of}
use Rattle.file_results.specs.declared.looking.Judged.{Judged}
use Rattle.file_results.specs.Looking.{Allows, AreLeaves, LooksAt, PartFindsIn, named_leaf}
use Rattle.file_results.specs.Judging.{PartJudges, PartAdds, RuleJudges, RuleAdds, IsJudged, AreAllPlaced}
use Rattle.running_rules.proofs.Members.{one_there}

-- ---- the members of the patterns

module _ (lang : Lang) (tree : KnownTree) where
  pub leaves_one : (ps : List Pattern) (ls ms : List Leaf) → AreLeaves (named_leaf tree.known lang) tree.tree ps ls → AreLeaves (named_leaf tree.known lang) tree.tree ps ms → ls ≡ ms
  leaves_one [] ls ms h k = h ∙ sym k
  leaves_one (p ∷ ps) ls ms (l, l-is, (ls', h, e)) (m, m-is, (ms', k, f)) =
      e ∙ ap (λ (x : Leaf). x ∷ ls') (seen_once lang (known_in tree.tree tree.known) p l m l-is m-is) ∙ ap (λ (xs : List Leaf). m ∷ xs) (leaves_one ps ls' ms' h k) ∙ sym f

  -- the members of the patterns that are left, behind these, are those of all
  abbrev pub Leads : List Pattern → List Leaf → List Pattern → Type 0
  Leads all leaves left = (rest : List Leaf) → AreLeaves (named_leaf tree.known lang) tree.tree left rest → AreLeaves (named_leaf tree.known lang) tree.tree all (leaves ++ rest)

  pub leads_start : (all left : List Pattern) (leaves : List Leaf) → leaves ≡ [] → left ≡ all → Leads all leaves left
  leads_start all left leaves e f rest are =
      let P : List Pattern → Type 0 = λ ps. AreLeaves (named_leaf tree.known lang) tree.tree ps rest in
      let Q : List Leaf → Type 0 = λ ls. AreLeaves (named_leaf tree.known lang) tree.tree all (ls ++ rest) in
      subst Q (sym e) (subst P f are)

  pub leads_on : (all : List Pattern) (old new : List Leaf) (left ps : List Pattern) (p : Pattern) (leaf : Leaf) → Leads all old left → left ≡ p ∷ ps → new ≡ old ++ leaf ∷ [] → named_leaf tree.known lang tree.tree p leaf → Leads all new ps
  leads_on all old new left ps p leaf far left-is new-is is rest are =
      let P : List Pattern → Type 0 = λ xs. AreLeaves (named_leaf tree.known lang) tree.tree xs (leaf ∷ rest) in
      let Q : List Leaf → Type 0 = λ xs. AreLeaves (named_leaf tree.known lang) tree.tree all xs in
      let R : List Leaf → Type 0 = λ xs. AreLeaves (named_leaf tree.known lang) tree.tree all (xs ++ rest) in
      subst R (sym new-is) (subst Q (sym (append_assoc old (leaf ∷ []) rest)) (far (leaf ∷ rest) (subst P (sym left-is) (leaf, is, (rest, are, refl)))))

  pub leads_end : (all : List Pattern) (leaves : List Leaf) (left : List Pattern) → Leads all leaves left → left ≡ [] → AreLeaves (named_leaf tree.known lang) tree.tree all leaves
  leads_end all leaves left far left-is =
      let P : List Pattern → Type 0 = λ xs. AreLeaves (named_leaf tree.known lang) tree.tree xs [] in
      let Q : List Leaf → Type 0 = λ xs. AreLeaves (named_leaf tree.known lang) tree.tree all xs in
      subst Q (append-nil leaves) (far [] (subst P (sym left-is) refl))

-- ---- one part

pub part_judges : (lang : Lang) (texts : List (List ℕ)) (text : List ℕ) (tree : KnownTree) (parts : List Part) (k n : ℕ) (p : Part) (leaves : List Leaf) → slice_get parts k ≡ Some p → n ≡ k → AreLeaves (named_leaf tree.known lang) tree.tree p.patterns leaves → (r : Result Outcome Memory)
    → IfOk r (PartFinds leaves texts text tree.tree (slice_get parts n)) → IfOk r (λ found. (o : Outcome) → PartFinds leaves texts text tree.tree (slice_get parts n) o → o ≡ found) → IfOk r (PartJudges lang texts text tree p)
part_judges lang texts text tree parts k n p leaves at n-is are (Err e) finds only = tt
part_judges lang texts text tree parts k n p leaves at n-is are (Ok found) finds only =
    let there : slice_get parts n ≡ Some p = ap (slice_get parts) n-is ∙ at in
    let P : Option Part → Type 0 = λ q. PartFinds leaves texts text tree.tree q found in record {
      finds = (leaves, are, subst P there finds);
      only = λ o h.
          let Q : List Leaf → Type 0 = λ ls. PartFinds ls texts text tree.tree (Some p) o in
          let R : Option Part → Type 0 = λ q. PartFinds leaves texts text tree.tree q o in
          only o (subst R (sym there) (subst Q (leaves_one lang tree p.patterns h.0 leaves h.1 are) h.2));
    }

-- the same of equal texts and parts
pub part_finds : (leaves : List Leaf) (given texts : List (List ℕ)) (text : List ℕ) (root : Node) (some parts : List Part) (n : ℕ) (r : Result Outcome Memory) → given ≡ texts → some ≡ parts
    → IfOk r (PartFinds leaves given text root (slice_get some n)) → IfOk r (PartFinds leaves texts text root (slice_get parts n))
part_finds leaves given texts text root some parts n r e f h =
    let P : List (List ℕ) → Type 0 = λ ts. IfOk r (PartFinds leaves ts text root (slice_get some n)) in
    let Q : List Part → Type 0 = λ ps. IfOk r (PartFinds leaves texts text root (slice_get ps n)) in
    subst Q f (subst P e h)

pub part_only : (leaves : List Leaf) (given texts : List (List ℕ)) (text : List ℕ) (root : Node) (some parts : List Part) (n : ℕ) (r : Result Outcome Memory) → given ≡ texts → some ≡ parts
    → IfOk r (λ found. (o : Outcome) → PartFinds leaves given text root (slice_get some n) o → o ≡ found) → IfOk r (λ found. (o : Outcome) → PartFinds leaves texts text root (slice_get parts n) o → o ≡ found)
part_only leaves given texts text root some parts n r e f h =
    let P : List (List ℕ) → Type 0 = λ ts. IfOk r (λ found. (o : Outcome) → PartFinds leaves ts text root (slice_get some n) o → o ≡ found) in
    let Q : List Part → Type 0 = λ ps. IfOk r (λ found. (o : Outcome) → PartFinds leaves texts text root (slice_get ps n) o → o ≡ found) in
    subst Q f (subst P e h)

-- ---- the parts of a rule

module _ (texts : List (List ℕ)) (lang : Lang) (text : List ℕ) (tree : KnownTree) (number : ℕ) where
  next_part : (p : Part) (all ps : List Part) (x : Judged) → all ≡ p ∷ ps → RuleJudges texts lang text tree number all x ↔ (PartAdds texts lang text tree number p x ⊎ RuleJudges texts lang text tree number ps x)
  next_part p all ps x e =
      let P : List Part → Type 0 = λ qs. RuleJudges texts lang text tree number qs x ↔ (PartAdds texts lang text tree number p x ⊎ RuleJudges texts lang text tree number ps x) in
      subst P (sym e) (
        λ h. elim h.has [
          | inl f ↦ (let Q : Part → Type 0 = λ q. LooksAt q lang in let R : Part → Type 0 = λ q. PartFindsIn (named_leaf tree.known lang) texts text tree.tree q x.found in inl (subst Q (sym f) h.looks, h.number_is, subst R (sym f) h.finds))
          | inr a ↦ inr (record { number_is = h.number_is; part = h.part; has = a; looks = h.looks; finds = h.finds })
        ],
        λ h. elim h [
          | inl f ↦ record { number_is = f.1; part = p; has = inl refl; looks = f.0; finds = f.2 }
          | inr r ↦ record { number_is = r.number_is; part = r.part; has = inr r.has; looks = r.looks; finds = r.finds }
        ],
      )

  abbrev pub Gathers : List Judged → List Judged → List Part → List Part → Type 0
  Gathers before now all left = (x : Judged) → (Among now x ⊎ RuleJudges texts lang text tree number left x) ↔ (Among before x ⊎ RuleJudges texts lang text tree number all x)

  -- what the part finds is this alone
  pub part_adds : (p : Part) (y : Judged) (old new : List Judged) → new ≡ old ++ y ∷ [] → y.number ≡ number → LooksAt p lang → PartJudges lang texts text tree p y.found → Adds old new (PartAdds texts lang text tree number p)
  part_adds p y old new new-is n looks j = adds_as old new (λ x. y ≡ x) (PartAdds texts lang text tree number p) (pushed old new y new-is) (λ x. (
    λ e. let P : Judged → Type 0 = λ z. PartFindsIn (named_leaf tree.known lang) texts text tree.tree p z.found in (looks, sym (ap (λ (z : Judged). z.number) e) ∙ n, subst P e j.finds),
    λ f.
        let g : ℕ → Judged = λ k. record { number = k; found = y.found } in
        let h : Outcome → Judged = λ o. record { number = x.number; found = o } in
        ap g (n ∙ sym f.1) ∙ ap h (sym (j.only x.found f.2)),
  ))

  pub part_adds_none : (p : Part) (old : List Judged) → (LooksAt p lang → ⊥) → Adds old old (PartAdds texts lang text tree number p)
  part_adds_none p old blind = adds_none old (PartAdds texts lang text tree number p) (λ x f. blind f.0)

  pub gathers_start : (now : List Judged) (all left : List Part) → left ≡ all → Gathers now now all left
  gathers_start now all left e x = let P : List Part → Type 0 = λ ps. RuleJudges texts lang text tree number ps x in (λ h. elim h [ inl a ↦ inl a | inr r ↦ inr (subst P e r) ], λ h. elim h [ inl a ↦ inl a | inr r ↦ inr (subst P (sym e) r) ])

  pub gathers_on : (before old new : List Judged) (all left ps : List Part) (p : Part) → Gathers before old all left → left ≡ p ∷ ps → Adds old new (PartAdds texts lang text tree number p) → Gathers before new all ps
  gathers_on before old new all left ps p far left-is adds x =
      gathered (Among old x) (Among new x) (PartAdds texts lang text tree number p x) (RuleJudges texts lang text tree number left x) (RuleJudges texts lang text tree number ps x) (Among before x ⊎ RuleJudges texts lang text tree number all x) (adds x) (next_part p left ps x left-is) (far x)

  pub gathers_end : (before now : List Judged) (all left : List Part) → Gathers before now all left → left ≡ [] → Adds before now (RuleJudges texts lang text tree number all)
  gathers_end before now all left far left-is x = (
    λ h. (far x).0 (inl h),
    λ h. elim ((far x).1 h) [ inl a ↦ a | inr l ↦ (let P : List Part → Type 0 = λ ps. Among ps l.part in absurd (subst P left-is l.has)) ],
  )

pub rule_adds : (lang : Lang) (text : List ℕ) (tree : KnownTree) (number : ℕ) (path : List ℕ) (rule : Rule) (old new : List Judged) → Allows rule path → Adds old new (RuleJudges rule.texts lang text tree number rule.parts) → Adds old new (RuleAdds path lang text tree number rule)
rule_adds lang text tree number path rule old new allows adds = adds_as old new (RuleJudges rule.texts lang text tree number rule.parts) (RuleAdds path lang text tree number rule) adds (λ x. (λ h. (allows, h), λ h. h.1))

pub rule_adds_none : (lang : Lang) (text : List ℕ) (tree : KnownTree) (number : ℕ) (path : List ℕ) (rule : Rule) (old : List Judged) → (Allows rule path → ⊥) → Adds old old (RuleAdds path lang text tree number rule)
rule_adds_none lang text tree number path rule old barred = adds_none old (RuleAdds path lang text tree number rule) (λ x h. barred h.0)

pub all_placed_start : (text : List ℕ) (judged : List Judged) → judged ≡ [] → AreAllPlaced text judged
all_placed_start text judged e x h = let P : List Judged → Type 0 = λ js. Among js x in absurd (subst P e h)

pub all_placed_more : (text : List ℕ) (old new : List Judged) (y : Judged) → AreAllPlaced text old → new ≡ old ++ y ∷ [] → All (λ finding. IsFindingPlaced text finding) (findings_of y.found) → AreAllPlaced text new
all_placed_more text old new y all new-is one x h =
    let P : List Judged → Type 0 = λ xs. Among xs x in
    let Q : Judged → Type 0 = λ z. All (λ finding. IsFindingPlaced text finding) (findings_of z.found) in
    elim ((among_more old y x).0 (subst P new-is h)) [ inl a ↦ all x a | inr e ↦ subst Q e one ]

-- ---- all rules

module _ (path : List ℕ) (lang : Lang) (text : List ℕ) (tree : KnownTree) (rules : List Rule) where
  -- what the rules before that number find
  abbrev pub UpTo : ℕ → List Judged → Type 0
  UpTo n judged = (x : Judged) → Among judged x ↔ (IsJudged path lang text tree rules x × (x.number < n))

  nearer : (m n : ℕ) → m < n + 1 → (m < n) ⊎ (m ≡ n)
  nearer m n lt = grind arith

  pub up_to_start : (judged : List Judged) → judged ≡ [] → UpTo 0 judged
  up_to_start judged e x = let P : List Judged → Type 0 = λ xs. Among xs x in (λ h. absurd (subst P e h), λ h. absurd (let lt = h.1 in omega (arith, lt)))

  pub up_to_on : (old new : List Judged) (n : ℕ) (rule : Rule) → UpTo n old → slice_get rules n ≡ Some rule → Adds old new (RuleAdds path lang text tree n rule) → UpTo (n + 1) new
  up_to_on old new n rule far at adds x = (
    λ h. elim ((adds x).0 h) [
      | inl a ↦ (let k = (far x).0 a in let lt = k.1 in (k.0, omega (arith, lt)))
      | inr r ↦ (
          let j = r.1 in
          let e = j.number_is in
          (record { rule = rule; at = ap (slice_get rules) e ∙ at; finds = record { allows = r.0; part = j.part; has = j.has; looks = j.looks; finds = j.finds } }, omega (arith, e))
          )
    ],
    λ h. elim (nearer x.number n h.1) [
      | inl lt ↦ (adds x).1 (inl ((far x).1 (h.0, lt)))
      | inr e ↦ (
          let j = h.0 in
          let same = one_there rules x.number n j.rule rule j.at at e in
          let P : Rule → Type 0 = λ r. Among r.parts j.finds.part in
          let Q : Rule → Type 0 = λ r. Allows r path in
          let R : Rule → Type 0 = λ r. PartFindsIn (named_leaf tree.known lang) r.texts text tree.tree j.finds.part x.found in
          (adds x).1 (inr (subst Q same j.finds.allows, record { number_is = e; part = j.finds.part; has = subst P same j.finds.has; looks = j.finds.looks; finds = subst R same j.finds.finds }))
          )
    ],
  )

  pub up_to_end : (judged : List Judged) (n : ℕ) → UpTo n judged → length rules ≤ n → (within : (k : ℕ) (r : Rule) → slice_get rules k ≡ Some r → k < length rules) → (x : Judged) → Among judged x ↔ IsJudged path lang text tree rules x
  up_to_end judged n far le within x = (λ h. ((far x).0 h).0, λ j. (far x).1 (j, let lt = within x.number j.rule j.at in omega (arith, lt, le)))
