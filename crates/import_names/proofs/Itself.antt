-- A file in which names stand for no others than themselves resolves to itself.
use Rattle.std.proofs.Common.{◌≡◌, inl, inr, ℕ, zero, suc, ◌+◌, ◌*◌, ◌-◌, ◌≤◌, Bool, true, false, cond, List, [], ◌∷◌, ◌++◌, length, refl, sym, ap, ◌∙◌, subst, arith}
use Rattle.std.specs.Prelude.{map, filter, nat_lt, slice_get, slice_index_or, Option, None, Some}
use Rattle.std.specs.List.{flat_map}
use Rattle.std.specs.Option.{option_map}
use Rattle.std.specs.Str.{bytes_eq}
use Rattle.std.proofs.lemmas.Bool.{false≢true}
use Rattle.std.proofs.lemmas.Slice.Eq.{bytes_eq-Decides}
use Rattle.std.proofs.lemmas.List.Elements.{All-nil, All-cons, All-append, All-head, All-tail}
use Rattle.node_tree.specs.declared.node.Node.{Node, roll-Node}
use Rattle.node_tree.specs.declared.kind.Kind.{Kind}
use Rattle.node_tree.specs.declared.kind.Kind.TheVariants as kinds
use Rattle.node_tree.specs.declared.known.Known.{Known}
use Rattle.node_tree.specs.declared.span.Span.{Span}
use Rattle.node_tree.specs.declared.view.FileView.{FileView}
use Rattle.node_tree.specs.declared.view.Lang.{Lang}
use Rattle.node_tree.specs.declared.view.Lang.TheVariants as langs
use Rattle.node_tree.specs.KnownNames.{IsNameAt, AreNames}
use Rattle.node_tree.specs.Numbers.{root_of}
use Rattle.node_tree.specs.Tree.{pre_of, kind_of, text_of, kids_of, span_of}
use Rattle.node_tree.proofs.Nodes.{made, node_is}
use Rattle.node_pool.proofs.Induction.{Each, by_kids}
use Rattle.assignments.specs.Assignments.{assigned_in}
use Rattle.assignments.specs.Seen.{Named, Assigned}
use Rattle.assignments.specs.declared.assignment.Manner.{Manner}
use Rattle.assignments.specs.declared.assignment.Manner.TheVariants as manners
use Rattle.assignments.specs.declared.assignment.Reach.{Reach}
use Rattle.assignments.specs.declared.assignment.Reach.TheVariants as reaches
use Rattle.import_names.specs.declared.claim.Claim.{Claim}
use Rattle.import_names.specs.Claims.{plain, unless_base, target_claims, by_manner, assigned_claims, own_claims, claims_of, said_of, by_only, meaning}
use Rattle.import_names.specs.Itself.{IsItself, AllThemselves}
use Rattle.import_names.specs.Resolved.{leaf, instead, meant, meant_at, replaced, added, number_by, numbers, number_in, known_at, kept, tree_in, known_in, IsResolved}
use Rattle.import_names.proofs.Replacing.{around, replaced_is}

-- ---- claims

abbrev Plain : Claim → Type 0
Plain c = IsItself c.name c.parts

both : (cs ds : List Claim) → AllThemselves cs → AllThemselves ds → AllThemselves (cs ++ ds)
both cs ds h k = All-append Plain cs ds h k

-- what is assigned stands for nothing
unless_plain : (reach : Reach) (name : List ℕ) → AllThemselves (unless_base reach name)
unless_plain reaches.Base name = All-nil Plain
unless_plain _ name = All-cons Plain (plain name) [] (inl refl) (All-nil Plain)

targets_plain : (ts : List Named) → AllThemselves (flat_map target_claims ts)
targets_plain [] = All-nil Plain
targets_plain (t ∷ ts) = both (target_claims t) (flat_map target_claims ts) (unless_plain t.reach t.name) (targets_plain ts)

manner_plain : (m : Manner) (ts : List Named) → AllThemselves (by_manner m ts)
manner_plain manners.Imported ts = All-nil Plain
manner_plain _ ts = targets_plain ts

assigned_plain : (many : List Assigned) → AllThemselves (flat_map assigned_claims many)
assigned_plain [] = All-nil Plain
assigned_plain (a ∷ more) = both (assigned_claims a) (flat_map assigned_claims more) (manner_plain a.manner a.targets) (assigned_plain more)

-- so only what nodes say themselves counts
pub all_plain : (tree : Node) → AllThemselves (flat_map own_claims (pre_of tree)) → AllThemselves (claims_of tree)
all_plain tree h = both (flat_map assigned_claims (assigned_in false (root_of tree))) (flat_map own_claims (pre_of tree)) (assigned_plain (assigned_in false (root_of tree))) h

-- ---- what a name stands for

-- each of these is said of the name, which stands for no other by it
abbrev AllOf : List ℕ → List Claim → Type 0
AllOf name [] = Unit {0}
AllOf name (c ∷ cs) = IsItself name c.parts × AllOf name cs

one_of : (name : List ℕ) (c : Claim) (cs : List Claim) (b : Bool) → bytes_eq c.name name ≡ b → IsItself c.name c.parts → AllOf name (filter (λ d. bytes_eq d.name name) cs) → AllOf name (cond b (c ∷ filter (λ d. bytes_eq d.name name) cs) (filter (λ d. bytes_eq d.name name) cs))
one_of name c cs true e h rest =
    let P : List ℕ → Type 0 = λ n. IsItself n c.parts in
    (subst P ((bytes_eq-Decides c.name name).0 e) h, rest)
one_of name c cs false e h rest = rest

said_plain : (name : List ℕ) (cs : List Claim) → AllThemselves cs → AllOf name (said_of name cs)
said_plain name [] h = tt
said_plain name (c ∷ cs) h = one_of name c cs (bytes_eq c.name name) refl (All-head Plain c cs h) (said_plain name cs (All-tail Plain c cs h))

only_plain : (name : List ℕ) (cs : List Claim) → AllOf name cs → IsItself name (by_only cs)
only_plain name [] h = inl refl
only_plain name (c ∷ []) h = h.0
only_plain name (c ∷ d ∷ cs) h = inl refl

pub meaning_plain : (cs : List Claim) → AllThemselves cs → (name : List ℕ) → IsItself name (meaning cs name)
meaning_plain cs h name = only_plain name (said_of name cs) (said_plain name cs h)

-- ---- a tree and what is known in it

module _ (means : List ℕ → List (List ℕ)) (itself : (name : List ℕ) → IsItself name (means name)) where
  instead_same : (n : Node) (parts : List (List ℕ)) → kind_of n ≡ kinds.Name → kids_of n ≡ [] → IsItself (text_of n) parts → instead parts n ≡ n
  instead_same n parts name none (inl e) = ap (λ ps. instead ps n) e
  instead_same n parts name none (inr e) = ap (λ ps. instead ps n) e ∙ node_is n kinds.Name (text_of n) [] (span_of n) name refl none refl

  meant_same : (n : Node) (k : Kind) (kids : List Node) → kind_of n ≡ k → kids_of n ≡ kids → instead (meant means k (text_of n) kids) n ≡ n
  meant_same n kinds.Name [] name none = instead_same n (means (text_of n)) name none (itself (text_of n))
  meant_same n kinds.Name (x ∷ xs) name none = refl
  meant_same n _ kids name none = refl

  abbrev Same : Node → Type 0
  Same n = replaced means n ≡ n

  kids_same : (ks : List Node) → Each Same ks → map (replaced means) ks ≡ ks
  kids_same [] each = refl
  kids_same (k ∷ ks) each = ap (λ x. x ∷ map (replaced means) ks) each.0 ∙ ap (λ xs. k ∷ xs) (kids_same ks each.1)

  around_same : (n : Node) → Each Same (kids_of n) → around means n ≡ n
  around_same n each = ap (λ ks. roll-Node (made (kind_of n) (text_of n) ks (span_of n))) (kids_same (kids_of n) each) ∙ node_is n (kind_of n) (text_of n) (kids_of n) (span_of n) refl refl refl refl

  pub tree_same : (n : Node) → replaced means n ≡ n
  tree_same = by_kids Same (λ n each. replaced_is means n ∙ ap (λ x. instead (meant_at means n) x) (around_same n each) ∙ meant_same n (kind_of n) (kids_of n) refl refl)

  few : (name : List ℕ) (parts : List (List ℕ)) → IsItself name parts → length parts ≤ 1
  few name parts (inl e) = omega (arith, ap length e)
  few name parts (inr e) = omega (arith, ap length e)

  meant_few : (k : Kind) (text : List ℕ) (kids : List Node) → length (meant means k text kids) ≤ 1
  meant_few kinds.Name text [] = few text (means text) (itself text)
  meant_few kinds.Name text (x ∷ xs) = omega arith
  meant_few _ text kids = omega arith

  name_stays : (parts : List (List ℕ)) (at : ℕ) → length parts ≤ 1 → number_by kinds.Name parts at ≡ Some at
  name_stays [] at h = refl
  name_stays (one ∷ []) at h = refl
  name_stays (one ∷ two ∷ others) at h = absurd (omega (arith, h))

  number_same : (ns : List Node) (at i : ℕ) → option_map kind_of (slice_get ns i) ≡ Some kinds.Name → slice_get (numbers means at ns) i ≡ Some (Some (at + i))
  number_same [] at i e = absurd cc
  number_same (n ∷ ns) at zero e =
      let named : kind_of n ≡ kinds.Name = cc in
      let parts = meant_at means n in
      let sum : at ≡ at + zero = omega arith in
      ap (λ k. Some (number_by k parts at)) named ∙ ap (λ o. Some o) (name_stays parts at (meant_few (kind_of n) (text_of n) (kids_of n))) ∙ ap (λ m. Some (Some m)) sum
  number_same (n ∷ ns) at (suc i) e =
      let parts = meant_at means n in
      let small = meant_few (kind_of n) (text_of n) (kids_of n) in
      let next : at + 1 + added parts ≡ at + 1 = omega (arith, small) in
      let sum : at + 1 + i ≡ at + suc i = omega arith in
      ap (λ m. slice_get (numbers means m ns) i) next ∙ number_same ns (at + 1) i e ∙ ap (λ m. Some (Some m)) sum

  pub known_same : (tree : Node) (known : List Known) → AreNames tree known → kept means tree known ≡ known
  known_same tree [] names = refl
  known_same tree (k ∷ ks) names =
      let there = number_same (pre_of tree) 0 k.at (All-head (λ (x : Known). IsNameAt tree x.at) k ks names) in
      let at : 0 + k.at ≡ k.at = omega arith in
      ap (λ o. known_at (number_in o) k.literal ++ kept means tree ks) there ∙ ap (λ m. known_at (Some m) k.literal ++ kept means tree ks) at
      ∙ ap (λ more. k ∷ more) (known_same tree ks (All-tail (λ (x : Known). IsNameAt tree x.at) k ks names))

-- ---- the file

in_python : (lang : Lang) (tree : Node) (known : List Known) → lang ≡ langs.Python → AllThemselves (claims_of tree) → AreNames tree known → (tree ≡ tree_in lang tree) × (known ≡ known_in lang tree known)
in_python langs.Python tree known e h names =
    let itself = meaning_plain (claims_of tree) h in
    (sym (tree_same (meaning (claims_of tree)) itself tree), sym (known_same (meaning (claims_of tree)) itself tree known names))
in_python _ tree known e h names = absurd cc

pub resolves_to_itself : (view : FileView) → view.lang ≡ langs.Python → AllThemselves (flat_map own_claims (pre_of view.tree)) → IsResolved view view
resolves_to_itself view python h =
    let both = in_python view.lang view.tree view.known python (all_plain view.tree h) view.names in
    record { lang = refl; bytes = refl; tree = both.0; known = both.1 }

-- ---- one claim

pub first_alone : (name : List ℕ) (parts : List (List ℕ)) (x : List ℕ) → length parts ≤ 1 → x ≡ slice_index_or parts 0 x → x ≡ name → IsItself name parts
first_alone name [] x few is same = inl refl
first_alone name (one ∷ []) x few is same = inr (ap (λ y. y ∷ []) (sym is ∙ same))
first_alone name (one ∷ two ∷ others) x few is same = absurd (omega (arith, few))
