-- Files that are seen one after the other, where none was seen before.
use Rattle.std.proofs.Common.{◌≡◌, ◌⊎◌, inl, inr, ℕ, ◌+◌, List, [], ◌∷◌, ◌++◌, length, map, true, refl, sym, ap, ◌∙◌, subst, arith}
use Rattle.std.specs.Prelude.{Result, Ok, Err, IfOk}
use Rattle.std.proofs.lemmas.List.{map-append, length-append}
use Rattle.node_match.specs.Sets.{Among}
use Rattle.node_match.proofs.Sets.{among_more}
use Rattle.tree_match.specs.Ascending.{IsAscending}
use Rattle.rule_form.specs.declared.rule.Rule.{Rule}
use Rattle.kept_leaves.specs.Growth.{Grows, Meets}
use Rattle.kept_leaves.specs.Kept.{Map, IsEmpty}
use Rattle.kept_leaves.specs.Pairs.{Pair, IsOneOf}
use Rattle.kept_leaves.proofs.Pairs.{one_first, one_second, one_either, apart_append}
use Rattle.running_rules.proofs.Members.{among_map}
use Rattle.file_results.specs.Quieted.{Grammars}
use Rattle.file_results.specs.Shown.{File, file_cmp}
use Rattle.seen_files.specs.declared.seen.SeenFile.{SeenFile}
use Rattle.seen_files.specs.Needs.{IsNeededAt, IsNeeded}
use Rattle.seen_files.specs.Fresh.{SpendsOn, SeesFresh, IsOneFreshCost}
use Rattle.seen_files.specs.Seen.{file_of, IsSeen}
use Rattle.seen_files.specs.Spends.{changed}
use Rattle.seen_files.proofs.Counting.{changed_more}
use Rattle.seen_files.proofs.Needing.{needed_path, needs_more}
use Rattle.seen_files.proofs.Once.{needed_in, fewer}
use Rattle.seen_files.proofs.Stacks.{not_itself}
use Rattle.seen_files.proofs.Walking.{stand_before}

-- ---- one file, where nothing was kept

module _ (rules : List Rule) (s : SeenFile) (had has : Map) (none : IsEmpty had) where
  needed_new : (news : List Pair) → Grows had has (IsNeededAt rules s) news → (x : Pair) → IsOneOf news x → IsNeededAt rules s x
  needed_new news g x o = elim (g.only_met x (g.gained x o)) [ inl (leaf, k) ↦ absurd (none x (leaf, true, k)) | inr n ↦ n ]

  new_needed : (news : List Pair) → Grows had has (IsNeededAt rules s) news → (x : Pair) → IsNeededAt rules s x → IsOneOf news x
  new_needed news g x n = let (leaf, k) = g.met x n in elim (g.only_kept x (leaf, true, k)) [ inl j ↦ absurd (none x j) | inr o ↦ o ]

  pub spends_on : (before after : ℕ) → Meets (IsNeededAt rules s) had (before + 1) has after → SpendsOn rules s before after
  spends_on before after (news, g, cost) =
      let opened : after ≡ before + 1 + length news = cost in
      record { news = news; exact = λ x. (λ o. (needed_new news g x o, λ h. h), λ (n, not). new_needed news g x n); apart = g.once; cost = opened }

-- ---- no file

pub fresh_none : (grammars : Grammars) (rules : List Rule) (n : ℕ) → SeesFresh grammars rules [] n n
fresh_none grammars rules n =
    let still : n ≡ n + 0 + 0 = omega arith in
    record {
      seen = [];
      files_are = refl;
      all = λ s a. absurd a;
      spends = record { news = []; exact = λ x. (λ (y, a, same). absurd a, λ ((s, a, n), not). absurd a); apart = tt; cost = still };
    }

-- ---- one file more

module _ (grammars : Grammars) (rules : List Rule) (done : List File) (path bytes : List ℕ) (up : IsAscending file_cmp (done ++ (path, bytes) ∷ [])) (s : SeenFile) (file_is : file_of s ≡ (path, bytes)) (is : IsSeen grammars rules s)
    (before mid after : ℕ) (far : SeesFresh grammars rules done before mid) (one : SpendsOn rules s mid after) where
  -- the pairs of the files before are at other paths
  cross : (x : Pair) → IsOneOf far.spends.news x → IsOneOf one.news x → ⊥
  cross x a b =
      let (u, here, n) = ((far.spends.exact x).0 a).0 in
      let m = ((one.exact x).0 b).0 in
      let P : List File → Type 0 = λ fs. Among fs (file_of u) in
      let less = stand_before (done ++ (path, bytes) ∷ []) done [] path bytes up refl (file_of u) (subst P far.files_are (among_map file_of far.seen u here)) in
      not_itself u.path path (needed_path rules u x n ∙ sym (needed_path rules s x m) ∙ ap (λ (f : File). f.0) file_is) less

  into : (x : Pair) → IsOneOf far.spends.news x ⊎ IsOneOf one.news x → IsNeeded rules (far.seen ++ s ∷ []) x
  into x (inl a) = (needs_more rules far.seen s x).0 (inl ((far.spends.exact x).0 a).0)
  into x (inr b) = (needs_more rules far.seen s x).0 (inr ((one.exact x).0 b).0)

  out : (x : Pair) → IsNeeded rules far.seen x ⊎ IsNeededAt rules s x → IsOneOf (far.spends.news ++ one.news) x
  out x (inl n) = one_first far.spends.news one.news x ((far.spends.exact x).1 (n, λ h. h))
  out x (inr n) = one_second far.spends.news one.news x ((one.exact x).1 (n, λ h. h))

  pub fresh_more : SeesFresh grammars rules (done ++ (path, bytes) ∷ []) before after
  fresh_more =
      let opened : after ≡ mid + 1 + length one.news = one.cost in
      let files : length (changed [] (done ++ (path, bytes) ∷ [])) ≡ length (changed [] done) + 1 = changed_more [] done (path, bytes) in
      let pairs = length-append far.spends.news one.news in
      let cost : after ≡ before + length (changed [] (done ++ (path, bytes) ∷ [])) + length (far.spends.news ++ one.news) = omega (arith, opened, files, pairs, far.spends.cost) in
      record {
        seen = far.seen ++ s ∷ [];
        files_are = map-append file_of far.seen (s ∷ []) ∙ ap (λ (fs : List File). fs ++ file_of s ∷ []) far.files_are ∙ ap (λ (f : File). done ++ f ∷ []) file_is;
        all = λ t a. elim ((among_more far.seen s t).0 a) [ inl b ↦ far.all t b | inr e ↦ subst (IsSeen grammars rules) e is ];
        spends = record {
          news = far.spends.news ++ one.news;
          exact = λ x. (λ o. (into x (one_either far.spends.news one.news x o), λ h. h), λ (n, not). out x ((needs_more rules far.seen s x).1 n));
          apart = apart_append far.spends.news one.news far.spends.apart one.apart cross;
          cost = cost;
        };
      }

-- ---- the cost

pub one_fresh_cost : (grammars : Grammars) → IsOneFreshCost grammars
one_fresh_cost grammars rules files before after other a b =
    let None : Pair → Type 0 = λ x. ⊥ in
    let New : List SeenFile → Pair → Type 0 = λ l. IsNeeded rules l in
    let up = fewer [] files None (New a.seen) None (New b.seen) before after other a.spends b.spends (needed_in grammars rules files a.seen b.seen a.files_are b.files_are a.all b.all) (λ x h. h) in
    let down = fewer [] files None (New b.seen) None (New a.seen) before other after b.spends a.spends (needed_in grammars rules files b.seen a.seen b.files_are a.files_are b.all a.all) (λ x h. h) in
    omega (arith, up, down)

-- ---- the same of answers

pub if_spends : {X E : Type 0} (view : X → SeenFile) (rules : List Rule) (had has : Map) → IsEmpty had → (r : Result X E) (before after : ℕ) → IfOk r (λ x. Meets (IsNeededAt rules (view x)) had (before + 1) has after) → IfOk r (λ x. SpendsOn rules (view x) before after)
if_spends view rules had has none (Ok x) before after m = spends_on rules (view x) had has none before after m
if_spends view rules had has none (Err e) before after m = tt
