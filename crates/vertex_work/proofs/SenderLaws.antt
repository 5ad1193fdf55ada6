-- Edges in order are worked sender by sender.
use Rattle.std.proofs.Common.{◌≡◌, ℕ, ℤ, zero, suc, ◌+◌, ◌<◌, ◌≢◌, Bool, true, false, cond, Option, None, Some, List, [], ◌∷◌, ◌++◌, length, get_or, take, refl, sym, ap, ◌∙◌, arith}
use Rattle.std.specs.List.{AllByRecursion, AllPairs, filter, range_with_len}
use Rattle.std.proofs.lemmas.Bool.{eq-eqb, ne_eqb}
use Rattle.std.proofs.lemmas.List.Elements.{filter-append}
use Rattle.std.proofs.lemmas.List.FromFn.{get_or-range_with_len, length-range_with_len}
use Rattle.std.proofs.lemmas.List.Kept.{AllPairs-from_increasing, IsStrictlyIncreasing-filter}
use Rattle.vert_base.specs.declared.graph.Edge.{Edge}
use Rattle.vert_base.specs.Neighbours.{bucket, in_order, source}
use Rattle.vert_base.proofs.Orders.{bucket_keys}
use Rattle.graph_table.proofs.BucketLaws.{range_more}
use Rattle.graph_table.proofs.FilterLaws.{all_passes, all_weaker}
use Rattle.slot_merge.specs.declared.partial.Partial.{Partial}
use Rattle.body_shape.specs.Places.{set_count}
use Rattle.vert_eval.specs.declared.environment.Env.{Env}
use Rattle.symple_face.specs.CoreSight.{beside}
use Rattle.machine_parts.proofs.TotalLaws.{settled}
use Rattle.vertex_work.specs.Pushing.{Receiving, edge_added, edges_added}
use Rattle.vertex_work.proofs.PushLaws.{added_settled}

clash : true ≡ false → ⊥
clash e = cc

-- ---- lists side by side
-- of a vertex that isn't listed nothing stands beside
pub beside_out : {X : Type 0} (d : X) (v : ℕ) (us : List ℕ) (xs : List X) → AllByRecursion (λ u. u ≢ v) us →
    beside d v us xs ≡ d
beside_out d v [] xs other = refl
beside_out d v (u ∷ us) [] other = refl
beside_out d v (u ∷ us) (x ∷ xs) other =
    ap (λ b. cond b x (beside d v us xs)) (ne_eqb u v other.0) ∙ beside_out d v us xs other.1

-- what stands beside a vertex of a list that ascends
pub beside_at : {X : Type 0} (d : X) (us : List ℕ) (xs : List X) (i e : ℕ) → AllPairs (λ u v. u < v) us →
    i < length us → beside d (get_or us i e) us xs ≡ get_or xs i d
beside_at d [] xs i e up lt = absurd (omega arith)
beside_at d (u ∷ us) [] i e up lt = refl
beside_at d (u ∷ us) (x ∷ xs) zero e up lt = ap (λ b. cond b x (beside d u us xs)) (eq-eqb u u refl)
beside_at d (u ∷ us) (x ∷ xs) (suc i) e up lt =
    let above : u < get_or us i e = up 0 (suc i) e (omega arith) lt in
    ap (λ b. cond b x (beside d (get_or us i e) us xs)) (ne_eqb u (get_or us i e) (λ s. omega arith))
    ∙ beside_at d us xs i e (λ j k c low within. up (suc j) (suc k) c (omega arith) (omega arith)) (omega arith)

-- the numbers of a range that pass a test ascend
pub passing_rise : (passes : ℕ → Bool) (n : ℕ) → AllPairs (λ u v. u < v) (filter passes (range_with_len 0 n))
passing_rise passes n =
    AllPairs-from_increasing (filter passes (range_with_len 0 n))
    (IsStrictlyIncreasing-filter passes (range_with_len 0 n)
    (λ k lt.
    let inside : k + 1 < n = omega (arith, length-range_with_len 0 n) in
    omega (arith, get_or-range_with_len 0 n k 0 (omega arith), get_or-range_with_len 0 n (k + 1) 0 inside)))

-- one flag more
pub set_count-more : (flags : List Bool) (i : ℕ) → i < length flags →
    set_count (take (i + 1) flags) ≡ set_count (take i flags) + cond (get_or flags i false) 1 0
set_count-more [] i lt = absurd (omega arith)
set_count-more (true ∷ flags) zero lt = refl
set_count-more (false ∷ flags) zero lt = refl
set_count-more (true ∷ flags) (suc i) lt =
    let next : suc i + 1 ≡ suc (i + 1) = omega arith in
    let rest = set_count-more flags i (omega arith) in
    let more : suc (set_count (take (i + 1) flags)) ≡ suc (set_count (take i flags)) + cond (get_or flags i false) 1 0 =
    omega (arith, rest) in
    ap (λ k. set_count (take k (true ∷ flags))) next ∙ more
set_count-more (false ∷ flags) (suc i) lt =
    let next : suc i + 1 ≡ suc (i + 1) = omega arith in
    ap (λ k. set_count (take k (false ∷ flags))) next ∙ set_count-more flags i (omega arith)

-- ---- edges
module _ (r : Receiving) (first : Env) where
  abbrev Table : Type 0
  Table = List (List Partial)

  -- by an environment that has the same numbers
  pub edges_settled : (now : Env) (f : ℕ → Option (List ℤ)) (es : List Edge) (all : List (List Partial)) →
      settled now ≡ settled first → edges_added r now f es all ≡ edges_added r first f es all
  edges_settled now f [] all same = refl
  edges_settled now f (e ∷ es) all same =
      ap (edges_added r now f es) (by (f (source e)))
      ∙ edges_settled now f es (edge_added r first e (f (source e)) all) same
    where
      by : (o : Option (List ℤ)) → edge_added r now e o all ≡ edge_added r first e o all
      by None = refl
      by (Some sends) = added_settled r now first e sends all same

  pub edges-append : (f : ℕ → Option (List ℤ)) (es more : List Edge) (all : List (List Partial)) →
      edges_added r first f (es ++ more) all ≡ edges_added r first f more (edges_added r first f es all)
  edges-append f [] more all = refl
  edges-append f (e ∷ es) more all = edges-append f es more (edge_added r first e (f (source e)) all)

  -- edges of one vertex, each with what it sends
  one_sender : (f : ℕ → Option (List ℤ)) (o : Option (List ℤ)) (v : ℕ) (es : List Edge) (all : List (List Partial)) →
      f v ≡ o → AllByRecursion (λ e. source e ≡ v) es →
      edges_added r first f es all ≡ edges_added r first (λ sender. o) es all
  one_sender f o v [] all is same = refl
  one_sender f o v (e ∷ es) all is same =
      ap (λ p. edges_added r first f es (edge_added r first e p all)) (ap f same.0 ∙ is)
      ∙ one_sender f o v es (edge_added r first e o all) is same.1

  pub none_sent : (es : List Edge) (all : List (List Partial)) → edges_added r first (λ sender. None) es all ≡ all
  none_sent [] all = refl
  none_sent (e ∷ es) all = none_sent es all

  module _ (f : ℕ → Option (List ℤ)) (edges : List Edge) where
    -- the edges of vertices, one vertex after another
    abbrev pub senders_added : List ℕ → List (List Partial) → List (List Partial)
    senders_added [] all = all
    senders_added (v ∷ vs) all = senders_added vs (edges_added r first f (bucket source v edges) all)

    pub sender_is : (o : Option (List ℤ)) (v : ℕ) (all : List (List Partial)) → f v ≡ o →
        edges_added r first f (bucket source v edges) all ≡
        edges_added r first (λ sender. o) (bucket source v edges) all
    sender_is o v all is = one_sender f o v (bucket source v edges) all is (bucket_keys source v edges)

    -- a vertex that sends nothing changes nothing
    pub no_sender : (v : ℕ) (all : List (List Partial)) → f v ≡ None →
        edges_added r first f (bucket source v edges) all ≡ all
    no_sender v all is = sender_is None v all is ∙ none_sent (bucket source v edges) all

    senders-append : (us vs : List ℕ) (all : List (List Partial)) →
        senders_added (us ++ vs) all ≡ senders_added vs (senders_added us all)
    senders-append [] vs all = refl
    senders-append (u ∷ us) vs all = senders-append us vs (edges_added r first f (bucket source u edges) all)

    -- edges of other vertices change nothing
    abbrev pub OthersSilent : (ℕ → Bool) → Type 0
    OthersSilent passes = (v : ℕ) (all : List (List Partial)) → passes v ≡ false →
        edges_added r first f (bucket source v edges) all ≡ all

    module _ (passes : ℕ → Bool) (others : OthersSilent passes) where
      up_to : (n : ℕ) (all : List (List Partial)) →
          edges_added r first f (in_order source n edges) all ≡
          senders_added (filter passes (range_with_len 0 n)) all
      up_to zero all = refl
      up_to (suc n) all =
          edges-append f (in_order source n edges) (bucket source n edges) all
          ∙ ap (edges_added r first f (bucket source n edges)) (up_to n all)
          ∙ by (passes n) refl
          ∙ sym (senders-append (filter passes (range_with_len 0 n)) (filter passes (n ∷ [])) all)
          ∙ ap (λ vs. senders_added vs all)
          (sym (filter-append passes (range_with_len 0 n) (n ∷ [])) ∙ ap (filter passes) (sym (range_more n)))
        where
          before : List (List Partial)
          before = senders_added (filter passes (range_with_len 0 n)) all

          by : (b : Bool) → passes n ≡ b →
              edges_added r first f (bucket source n edges) before ≡ senders_added (filter passes (n ∷ [])) before
          by true is = ap (λ b. senders_added (cond b (n ∷ []) []) before) (sym is)
          by false is =
              others n before is ∙ ap (λ b. senders_added (cond b (n ∷ []) []) before) (sym is)

      -- where no other vertex sends, edges in order are worked sender by sender
      pub by_senders : (n : ℕ) (all : List (List Partial)) → edges ≡ in_order source n edges →
          senders_added (filter passes (range_with_len 0 n)) all ≡ edges_added r first f edges all
      by_senders n all order =
          sym (ap (λ es. edges_added r first f es all) order ∙ up_to n all)

-- a vertex that passes no test isn't among those that pass
pub not_passing : (passes : ℕ → Bool) (v : ℕ) (us : List ℕ) → passes v ≡ false →
    AllByRecursion (λ u. u ≢ v) (filter passes us)
not_passing passes v us none =
    all_weaker (λ u. passes u ≡ true) (λ u. u ≢ v)
    (λ u is same. clash (sym is ∙ ap passes same ∙ none)) (filter passes us) (all_passes passes us)
