-- Totals over vertices, one after another.
use Rattle.std.proofs.Common.{◌≡◌, ℕ, zero, suc, ℤ, ◌+◌, ◌^◌, ◌<◌, ◌≤◌, List, [], ◌∷◌, ◌++◌, length, get_or, take, map, refl, sym, ap, subst, ◌∙◌, arith}
use Rattle.std.specs.Prelude.{IsTrue}
use Rattle.std.specs.List.{All, fold, range_with_len}
use Rattle.std.proofs.lemmas.List.{get_or_default}
use Rattle.std.proofs.lemmas.List.FromFn.{map-range_with_len_more}
use Rattle.std.proofs.lemmas.List.Sums.{fold_push}
use Rattle.vert_base.specs.declared.value.Row.{Row}
use Rattle.vert_tree.specs.declared.program.TotalDecl.{TotalDecl}
use Rattle.vert_tree.specs.Places.{expr_placed}
use Rattle.slot_merge.specs.Combine.{combined_of, neutral}
use Rattle.vert_eval.specs.declared.environment.Env.{Env}
use Rattle.vert_eval.specs.Rounds.{empty_row, row_at}
use Rattle.vert_eval.specs.Values.{CanDraw, counts_of, value_of}
use Rattle.symple_face.specs.declared.degree.Degree.{Degree}
use Rattle.machine_parts.specs.Counting.{AreTotalsPlaced, own_counts, own_env, values_added}
use Rattle.machine_parts.specs.Entering.{entered}
use Rattle.vert_eval.specs.SourceRun.{with_row}
use Rattle.machine_parts.specs.Flat.{zip_with}
use Rattle.machine_parts.specs.Neighbours.{no_degree}

-- what of an environment stays when vertices are entered
abbrev pub settled : Env → Env
settled env = entered 0 no_degree 0 (with_row empty_row env)

-- a total over the first own vertices
abbrev pub total_upto : List Row → List Degree → ℕ → Env → ℕ → TotalDecl → ℤ
total_upto rows degrees start env count t =
    fold (combined_of t.op) (neutral t.op) (map (λ i. value_of t.value (own_env rows degrees start env i))
    (range_with_len 0 count))

zip_next : {X Y Z : Type 0} (f : X → Y → Z) (xs : List X) (ys : List Y) (i : ℕ) (x : X) (y : Y) → i < length xs
    → i < length ys →
    zip_with f (take (suc i) xs) (take (suc i) ys) ≡ zip_with f (take i xs) (take i ys) ++ f (get_or xs i x)
    (get_or ys i y) ∷ []
zip_next f [] ys i x y lt lt' = absurd (omega arith)
zip_next f (a ∷ xs) [] i x y lt lt' = absurd (omega arith)
zip_next f (a ∷ xs) (b ∷ ys) zero x y lt lt' = refl
zip_next f (a ∷ xs) (b ∷ ys) (suc i) x y lt lt' = ap (λ zs. f a b ∷ zs)
    (zip_next f xs ys i x y (omega arith) (omega arith))

-- one value more
module _ (env : Env) (totals : List TotalDecl) (held words new : List ℤ) (i : ℕ) (t d : TotalDecl) (e x : ℤ) where
  pub values_more : i < length totals → i < length held → t ≡ get_or totals i d →
      words ≡ values_added env (take i totals) (take i held) →
      x ≡ combined_of t.op (get_or held i e) (value_of t.value env) → new ≡ words ++ x ∷ [] →
      new ≡ values_added env (take (i + 1) totals) (take (i + 1) held)
  values_more lt lt' here so_far value pushed =
      let next : suc i ≡ i + 1 = omega arith in
      pushed
      ∙ ap (λ ws. ws ++ x ∷ []) so_far
      ∙ ap (λ w. values_added env (take i totals) (take i held) ++ w ∷ [])
      (value ∙ ap (λ (u : TotalDecl). combined_of u.op (get_or held i e) (value_of u.value env)) here)
      ∙ sym (zip_next (λ (u : TotalDecl) word. combined_of u.op word (value_of u.value env)) totals held i d e lt lt')
      ∙ ap (λ n. values_added env (take n totals) (take n held)) next

-- the totals over one vertex more
pub totals_more : (rows : List Row) (degrees : List Degree) (start place : ℕ) (first env : Env)
    (totals : List TotalDecl) → env ≡ own_env rows degrees start first place →
    values_added env totals (map (total_upto rows degrees start first place) totals)
    ≡ map (total_upto rows degrees start first (place + 1)) totals
totals_more rows degrees start place first env [] is = refl
totals_more rows degrees start place first env (t ∷ ts) is =
    let f : ℕ → ℤ = λ i. value_of t.value (own_env rows degrees start first i) in
    let upto : List ℤ = map f (range_with_len 0 place) in
    let one : combined_of t.op (fold (combined_of t.op) (neutral t.op) upto) (value_of t.value env)
    ≡ total_upto rows degrees start first (place + 1) t =
    ap (λ e. combined_of t.op (fold (combined_of t.op) (neutral t.op) upto) (value_of t.value e)) is
    ∙ sym (ap (fold (combined_of t.op) (neutral t.op)) (map-range_with_len_more f 0 place place (omega arith))
    ∙ fold_push (combined_of t.op) (neutral t.op) upto (f place)) in
    ap (λ w. w ∷ values_added env ts (map (total_upto rows degrees start first place) ts)) one
    ∙ ap (λ ws. total_upto rows degrees start first (place + 1) t ∷ ws)
    (totals_more rows degrees start place first env ts is)

-- an environment that is entered at an own vertex, by one that agrees with the first
module _ (rows : List Row) (degrees : List Degree) (start place : ℕ) (first now read env : Env) (d : Degree)
    (same : settled now ≡ settled first)
    (read_is : read ≡ with_row (row_at rows place) now) (entered_is : env
    ≡ entered (start + place) (get_or degrees place d) 0 read) where
  here : env ≡ entered (start + place) (get_or degrees place d) 0 (with_row (row_at rows place) first)
  here =
      entered_is
      ∙ ap (entered (start + place) (get_or degrees place d) 0) read_is
      ∙ ap (λ e. entered (start + place) (get_or degrees place d) 0 (with_row (row_at rows place) e)) same

  pub settled_here : settled env ≡ settled first
  settled_here = ap settled here

  pub own_here : place < length degrees → env ≡ own_env rows degrees start first place
  own_here lt = here ∙ ap (λ degree. entered (start + place) degree 0 (with_row (row_at rows place) first))
      (get_or_default degrees place d no_degree lt)

  pub names_here : (width : ℕ) (totals : List TotalDecl) → length (row_at rows place).words.items ≡ width
      → AreTotalsPlaced width first totals →
      All (λ t. IsTrue (expr_placed (counts_of env) t.value)) totals
  names_here width totals wide placed =
      let counts : own_counts width first ≡ counts_of env = ap (λ n. own_counts n first) (sym wide)
      ∙ ap counts_of (sym here) in
      subst (λ k. All (λ t. IsTrue (expr_placed k t.value)) totals) counts placed

  pub draws_here : first.round ≤ 10000 → start + place < 2 ^ 24 → CanDraw env
  draws_here round low = subst CanDraw (sym here) (record { round = round; id = low })
