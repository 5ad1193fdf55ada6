-- What stands before the first round, and what is worked out between rounds.
use Rattle.std.proofs.Common.{◌≡◌, ℕ, ℤ, ◌+◌, ◌<◌, Bool, false, List, [], ◌∷◌, ◌++◌, map, length, fold, get_or, take, ap, sym, ◌∙◌, arith}
use Rattle.std.specs.List.{All, range_with_len}
use Rattle.std.proofs.lemmas.List.{map-append, take_more}
use Rattle.std.proofs.lemmas.List.Elements.{All-same}
use Rattle.std.proofs.lemmas.List.Sums.{fold-append}
use Rattle.std.proofs.lemmas.List.FromFn.{get_or-map-range_with_len, length-map-range_with_len, map-range_with_len_more}
use Rattle.std.proofs.Math.ListN.{length-map}
use Rattle.vert_base.specs.declared.value.Combine.{Combine}
use Rattle.vert_base.specs.declared.value.Row.{Row}
use Rattle.vert_base.specs.declared.value.Ruling.{Ruling}
use Rattle.vert_tree.specs.declared.expression.Expr.{Expr}
use Rattle.vert_tree.specs.declared.program.Program.{Program}
use Rattle.vert_tree.specs.Places.{Counts, row_counts, stop_counts}
use Rattle.slot_merge.specs.Combine.{combined_of, neutral}
use Rattle.vert_eval.specs.declared.environment.Env.{Env}
use Rattle.vert_eval.specs.Words.{is_set}
use Rattle.vert_eval.specs.Values.{counts_of, value_of}
use Rattle.vert_eval.specs.Rounds.{Scene, env_at, row_after, rows_after}
use Rattle.vert_eval.specs.SourceRun.{Job, first_row, scene_of, standing_after, total_after, totals_after, with_row}
use Rattle.plain_run.specs.declared.job.Job as code_job
use Rattle.plain_run.specs.declared.job.Standing as code_standing
use Rattle.plain_run.specs.Jobs.{HasRows, IsStanding, job_of, standing_of}

-- the first row, put together
pub first_row_is :
    (j : Job) (v : ℕ) (env left : Env) (words : List ℤ) (active : Bool) →
    env ≡ env_at (scene_of j 0 [] []) v [] →
    words ≡ map (λ d. value_of d.value env) j.program.fields.items →
    left ≡ with_row (record { words = record { items = words }; active = false }) env →
    active ≡ is_set (value_of j.program.start left) →
    let made : Row = record { words = record { items = words }; active = active } in made ≡ first_row j v
first_row_is j v env left words active e w l a =
    let start = env_at (scene_of j 0 [] []) v [] in
    let firsts : List ℤ = map (λ d. value_of d.value start) j.program.fields.items in
    let row : List ℤ → Row = λ ws. record { words = record { items = ws }; active = false } in
    let all : words ≡ firsts = w ∙ ap (λ x. map (λ d. value_of d.value x) j.program.fields.items) e in
    let same : left ≡ with_row (row firsts) start =
    l ∙ (ap (λ ws. with_row (row ws) env) all ∙ ap (with_row (row firsts)) e) in
    let put : List ℤ → Bool → Row = λ ws b. record { words = record { items = ws }; active = b } in
    ap (λ ws. put ws active) all ∙ ap (put firsts) (a ∙ ap (λ x. is_set (value_of j.program.start x)) same)

-- one vertex more of a total
pub total_more :
    (op : Combine) (f : ℕ → ℤ) (v : ℕ) (word more : ℤ) →
    word ≡ fold (combined_of op) (neutral op) (map f (range_with_len 0 v)) →
    more ≡ combined_of op word (f v) →
    more ≡ fold (combined_of op) (neutral op) (map f (range_with_len 0 (v + 1)))
total_more op f v word more e h =
    h
    ∙ (ap (λ x. combined_of op x (f v)) e
    ∙ (sym (fold-append (combined_of op) (neutral op) (map f (range_with_len 0 v)) (f v ∷ []))
    ∙ ap (fold (combined_of op) (neutral op)) (sym (map-range_with_len_more f 0 v v (omega arith)))))

pub total_step :
    (op : Combine) (value : Expr) (s : Scene) (v : ℕ) (env : Env) (word more : ℤ) →
    word ≡ fold (combined_of op) (neutral op) (map (λ u. value_of value (env_at s u [])) (range_with_len 0 v)) →
    env ≡ env_at s v [] →
    more ≡ combined_of op word (value_of value env) →
    more ≡ fold (combined_of op) (neutral op) (map (λ u. value_of value (env_at s u [])) (range_with_len 0 (v + 1)))
total_step op value s v env word more e same h =
    total_more op (λ u. value_of value (env_at s u [])) v word more e
    (h ∙ ap (λ x. combined_of op word (value_of value x)) same)

-- each first row has a word for each field
pub first_rows-wide : (j : Job) (n : ℕ) (rows : List Row) → rows ≡ map (first_row j) (range_with_len 0 n) →
    All (λ r. length r.words.items ≡ length j.program.fields.items) rows
first_rows-wide j n rows e = λ k d lt.
    let low : k < n = omega (arith, ap length e, length-map-range_with_len (first_row j) 0 n) in
    let at : get_or rows k d ≡ first_row j k = ap (λ rs. get_or rs k d) e
    ∙ get_or-map-range_with_len (first_row j) 0 n k k d low (omega arith) in
    ap (λ r. length r.words.items) at ∙ length-map j.program.fields.items (λ d'.
    value_of d'.value (env_at (scene_of j 0 [] []) k []))

pub length-totals_after : (j : Job) (round : ℕ) (rows : List Row) →
    length (totals_after j round rows) ≡ length j.program.totals.items
length-totals_after j round rows = length-map j.program.totals.items (total_after j round rows)

-- one element more of a list made of another one
module _ {X Y : Type 0} (f : X → Y) (xs : List X) (i : ℕ) (x : X) (ys more : List Y) (y : Y) where
  pub mapped_more : i < length xs → x ≡ get_or xs i x → ys ≡ map f (take i xs) → y ≡ f x → more ≡ ys ++ y ∷ [] →
      more ≡ map f (take (i + 1) xs)
  mapped_more lt is e here h =
      h
      ∙ (ap (λ z. ys ++ z ∷ []) (here ∙ ap f is)
      ∙ (ap (λ zs. zs ++ f (get_or xs i x) ∷ []) e
      ∙ sym (ap (map f) (take_more xs i x lt) ∙ map-append f (take i xs) (get_or xs i x ∷ []))))

-- how many words an environment has when its row was entered
pub entered_counts : (j : Job) (v : ℕ) (env left : Env) (words : List ℤ) → env ≡ env_at (scene_of j 0 [] []) v [] →
    left ≡ with_row (record { words = record { items = words }; active = false }) env →
    length words ≡ length j.program.fields.items → counts_of left ≡ row_counts j.program
entered_counts j v env left words e l wide =
    let row : Row = record { words = record { items = words }; active = false } in
    let made : ℕ → Counts = λ f. record { fields = f; locals = 0; sends = 0; slots = 0; totals = 0; other_fields = f }
    in
    ap counts_of l ∙ (ap (λ x. counts_of (with_row row x)) e ∙ ap made wide)

pub rows_after-length : (p : Program) (r : Ruling) (s : Scene) → length (rows_after p r s) ≡ s.graph.vertices
rows_after-length p r s = length-map-range_with_len (row_after p r s) 0 s.graph.vertices

-- what stands after a round has its rows and totals
pub stands : (j : code_job.Job) (s : code_standing.Standing) (round : ℕ) (rows : List Row) →
    standing_of s ≡ standing_after (job_of j) round rows → HasRows j rows → IsStanding j s
stands j s round rows e h =
    let same : s.rows.items ≡ rows = ap (λ x. x.rows) e in
    record {
      rows = record {
        each = ap length same ∙ h.each;
        wide = All-same (λ r. length r.words.items ≡ length j.program.now.program.fields.items) s.rows.items rows
            same h.wide;
      };
      totals = ap (λ x. length x.totals) e ∙ length-totals_after (job_of j) round rows;
    }

-- how many words the environment of the stop test has
pub stop_counts_are : (j : Job) (round : ℕ) (totals : List ℤ) → length totals ≡ length j.program.totals.items →
    counts_of (env_at (scene_of j round [] totals) 0 []) ≡ stop_counts j.program
stop_counts_are j round totals e =
    let made : ℕ → Counts = λ t. record { fields = 0; locals = 0; sends = 0; slots = 0; totals = t; other_fields = 0 }
    in ap made e
