-- Counts of vertices, one after another.
use Rattle.std.proofs.Common.{◌≡◌, ℕ, ◌+◌, ◌<◌, Bool, true, false, cond, List, [], ◌∷◌, length, get_or, take, map, refl, sym, ap, ◌∙◌, arith, length-append}
use Rattle.std.specs.Prelude.{if◌then◌else◌, sum}
use Rattle.std.specs.List.{filter, range_with_len}
use Rattle.std.proofs.lemmas.List.{get_or_default}
use Rattle.std.proofs.lemmas.List.Elements.{filter_more}
use Rattle.std.proofs.lemmas.List.FromFn.{map-range_with_len_more}
use Rattle.std.proofs.lemmas.List.Sums.{sum_by_push}
use Rattle.vert_base.specs.declared.value.Row.{Row}
use Rattle.vert_eval.specs.Rounds.{empty_row, row_at}
use Rattle.symple_face.specs.declared.degree.Degree.{Degree}
use Rattle.machine_parts.specs.Counting.{edges_at}
use Rattle.machine_parts.specs.Neighbours.{no_degree}

length-cond : (b : Bool) (x : Row) → length (cond b (x ∷ []) []) ≡ (if b then 1 else 0)
length-cond true x = refl
length-cond false x = refl

-- one row more
pub active_more : (rows : List Row) (i one : ℕ) → i < length rows → one ≡ (if (row_at rows i).active then 1 else 0) →
    length (filter (λ r. r.active) (take (i + 1) rows)) ≡ length (filter (λ r. r.active) (take i rows)) + one
active_more rows i one lt is =
    let last : List Row = cond (row_at rows i).active (row_at rows i ∷ []) [] in
    ap length (filter_more (λ r. r.active) rows i empty_row lt)
    ∙ length-append (filter (λ r. r.active) (take i rows)) last
    ∙ ap (λ n. length (filter (λ r. r.active) (take i rows)) + n)
    (length-cond (row_at rows i).active (row_at rows i) ∙ sym is)

-- the edges of the vertex at a place
module _ (rows : List Row) (degrees : List Degree) (place x : ℕ) (d : Degree) (active : Bool) where
  pub edges_here : place < length degrees → x ≡ (if active then (get_or degrees place d).outs else 0) →
      active ≡ (row_at rows place).active → x ≡ edges_at rows degrees place
  edges_here lt is flag =
      is
      ∙ ap (λ (e : Degree). if active then e.outs else 0) (get_or_default degrees place d no_degree lt)
      ∙ ap (λ b. if b then (get_or degrees place no_degree).outs else 0) flag

-- one number more
pub sum_more : (f : ℕ → ℕ) (n x : ℕ) → x ≡ f n → sum (map f (range_with_len 0 (n + 1)))
    ≡ sum (map f (range_with_len 0 n)) + x
sum_more f n x is =
    ap sum (map-range_with_len_more f 0 n n (omega arith))
    ∙ sum_by_push (λ x. x) (map f (range_with_len 0 n)) (f n)
    ∙ ap (λ y. sum (map f (range_with_len 0 n)) + y) (sym is)
