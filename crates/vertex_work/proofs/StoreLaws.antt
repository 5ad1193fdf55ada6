-- The partials of slots, written to their place one after another.
use Rattle.std.proofs.Common.{◌≡◌, ℕ, ◌+◌, ◌<◌, ◌≤◌, List, [], ◌∷◌, ◌++◌, length, get_or, set, take, drop, sym, ap, ◌∙◌, arith}
use Rattle.std.proofs.lemmas.List.{append_assoc, drop_more, get_or-set_same, length-set, length-take-le, set-get_or, set-set, set_at, take_all, take_more}
use Rattle.slot_merge.specs.declared.partial.Partial.{Partial}
use Rattle.flat_table.specs.Grids.{Rows}

-- a row with the first places written
abbrev pub written : {X : Type 0} → ℕ → List X → List X → List X
written i qs row = take i qs ++ drop i row

pub written-more : {X : Type 0} (i : ℕ) (qs row : List X) (x d : X) → i < length qs → i < length row →
    x ≡ get_or qs i d → set (written i qs row) i x ≡ written (i + 1) qs row
written-more i qs row x d lt within here =
    ap (λ rest. set (take i qs ++ rest) i x) (drop_more row i d within)
    ∙ set_at (take i qs) (get_or row i d) (drop (i + 1) row) x i (length-take-le i qs (omega arith))
    ∙ sym (append_assoc (take i qs) (x ∷ []) (drop (i + 1) row))
    ∙ ap (λ y. (take i qs ++ y ∷ []) ++ drop (i + 1) row) here
    ∙ ap (λ front. front ++ drop (i + 1) row) (sym (take_more qs i d lt))

-- a table whose row at a place has the first places written
abbrev pub stored : ℕ → ℕ → List Partial → Rows Partial → Rows Partial
stored place i qs table = record table { rows = set table.rows place (written i qs (get_or table.rows place [])) }

pub stored_none : (place : ℕ) (qs : List Partial) (table : Rows Partial) → table ≡ stored place 0 qs table
stored_none place qs table = λ j. record table { rows = sym (set-get_or table.rows place []) j }

module _ (place i : ℕ) (qs : List Partial) (first now : Rows Partial) (within : place < length first.rows)
    (wide : length (get_or first.rows place []) ≡ first.width) (so_far : now ≡ stored place i qs first) where
  row_now : get_or now.rows place [] ≡ written i qs (get_or first.rows place [])
  row_now =
      ap (λ (t : Rows Partial). get_or t.rows place []) so_far
      ∙ get_or-set_same first.rows place (written i qs (get_or first.rows place [])) [] within

  pub place_now : place < length now.rows
  place_now =
      let row : List Partial = written i qs (get_or first.rows place []) in
      omega (arith, ap (λ (t : Rows Partial). length t.rows) so_far, length-set first.rows place row)

  pub width_now : now.width ≡ first.width
  width_now = ap (λ (t : Rows Partial). t.width) so_far

  pub stored_more : (xs : List Partial) (d : Partial) (new : Rows Partial) → xs ≡ qs → i < length qs →
      length qs ≤ first.width →
      new ≡ record now { rows = set now.rows place (set (get_or now.rows place []) i (get_or xs i d)) } →
      new ≡ stored place (i + 1) qs first
  stored_more xs d new same lt few put =
      let row : List Partial = get_or first.rows place [] in
      let old : List Partial = written i qs row in
      let here : get_or xs i d ≡ get_or qs i d = ap (λ ys. get_or ys i d) same in
      put
      ∙ ap (λ (r : List Partial). record now { rows = set now.rows place (set r i (get_or xs i d)) }) row_now
      ∙ ap (λ (r : List Partial). record now { rows = set now.rows place r })
      (written-more i qs row (get_or xs i d) d lt (omega (arith, wide)) here)
      ∙ ap (λ (t : Rows Partial). record t { rows = set t.rows place (written (i + 1) qs row) }) so_far
      ∙ (λ j. record first { rows = set-set first.rows place old (written (i + 1) qs row) j })

pub stored_all : (place i : ℕ) (qs : List Partial) (first now : Rows Partial) → i ≡ length qs →
    now ≡ stored place i qs first →
    now ≡ record first { rows = set first.rows place (qs ++ drop (length qs) (get_or first.rows place [])) }
stored_all place i qs first now whole so_far =
    so_far
    ∙ ap (λ k. stored place k qs first) whole
    ∙ ap (λ (front : List Partial).
    record first { rows = set first.rows place (front ++ drop (length qs) (get_or first.rows place [])) })
    (take_all (length qs) qs (omega arith))
