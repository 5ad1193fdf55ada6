-- What two lists make, place by place.
use Rattle.std.proofs.Common.{◌≡◌, ℕ, zero, suc, ℤ, pos, ◌<◌, ◌≤◌, Bool, false, List, [], ◌∷◌, length, get_or, set, replicate, refl, sym, ap, subst, ◌∙◌, arith}
use Rattle.std.specs.List.{All}
use Rattle.std.proofs.lemmas.List.{length-replicate, length-set}
use Rattle.std.proofs.lemmas.List.Elements.{All-replicate, All-set}
use Rattle.vert_base.specs.declared.value.Row.{Row}
use Rattle.vert_eval.specs.Rounds.{empty_row, row_at}
use Rattle.flat_table.specs.Grids.{Rows}
use Rattle.dep_layout.specs.declared.state.Mark.{Mark}
use Rattle.dep_layout.specs.declared.state.Mark.TheVariants.{Fresh}
use Rattle.dep_layout.specs.Spelling.{State}
use Rattle.dep_layout.proofs.LoopLaws.{state_made}
use Rattle.machine_parts.specs.Flat.{AreLaid, AreStill, RowTable, StateTable, fresh_state, row_with, rows_with, state_at, states_with, still_row, zip_with}

module _ {X Y Z : Type 0} (f : X → Y → Z) where
  pub length-zip_with : (xs : List X) (ys : List Y) → length xs ≡ length ys → length (zip_with f xs ys) ≡ length ys
  length-zip_with [] [] e = refl
  length-zip_with [] (y ∷ ys) e = absurd (omega arith)
  length-zip_with (x ∷ xs) [] e = absurd (omega arith)
  length-zip_with (x ∷ xs) (y ∷ ys) e = ap suc (length-zip_with xs ys (omega arith))

  pub get_or-zip_with : (xs : List X) (ys : List Y) (i : ℕ) (x : X) (y : Y) (z : Z) → length xs ≡ length ys
      → i < length ys →
      get_or (zip_with f xs ys) i z ≡ f (get_or xs i x) (get_or ys i y)
  get_or-zip_with [] [] i x y z e lt = absurd (omega arith)
  get_or-zip_with [] (b ∷ ys) i x y z e lt = absurd (omega arith)
  get_or-zip_with (a ∷ xs) [] i x y z e lt = absurd (omega arith)
  get_or-zip_with (a ∷ xs) (b ∷ ys) zero x y z e lt = refl
  get_or-zip_with (a ∷ xs) (b ∷ ys) (suc i) x y z e lt = get_or-zip_with xs ys i x y z (omega arith) (omega arith)

  pub zip_with-set : (xs : List X) (ys : List Y) (i : ℕ) (x : X) (y : Y) →
      zip_with f (set xs i x) (set ys i y) ≡ set (zip_with f xs ys) i (f x y)
  zip_with-set [] ys i x y = refl
  zip_with-set (a ∷ xs) [] zero x y = refl
  zip_with-set (a ∷ xs) [] (suc i) x y = refl
  zip_with-set (a ∷ xs) (b ∷ ys) zero x y = refl
  zip_with-set (a ∷ xs) (b ∷ ys) (suc i) x y = ap (λ zs. f a b ∷ zs) (zip_with-set xs ys i x y)

  pub zip_with-replicate : (n : ℕ) (x : X) (y : Y) → zip_with f (replicate n x) (replicate n y) ≡ replicate n (f x y)
  zip_with-replicate zero x y = refl
  zip_with-replicate (suc n) x y = ap (λ zs. f x y ∷ zs) (zip_with-replicate n x y)

-- a row table with these words and flags
abbrev pub table_of : ℕ → List (List ℤ) → List Bool → RowTable
table_of width lists flags = record { width = width; rows = rows_with lists flags }

module _ (t : RowTable) (width : ℕ) (words : Rows ℤ) (flags : List Bool) (is : table_of width words.rows flags ≡ t)
    (laid : AreLaid 16 width (length flags) words) where
  pub rows_count : length t.rows ≡ length flags
  rows_count = ap (λ (u : RowTable). length u.rows) (sym is) ∙ length-zip_with row_with words.rows flags laid.size

  pub at_row : (i : ℕ) → i < length t.rows → row_at t.rows i ≡ row_with (get_or words.rows i []) (get_or flags i false)
  at_row i lt =
      ap (λ (u : RowTable). row_at u.rows i) (sym is)
      ∙ get_or-zip_with row_with words.rows flags i [] false empty_row laid.size (omega (arith, rows_count))

  pub row_wide : (i : ℕ) → i < length t.rows → length (get_or words.rows i []) ≡ t.width
  row_wide i lt = laid.each i [] (omega (arith, rows_count, laid.size)) ∙ ap (λ (u : RowTable). u.width) is

  pub row_put : (i : ℕ) (row : Row) (new : Rows ℤ) → new ≡ record words { rows = set words.rows i row.words.items } →
      table_of width new.rows (set flags i row.active) ≡ record t { rows = set t.rows i row }
  row_put i row new put =
      let rows : rows_with new.rows (set flags i row.active) ≡ set (rows_with words.rows flags) i row =
      ap (λ (r : Rows ℤ). rows_with r.rows (set flags i row.active)) put
      ∙ zip_with-set row_with words.rows flags i row.words.items row.active in
      (λ j. record { width = width; rows = rows j }) ∙ ap (λ (u : RowTable). record u { rows = set u.rows i row }) is

pub still_rows : (width count : ℕ) (words : Rows ℤ) (flags : List Bool)
    → words ≡ record { width = width; rows = replicate count (replicate width (pos 0)) } →
    flags ≡ replicate count false → table_of width words.rows flags
    ≡ record { width = width; rows = replicate count (still_row width) }
still_rows width count words flags filled none =
    let rows : rows_with words.rows flags ≡ replicate count (still_row width) =
    ap (λ (r : Rows ℤ). rows_with r.rows flags) filled
    ∙ ap (λ fs. rows_with (replicate count (replicate width (pos 0))) fs) none
    ∙ zip_with-replicate row_with count (replicate width (pos 0)) false in
    λ j. record { width = width; rows = rows j }

-- a state table with these marks and words
abbrev pub states_of_half : ℕ → List Mark → List (List ℤ) → StateTable
states_of_half width marks lists = record { width = width; states = states_with marks lists }

module _ (t : StateTable) (width : ℕ) (marks : List Mark) (words : Rows ℤ)
    (is : states_of_half width marks words.rows ≡ t) (laid : AreLaid 8 width (length marks) words) where
  pub states_count : length t.states ≡ length marks
  states_count = ap (λ (u : StateTable). length u.states) (sym is)
      ∙ length-zip_with state_made marks words.rows (sym laid.size) ∙ laid.size

  pub at_state : (i : ℕ) → i < length t.states → state_at t.states i
      ≡ state_made (get_or marks i Fresh) (get_or words.rows i [])
  at_state i lt =
      ap (λ (u : StateTable). state_at u.states i) (sym is)
      ∙ get_or-zip_with state_made marks words.rows i Fresh [] (fresh_state 0) (sym laid.size)
      (omega (arith, states_count, laid.size))

  pub state_wide : (i : ℕ) → i < length t.states → length (get_or words.rows i []) ≡ t.width
  state_wide i lt = laid.each i [] (omega (arith, states_count, laid.size)) ∙ ap (λ (u : StateTable). u.width) is

  pub state_still : AreStill width (states_with marks words.rows) → (i : ℕ) → i < length t.states
      → (state_at t.states i).mark ≡ Fresh → (state_at t.states i).words ≡ replicate t.width (pos 0)
  state_still still i lt =
      let P : StateTable → Type 0 = λ u. (state_at u.states i).mark ≡ Fresh
      → (state_at u.states i).words ≡ replicate u.width (pos 0) in
      let inside : i < length (states_with marks words.rows) =
      omega (arith, states_count, length-zip_with state_made marks words.rows (sym laid.size), laid.size) in
      subst P is (still i (fresh_state 0) inside)

  module _ (i : ℕ) (mark : Mark) (ws : List ℤ) (new : Rows ℤ) (put : new ≡ record words { rows = set words.rows i ws })
    where
      states : states_with (set marks i mark) new.rows ≡ set (states_with marks words.rows) i (state_made mark ws)
      states = ap (λ (r : Rows ℤ). states_with (set marks i mark) r.rows) put
          ∙ zip_with-set state_made marks words.rows i mark ws

      pub state_put : states_of_half width (set marks i mark) new.rows
          ≡ record t { states = set t.states i (state_made mark ws) }
      state_put = (λ j. record { width = width; states = states j })
          ∙ ap (λ (u : StateTable). record u { states = set u.states i (state_made mark ws) }) is

      pub put_laid : length ws ≡ t.width → AreLaid 8 width (length (set marks i mark)) new
      put_laid wide = record {
        narrow = laid.narrow;
        wide = ap (λ (r : Rows ℤ). r.width) put ∙ laid.wide;
        size = ap (λ (r : Rows ℤ). length r.rows) put ∙ length-set words.rows i ws ∙ laid.size
            ∙ sym (length-set marks i mark);
        each = subst (λ (r : Rows ℤ). All (λ l. length l ≡ width) r.rows) (sym put)
            (All-set (λ l. length l ≡ width) words.rows i ws (wide ∙ ap (λ (u : StateTable). u.width) (sym is))
            laid.each);
      }

      pub put_still : AreStill width (states_with marks words.rows) → (mark ≡ Fresh → ws ≡ replicate t.width (pos 0))
          → AreStill width (states_with (set marks i mark) new.rows)
      put_still still here =
          let P : State → Type 0 = λ s. s.mark ≡ Fresh → s.words ≡ replicate width (pos 0) in
          let one : mark ≡ Fresh → ws ≡ replicate width (pos 0) = λ fresh. here fresh
          ∙ ap (λ (u : StateTable). replicate u.width (pos 0)) (sym is) in
          subst (λ (ss : List State). All P ss) (sym states) (All-set P (states_with marks words.rows) i
          (state_made mark ws) one still)

module _ (width count : ℕ) (marks : List Mark) (words : Rows ℤ)
    (filled : words ≡ record { width = width; rows = replicate count (replicate width (pos 0)) })
    (all : marks ≡ replicate count Fresh) where
  fresh_all : states_with marks words.rows ≡ replicate count (fresh_state width)
  fresh_all =
      ap (λ (r : Rows ℤ). states_with marks r.rows) filled
      ∙ ap (λ ms. states_with ms (replicate count (replicate width (pos 0)))) all
      ∙ zip_with-replicate state_made count Fresh (replicate width (pos 0))

  pub fresh_is : states_of_half width marks words.rows ≡ record
      { width = width; states = replicate count (fresh_state width) }
  fresh_is = λ j. record { width = width; states = fresh_all j }

  pub fresh_laid : width ≤ 8 → AreLaid 8 width (length marks) words
  fresh_laid narrow = record {
    narrow = narrow;
    wide = ap (λ (r : Rows ℤ). r.width) filled;
    size = ap (λ (r : Rows ℤ). length r.rows) filled ∙ length-replicate count (replicate width (pos 0))
        ∙ sym (ap length all ∙ length-replicate count Fresh);
    each = subst (λ (r : Rows ℤ). All (λ l. length l ≡ width) r.rows) (sym filled)
        (All-replicate (λ l. length l ≡ width) count (replicate width (pos 0)) (length-replicate width (pos 0)));
  }

  pub fresh_still : AreStill width (states_with marks words.rows)
  fresh_still =
      let P : State → Type 0 = λ s. s.mark ≡ Fresh → s.words ≡ replicate width (pos 0) in
      subst (λ (ss : List State). All P ss) (sym fresh_all) (All-replicate P count (fresh_state width) (λ fresh. refl))
