-- What stands in the parts of a typed program.
use Rattle.std.proofs.Common.{◌≡◌, ◌≤◌, Bool, true, length, refl, sym, ap, ◌∙◌, Option, Some}
use Rattle.std.specs.Prelude.{◌&&◌, nat_le, is_some}
use Rattle.std.specs.List.{list_all}
use Rattle.std.proofs.lemmas.Bool.{and_parts, leb-true}
use Rattle.vert_tree.specs.declared.expression.Expr.{Expr}
use Rattle.vert_tree.specs.declared.program.Dense.{Dense}
use Rattle.vert_tree.specs.declared.program.Program.{Program}
use Rattle.vert_tree.specs.declared.program.Sparse.{Sparse}
use Rattle.vert_tree.specs.Kinds.{is_kinded}
use Rattle.vert_tree.specs.Limits.{is_limited, is_shallow, mode_stands, names_stand, version_stands}
use Rattle.vert_tree.specs.Places.{body_placed, dense_placed, expr_placed, is_placed, no_counts, option_all, round_counts, row_counts, sparse_placed, stop_counts, update_rights}
use Rattle.vert_tree.specs.Readable.{declares_once, is_readable, totals_combine}
use Rattle.vert_tree.specs.Typed.{is_typed}

-- each of seven tests is true where all are
record All7 (a b c d e f g : Bool) : Type 0 where
  first : a ≡ true
  second : b ≡ true
  third : c ≡ true
  fourth : d ≡ true
  fifth : e ≡ true
  sixth : f ≡ true
  seventh : g ≡ true

seven : (a b c d e f g : Bool) → (a && (b && (c && (d && (e && (f && g)))))) ≡ true → All7 a b c d e f g
seven a b c d e f g h =
    let p = and_parts a (b && (c && (d && (e && (f && g))))) h in
    let q = and_parts b (c && (d && (e && (f && g)))) p.1 in
    let r = and_parts c (d && (e && (f && g))) q.1 in
    let s = and_parts d (e && (f && g)) r.1 in
    let t = and_parts e (f && g) s.1 in
    let u = and_parts f g t.1 in
    record { first = p.0; second = q.0; third = r.0; fourth = s.0; fifth = t.0; sixth = u.0; seventh = u.1 }

six : (a b c d e f : Bool) → (a && (b && (c && (d && (e && f))))) ≡ true → All7 a b c d e f true
six a b c d e f h =
    let p = and_parts a (b && (c && (d && (e && f)))) h in
    let q = and_parts b (c && (d && (e && f))) p.1 in
    let r = and_parts c (d && (e && f)) q.1 in
    let s = and_parts d (e && f) r.1 in
    let t = and_parts e f s.1 in
    record { first = p.0; second = q.0; third = r.0; fourth = s.0; fifth = t.0; sixth = t.1; seventh = refl }

-- a test of what may be missing, at what is there
there : {X : Type 0} (test : X → Bool) (o : Option X) (x : X) → o ≡ Some x → option_all test o ≡ true → test x ≡ true
there test o x e h = ap (option_all test) (sym e) ∙ h

-- the tests of a typed program after the first six
abbrev mode_and_reads : Program → Bool
mode_and_reads p = mode_stands p.mode (is_some p.dense) (is_some p.sparse)
    && (is_readable p && (declares_once p && totals_combine p))

module _ (p : Program) (typed : is_typed p ≡ true) where
  all : All7 (is_placed p) (is_kinded p) (is_limited p) (is_shallow p) (names_stand p) (version_stands p)
      (mode_and_reads p)
  all = seven (is_placed p) (is_kinded p) (is_limited p) (is_shallow p) (names_stand p) (version_stands p)
      (mode_and_reads p) typed

  abbrev Places : Type 0
  Places = All7 (list_all (λ d. expr_placed no_counts d.value) p.fields.items)
      (list_all (λ t. expr_placed (row_counts p) t.value) p.totals.items) (expr_placed (row_counts p) p.start)
      (option_all (dense_placed (round_counts p)) p.dense) (option_all (sparse_placed (round_counts p)) p.sparse)
      (body_placed update_rights (round_counts p) p.update.items) (option_all (expr_placed (stop_counts p)) p.stop)

  places : Places
  places = seven (list_all (λ d. expr_placed no_counts d.value) p.fields.items)
      (list_all (λ t. expr_placed (row_counts p) t.value) p.totals.items) (expr_placed (row_counts p) p.start)
      (option_all (dense_placed (round_counts p)) p.dense) (option_all (sparse_placed (round_counts p)) p.sparse)
      (body_placed update_rights (round_counts p) p.update.items) (option_all (expr_placed (stop_counts p)) p.stop)
      all.first

  abbrev Few : Type 0
  Few = All7 (nat_le p.limit 10000) (nat_le (length p.fields.items) 16) (nat_le (length p.slots.items) 8)
      (nat_le (length p.totals.items) 4) (option_all (λ d. nat_le (length d.lets.items) 8) p.dense)
      (option_all (λ s. nat_le (length s.sends.items) 8) p.sparse) true

  limits : Few
  limits = six (nat_le p.limit 10000) (nat_le (length p.fields.items) 16) (nat_le (length p.slots.items) 8)
      (nat_le (length p.totals.items) 4) (option_all (λ d. nat_le (length d.lets.items) 8) p.dense)
      (option_all (λ s. nat_le (length s.sends.items) 8) p.sparse) all.third

  -- the last four tests
  abbrev mode : Bool
  mode = mode_stands p.mode (is_some p.dense) (is_some p.sparse)

  readings : (is_readable p && (declares_once p && totals_combine p)) ≡ true
  readings = (and_parts mode (is_readable p && (declares_once p && totals_combine p)) all.seventh).1

  once : (declares_once p && totals_combine p) ≡ true
  once = (and_parts (is_readable p) (declares_once p && totals_combine p) readings).1

  pub shallow : is_shallow p ≡ true
  shallow = all.fourth

  pub kinded : is_kinded p ≡ true
  kinded = all.second

  pub readable : is_readable p ≡ true
  readable = (and_parts (is_readable p) (declares_once p && totals_combine p) readings).0

  pub totals_are_combined : totals_combine p ≡ true
  totals_are_combined = (and_parts (declares_once p) (totals_combine p) once).1

  pub limited : is_limited p ≡ true
  limited = all.third

  pub fields_placed : list_all (λ d. expr_placed no_counts d.value) p.fields.items ≡ true
  fields_placed = places.first

  pub totals_placed : list_all (λ t. expr_placed (row_counts p) t.value) p.totals.items ≡ true
  totals_placed = places.second

  pub start_placed : expr_placed (row_counts p) p.start ≡ true
  start_placed = places.third

  pub blocks_placed : (option_all (dense_placed (round_counts p)) p.dense ≡ true) ×
      (option_all (sparse_placed (round_counts p)) p.sparse ≡ true)
  blocks_placed = (places.fourth, places.fifth)

  pub dense_stands : (d : Dense) → p.dense ≡ Some d → dense_placed (round_counts p) d ≡ true
  dense_stands d e = there (dense_placed (round_counts p)) p.dense d e places.fourth

  pub sparse_stands : (s : Sparse) → p.sparse ≡ Some s → sparse_placed (round_counts p) s ≡ true
  sparse_stands s e = there (sparse_placed (round_counts p)) p.sparse s e places.fifth

  pub update_placed : body_placed update_rights (round_counts p) p.update.items ≡ true
  update_placed = places.sixth

  pub few_rounds : p.limit ≤ 10000
  few_rounds = leb-true _ _ limits.first

  pub few_fields : length p.fields.items ≤ 16
  few_fields = leb-true _ _ limits.second

  pub few_slots : length p.slots.items ≤ 8
  few_slots = leb-true _ _ limits.third

  pub few_totals : length p.totals.items ≤ 4
  few_totals = leb-true _ _ limits.fourth

  pub blocks_limited : (option_all (λ d. nat_le (length d.lets.items) 8) p.dense ≡ true) ×
      (option_all (λ s. nat_le (length s.sends.items) 8) p.sparse ≡ true)
  blocks_limited = (limits.fifth, limits.sixth)

  pub few_lets : (d : Dense) → p.dense ≡ Some d → length d.lets.items ≤ 8
  few_lets d e = leb-true _ _ (there (λ x. nat_le (length x.lets.items) 8) p.dense d e limits.fifth)

  pub few_sends : (s : Sparse) → p.sparse ≡ Some s → length s.sends.items ≤ 8
  few_sends s e = leb-true _ _ (there (λ x. nat_le (length x.sends.items) 8) p.sparse s e limits.sixth)

  pub stop_stands : (e : Expr) → p.stop ≡ Some e → expr_placed (stop_counts p) e ≡ true
  stop_stands e is = there (expr_placed (stop_counts p)) p.stop e is places.seventh
