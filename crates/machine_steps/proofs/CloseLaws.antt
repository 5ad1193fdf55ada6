-- The close of a round, one own vertex after another.
use Rattle.std.proofs.Common.{◌≡◌, ◌<◌, ◌+◌, ◌-◌, ◌++◌, ℕ, zero, suc, Bool, true, false, List, [], ◌∷◌, get_or, length, map, set, take, refl, sym, ap, ◌∙◌, None, arith}
use Rattle.std.specs.Prelude.{option_and_then, slice_get}
use Rattle.std.proofs.lemmas.List.{get_or_default, set-get_or}
use Rattle.vert_base.specs.declared.value.Combine.{Combine}
use Rattle.vert_base.specs.declared.value.Row.{Row}
use Rattle.vert_tree.specs.declared.name.What.{What}
use Rattle.vert_tree.specs.declared.name.What.TheVariants.{Unread, Field, Slot, Local, Send, Total}
use Rattle.slot_merge.specs.declared.partial.Partial.{Partial}
use Rattle.slot_merge.specs.Partials.{empty_partial}
use Rattle.dep_layout.specs.Spelling.{State as LoopState}
use Rattle.vert_eval.specs.declared.environment.Env.{Env}
use Rattle.vert_eval.specs.Rounds.{empty_row, row_at, slot_ops}
use Rattle.vert_eval.specs.Values.{slot_value}
use Rattle.vert_code.specs.declared.code.Code.{Code}
use Rattle.value_laws.specs.Blind.{is_quiet}
use Rattle.value_laws.proofs.Quiet.{quiet_updates}
use Rattle.instrument.specs.declared.split.Split.{Split}
use Rattle.symple_face.specs.declared.degree.Degree.{Degree}
use Rattle.symple_face.specs.CoreClose.{closed_row, values_of}
use Rattle.symple_face.specs.CoreScan.{fresh}
use Rattle.symple_face.specs.CoreSight.{program_of}
use Rattle.symple_face.specs.CoreTakes.{classes_of, empty_partials, reduced_ops, slot_count}
use Rattle.symple_face.specs.Sight.{Sight, seen_env}
use Rattle.machine_parts.specs.Flat.{RowTable, fresh_state, state_at}
use Rattle.vertex_work.specs.Closing.{CanClose, SeesAlike, ended_at, ended_row, own_view}
use Rattle.vertex_work.specs.Tails.{SameRound}
use Rattle.machine_steps.proofs.AlikeLaws.{ended_alike}
use Rattle.vertex_work.proofs.PassLaws.{pass_here, pass_more, passed}

-- ---- a vertex at rest
-- partials to which nothing came have no value
no_values : (n : ℕ) (ops : List Combine) (i : ℕ) →
    option_and_then (λ s. s) (slice_get (values_of (take n (map empty_partial ops))) i) ≡ None
no_values zero [] i = refl
no_values zero (op ∷ ops) i = refl
no_values (suc n) [] i = refl
no_values (suc n) (op ∷ ops) zero = refl
no_values (suc n) (op ∷ ops) (suc i) = no_values n ops i

none_came : (split : Split) (g : Sight) (v : ℕ) (w : What) →
    slot_value w (seen_env g v 0 (values_of (take (slot_count split) (empty_partials split)))) ≡ None
none_came split g v Unread = refl
none_came split g v (Field i) = refl
none_came split g v (Slot i) =
    no_values (slot_count split) (slot_ops (program_of split) ++ reduced_ops (classes_of split.dense)) i
none_came split g v (Local i) = refl
none_came split g v (Send i) = refl
none_came split g v (Total i) = refl

-- its row stays
module _ (split : Split) (t : RowTable) (degrees : List Degree) (start place key : ℕ) (env : Env)
    (own : List Partial) (st : LoopState) (tail : Bool) where
  pub resting_row : tail ≡ false → is_quiet (program_of split).update.items ≡ true →
      (row_at t.rows place).active ≡ false → own ≡ empty_partials split →
      t ≡ record t {
        rows = set t.rows place (ended_row tail split (own_view t.rows degrees start env) key own
            st (start + place));
      }
  resting_row off quiet still nothing =
      let v : ℕ = start + place in
      let g : Sight = own_view t.rows degrees start env in
      let back : v - start ≡ place = omega arith in
      let row : Row = row_at t.rows place in
      let flagged : Row → Row = λ r. record r { active = false } in
      let with_flag : Bool → Row = λ b. record row { active = b } in
      let closed : ended_row tail split g key own st v ≡ row =
      ap (λ b. ended_row b split g key own st v) off
      ∙ ap (λ ps. closed_row split g ps v) nothing
      ∙ quiet_updates (program_of split).update.items
      (seen_env g v 0 (values_of (take (slot_count split) (empty_partials split)))) quiet (none_came split g v) refl
      ∙ ap (λ i. flagged (row_at t.rows i)) back
      ∙ ap with_flag (sym still) in
      let put : List Row → RowTable = λ rows. record t { rows = rows } in
      sym (ap put (ap (set t.rows place) closed ∙ set-get_or t.rows place empty_row))

-- ---- the vertices so far
module _ (split : Split) (code : Code) (start count many wide more wider : ℕ) (first now : Env) where
  pub can_still : CanClose split code start count many wide first → more ≡ count → wider ≡ wide →
      SameRound first now → CanClose split code start more many wider now
  can_still can each width same = record {
    code = can.code;
    each = can.each ∙ sym each;
    width = width ∙ can.width;
    totals = ap (λ t. length t.items) same.totals ∙ can.totals;
    round = omega (arith, can.round, same.round);
    ids = omega (arith, can.ids, each);
  }

module _ (split : Split) (tail : Bool) (degrees : List Degree) (start key i : ℕ) (states : List LoopState)
    (first now : RowTable) (partials own : List (List Partial)) (old env : Env) (le : i < length first.rows)
    (each : length partials ≡ length first.rows) (loops : length states ≡ length first.rows)
    (so_far : now.rows ≡ passed
    (ended_at tail split (own_view first.rows degrees start old) key start partials states) start first.rows i)
    (own_so_far : own ≡ passed (λ v. empty_partials split) start partials i) (same : SameRound old env) where
  abbrev g : Sight
  g = own_view first.rows degrees start old

  abbrev h : Sight
  h = own_view now.rows degrees start env

  abbrev f : ℕ → Row
  f = ended_at tail split g key start partials states

  back : start + i - start ≡ i
  back = omega arith

  here : row_at now.rows (start + i - start) ≡ row_at first.rows (start + i - start)
  here =
      ap (row_at now.rows) back ∙ pass_here f start i first.rows now.rows so_far (omega arith) empty_row le
      ∙ ap (row_at first.rows) (sym back)

  alike : SeesAlike h g (start + i)
  alike = record {
    n = same.n;
    round = same.round;
    draws = same.draws;
    totals = ap (λ t. t.items) same.totals;
    row = here;
    ins = refl;
    outs = refl;
  }

  -- the row that the vertex has at the end of the round
  ended_here : ended_row tail split h key (get_or own i []) (state_at states i) (start + i) ≡ f (start + i)
  ended_here =
      let within : i < length states = omega arith in
      let v : ℕ = start + i in
      ended_alike h g v alike tail split key (get_or own i []) (state_at states i)
      ∙ ap (λ ps. ended_row tail split g key ps (state_at states i) v)
      (pass_here (λ u. empty_partials split) start i partials own own_so_far (omega arith) [] (omega arith)
      ∙ ap (λ k. get_or partials k []) (sym back))
      ∙ ap (λ st. ended_row tail split g key (get_or partials (v - start) []) st v)
      (get_or_default states i (fresh_state 0) (fresh split) within
      ∙ ap (λ k. get_or states k (fresh split)) (sym back))

  pub rows_more : (new : RowTable) →
      new ≡ record now {
        rows = set now.rows i (ended_row tail split h key (get_or own i []) (state_at states i) (start + i));
      } →
      new.rows ≡ passed f start first.rows (i + 1)
  rows_more new h =
      ap (λ t. t.rows) h
      ∙ pass_more f start i first.rows now.rows so_far (omega arith) empty_row le _ ended_here

  pub own_more : (empty : List Partial) (new : List (List Partial)) → empty ≡ empty_partials split →
      new ≡ set own i empty → new ≡ passed (λ v. empty_partials split) start partials (i + 1)
  own_more empty new is h =
      h ∙ pass_more (λ v. empty_partials split) start i partials own own_so_far (omega arith) [] (omega arith) empty is
