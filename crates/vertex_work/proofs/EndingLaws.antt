-- The end of a round at an own vertex, put together from what its steps do.
use Rattle.std.proofs.Common.{◌≡◌, ◌<◌, ◌+◌, ◌-◌, ℕ, zero, suc, ℤ, Bool, true, false, List, [], ◌∷◌, drop, get_or, length, set, take, refl, sym, ap, ◌∙◌, Option, Some, None, arith}
use Rattle.std.specs.Prelude.{if◌then◌else◌, option_and_then, slice_get, unwrap_or}
use Rattle.std.specs.List.{All}
use Rattle.std.proofs.lemmas.List.{get_or_default, set-get_or}
use Rattle.std.proofs.lemmas.List.Elements.{All-head, All-tail}
use Rattle.vert_base.specs.declared.value.Row.{Row}
use Rattle.vert_tree.specs.declared.name.What.{What}
use Rattle.vert_tree.specs.declared.name.What.TheVariants.{Unread, Field, Slot, Local, Send, Total}
use Rattle.vert_tree.specs.declared.program.Dense.{Dense}
use Rattle.vert_tree.specs.declared.program.Program.{Program}
use Rattle.vert_tree.specs.declared.statement.Stmt.{Stmt}
use Rattle.vert_tree.specs.Places.{round_counts}
use Rattle.slot_merge.specs.declared.partial.Partial.{Partial}
use Rattle.slot_merge.specs.Combine.{Emission}
use Rattle.slot_merge.specs.Partials.{put_word, with_emission, with_emissions}
use Rattle.dep_layout.specs.Spelling.{State as LoopState}
use Rattle.vert_eval.specs.declared.environment.Env.{Env}
use Rattle.vert_eval.specs.Rounds.{empty_row, row_at, updated}
use Rattle.vert_eval.specs.Runs.{run}
use Rattle.vert_eval.specs.Values.{counts_of, slot_value, value_of}
use Rattle.vert_eval.specs.Words.{is_set}
use Rattle.vert_code.specs.declared.code.Code.{Code}
use Rattle.vert_code.specs.declared.instr.Block.TheVariants.{UpdateBody}
use Rattle.vert_code.specs.Blocks.{list_of}
use Rattle.vert_code.specs.Machine.{run_code}
use Rattle.value_laws.specs.Blind.{is_quiet}
use Rattle.value_laws.proofs.Quiet.{quiet_updates}
use Rattle.instrument.specs.declared.split.Split.{Split}
use Rattle.symple_face.specs.declared.degree.Degree.{Degree}
use Rattle.symple_face.specs.CoreClose.{tail_at, tail_env, values_of}
use Rattle.symple_face.specs.CoreScan.{told_words}
use Rattle.symple_face.specs.CoreSight.{field_count, none, program_of, total_count}
use Rattle.symple_face.specs.CoreTakes.{slot_count}
use Rattle.symple_face.specs.Sight.{Sight, seen_env}
use Rattle.machine_parts.specs.Entering.{entered}
use Rattle.vert_eval.specs.SourceRun.{with_row}
use Rattle.machine_parts.specs.Flat.{RowTable}
use Rattle.machine_parts.specs.Neighbours.{no_degree}
use Rattle.vertex_work.specs.Closing.{own_view}
use Rattle.vertex_work.specs.Tails.{IsCodeOf, tail_slots}

-- ---- the partials of the slots
put_behind : (key at : ℕ) (word : ℤ) (p : Partial) (ps : List Partial) (o : Option Partial) →
    put_word o key (p ∷ ps) (suc at) word ≡ p ∷ put_word o key ps at word
put_behind key at word p ps None = refl
put_behind key at word p ps (Some q) = refl

-- a word for one of the first partials, or for none of them
word_taken : (n key at : ℕ) (word : ℤ) (ps : List Partial) →
    take n (put_word (slice_get ps at) key ps at word) ≡
    put_word (slice_get (take n ps) at) key (take n ps) at word
word_taken zero key at word [] = refl
word_taken zero key at word (p ∷ ps) = refl
word_taken (suc n) key at word [] = refl
word_taken (suc n) key zero word (p ∷ ps) = refl
word_taken (suc n) key (suc at) word (p ∷ ps) =
    ap (take (suc n)) (put_behind key at word p ps (slice_get ps at))
    ∙ ap (λ qs. p ∷ qs) (word_taken n key at word ps)
    ∙ sym (put_behind key at word p (take n ps) (slice_get (take n ps) at))

emissions_taken : (n key : ℕ) (es : List Emission) (ps : List Partial) →
    with_emissions key (take n ps) es ≡ take n (with_emissions key ps es)
emissions_taken n key [] ps = refl
emissions_taken n key (e ∷ es) ps =
    ap (λ qs. with_emissions key qs es) (sym (word_taken n key e.slot e.word ps))
    ∙ emissions_taken n key es (with_emission key ps e)

-- the first partials of a vertex after its tail
module _ (split : Split) (d : Dense) (g : Sight) (key v : ℕ) (own lets slots new : List Partial)
    (st : LoopState) (carried : List ℤ) (env : Env) where
  pub tail_taken : env ≡ seen_env g v key (none split) → carried ≡ unwrap_or (told_words st) [] →
      lets ≡ drop (slot_count split) own → slots ≡ take (slot_count split) own →
      new ≡ tail_slots d carried lets env slots → new ≡ take (slot_count split) (tail_at split d g key own st v)
  tail_taken ee ec el es h =
      let n : ℕ = slot_count split in
      let seen : Env = seen_env g v key (none split) in
      h
      ∙ ap (λ e. tail_slots d carried lets e slots) ee
      ∙ ap (λ ws. tail_slots d ws lets seen slots) ec
      ∙ ap (λ qs. tail_slots d (unwrap_or (told_words st) []) qs seen slots) el
      ∙ ap (tail_slots d (unwrap_or (told_words st) []) (drop n own) seen) es
      ∙ by (is_set (value_of d.when_test seen)) (run d.tail.items (tail_env split d seen own st)).emitted
    where
      by : (b : Bool) (emitted : List Emission) →
          (if b then with_emissions key (take (slot_count split) own) emitted else take (slot_count split) own) ≡
          take (slot_count split) (if b then with_emissions key own emitted else own)
      by true emitted = emissions_taken (slot_count split) key emitted own
      by false emitted = refl

-- ---- the environment at an own vertex
module _ (rows : List Row) (degrees : List Degree) (start place : ℕ) where
  back : start + place - start ≡ place
  back = omega arith

  pub view_width : (first : Env) (width : ℕ) → length (row_at rows place).words.items ≡ width →
      length ((own_view rows degrees start first).row (start + place)).words.items ≡ width
  view_width first width wide = ap (λ i. length (row_at rows i).words.items) back ∙ wide

  module _ (first read new : Env) (values : List (Option ℤ)) (key : ℕ) (d : Degree) where
    pub seen_there : place < length degrees →
        read ≡ with_row (row_at rows place) (record first { slots = record { items = values } }) →
        new ≡ entered (start + place) (get_or degrees place d) key read →
        new ≡ seen_env (own_view rows degrees start first) (start + place) key values
    seen_there within is h =
        let v : ℕ = start + place in
        let same : get_or degrees place d ≡ get_or degrees (v - start) no_degree =
        get_or_default degrees place d no_degree within ∙ ap (λ i. get_or degrees i no_degree) (sym back) in
        let row : row_at rows place ≡ row_at rows (v - start) = ap (row_at rows) (sym back) in
        h ∙ ap (entered v (get_or degrees place d) key) is
        ∙ ap (λ (x : Degree).
        entered v x key (with_row (row_at rows place) (record first { slots = record { items = values } }))) same
        ∙ ap (λ (r : Row). entered v (get_or degrees (v - start) no_degree) key
        (with_row r (record first { slots = record { items = values } }))) row

-- it has as many names of each kind as a round has
module _ (split : Split) (g : Sight) (v key : ℕ) (values : List (Option ℤ)) (env : Env) where
  pub seen_counts : env ≡ seen_env g v key values → length (g.row v).words.items ≡ field_count split →
      length values ≡ slot_count split → length g.totals ≡ total_count split →
      counts_of env ≡ round_counts (program_of split)
  seen_counts is fields slots totals = ap counts_of is ∙ (λ j. record {
    fields = fields j;
    locals = 0;
    sends = 0;
    slots = slots j;
    totals = totals j;
    other_fields = fields j;
  })

-- ---- the update
pub update_ran : (p : Program) (code : Code) (entered left seen : Env) → IsCodeOf p code → entered ≡ seen →
    left ≡ (run_code (list_of code UpdateBody) entered).env →
    record left.row { active = left.next_active } ≡ updated p.update.items seen
update_ran p code entered left seen is there h =
    let close : Env → Row = λ e. record e.row { active = e.next_active } in
    ap close (h ∙ ap (λ r. r.env) (is.runs UpdateBody entered) ∙ ap (λ e. (run p.update.items e).env) there)

pub row_written : (t new : RowTable) (place : ℕ) (row other : Row) →
    new ≡ record t { rows = set t.rows place row } → row ≡ other → new ≡ record t { rows = set t.rows place other }
row_written t new place row other h is = h ∙ ap (λ r. let u : RowTable = record t { rows = set t.rows place r } in u) is

-- ---- an update that does nothing, where no slot has a value
value_at : (ps : List Partial) (i : ℕ) → All (λ p. p.value ≡ None) ps →
    option_and_then (λ s. s) (slice_get (values_of ps) i) ≡ None
value_at [] i empty = refl
value_at (p ∷ ps) zero empty = All-head (λ q. q.value ≡ None) p ps empty
value_at (p ∷ ps) (suc i) empty = value_at ps i (All-tail (λ q. q.value ≡ None) p ps empty)

none_there : (g : Sight) (v : ℕ) (ps : List Partial) → All (λ p. p.value ≡ None) ps → (w : What) →
    slot_value w (seen_env g v 0 (values_of ps)) ≡ None
none_there g v ps empty Unread = refl
none_there g v ps empty (Field i) = refl
none_there g v ps empty (Slot i) = value_at ps i empty
none_there g v ps empty (Local i) = refl
none_there g v ps empty (Send i) = refl
none_there g v ps empty (Total i) = refl

-- a vertex that isn't active keeps its row
module _ (split : Split) (t : RowTable) (degrees : List Degree) (start place : ℕ) (env : Env)
    (slots ps : List Partial) where
  pub quiet_row : is_quiet (program_of split).update.items ≡ true → (row_at t.rows place).active ≡ false →
      All (λ p. p.value ≡ None) slots → slots ≡ ps →
      t ≡ record t {
        rows = set t.rows place (updated (program_of split).update.items (seen_env (own_view t.rows
            degrees start env) (start + place) 0 (values_of ps)));
      }
  quiet_row quiet still empty same =
      let v : ℕ = start + place in
      let g : Sight = own_view t.rows degrees start env in
      let back : v - start ≡ place = omega arith in
      let row : Row = row_at t.rows place in
      let flagged : Row → Row = λ r. record r { active = false } in
      let with_flag : Bool → Row = λ b. record row { active = b } in
      let update : List Stmt = (program_of split).update.items in
      let stays : updated update (seen_env g v 0 (values_of ps)) ≡ row =
      ap (λ qs. updated update (seen_env g v 0 (values_of qs))) (sym same)
      ∙ quiet_updates update (seen_env g v 0 (values_of slots)) quiet (none_there g v slots empty) refl
      ∙ ap (λ i. flagged (row_at t.rows i)) back
      ∙ ap with_flag (sym still) in
      let put : List Row → RowTable = λ rows. record t { rows = rows } in
      sym (ap put (ap (set t.rows place) stays ∙ set-get_or t.rows place empty_row))
