-- The work of sends leaves partials of words.
use Rattle.std.proofs.Common.{◌≡◌, ◌<◌, ◌-◌, ◌^◌, ℕ, ℤ, Bool, true, false, ◌&&◌, List, [], ◌∷◌, ◌++◌, map, length, All, refl, subst, Option, None, Some, arith}
use Rattle.std.specs.Prelude.{if◌then◌else◌, slice_index, slice_index_or}
use Rattle.std.specs.List.{AllByRecursion}
use Rattle.std.proofs.lemmas.Option.{same_Some}
use Rattle.std.proofs.lemmas.List.Elements.{All-head, All-nil, All-tail}
use Rattle.std.proofs.lemmas.List.FromFn.{length-range_with_len}
use Rattle.vert_base.specs.declared.graph.Edge.{Edge}
use Rattle.vert_base.specs.declared.message.Name.{Name}
use Rattle.vert_base.specs.declared.message.NameKind.TheVariants as kind
use Rattle.vert_base.specs.declared.value.Ruling.{Ruling}
use Rattle.vert_base.specs.declared.value.Ruling.TheVariants.{Stop, Dense, Sparse}
use Rattle.vert_base.specs.declared.value.ValueType.{ValueType}
use Rattle.vert_base.specs.Neighbours.{source, target}
use Rattle.vert_tree.specs.declared.program.Program.{Program}
use Rattle.vert_tree.specs.declared.program.Sparse.{Sparse as SparseBlock}
use Rattle.vert_tree.specs.Kinds.{Kinds, field_kinds, kinds_of, sparse_typed}
use Rattle.vert_tree.specs.Places.{option_all, sends_in}
use Rattle.slot_merge.specs.declared.partial.Partial.{Partial}
use Rattle.slot_merge.specs.Partials.{with_emissions}
use Rattle.vert_eval.specs.declared.environment.Env.{Env}
use Rattle.vert_eval.specs.Rounds.{sent_by, slot_ops}
use Rattle.vert_eval.specs.Values.{value_of}
use Rattle.vert_eval.specs.Words.{is_set}
use Rattle.chunk_split.specs.Chunks.{vertices_of}
use Rattle.circulant_plan.specs.Names.{push_name}
use Rattle.circulant_plan.specs.Ring.{lies_in}
use Rattle.vert_base.specs.Ends.{start_of}
use Rattle.circulant_plan.specs.Table.{others_of}
use Rattle.instrument.specs.declared.split.Split.{Split}
use Rattle.word_kinds.specs.Fits.{AreWords, HasKinds, IsEdge, IsFitting, sparse_fits}
use Rattle.value_laws.proofs.Rounds.{SparseParts, parts, sparse_parts}
use Rattle.value_laws.proofs.Rows.{decl_words, no_values_fit}
use Rattle.value_laws.proofs.Runs.{WordFits, run_keeps}
use Rattle.value_laws.proofs.Words.{fits_wider}
use Rattle.symple_face.specs.CoreSight.{held_body, none, own_sight, own_start, program_of}
use Rattle.symple_face.specs.CoreSparse.{all_worked, at_receiver, begin_go, edge_worked, key_of, kept_sends, own_first, own_sends, pushed_to, pushes, sends_at, sends_from, told_sends, worked}
use Rattle.symple_face.specs.Lawful.{CanRun}
use Rattle.symple_face.specs.Parts.{PlainPart, chunk_vertices}
use Rattle.symple_face.specs.Sight.{Sight, seen_env}
use Rattle.symple_face.specs.State.{State, machine, p_of}
use Rattle.symple_face.proofs.ChunkLaws.{lies_high, lies_low}
use Rattle.work_laws.specs.Sound.{ArePartials, HoldsFit, OfOwn}
use Rattle.work_laws.proofs.Held.{MayRead, SendFits, may_read, send_kinds, told_send_fits}
use Rattle.work_laws.proofs.Partials.{IsAmong, emissions_more, own_at, set_own}
use Rattle.work_laws.proofs.Sees.{all_two, emptied_all, own_sees, own_small, push_edges}
use Rattle.work_laws.proofs.Sights.{SightFits, seen_has}

module _ (k : Kinds) (kinds : List ValueType) (g : Sight) (e : Edge) (ws : List ℤ) (env : Env) where
  received_has : IsEdge e → AreWords kinds ws → HasKinds k env →
      HasKinds (record k { sends = kinds }) (at_receiver g e ws env)
  received_has edge are has = record {
    fields = has.fields;
    other_fields = has.other_fields;
    locals = has.locals;
    sends = are;
    slots = has.slots;
    totals = has.totals;
    id = has.id;
    n = has.n;
    round = has.round;
    indeg = has.indeg;
    outdeg = has.outdeg;
    other_id = edge.source;
    other_indeg = omega arith;
    other_outdeg = omega arith;
    weight = fits_wider e.weight edge.weight;
  }

-- ---- the sparse block
block_of : (p : Program) (b : SparseBlock) → IsFitting p → p.sparse ≡ Some b → SparseParts (field_kinds p) b
block_of p b fit is =
    let own = parts p fit in
    sparse_parts (field_kinds p) b (subst (λ o. option_all (sparse_typed (field_kinds p)) o ≡ true) is own.sparse.0)
    (subst (λ o. option_all sparse_fits o ≡ true) is own.sparse.1)

module _ (split : Split) (fit : IsFitting (program_of split)) (g : Sight) (key : ℕ) (ws : List ℤ) (e : Edge) where
  pushed_fit : SightFits (field_kinds (program_of split)).fields g → target e < 2 ^ 32 → IsEdge e →
      AreWords (send_kinds split) ws → All WordFits (pushed_to (program_of split).sparse split g key ws e)
  pushed_fit sees small edge are = by (program_of split).sparse refl
    where
      by : (o : Option SparseBlock) → (program_of split).sparse ≡ o → All WordFits (pushed_to o split g key ws e)
      by None is = All-nil WordFits
      by (Some b) is =
          let k : Kinds = field_kinds (program_of split) in
          let own = block_of (program_of split) b fit is in
          let env : Env = seen_env g (target e) key (none split) in
          let has = seen_has k g (target e) key (none split) sees small (no_values_fit (slot_ops (program_of
          split))) in
          (run_keeps (record k { sends = kinds_of b.sends.items }) b.body.items own.body.0 own.body.1
          (at_receiver g e ws env)
          (received_has k (kinds_of b.sends.items) g e ws env edge
          (subst (λ o. AreWords (kinds_of (sends_in o)) ws) is are) has)).emitted

sent_if : (kinds : List ValueType) (b : Bool) (ws : List ℤ) → AreWords kinds ws →
    SendFits kinds (if b then Some ws else None)
sent_if kinds true ws are words e = subst (AreWords kinds) (same_Some ws words e) are
sent_if kinds false ws are words e = cc

pub sends_fit : (split : Split) → IsFitting (program_of split) → (env : Env) →
    HasKinds (field_kinds (program_of split)) env →
    SendFits (send_kinds split) (sends_at (program_of split).sparse env)
sends_fit split fit env has = by (program_of split).sparse refl
  where
    by : (o : Option SparseBlock) → (program_of split).sparse ≡ o → SendFits (kinds_of (sends_in o)) (sends_at o env)
    by None is = λ words e. cc
    by (Some b) is =
        let own = block_of (program_of split) b fit is in
        sent_if (kinds_of b.sends.items) (env.row.active && is_set (value_of b.when_test env)) (sent_by b env)
        (decl_words (field_kinds (program_of split)) b.sends.items env own.sends.0 own.sends.1 has)

pub lies_among : (part : PlainPart) (v : ℕ) → lies_in part.ends part.at.machine v ≡ true →
    IsAmong (start_of part.ends part.at.machine) (length (chunk_vertices part.ends part.at.machine)) v
lies_among part v lies =
    let a : ℕ = start_of part.ends part.at.machine in
    let b : ℕ = slice_index part.ends part.at.machine in
    let low = lies_low part.ends part.at.machine v lies in
    let high = lies_high part.ends part.at.machine v lies in
    (low, omega (arith, low, high, length-range_with_len a (b - a)))

module _ (s : State) (can : CanRun s.part s.split) (fits : HoldsFit s.part s.split s) where
  -- sends of words, whatever the vertex
  abbrev pub AllSend : (ℕ → Option (List ℤ)) → Type 0
  AllSend f = (u : ℕ) → SendFits (send_kinds s.split) (f u)

  pub own_sends_fit : (r u : ℕ) → r < 2 ^ 32 → u < 2 ^ 32 → SendFits (send_kinds s.split) (own_sends s r u)
  own_sends_fit r u small id =
      sends_fit s.split can.program (seen_env (own_sight s r) u 0 (none s.split))
      (seen_has (field_kinds (program_of s.split)) (own_sight s r) u 0 (none s.split) (own_sees s can fits r small) id
      (no_values_fit (slot_ops (program_of s.split))))

  sends_from_fit : (r : ℕ) → r < 2 ^ 32 → AllSend (sends_from s r)
  sends_from_fit r small u = by (lies_in s.part.ends (machine s) u) refl
    where
      by : (b : Bool) → lies_in s.part.ends (machine s) u ≡ b →
          SendFits (send_kinds s.split) (if b then own_sends s r u else None)
      by true lies = own_sends_fit r u small (own_small s.part s.split can u lies)
      by false lies = λ words e. cc

  pub told_fit : (x : Name) (body : List ℕ) → x.kind ≡ kind.Push → x.to ≡ machine s → MayRead s.split s.part x body →
      AllSend (told_sends s x.from body)
  told_fit x body is here may u = told_send_fits s.split s.part x u body is here may

  kept_fit : (r k : ℕ) → AllSend (kept_sends s r k)
  kept_fit r k =
      told_fit (push_name r k (machine s)) (held_body s (push_name r k (machine s))) refl refl
      (may_read s.split s.part (push_name r k (machine s)) s.held fits.held)

  -- an edge into an own vertex
  abbrev IsPushed : Edge → Type 0
  IsPushed e = (lies_in s.part.ends (machine s) (target e) ≡ true) × IsEdge e

  pushed_edges : All IsPushed s.part.push
  pushed_edges =
      all_two (λ e. lies_in s.part.ends (machine s) (target e) ≡ true) IsEdge IsPushed s.part.push
      (λ e lies edge. (lies, edge))
      can.whole.push_chunk (push_edges s.part s.split can)

  abbrev Rows : List (List Partial) → Type 0
  Rows all = OfOwn s.part (ArePartials s.split) all

  edge_are : (r : ℕ) (e : Edge) (o : Option (List ℤ)) (all : List (List Partial)) → r < 2 ^ 32 → IsPushed e →
      SendFits (send_kinds s.split) o → Rows all → Rows (edge_worked s r e o all)
  edge_are r e None all small pushed sends are = are
  edge_are r e (Some ws) all small pushed sends are =
      let key : ℕ = key_of (vertices_of s.part.ends) (slice_index s.part.ends (machine s)) (source e) in
      let emitted = pushed_to (program_of s.split).sparse s.split (own_sight s r) key ws e in
      let v : ℕ = target e in
      set_own s.part (ArePartials s.split) all (v - own_start s)
      (with_emissions key (slice_index_or all (v - own_start s) []) emitted) are
      (emissions_more s.split key (slice_index_or all (v - own_start s) []) emitted
      (pushed_fit s.split can.program (own_sight s r) key ws e (own_sees s can fits r small)
      (own_small s.part s.split can v pushed.0) pushed.1
      (sends ws refl))
      (own_at s.part (ArePartials s.split) all [] v are (lies_among s.part v pushed.0)))

  pub worked_are : (r : ℕ) (f : ℕ → Option (List ℤ)) (es : List Edge) (all : List (List Partial)) → r < 2 ^ 32 →
      AllSend f →
      All IsPushed es → Rows all → Rows (worked s r f es all)
  worked_are r f [] all small sends edges are = are
  worked_are r f (e ∷ es) all small sends edges are =
      worked_are r f es (edge_worked s r e (f (source e)) all) small sends (All-tail IsPushed e es edges)
      (edge_are r e (f (source e)) all small (All-head IsPushed e es edges) (sends (source e)) are)

  pub push_worked : (r : ℕ) (f : ℕ → Option (List ℤ)) → r < 2 ^ 32 → AllSend f →
      Rows (worked s r f s.part.push s.partials)
  push_worked r f small sends = worked_are r f s.part.push s.partials small sends pushed_edges fits.partials

  all_are : (r : ℕ) (fs : List (ℕ → Option (List ℤ))) (all : List (List Partial)) → r < 2 ^ 32 →
      AllByRecursion AllSend fs → Rows all →
      Rows (all_worked s r fs all)
  all_are r [] all small sends are = are
  all_are r (f ∷ fs) all small sends are =
      all_are r fs (worked s r f s.part.push all) small sends.1
      (worked_are r f s.part.push all small sends.0 pushed_edges are)

  kept_all : (r : ℕ) (ks : List ℕ) → AllByRecursion AllSend (map (kept_sends s r) ks)
  kept_all r [] = tt
  kept_all r (k ∷ ks) = (kept_fit r k, kept_all r ks)

  first_all : (r : ℕ) (ruling : Ruling) → r < 2 ^ 32 →
      AllByRecursion AllSend (own_first ruling (sends_from s r) ++ map (kept_sends s r)
      (others_of (p_of s) (machine s)))
  first_all r Stop small = kept_all r (others_of (p_of s) (machine s))
  first_all r Dense small = kept_all r (others_of (p_of s) (machine s))
  first_all r Sparse small = (sends_from_fit r small, kept_all r (others_of (p_of s) (machine s)))

  pub begin_go_fits : (r : ℕ) → r < 2 ^ 32 → HoldsFit s.part s.split (begin_go s r)
  begin_go_fits r small = record {
    rows = fits.rows;
    partials = all_are r (own_first s.ruling (sends_from s r) ++ map (kept_sends s r) (others_of (p_of s) (machine s)))
        s.partials small
        (first_all r s.ruling small) fits.partials;
    ring = fits.ring;
    held = emptied_all s.split s.part (pushes s r) s.held fits.held;
    reading = fits.reading;
    reads = fits.reads;
    judged = fits.judged;
    report = fits.report;
  }
