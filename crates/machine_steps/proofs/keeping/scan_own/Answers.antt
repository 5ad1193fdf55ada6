-- What the last step of the own chunk leaves is what the state of the machine says.
use Rattle.std.proofs.Common.{◌≡◌, ◌<◌, ◌≤◌, ◌+◌, ◌-◌, ℕ, None, ap, get_or, length, map, refl, replicate, subst, sym, ◌∙◌, arith}
use Rattle.std.specs.Prelude.{slice_index}
use Rattle.std.specs.List.{All}
use Rattle.std.proofs.lemmas.List.{get_or-map, length-map}
use Rattle.std.proofs.lemmas.List.FromFn.{length-range_with_len}
use Rattle.vert_base.specs.Ends.{start_of}
use Rattle.vert_base.specs.Neighbours.{bucket, target}
use Rattle.vert_tree.proofs.TypedLaws.{few_slots, few_totals}
use Rattle.chunk_split.specs.Chunks.{AreEnds, vertices_of}
use Rattle.circulant_plan.specs.Ring.{chunk_of}
use Rattle.symple_face.specs.CoreDense.{needed_dep, scan_chunk, scan_dep, scan_half, scan_read, scan_update}
use Rattle.symple_face.specs.CoreSight.{none, own_start, program_of, targets_of, those_within}
use Rattle.symple_face.specs.Parts.{chunk_vertices}
use Rattle.symple_face.specs.PartViews.{plain_of}
use Rattle.symple_face.specs.Shapes.{half_in, size_of}
use Rattle.symple_face.specs.State.{p_of}
use Rattle.symple_face.proofs.ChunkLaws.{chunk_within}
use Rattle.machine_parts.specs.Spans.{IsSpan, vertex_of}
use Rattle.machine_parts.specs.Flat.{state_at}
use Rattle.machine_parts.proofs.SpanLaws.{no_span}
use Rattle.work_laws.specs.Sound.{members_in}
use Rattle.machine_steps.specs.Halves.{AreReceived, IsHalfScan, needed_body}
use Rattle.vertex_work.specs.Known.{AreDegreesOf}
use Rattle.machine_steps.proofs.KeepLaws.{Kept, few_kept, half_are, own_placed, partials_are, reads_kept, ring_kept}
use Rattle.machine_steps.proofs.ScanToldLaws.{have_places, none_is, written}
use Rattle.machine_steps.proofs.keeping.scan_own.Goals as goal

pub new_env-requires-clause-slots : goal.new_env-requires-clause-slots
new_env-requires-clause-slots c =
    let p = c.args.ground.now.part.split.value.program in
    let few = few_slots p.program p.typed in
    omega (arith, few, c.setting.ensures.slots)

pub new_env-requires-clause-totals : goal.new_env-requires-clause-totals
new_env-requires-clause-totals c =
    let p = c.args.ground.now.part.split.value.program in
    let few = few_totals p.program p.typed in
    omega (arith, few, c.requires.totals)

pub keep_own-requires-clause-spans : goal.keep_own-requires-clause-spans
keep_own-requires-clause-spans c =
    subst (λ edges. All (IsSpan target edges) c.spans_in-spans.result.now) (sym c.own_of-own.ensures.edges)
    c.spans_in-spans.ensures.each

pub keep_own-requires-clause-placed : goal.keep_own-requires-clause-placed
keep_own-requires-clause-placed c =
    have_places c.half_of-range.result (targets_of (plain_of c.args.ground.now.part)) c.spans_in-spans.result.now _
    c.spans_in-spans.ensures.vertices c.in_ok-states.ensures.states.count

pub keep_own-requires-clause-own : goal.keep_own-requires-clause-own
keep_own-requires-clause-own c =
    let part = plain_of c.args.ground.now.part in
    let last : c.machines-step.result - 1 + 1 ≡ c.args.ground.now.part.at.machines =
    omega (arith, c.machines-step.ensures.count, c.machines-step.ensures.some) in
    let mine = c.chunk_at.ensures.own last in
    let low = subst (λ k. start_of part.ends k ≤ c.half_of-range.result.0) mine c.half_of-range.ensures.first in
    let high = subst (λ k. c.half_of-range.result.1 ≤ slice_index part.ends k) mine c.half_of-range.ensures.last in
    let size = length-range_with_len (start_of part.ends part.at.machine)
    (slice_index part.ends part.at.machine - start_of part.ends part.at.machine) in
    own_placed c.own_of-own.result.start (length c.own_of-own.result.rows.now.rows) c.half_of-range.result
    (targets_of part) c.spans_in-spans.result.now c.spans_in-spans.ensures.vertices
    (omega (arith, low, c.own_of-own.ensures.start))
    (omega (
      arith,
      high,
      low,
      c.own_of-own.ensures.start,
      ap (λ t. length t.rows) c.own_of-own.ensures.rows,
      c.requires.count,
      size,
      c.half_of-range.ensures.rises,
    ))

pub note_counts-requires-clause-each : goal.note_counts-requires-clause-each
note_counts-requires-clause-each c =
    let size_of_counts : length c.keep_own.new.counts ≡ length c.spans_in-spans.result.now =
    omega (arith, c.keep_own.auto.counts, ap length c.deref_mut.ensures.value, c.in_ok-counts.ensures) in
    let length' : c.in_ok-counts.counts.len ≡ length c.in_ok-counts.counts.items =
    omega (arith, c.deref_mut.ensures.len, ap length c.deref_mut.ensures.value) in
    let whole : c.deref.result.now ≡ c.keep_own.new.counts =
    c.deref.ensures.value
    ∙ written c.in_ok-counts.counts.len c.in_ok-counts.counts.items c.keep_own.new.counts
    (omega (arith, c.keep_own.auto.counts, ap length c.deref_mut.ensures.value)) length' in
    let half = c.half_of-range.ensures.half ∙ ap (λ k. half_in c.args.ground.now.part.cuts k c.args.half)
    c.chunk_at.ensures.chunk in
    let vertices = c.spans_in-spans.ensures.vertices
    ∙ ap (λ r. those_within r (targets_of (plain_of c.args.ground.now.part))) half in
    ap length whole ∙ size_of_counts ∙ sym (length-map c.spans_in-spans.result.now vertex_of) ∙ ap length vertices

pub note_counts-requires-clause-few : goal.note_counts-requires-clause-few
note_counts-requires-clause-few c = λ i lt.
    let size_of_counts : length c.keep_own.new.counts ≡ length c.spans_in-spans.result.now =
    omega (arith, c.keep_own.auto.counts, ap length c.deref_mut.ensures.value, c.in_ok-counts.ensures) in
    let length' : c.in_ok-counts.counts.len ≡ length c.in_ok-counts.counts.items =
    omega (arith, c.deref_mut.ensures.len, ap length c.deref_mut.ensures.value) in
    let whole : c.deref.result.now ≡ c.keep_own.new.counts =
    c.deref.ensures.value
    ∙ written c.in_ok-counts.counts.len c.in_ok-counts.counts.items c.keep_own.new.counts
    (omega (arith, c.keep_own.auto.counts, ap length c.deref_mut.ensures.value)) length' in
    let half = c.half_of-range.ensures.half ∙ ap (λ k. half_in c.args.ground.now.part.cuts k c.args.half)
    c.chunk_at.ensures.chunk in
    let vertices = c.spans_in-spans.ensures.vertices
    ∙ ap (λ r. those_within r (targets_of (plain_of c.args.ground.now.part))) half in
    let part = plain_of c.args.ground.now.part in
    let low : i < length c.spans_in-spans.result.now = omega (arith, ap length whole, size_of_counts) in
    let vertex = sym (get_or-map vertex_of c.spans_in-spans.result.now i no_span 0 low) ∙ ap (λ us. slice_index us i)
    vertices in
    subst (λ cs. slice_index cs i ≤ length (members_in part (slice_index (those_within (half_in
    c.args.ground.now.part.cuts (chunk_of c.args.ground.now.part.at.machine (c.machines-step.result - 1)
    c.args.ground.now.part.at.machines) c.args.half) (targets_of part)) i))) (sym whole)
    (subst (λ v. slice_index c.keep_own.new.counts i ≤ length (members_in part v)) vertex
    (subst (λ all. slice_index c.keep_own.new.counts i ≤ length (bucket target (vertex_of (get_or
    c.spans_in-spans.result.now i no_span)) all)) c.own_of-own.ensures.edges (c.keep_own.ensures.within i low)))

pub copy_states-requires-clause-room : goal.copy_states-requires-clause-room
copy_states-requires-clause-room c =
    let part = plain_of c.args.ground.now.part in
    let last : c.machines-step.result - 1 + 1 ≡ c.args.ground.now.part.at.machines =
    omega (arith, c.machines-step.ensures.count, c.machines-step.ensures.some) in
    let mine = c.chunk_at.ensures.own last in
    let low = subst (λ k. start_of part.ends k ≤ c.half_of-range.result.0) mine c.half_of-range.ensures.first in
    let high = subst (λ k. c.half_of-range.result.1 ≤ slice_index part.ends k) mine c.half_of-range.ensures.last in
    let size = length-range_with_len (start_of part.ends part.at.machine)
    (slice_index part.ends part.at.machine - start_of part.ends part.at.machine) in
    omega (
      arith,
      high,
      low,
      c.own_of-own.ensures.start,
      c.requires.ring,
      c.requires.count,
      size,
      c.keep_own.ensures.states,
      c.in_ok-states.ensures.states.count,
      c.half_of-range.ensures.rises,
    )

pub copy_states-requires-clause-few : goal.copy_states-requires-clause-few
copy_states-requires-clause-few c =
    let part = plain_of c.args.ground.now.part in
    let last : c.machines-step.result - 1 + 1 ≡ c.args.ground.now.part.at.machines =
    omega (arith, c.machines-step.ensures.count, c.machines-step.ensures.some) in
    let mine = c.chunk_at.ensures.own last in
    let low = subst (λ k. start_of part.ends k ≤ c.half_of-range.result.0) mine c.half_of-range.ensures.first in
    let high = subst (λ k. c.half_of-range.result.1 ≤ slice_index part.ends k) mine c.half_of-range.ensures.last in
    let size = length-range_with_len (start_of part.ends part.at.machine)
    (slice_index part.ends part.at.machine - start_of part.ends part.at.machine) in
    omega (
      arith,
      c.requires.ring,
      c.requires.count,
      size,
      c.args.ground.now.part.whole.within,
      chunk_within 64 part.ends c.args.ground.now.can.ends part.at.machine
          (omega (arith, c.args.ground.now.part.whole.machine, c.args.ground.now.can.place)),
    )

pub returns-clause-kept : goal.returns-clause-kept
returns-clause-kept c = λ s shows partials ring reading.
    let part = plain_of c.args.ground.now.part in
    let last : c.machines-step.result - 1 + 1 ≡ c.args.ground.now.part.at.machines =
    omega (arith, c.machines-step.ensures.count, c.machines-step.ensures.some) in
    let mine = c.chunk_at.ensures.own last in
    let low = subst (λ k. start_of part.ends k ≤ c.half_of-range.result.0) mine c.half_of-range.ensures.first in
    let high = subst (λ k. c.half_of-range.result.1 ≤ slice_index part.ends k) mine c.half_of-range.ensures.last in
    let size = length-range_with_len (start_of part.ends part.at.machine)
    (slice_index part.ends part.at.machine - start_of part.ends part.at.machine) in
    let size_of_counts : length c.keep_own.new.counts ≡ length c.spans_in-spans.result.now =
    omega (arith, c.keep_own.auto.counts, ap length c.deref_mut.ensures.value, c.in_ok-counts.ensures) in
    let length' : c.in_ok-counts.counts.len ≡ length c.in_ok-counts.counts.items =
    omega (arith, c.deref_mut.ensures.len, ap length c.deref_mut.ensures.value) in
    let whole : c.deref.result.now ≡ c.keep_own.new.counts =
    c.deref.ensures.value
    ∙ written c.in_ok-counts.counts.len c.in_ok-counts.counts.items c.keep_own.new.counts
    (omega (arith, c.keep_own.auto.counts, ap length c.deref_mut.ensures.value)) length' in
    let half = c.half_of-range.ensures.half ∙ ap (λ k. half_in c.args.ground.now.part.cuts k c.args.half)
    c.chunk_at.ensures.chunk in
    let vertices = c.spans_in-spans.ensures.vertices
    ∙ ap (λ r. those_within r (targets_of (plain_of c.args.ground.now.part))) half in
    let split = c.args.ground.now.part.split.value in
    let b = c.loop_of-body.result in
    let o = c.own_of-own.result in
    let spans = c.spans_in-spans.result.now in
    let range = c.half_of-range.result in
    let env = c.new_visit-visit.result.env in
    let made = c.new_visit-visit.ensures in
    let states = c.in_ok-states.states.states in
    let sp = shows.shown.part in
    let ks0 : c.machines-step.result - 1 ≡ p_of s - 1 =
    ap (λ n. n - 1) (c.machines-step.ensures.count ∙ ap (λ q. q.at.machines) (sym sp)) in
    let ks = c.from.ensures ∙ ks0 in
    let chunk_is : c.chunk_at.result ≡ scan_chunk s (p_of s - 1) =
    c.chunk_at.ensures.chunk ∙ (λ i. chunk_of (sym sp i).at.machine (ks0 i) (sym sp i).at.machines) in
    let half_is : c.half_of-range.result ≡ scan_half s (p_of s - 1) c.args.half =
    c.half_of-range.ensures.half ∙ (λ i. half_in (sym sp i).ends (chunk_is i) c.args.half) in
    let bs = c.loop_of-body.ensures ∙ sym shows.shown.split in
    let es = c.own_of-own.ensures.edges ∙ ap (λ p. p.scan) (sym sp) in
    let os = c.own_of-own.ensures.start ∙ ap (λ p. start_of p.ends p.at.machine) (sym sp) in
    let ts = ap (λ t. t.rows) c.own_of-own.ensures.rows ∙ sym shows.shown.rows in
    let kept : Kept s c.args.round (p_of s - 1) c.args.half c.loop_of-body.result.dense.now c.half_of-range.result
    c.spans_in-spans.result.now c.own_of-own.result.degrees.now c.new_visit-visit.result.env
    c.in_ok-states.states.states = record {
      ends = subst (λ q. AreEnds 64 q.ends) (sym sp) c.args.ground.now.can.ends;
      place = subst (λ q. q.at.machine < length q.ends) (sym sp)
          (omega (arith, c.args.ground.now.part.whole.machine, c.args.ground.now.can.place));
      chunk = sym chunk_is ∙ mine ∙ ap (λ q. q.at.machine) (sym sp);
      block = sym (ap (λ q. (program_of q).dense) bs) ∙ b.is.block;
      count = ap length shows.shown.rows ∙ c.requires.count
          ∙ ap (λ q. length (chunk_vertices q.ends q.at.machine)) (sym sp);
      known = subst (λ q. AreDegreesOf q (chunk_vertices q.ends q.at.machine) o.degrees.now) (sym sp)
          c.own_of-own.ensures.degrees;
      range_is = half_is;
      vertices = c.spans_in-spans.ensures.vertices ∙ ap (λ q. those_within range (targets_of q)) (sym sp);
      low = subst (λ q. start_of q.ends q.at.machine ≤ range.0) (sym sp) low;
      high = subst (λ q. range.1 ≤ slice_index q.ends q.at.machine) (sym sp) high;
      most = subst (λ q. range.1 ≤ vertices_of q.ends) (sym sp) c.half_of-range.ensures.most;
      came = subst (λ q. AreReceived q (size_of range) (needed_body s (needed_dep s c.args.round (p_of s - 1)
          c.args.half)) states) bs
          (subst (λ body. AreReceived b.split.now (size_of range) body states) (sym shows.carried)
          c.in_ok-states.ensures.states);
      n = ap (λ e. e.n) made ∙ c.new_env.ensures.n ∙ c.setting.ensures.vertices ∙ ap (λ q. vertices_of q.ends) (sym sp);
      round = ap (λ e. e.round) made ∙ c.new_env.ensures.round ∙ c.setting.ensures.round;
      draws = ap (λ e. e.draws) made ∙ c.new_env.ensures.draws ∙ c.setting.ensures.draws ∙ ap (λ q. q.draws) (sym sp);
      totals = ap (λ e. e.totals.items) made ∙ c.new_env.ensures.totals ∙ sym shows.shown.totals;
      slots = ap (λ e. e.slots.items) made ∙ c.new_env.ensures.slots
          ∙ ap (λ n. replicate n None) c.setting.ensures.slots ∙ none_is split ∙ ap none (sym shows.shown.split);
    } in
    let owned = ap (λ q. length (chunk_vertices q.ends q.at.machine)) (sym sp) in
    let cells = partials_are s c.args.round (p_of s - 1) c.args.half b.dense.now range spans o.degrees.now env states
    kept b.split.now bs
    c.from.result ks o.edges.now es o.start os o.rows.now ts
    c.args.partials.now.rows c.keep_own.new.partials.rows partials (c.requires.partials ∙ c.requires.count ∙ owned)
    c.keep_own.ensures.kept in
    let left = half_are s c.args.round (p_of s - 1) c.args.half b.dense.now range spans o.degrees.now env states kept
    b.split.now bs
    c.from.result ks o.edges.now es o.start os o.rows.now ts
    c.keep_own.new.half.states (λ x near. ap (λ t. t.states) (c.keep_own.ensures.scanned x near).states) in
    let reads = reads_kept s c.args.round (p_of s - 1) c.args.half b.dense.now range spans o.degrees.now env states
    kept b.split.now bs
    c.from.result ks o.edges.now es o.start os o.rows.now ts
    c.keep_own.new.counts (λ x near. (c.keep_own.ensures.scanned x near).reads) in
    let ids = kept.vertices ∙ ap (λ p. those_within p (targets_of s.part)) half_is in
    let copied = c.copy_states.ensures in
    let room : range.0 - o.start + size_of range ≤ length c.args.ring.now.states =
    omega (
      arith,
      high,
      low,
      c.own_of-own.ensures.start,
      c.requires.ring,
      c.requires.count,
      size,
      c.half_of-range.ensures.rises,
    ) in
    let new = c.copy_states.new.into.states in
    let old = c.args.ring.now.states in
    let half_states = c.keep_own.new.half.states in
    let states_kept = ring_kept s c.args.round (p_of s - 1) c.args.half b.dense.now (map vertex_of spans) kept.block ids
    (subst (λ p. p.1 ≤ vertices_of s.part.ends) half_is kept.most) old new half_states ring
    (c.requires.ring ∙ c.requires.count ∙ owned) copied.count
    (subst (λ p. own_start s ≤ p.0) half_is kept.low)
    (subst (λ p. p.0 - own_start s + size_of p ≤ length old) half_is
    (subst (λ a. range.0 - a + size_of range ≤ length old) os room)) left
    (subst (λ p. (k : ℕ) → k < p.0 - own_start s → state_at new k ≡ state_at old k) half_is
    (subst (λ a. (k : ℕ) → k < range.0 - a → state_at new k ≡ state_at old k) os copied.before))
    (subst (λ p. (k : ℕ) → k < length half_states → state_at new (p.0 - own_start s + k) ≡ state_at half_states k)
    half_is
    (subst (λ a. (k : ℕ) → k < length half_states → state_at new (range.0 - a + k) ≡ state_at half_states k) os
    copied.within))
    (subst (λ p. (k : ℕ) → p.0 - own_start s + length half_states ≤ k → state_at new k ≡ state_at old k) half_is
    (subst (λ a. (k : ℕ) → range.0 - a + length half_states ≤ k → state_at new k ≡ state_at old k) os copied.behind)) in
    let scan : IsHalfScan s c.args.round (p_of s - 1) c.args.half (scan_dep s c.args.round (p_of s - 1) c.args.half)
    (scan_update s c.args.round (p_of s - 1) c.args.half) c.keep_own.new.counts = record {
      dep = refl;
      told = refl;
      each = size_of_counts ∙ sym (length-map spans vertex_of) ∙ ap length ids;
      reads = reads;
      few = few_kept s.part spans o.edges.now es c.keep_own.new.counts _ ids size_of_counts c.keep_own.ensures.within;
    } in
    let noted = c.note_counts.ensures.noted s c.args.round _ _ sp reading
    (subst (λ cs. IsHalfScan s c.args.round (c.machines-step.result - 1) c.args.half
    (scan_dep s c.args.round (c.machines-step.result - 1) c.args.half)
    (scan_update s c.args.round (c.machines-step.result - 1) c.args.half) cs) (sym whole)
    (subst (λ k. IsHalfScan s c.args.round k c.args.half (scan_dep s c.args.round k c.args.half)
    (scan_update s c.args.round k c.args.half) c.keep_own.new.counts) (sym ks0) scan)) in
    record {
      partials_are = cells;
      ring_is = states_kept;
      reading_is = noted ∙ ap (λ k. (scan_read s c.args.round k c.args.half).reading) ks0;
    }
