-- The receivers of a part.
use Rattle.std.proofs.Common.{◌≡◌, ℕ, ◌+◌, ◌-◌, ◌<◌, ◌≤◌, List, length, get_or, sym, ap, subst, ◌∙◌, arith}
use Rattle.std.specs.Prelude.{slice_index}
use Rattle.std.specs.List.{All}
use Rattle.std.proofs.lemmas.List.Elements.{All-from_recursion}
use Rattle.std.proofs.lemmas.List.FromFn.{length-range_with_len}
use Rattle.vert_base.specs.declared.graph.Edge.{Edge}
use Rattle.vert_base.specs.Ends.{start_of}
use Rattle.vert_base.specs.Neighbours.{in_order, source, target}
use Rattle.vert_base.proofs.Orders.{in_order_below}
use Rattle.chunk_split.specs.Chunks.{vertices_of}
use Rattle.instrument.specs.declared.split.Split.{Split}
use Rattle.symple_face.specs.Lawful.{CanRun}
use Rattle.symple_face.specs.Parts.{PlainPart, chunk_vertices}
use Rattle.symple_face.proofs.ChunkLaws.{chunk_rises, chunk_within, lies_high, lies_low}
use Rattle.vertex_work.specs.Known.{known_in}
use Rattle.vertex_work.specs.Received.{IsReceived}
use Rattle.vertex_work.proofs.KnownLaws.{own_known}

module _ (part : PlainPart) (split : Split) (can : CanRun part split) where
  low : part.at.machine < length part.ends
  low = let place = can.place in omega (arith, place, can.whole.machine)

  -- how many own vertices there are
  pub own_size : start_of part.ends part.at.machine + length (chunk_vertices part.ends part.at.machine) ≡
      slice_index part.ends part.at.machine
  own_size =
      let a : ℕ = start_of part.ends part.at.machine in
      let b : ℕ = slice_index part.ends part.at.machine in
      omega (arith, chunk_rises 64 part.ends can.ends part.at.machine low, length-range_with_len a (b - a))

  pub ends_within : slice_index part.ends part.at.machine ≤ vertices_of part.ends
  ends_within = chunk_within 64 part.ends can.ends part.at.machine low

  pub few_vertices : vertices_of part.ends ≤ 2097152
  few_vertices = let few = can.whole.within in omega (arith, few)

  sources_below : All (λ e. source e < vertices_of part.ends) part.push
  sources_below =
      let n : ℕ = vertices_of part.ends in
      subst (All (λ e. source e < n)) (sym can.whole.push_order)
      (All-from_recursion (λ e. source e < n) (in_order source n (in_order target n part.push))
      (in_order_below source n (in_order target n part.push)))

  -- each edge leads to an own vertex
  pub push_received : (degrees rows : ℕ) → degrees ≡ length (chunk_vertices part.ends part.at.machine) →
      rows ≡ length (chunk_vertices part.ends part.at.machine) →
      All (IsReceived (start_of part.ends part.at.machine) degrees rows (vertices_of part.ends)) part.push
  push_received degrees rows each count i d lt =
      let e : Edge = get_or part.push i d in
      let lies = can.whole.push_chunk i d lt in
      let from = lies_low part.ends part.at.machine (target e) lies in
      let to = lies_high part.ends part.at.machine (target e) lies in (
        from,
        omega (arith, from, to, own_size, each),
        omega (arith, from, to, own_size, count),
        sources_below i d lt,
      )

  module _ (m p start stop n : ℕ) (is_own : m ≡ part.at.machine) (count : p ≡ length part.ends)
      (begins : start ≡ start_of part.ends m) (ends : stop ≡ slice_index part.ends m)
      (last : n ≡ slice_index part.ends (p - 1)) where
    start_is : start ≡ start_of part.ends part.at.machine
    start_is = begins ∙ ap (start_of part.ends) is_own

    pub last_is : n ≡ vertices_of part.ends
    last_is = last ∙ ap (λ k. slice_index part.ends (k - 1)) count

    pub all_received : (edges : List Edge) (degrees rows : ℕ) → edges ≡ part.push →
        degrees ≡ length (known_in part m) → rows ≡ length (chunk_vertices part.ends part.at.machine) →
        All (IsReceived start degrees rows n) edges
    all_received edges degrees rows same each size =
        subst (λ (es : List Edge). All (IsReceived start degrees rows n) es) (sym same)
        (subst (λ (k : ℕ). All (IsReceived start degrees rows k) part.push) (sym last_is)
        (subst (λ (k : ℕ). All (IsReceived k degrees rows (vertices_of part.ends)) part.push) (sym start_is)
        (push_received degrees rows (each ∙ sym (own_known part can.whole m is_own)) size)))

    pub size_is : (rows : ℕ) → rows ≡ length (chunk_vertices part.ends part.at.machine) → start + rows ≡ stop
    size_is rows size =
        let at_end = ends ∙ ap (slice_index part.ends) is_own in
        omega (arith, own_size, start_is, at_end, size)

    pub few_own : (rows : ℕ) → rows ≡ length (chunk_vertices part.ends part.at.machine) → start + rows ≤ 16777216
    few_own rows size =
        omega (arith, own_size, start_is, size, ends_within, few_vertices)

    pub few_all : n ≤ 16777216
    few_all = omega (arith, last_is, few_vertices)
