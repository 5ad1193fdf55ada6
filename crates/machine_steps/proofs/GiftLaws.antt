-- What a machine sends at the begin of a round is what the work of a core says.
use Rattle.std.proofs.Common.{◌≡◌, ℕ, ℤ, ◌+◌, ◌-◌, ◌<◌, ◌≤◌, Bool, true, false, Option, None, Some, List, [], ◌∷◌, ◌++◌, length, get_or, map, replicate, take, refl, sym, ap, subst, ◌∙◌, arith, zero-add}
use Rattle.std.specs.Prelude.{slice_index, slice_index_or}
use Rattle.std.specs.List.{All, range_with_len}
use Rattle.std.proofs.lemmas.List.{get_or-append_right, get_or-map, get_or_append_left, length-map, map_more, map_push, take_all}
use Rattle.std.proofs.lemmas.List.FromFn.{get_or-range_with_len, length-range_with_len}
use Rattle.std.proofs.lemmas.List.Elements.{recursion_from_All}
use Rattle.vert_base.specs.declared.graph.VertexId.{VertexId}
use Rattle.vert_base.specs.declared.message.Message.{Message}
use Rattle.vert_base.specs.declared.value.Ruling.{Ruling}
use Rattle.vert_base.specs.declared.value.Ruling.TheVariants.{Stop, Dense, Sparse}
use Rattle.vert_base.specs.Ends.{start_of}
use Rattle.vert_base.specs.Letters.{Letter, letter_of}
use Rattle.circulant_plan.specs.declared.spot.Spot.TheVariants.{Begin}
use Rattle.circulant_plan.specs.Names.{push_name, refresh_name}
use Rattle.circulant_plan.specs.Ring.{lies_in}
use Rattle.circulant_plan.specs.Skeleton.{acting_ruling}
use Rattle.circulant_plan.specs.Table.{begin_gives, gives_of, others_of}
use Rattle.graph_table.proofs.FilterLaws.{map-map, map_same}
use Rattle.body_shape.specs.Push.{push_body}
use Rattle.body_shape.specs.Refresh.{plain_row, refresh_body}
use Rattle.vert_tree.specs.declared.program.Sparse.{Sparse as SparseBlock}
use Rattle.vert_eval.specs.declared.environment.Env.{Env}
use Rattle.vert_eval.specs.Rounds.{row_at}
use Rattle.symple_face.specs.CoreSight.{none as no_slots, own_sight, program_of}
use Rattle.symple_face.specs.CoreSparse.{own_sends as seen_sends, sends_at}
use Rattle.symple_face.specs.CoreWork.{core_sent, push_sent, refresh_sent, sent_at}
use Rattle.symple_face.specs.CoreJudge.{core_judge}
use Rattle.symple_face.specs.Plans.{ring_of}
use Rattle.symple_face.specs.Parts.{PlainPart}
use Rattle.symple_face.specs.Sight.{seen_env}
use Rattle.symple_face.specs.State.{State, machine, p_of}
use Rattle.symple_face.proofs.ChunkLaws.{lies_high, lies_low}
use Rattle.instrument.specs.declared.split.Split.{Split}
use Rattle.machine_parts.specs.Flat.{RowTable}
use Rattle.machine_parts.specs.Neighbours.{ArePlaced}
use Rattle.machine_parts.specs.Sending.{own_sends}
use Rattle.vertex_work.specs.declared.receivers.Receivers.{Receivers}
use Rattle.machine_steps.specs.Gifts.{gift}
use Rattle.vertex_work.specs.Shown.{Shows}
use Rattle.machine_steps.proofs.WorkedLaws.{Works, own_sent}

abbrev number : VertexId → ℕ
number v = v.0

-- vertices of the own chunk have their places
module _ (ends : List ℕ) (m start count : ℕ) (list : List VertexId) (ids : List ℕ) where
  pub all_placed : map (λ v. v.0) list ≡ ids → All (λ v. lies_in ends m v ≡ true) ids →
      start ≡ start_of ends m → start + count ≡ slice_index ends m → ArePlaced start count list
  all_placed same own begins whole i d lt =
      let v : ℕ = (get_or list i d).0 in
      let listed = subst (All (λ u. lies_in ends m u ≡ true)) (sym same) own in
      let lies = ap (lies_in ends m) (sym (get_or-map number list i d 0 lt))
      ∙ listed i 0 (omega (arith, length-map list number)) in
      let low = lies_low ends m (get_or list i d).0 lies in
      let high = lies_high ends m (get_or list i d).0 lies in
      (omega (arith, low, begins), omega (arith, low, high, begins, whole))

-- ---- rows
module _ (part : PlainPart) (split : Split) (totals : List ℤ) (rows : RowTable) (start k : ℕ)
    (list : List VertexId) (body : List ℕ) where
  pub refresh_told : map (λ v. v.0) list ≡ slice_index_or part.refresh_to k [] →
      start ≡ start_of part.ends part.at.machine →
      body ≡ refresh_body (map (λ v. plain_row (row_at rows.rows (v.0 - start))) list) → (s : State) →
      Shows part split totals rows.rows s → body ≡ refresh_sent s k
  refresh_told listed begins is s shows =
      is
      ∙ ap refresh_body
      (sym (map-map (λ u. plain_row (row_at rows.rows (u - start))) number list)
      ∙ ap (map (λ u. plain_row (row_at rows.rows (u - start)))) listed
      ∙ ap (λ a. map (λ u. plain_row (row_at rows.rows (u - a))) (slice_index_or part.refresh_to k [])) begins
      ∙ ap
      (λ own.
      map (λ u. plain_row (row_at own (u - start_of part.ends part.at.machine))) (slice_index_or part.refresh_to k
      []))
      (sym shows.rows)
      ∙ ap
      (λ (p : PlainPart).
      map (λ u. plain_row (row_at s.rows (u - start_of p.ends p.at.machine))) (slice_index_or p.refresh_to k []))
      (sym shows.part))

-- ---- sends
module _ (s : State) (r : ℕ) (rs : Receivers) (env : Env) (works : Works s r rs env) (sparse : SparseBlock)
    (has : (program_of s.split).sparse ≡ Some sparse) where
  pub push_told : (k : ℕ) (list : List VertexId) (body : List ℕ) →
      map (λ v. v.0) list ≡ slice_index_or s.part.push_to k [] →
      ArePlaced rs.start (length rs.rows.now.rows) list →
      body
      ≡ push_body
      (map (λ v. own_sends sparse rs.rows.now.rows rs.degrees.now rs.start env (v.0 - rs.start)) list) →
      body ≡ push_sent s r k
  push_told k list body listed placed is =
      let told : VertexId → Option (List ℤ) = λ v.
      own_sends sparse rs.rows.now.rows rs.degrees.now rs.start env (v.0 - rs.start) in
      let size = rs.whole in
      is
      ∙ ap push_body
      (map_same told (λ v. seen_sends s r v.0) list
      (recursion_from_All (λ v. told v ≡ seen_sends s r v.0) list
      (λ i d lt.
      let here = placed i d lt in
      own_sent s r rs env works sparse has (get_or list i d).0 here.0 (omega (arith, here.0, here.1, size))))
      ∙ sym (map-map (seen_sends s r) number list)
      ∙ ap (map (seen_sends s r)) listed)

-- where the program has no sparse block nobody sends
pub push_silent : (s : State) (r k : ℕ) (list : List VertexId) (body : List ℕ) →
    (program_of s.split).sparse ≡ None → map (λ v. v.0) list ≡ slice_index_or s.part.push_to k [] →
    body ≡ push_body (replicate (length list) None) → body ≡ push_sent s r k
push_silent s r k list body lacks listed is =
    is
    ∙ ap push_body
    (all_none list
    ∙ sym (map-map (seen_sends s r) number list)
    ∙ ap (map (seen_sends s r)) listed)
  where
    silent : (u : ℕ) → seen_sends s r u ≡ None
    silent u = ap (λ o. sends_at o (seen_env (own_sight s r) u 0 (no_slots s.split))) lacks

    all_none : (vs : List VertexId) → replicate (length vs) None ≡ map (λ v. seen_sends s r v.0) vs
    all_none [] = refl
    all_none (v ∷ vs) = λ j. sym (silent v.0) j ∷ all_none vs j

-- ---- messages
-- the other machines, one by one
pub other_below : (p m k : ℕ) → k < m → slice_index (others_of p m) k ≡ k
other_below p m k lt =
    get_or_append_left (range_with_len 0 m) (range_with_len (m + 1) (p - 1 - m)) 0 k
    (omega (arith, length-range_with_len 0 m))
    ∙ get_or-range_with_len 0 m k 0 lt
    ∙ zero-add k

pub other_behind : (p m k : ℕ) → m ≤ k → k + 1 < p → slice_index (others_of p m) k ≡ k + 1
other_behind p m k le lt =
    get_or-append_right (range_with_len 0 m) (range_with_len (m + 1) (p - 1 - m)) m k 0 (length-range_with_len 0 m) le
    ∙ get_or-range_with_len (m + 1) (p - 1 - m) (k - m) 0 (omega (arith, le, lt))
    ∙ omega (arith, le)

-- the messages to the first of them were added
module _ (part : PlainPart) (split : Split) (totals : List ℤ) (rows : RowTable) (dense : Bool) (round : ℕ) where
  abbrev others : List ℕ
  others = others_of part.at.machines part.at.machine

  pub record AreAdded (k : ℕ) (out : List Message) : Type 0 where
    pub letters : (s : State) → Shows part split totals rows.rows s → map letter_of out
        ≡ map (gift s round dense) (take k (others_of part.at.machines part.at.machine))

  pub added_none : (out : List Message) → out ≡ [] → AreAdded 0 out
  added_none out empty = record { letters = λ s shows. ap (map letter_of) empty }

  module _ (k to : ℕ) (message : Message) (out more : List Message) where
    pub added_more : k < length (others_of part.at.machines part.at.machine) →
        to ≡ slice_index (others_of part.at.machines part.at.machine) k → AreAdded k out →
        ((s : State) → Shows part split totals rows.rows s → letter_of message ≡ gift s round dense to) →
        more ≡ out ++ message ∷ [] → AreAdded (k + 1) more
    added_more low at so_far is pushed = record {
      letters = λ s shows.
          let f : ℕ → Letter = gift s round dense in
          ap (map letter_of) pushed
          ∙ map_push letter_of out message
          ∙ ap (λ ls. ls ++ letter_of message ∷ []) (so_far.letters s shows)
          ∙ ap (λ l. map f (take k others) ++ l ∷ []) (is s shows ∙ ap f at)
          ∙ sym (map_more f others k 0 low);
    }

  pub added_all : (k : ℕ) (out : List Message) → length (others_of part.at.machines part.at.machine) ≤ k →
      AreAdded k out → (s : State) → Shows part split totals rows.rows s →
      map letter_of out ≡ map (gift s round dense) (others_of part.at.machines part.at.machine)
  added_all k out past so_far s shows =
      so_far.letters s shows ∙ ap (map (gift s round dense)) (take_all k others past)

-- these are what a core sends
pub sent_at_begin_is : (s : State) (r : ℕ) (ruling : Ruling) → s.at.spot ≡ Begin r → s.ruling ≡ ruling →
    core_sent s
    ≡ map (λ x. record { name = x; body = sent_at s (Begin r) x }) (begin_gives (p_of s) (machine s) r ruling)
sent_at_begin_is s r ruling at rules =
    ap
    (λ spot.
    map (λ x. record { name = x; body = sent_at s spot x })
    (gives_of (ring_of s.split (p_of s)) (machine s) spot (acting_ruling (core_judge s) s.ruling spot)))
    at
    ∙ ap
    (λ rule. map (λ x. record { name = x; body = sent_at s (Begin r) x }) (begin_gives (p_of s) (machine s) r rule))
    rules

pub dense_sent : (s : State) (r : ℕ) → s.at.spot ≡ Begin r → s.ruling ≡ Dense →
    map (gift s r true) (others_of (p_of s) (machine s)) ≡ core_sent s
dense_sent s r at rules =
    sym (sent_at_begin_is s r Dense at rules
    ∙ map-map (λ x. record { name = x; body = sent_at s (Begin r) x }) (refresh_name r (machine s))
    (others_of (p_of s) (machine s)))

pub sparse_sent : (s : State) (r : ℕ) → s.at.spot ≡ Begin r → s.ruling ≡ Sparse →
    map (gift s r false) (others_of (p_of s) (machine s)) ≡ core_sent s
sparse_sent s r at rules =
    sym (sent_at_begin_is s r Sparse at rules
    ∙ map-map (λ x. record { name = x; body = sent_at s (Begin r) x }) (push_name r (machine s))
    (others_of (p_of s) (machine s)))

pub none_sent : (s : State) (r : ℕ) (out : List Message) → s.at.spot ≡ Begin r → s.ruling ≡ Stop → out ≡ [] →
    map letter_of out ≡ core_sent s
none_sent s r out at rules empty = ap (map letter_of) empty ∙ sym (sent_at_begin_is s r Stop at rules)

-- the other machines, by the part
pub others_are : (s : State) (part : PlainPart) (r : ℕ) (dense : Bool) → s.part ≡ part →
    map (gift s r dense) (others_of part.at.machines part.at.machine)
    ≡ map (gift s r dense) (others_of (p_of s) (machine s))
others_are s part r dense same =
    ap (λ (p : PlainPart). map (gift s r dense) (others_of p.at.machines p.at.machine)) (sym same)
