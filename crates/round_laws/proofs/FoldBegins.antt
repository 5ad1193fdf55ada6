-- The begin of a dense round leaves a machine as the source's run says, and what it sends of a sparse one is ideal.
use Rattle.std.proofs.Common.{◌≡◌, ◌≢◌, ◌<◌, ◌+◌, ◌-◌, ◌*◌, ℕ, zero, suc, ℤ, Bool, true, false, List, [], ◌∷◌, ◌++◌, length, map, refl, sym, ap, subst, ◌∙◌, Option, None, Some, arith, ⊎_elim}
use Rattle.std.specs.Prelude.{◌==◌, ◌&&◌, ◌||◌, if◌then◌else◌, is_some, nat_lt, replicate, slice_index, slice_index_or}
use Rattle.std.specs.List.{AllByRecursion}
use Rattle.std.proofs.lemmas.Bool.{cases_Bool, ne_eqb}
use Rattle.vert_base.specs.declared.graph.Edge.{Edge}
use Rattle.vert_base.specs.declared.message.Name.{Name}
use Rattle.vert_base.specs.declared.message.NameKind.{NameKind}
use Rattle.vert_base.specs.declared.message.NameKind.TheVariants as kind
use Rattle.vert_base.specs.declared.value.Ruling.TheVariants as ruling
use Rattle.vert_base.specs.Letters.{Letter, found}
use Rattle.vert_base.specs.Names.{same_name}
use Rattle.vert_base.specs.Neighbours.{bucket, source}
use Rattle.vert_base.proofs.LetterLaws.{names_law}
use Rattle.vert_tree.specs.declared.program.Sparse.{Sparse}
use Rattle.slot_merge.specs.declared.partial.Partial.{Partial}
use Rattle.slot_merge.specs.Filled.{AreFilled}
use Rattle.vert_eval.specs.Rounds.{Scene, env_at}
use Rattle.graph_table.proofs.FilterLaws.{all_filter, all_range, all_true, map_same}
use Rattle.circulant_plan.specs.declared.spot.Spot.TheVariants.{Begin, Scan}
use Rattle.circulant_plan.specs.Names.{push_name, update_name}
use Rattle.circulant_plan.specs.Ring.{chunk_of, lies_in, order_of}
use Rattle.vert_base.specs.Ends.{start_of}
use Rattle.circulant_plan.specs.Skeleton.{has_name}
use Rattle.circulant_plan.specs.Standing.{Standing, standing_at}
use Rattle.circulant_plan.specs.Table.{after_begin, others_of}
use Rattle.circulant_plan.proofs.ReadingLaws.{not_below}
use Rattle.body_shape.specs.Push.{push_body}
use Rattle.body_shape.proofs.MissingLaws.{push_missing}
use Rattle.symple_face.specs.CoreScan.{fresh}
use Rattle.symple_face.specs.CoreSight.{beside, body_of, known, none, own_sight, program_of, targets_of}
use Rattle.symple_face.specs.CoreSparse.{all_worked, edge_worked, kept_sends, own_first, own_sends, pushes, sends_at, sends_from, told_sends, worked}
use Rattle.symple_face.specs.CoreTakes.{emptied, own_partials}
use Rattle.symple_face.specs.CoreWork.{core_go, moved, sent_at}
use Rattle.symple_face.specs.Ideal.{ideal_body, ideal_ran, ideal_send, ideal_sent, machines_of, owner_of, state_at}
use Rattle.symple_face.specs.Parts.{chunk_vertices, push_list}
use Rattle.symple_face.specs.PartsOf.{part_of, push_of}
use Rattle.vert_tree.specs.Places.{sends_in}
use Rattle.symple_face.specs.Source.{Source, scene, stand}
use Rattle.symple_face.specs.State.{State}
use Rattle.symple_face.proofs.ChunkLaws.{lies_is}
use Rattle.symple_face.proofs.ListLaws.{other_list}
use Rattle.round_laws.specs.FoldBegins.{BeginsDense, SendsPushes}
use Rattle.round_laws.specs.FoldPushes.{RunsSparse}
use Rattle.round_laws.specs.IsIdeal.{HoldsBody, IsIdeal, came_words, half_at, is_dense, is_past, keys_below, reads_held, ring_held, words_by}
use Rattle.round_laws.specs.Partials.{partial_ops, sent_words}
use Rattle.round_laws.specs.Sights.{StandsIn}
use Rattle.round_laws.specs.Vertices.{are_some}
use Rattle.round_laws.proofs.FoldScanHeld.{still_ahead}
use Rattle.round_laws.proofs.FoldPushWalk.{sends_are}
use Rattle.round_laws.proofs.Seen.{seen_environment}
use Rattle.round_laws.proofs.Sights.{own_are_seen}
use Rattle.round_laws.proofs.Vertices.{pushed_law}

-- ---- where nothing is sent nothing is worked
none_either : (b : Bool) (o : Option (List ℤ)) → o ≡ None → (if b then None else o) ≡ None
none_either true o is = refl
none_either false o is = is

abbrev nones : ℕ → List (Option (List ℤ))
nones count = replicate count None

beside_nones : (v count : ℕ) (us : List ℕ) → beside None v us (nones count) ≡ None
beside_nones v count [] = refl
beside_nones v zero (u ∷ us) = refl
beside_nones v (suc count) (u ∷ us) =
    none_either (u == v) (beside None v us (nones count)) (beside_nones v count us)

-- a body without bytes tells of no vertex that sends
pub untold : (s : State) (k u : ℕ) → told_sends s k [] u ≡ None
untold s k u =
    let vertices : List ℕ = slice_index_or s.part.push_of k [] in
    ap (beside None u vertices)
    (push_missing (length vertices) (length (sends_in (program_of s.split).sparse)) 0).0
    ∙ beside_nones u (length vertices) vertices

pub unworked : (s : State) (r : ℕ) (sends : ℕ → Option (List ℤ)) → ((u : ℕ) → sends u ≡ None) → (es : List Edge)
    (all : List (List Partial)) → worked s r sends es all ≡ all
unworked s r sends none [] all = refl
unworked s r sends none (e ∷ es) all =
    ap (λ o. worked s r sends es (edge_worked s r e o all)) (none (source e)) ∙ unworked s r sends none es all

-- ---- without pushes
missing : (x : Name) → x.kind ≡ kind.Push → (held : List Letter) →
    AllByRecursion (λ l. l.name.kind ≢ kind.Push) held → found x held ≡ None
missing x is [] all = refl
missing x is (y ∷ ys) all =
    ⊎_elim
    (λ (same : same_name y.name x ≡ true). absurd (all.0 (ap (λ z. z.kind) (names_law y.name x same) ∙ is)))
    (λ (other : same_name y.name x ≡ false).
    ap (λ b. if b then Some y else found x ys) other ∙ missing x is ys all.1)
    (cases_Bool (same_name y.name x))

unnamed : (x : Name) → x.kind ≢ kind.Push → (r m : ℕ) (ks : List ℕ) →
    has_name x (map (λ k. push_name r k m) ks) ≡ false
unnamed x not_push r m [] = refl
unnamed x not_push r m (k ∷ ks) =
    ⊎_elim
    (λ (same : same_name x (push_name r k m) ≡ true).
    absurd (not_push (ap (λ z. z.kind) (names_law x (push_name r k m) same))))
    (λ (other : same_name x (push_name r k m) ≡ false).
    ap (λ b. b || has_name x (map (λ j. push_name r j m) ks)) other ∙ unnamed x not_push r m ks)
    (cases_Bool (same_name x (push_name r k m)))

module _ (src : Source) (m round : ℕ) (state : State) where
  abbrev ends : List ℕ
  ends = src.job.graph.ends

  abbrev pub at : Standing
  at = record { spot = Begin round; round = round }

  abbrev scanning : Standing
  scanning = record { spot = Scan round 0 0; round = round }

  abbrev pub s : State
  s = record state { part = part_of ends src.job.draws src.job.graph.edges m; split = src.split; at = at }

  pub state_is : IsIdeal src m state → state.at ≡ at → state ≡ s
  state_is is there = λ i. record state { part = is.part i; split = is.split i; at = there i }

  -- ---- a dense round
  module _ (dense : (stand src round).ruling ≡ ruling.Dense) where
    module _ (no_pushes : AllByRecursion (λ l. l.name.kind ≢ kind.Push) state.held) where
      kept_none : (ks : List ℕ) → all_worked s round (map (kept_sends s round) ks) state.partials ≡ state.partials
      kept_none [] = refl
      kept_none (k ∷ ks) =
          ap (all_worked s round (map (kept_sends s round) ks))
          (unworked s round (kept_sends s round k)
          (λ u. ap (λ o. told_sends s k (body_of o) u) (missing (push_name round k m) refl state.held no_pushes)
          ∙ untold s k u) s.part.push state.partials)
          ∙ kept_none ks

      emptied_none : (held : List Letter) → AllByRecursion (λ l. l.name.kind ≢ kind.Push) held →
          emptied (pushes s round) held ≡ held
      emptied_none [] all = refl
      emptied_none (y ∷ ys) all =
          ap (λ b. (if b then (let w : Letter = record y { body = [] } in w) else y) ∷ emptied (pushes s round) ys)
          (unnamed y.name all.0 round m (others_of (machines_of src) m))
          ∙ ap (λ ls. y ∷ ls) (emptied_none ys all.1)

      goes : state.ruling ≡ ruling.Dense → core_go s ≡ moved scanning s
      goes rules =
          ap (λ q. moved (standing_at round (after_begin round q))
          (let w : State = record s {
            held = emptied (pushes s round) state.held;
            partials = all_worked s round (own_first q (sends_from s round)
                ++ map (kept_sends s round) (others_of (machines_of src) m)) state.partials;
          } in w)) rules
          ∙ (λ i. moved scanning (record s {
            held = emptied_none state.held no_pushes i;
            partials = kept_none (others_of (machines_of src) m) i;
          }))

    nothing_past : (step h : ℕ) → is_past scanning step h ≡ false
    nothing_past step h = not_below (256 * round + (1 + 2 * step + h)) (256 * round + (1 + 2 * 0 + 0)) (omega arith)

    nothing_yet : (step h : ℕ) → is_past at step h ≡ false
    nothing_yet step h = not_below (256 * round + (1 + 2 * step + h)) (256 * round + 0) (omega arith)

    same_past : (step h : ℕ) → is_past at step h ≡ is_past scanning step h
    same_past step h = nothing_yet step h ∙ sym (nothing_past step h)

    held_on : (k : NameKind) (l : Letter) → l.name.kind ≡ k → (l.name.kind ≡ kind.Push → ⊥) → HoldsBody k src at l →
        HoldsBody k src scanning l
    held_on kind.Refresh l is no_push h = h
    held_on kind.Dep l is no_push h = λ late. h (still_ahead at scanning l.name (omega arith) late)
    held_on kind.Update l is no_push h = h
    held_on kind.Push l is no_push h = absurd (no_push is)
    held_on kind.Tally l is no_push h = h
    held_on kind.Verdict l is no_push h = h

    all_on : (held : List Letter) → AllByRecursion (λ l. l.name.kind ≢ kind.Push) held →
        AllByRecursion (λ l. HoldsBody l.name.kind src at l) held →
        AllByRecursion (λ l. HoldsBody l.name.kind src scanning l) held
    all_on [] none all = tt
    all_on (y ∷ ys) none all = (held_on y.name.kind y refl none.0 all.0, all_on ys none.1 all.1)

    words_on : (v place key : ℕ) →
        came_words src m at state.held v place key ≡ came_words src m scanning state.held v place key
    words_on v place key =
        ap (λ q. words_by q src m at state.held v place key) dense
        ∙ ap (λ b. if (if nat_lt (key + 1) (machines_of src)
        then is_some (found (update_name round key (half_at src m v) (order_of m key (machines_of src)) m) state.held)
        else key + 1 == machines_of src && b)
        then sent_words (ideal_sent src round v m key) place else []) (same_past key (half_at src m v))
        ∙ ap (λ q. words_by q src m scanning state.held v place key) (sym dense)

    ring_on : (v : ℕ) → ring_held src m at v ≡ ring_held src m scanning v
    ring_on v =
        ap (λ b. if is_dense (stand src round).ruling && b then state_at src round v m (machines_of src)
        else fresh src.split)
        (same_past (chunk_of m m (machines_of src)) (half_at src m v))

    reads_on : (v : ℕ) → reads_held src m at v ≡ reads_held src m scanning v
    reads_on v =
        let c : ℕ = owner_of src.job.graph.ends v in
        ap (λ b. if is_dense (stand src round).ruling && b
        then (ideal_ran src round v c (chunk_of m c (machines_of src))).reads else [])
        (same_past (chunk_of m c (machines_of src)) (half_at src c v))

    begun : AllByRecursion (λ l. l.name.kind ≢ kind.Push) state.held → IsIdeal src m s →
        IsIdeal src m (moved scanning s)
    begun none is = record {
      part = refl;
      split = refl;
      rows = is.rows;
      ruling = is.ruling;
      totals = is.totals;
      bodies = all_on state.held none is.bodies;
      many = is.many;
      partials = λ v lies.
          subst (λ ws. AreFilled 0 (partial_ops src.split) ws (keys_below src) (own_partials s v))
          (λ i place key. words_on v place key i) (is.partials v lies);
      ring = λ carries. is.ring carries
          ∙ map_same (ring_held src m at) (ring_held src m scanning) (chunk_vertices ends m)
          (all_true _ ring_on (chunk_vertices ends m));
      reading = is.reading
          ∙ map_same (reads_held src m at) (reads_held src m scanning) (targets_of s.part)
          (all_true _ reads_on (targets_of s.part));
      reads = is.reads;
      judged = is.judged;
      report = is.report;
    }

pub begins_dense : BeginsDense
begins_dense src m round state lt is begins dense none =
    let t : State = s src m round state in
    let same : state ≡ t = state_is src m round state is begins.spot in
    let ideal : IsIdeal src m t = subst (IsIdeal src m) same is in
    let rules : state.ruling ≡ ruling.Dense = ideal.ruling (ap known (sym same) ∙ begins.knows) ∙ dense in
    subst (λ x. IsIdeal src m (core_go x)) (sym same)
    (subst (IsIdeal src m) (sym (goes src m round state dense none rules)) (begun src m round state dense none ideal))

-- ---- what is sent in a sparse round
module _ (src : Source) (sparse : Sparse) (most m round : ℕ) (state : State) (runs : RunsSparse src sparse most m)
  where
    abbrev sending : State
    sending = s src m round state

    abbrev sc : Scene
    sc = scene src round

    module _ (is : IsIdeal src m sending) (knows : known sending ≡ true) where
      pub stands : StandsIn m sending sc
      stands = record {
        machine = runs.machine;
        part = refl;
        sized = runs.sized;
        rows = is.rows;
        totals = is.totals knows;
      }

      -- what an own vertex sends is what the source says
      pub own_is : (u : ℕ) → lies_in src.job.graph.ends m u ≡ true → own_sends sending round u ≡ ideal_send src round u
      own_is u lies =
          let seen = own_are_seen most m sending sc runs.ends stands in
          ap (sends_at (program_of src.split).sparse)
          (seen_environment (own_sight sending round) sc u 0 (none src.split) seen.0 (seen.1 u lies))
          ∙ ap (λ o. sends_at o (env_at sc u (none src.split))) (ap (λ x. x.sparse) runs.program ∙ runs.block)
          ∙ sym (sends_are src sparse most m sending runs u)

      abbrev IsOwn : ℕ → Type 0
      IsOwn u = own_sends sending round u ≡ ideal_send src round u

      module _ (k : ℕ) (receiver : k < machines_of src) (other : k ≢ m) where
        abbrev list : List ℕ
        list = push_list src.job.graph.ends m k src.job.graph.edges

        all_own : AllByRecursion IsOwn list
        all_own =
            let a : ℕ = start_of src.job.graph.ends m in
            let b : ℕ = slice_index src.job.graph.ends m in
            subst (AllByRecursion IsOwn)
            (sym (pushed_law most src.job.graph.ends src.job.graph.edges k m runs.ends receiver runs.machine))
            (all_filter IsOwn
            (λ u. are_some (bucket source u (push_of src.job.graph.ends src.job.graph.edges k)))
            (chunk_vertices src.job.graph.ends m)
            (all_range IsOwn a (b - a)
            (λ u low high. own_is u (lies_is a b u low (omega (arith, low, high))))))

        push_ideal : sent_at sending (Begin round) (push_name round m k) ≡ ideal_body src (push_name round m k)
        push_ideal =
            ap (λ us. push_body (map (own_sends sending round) us))
            (other_list (machines_of src) m k (λ j. push_list src.job.graph.ends m j src.job.graph.edges) receiver
            (ne_eqb k m other))
            ∙ ap push_body (map_same (own_sends sending round) (ideal_send src round) list all_own)

pub sends_pushes : SendsPushes
sends_pushes src sparse most m k round state runs receiver other is begins =
    let t : State = s src m round state in
    let same : state ≡ t = state_is src m round state is begins.spot in
    subst (λ x. sent_at x x.at.spot (push_name round m k) ≡ ideal_body src (push_name round m k)) (sym same)
    (push_ideal src sparse most m round state runs (subst (IsIdeal src m) same is)
    (ap known (sym same) ∙ begins.knows) k receiver other)
