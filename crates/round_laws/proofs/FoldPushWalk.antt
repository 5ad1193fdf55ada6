-- A machine works the edges of its part in turn: each own vertex gets what the edges into it make it emit.
use Rattle.std.proofs.Common.{◌≡◌, ◌<◌, ◌≤◌, ◌-◌, ℕ, ℤ, Bool, true, false, List, [], ◌∷◌, length, refl, sym, ap, subst, ◌∙◌, Option, None, Some, cond, arith}
use Rattle.std.specs.Prelude.{◌==◌, ◌&&◌, ◌||◌, if◌then◌else◌, slice_index, slice_index_or, slice_set}
use Rattle.std.specs.List.{AllByRecursion, filter}
use Rattle.std.proofs.lemmas.Bool.{eq-eqb, eqb-true}
use Rattle.std.proofs.lemmas.List.{get_or-set_other, get_or-set_same, length-set}
use Rattle.vert_base.specs.declared.graph.Edge.{Edge}
use Rattle.vert_base.specs.Neighbours.{bucket, ins_of, source, target, turn_of}
use Rattle.vert_base.proofs.Orders.{bucket_keys, in_order_below}
use Rattle.vert_tree.specs.declared.program.Sparse.{Sparse}
use Rattle.graph_table.proofs.FilterLaws.{all_filter, all_weaker}
use Rattle.slot_merge.specs.declared.partial.Partial.{Partial}
use Rattle.slot_merge.specs.Combine.{Emission}
use Rattle.slot_merge.specs.Filled.{AreFilled}
use Rattle.slot_merge.specs.Partials.{with_emissions}
use Rattle.value_laws.specs.Blind.{SameWeight}
use Rattle.value_laws.proofs.Blind.{run_keyed, sparse_anywhere}
use Rattle.vert_eval.specs.declared.environment.Env.{Env}
use Rattle.vert_eval.specs.Rounds.{Scene, at_member, emitted_over, env_at, received, sender_at, sent_by, slot_ops}
use Rattle.vert_eval.specs.Runs.{run}
use Rattle.vert_eval.specs.Values.{value_of}
use Rattle.vert_eval.specs.Words.{is_set}
use Rattle.chunk_split.specs.Chunks.{vertices_of}
use Rattle.circulant_plan.specs.Ring.{AreEndsUpTo, lies_in}
use Rattle.vert_base.specs.Ends.{start_of}
use Rattle.circulant_plan.proofs.ReadingLaws.{turns_at_its_end}
use Rattle.symple_face.specs.CoreSight.{none, own_sight, own_start, program_of}
use Rattle.symple_face.specs.CoreSparse.{at_receiver, edge_worked, key_of, pushed_to, sends_at, worked}
use Rattle.symple_face.specs.Ideal.{ideal_send, machines_of, send_with}
use Rattle.symple_face.specs.PartsOf.{part_of, push_of}
use Rattle.symple_face.specs.Sight.{Sight, seen_env}
use Rattle.symple_face.specs.Source.{Source, scene}
use Rattle.symple_face.specs.State.{State, machine}
use Rattle.symple_face.proofs.ChunkLaws.{chunk_within, lies_high, lies_low, lies_within}
use Rattle.round_laws.specs.FoldPushes.{RunsSparse}
use Rattle.round_laws.specs.IsIdeal.{keys_below}
use Rattle.round_laws.specs.Partials.{partial_ops}
use Rattle.round_laws.specs.Sights.{StandsIn}
use Rattle.round_laws.specs.SparseClose.{push_buckets}
use Rattle.round_laws.proofs.Chunks.{ends_reach}
use Rattle.round_laws.proofs.FoldPushEdges.{buckets_grow, emitted_in_turn, fills_in_turn}
use Rattle.round_laws.proofs.Keys.{keys_below as low_keys}
use Rattle.round_laws.proofs.Members.{push_members}
use Rattle.vert_tree.proofs.ReadLaws.{pushed_read}
use Rattle.round_laws.proofs.Seen.{seen_environment}
use Rattle.round_laws.proofs.Sights.{own_are_seen}

-- ---- the walk at one own vertex
abbrev pub machine_key : State → Edge → ℕ
machine_key s e = key_of (vertices_of s.part.ends) (slice_index s.part.ends (machine s)) (source e)

-- what the receiver of an edge emits over what its source sends
abbrev pub pushed_by : State → ℕ → Option (List ℤ) → Edge → List Emission
pushed_by s r None e = []
pushed_by s r (Some sends) e =
    pushed_to (program_of s.split).sparse s.split (own_sight s r) (machine_key s e) sends e

module _ (s : State) (r v : ℕ) (sends : ℕ → Option (List ℤ)) (low : own_start s ≤ v) where
  abbrev place : ℕ
  place = v - own_start s

  clash : true ≡ false → ⊥
  clash e = cc

  edge_at : (e : Edge) (o : Option (List ℤ)) (all : List (List Partial)) → place < length all →
      own_start s ≤ target e → (b : Bool) → (target e == v) ≡ b →
      slice_index_or (edge_worked s r e o all) place [] ≡
      (if b then with_emissions (machine_key s e) (slice_index_or all place []) (pushed_by s r o e)
      else slice_index_or all place [])
  edge_at e None all lt start true is = refl
  edge_at e None all lt start false is = refl
  edge_at e (Some ws) all lt start true is =
      let emitted : List Emission = pushed_by s r (Some ws) e in
      ap (λ w. slice_index_or (slice_set all (w - own_start s)
      (with_emissions (machine_key s e) (slice_index_or all (w - own_start s) []) emitted)) place [])
      (eqb-true (target e) v is)
      ∙ get_or-set_same all place (with_emissions (machine_key s e) (slice_index_or all place []) emitted) [] lt
  edge_at e (Some ws) all lt start false is =
      get_or-set_other all (target e - own_start s) place
      (with_emissions (machine_key s e) (slice_index_or all (target e - own_start s) []) (pushed_by s r (Some ws) e)) []
      (λ (q : place ≡ target e - own_start s). let same : target e ≡ v = omega (arith, q, low, start) in
      clash (sym (eq-eqb (target e) v same) ∙ is))

  edge_length : (e : Edge) (o : Option (List ℤ)) (all : List (List Partial)) →
      length (edge_worked s r e o all) ≡ length all
  edge_length e None all = refl
  edge_length e (Some ws) all =
      length-set all (target e - own_start s)
      (with_emissions (machine_key s e) (slice_index_or all (target e - own_start s) []) (pushed_by s r (Some ws) e))

  pub worked_length : (es : List Edge) (all : List (List Partial)) → length (worked s r sends es all) ≡ length all
  worked_length [] all = refl
  worked_length (e ∷ es) all =
      worked_length es (edge_worked s r e (sends (source e)) all) ∙ edge_length e (sends (source e)) all

  abbrev in_turn : List Edge → List Partial → List Partial
  in_turn = emitted_in_turn (machine_key s) (λ e. pushed_by s r (sends (source e)) e)

  pub walk : (es : List Edge) → AllByRecursion (λ e. own_start s ≤ target e) es → (all : List (List Partial)) →
      place < length all →
      slice_index_or (worked s r sends es all) place [] ≡
      in_turn (bucket target v es) (slice_index_or all place [])
  walk [] starts all lt = refl
  walk (e ∷ es) starts all lt =
      walk es starts.1 (edge_worked s r e (sends (source e)) all)
      (subst (λ k. place < k) (sym (edge_length e (sends (source e)) all)) lt)
      ∙ by (target e == v) refl
    where
      by : (b : Bool) → (target e == v) ≡ b →
          in_turn (bucket target v es) (slice_index_or (edge_worked s r e (sends (source e)) all) place []) ≡
          in_turn (bucket target v (e ∷ es)) (slice_index_or all place [])
      by true is =
          ap (in_turn (bucket target v es)) (edge_at e (sends (source e)) all lt starts.0 true is)
          ∙ ap (λ b. in_turn (cond b (e ∷ bucket target v es) (bucket target v es)) (slice_index_or all place []))
          (sym is)
      by false is =
          ap (in_turn (bucket target v es)) (edge_at e (sends (source e)) all lt starts.0 false is)
          ∙ ap (λ b. in_turn (cond b (e ∷ bucket target v es) (bucket target v es)) (slice_index_or all place []))
          (sym is)

-- over edges that bring the same the partials are the same
same_in_turn : (key : Edge → ℕ) (f g : Edge → List Emission) (es : List Edge) (qs : List Partial) →
    AllByRecursion (λ e. f e ≡ g e) es → emitted_in_turn key f es qs ≡ emitted_in_turn key g es qs
same_in_turn key f g [] qs all = refl
same_in_turn key f g (e ∷ es) qs all =
    ap (λ em. emitted_in_turn key f es (with_emissions (key e) qs em)) all.0
    ∙ same_in_turn key f g es (with_emissions (key e) qs (g e)) all.1

-- what holds of all of two lists of facts holds of their pairs
pub all_pairs : {X : Type 0} (P Q R : X → Type 0) (xs : List X) → ((x : X) → P x → Q x → R x) → AllByRecursion P xs →
    AllByRecursion Q xs → AllByRecursion R xs
all_pairs P Q R [] f ps qs = tt
all_pairs P Q R (x ∷ xs) f ps qs = (f x ps.0 qs.0, all_pairs P Q R xs f ps.1 qs.1)

-- ---- what is pushed is what the source says
module _ (src : Source) (sparse : Sparse) (most m : ℕ) (state : State) (runs : RunsSparse src sparse most m) where
  abbrev ends : List ℕ
  ends = src.job.graph.ends

  abbrev edges : List Edge
  edges = src.job.graph.edges

  abbrev n : ℕ
  n = src.job.graph.vertices

  abbrev r : ℕ
  r = state.at.round

  abbrev sc : Scene
  sc = scene src r

  abbrev s : State
  s = record state { part = part_of ends src.job.draws edges m; split = src.split }

  abbrev push : List Edge
  push = push_of ends edges m

  own_block : (program_of src.split).sparse ≡ Some sparse
  own_block = ap (λ x. x.sparse) runs.program ∙ runs.block

  upto : AreEndsUpTo n (machines_of src) ends
  upto = subst (λ k. AreEndsUpTo k (machines_of src) ends) (sym runs.sized) (ends_reach most ends runs.ends)

  abbrev sender : ℕ → Env
  sender u = sender_at sc (slot_ops (program_of src.split)) u

  pub sends_are : (u : ℕ) → ideal_send src r u ≡ sends_at (Some sparse) (sender u)
  sends_are u =
      ap (send_with src r u) runs.block
      ∙ ap (λ p. sends_at (Some sparse) (sender_at sc (slot_ops p) u)) (sym runs.program)

  module _ (stands : StandsIn m s sc) (v : ℕ) (lies : lies_in ends m v ≡ true) where
    abbrev g : Sight
    g = own_sight s r

    abbrev receiver : Env
    receiver = env_at sc v (none src.split)

    abbrev emits : Edge → List Emission
    emits = emitted_over sc (slot_ops (program_of src.split)) sparse receiver

    abbrev keyed : ℕ → Env
    keyed key = record receiver { key = key }

    -- the receiver of an edge sees of the neighbour what its body reads
    received_is : (e : Edge) (key : ℕ) (ws : List ℤ) → target e ≡ v →
        (run sparse.body.items (at_receiver g e ws (seen_env g (target e) key (none src.split)))).emitted ≡
        (run sparse.body.items (record (at_member sc e receiver) { sends = record { items = ws } })).emitted
    received_is e key ws is =
        let seen = own_are_seen most m s sc runs.ends stands in
        let plain : Env = record (at_member sc e receiver) { sends = record { items = ws } } in
        let with_key : Env = record plain { key = key } in
        let apart : Env = at_receiver g e ws (keyed key) in
        let alike : SameWeight with_key apart = record { rest = refl; weight = refl } in
        let read = pushed_read src.job.program sparse runs.typed runs.block in
        ap (λ w. (run sparse.body.items (at_receiver g e ws (seen_env g w key (none src.split)))).emitted) is
        ∙ ap (λ env. (run sparse.body.items (at_receiver g e ws env)).emitted)
        (seen_environment g sc v key (none src.split) seen.0 (seen.1 v lies))
        ∙ (sparse_anywhere sparse.body.items read with_key apart alike).emitted
        ∙ (run_keyed sparse.body.items plain with_key refl).emitted

    pushed_is : (e : Edge) → target e ≡ v → pushed_by s r (ideal_send src r (source e)) e ≡ emits e
    pushed_is e is =
        ap (λ o. pushed_by s r o e) (sends_are (source e))
        ∙ by ((sender (source e)).row.active && is_set (value_of sparse.when_test (sender (source e))))
      where
        by : (b : Bool) →
            pushed_by s r (if b then Some (sent_by sparse (sender (source e))) else None) e ≡
            (if b then (received sc sparse e (sender (source e)) receiver).emitted else [])
        by true =
            ap (λ o. pushed_to o src.split g (machine_key s e) (sent_by sparse (sender (source e))) e) own_block
            ∙ received_is e (machine_key s e) (sent_by sparse (sender (source e))) is
        by false = refl

    low : start_of ends m ≤ v
    low = lies_low ends m v lies

    high : v < slice_index ends m
    high = lies_high ends m v lies

    abbrev turn : ℕ
    turn = turn_of ends v

    turn_is : turn ≡ slice_index ends m
    turn_is = turns_at_its_end n (machines_of src) m v ends upto runs.machine (low, high)

    turn_low : turn ≤ n
    turn_low =
        let top = chunk_within most ends runs.ends m runs.machine in
        let at_end = turn_is in
        let size = runs.sized in
        omega (arith, at_end, top, size)

    abbrev key : Edge → ℕ
    key e = key_of n turn (source e)

    abbrev ins : List Edge
    ins = ins_of n edges v

    keys_are : machine_key s ≡ key
    keys_are = λ i e. key_of (sym runs.sized i) (sym turn_is i) (source e)

    ins_are : bucket target v push ≡ ins
    ins_are =
        push_members ends edges m v (lies_within most ends runs.ends m v runs.machine lies) lies
        ∙ ap (λ k. ins_of k edges v) (sym runs.sized)

    low_keys_all : AllByRecursion (λ e. key e < keys_below src) ins
    low_keys_all =
        all_weaker (λ e. source e < n) (λ e. key e < keys_below src)
        (λ e lt. let below = low_keys n turn (source e) turn_low lt in omega (arith, below)) ins
        (in_order_below source n (filter (λ e. target e == v) edges))

    abbrev before : List (List Partial) → List Partial
    before all = slice_index_or all (v - start_of ends m) []

    abbrev brought : (ℕ → Bool) → Edge → List Emission
    brought new e = if new (source e) then emits e else []

    -- the sends of some sources that come now are worked: the buckets are those of all that came
    module _ (sends : ℕ → Option (List ℤ)) (came new both : ℕ → Bool) (all : List (List Partial)) where
      pub worked_filled : AllByRecursion (λ e. start_of ends m ≤ target e) push →
          AllByRecursion (λ e. sends (source e) ≡ (if new (source e) then ideal_send src r (source e) else
          None)) push → ((u : ℕ) → u < n → (came u && new u) ≡ false) →
          ((u : ℕ) → u < n → both u ≡ (came u || new u)) → v - start_of ends m < length all →
          AreFilled 0 (partial_ops src.split) (push_buckets src.split sparse sc v came) (keys_below src)
          (slice_index_or all (v - start_of ends m) []) →
          AreFilled 0 (partial_ops src.split) (push_buckets src.split sparse sc v both) (keys_below src)
          (slice_index_or (worked s r sends push all) (v - start_of ends m) [])
      worked_filled starts told apart union lt filled =
          subst (AreFilled 0 (partial_ops src.split) (push_buckets src.split sparse sc v both) (keys_below src))
          (sym partials_are)
          (subst
          (λ ws. AreFilled 0 (partial_ops src.split) ws (keys_below src)
          (emitted_in_turn key (brought new) ins (before all)))
          (λ i place k. buckets_grow n turn v edges turn_low emits came new both apart union place k i)
          (fills_in_turn (partial_ops src.split) (keys_below src) key (brought new) ins low_keys_all
          (push_buckets src.split sparse sc v came) (before all) filled))
        where
          brings_is : (e : Edge) → target e ≡ v →
              sends (source e) ≡ (if new (source e) then ideal_send src r (source e) else None) →
              pushed_by s r (sends (source e)) e ≡ brought new e
          brings_is e at_v is = ap (λ o. pushed_by s r o e) is ∙ by (new (source e))
            where
              by : (b : Bool) → pushed_by s r (if b then ideal_send src r (source e) else None) e ≡
                  (if b then emits e else [])
              by true = pushed_is e at_v
              by false = refl

          partials_are : slice_index_or (worked s r sends push all) (v - start_of ends m) [] ≡
              emitted_in_turn key (brought new) ins (before all)
          partials_are =
              walk s r v sends low push starts all lt
              ∙ same_in_turn (machine_key s) (λ e. pushed_by s r (sends (source e)) e) (brought new)
              (bucket target v push) (before all)
              (all_pairs (λ e. target e ≡ v)
              (λ e. sends (source e) ≡ (if new (source e) then ideal_send src r (source e) else None))
              (λ e. pushed_by s r (sends (source e)) e ≡ brought new e) (bucket target v push) brings_is
              (bucket_keys target v push)
              (all_filter (λ e. sends (source e) ≡ (if new (source e) then ideal_send src r (source e) else None))
              (λ e. target e == v) push told))
              ∙ ap (λ k. emitted_in_turn k (brought new) (bucket target v push) (before all)) keys_are
              ∙ ap (λ es. emitted_in_turn key (brought new) es (before all)) ins_are
