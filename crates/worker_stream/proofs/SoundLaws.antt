-- The numbers of a file are sound exactly where each of them has its form.
use Rattle.std.proofs.Common.{◌≡◌, ℕ, ◌<◌, ◌≤◌, ◌∙◌, true, List, [], ◌∷◌, length, refl, sym, ap, subst, arith, Ok, Err}
use Rattle.std.specs.Prelude.{◌==◌, if◌then◌else◌, slice_index_or, Result}
use Rattle.std.specs.Result.{IsErrAnd}
use Rattle.std.specs.List.{AllByRecursion, filter, flat_map, range_with_len}
use Rattle.std.proofs.lemmas.List.Elements.{All-from_recursion, recursion_from_All}
use Rattle.vert_base.specs.declared.graph.Edge.{Edge}
use Rattle.vert_base.specs.declared.limits.TheConstants.{EDGES, VERTICES}
use Rattle.vert_base.specs.Neighbours.{AreBelow, source, target}
use Rattle.chunk_split.specs.Chunks.{AreEnds, vertices_of}
use Rattle.circulant_plan.specs.Ring.{lies_in}
use Rattle.graph_table.specs.Tables.{by_target}
use Rattle.graph_table.proofs.FilterLaws.{filter_all}
use Rattle.symple_face.specs.Parts.{by_source, chunk_vertices, ends_met, for_others, push_list, refresh_list}
use Rattle.symple_face.specs.PartsOf.{known_of, push_of, scan_of}
use Rattle.mirror_table.proofs.PartsMade.{known_made, push_of_made, push_to_made, refresh_of_made, refresh_to_made}
use Rattle.worker_stream.specs.declared.fault.PartFault.{PartFault}
use Rattle.worker_stream.specs.declared.fault.PartFault.TheVariants.{Magic, Length, Number, Text, Want}
use Rattle.worker_stream.specs.declared.part_numbers.Frame.{Frame}
use Rattle.worker_stream.specs.Answers.{AreDegrees, AreEdges, Finds, IsFrame}
use Rattle.worker_stream.specs.Numbers.{IsFrameOf}
use Rattle.worker_stream.specs.PartFiles.{IsSound, PartFile}
use Rattle.worker_stream.proofs.DegreeLaws.{counted_passes, counted_says, known_passes, known_says}
use Rattle.worker_stream.proofs.EdgeOrderLaws.{IsInPlace, in_place, in_place_passes, placed_below}

-- a fault of one part of the numbers is one of the whole
failed : {X Y : Type 0} (A B : Type 0) (is : X → Type 0) (is' : Y → Type 0) (fault : PartFault) → (B → A) →
    Finds A is (Err fault) → Finds B is' (Err fault)
failed A B is is' Magic f given = given
failed A B is is' Length f given = given
failed A B is is' Number f given = λ b. given (f b)
failed A B is is' Text f given = given
failed A B is is' Want f given = tt

module _ {X Y : Type 0} (A B : Type 0) (is : X → Type 0) (is' : Y → Type 0) (fault : PartFault) where
  pub fails : (r : Result Y PartFault) → (B → A) → Finds A is (Err fault) → IsErrAnd r (λ e. e ≡ fault) →
      Finds B is' r
  fails (Ok y) f given h = absurd h
  fails (Err e) f given h =
      subst (λ (q : PartFault). Finds {X = Y} B is' (Err q)) (sym h) (failed A B is is' fault f given)

-- what is said of the frame's numbers is said of the file's
pub of_file : (P : List ℕ → ℕ → ℕ → Type 0) (f : PartFile) (frame : Frame) (m : ℕ) → IsFrameOf f frame →
    m ≡ frame.at.machine → P frame.cuts m frame.edges → P f.ends f.machine f.edges
of_file P f frame m h e p =
    subst (λ (q : ℕ). P f.ends f.machine q) h.edges
    (subst (λ (q : ℕ). P f.ends q frame.edges) (e ∙ ap (λ q. q.machine) h.at)
    (subst (λ (q : List ℕ). P q m frame.edges) h.cuts p))

pub of_frame : (P : List ℕ → ℕ → ℕ → Type 0) (f : PartFile) (frame : Frame) (m : ℕ) → IsFrameOf f frame →
    m ≡ frame.at.machine → P f.ends f.machine f.edges → P frame.cuts m frame.edges
of_frame P f frame m h e p =
    subst (λ (q : List ℕ). P q m frame.edges) (sym h.cuts)
    (subst (λ (q : ℕ). P f.ends q frame.edges) (sym (e ∙ ap (λ q. q.machine) h.at))
    (subst (λ (q : ℕ). P f.ends f.machine q) (sym h.edges) p))

-- ---- the lists that follow from edges in their place
module _ (ends : List ℕ) (are : AreEnds 64 ends) (m : ℕ) (here : m < length ends) where
  module _ (scan : List Edge) (place : IsInPlace target source ends m scan) where
    pub scan_below : AreBelow (vertices_of ends) scan
    scan_below =
        All-from_recursion (λ e. (source e < vertices_of ends) × (target e < vertices_of ends)) scan
        (swapped scan (placed_below target source ends m are here scan place))
      where
        swapped : (es : List Edge) →
            AllByRecursion (λ e. (target e < vertices_of ends) × (source e < vertices_of ends)) es →
            AllByRecursion (λ e. (source e < vertices_of ends) × (target e < vertices_of ends)) es
        swapped [] all = tt
        swapped (e ∷ es) all = ((all.0.1, all.0.0), swapped es all.1)

    pub scan_itself : scan ≡ scan_of ends scan m
    scan_itself =
        place.order
        ∙ ap (by_target (vertices_of ends))
        (sym (filter_all (λ e. lies_in ends m (source e)) scan
        (recursion_from_All (λ e. lies_in ends m (source e) ≡ true) scan place.chunk)))

    pub refresh_of_is : for_others (length ends) m (λ k.
        ends_met target (vertices_of ends) (filter (λ e. lies_in ends k (target e)) scan))
        ≡ for_others (length ends) m (λ k. refresh_list ends k m scan)
    refresh_of_is =
        ap (λ (es : List Edge). for_others (length ends) m (λ k.
        ends_met target (vertices_of ends) (filter (λ e. lies_in ends k (target e)) es))) scan_itself
        ∙ refresh_of_made 64 ends scan are scan_below m here

    pub push_to_is : for_others (length ends) m (λ k.
        ends_met source (vertices_of ends) (filter (λ e. lies_in ends k (target e)) scan))
        ≡ for_others (length ends) m (λ k. push_list ends m k scan)
    push_to_is =
        ap (λ (es : List Edge). for_others (length ends) m (λ k.
        ends_met source (vertices_of ends) (filter (λ e. lies_in ends k (target e)) es))) scan_itself
        ∙ push_to_made 64 ends scan are scan_below m here

    pub gathered_is : (lists : List (List ℕ)) → lists ≡ for_others (length ends) m (λ k. refresh_list ends k m scan) →
        flat_map (λ k. if k == m then chunk_vertices ends k else slice_index_or lists k [])
        (range_with_len 0 (length ends)) ≡ known_of ends scan m
    gathered_is lists lists_are = known_made 64 ends scan are scan_below m here lists lists_are

  module _ (push : List Edge) (place : IsInPlace source target ends m push) where
    pub push_below : AreBelow (vertices_of ends) push
    push_below =
        All-from_recursion (λ e. (source e < vertices_of ends) × (target e < vertices_of ends)) push
        (placed_below source target ends m are here push place)

    pub push_itself : push ≡ push_of ends push m
    push_itself =
        place.order
        ∙ ap (by_source (vertices_of ends))
        (sym (filter_all (λ e. lies_in ends m (target e)) push
        (recursion_from_All (λ e. lies_in ends m (target e) ≡ true) push place.chunk)))

    pub refresh_to_is : for_others (length ends) m (λ k.
        ends_met target (vertices_of ends) (filter (λ e. lies_in ends k (source e)) push))
        ≡ for_others (length ends) m (λ k. refresh_list ends m k push)
    refresh_to_is =
        ap (λ (es : List Edge). for_others (length ends) m (λ k.
        ends_met target (vertices_of ends) (filter (λ e. lies_in ends k (source e)) es))) push_itself
        ∙ refresh_to_made 64 ends push are push_below m here

    pub push_of_is : for_others (length ends) m (λ k.
        ends_met source (vertices_of ends) (filter (λ e. lies_in ends k (source e)) push))
        ≡ for_others (length ends) m (λ k. push_list ends k m push)
    push_of_is =
        ap (λ (es : List Edge). for_others (length ends) m (λ k.
        ends_met source (vertices_of ends) (filter (λ e. lies_in ends k (source e)) es))) push_itself
        ∙ push_of_made 64 ends push are push_below m here

-- ---- of a sound file each number has its form
module _ (f : PartFile) (sound : IsSound f) where
  pub machine_here : f.machine < length f.ends
  machine_here = subst (λ (q : ℕ). f.machine < q) sound.part.machine sound.place

  abbrev pub scan_place : IsInPlace target source f.ends f.machine f.scan
  scan_place = record { order = sound.part.scan_order; chunk = sound.part.scan_chunk }

  pub scan_form : AreEdges f.ends f.machine target source f.edges f.scan
  scan_form = record {
    few = sound.part.few_scan;
    placed = in_place_passes target source f.ends f.machine sound.ends machine_here f.scan scan_place;
  }

  pub push_form : AreEdges f.ends f.machine source target f.edges f.push
  push_form = record {
    few = sound.part.few_push;
    placed = in_place_passes source target f.ends f.machine sound.ends machine_here f.push (record {
      order = sound.part.push_order;
      chunk = sound.part.push_chunk;
    });
  }

  pub degrees_form : (lists : List (List ℕ)) →
      lists ≡ for_others (length f.ends) f.machine (λ k. refresh_list f.ends k f.machine f.scan) →
      AreDegrees f.ends f.machine lists f.scan f.push f.degrees
  degrees_form lists lists_are = record {
    known = known_passes f.degrees _
        (sound.part.known
        ∙ (ap (λ (q : ℕ). flat_map (λ k. if k == f.machine then chunk_vertices f.ends k
        else refresh_list f.ends k f.machine f.scan) (range_with_len 0 q)) sound.part.machine
        ∙ sym (gathered_is f.ends sound.ends f.machine machine_here f.scan scan_place lists lists_are)));
    counted = counted_passes f.ends f.machine f.push f.scan f.degrees sound.part.own;
  }

-- ---- and a file whose numbers have their forms is sound
pub sound_from_forms : (f : PartFile) (lists : List (List ℕ)) → IsFrame f → f.machines ≡ length f.ends →
    AreEdges f.ends f.machine target source f.edges f.scan → AreEdges f.ends f.machine source target f.edges f.push →
    lists ≡ for_others (length f.ends) f.machine (λ k. refresh_list f.ends k f.machine f.scan) →
    AreDegrees f.ends f.machine lists f.scan f.push f.degrees → IsSound f
sound_from_forms f lists frame count scan push lists_are degrees =
    let are = frame.cuts.rise in
    let here : f.machine < length f.ends = subst (λ (q : ℕ). f.machine < q) count frame.place.0 in
    let from = in_place target source f.ends f.machine are here f.scan scan.placed in
    let into = in_place source target f.ends f.machine are here f.push push.placed in
    let within : vertices_of f.ends ≤ VERTICES =
    subst (λ (q : ℕ). q ≤ VERTICES) (sym frame.cuts.last) frame.cuts.within in
    let few : length f.scan ≤ EDGES = omega (arith, scan.few, frame.few) in
    let known = known_says f.degrees _ degrees.known
    ∙ gathered_is f.ends are f.machine here f.scan from lists lists_are in
    record {
      place = frame.place.0;
      ends = are;
      last = frame.cuts.last;
      part = record {
        machine = count;
        within = within;
        few = frame.few;
        few_scan = scan.few;
        few_push = push.few;
        scan_order = from.order;
        push_order = into.order;
        scan_chunk = from.chunk;
        push_chunk = into.chunk;
        refresh_to = refl;
        refresh_of = refl;
        push_to = refl;
        push_of = refl;
        known =
            known
            ∙ ap (λ (q : ℕ). flat_map (λ k. if k == f.machine then chunk_vertices f.ends k
            else refresh_list f.ends k f.machine f.scan) (range_with_len 0 q)) (sym count);
        own = counted_says f.ends f.machine f.push f.scan are
            (scan_below f.ends are f.machine here f.scan from) here f.degrees known degrees.counted;
      };
    }
