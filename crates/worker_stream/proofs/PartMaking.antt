-- What is made of a file's numbers step by step is the part that the file says.
use Rattle.std.proofs.Common.{◌≡◌, ℕ, ◌<◌, ◌∙◌, List, length, sym, ap, subst}
use Rattle.std.specs.List.{filter}
use Rattle.std.specs.List.Sorted.{IsNonDecreasingBy}
use Rattle.vert_base.specs.declared.graph.Edge.{Edge}
use Rattle.vert_base.specs.Neighbours.{AreBelow, source, target}
use Rattle.vert_base.specs.Position.{Position}
use Rattle.chunk_split.specs.Chunks.{AreEnds, vertices_of}
use Rattle.circulant_plan.specs.Ring.{lies_in}
use Rattle.symple_face.specs.declared.degree.Degree.{Degree}
use Rattle.symple_face.specs.Parts.{PlainPart, ends_met, for_others, push_list, refresh_list}
use Rattle.mirror_table.proofs.PartsMade.{push_rises, scan_rises}
use Rattle.worker_stream.specs.declared.part_numbers.Frame.{Frame}
use Rattle.worker_stream.specs.Answers.{AreDegrees, AreEdges, IsFrame}
use Rattle.worker_stream.specs.Numbers.{IsFrameOf}
use Rattle.worker_stream.specs.PartFiles.{IsSound, PartFile, part_in}
use Rattle.worker_stream.proofs.EdgeOrderLaws.{IsInPlace, in_place}
use Rattle.worker_stream.proofs.SoundLaws.{degrees_form, machine_here, of_file, of_frame, push_below, push_form, push_itself, push_of_is, push_to_is, refresh_of_is, refresh_to_is, scan_below, scan_form, scan_itself, scan_place, sound_from_forms}

-- parts that are alike in each field
module _ (p q : PlainPart) (a : p.at ≡ q.at) (b : p.ends ≡ q.ends) (c : p.edges ≡ q.edges) where
  pub same_part : p.draws ≡ q.draws → p.scan ≡ q.scan → p.push ≡ q.push → p.degrees ≡ q.degrees →
      p.refresh_to ≡ q.refresh_to → p.refresh_of ≡ q.refresh_of → p.push_to ≡ q.push_to →
      p.push_of ≡ q.push_of → p ≡ q
  same_part d e f g h i j k =
      ap (λ (x : Position). record p { at = x }) a
      ∙ (ap (λ (x : List ℕ). record p { at = q.at; ends = x }) b
      ∙ (ap (λ (x : ℕ). record p { at = q.at; ends = q.ends; edges = x }) c
      ∙ (ap (λ (x : ℕ). record p { at = q.at; ends = q.ends; edges = q.edges; draws = x }) d
      ∙ (ap (λ (x : List Edge). record p { at = q.at; ends = q.ends; edges = q.edges; draws = q.draws; scan = x }) e
      ∙ (ap (λ (x : List Edge). record q {
        push = x;
        degrees = p.degrees;
        refresh_to = p.refresh_to;
        refresh_of = p.refresh_of;
        push_to = p.push_to;
        push_of = p.push_of;
      }) f
      ∙ (ap (λ (x : List Degree). record q {
        degrees = x;
        refresh_to = p.refresh_to;
        refresh_of = p.refresh_of;
        push_to = p.push_to;
        push_of = p.push_of;
      }) g
      ∙ (ap (λ (x : List (List ℕ)). record q {
        refresh_to = x;
        refresh_of = p.refresh_of;
        push_to = p.push_to;
        push_of = p.push_of;
      }) h
      ∙ (ap (λ (x : List (List ℕ)). record q { refresh_of = x; push_to = p.push_to; push_of = p.push_of }) i
      ∙ (ap (λ (x : List (List ℕ)). record q { push_to = x; push_of = p.push_of }) j
      ∙ ap (λ (x : List (List ℕ)). record q { push_of = x }) k)))))))))

-- the lists by the edges of a scan, at each end, and those by the edges of a push
abbrev pub FromScan : (Edge → ℕ) → List (List ℕ) → List Edge → List ℕ → ℕ → ℕ → Type 0
FromScan end lists scan ends m most =
    lists ≡ for_others (length ends) m (λ k. ends_met end (vertices_of ends)
    (filter (λ e. lies_in ends k (target e)) scan))

abbrev pub FromPush : (Edge → ℕ) → List (List ℕ) → List Edge → List ℕ → ℕ → ℕ → Type 0
FromPush end lists push ends m most =
    lists ≡ for_others (length ends) m (λ k. ends_met end (vertices_of ends)
    (filter (λ e. lies_in ends k (source e)) push))

abbrev pub ScanHere : List Edge → List ℕ → ℕ → ℕ → Type 0
ScanHere scan ends m most = AreEdges ends m target source most scan

abbrev pub PushHere : List Edge → List ℕ → ℕ → ℕ → Type 0
PushHere push ends m most = AreEdges ends m source target most push

module _ (f : PartFile) (frame : Frame) (m : ℕ) (form : IsFrame f) (is : IsFrameOf f frame)
    (count : frame.at.machines ≡ length frame.cuts) (me : m ≡ frame.at.machine) where
  counted : f.machines ≡ length f.ends
  counted = sym (ap (λ q. q.machines) is.at) ∙ (count ∙ ap length is.cuts)

  abbrev Rises : List ℕ → ℕ → ℕ → Type 0
  Rises ends m most = AreEnds 64 ends

  abbrev Within : List ℕ → ℕ → ℕ → Type 0
  Within ends m most = m < length ends

  rise : AreEnds 64 frame.cuts
  rise = of_frame Rises f frame m is me form.cuts.rise

  pub within : m < length frame.cuts
  within = of_frame Within f frame m is me (subst (λ (q : ℕ). f.machine < q) counted form.place.0)

  pub scan_asked : IsSound f → AreEdges frame.cuts m target source frame.edges f.scan
  scan_asked sound = of_frame (ScanHere f.scan) f frame m is me (scan_form f sound)

  pub push_asked : IsSound f → AreEdges frame.cuts m source target frame.edges f.push
  push_asked sound = of_frame (PushHere f.push) f frame m is me (push_form f sound)

  module _ (scan : List Edge) (scan_is : scan ≡ f.scan)
      (edges : AreEdges frame.cuts m target source frame.edges f.scan) where
    in_scan : IsInPlace target source frame.cuts m f.scan
    in_scan = in_place target source frame.cuts m rise within f.scan edges.placed

    pub scan_order : IsNonDecreasingBy target scan
    scan_order = subst (λ (es : List Edge). IsNonDecreasingBy target es)
        (sym (scan_is ∙ scan_itself frame.cuts rise m within f.scan in_scan))
        (scan_rises 64 frame.cuts f.scan rise (scan_below frame.cuts rise m within f.scan in_scan) m within)

    pub scan_low : AreBelow (vertices_of frame.cuts) scan
    scan_low = subst (λ (es : List Edge). AreBelow (vertices_of frame.cuts) es) (sym scan_is)
        (scan_below frame.cuts rise m within f.scan in_scan)

  module _ (push : List Edge) (push_is : push ≡ f.push)
      (edges : AreEdges frame.cuts m source target frame.edges f.push) where
    in_push : IsInPlace source target frame.cuts m f.push
    in_push = in_place source target frame.cuts m rise within f.push edges.placed

    pub push_order : IsNonDecreasingBy source push
    push_order = subst (λ (es : List Edge). IsNonDecreasingBy source es)
        (sym (push_is ∙ push_itself frame.cuts rise m within f.push in_push))
        (push_rises 64 frame.cuts f.push rise (push_below frame.cuts rise m within f.push in_push) m within)

    pub push_low : AreBelow (vertices_of frame.cuts) push
    push_low = subst (λ (es : List Edge). AreBelow (vertices_of frame.cuts) es) (sym push_is)
        (push_below frame.cuts rise m within f.push in_push)

  abbrev Asked : List (List ℕ) → List ℕ → ℕ → ℕ → Type 0
  Asked lists ends m most = FromScan target lists f.scan ends m most →
      AreDegrees ends m lists f.scan f.push f.degrees

  abbrev Given : List (List ℕ) → List ℕ → ℕ → ℕ → Type 0
  Given lists ends m most = FromScan target lists f.scan ends m most × AreDegrees ends m lists f.scan f.push f.degrees

  abbrev DegreesOf : List (List ℕ) → List Edge → List Edge → Type 0
  DegreesOf lists scan push = AreDegrees frame.cuts m lists scan push f.degrees

  module _ (lists : List (List ℕ)) (scan push : List Edge) (scan_is : scan ≡ f.scan) (push_is : push ≡ f.push)
      (made : FromScan target lists scan frame.cuts m 0) where
    made_here : FromScan target lists f.scan frame.cuts m 0
    made_here = subst (λ (es : List Edge). FromScan target lists es frame.cuts m 0) scan_is made

    pub degrees_asked : IsSound f → AreDegrees frame.cuts m lists scan push f.degrees
    degrees_asked sound =
        subst (λ (es : List Edge). DegreesOf lists es push) (sym scan_is)
        (subst (λ (es : List Edge). DegreesOf lists f.scan es) (sym push_is)
        (of_frame (Asked lists) f frame m is me
        (λ e. degrees_form f sound lists
        (e ∙ refresh_of_is f.ends sound.ends f.machine (machine_here f sound) f.scan (scan_place f sound)))
        made_here))

    pub is_sound : AreEdges frame.cuts m target source frame.edges f.scan →
        AreEdges frame.cuts m source target frame.edges f.push → AreDegrees frame.cuts m lists scan push f.degrees →
        IsSound f
    is_sound scan_form push_form degrees =
        let edges : AreEdges f.ends f.machine target source f.edges f.scan =
        of_file (ScanHere f.scan) f frame m is me scan_form in
        let here : f.machine < length f.ends = subst (λ (q : ℕ). f.machine < q) counted form.place.0 in
        let place = in_place target source f.ends f.machine form.cuts.rise here f.scan edges.placed in
        let given : Given lists f.ends f.machine f.edges =
        of_file (Given lists) f frame m is me (
          made_here,
          subst (λ (es : List Edge). DegreesOf lists f.scan es) push_is
              (subst (λ (es : List Edge). DegreesOf lists es push) scan_is degrees),
        ) in
        sound_from_forms f lists form counted edges (of_file (PushHere f.push) f frame m is me push_form)
        (given.0 ∙ refresh_of_is f.ends form.cuts.rise f.machine here f.scan place) given.1

  -- the part
  module _ (p : PlainPart) (sound : IsSound f) (at_is : p.at ≡ frame.at) (ends_are : p.ends ≡ frame.cuts)
      (edges_are : p.edges ≡ frame.edges) where
    pub part_is : p.draws ≡ frame.draws → p.scan ≡ f.scan → p.push ≡ f.push → p.degrees ≡ f.degrees →
        FromPush target p.refresh_to p.push frame.cuts m 0 →
        FromScan target p.refresh_of p.scan frame.cuts m 0 → FromScan source p.push_to p.scan frame.cuts m 0 →
        FromPush source p.push_of p.push frame.cuts m 0 → p ≡ part_in f
    part_is draws_are scan_is push_is degrees_are to_are of_are push_to_are push_of_are =
        let here = machine_here f sound in
        let into : IsInPlace source target f.ends f.machine f.push =
        record { order = sound.part.push_order; chunk = sound.part.push_chunk } in
        let shorter : (g : ℕ → List ℕ) → for_others (length f.ends) f.machine g ≡ for_others f.machines f.machine g =
        λ g. ap (λ (q : ℕ). for_others q f.machine g) (sym counted) in
        let to_here : FromPush target p.refresh_to f.push frame.cuts m 0 =
        subst (λ (es : List Edge). FromPush target p.refresh_to es frame.cuts m 0) push_is to_are in
        let of_here : FromScan target p.refresh_of f.scan frame.cuts m 0 =
        subst (λ (es : List Edge). FromScan target p.refresh_of es frame.cuts m 0) scan_is of_are in
        let push_to_here : FromScan source p.push_to f.scan frame.cuts m 0 =
        subst (λ (es : List Edge). FromScan source p.push_to es frame.cuts m 0) scan_is push_to_are in
        let push_of_here : FromPush source p.push_of f.push frame.cuts m 0 =
        subst (λ (es : List Edge). FromPush source p.push_of es frame.cuts m 0) push_is push_of_are in
        same_part p (part_in f) (at_is ∙ is.at) (ends_are ∙ is.cuts) (edges_are ∙ is.edges) (draws_are ∙ is.draws)
        scan_is push_is degrees_are
        (of_file (FromPush target p.refresh_to f.push) f frame m is me to_here
        ∙ (refresh_to_is f.ends sound.ends f.machine here f.push into
        ∙ shorter (λ k. refresh_list f.ends f.machine k f.push)))
        (of_file (FromScan target p.refresh_of f.scan) f frame m is me of_here
        ∙ (refresh_of_is f.ends sound.ends f.machine here f.scan (scan_place f sound)
        ∙ shorter (λ k. refresh_list f.ends k f.machine f.scan)))
        (of_file (FromScan source p.push_to f.scan) f frame m is me push_to_here
        ∙ (push_to_is f.ends sound.ends f.machine here f.scan (scan_place f sound)
        ∙ shorter (λ k. push_list f.ends f.machine k f.scan)))
        (of_file (FromPush source p.push_of f.push) f frame m is me push_of_here
        ∙ (push_of_is f.ends sound.ends f.machine here f.push into
        ∙ shorter (λ k. push_list f.ends k f.machine f.push)))
