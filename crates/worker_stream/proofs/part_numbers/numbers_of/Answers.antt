-- The numbers of the file have their forms one after another, or one of them is at fault.
use Rattle.std.proofs.Common.{◌≡◌, ◌∙◌, ℕ, List, length, ap, refl, subst, sym}
use Rattle.std.specs.List.{filter}
use Rattle.std.specs.declared.alloc.Global.{Global}
use Rattle.std.specs.declared.vec.Vec.{Vec}
use Rattle.vert_base.specs.declared.graph.Edge.{Edge}
use Rattle.vert_base.specs.Neighbours.{source, target}
use Rattle.symple_face.specs.declared.degree.Degree.{Degree}
use Rattle.symple_face.specs.Parts.{ends_met, for_others, lists_of}
use Rattle.chunk_split.specs.Chunks.{vertices_of}
use Rattle.circulant_plan.specs.Ring.{lies_in}
use Rattle.mirror_table.proofs.PartsMade.{others_length}
use Rattle.worker_stream.specs.Answers.{AreDegrees, AreEdges}
use Rattle.worker_stream.specs.Numbers.{plain_numbers, plain_sections}
use Rattle.worker_stream.specs.PartFiles.{IsSound, file_of, part_in}
use Rattle.worker_stream.proofs.PartMaking.{FromPush, FromScan, degrees_asked, is_sound, part_is, push_asked, push_low, push_order, scan_asked, scan_low, scan_order}
use Rattle.worker_stream.proofs.SoundLaws.{fails}
use Rattle.worker_stream.proofs.part_numbers.numbers_of.Goals as goal

pub returns-in_err-scan : goal.returns-in_err-scan
returns-in_err-scan c =
    let f = file_of (plain_sections c.args.sections.now) in
    let frame = c.in_ok-frame.frame in
    let m = c.number-m.result in
    let h = c.in_ok-frame.ensures in
    fails (AreEdges frame.cuts m target source frame.edges f.scan) (IsSound f)
    (λ (v : Vec Edge Global). v.items ≡ f.scan) (λ n. plain_numbers n ≡ part_in f) c.in_err-scan.field-0.0 _
    (scan_asked f frame m h.frame.0 h.frame.1 h.count c.number-m.ensures.number) c.in_err-scan.ensures
    c.from_residual-in_err-scan.ensures.1

pub returns-in_err-push : goal.returns-in_err-push
returns-in_err-push c =
    let f = file_of (plain_sections c.args.sections.now) in
    let frame = c.in_ok-frame.frame in
    let m = c.number-m.result in
    let h = c.in_ok-frame.ensures in
    fails (AreEdges frame.cuts m source target frame.edges f.push) (IsSound f)
    (λ (v : Vec Edge Global). v.items ≡ f.push) (λ n. plain_numbers n ≡ part_in f) c.in_err-push.field-0.0 _
    (push_asked f frame m h.frame.0 h.frame.1 h.count c.number-m.ensures.number) c.in_err-push.ensures
    c.from_residual-in_err-push.ensures.1

pub mirrors_of-requires-clause-order : goal.mirrors_of-requires-clause-order
mirrors_of-requires-clause-order c =
    let f = file_of (plain_sections c.args.sections.now) in
    let h = c.in_ok-frame.ensures in
    scan_order f c.in_ok-frame.frame c.number-m.result h.frame.0 h.frame.1 h.count c.number-m.ensures.number
    c.deref.result.now (c.deref.ensures.value ∙ c.in_ok-scan.ensures.1) c.in_ok-scan.ensures.0

pub mirrors_of-requires-clause-below : goal.mirrors_of-requires-clause-below
mirrors_of-requires-clause-below c =
    let f = file_of (plain_sections c.args.sections.now) in
    let h = c.in_ok-frame.ensures in
    scan_low f c.in_ok-frame.frame c.number-m.result h.frame.0 h.frame.1 h.count c.number-m.ensures.number
    c.deref.result.now (c.deref.ensures.value ∙ c.in_ok-scan.ensures.1) c.in_ok-scan.ensures.0

pub mirrors_of-requires-2-clause-order : goal.mirrors_of-requires-2-clause-order
mirrors_of-requires-2-clause-order c =
    let f = file_of (plain_sections c.args.sections.now) in
    let h = c.in_ok-frame.ensures in
    push_order f c.in_ok-frame.frame c.number-m.result h.frame.0 h.frame.1 h.count c.number-m.ensures.number
    c.deref-2.result.now (c.deref-2.ensures.value ∙ c.in_ok-push.ensures.1) c.in_ok-push.ensures.0

pub mirrors_of-requires-2-clause-below : goal.mirrors_of-requires-2-clause-below
mirrors_of-requires-2-clause-below c =
    let f = file_of (plain_sections c.args.sections.now) in
    let h = c.in_ok-frame.ensures in
    push_low f c.in_ok-frame.frame c.number-m.result h.frame.0 h.frame.1 h.count c.number-m.ensures.number
    c.deref-2.result.now (c.deref-2.ensures.value ∙ c.in_ok-push.ensures.1) c.in_ok-push.ensures.0

pub degrees_of-requires-clause-lists : goal.degrees_of-requires-clause-lists
degrees_of-requires-clause-lists c =
    others_length c.in_ok-onward.onward.refresh.items c.deref-3.result.now _ c.number-m.result _
    c.deref-3.ensures.value c.in_ok-onward.ensures.refresh

pub degrees_of-requires-clause-sources : goal.degrees_of-requires-clause-sources
degrees_of-requires-clause-sources c =
    let f = file_of (plain_sections c.args.sections.now) in
    let h = c.in_ok-frame.ensures in
    let below = scan_low f c.in_ok-frame.frame c.number-m.result h.frame.0 h.frame.1 h.count c.number-m.ensures.number
    c.deref-4.result.now (c.deref-4.ensures.value ∙ c.in_ok-scan.ensures.1) c.in_ok-scan.ensures.0 in
    λ k d lt. (below k d lt).0

pub degrees_of-requires-clause-targets : goal.degrees_of-requires-clause-targets
degrees_of-requires-clause-targets c =
    let f = file_of (plain_sections c.args.sections.now) in
    let h = c.in_ok-frame.ensures in
    let below = push_low f c.in_ok-frame.frame c.number-m.result h.frame.0 h.frame.1 h.count c.number-m.ensures.number
    c.deref-5.result.now (c.deref-5.ensures.value ∙ c.in_ok-push.ensures.1) c.in_ok-push.ensures.0 in
    λ k d lt. (below k d lt).1

pub returns-in_err-degrees : goal.returns-in_err-degrees
returns-in_err-degrees c =
    let f = file_of (plain_sections c.args.sections.now) in
    let frame = c.in_ok-frame.frame in
    let m = c.number-m.result in
    let h = c.in_ok-frame.ensures in
    let scan_is = c.deref-4.ensures.value ∙ c.in_ok-scan.ensures.1 in
    let push_is = c.deref-5.ensures.value ∙ c.in_ok-push.ensures.1 in
    let made : FromScan target (lists_of c.deref-3.result.now) c.deref-4.result.now frame.cuts m 0 =
    ap lists_of c.deref-3.ensures.value
    ∙ (c.in_ok-onward.ensures.refresh
    ∙ ap (λ (es : List Edge). for_others (length frame.cuts) m (λ k. ends_met target (vertices_of frame.cuts)
    (filter (λ e. lies_in frame.cuts k (target e)) es))) (c.deref.ensures.value ∙ sym c.deref-4.ensures.value)) in
    fails
    (AreDegrees frame.cuts m (lists_of c.deref-3.result.now) c.deref-4.result.now c.deref-5.result.now f.degrees)
    (IsSound f) (λ (v : Vec Degree Global). v.items ≡ f.degrees) (λ n. plain_numbers n ≡ part_in f)
    c.in_err-degrees.field-0.0 _
    (degrees_asked f frame m h.frame.0 h.frame.1 h.count c.number-m.ensures.number _ c.deref-4.result.now
    c.deref-5.result.now scan_is push_is made)
    c.in_err-degrees.ensures c.from_residual-in_err-degrees.ensures.1

pub returns : goal.returns
returns c =
    let f = file_of (plain_sections c.args.sections.now) in
    let frame = c.in_ok-frame.frame in
    let m = c.number-m.result in
    let h = c.in_ok-frame.ensures in
    let scan_is = c.deref-4.ensures.value ∙ c.in_ok-scan.ensures.1 in
    let push_is = c.deref-5.ensures.value ∙ c.in_ok-push.ensures.1 in
    let scan_back : (end : Edge → ℕ) (lists : List (List ℕ)) → FromScan end lists c.deref.result.now frame.cuts m 0 →
    FromScan end lists c.in_ok-scan.scan.items frame.cuts m 0 = λ end lists made.
    subst (λ (es : List Edge). FromScan end lists es frame.cuts m 0) c.deref.ensures.value made in
    let push_back : (end : Edge → ℕ) (lists : List (List ℕ)) → FromPush end lists c.deref-2.result.now frame.cuts m 0 →
    FromPush end lists c.in_ok-push.push.items frame.cuts m 0 = λ end lists made.
    subst (λ (es : List Edge). FromPush end lists es frame.cuts m 0) c.deref-2.ensures.value made in
    let made : FromScan target (lists_of c.deref-3.result.now) c.deref-4.result.now frame.cuts m 0 =
    ap lists_of c.deref-3.ensures.value
    ∙ (c.in_ok-onward.ensures.refresh
    ∙ ap (λ (es : List Edge). for_others (length frame.cuts) m (λ k. ends_met target (vertices_of frame.cuts)
    (filter (λ e. lies_in frame.cuts k (target e)) es))) (c.deref.ensures.value ∙ sym c.deref-4.ensures.value)) in
    let sound = is_sound f frame m h.frame.0 h.frame.1 h.count c.number-m.ensures.number _ c.deref-4.result.now
    c.deref-5.result.now scan_is push_is made c.in_ok-scan.ensures.0 c.in_ok-push.ensures.0
    c.in_ok-degrees.ensures.0 in (
      sound,
      part_is f frame m h.frame.0 h.frame.1 h.count c.number-m.ensures.number _ sound refl refl refl refl
          c.in_ok-scan.ensures.1 c.in_ok-push.ensures.1 c.in_ok-degrees.ensures.1
          (push_back target _ c.in_ok-inward.ensures.refresh) (scan_back target _ c.in_ok-onward.ensures.refresh)
          (scan_back source _ c.in_ok-onward.ensures.push) (push_back source _ c.in_ok-inward.ensures.push),
    )
