use Rattle.std.proofs.Common.{List, ℕ, Option, Some, subst}
use Rattle.std.specs.Prelude.{option_map}
use Rattle.std.proofs.lemmas.Result.{err_from_is_err_and}
use Rattle.command_steps.specs.Commands.{image_name, origin_of, play_of}
use Rattle.command_steps.specs.Faults.{fault_of}
use Rattle.command_steps.specs.Leaves.{Leaves}
use Rattle.command_steps.specs.Orders.{Order, Resumed, Runs, Tries, follows}
use Rattle.command_steps.specs.States.{Left, outside, shelf_state, sink_state}
use Rattle.command_steps.specs.Walks.{fault_after}
use Rattle.command_steps.proofs.FileLaws.{try_stops}
use Rattle.command_steps.proofs.WalkLaws.{both_go, both_stop}
use Rattle.edge_reader.specs.EdgeList.{Graph}
use Rattle.edge_reader.specs.Gives.{graph_of_edges}
use Rattle.symple_face.specs.Work.{plain_start}
use Rattle.symple_run.specs.Played.{IsPlayed}
use Rattle.symple_run.specs.Resumes.{Tells}
use Rattle.symple_run.proofs.ResumeLaws.{found_goes, ready_by}
use Rattle.symple_words.specs.Views.{job_view}
use Rattle.vert_base.specs.declared.limits.TheConstants.{IMAGE_BYTES}
use Rattle.vert_tree.specs.declared.program.Program.{Program}
use Rattle.vert_tree.specs.declared.typed.Typed.{Typed}
use Rattle.symple_run.proofs.top.resume.Goals as goal

pub returns-in_err-keyed-clause-order : goal.returns-in_err-keyed-clause-order
returns-in_err-keyed-clause-order g c =
    let job = job_view c.args.job.now in
    let image = c.args.image.now in
    let next : List ℕ → Program → List ℕ → Graph → Order = λ text program bytes graph.
    Tries (image_name image 0) IMAGE_BYTES (λ even. Tries (image_name image 1) IMAGE_BYTES (λ odd.
    Runs (Resumed (play_of job c.args.machines program graph) (origin_of job text bytes) even odd) follows)) in
    let old = shelf_state g.H.Shelf.files g.H.Shelf.loads g.H.Shelf.stores c.args.shelf.now in
    let new = shelf_state g.H.Shelf.files g.H.Shelf.loads g.H.Shelf.stores c.load_keyed.new.shelf in
    let p = err_from_is_err_and c.from_residual.result c.from_residual.ensures.1 in
    rw (p.1, p.2) (λ input. both_stop (IsPlayed g.S.Site.work) old new job.program job.form job.graph
    (fault_of c.in_err-keyed.field-0.0) c.in_err-keyed.ensures.both next _ input)

pub returns-in_err-even-clause-order : goal.returns-in_err-even-clause-order
returns-in_err-even-clause-order g c =
    let job = job_view c.args.job.now in
    let image = c.args.image.now in
    let keyed = c.in_ok-keyed.keyed in
    let has = c.in_ok-keyed.ensures.both.0 in
    let runs : Option (List ℕ) → Option (List ℕ) → Order = λ even odd.
    Runs (Resumed (play_of job c.args.machines keyed.typed.program (graph_of_edges keyed.edges))
    (origin_of job has.has_program.text has.has_graph.bytes) even odd) follows in
    let next : List ℕ → Program → List ℕ → Graph → Order = λ text program bytes graph.
    Tries (image_name image 0) IMAGE_BYTES (λ even. Tries (image_name image 1) IMAGE_BYTES (λ odd.
    Runs (Resumed (play_of job c.args.machines program graph) (origin_of job text bytes) even odd) follows)) in
    let old = shelf_state g.H.Shelf.files g.H.Shelf.loads g.H.Shelf.stores c.args.shelf.now in
    let mid = shelf_state g.H.Shelf.files g.H.Shelf.loads g.H.Shelf.stores c.load_keyed.new.shelf in
    let new = shelf_state g.H.Shelf.files g.H.Shelf.loads g.H.Shelf.stores c.find_start.new.shelf in
    let out = sink_state g.O.Sink.held g.O.Sink.faults g.O.Sink.spare c.args.out.now in
    let fault = fault_of c.in_err-even.field-0.0 in
    let p = err_from_is_err_and c.from_residual-in_err-even.result c.from_residual-in_err-even.ensures.1 in
    rw (p.1, p.2) (λ input. both_go (IsPlayed g.S.Site.work) old mid job.program job.form job.graph keyed.typed
    (graph_of_edges keyed.edges) has next out input (outside new out input) (Some fault)
    (try_stops (IsPlayed g.S.Site.work) mid new (image_name image 0) IMAGE_BYTES fault c.in_err-even.ensures.found
    (λ even. Tries (image_name image 1) IMAGE_BYTES (runs even)) out input))

pub returns-in_err-odd-clause-order : goal.returns-in_err-odd-clause-order
returns-in_err-odd-clause-order g c =
    let job = job_view c.args.job.now in
    let image = c.args.image.now in
    let keyed = c.in_ok-keyed.keyed in
    let has = c.in_ok-keyed.ensures.both.0 in
    let runs : Option (List ℕ) → Option (List ℕ) → Order = λ even odd.
    Runs (Resumed (play_of job c.args.machines keyed.typed.program (graph_of_edges keyed.edges))
    (origin_of job has.has_program.text has.has_graph.bytes) even odd) follows in
    let next : List ℕ → Program → List ℕ → Graph → Order = λ text program bytes graph.
    Tries (image_name image 0) IMAGE_BYTES (λ even. Tries (image_name image 1) IMAGE_BYTES (λ odd.
    Runs (Resumed (play_of job c.args.machines program graph) (origin_of job text bytes) even odd) follows)) in
    let old = shelf_state g.H.Shelf.files g.H.Shelf.loads g.H.Shelf.stores c.args.shelf.now in
    let mid = shelf_state g.H.Shelf.files g.H.Shelf.loads g.H.Shelf.stores c.load_keyed.new.shelf in
    let then = shelf_state g.H.Shelf.files g.H.Shelf.loads g.H.Shelf.stores c.find_start.new.shelf in
    let new = shelf_state g.H.Shelf.files g.H.Shelf.loads g.H.Shelf.stores c.find_start-2.new.shelf in
    let out = sink_state g.O.Sink.held g.O.Sink.faults g.O.Sink.spare c.args.out.now in
    let fault = fault_of c.in_err-odd.field-0.0 in
    let even = c.in_ok-even.ensures.found in
    let p = err_from_is_err_and c.from_residual-in_err-odd.result c.from_residual-in_err-odd.ensures.1 in
    rw (p.1, p.2) (λ input. both_go (IsPlayed g.S.Site.work) old mid job.program job.form job.graph keyed.typed
    (graph_of_edges keyed.edges) has next out input (outside new out input) (Some fault)
    (found_goes (IsPlayed g.S.Site.work) mid then (image_name image 0) even.file even.tried
    (λ file. Tries (image_name image 1) IMAGE_BYTES (runs file)) out input (outside new out input) (Some fault)
    (try_stops (IsPlayed g.S.Site.work) then new (image_name image 1) IMAGE_BYTES fault c.in_err-odd.ensures.found
    (runs even.file) out input)))

pub play_resumed-requires-clause-ready : goal.play_resumed-requires-clause-ready
play_resumed-requires-clause-ready g c =
    let keyed = c.in_ok-keyed.keyed in
    let even = c.in_ok-even.ensures.found in
    let odd = c.in_ok-odd.ensures.found in
    ready_by c.split_of-split.result keyed.edges.vertices keyed.key even.file odd.file
    (option_map plain_start c.in_ok-even.even) (option_map plain_start c.in_ok-odd.odd) even.tells odd.tells
    c.images_read_back.ensures.ready c.later_of-start.result c.later_of-start.ensures

pub returns-clause-order : goal.returns-clause-order
returns-clause-order g c =
    let work = g.S.Site.work in
    let job = job_view c.args.job.now in
    let image = c.args.image.now in
    let machines = c.args.machines in
    let keyed = c.in_ok-keyed.keyed in
    let graph = graph_of_edges keyed.edges in
    let has = c.in_ok-keyed.ensures.both in
    let origin = origin_of job has.0.has_program.text has.0.has_graph.bytes in
    let runs : Option (List ℕ) → Option (List ℕ) → Order = λ even odd.
    Runs (Resumed (play_of job machines keyed.typed.program graph) origin even odd) follows in
    let next : List ℕ → Program → List ℕ → Graph → Order = λ text program bytes edges.
    Tries (image_name image 0) IMAGE_BYTES (λ even. Tries (image_name image 1) IMAGE_BYTES (λ odd.
    Runs (Resumed (play_of job machines program edges) (origin_of job text bytes) even odd) follows)) in
    let old = shelf_state g.H.Shelf.files g.H.Shelf.loads g.H.Shelf.stores c.args.shelf.now in
    let mid = shelf_state g.H.Shelf.files g.H.Shelf.loads g.H.Shelf.stores c.load_keyed.new.shelf in
    let then = shelf_state g.H.Shelf.files g.H.Shelf.loads g.H.Shelf.stores c.find_start.new.shelf in
    let new = shelf_state g.H.Shelf.files g.H.Shelf.loads g.H.Shelf.stores c.find_start-2.new.shelf in
    let out = sink_state g.O.Sink.held g.O.Sink.faults g.O.Sink.spare c.args.out.now in
    let end = sink_state g.O.Sink.held g.O.Sink.faults g.O.Sink.spare c.play_resumed.new.out in
    let outcome = fault_after c.play_resumed.result in
    let even = c.in_ok-even.ensures.found in
    let odd = c.in_ok-odd.ensures.found in
    let first = option_map plain_start c.in_ok-even.even in
    let second = option_map plain_start c.in_ok-odd.odd in
    let A : List ℕ → Type 0 = λ key. Tells c.split_of-split.result keyed.edges.vertices key even.file first in
    let B : List ℕ → Type 0 = λ key. Tells c.split_of-split.result keyed.edges.vertices key odd.file second in
    let P : Left → Typed → Type 0 = λ input typed.
    Leaves (IsPlayed work) (Runs (Resumed (play_of job machines typed.program graph) origin even.file odd.file) follows)
    (outside new out input) (outside new end input) outcome in
    λ input. both_go (IsPlayed work) old mid job.program job.form job.graph keyed.typed graph has.0 next out input
    (outside new end input) outcome
    (found_goes (IsPlayed work) mid then (image_name image 0) even.file even.tried
    (λ file. Tries (image_name image 1) IMAGE_BYTES (runs file)) out input (outside new end input) outcome
    (found_goes (IsPlayed work) then new (image_name image 1) odd.file odd.tried (runs even.file) out input
    (outside new end input) outcome
    (subst (P input) c.split_of-split.ensures
    (c.play_resumed.ensures origin even.file odd.file first second (subst A has.1 even.tells) (subst B has.1 odd.tells)
    c.later_of-start.ensures new input))))
