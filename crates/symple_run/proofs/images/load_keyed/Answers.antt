use Rattle.std.proofs.Common.{◌≡◌, ◌∙◌, List, ℕ, ap, subst}
use Rattle.check_point.specs.Keys.{key_of}
use Rattle.command_steps.specs.States.{shelf_state}
use Rattle.command_steps.specs.Walks.{HasBoth}
use Rattle.edge_reader.specs.Gives.{graph_of_edges}
use Rattle.symple_words.specs.Views.{job_view}
use Rattle.symple_run.proofs.images.load_keyed.Goals as goal

pub returns-clause-both : goal.returns-clause-both
returns-clause-both g c =
    let job = job_view c.args.job.now in
    let old = shelf_state g.H.Shelf.files g.H.Shelf.loads g.H.Shelf.stores c.args.shelf.now in
    let new = shelf_state g.H.Shelf.files g.H.Shelf.loads g.H.Shelf.stores c.load_sources.new.shelf in
    let read = c.in_ok-program.field-0 in
    let T : List ℕ → List ℕ → Type 0 = λ name of.
    (has : HasBoth old new name job.form of read.typed (graph_of_edges read.edges))
    × (has.has_program.text ≡ read.program.items) × (has.has_graph.bytes ≡ read.graph.items) in
    let P : List ℕ → Type 0 = λ name. T name c.deref-2.result.now in
    let Q : List ℕ → Type 0 = λ of. T job.program of in
    let has = subst Q c.deref-2.ensures (subst P c.deref.ensures c.in_ok-program.ensures.both) in
    let text : c.deref-3.result.now ≡ has.0.has_program.text = cc (c.deref-3.ensures.value, has.1) in
    let bytes : c.deref-4.result.now ≡ has.0.has_graph.bytes = cc (c.deref-4.ensures.value, has.2) in
    let form = job.form in (
      has.0,
      c.key-key.ensures
          ∙ ap (λ (t : List ℕ). key_of t c.deref-4.result.now form.vertices c.flags_of-flags.result c.args.machines
          job.draws) text
          ∙ ap (λ (b : List ℕ). key_of has.0.has_program.text b form.vertices c.flags_of-flags.result c.args.machines
          job.draws) bytes
          ∙ ap (λ (f : ℕ). key_of has.0.has_program.text has.0.has_graph.bytes form.vertices f c.args.machines
          job.draws)
          c.flags_of-flags.ensures,
    )
