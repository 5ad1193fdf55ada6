use Rattle.std.proofs.Common.{map, length, ap, ◌∙◌, arith}
use Rattle.std.specs.List.{list_all}
use Rattle.std.proofs.Math.ListN.{length-map}
use Rattle.vert_tree.specs.Places.{expr_placed}
use Rattle.vert_eval.specs.Values.{counts_of, value_of}
use Rattle.plain_run.specs.Jobs.{job_of}
use Rattle.plain_run.proofs.StartLaws.{entered_counts, first_row_is}
use Rattle.vert_tree.proofs.TypedLaws.{few_fields, fields_placed, start_placed}
use Rattle.plain_run.proofs.start.first_row.Goals as goal

pub field_words-requires-clause-room : goal.field_words-requires-clause-room
field_words-requires-clause-room c =
    omega (
      arith,
      few_fields c.args.job.now.program.now.program c.args.job.now.program.now.typed,
      ap length c.deref.ensures.value,
    )

pub field_words-requires-clause-names : goal.field_words-requires-clause-names
field_words-requires-clause-names c =
    let p = c.args.job.now.program.now.program in
    ap (list_all (λ d. expr_placed (counts_of c.enter_vertex.new.env) d.value)) c.deref.ensures.value
    ∙ (ap (λ e. list_all (λ d. expr_placed (counts_of e) d.value) p.fields.items) c.enter_vertex.ensures.env
    ∙ fields_placed p c.args.job.now.program.now.typed)

pub holds-requires-clause-names : goal.holds-requires-clause-names
holds-requires-clause-names c =
    let j = job_of c.args.job.now in
    let p = c.args.job.now.program.now.program in
    let wide = ap length c.field_words.ensures
    ∙ (length-map c.deref.result.now (λ d. value_of d.value c.enter_vertex.new.env)
    ∙ ap length c.deref.ensures.value) in
    ap (λ k. expr_placed k p.start) (entered_counts j c.args.v c.enter_vertex.new.env c.enter_row.new.env
    c.field_words.result.items c.enter_vertex.ensures.env c.enter_row.ensures wide)
    ∙ start_placed p c.args.job.now.program.now.typed

pub returns : goal.returns
returns c =
    let j = job_of c.args.job.now in
    let words = c.field_words.ensures ∙ ap (map (λ d. value_of d.value c.enter_vertex.new.env)) c.deref.ensures.value in
    first_row_is j c.args.v c.enter_vertex.new.env c.enter_row.new.env c.field_words.result.items c.holds.result
    c.enter_vertex.ensures.env words c.enter_row.ensures c.holds.ensures
