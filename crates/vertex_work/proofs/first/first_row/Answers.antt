use Rattle.std.proofs.Common.{◌≡◌, ℤ, List, map, length, ap, ◌∙◌, false}
use Rattle.std.proofs.lemmas.List.{length-map}
use Rattle.vert_tree.specs.Places.{expr_placed}
use Rattle.vert_eval.specs.declared.environment.Env.{Env}
use Rattle.vert_eval.specs.SourceRun.{with_row}
use Rattle.vert_eval.specs.Values.{counts_of, value_of}
use Rattle.vert_eval.specs.Words.{is_set}
use Rattle.vertex_work.proofs.first.first_row.Goals as goal

pub holds-requires-clause-names : goal.holds-requires-clause-names
holds-requires-clause-names c =
    let p = c.args.program.now in
    let env = c.args.env.now in
    let len = ap length c.field_words.ensures
    ∙ length-map c.deref.result.now (λ d. value_of d.value env) ∙ ap length c.deref.ensures.value in
    ap (λ (e : Env). expr_placed (counts_of e) p.start) c.show_row.ensures
    ∙ ap (λ n. expr_placed (record (counts_of env) { fields = n; other_fields = n }) p.start) len
    ∙ c.requires.start

pub returns-clause-row : goal.returns-clause-row
returns-clause-row c =
    let p = c.args.program.now in
    let env = c.args.env.now in
    let words : c.field_words.result.items ≡ map (λ d. value_of d.value env) p.fields.items =
    c.field_words.ensures ∙ ap (map (λ d. value_of d.value env)) c.deref.ensures.value in
    let active = c.holds.ensures
    ∙ ap (λ (e : Env). is_set (value_of p.start e)) c.show_row.ensures
    ∙ ap (λ (ws : List ℤ). is_set (value_of p.start
    (with_row (record { words = record { items = ws }; active = false }) env))) words in
    λ j. record { words = record { items = words j }; active = active j }
