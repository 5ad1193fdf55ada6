-- The environment in which the row of a vertex before the first round is worked out.
use Rattle.std.proofs.Common.{◌≡◌, ℕ, [], sym, ap, ◌∙◌}
use Rattle.vert_eval.specs.declared.environment.Env.{Env}
use Rattle.vert_eval.specs.Rounds.{empty_row}
use Rattle.symple_face.specs.declared.degree.Degree.{Degree}
use Rattle.symple_face.specs.CoreSight.{degree_of, part_sight}
use Rattle.symple_face.specs.Parts.{PlainPart}
use Rattle.symple_face.specs.Sight.{Sight}
use Rattle.machine_parts.specs.Entering.{IsReadyFor}
use Rattle.vert_eval.specs.SourceRun.{with_row}
use Rattle.vertex_work.specs.Firsts.{IsBlank}

abbrev pub blank_sight : PlainPart → Sight
blank_sight part = part_sight part 0 [] (λ v. empty_row)

module _ (part : PlainPart) (env cleared : Env) (v w : ℕ) (degree : Degree) where
  pub ready : IsBlank part env → cleared ≡ with_row empty_row env → degree ≡ degree_of part w → v ≡ w →
      IsReadyFor (blank_sight part) v degree [] cleared
  ready blank is known same =
      let here : degree ≡ degree_of part v = known ∙ ap (degree_of part) (sym same) in
      record {
        n = ap (λ (e : Env). e.n) is ∙ blank.n;
        round = ap (λ (e : Env). e.round) is ∙ blank.round;
        draws = ap (λ (e : Env). e.draws) is ∙ blank.draws;
        totals = ap (λ (e : Env). e.totals.items) is ∙ blank.totals;
        slots = ap (λ (e : Env). e.slots.items) is ∙ blank.slots;
        row = ap (λ (e : Env). e.row) is;
        other = ap (λ (e : Env). e.other_row) is;
        ins = ap (λ (d : Degree). d.ins) here;
        outs = ap (λ (d : Degree). d.outs) here;
      }
