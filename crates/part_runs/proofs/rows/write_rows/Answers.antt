-- A header stands before the lines of machine 0 alone.
use Rattle.std.proofs.Common.{◌≡◌, ℕ, ap, sym, ◌∙◌}
use Rattle.std.specs.Prelude.{◌==◌}
use Rattle.std.proofs.lemmas.Bool.{ne_eqb}
use Rattle.array_text.proofs.WritesLaws.{writes_same}
use Rattle.symple_face.specs.Parts.{PlainPart}
use Rattle.symple_face.specs.State.{machine}
use Rattle.part_runs.proofs.RowLaws.{file_first, file_later}
use Rattle.part_runs.proofs.rows.write_rows.Goals as goal

pub returns-then-number-eq0 : goal.returns-then-number-eq0
returns-then-number-eq0 g c =
    let s = g.S.Site.state c.args.site.now in
    let at : c.number.result ≡ machine s =
    c.number.ensures.number ∙ ap (λ (p : PlainPart). p.at.machine) c.part.ensures.part in
    writes_same (file_first g.S.Site.work s (ap (λ (n : ℕ). n == 0) (sym at ∙ c.if-number-eq0.true)))
    c.write_table.ensures

pub returns : goal.returns
returns g c =
    let s = g.S.Site.state c.args.site.now in
    let at : c.number.result ≡ machine s =
    c.number.ensures.number ∙ ap (λ (p : PlainPart). p.at.machine) c.part.ensures.part in
    writes_same (file_later g.S.Site.work s (ne_eqb (machine s) 0 (λ zero. c.if-number-eq0.false (at ∙ zero))))
    c.write_lines.ensures
