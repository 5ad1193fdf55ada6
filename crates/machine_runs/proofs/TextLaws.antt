-- The texts of an event in front of those behind it.
use Rattle.std.proofs.Common.{◌≡◌, ◌++◌, ℕ, List, ◌∷◌, ap, append_assoc, sym, ◌∙◌}
use Rattle.machine_runs.specs.PlainPlays.{log_line}
use Rattle.schedule_laws.specs.Layout.{lines_of, round_lines, table_of, text_of}
use Rattle.symple_face.specs.Cluster.{World, after, step}
use Rattle.symple_face.specs.Work.{Work}
use Rattle.symple_words.specs.declared.line.Lines.{Lines}
use Rattle.vert_base.specs.declared.message.Event.{Event}

pub text_behind : (work : Work) (lines : Lines) (w : World) (e : Event) (es : List Event) (text : List ℕ) →
    text ≡ text_of work lines (step work w e) es →
    log_line lines w e ++ (round_lines work lines w e ++ text) ≡ text_of work lines w (e ∷ es)
text_behind work lines w e es text is =
    let rest = text_of work lines (step work w e) es in
    let round = round_lines work lines w e in
    ap (λ (t : List ℕ). log_line lines w e ++ (round ++ t)) is
    ∙ sym (append_assoc (log_line lines w e) round rest)
    ∙ sym (append_assoc (log_line lines w e ++ round) (lines_of work lines (step work w e) es)
    (table_of work (after work (step work w e) es)))
