use Rattle.std.proofs.Common.{◌≡◌, ◌++◌, ◌∷◌, [], ◌∙◌, refl, ap, length, arith, List, ℕ}
use Rattle.delivery_log.specs.declared.form.Form.TheVariants.{Roundless}
use Rattle.delivery_log.specs.ScheduleTexts.{schedule_text, text_of}
use Rattle.std.specs.Prelude.{decimal}
use Rattle.delivery_log.proofs.RecordLaws.{begun_small}
use Rattle.delivery_log.proofs.recorder.Recorder.new.Goals as goal

pub returns : goal.returns
returns c =
    let machines = c.args.machines in
    let spelled : c.push_line.new.bytes.items ≡ schedule_text Roundless machines [] =
    c.in_ok-push_line.ensures ∙ ap (λ (t : List ℕ). t ++ text_of ((c.header.result.now ++ decimal c.from.result) ∷ []))
    c.new-text.ensures.items
    ∙ ap (λ (word : List ℕ). text_of ((word ++ decimal c.from.result) ∷ [])) c.header.ensures
    ∙ ap (λ (n : ℕ). schedule_text Roundless n []) c.from.ensures in
    let small = begun_small machines c.requires.1 in
    record {
      some = c.requires.0;
      few = c.requires.1;
      fits = omega (arith, ap length spelled, small);
      spelled = spelled;
      held = refl;
    }
