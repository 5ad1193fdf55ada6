use Rattle.std.proofs.Common.{◌≡◌, ◌∙◌, ◌+◌, ◌++◌, ◌∷◌, [], ap, sym, length, arith}
use Rattle.delivery_log.specs.ScheduleTexts.{last_round, round_after, schedule_lines, schedule_text}
use Rattle.delivery_log.proofs.ReadLaws.{count_more, is_more, left_small, round_more, schedule_more}
use Rattle.delivery_log.proofs.read.read_schedule.Goals as goal

pub events-preserved : goal.events-preserved
events-preserved c =
    let form = c.in-Some.form in
    let machines = c.in-Some.machines in
    let held = c.events.held in
    let es = c.events.events.items in
    let e = c.in-Some-event_at.event in
    let rest = c.events.rest.now in
    let behind = c.in-Some-event_at.behind.now in
    let read = c.in-Some-event_at.ensures in
    let kept = c.events.invariant in
    let items : c.push.new.self.items ≡ es ++ e ∷ [] = c.in_ok-push.ensures.items in
    let small = left_small form held e rest behind read.spelled in
    let less = small.1 in
    let lines = read.lines in
    record {
      is = is_more form machines es c.push.new.self.items e kept.is read.event items;
      spelled = schedule_more form machines held es e c.args.text.now rest behind kept.held kept.spelled read.spelled
          ∙ ap (λ q. schedule_text form machines q ++ behind) (sym items);
      held = c.round_after-held.ensures ∙ (ap (λ q. round_after q e) kept.held
          ∙ (sym (round_more 0 es e) ∙ ap (last_round 0) (sym items)));
      counted = count_more form machines held es e c.events.number c.in-Some-event_at.lines kept.held kept.counted
          lines ∙ ap (λ q. length (schedule_lines form machines q) + 1) (sym items);
      fits = kept.fits;
      few = omega (arith, kept.few, less, lines);
    }
