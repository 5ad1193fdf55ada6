use Rattle.std.proofs.Common.{◌≡◌, ◌∙◌, ◌++◌, List, ap, map, refl, sym}
use Rattle.circulant_plan.specs.declared.spot.Spot.TheVariants.{Tell, Judge}
use Rattle.vert_base.specs.declared.message.Message.{Message}
use Rattle.vert_base.specs.Letters.{Letter, letter_of}
use Rattle.machine_core.specs.CoreState.{core_state}
use Rattle.machine_steps.specs.Going.{sent_from}
use Rattle.machine_core.proofs.GoLaws.{go_from, gone_sound, sent_by}
use Rattle.machine_core.proofs.SoundLaws.{steady}
use Rattle.machine_core.proofs.machine.Core.act_tell.Goals as goal

pub send_tally-requires-clause-count : goal.send_tally-requires-clause-count
send_tally-requires-clause-count c = (steady (core_state c.args.self.now) c.args.self.now.sound).rows

pub move_on-requires : goal.move_on-requires
move_on-requires c =
    let self = c.args.self.now in
    let s = core_state self in
    record {
      sound = gone_sound s s self.sound c.requires.ready (go_from s s Tell c.requires.at refl);
      judged = λ k e. let bad : Tell ≡ Judge k = sym c.requires.at ∙ e in absurd (cc);
    }

pub returns-clause-state : goal.returns-clause-state
returns-clause-state c =
    let s = core_state c.args.self.now in
    c.move_on.ensures ∙ go_from s s Tell c.requires.at refl

pub returns-clause-sent : goal.returns-clause-sent
returns-clause-sent c =
    let s = core_state c.args.self.now in
    c.send_tally.ensures
    ∙ ap (λ (ms : List Message). map letter_of ms ++ sent_from s Tell) c.in_ok-reserve.ensures.items
    ∙ ap (λ (ls : List Letter). map letter_of c.args.out.now.items ++ ls) (sym (sent_by s Tell c.requires.at))
