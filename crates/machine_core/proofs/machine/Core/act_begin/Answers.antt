use Rattle.std.proofs.Common.{◌≡◌, ◌∙◌, ◌++◌, List, ap, length, map, refl, sym, arith}
use Rattle.std.proofs.lemmas.Bool.{eqb-true}
use Rattle.circulant_plan.specs.declared.spot.Spot.TheVariants.{Judge, Begin}
use Rattle.vert_base.specs.Letters.{Letter, letter_of}
use Rattle.symple_face.specs.CoreSparse.{begin_go}
use Rattle.symple_face.specs.PartViews.{plain_of}
use Rattle.symple_face.specs.State.{State, machine}
use Rattle.machine_core.specs.CoreState.{core_state}
use Rattle.vertex_work.specs.Shown.{Shows}
use Rattle.machine_core.proofs.GoLaws.{begin_low, go_from, gone_sound, round_at}
use Rattle.machine_core.proofs.SoundLaws.{steady}
use Rattle.machine_core.proofs.TotalsLaws.{known_count}
use Rattle.machine_core.proofs.machine.Core.act_begin.Goals as goal

pub begin_messages-requires : goal.begin_messages-requires
begin_messages-requires c =
    let self = c.args.self.now in
    let s = core_state self in
    let r = c.args.round in
    let k = steady s self.sound in
    let same : self.round ≡ r = round_at s (Begin r) self.sound c.requires.at in
    let low = begin_low s r self.sound c.requires.at c.requires.ready in
    let some = low.0 in
    record {
      rows = record {
        count = k.rows;
        width = self.wide.rows;
        sums = ap length (c.as_slice.ensures.value ∙ c.totals-totals.ensures)
            ∙ known_count s (λ zeroth. self.summed (omega arith) (eqb-true (machine s) 0 zeroth));
      };
      round = low.1;
    }

pub begin_round-requires : goal.begin_round-requires
begin_round-requires c =
    let self = c.args.self.now in
    let s = core_state self in
    let r = c.args.round in
    let same : self.round ≡ r = round_at s (Begin r) self.sound c.requires.at in
    let low = begin_low s r self.sound c.requires.at c.requires.ready in
    let some = low.0 in
    let few = low.1 in
    record { spot = c.requires.at ∙ ap Begin (sym same); low = omega arith; some = omega arith }

pub move_on-requires : goal.move_on-requires
move_on-requires c =
    let self = c.args.self.now in
    let s = core_state self in
    let mid = core_state c.begin_round.new.self in
    let r = c.args.round in
    let same : self.round ≡ r = round_at s (Begin r) self.sound c.requires.at in
    let acted : mid ≡ begin_go s r = c.begin_round.ensures ∙ ap (begin_go s) same in
    record {
      sound = gone_sound s mid self.sound c.requires.ready (go_from s mid (Begin r) c.requires.at acted);
      judged = λ k e.
          let bad : Begin r ≡ Judge k = sym c.requires.at ∙ sym (ap (λ (t : State). t.at.spot) acted) ∙ e in
          absurd (cc);
    }

pub returns-clause-state : goal.returns-clause-state
returns-clause-state c =
    let self = c.args.self.now in
    let s = core_state self in
    let mid = core_state c.begin_round.new.self in
    let r = c.args.round in
    let same : self.round ≡ r = round_at s (Begin r) self.sound c.requires.at in
    let acted : mid ≡ begin_go s r = c.begin_round.ensures ∙ ap (begin_go s) same in
    c.move_on.ensures ∙ go_from s mid (Begin r) c.requires.at acted

pub returns-clause-sent : goal.returns-clause-sent
returns-clause-sent c =
    let self = c.args.self.now in
    let s = core_state self in
    let shows : Shows (plain_of self.ground.part) s.split c.as_slice.result.now s.rows s = record {
      part = refl;
      split = refl;
      totals = sym (c.as_slice.ensures.value ∙ c.totals-totals.ensures);
      rows = refl;
    } in
    c.in_ok-hand.ensures.handed
    ∙ ap (λ (ls : List Letter). map letter_of c.args.out.now.items ++ ls)
    (c.in_ok-sent.ensures s shows c.requires.at refl)
