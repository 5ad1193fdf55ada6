use Rattle.std.proofs.Common.{◌≡◌, ◌∙◌, ap, sym, refl, lit<, List, ℕ}
use Rattle.vert_base.specs.declared.message.NameKind.TheVariants.{Verdict}
use Rattle.vert_base.specs.declared.value.Ruling.{Ruling}
use Rattle.vert_base.specs.Letters.{letter_of, placed}
use Rattle.circulant_plan.specs.Standing.{Standing, ruled_standing}
use Rattle.double_buffer.specs.Held.{Held}
use Rattle.symple_face.specs.CoreWork.{core_take}
use Rattle.symple_face.specs.State.{ruling_read}
use Rattle.machine_core.specs.CoreState.{core_state}
use Rattle.machine_core.proofs.TakeLaws.{can_join, can_put, joined, taken_by, took}
use Rattle.machine_core.proofs.machine.Core.learn.Goals as goal

pub put-requires : goal.put-requires
put-requires c =
    let self = c.args.self.now in
    let s = core_state self in
    let l = letter_of c.args.msg in
    let takes = c.requires.takes in
    (lit< tt, (can_put s l takes self.held self.buffer, (takes.new, can_join s l takes self.held self.buffer)))

pub invariant_of-self-clause-sound : goal.invariant_of-self-clause-sound
invariant_of-self-clause-sound c =
    let self = c.args.self.now in
    let s = core_state self in
    let l = letter_of c.args.msg in
    let at : Standing = record { spot = c.spot_ruled-self.result; round = s.at.round } in
    let rr : Ruling = c.ruling_of-self.result in
    let told : rr ≡ ruling_read l.body =
    c.ruling_of-self.ensures 0 ∙ ap (λ (body : List ℕ). ruling_read body) c.deref.ensures.value in
    let now : record s { at = at; ruling = rr; held = c.put.new.self.letters } ≡ core_take s l =
    ap (λ (h : Held). record s { at = at; ruling = rr; held = h.letters }) c.put.ensures
    ∙ ap (λ (st : Standing). record s { at = st; ruling = rr; held = placed l s.held })
    (sym (c.spot_ruled-self.ensures.stands s.at.round))
    ∙ ap (λ (r : Ruling). record s { at = ruled_standing r s.at; ruling = r; held = placed l s.held }) told
    ∙ sym (taken_by s l Verdict c.requires.kind) in
    took s (record s { at = at; ruling = rr; held = c.put.new.self.letters }) l self.sound c.requires.takes now

pub invariant_of-self-clause-buffer : goal.invariant_of-self-clause-buffer
invariant_of-self-clause-buffer c =
    let self = c.args.self.now in
    let l = letter_of c.args.msg in
    joined (core_state self) l c.requires.takes self.held self.buffer l c.put.new.self c.spot_ruled-self.result refl
    c.put.ensures

pub invariant_of-self-clause-spare : goal.invariant_of-self-clause-spare
invariant_of-self-clause-spare c = λ first. c.args.self.now.spare (c.spot_ruled-self.ensures.first first)

pub returns : goal.returns
returns c =
    let self = c.args.self.now in
    let s = core_state self in
    let l = letter_of c.args.msg in
    let at : Standing = record { spot = c.spot_ruled-self.result; round = s.at.round } in
    let rr : Ruling = c.ruling_of-self.result in
    let told : rr ≡ ruling_read l.body =
    c.ruling_of-self.ensures 0 ∙ ap (λ (body : List ℕ). ruling_read body) c.deref.ensures.value in
    let now : record s { at = at; ruling = rr; held = c.put.new.self.letters } ≡ core_take s l =
    ap (λ (h : Held). record s { at = at; ruling = rr; held = h.letters }) c.put.ensures
    ∙ ap (λ (st : Standing). record s { at = st; ruling = rr; held = placed l s.held })
    (sym (c.spot_ruled-self.ensures.stands s.at.round))
    ∙ ap (λ (r : Ruling). record s { at = ruled_standing r s.at; ruling = r; held = placed l s.held }) told
    ∙ sym (taken_by s l Verdict c.requires.kind) in
    now
