use Rattle.std.proofs.Common.{◌<◌, ◌+◌, length, get_or, sym, ap, ◌∙◌, arith}
use Rattle.std.proofs.lemmas.List.{get_or_default}
use Rattle.vert_tree.specs.Places.{body_placed}
use Rattle.vert_eval.specs.Rounds.{loop, member_act}
use Rattle.plain_run.specs.Views.{scene_of}
use Rattle.plain_run.proofs.RunLaws.{turn_ends, SameEnd-trans, SameCounts-trans}
use Rattle.plain_run.proofs.TurnLaws.{some_edge, broken_reads, turn_reads}
use Rattle.plain_run.proofs.dense.run_members.Goals as goal

pub visit-requires-clause-names : goal.visit-requires-clause-names
visit-requires-clause-names c =
    let names = c.requires.names in (
      names.0,
      ap (λ k. body_placed names.0 k c.args.body.now) c.loop-member.invariant.kept.counts ∙ names.1,
    )

pub returns-in-Broke-clause-reads : goal.returns-in-Broke-clause-reads
returns-in-Broke-clause-reads c =
    let l = c.loop-member in
    let scene = scene_of c.args.scene.now in
    let body = c.args.body.now in
    let members = c.args.members.now in
    let m = get_or members l.member-index some_edge in
    let lt : l.member-index < length members = omega arith in
    let at = get_or_default members l.member-index some_edge m lt in
    rw l.invariant.read (broken_reads scene body members l.member-index m l.env lt at
    (loop scene body members c.args.env.now).reads (sym c.in-Broke.is ∙ c.visit.ensures.flow) l.invariant.reads)

pub loop-member-preserved : goal.loop-member-preserved
loop-member-preserved c =
    let l = c.loop-member in
    let h = c.visit.ensures in
    let scene = scene_of c.args.scene.now in
    let body = c.args.body.now in
    let members = c.args.members.now in
    let m = get_or members l.member-index some_edge in
    let lt : l.member-index < length members = omega arith in
    let at = get_or_default members l.member-index some_edge m lt in
    let ends = turn_ends (member_act scene body) members l.member-index m l.env lt at c.visit.new.env
    l.emits.slots.items c.visit.new.emits.slots.items h.env (sym c.in-Going.is ∙ h.flow) h.emits h.kept.key in
    record {
      ends = SameEnd-trans _ _ _ _ _ _ _ _ _ ends l.invariant.ends;
      read = ap (λ k. k + 1) l.invariant.read;
      reads = turn_reads scene body members l.member-index m l.env lt at c.visit.new.env
          (loop scene body members c.args.env.now).reads h.env (sym c.in-Going.is ∙ h.flow) l.invariant.reads;
      kept = SameCounts-trans _ _ _ l.invariant.kept h.kept;
      partials = h.partials ∙ l.invariant.partials;
    }
