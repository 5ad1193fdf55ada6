use Rattle.std.proofs.Common.{[], sym, ◌∙◌, subst}
use Rattle.std.specs.List.{All}
use Rattle.std.proofs.lemmas.List.Elements.{All-head, All-tail}
use Rattle.vert_eval.proofs.FrameLaws.{beside-trans}
use Rattle.vert_code.specs.Blocks.{list_of}
use Rattle.vert_code.specs.declared.instr.Block.TheVariants.{Loop}
use Rattle.vert_vm.specs.Segments.{Fed, IsWide, Member, loop_code, member_code}
use Rattle.vert_vm.proofs.EndLaws.{SameEnd-trans, going_ends}
use Rattle.vert_vm.proofs.SegmentLaws.{beside_from, broke_reads, fed_of, feeding_more, going_reads, names_there, turn_is}
use Rattle.vert_vm.proofs.segment.step_segment_over.Goals as goal

pub visit-requires-clause-names : goal.visit-requires-clause-names
visit-requires-clause-names g c =
    let l = c.loop-neighbour in
    let m : Member = (c.in-Some.neighbour, c.next.new.row) in
    let wide = All-head (IsWide c.args.env.now) m (g.F.Feed.left c.next.new.self)
    (subst (All (IsWide c.args.env.now)) c.in-Some.ensures.first l.invariant.rows) in
    names_there c.args.env.now l.env m c.list_at-list.result.now (list_of c.args.code.now Loop) l.invariant.kept wide
    c.list_at-list.ensures c.requires.names

pub returns-in-Broke-clause-fed : goal.returns-in-Broke-clause-fed
returns-in-Broke-clause-fed g c =
    let l = c.loop-neighbour in
    let h = c.visit.ensures in
    let left = g.F.Feed.left in
    let given = g.F.Feed.given in
    let list = c.list_at-list.result.now in
    let m : Member = (c.in-Some.neighbour, c.next.new.row) in
    let first = c.in-Some.ensures.first in
    let broke = sym c.in-Broke.is ∙ h.flow in
    let reads = broke_reads list (left l.feed) (left c.next.new.self) m l.env first broke in
    let more = feeding_more _ _ (given l.feed) (left l.feed) (given c.next.new.self) (left c.next.new.self) m _ [] _
    first c.in-Some.ensures.given reads l.invariant.fed in
    subst (λ k. Fed (given c.args.feed.now) (left c.args.feed.now) (given c.next.new.self) (left c.next.new.self)
    (loop_code k (left c.args.feed.now) c.args.env.now).reads) c.list_at-list.ensures
    (fed_of _ _ _ _ _ more)

pub loop-neighbour-preserved : goal.loop-neighbour-preserved
loop-neighbour-preserved g c =
    let l = c.loop-neighbour in
    let h = c.visit.ensures in
    let left = g.F.Feed.left in
    let given = g.F.Feed.given in
    let list = c.list_at-list.result.now in
    let m : Member = (c.in-Some.neighbour, c.next.new.row) in
    let first = c.in-Some.ensures.first in
    let going = sym c.in-Going.is ∙ h.flow in
    let r = member_code list m l.env in
    record {
      ends = SameEnd-trans _ _ _ _ _ _ _ _ _
          (going_ends l.env.key l.emits.slots.items c.visit.new.emits.slots.items r
          (loop_code list (left c.next.new.self)) _ c.visit.new.env
          (turn_is list (left l.feed) (left c.next.new.self) m l.env first) h.env going h.emits h.kept.key)
          l.invariant.ends;
      fed = feeding_more _ _ (given l.feed) (left l.feed) (given c.next.new.self) (left c.next.new.self) m _
          (loop_code list (left c.next.new.self) c.visit.new.env).reads _ first c.in-Some.ensures.given
          (going_reads list (left l.feed) (left c.next.new.self) m l.env first c.visit.new.env h.env going)
          l.invariant.fed;
      rows = All-tail (IsWide c.args.env.now) m (left c.next.new.self)
          (subst (All (IsWide c.args.env.now)) first l.invariant.rows);
      stack = h.stack c.in-Going.is;
      kept = beside-trans c.args.env.now l.env c.visit.new.env l.invariant.kept
          (beside_from l.env c.visit.new.env m h.kept);
      partials = h.partials ∙ l.invariant.partials;
    }
