use Rattle.std.proofs.Common.{arith, ap, sym, ◌∙◌, slice_set}
use Rattle.carry_analysis.specs.Classes.{marks_of}
use Rattle.carry_analysis.specs.Walks.{walk_after, walk_of}
use Rattle.carry_analysis.proofs.SightLaws.{after-other, after-use, sight}
use Rattle.carry_analysis.proofs.seen.Walk.note.Goals as goal

pub returns-then-i-lt8 : goal.returns-then-i-lt8
returns-then-i-lt8 c =
    ap (λ s. sight (slice_set c.args.self.now.lets c.in-Local.place s) c.args.self.now.breaks) c.with_use.ensures
    ∙ after-use (walk_of c.args.self.now) c.in-Local.place c.args.now _ (omega arith)
    ∙ ap (λ w. walk_after (walk_of c.args.self.now) (marks_of w c.args.now)) (sym c.in-Local.is)

pub returns-else-i-lt8 : goal.returns-else-i-lt8
returns-else-i-lt8 c =
    after-other (walk_of c.args.self.now) c.in-Local.place c.args.now (omega arith)
    ∙ ap (λ w. walk_after (walk_of c.args.self.now) (marks_of w c.args.now)) (sym c.in-Local.is)
