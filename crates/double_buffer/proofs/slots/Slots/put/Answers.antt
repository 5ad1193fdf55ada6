use Rattle.double_buffer.proofs.BufferLaws.{put_at}
use Rattle.double_buffer.proofs.slots.Slots.put.Goals as goal

pub invariant_of-self : goal.invariant_of-self
invariant_of-self g c =
    (put_at g.row.CAP c.self.inside.machines c.self.inside.places.items c.fill.new.places.items c.self.invariant
    c.args.msg c.place_of-at.result c.args.self.now c.place_of-at.ensures c.fill.ensures c.self.view_is
    c.requires.one c.requires.fresh c.requires.together).sound

pub returns : goal.returns
returns g c =
    (put_at g.row.CAP c.self.inside.machines c.self.inside.places.items c.fill.new.places.items c.self.invariant
    c.args.msg c.place_of-at.result c.args.self.now c.place_of-at.ensures c.fill.ensures c.self.view_is
    c.requires.one c.requires.fresh c.requires.together).now
