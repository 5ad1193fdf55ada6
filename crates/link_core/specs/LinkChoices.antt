-- The events that are possible over links, in the order of choices, and what is missing.
use Rattle.std.specs.Prelude.{if◌then◌else◌, Option, List, [], ◌++◌, map}
use Rattle.std.specs.List.{filter}
use Rattle.vert_base.specs.declared.message.Name.{Name}
use Rattle.vert_base.specs.declared.message.Event.{Event}
use Rattle.symple_face.specs.Cluster.{finished, missing_of, ready_machines}
use Rattle.link_core.specs.declared.event.LinkEvent.{LinkEvent}
use Rattle.link_core.specs.declared.event.LinkEvent.TheVariants.{Go, Take, Lose, Again, Ack, Drop}
use Rattle.link_core.specs.Links.{Linked}
use Rattle.link_core.specs.Piles.{names_of}
use Rattle.link_core.specs.Traffic.{Traffic, can_repeat}

-- the messages that can be sent again, by name
abbrev pub repeatable : Traffic → List Name
repeatable t = filter (can_repeat t) (names_of t.kept)

-- goes by machine, then takes, loses, agains, acks and drops, each by name
abbrev pub wire_choices : Traffic → List LinkEvent
wire_choices t =
    map (λ x. Take x) (names_of t.copies)
    ++ (map (λ x. Lose x) (names_of t.copies)
    ++ (map (λ x. Again x) (repeatable t)
    ++ (map (λ x. Ack x) (names_of t.acks)
    ++ map (λ x. Drop x) (names_of t.acks))))

abbrev pub link_choices : Linked → List LinkEvent
link_choices l =
    if finished l.world then []
    else map (λ m. Go m) (ready_machines l.world) ++ wire_choices l.traffic

-- the least message that was sent and not accepted, or where there is none the least machine that is ready
abbrev pub link_missing : Linked → Option Event
link_missing l = missing_of l.world
