-- What lies on the wire, and what senders keep, and what an event makes of it.
use Rattle.std.specs.Prelude.{◌&&◌, nat_le, nat_lt, Bool, List, [], ◌∷◌}
use Rattle.vert_base.specs.declared.message.Name.{Name}
use Rattle.link_core.specs.declared.pile.Pile.{Pile}
use Rattle.link_core.specs.Piles.{count_of, fewer, more}

-- the copies of messages and the acknowledgements on the wire, 0 to 255 of each name; and the messages that were sent
-- and aren't known to be accepted, each once, which their senders keep
pub record Traffic : Type 0 where
  pub copies : List Pile
  pub acks : List Pile
  pub kept : List Pile

abbrev pub no_traffic : Traffic
no_traffic = record { copies = []; acks = []; kept = [] }

-- a message is sent as one copy
abbrev pub sent : Name → Traffic → Traffic
sent x t = record { copies = more x t.copies; acks = t.acks; kept = more x t.kept }

abbrev pub all_sent : List Name → Traffic → Traffic
all_sent [] t = t
all_sent (x ∷ xs) t = all_sent xs (sent x t)

-- a copy is taken, which is acknowledged
abbrev pub taken : Name → Traffic → Traffic
taken x t = record { copies = fewer x t.copies; acks = more x t.acks; kept = t.kept }

-- a copy is lost
abbrev pub lost : Name → Traffic → Traffic
lost x t = record { copies = fewer x t.copies; acks = t.acks; kept = t.kept }

-- a message is sent again
abbrev pub repeated : Name → Traffic → Traffic
repeated x t = record { copies = more x t.copies; acks = t.acks; kept = t.kept }

-- an acknowledgement comes: the message is known to be accepted
abbrev pub acknowledged : Name → Traffic → Traffic
acknowledged x t = record { copies = t.copies; acks = fewer x t.acks; kept = fewer x t.kept }

-- an acknowledgement is lost
abbrev pub dropped : Name → Traffic → Traffic
dropped x t = record { copies = t.copies; acks = fewer x t.acks; kept = t.kept }

-- whether a copy of the name is on the wire, and an acknowledgement
abbrev pub has_copy : Traffic → Name → Bool
has_copy t x = nat_le 1 (count_of x t.copies)

abbrev pub has_ack : Traffic → Name → Bool
has_ack t x = nat_le 1 (count_of x t.acks)

-- whether the message can be sent again: it was sent, isn't known to be accepted and has fewer than 255 copies
abbrev pub can_repeat : Traffic → Name → Bool
can_repeat t x = nat_le 1 (count_of x t.kept) && nat_lt (count_of x t.copies) 255
