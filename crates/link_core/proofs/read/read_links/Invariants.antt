use Rattle.std.proofs.Common.{◌≡◌, ◌+◌, ◌≤◌, ◌++◌, ℕ, List, length}
use Rattle.link_core.specs.declared.event.LinkEvent.{LinkEvent}
use Rattle.link_core.specs.LinkSays.{SaysLinks}
use Rattle.link_core.specs.LinkTexts.{IsLinkSchedule, links_text}
use Rattle.link_core.proofs.ReadEvents.{IsFront}
use Rattle.link_core.proofs.read.read_links.Given as goal

abbrev pub invariant-events : goal.invariant-events
invariant-events l = record {
  is : IsLinkSchedule l.machines l.events.items;
  spelled : l.text ≡ links_text l.machines l.events.items ++ l.rest;
  counted : l.number ≡ length l.events.items + 2;
  fits : length l.text ≤ 67108864;
  few : l.number + length l.rest ≤ length l.text + 2;
  front : (m : ℕ) (es : List LinkEvent) → SaysLinks l.text m es → IsFront l.machines l.events.items l.rest m es;
}

abbrev pub decreases-events : goal.decreases-events
decreases-events l = length l.rest
