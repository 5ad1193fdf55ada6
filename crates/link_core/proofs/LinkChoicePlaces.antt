-- The choices of a run that isn't finished, by their count and their places.
use Rattle.std.proofs.Common.{◌≡◌, ℕ, ◌+◌, true, false, [], ◌++◌, length, length-append, map, Option, Some, ap, sym, ◌∙◌, arith, slice_get}
use Rattle.std.specs.Prelude.{if◌then◌else◌}
use Rattle.std.proofs.lemmas.List.{length-map}
use Rattle.symple_face.specs.Cluster.{finished, ready_machines}
use Rattle.link_core.specs.declared.event.LinkEvent.{LinkEvent}
use Rattle.link_core.specs.declared.event.LinkEvent.TheVariants.{Go}
use Rattle.link_core.specs.LinkChoices.{link_choices, wire_choices}
use Rattle.link_core.specs.Links.{Linked}
use Rattle.link_core.proofs.WireChoiceLaws.{at_first, at_later}

pub none_over : (l : Linked) → finished l.world ≡ true → link_choices l ≡ []
none_over l over =
    ap (λ b. if b then [] else map (λ m. Go m) (ready_machines l.world) ++ wire_choices l.traffic) over

module _ (l : Linked) (on : finished l.world ≡ false) where
  these : link_choices l ≡ map (λ m. Go m) (ready_machines l.world) ++ wire_choices l.traffic
  these = ap (λ b. if b then [] else map (λ m. Go m) (ready_machines l.world) ++ wire_choices l.traffic) on

  pub count_is : (n m : ℕ) → n ≡ length (ready_machines l.world) → m ≡ length (wire_choices l.traffic) →
      n + m ≡ length (link_choices l)
  count_is n m goes wire =
      let all = ap length these in
      let joined = length-append (map (λ m. Go m) (ready_machines l.world)) (wire_choices l.traffic) in
      let mapped = length-map (ready_machines l.world) (λ (m : ℕ). Go m) in
      omega arith

  pub nth_go : (k m : ℕ) → slice_get (ready_machines l.world) k ≡ Some m →
      Some (Go m) ≡ slice_get (link_choices l) k
  nth_go k m at =
      sym (ap (λ es. slice_get es k) these
      ∙ at_first (λ m. Go m) (ready_machines l.world) (wire_choices l.traffic) k m at)

  pub nth_wire : (k j : ℕ) (o : Option LinkEvent) → k ≡ length (ready_machines l.world) + j →
      o ≡ slice_get (wire_choices l.traffic) j → o ≡ slice_get (link_choices l) k
  nth_wire k j o past is =
      is
      ∙ sym (ap (λ es. slice_get es k) these
      ∙ at_later (λ m. Go m) (ready_machines l.world) (wire_choices l.traffic) k j past)
