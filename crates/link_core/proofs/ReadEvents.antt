-- Events that were read are the first ones of those that a text says.
use Rattle.std.proofs.Common.{◌≡◌, ℕ, ◌+◌, ◌<◌, ◌≤◌, subst, List, [], ◌∷◌, ◌++◌, length, sym, ap, ◌∙◌, arith, append_assoc, append-nil, length-append}
use Rattle.std.specs.Prelude.{flat_map}
use Rattle.std.specs.List.{AllByRecursion}
use Rattle.std.proofs.lemmas.Grind.{flat_map-append}
use Rattle.vert_base.proofs.Orders.{all_append}
use Rattle.link_core.specs.declared.event.LinkEvent.{LinkEvent}
use Rattle.link_core.specs.LinkTexts.{IsLinkEvent, IsLinkSchedule, event_front, event_line, header_line, links_text}

-- these events are read of a run, and those behind them are left
pub record IsFront (machines : ℕ) (done : List LinkEvent) (rest : List ℕ) (m : ℕ) (es : List LinkEvent) : Type 0 where
  pub same : machines ≡ m
  pub others : List LinkEvent
  pub is : es ≡ done ++ others
  pub each : AllByRecursion IsLinkEvent others
  pub left : rest ≡ flat_map event_line others

some_line : (e : LinkEvent) (rest : List ℕ) → 0 < length (event_line e ++ rest)
some_line e rest =
    omega (arith, length-append (event_line e) rest, length-append (event_front e) (10 ∷ []))

module _ (machines : ℕ) (done new : List LinkEvent) (rest behind : List ℕ) (event : LinkEvent) (m : ℕ)
    (es : List LinkEvent) where
  pub front_more : 0 < length rest → new ≡ done ++ event ∷ [] →
      ((e : LinkEvent) (b : List ℕ) → IsLinkEvent e → rest ≡ event_line e ++ b → (event ≡ e) × (behind ≡ b)) →
      IsFront machines done rest m es → IsFront machines new behind m es
  front_more some n read front = by front.others front.is front.each front.left
    where
      by : (others : List LinkEvent) → es ≡ done ++ others → AllByRecursion IsLinkEvent others →
          rest ≡ flat_map event_line others → IsFront machines new behind m es
      by [] is each left = absurd (omega (arith, ap length left, some))
      by (e ∷ os) is each left =
          let one = read e (flat_map event_line os) each.0 left in
          record {
            same = front.same;
            others = os;
            is = is ∙ ap (λ x. done ++ x ∷ os) (sym one.0) ∙ sym (append_assoc done (event ∷ []) os)
                ∙ ap (λ xs. xs ++ os) (sym n);
            each = each.1;
            left = one.1;
          }

pub front_bad : (machines : ℕ) (done : List LinkEvent) (rest : List ℕ) (m : ℕ) (es : List LinkEvent) →
    0 < length rest → ((e : LinkEvent) (b : List ℕ) → IsLinkEvent e → rest ≡ event_line e ++ b → ⊥) →
    IsFront machines done rest m es → ⊥
front_bad machines done rest m es some bad front = by front.others front.each front.left
  where
    by : (others : List LinkEvent) → AllByRecursion IsLinkEvent others → rest ≡ flat_map event_line others → ⊥
    by [] each left = omega (arith, ap length left, some)
    by (e ∷ os) each left = bad e (flat_map event_line os) each.0 left

pub front_done : (machines : ℕ) (done : List LinkEvent) (rest : List ℕ) (m : ℕ) (es : List LinkEvent) →
    length rest ≡ 0 → IsFront machines done rest m es → (machines ≡ m) × (done ≡ es)
front_done machines done rest m es none front = by front.others front.is front.left
  where
    by : (others : List LinkEvent) → es ≡ done ++ others → rest ≡ flat_map event_line others →
        (machines ≡ m) × (done ≡ es)
    by [] is left = (front.same, sym (is ∙ append-nil done))
    by (e ∷ os) is left = absurd (omega (arith, ap length left, some_line e (flat_map event_line os), none))

-- ---- the text of events that were read, and what is left
pub begun_is : (machines : ℕ) (done : List LinkEvent) → (1 ≤ machines) × (machines ≤ 64) → done ≡ [] →
    IsLinkSchedule machines done
begun_is machines done few none =
    record {
      some = few.0;
      few = few.1;
      each = subst (λ (xs : List LinkEvent). AllByRecursion IsLinkEvent xs) (sym none) tt;
    }

pub begun : (text : List ℕ) (machines : ℕ) (done : List LinkEvent) (rest : List ℕ) →
    text ≡ header_line machines ++ rest → done ≡ [] → text ≡ links_text machines done ++ rest
begun text machines done rest spelled none =
    spelled
    ∙ ap (λ t. t ++ rest) (sym (append-nil (header_line machines)))
    ∙ ap (λ xs. links_text machines xs ++ rest) (sym none)

pub left_few : (text : List ℕ) (machines : ℕ) (rest : List ℕ) → text ≡ header_line machines ++ rest →
    2 + length rest ≤ length text + 2
left_few text machines rest spelled =
    omega (arith, ap length spelled, length-append (header_line machines) rest)

pub more_is : (machines : ℕ) (done new : List LinkEvent) (event : LinkEvent) → IsLinkSchedule machines done →
    IsLinkEvent event → new ≡ done ++ event ∷ [] → IsLinkSchedule machines new
more_is machines done new event is one n =
    record {
      some = is.some;
      few = is.few;
      each = subst (λ (xs : List LinkEvent). AllByRecursion IsLinkEvent xs) (sym n)
          (all_append IsLinkEvent done (event ∷ []) is.each (one, tt));
    }

module _ (text : List ℕ) (machines : ℕ) (done new : List LinkEvent) (event : LinkEvent) (rest behind : List ℕ) where
  pub more : text ≡ links_text machines done ++ rest → rest ≡ event_line event ++ behind →
      new ≡ done ++ event ∷ [] → text ≡ links_text machines new ++ behind
  more spelled line n =
      let header = header_line machines in
      let lines = flat_map event_line done in
      let last = event_line event in
      let joined : flat_map event_line (done ++ event ∷ []) ≡ lines ++ last =
      flat_map-append event_line done (event ∷ []) ∙ ap (λ t. lines ++ t) (append-nil last) in
      spelled
      ∙ ap (λ t. (header ++ lines) ++ t) line
      ∙ sym (append_assoc (header ++ lines) last behind)
      ∙ ap (λ t. t ++ behind) (append_assoc header lines last)
      ∙ ap (λ t. (header ++ t) ++ behind) (sym joined)
      ∙ ap (λ xs. links_text machines xs ++ behind) (sym n)
