-- A run over links puts what its plain part puts, where no line of an event is asked for.
use Rattle.std.proofs.Common.{◌≡◌, ℕ, ◌+◌, Bool, true, false, List, [], ◌∷◌, ◌++◌, Option, Some, None, refl, ap, sym, ◌∙◌, append-nil, length, nat_lt}
use Rattle.std.specs.Prelude.{◌&&◌, if◌then◌else◌, not, option_map}
use Rattle.std.proofs.lemmas.Bool.{and_from, and_parts}
use Rattle.array_text.specs.Events.{event_line as machine_line}
use Rattle.cluster_run.proofs.WorldChoices.{not_refused}
use Rattle.cluster_run.specs.declared.fault.EventFault.{EventFault}
use Rattle.cluster_run.specs.declared.fault.EventFault.TheVariants.{NotUnderWay, RunOver}
use Rattle.cluster_run.specs.declared.fault.Missing.{Missing}
use Rattle.cluster_run.specs.Faults.{event_fault, fault_of, lacking}
use Rattle.command_steps.specs.Courses.{course_end, course_text}
use Rattle.command_steps.specs.Notes.{LongSchedule}
use Rattle.command_steps.specs.Orders.{Course, Fails}
use Rattle.link_core.specs.declared.event.LinkEvent.{LinkEvent}
use Rattle.link_core.specs.declared.event.LinkEvent.TheVariants.{Go, Take, Lose, Again, Ack, Drop}
use Rattle.link_core.specs.declared.fault.LinkFault.{LinkFault}
use Rattle.link_core.specs.declared.fault.LinkFault.TheVariants.{Plain, NotAgain, NoAck}
use Rattle.link_core.specs.LinkFaults.{fault_within, link_fault_of}
use Rattle.link_core.specs.Links.{Linked, accepts, can_happen, link_after, link_possible, link_step, links_possible, plain_of, plain_part}
use Rattle.link_core.specs.LinkTexts.{event_line, links_text}
use Rattle.link_core.specs.Traffic.{can_repeat, has_ack, has_copy}
use Rattle.link_runs.specs.LinkTellings.{by_links, link_line, link_round, listed_links, why_not, wire_line}
use Rattle.machine_runs.specs.PlainPlays.{log_line}
use Rattle.machine_runs.specs.Tellings.{followed_as, lack_of, recorded_as, told_end, told_event, unless_lacking, unless_refused}
use Rattle.schedule_laws.specs.Layout.{table_of, taken_in, text_of}
use Rattle.symple_face.specs.Cluster.{World, finished, possible, step}
use Rattle.symple_face.specs.Work.{Work}
use Rattle.symple_words.specs.declared.line.Lines.{Lines}
use Rattle.vert_base.specs.declared.limits.TheConstants.{SCHEDULE_BYTES}
use Rattle.vert_base.specs.declared.message.Event.{Event}
use Rattle.vert_base.specs.declared.message.Event.TheVariants as plain
use Rattle.vert_base.specs.declared.message.Name.{Name}
use Rattle.machine_runs.proofs.TextLaws.{text_behind}

-- ---- an event that isn't refused is possible
not_over : (b : Bool) (fault : Option LinkFault) → (if b then Some (Plain RunOver) else fault) ≡ None →
    (b ≡ false) × (fault ≡ None)
not_over true fault none = cc
not_over false fault none = (refl, none)

unmapped : (o : Option EventFault) → option_map (λ fault. Plain fault) o ≡ None → o ≡ None
unmapped None none = refl
unmapped (Some fault) none = cc

is_so : (b : Bool) (fault : LinkFault) → (if b then None else Some fault) ≡ None → b ≡ true
is_so true fault none = refl
is_so false fault none = cc

within_can : (l : Linked) (e : LinkEvent) → finished l.world ≡ false → fault_within l e ≡ None →
    can_happen l e ≡ true
within_can l (Go m) on none = not_refused l.world (plain.Go m)
    (ap (λ (b : Bool). if b then Some RunOver else event_fault l.world (plain.Go m)) on
    ∙ unmapped (event_fault l.world (plain.Go m)) none)
within_can l (Take x) on none = is_so (has_copy l.traffic x) (Plain NotUnderWay) none
within_can l (Lose x) on none = is_so (has_copy l.traffic x) (Plain NotUnderWay) none
within_can l (Again x) on none = is_so (can_repeat l.traffic x) NotAgain none
within_can l (Ack x) on none = is_so (has_ack l.traffic x) NoAck none
within_can l (Drop x) on none = is_so (has_ack l.traffic x) NoAck none

pub link_not_refused : (l : Linked) (e : LinkEvent) → link_fault_of l e ≡ None → link_possible l e ≡ true
link_not_refused l e none =
    let both = not_over (finished l.world) (fault_within l e) none in
    ap (λ (b : Bool). not b && can_happen l e) both.0 ∙ within_can l e both.0 both.1

-- and a possible one isn't refused
within_free : (l : Linked) (e : LinkEvent) →
    ((m : ℕ) → possible l.world (plain.Go m) ≡ true → event_fault l.world (plain.Go m) ≡ None) → can_happen l e ≡ true →
    fault_within l e ≡ None
within_free l (Go m) goes can = ap (option_map (λ fault. Plain fault)) (goes m can)
within_free l (Take x) goes can = ap (λ (b : Bool). if b then None else Some (Plain NotUnderWay)) can
within_free l (Lose x) goes can = ap (λ (b : Bool). if b then None else Some (Plain NotUnderWay)) can
within_free l (Again x) goes can = ap (λ (b : Bool). if b then None else Some NotAgain) can
within_free l (Ack x) goes can = ap (λ (b : Bool). if b then None else Some NoAck) can
within_free l (Drop x) goes can = ap (λ (b : Bool). if b then None else Some NoAck) can

is_on : (b : Bool) → not b ≡ true → b ≡ false
is_on true on = absurd (cc)
is_on false on = refl

machine_free : (w : World) (e : Event) → finished w ≡ false → fault_of w e ≡ None → event_fault w e ≡ None
machine_free w e on none = sym (ap (λ (b : Bool). if b then Some RunOver else event_fault w e) on) ∙ none

pub link_free : (l : Linked) (e : LinkEvent) →
    ((d : Event) → possible l.world d ≡ true → fault_of l.world d ≡ None) → link_possible l e ≡ true →
    link_fault_of l e ≡ None
link_free l e free can =
    let both = and_parts (not (finished l.world)) (can_happen l e) can in
    let on = is_on (finished l.world) both.0 in
    ap (λ (b : Bool). if b then Some (Plain RunOver) else fault_within l e) on
    ∙ within_free l e (λ m there. machine_free l.world (plain.Go m) on (free (plain.Go m) there)) both.1

module _ (work : Work) (lines : Lines) (quiet : lines.log ≡ false) where
  no_log : (w : World) (e : Event) → log_line lines w e ≡ []
  no_log w e = ap (λ (b : Bool). if b then machine_line e (taken_in w e) else []) quiet

  no_wire : (e : LinkEvent) → wire_line lines e ≡ []
  no_wire e = ap (λ (b : Bool). if b then event_line e else []) quiet

  -- of a take, where it accepts or not
  taken_text : (l : Linked) (x : Name) (b : Bool) (es : List Event) (text : List ℕ) →
      text ≡ text_of work lines (if b then step work l.world (plain.Take x) else l.world) es →
      log_line lines l.world (plain.Take x) ++ text
      ≡ text_of work lines l.world ((if b then plain.Take x ∷ [] else []) ++ es)
  taken_text l x true es text is = text_behind work lines l.world (plain.Take x) es text is
  taken_text l x false es text is = ap (λ (t : List ℕ). t ++ text) (no_log l.world (plain.Take x)) ∙ is

  -- the texts of an event in front of those behind it
  pub link_text_behind : (l : Linked) (e : LinkEvent) (es : List Event) (text : List ℕ) →
      text ≡ text_of work lines (link_step work l e).world es →
      link_line lines l e ++ (link_round work lines l e ++ text) ≡ text_of work lines l.world (plain_of l e ++ es)
  link_text_behind l (Go m) es text is = text_behind work lines l.world (plain.Go m) es text is
  link_text_behind l (Take x) es text is = taken_text l x (accepts l x) es text is
  link_text_behind l (Lose x) es text is = ap (λ (t : List ℕ). t ++ text) (no_wire (Lose x)) ∙ is
  link_text_behind l (Again x) es text is = ap (λ (t : List ℕ). t ++ text) (no_wire (Again x)) ∙ is
  link_text_behind l (Ack x) es text is = ap (λ (t : List ℕ). t ++ text) (no_wire (Ack x)) ∙ is
  link_text_behind l (Drop x) es text is = ap (λ (t : List ℕ). t ++ text) (no_wire (Drop x)) ∙ is

  -- ---- a recording that comes to its end
  behind_recorded : (l : Linked) (e : LinkEvent) (es : List LinkEvent) (long : Bool) (rest : Course) →
      (course_end rest ≡ None →
      course_text rest ≡ text_of work lines (link_step work l e).world (plain_part work (link_step work l e) es)) →
      course_end (if long then Fails LongSchedule else told_event (by_links work lines) l e rest) ≡ None →
      course_text (if long then Fails LongSchedule else told_event (by_links work lines) l e rest)
      ≡ text_of work lines l.world (plain_part work l (e ∷ es))
  behind_recorded l e es true rest text ends = cc
  behind_recorded l e es false rest text ends =
      link_text_behind l e (plain_part work (link_step work l e) es) (course_text rest) (text ends)

  pub recorded_over_plain : (name : List ℕ) (machines : ℕ) (added : List LinkEvent) (l : Linked)
      (es : List LinkEvent) →
      course_end (recorded_as (by_links work lines) (links_text machines) name added l es) ≡ None →
      course_text (recorded_as (by_links work lines) (links_text machines) name added l es)
      ≡ text_of work lines l.world (plain_part work l es)
  recorded_over_plain name machines added l [] ends = append-nil (table_of work l.world)
  recorded_over_plain name machines added l (e ∷ es) ends =
      behind_recorded l e es (nat_lt SCHEDULE_BYTES (length (links_text machines (added ++ e ∷ []))))
      (recorded_as (by_links work lines) (links_text machines) name (added ++ e ∷ []) (link_step work l e) es)
      (recorded_over_plain name machines (added ++ e ∷ []) (link_step work l e) es) ends

-- ---- a followed run that comes to its end
module _ (work : Work) (lines : Lines) where
  pub record ComesToEnd (l : Linked) (es : List LinkEvent) (course : Course) : Type 0 where
    pub can : links_possible work l es ≡ true
    pub lacks : lacking (link_after work l es).world ≡ None
    pub text : lines.log ≡ false → course_text course ≡ text_of work lines l.world (plain_part work l es)

  at_last : (l : Linked) (o : Option Missing) → lacking l.world ≡ o →
      course_end (unless_lacking (option_map lack_of o) (told_end (by_links work lines) l)) ≡ None →
      ComesToEnd l [] (unless_lacking (option_map lack_of o) (told_end (by_links work lines) l))
  at_last l None is fine =
      record { can = refl; lacks = is; text = λ quiet. append-nil (table_of work l.world) }
  at_last l (Some what) is fine = absurd (cc)

  module _ (l : Linked) (e : LinkEvent) (es : List LinkEvent) (line : ℕ) (rest : Course) where
    at_event : (course_end rest ≡ None → ComesToEnd (link_step work l e) es rest) → (o : Option LinkFault) →
        link_fault_of l e ≡ o →
        course_end (unless_refused (option_map (why_not e) o) line (told_event (by_links work lines) l e rest))
        ≡ None →
        ComesToEnd l (e ∷ es) (unless_refused (option_map (why_not e) o) line (told_event (by_links work lines)
        l e rest))
    at_event more None is fine =
        let behind = more fine in record {
          can = and_from (link_possible l e) (links_possible work (link_step work l e) es) (link_not_refused l e is)
              behind.can;
          lacks = behind.lacks;
          text = λ quiet. link_text_behind work lines quiet l e (plain_part work (link_step work l e) es)
              (course_text rest) (behind.text quiet);
        }
    at_event more (Some why) is fine = absurd (cc)

  pub followed_over_plain : (count : ℕ) (l : Linked) (es : List LinkEvent) →
      course_end (followed_as (by_links work lines) l (listed_links count es)) ≡ None →
      ComesToEnd l es (followed_as (by_links work lines) l (listed_links count es))
  followed_over_plain count l [] ends = at_last l (lacking l.world) refl ends
  followed_over_plain count l (e ∷ es) ends =
      at_event l e es (count + 1)
      (followed_as (by_links work lines) (link_step work l e) (listed_links (count + 1) es))
      (followed_over_plain (count + 1) (link_step work l e) es) (link_fault_of l e) refl ends
