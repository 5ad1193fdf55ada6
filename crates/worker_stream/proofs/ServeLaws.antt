-- The steps of a machine that serves a stream make up what it does with the whole stream.
use Rattle.std.proofs.Common.{◌≡◌, ◌≢◌, ℕ, ◌+◌, ◌<◌, ◌≤◌, ◌∙◌, Bool, true, false, Option, Some, None, Result, Ok, Err, List, [], ◌∷◌, ◌++◌, length, take, drop, map, refl, sym, ap, subst, arith, ⊎_elim, append_assoc, append-nil, length-append, ◌⊎◌, inl, inr}
use Rattle.std.specs.Prelude.{IfSome, OnOk, if◌then◌else◌, nat_lt, not, option_map, ◌&&◌, ◌==◌}
use Rattle.std.specs.List.{All, AllByRecursion}
use Rattle.std.proofs.lemmas.Bool.{cases_eq, cond-false, false≢true, ne_eqb}
use Rattle.std.proofs.lemmas.List.Elements.{All-from_recursion}
use Rattle.vert_base.specs.declared.message.Message.{Message}
use Rattle.vert_base.specs.declared.message.Name.{Name}
use Rattle.vert_base.specs.HeaderBytes.{is_proper}
use Rattle.vert_base.specs.Letters.{Letter, letter_of}
use Rattle.outside.specs.Bytes.{GainedPart, gained, led_by}
use Rattle.outside.specs.Causes.{Rose}
use Rattle.outside.proofs.BytesLaws.{gained-gained, gained-nothing, no_part, part_after, part_of_longer}
use Rattle.circulant_plan.specs.declared.spot.Spot.{Spot}
use Rattle.circulant_plan.specs.declared.spot.Spot.TheVariants as spots
use Rattle.circulant_plan.specs.Skeleton.{is_over}
use Rattle.double_buffer.specs.Held.{Held}
use Rattle.instrument.specs.declared.split.Split.{Split}
use Rattle.body_shape.specs.declared.shape.BodyShape.{BodyShape}
use Rattle.body_shape.specs.Fit.{is_fit}
use Rattle.body_shape.specs.Shapes.{longest_of}
use Rattle.dep_message.specs.Messages.{forms_of, header_in}
use Rattle.symple_face.specs.declared.action.Action.TheVariants.{Ready, Waits, Over}
use Rattle.symple_face.specs.Lawful.{HasForm, IsLawful}
use Rattle.symple_face.specs.Parts.{PlainPart}
use Rattle.symple_face.specs.declared.part.Part.{Part}
use Rattle.symple_face.specs.PartViews.{plain_of}
use Rattle.symple_face.specs.Shapes.{shape_of}
use Rattle.symple_face.specs.State.{IsTakeable, State, action_of, first_missing, has_taken, machine, needs, shape_at, waiting_for}
use Rattle.symple_face.specs.Work.{Work}
use Rattle.worker_stream.specs.declared.fault.ServeFault.{ServeFault}
use Rattle.worker_stream.specs.declared.fault.ServeFault.TheVariants as serve
use Rattle.worker_stream.specs.declared.reading.ReadFault.{ReadFault}
use Rattle.worker_stream.specs.declared.reading.ReadFault.TheVariants.{Ended, Faulty, Source, Want}
use Rattle.worker_stream.specs.declared.sending.SendFault.{SendFault}
use Rattle.worker_stream.specs.declared.sending.SendFault.TheVariants as send
use Rattle.worker_stream.specs.Fronts.{AtFront, IsWhole, IsWrong, NoByte, ReadsMessage, There, Wrong, front_of, front_with_body, front_with_form, front_with_name, read_of, told}
use Rattle.worker_stream.specs.Sent.{IsShort, Sends, spelled_letters}
use Rattle.worker_stream.specs.Serving.{IsServed, IsServedPart, Serves, Streams}
use Rattle.worker_stream.specs.Steps.{Breaks, Goes, Halts, IsAlong, IsUndue, StepFails, Takes, TakesNext, unread, unsent}
use Rattle.worker_stream.specs.Walks.{Stands, names_from}
use Rattle.worker_stream.specs.Worker.{End, Finishes, Lacks, Onwards, Refuses, Served, behind_text, ends_at, is_due, reads, served_from, takes_front, worker}
use Rattle.worker_stream.proofs.FrontLaws.{dropped_at, led_on}
use Rattle.worker_stream.proofs.StandLaws.{go_less, go_low, go_stands, take_less, take_low, take_stands}
use Rattle.worker_stream.proofs.WorkerLaws.{at_action, at_end, at_message, front_is, takeable, used_grows}

led_nothing : (left : Option (List ℕ)) → left ≡ led_by [] left
led_nothing None = refl
led_nothing (Some rest) = refl

-- ---- a message that is read in part
abbrev is_byte : AtFront → Bool
is_byte NoByte = false
is_byte (Wrong code) = true
is_byte (There l rest) = true

module _ (forms : Name → Option BodyShape) where
  byte_by_body : (x : Name) (size : ℕ) (bytes : List ℕ) (b c : Bool) →
      is_byte (if b then Wrong 1
      else if c then There (record { name = x; body = take size bytes }) (drop size bytes) else Wrong 4) ≡ true
  byte_by_body x size bytes true c = refl
  byte_by_body x size bytes false true = refl
  byte_by_body x size bytes false false = refl

  byte_by_long : (x : Name) (shape : BodyShape) (size : ℕ) (bytes : List ℕ) (b : Bool) →
      is_byte (if b then Wrong 4 else front_with_body x shape size bytes) ≡ true
  byte_by_long x shape size bytes true = refl
  byte_by_long x shape size bytes false =
      byte_by_body x size bytes (nat_lt (length bytes) size) (is_fit shape (take size bytes))

  byte_by_form : (x : Name) (form : Option BodyShape) (size : ℕ) (bytes : List ℕ) →
      is_byte (front_with_form x form size bytes) ≡ true
  byte_by_form x None size bytes = refl
  byte_by_form x (Some shape) size bytes = byte_by_long x shape size bytes (nat_lt (longest_of shape) size)

  byte_by_proper : (x : Name) (size : ℕ) (bytes : List ℕ) (b : Bool) →
      is_byte (if b then front_with_form x (forms x) size bytes else Wrong 3) ≡ true
  byte_by_proper x size bytes true = byte_by_form x (forms x) size bytes
  byte_by_proper x size bytes false = refl

  byte_by_name : (name : Option Name) (size : ℕ) (bytes : List ℕ) →
      is_byte (front_with_name forms name size bytes) ≡ true
  byte_by_name None size bytes = refl
  byte_by_name (Some x) size bytes = byte_by_proper x size bytes (is_proper x)

  byte_by_header : (bytes : List ℕ) (b : Bool) →
      is_byte (if b then Wrong 1 else front_with_name forms (header_in (take 13 bytes)).name
      (header_in (take 13 bytes)).size (drop 13 bytes)) ≡ true
  byte_by_header bytes true = refl
  byte_by_header bytes false =
      byte_by_name (header_in (take 13 bytes)).name (header_in (take 13 bytes)).size (drop 13 bytes)

  has_byte : (bytes : List ℕ) → length bytes ≢ 0 → is_byte (front_of forms bytes) ≡ true
  has_byte bytes some =
      ap is_byte (cond-false _ _ _ (ne_eqb (length bytes) 0 some)) ∙ byte_by_header bytes (nat_lt (length bytes) 13)

module _ (work : Work) where
  -- what is read of a message is used
  front_used : (next : Onwards) → ((n : ℕ) (t : State) (bs : List ℕ) → n ≤ (next n t bs).used) →
      (at : ℕ) (s : State) (x : Name) (size : ℕ) (front : AtFront) → is_byte front ≡ true →
      at + size ≤ (takes_front work next at s x size front).used
  front_used next grows at s x size NoByte is = absurd (false≢true is)
  front_used next grows at s x size (Wrong code) is = omega arith
  front_used next grows at s x size (There l rest) is = by_due (is_due s l.name)
    where
      by_due : (b : Bool) → at + size ≤ (if b then next (at + size) (work.take s l) rest
          else ends_at (at + size) (Refuses 5 at)).used
      by_due true = grows (at + size) (work.take s l) rest
      by_due false = omega arith

  part_used : (at : ℕ) (s : State) (x : Name) (front rest : List ℕ) →
      length front ≤ read_of (shape_at s) (front ++ rest) →
      at + length front ≤ (reads work (served_from work) at s x (front ++ rest)).used
  part_used at s x front rest few =
      let bytes = front ++ rest in
      let len = length-append front rest in
      ⊎_elim
      (λ (none : length bytes ≡ 0).
      let grows = front_grows (front_of (shape_at s) bytes) in
      omega arith)
      (λ (some : length bytes ≢ 0).
      let most = front_used (served_from work) (used_grows work) at s x (read_of (shape_at s) bytes)
      (front_of (shape_at s) bytes) (has_byte (shape_at s) bytes some) in
      omega arith)
      (cases_eq (length bytes) 0)
    where
      front_grows : (f : AtFront) →
          at ≤ (takes_front work (served_from work) at s x (read_of (shape_at s) (front ++ rest)) f).used
      front_grows NoByte = omega arith
      front_grows (Wrong code) = omega arith
      front_grows (There l others) = by_due (is_due s l.name)
        where
          by_due : (b : Bool) → at ≤ (if b then served_from work (at + read_of (shape_at s) (front ++ rest))
              (work.take s l) others
              else ends_at (at + read_of (shape_at s) (front ++ rest)) (Refuses 5 at)).used
          by_due true =
              let more = used_grows work (at + read_of (shape_at s) (front ++ rest)) (work.take s l) others in
              omega arith
          by_due false = omega arith

-- ---- the messages of a machine are short
short_by_recursion : (ms : List Message) → AllByRecursion IsShort (map letter_of ms) →
    AllByRecursion (λ (m : Message). IsShort (letter_of m)) ms
short_by_recursion [] all = tt
short_by_recursion (m ∷ ms) all = (all.0, short_by_recursion ms all.1)

pub all_short : (ms : List Message) (ls : List Letter) → map letter_of ms ≡ ls → AllByRecursion IsShort ls →
    All (λ (m : Message). IsShort (letter_of m)) ms
all_short ms ls same all =
    All-from_recursion (λ (m : Message). IsShort (letter_of m)) ms
    (short_by_recursion ms (subst (λ (xs : List Letter). AllByRecursion IsShort xs) (sym same) all))

pub each_short : (s : State) (ls : List Letter) →
    ((x : Name) (shape : BodyShape) → shape_at s x ≡ Some shape → longest_of shape < 4294967296) →
    AllByRecursion (HasForm s) ls → AllByRecursion IsShort ls
each_short s [] short all = tt
each_short s (l ∷ ls) short all = (
  record { shape = all.0.0; fits = all.0.2; short = short l.name all.0.0 all.0.1 },
  each_short s ls short all.1,
)

-- ---- answers that carry over
ended_apart : Ended ≡ Source → ⊥
ended_apart e = cc

want_apart : Want ≡ Source → ⊥
want_apart e = cc

faulty_apart : (code : ℕ) → Faulty code ≡ Source → ⊥
faulty_apart code e = cc

no_sink : {A : Type 0} → ◌≡◌ {A = Result A SendFault} (Err send.Want) (Err send.Sink) → ⊥
no_sink e = cc

pub on_ok : {T E : Type 0} (r : Result T E) (P : Type 0) → P → OnOk r P
on_ok (Ok x) P p = p
on_ok (Err e) P p = tt

pub err_moves : {A B : Type 0} (f g : ReadFault) → ◌≡◌ {A = Result A ReadFault} (Err f) (Err g) →
    ◌≡◌ {A = Result B ReadFault} (Err f) (Err g)
err_moves f g e = let same : f ≡ g = cc in ap Err same

pub ok_no_err : {A : Type 0} (x : A) (f : ReadFault) → ◌≡◌ {A = Result A ReadFault} (Ok x) (Err f) → ⊥
ok_no_err x f e = cc

pub other_fault : {A : Type 0} (f g : ReadFault) → (f ≡ g → ⊥) → ◌≡◌ {A = Result A ReadFault} (Err f) (Err g) → ⊥
other_fault f g ne e = let same : f ≡ g = cc in ne same

-- the forms of a machine's messages are those of its part
pub forms_are : (p : Part) (s : State) → plain_of p ≡ s.part → p.split.value ≡ s.split → forms_of p ≡ shape_at s
forms_are p s part split =
    ap (λ (q : Split). (let f : Name → Option BodyShape = λ x. shape_of q (plain_of p) x in f)) split
    ∙ ap (λ (q : PlainPart). (let f : Name → Option BodyShape = λ x. shape_of s.split q x in f)) part

pub reads_at : (p : Part) (s : State) → plain_of p ≡ s.part → p.split.value ≡ s.split → (front rest : List ℕ)
    (r : Result Message ReadFault) → ReadsMessage (forms_of p) front rest r → ReadsMessage (shape_at s) front rest r
reads_at p s part split front rest r given =
    subst (λ (f : Name → Option BodyShape). ReadsMessage f front rest r) (forms_are p s part split) given

-- a message that was read whole can be taken where it is due
pub whole_takeable : (s : State) (front : List ℕ) (l : Letter) → IsWhole (shape_at s) front l →
    is_over s.at.spot ≡ false → is_due s l.name ≡ true → IsTakeable s l
whole_takeable s front l whole going due =
    takeable s (front ++ []) l [] (front_is (shape_at s) (front ++ []) l [] (whole.read []).there) going due

over_by : (b : Bool) (o : Option Name) → (if b then Over else waiting_for o) ≡ Over → b ≡ true
over_by true o e = refl
over_by false None e = absurd (cc)
over_by false (Some x) e = absurd (cc)

pub over_end : (s : State) → action_of s ≡ Over → is_over s.at.spot ≡ true
over_end s e = over_by (is_over s.at.spot) (first_missing (needs s) s.held) e

module _ (work : Work) (s : State) (names : Held) (front rest : List ℕ) (t : State) (after : Held) where
  pub next_fails : (fault : ReadFault) → ReadsMessage (shape_at s) front rest (Err fault) →
      TakesNext work s names front rest t after (Err fault)
  next_fails Ended given = given
  next_fails (Faulty code) given = inl given
  next_fails Source given = given
  next_fails Want given = given

pub due_is : (x : Name) (s : State) (n : ℕ) (b : Bool) (r : ℕ) → n ≡ machine s → b ≡ has_taken s x →
    r ≡ s.at.round → (x.to == n && (not b && x.round == r)) ≡ is_due s x
due_is x s n b r here taken now =
    ap (λ q. x.to == q && (not b && x.round == r)) here
    ∙ (ap (λ q. x.to == machine s && (not q && x.round == r)) taken
    ∙ ap (λ q. x.to == machine s && (not (has_taken s x) && x.round == q)) now)

pub no_spot : (spot : Spot) → is_over spot ≡ false → spot ≢ spots.Over
no_spot spot going e = false≢true (sym going ∙ ap is_over e)

pub going_is : (b : Bool) → not b ≡ true → b ≡ false
going_is true e = absurd (cc)
going_is false e = refl

pub over_is : (b : Bool) → not b ≡ false → b ≡ true
over_is true e = refl
over_is false e = absurd (cc)

pub sends_wants : {S : Type 0} (held : S → Option (List ℕ)) (faults spare : S → ℕ) (sink : S) (text : List ℕ) →
    Sends held faults spare sink sink text (Err send.Want)
sends_wants held faults spare sink text = record {
  whole = tt;
  part = no_part (held sink) text;
  counted = tt;
  want = λ e. refl;
  failed = λ e. absurd (no_sink e);
  spared = tt;
}

-- ---- one step
module _ (work : Work) (sound : State → Type 0) (lawful : IsLawful work sound) (at : ℕ) (s : State) (names : Held)
    (stands : Stands sound s names) (old new : Streams) where
  -- the machine acted, and what it sent was written
  module _ (ready : action_of s ≡ Ready) (same : new.left ≡ old.left) (kept : new.takes ≡ old.takes) where
    acted_by : (behind : List ℕ) → served_from work at s behind
        ≡ behind_text (spelled_letters (work.sent s)) (served_from work at (work.go s) behind)
    acted_by behind = at_action work sound lawful at s behind stands.walks ready

    pub acted : (t : State) (after : Held) → t ≡ work.go s → after ≡ names_from (work.go s) names →
        new.held ≡ gained old.held (spelled_letters (work.sent s)) → new.puts ≡ old.puts →
        old.spare ≤ new.spare + length (spelled_letters (work.sent s)) →
        Goes work sound at s names old new t after 0
    acted t after t_is after_is held puts spared =
        subst (λ (q : State). Goes work sound at s names old new q after 0) (sym t_is)
        (subst (λ (q : Held). Goes work sound at s names old new (work.go s) q 0) (sym after_is)
        (record {
          front = [];
          text = spelled_letters (work.sent s);
          size_is = refl;
          left = sym same ∙ led_nothing new.left;
          held = held;
          takes = kept;
          puts = puts;
          spared = spared;
          serves = λ behind. acted_by behind
              ∙ ap (λ n. behind_text (spelled_letters (work.sent s)) (served_from work n (work.go s) behind))
              (add_nothing at);
          stands = go_stands work sound lawful s names stands ready;
          same_part = lawful.go_part s;
          same_split = lawful.go_split s;
          less = go_less work sound lawful s names stands ready;
          small = omega arith;
          low = go_low work sound lawful s names stands ready at;
        }))
      where
        add_nothing : (n : ℕ) → n ≡ n + 0
        add_nothing n = omega arith

    broke : GainedPart old.held new.held (spelled_letters (work.sent s)) →
        Breaks at [] (served_from work at s ([] ++ told new.left)) old new
    broke part =
        let w = served_from work at (work.go s) (told new.left) in
        let is = acted_by (told new.left) in
        record {
          left = sym same ∙ led_nothing new.left;
          within = let grows = used_grows work at s (told new.left) in omega arith;
          part = subst (λ (q : Served). GainedPart old.held new.held q.text) (sym is)
              (part_of_longer old.held new.held (spelled_letters (work.sent s)) w.text part);
        }

    pub broke_want : GainedPart old.held new.held (spelled_letters (work.sent s)) → new.puts ≡ old.puts →
        StepFails at [] (served_from work at s ([] ++ told new.left)) old new serve.Want
    broke_want part puts = (broke part, kept, puts)

    pub broke_sink : GainedPart old.held new.held (spelled_letters (work.sent s)) →
        Rose old.puts new.puts × (old.spare ≤ length (spelled_letters (work.sent s))) →
        StepFails at [] (served_from work at s ([] ++ told new.left)) old new serve.Sink
    broke_sink part sink =
        let w = served_from work at (work.go s) (told new.left) in
        let is = acted_by (told new.left) in
        let long : old.spare ≤ length (served_from work at s (told new.left)).text =
        subst (λ (q : Served). old.spare ≤ length q.text) (sym is)
        (omega (arith, sink.1, length-append (spelled_letters (work.sent s)) w.text)) in
        (broke part, sink.0, long, kept)

    pub unsent_so : (fault : SendFault) → GainedPart old.held new.held (spelled_letters (work.sent s)) →
        (fault ≡ send.Want → new.puts ≡ old.puts) →
        (fault ≡ send.Sink → Rose old.puts new.puts × (old.spare ≤ length (spelled_letters (work.sent s)))) →
        StepFails at [] (served_from work at s ([] ++ told new.left)) old new (unsent fault)
    unsent_so send.Want part want sink = broke_want part (want refl)
    unsent_so send.Sink part want sink = broke_sink part (sink refl)

  -- the machine waited for a message
  module _ (x : Name) (waits : action_of s ≡ Waits x) (same : new.held ≡ old.held) (kept : new.puts ≡ old.puts)
      (spare : new.spare ≡ old.spare) where
    read_by : (bytes : List ℕ) → served_from work at s bytes ≡ reads work (served_from work) at s x bytes
    read_by bytes = at_message work sound lawful at s x bytes stands.walks waits

    read_as : (bytes : List ℕ) (size : ℕ) (front : AtFront) → read_of (shape_at s) bytes ≡ size →
        front_of (shape_at s) bytes ≡ front →
        served_from work at s bytes ≡ takes_front work (served_from work) at s x size front
    read_as bytes size front size_is front_is =
        read_by bytes
        ∙ (ap (λ n. takes_front work (served_from work) at s x n (front_of (shape_at s) bytes)) size_is
        ∙ ap (λ f. takes_front work (served_from work) at s x size f) front_is)

    module _ (front : List ℕ) (t : State) (after : Held) (size : ℕ) where
      pub took : old.left ≡ led_by front new.left → new.takes ≡ old.takes → size ≡ length front →
          size < 8589934592 → Takes work s names front t after → Goes work sound at s names old new t after size
      took left takes size_is small taken =
          let l = taken.letter in
          let can = taken.takeable in
          subst (λ (q : State). Goes work sound at s names old new q after size) (sym taken.state)
          (subst (λ (q : Held). Goes work sound at s names old new (work.take s l) q size) (sym taken.names_are)
          (record {
            front = front;
            text = [];
            size_is = size_is;
            left = left;
            held = same ∙ sym (gained-nothing old.held);
            takes = takes;
            puts = kept;
            spared = omega (arith, spare);
            serves = λ behind.
                let read = taken.read behind in
                read_as (front ++ behind) size (There l behind) (read.size ∙ sym size_is) read.there
                ∙ ap (λ b. if b then served_from work (at + size) (work.take s l) behind
                else ends_at (at + size) (Refuses 5 at)) taken.due;
            stands = take_stands work sound lawful s names stands l can;
            same_part = lawful.take_part s l;
            same_split = lawful.take_split s l;
            less = take_less work sound lawful s names stands l can;
            small = small;
            low = take_low work sound lawful s names stands l can at size small;
          }))

    halts : (front : List ℕ) (end : End) → old.left ≡ led_by front new.left → new.takes ≡ old.takes →
        served_from work at s (front ++ told new.left) ≡ ends_at (at + length front) end →
        Halts at front (served_from work at s (front ++ told new.left)) old new
    halts front end left takes is = record {
      left = left;
      used = ap (λ (w : Served). w.used) is;
      text = ap (λ (w : Served). w.text) is;
      same = same;
      takes = takes;
      puts = kept;
      spared = omega (arith, spare);
    }

    pub lacked : (front : List ℕ) → old.left ≡ led_by front new.left → new.takes ≡ old.takes →
        front_of (shape_at s) (front ++ told new.left) ≡ NoByte → length front ≡ 0 →
        StepFails at front (served_from work at s (front ++ told new.left)) old new (serve.Ended x)
    lacked front left takes none empty =
        let is : served_from work at s (front ++ told new.left) ≡ ends_at (at + length front) (Lacks x) =
        read_as (front ++ told new.left) (read_of (shape_at s) (front ++ told new.left)) NoByte refl none
        ∙ ap (λ n. ends_at n (Lacks x)) (let e : at ≡ at + length front = omega arith in e) in
        (ap (λ (w : Served). w.end) is, halts front (Lacks x) left takes is)

    refused_is : (front : List ℕ) (code : ℕ) →
        IsWrong (shape_at s) front (told new.left) code ⊎ IsUndue s front (told new.left) code →
        served_from work at s (front ++ told new.left) ≡ ends_at (at + length front) (Refuses code at)
    refused_is front code (inl wrong) =
        read_as (front ++ told new.left) (length front) (Wrong code) wrong.size wrong.wrong
    refused_is front code (inr undue) =
        read_as (front ++ told new.left) (length front) (There undue.letter (told new.left)) undue.read.size
        undue.read.there
        ∙ (ap (λ b. if b then served_from work (at + length front) (work.take s undue.letter) (told new.left)
        else ends_at (at + length front) (Refuses 5 at)) undue.undue
        ∙ ap (λ n. ends_at (at + length front) (Refuses n at)) (sym undue.is))

    pub refused : (front : List ℕ) (code : ℕ) → old.left ≡ led_by front new.left → new.takes ≡ old.takes →
        IsWrong (shape_at s) front (told new.left) code ⊎ IsUndue s front (told new.left) code →
        StepFails at front (served_from work at s (front ++ told new.left)) old new (serve.Message code at)
    refused front code left takes wrong =
        let is = refused_is front code wrong in
        (ap (λ (w : Served). w.end) is, halts front (Refuses code at) left takes is)

    pub cut_off : (front : List ℕ) → old.left ≡ led_by front new.left →
        length front ≤ read_of (shape_at s) (front ++ told new.left) →
        Breaks at front (served_from work at s (front ++ told new.left)) old new
    cut_off front left few =
        let w = served_from work at s (front ++ told new.left) in
        record {
          left = left;
          within = subst (λ (q : Served). at + length front ≤ q.used) (sym (read_by (front ++ told new.left)))
              (part_used work at s x front (told new.left) few);
          part = subst (λ (h : Option (List ℕ)). GainedPart old.held h w.text) (sym same) (no_part old.held w.text);
        }

    pub unread_so : (front : List ℕ) (t : State) (after : Held) (fault : ReadFault) →
        old.left ≡ led_by front new.left → TakesNext work s names front (told new.left) t after (Err fault) →
        ((fault ≡ Source → ⊥) → new.takes ≡ old.takes) → (fault ≡ Source → Rose old.takes new.takes) →
        StepFails at front (served_from work at s (front ++ told new.left)) old new (unread fault x at)
    unread_so front t after Ended left given counted failed =
        lacked front left (counted ended_apart) given.0 given.1
    unread_so front t after (Faulty code) left given counted failed =
        refused front code left (counted (faulty_apart code)) given
    unread_so front t after Source left given counted failed = (cut_off front left given, failed refl, kept)
    unread_so front t after Want left given counted failed = (cut_off front left given, counted want_apart, kept)

-- ---- the whole
behind_behind : (first second : List ℕ) (w : Served) →
    behind_text first (behind_text second w) ≡ behind_text (first ++ second) w
behind_behind first second w =
    ap (λ (q : List ℕ). (let r : Served = record { used = w.used; text = q; end = w.end } in r))
    (sym (append_assoc first second w.text))

are_left : (front : List ℕ) (old left : Option (List ℕ)) → old ≡ led_by front left →
    IfSome old (λ l. l ≡ front ++ told left)
are_left front old left is = subst (λ (q : Option (List ℕ)). IfSome q (λ l. l ≡ front ++ told left)) (sym is) (by left)
  where
    by : (left : Option (List ℕ)) → IfSome (led_by front left) (λ l. l ≡ front ++ told left)
    by None = tt
    by (Some rest) = refl

left_is : (front : List ℕ) (n : ℕ) (old left : Option (List ℕ)) → length front ≡ n → old ≡ led_by front left →
    left ≡ option_map (drop n) old
left_is front n old left len is = by left ∙ ap (option_map (drop n)) (sym is)
  where
    by : (left : Option (List ℕ)) → left ≡ option_map (drop n) (led_by front left)
    by None = refl
    by (Some rest) = ap Some (sym (dropped_at n front rest len))

module _ (work : Work) (sound : State → Type 0) (lawful : IsLawful work sound) (part : PlainPart) (split : Split)
    (old now : Streams) (at : ℕ) (s : State) (names : Held)
    (along : IsAlong work sound part split old now at s names) where
  pub along_goes : (new : Streams) (t : State) (after : Held) (size next : ℕ) → next ≡ at + size →
      Goes work sound at s names now new t after size → IsAlong work sound part split old new next t after
  along_goes new t after size next next_is goes =
      subst (λ (n : ℕ). IsAlong work sound part split old new n t after) (sym next_is)
      (record {
        read = along.read ++ goes.front;
        text = along.text ++ goes.text;
        at_is = omega (arith, along.at_is, goes.size_is, length-append along.read goes.front);
        left = led_on along.read goes.front old.left now.left new.left along.left goes.left;
        held = goes.held ∙ (ap (λ (h : Option (List ℕ)). gained h goes.text) along.held
            ∙ gained-gained old.held along.text goes.text);
        takes = goes.takes ∙ along.takes;
        puts = goes.puts ∙ along.puts;
        spared = omega (arith, along.spared, goes.spared, length-append along.text goes.text);
        serves = λ behind.
            ap (worker work part split) (append_assoc along.read goes.front behind)
            ∙ (along.serves (goes.front ++ behind)
            ∙ (ap (behind_text along.text) (goes.serves behind)
            ∙ behind_behind along.text goes.text (served_from work (at + size) t behind)));
        stands = goes.stands;
        low = goes.low along.low;
      })

  module _ (new : Streams) (front : List ℕ) (left : now.left ≡ led_by front new.left) where
    bytes : List ℕ
    bytes = (along.read ++ front) ++ told new.left

    ahead : Served
    ahead = served_from work at s (front ++ told new.left)

    whole_is : worker work part split ((along.read ++ front) ++ told new.left)
        ≡ behind_text along.text (served_from work at s (front ++ told new.left))
    whole_is = ap (worker work part split) (append_assoc along.read front (told new.left))
        ∙ along.serves (front ++ told new.left)

    all_left : old.left ≡ led_by (along.read ++ front) new.left
    all_left = led_on along.read front old.left now.left new.left along.left left

    served_so : (w : Served) → Halts at front w now new → IsServed (behind_text along.text w) old new
    served_so w halts = record {
      left = left_is (along.read ++ front) w.used old.left new.left
          (omega (arith, halts.used, along.at_is, length-append along.read front)) all_left;
      held = halts.same ∙ (along.held ∙ ap (gained old.held)
          (sym (ap (λ (q : List ℕ). along.text ++ q) halts.text ∙ append-nil along.text)));
      takes = halts.takes ∙ along.takes;
      puts = halts.puts ∙ along.puts;
      spared = omega (arith, along.spared, halts.spared, length-append along.text w.text);
    }

    served_part : (w : Served) → Breaks at front w now new → IsServedPart (behind_text along.text w) old new
    served_part w breaks = record {
      size = length (along.read ++ front);
      within = omega (arith, breaks.within, along.at_is, length-append along.read front);
      lost = left_is (along.read ++ front) (length (along.read ++ front)) old.left new.left refl all_left;
      part = part_after old.held now.held new.held along.text w.text along.held breaks.part;
    }

    fails_so : {X : Type 0} (state : X → State) (w : Served) (fault : ServeFault) → StepFails at front w now new fault →
        Serves state (behind_text along.text w) old new (Err fault)
    fails_so state w (serve.Message code place) fails = (fails.0, served_so w fails.1)
    fails_so state w (serve.Ended x) fails = (fails.0, served_so w fails.1)
    fails_so state w serve.Source fails = (
      served_part w fails.0,
      subst (λ (n : ℕ). Rose n new.takes) along.takes fails.1,
      fails.2 ∙ along.puts,
    )
    fails_so state w serve.Sink fails = (
      served_part w fails.0,
      subst (λ (n : ℕ). Rose n new.puts) along.puts fails.1,
      omega (arith, along.spared, fails.2, length-append along.text w.text),
      fails.3 ∙ along.takes,
    )
    fails_so state w serve.Want fails = (served_part w fails.0, fails.1 ∙ along.takes, fails.2 ∙ along.puts)

    pub along_fails : {X : Type 0} (state : X → State) (fault : ServeFault) →
        StepFails at front (served_from work at s (front ++ told new.left)) now new fault →
        (all : List ℕ) × IfSome old.left (λ l. l ≡ all) × Serves state (worker work part split all) old new (Err fault)
    along_fails state fault fails = (
      (along.read ++ front) ++ told new.left,
      are_left (along.read ++ front) old.left new.left all_left,
      subst (λ (w : Served). Serves state w old new (Err fault)) (sym whole_is)
          (fails_so state (served_from work at s (front ++ told new.left)) fault fails),
    )

  pub along_ends : {X : Type 0} (state : X → State) (site : X) → state site ≡ s → is_over s.at.spot ≡ true →
      (all : List ℕ) × IfSome old.left (λ l. l ≡ all) × Serves state (worker work part split all) old now (Ok site)
  along_ends state site is over =
      let w = served_from work at s (told now.left) in
      let end : w ≡ ends_at at (Finishes s) = at_end work sound lawful at s (told now.left) along.stands.walks
      (ap (λ b. if b then Over else waiting_for (first_missing (needs s) s.held)) over) in
      let halts : Halts at [] w now now = record {
        left = led_nothing now.left;
        used = ap (λ (q : Served). q.used) end ∙ (let e : at ≡ at + 0 = omega arith in e);
        text = ap (λ (q : Served). q.text) end;
        same = refl;
        takes = refl;
        puts = refl;
        spared = omega arith;
      } in
      let whole = whole_is now [] (led_nothing now.left) in (
        (along.read ++ []) ++ told now.left,
        are_left (along.read ++ []) old.left now.left (all_left now [] (led_nothing now.left)),
        subst (λ (q : Served). Serves state q old now (Ok site)) (sym whole)
            (ap (λ (q : Served). q.end) end ∙ ap Finishes (sym is), served_so now [] (led_nothing now.left) w halts),
      )

-- the bytes that a step lost before it failed
pub fails_left : (at : ℕ) (front : List ℕ) (w : Served) (old new : Streams) (fault : ServeFault) →
    StepFails at front w old new fault → old.left ≡ led_by front new.left
fails_left at front w old new (serve.Message code place) fails = fails.1.left
fails_left at front w old new (serve.Ended x) fails = fails.1.left
fails_left at front w old new serve.Source fails = fails.0.left
fails_left at front w old new serve.Sink fails = fails.0.left
fails_left at front w old new serve.Want fails = fails.0.left

-- memory was wanting before the first step
pub wants_at_once : {X : Type 0} (state : X → State) (work : Work) (part : PlainPart) (split : Split) (old : Streams) →
    (all : List ℕ) × IfSome old.left (λ l. l ≡ all) × Serves state (worker work part split all) old old (Err serve.Want)
wants_at_once state work part split old = (
  told old.left,
  are_left [] old.left old.left (led_nothing old.left),
  (
    record {
      size = 0;
      within = omega arith;
      lost = left_is [] 0 old.left old.left refl (led_nothing old.left);
      part = no_part old.held (worker work part split (told old.left)).text;
    },
    refl,
    refl,
  ),
)

-- the first state
module _ (work : Work) (sound : State → Type 0) (part : PlainPart) (split : Split) (old : Streams) (s : State)
    (names : Held) where
  pub begins_along : s ≡ work.first part split → Stands sound (work.first part split) names →
      IsAlong work sound part split old old 0 s names
  begins_along is stands =
      subst (λ (q : State). IsAlong work sound part split old old 0 q names) (sym is)
      (record {
        read = [];
        text = [];
        at_is = refl;
        left = led_nothing old.left;
        held = sym (gained-nothing old.held);
        takes = refl;
        puts = refl;
        spared = omega arith;
        serves = λ behind. refl;
        stands = stands;
        low = λ going. omega arith;
      })
