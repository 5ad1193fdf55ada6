-- What a recorder writes.
use Rattle.std.proofs.Common.{◌≡◌, ℕ, ◌≤◌, List, [], ◌∷◌, ◌++◌, length, ap, sym, ◌∙◌, arith, length-append}
use Rattle.std.specs.Prelude.{decimal, Result, Ok, Err}
use Rattle.std.specs.Result.{IsErrAnd}
use Rattle.std.proofs.lemmas.Fmt.{length-decimal-le}
use Rattle.delivery_log.specs.declared.fault.RecordFault.{RecordFault}
use Rattle.delivery_log.specs.declared.form.Form.TheVariants.{Roundless}
use Rattle.vert_base.specs.declared.message.Event.{Event}
use Rattle.vert_base.specs.declared.limits.TheConstants.{SCHEDULE_BYTES}
use Rattle.delivery_log.specs.Records.{Recording, Records}
use Rattle.delivery_log.specs.ScheduleTexts.{event_lines, header_text, last_round, round_after, schedule_text, text_of}
use Rattle.delivery_log.proofs.ReadLaws.{round_more, text_more}

-- the text of the machines alone is short
pub begun_small : (machines : ℕ) → machines ≤ 64 → length (schedule_text Roundless machines []) ≤ 23
begun_small machines few =
    let digits = length-decimal-le 2 machines (omega arith) (omega arith) (omega arith) in
    let line = length-append (header_text Roundless) (decimal machines) in
    let whole = length-append (header_text Roundless ++ decimal machines) (10 ∷ []) in
    omega (arith, digits, line, whole)

-- the text with the lines of one event more
pub text_added :
    (recording : Recording) (machines : ℕ) (events : List Event) (e : Event) (before lines text : List ℕ) (held : ℕ) →
    Records recording machines events →
    record { text = before; held = held } ≡ recording →
    lines ≡ text_of (event_lines Roundless held e) →
    text ≡ before ++ lines →
    text ≡ schedule_text Roundless machines (events ++ e ∷ [])
text_added recording machines events e before lines text held is view line whole =
    let own : before ≡ schedule_text Roundless machines events = ap (λ (r : Recording). r.text) view ∙ is.spelled in
    let round : held ≡ last_round 0 events = ap (λ (r : Recording). r.held) view ∙ is.held in
    whole ∙ ap (λ (t : List ℕ). t ++ lines) own
    ∙ ap (λ (t : List ℕ). schedule_text Roundless machines events ++ t)
    (line ∙ ap (λ (q : ℕ). text_of (event_lines Roundless q e)) round)
    ∙ sym (text_more Roundless machines events e)

pub record_added :
    (recording : Recording) (machines : ℕ) (events : List Event) (e : Event) (before lines text : List ℕ)
    (held round : ℕ) →
    Records recording machines events →
    record { text = before; held = held } ≡ recording →
    lines ≡ text_of (event_lines Roundless held e) →
    text ≡ before ++ lines →
    length text ≤ SCHEDULE_BYTES →
    round ≡ round_after held e →
    Records (record { text = text; held = round }) machines (events ++ e ∷ [])
record_added recording machines events e before lines text held round is view line whole fits next = record {
  some = is.some;
  few = is.few;
  fits = fits;
  spelled = text_added recording machines events e before lines text held is view line whole;
  held = next ∙ ap (λ (q : ℕ). round_after q e) (ap (λ (r : Recording). r.held) view ∙ is.held)
      ∙ sym (round_more 0 events e);
}

-- a fault handed on is the fault that came
pub same_fault : (result : Result (Unit {0}) RecordFault) (came sought : RecordFault) →
    IsErrAnd result (λ fault. fault ≡ came) → result ≡ Err sought →
    ◌≡◌ {A = Result (Unit {0}) RecordFault} (Err came) (Err sought)
same_fault (Ok done) came sought is e = absurd is
same_fault (Err fault) came sought is e = ap Err (sym is) ∙ e
