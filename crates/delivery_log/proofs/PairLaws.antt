-- A text settles the machines and the events for which it stands.
use Rattle.std.proofs.Common.{◌≡◌, ℕ, ◌+◌, ◌≤◌, ◌++◌, List, [], ◌∷◌, drop, length, refl, ap, sym, subst, ◌∙◌, arith, append_assoc, append-nil, Ok, Err}
use Rattle.std.specs.List.{AllByRecursion}
use Rattle.std.proofs.lemmas.Fmt.{decimal_injective}
use Rattle.vert_base.specs.declared.message.Event.{Event}
use Rattle.delivery_log.specs.declared.form.Form.{Form}
use Rattle.delivery_log.specs.declared.form.Form.TheVariants.{Whole, Roundless}
use Rattle.delivery_log.specs.declared.fault.ScheduleFault.TheVariants.{Header, Line, TooLong, Want}
use Rattle.delivery_log.specs.LineReading.{IsHeader}
use Rattle.delivery_log.specs.Laws.{HasOneFault, HasOneText, HasText, ReadsBack, RecordIsRead, StandsForOne}
use Rattle.delivery_log.specs.Says.{HasBadLine, HasNoEvent, HasNoHeader}
use Rattle.delivery_log.specs.ScheduleTexts.{IsEvent, IsSchedule, event_lines, events_lines, header_line, last_round, most_machines, round_after, schedule_lines, schedule_text, text_of}
use Rattle.delivery_log.proofs.LineLaws.{same_line}
use Rattle.delivery_log.proofs.OneLaws.{one_event}
use Rattle.delivery_log.proofs.PlainLaws.{header_is_line}
use Rattle.delivery_log.proofs.ReadLaws.{left_small, text-append}
use Rattle.delivery_log.proofs.TakeLaws.{one_form}

-- the text of the first event, and that of the others
abbrev rest_text : Form → ℕ → List Event → List ℕ
rest_text form held events = text_of (events_lines form held events)

first_event : (form : Form) (held : ℕ) (e : Event) (es : List Event) →
    rest_text form held (e ∷ es) ≡ text_of (event_lines form held e) ++ rest_text form (round_after held e) es
first_event form held e es = text-append (event_lines form held e) (events_lines form (round_after held e) es)

-- events that stand in front of some bytes are the first ones of those that are the whole text
pub record Front (form : Form) (held : ℕ) (es fs : List Event) (rest : List ℕ) : Type 0 where
  pub others : List Event
  pub is : es ≡ fs ++ others
  pub each : AllByRecursion IsEvent others
  pub left : rest ≡ rest_text form (last_round held fs) others

pub front_of : (form : Form) (held : ℕ) (es fs : List Event) (rest : List ℕ) → AllByRecursion IsEvent es →
    AllByRecursion IsEvent fs → rest_text form held es ≡ rest_text form held fs ++ rest → Front form held es fs rest
front_of form held es [] rest a b e = record { others = es; is = refl; each = a; left = sym e }
front_of form held [] (f ∷ fs) rest a b e =
    let own : [] ≡ text_of (event_lines form held f) ++ (rest_text form (round_after held f) fs ++ rest) =
    e ∙ ap (λ t. t ++ rest) (first_event form held f fs)
    ∙ append_assoc (text_of (event_lines form held f)) (rest_text form (round_after held f) fs) rest in
    let small = left_small form held f [] (rest_text form (round_after held f) fs ++ rest) own in
    absurd (omega (arith, small.0))
front_of form held (x ∷ es) (f ∷ fs) rest a b e =
    let own : text_of (event_lines form held x) ++ rest_text form (round_after held x) es
    ≡ text_of (event_lines form held f) ++ (rest_text form (round_after held f) fs ++ rest) =
    sym (first_event form held x es) ∙ e ∙ ap (λ t. t ++ rest) (first_event form held f fs)
    ∙ append_assoc (text_of (event_lines form held f)) (rest_text form (round_after held f) fs) rest in
    let one = one_event form held x f (rest_text form (round_after held x) es)
    (rest_text form (round_after held f) fs ++ rest) a.0 b.0 own in
    let more = front_of form (round_after held f) es fs rest a.1 b.1
    (ap (λ q. rest_text form (round_after held q) es) (sym one.0) ∙ one.1) in
    record {
      others = more.others;
      is = ap (λ q. q ∷ es) one.0 ∙ ap (λ t. f ∷ t) more.is;
      each = more.each;
      left = more.left;
    }

-- ---- first lines
pub small_machines : (form : Form) (machines : ℕ) → machines ≤ most_machines form → machines ≤ 64
small_machines Whole machines few = omega (arith, few)
small_machines Roundless machines few = few

number_of : (form : Form) (m n : ℕ) → m ≤ 64 → n ≤ 64 → header_line form m ≡ header_line form n → m ≡ n
number_of Whole m n a b e = decimal_injective m n (omega arith) (omega arith) (ap (drop 20) e)
number_of Roundless m n a b e = decimal_injective m n (omega arith) (omega arith) (ap (drop 20) e)

-- a first line settles form and machines, and what stands behind
pub record SameHeader (f g : Form) (m n : ℕ) (r s : List ℕ) : Type 0 where
  pub form : f ≡ g
  pub machines : m ≡ n
  pub behind : r ≡ s

module _ (f g : Form) (m n : ℕ) (r s : List ℕ) where
  pub one_header : 1 ≤ m → m ≤ most_machines f → 1 ≤ n → n ≤ most_machines g →
      header_line f m ++ 10 ∷ r ≡ header_line g n ++ 10 ∷ s → SameHeader f g m n r s
  one_header a b c d e =
      let same = same_line (header_line f m) (header_line g n) r s (header_is_line f m b) (header_is_line g n d) e in
      let own : IsHeader f m (header_line f m) = record { some = a; few = b; spelled = refl } in
      let other : IsHeader g n (header_line f m) = record { some = c; few = d; spelled = same.0 } in
      let forms : f ≡ g = one_form (header_line f m) f g m n own other in
      record {
        form = forms;
        machines = number_of f m n (small_machines f m b) (small_machines g n d)
            (same.0 ∙ ap (λ q. header_line q n) (sym forms));
        behind = same.1;
      }

-- the whole text of a pair, of which another pair and some bytes are spelled too
pub record BeginsWith (m n : ℕ) (es fs : List Event) (form : Form) (rest : List ℕ) : Type 0 where
  pub machines : m ≡ n
  pub front : Front form 0 es fs rest

module _ (f g : Form) (m n : ℕ) (es fs : List Event) (rest : List ℕ) where
  pub two_texts : IsSchedule f m es → IsSchedule g n fs → schedule_text f m es ≡ schedule_text g n fs ++ rest →
      BeginsWith m n es fs g rest
  two_texts a b e =
      let same = one_header f g m n (rest_text f 0 es) (rest_text g 0 fs ++ rest) a.some a.few b.some b.few
      (e ∙ append_assoc (header_line g n) (10 ∷ rest_text g 0 fs) rest) in
      let behind : rest_text g 0 es ≡ rest_text g 0 fs ++ rest =
      ap (λ q. rest_text q 0 es) (sym same.form) ∙ same.behind in
      record { machines = same.machines; front = front_of g 0 es fs rest a.each b.each behind }

-- ---- the laws
no_others : (form : Form) (held : ℕ) (others : List Event) → [] ≡ rest_text form held others → others ≡ []
no_others form held [] e = refl
no_others form held (x ∷ xs) e =
    let small = left_small form held x [] (rest_text form (round_after held x) xs) (e ∙ first_event form held x xs) in
    absurd (omega (arith, small.0))

pub stands_for_one : StandsForOne
stands_for_one text m n es fs a b =
    let both = two_texts a.form b.form m n es fs [] a.is b.is
    (sym a.spelled ∙ b.spelled ∙ sym (append-nil (schedule_text b.form n fs))) in
    let none = no_others b.form (last_round 0 fs) both.front.others both.front.left in
    (both.machines, both.front.is ∙ ap (λ t. fs ++ t) none ∙ append-nil fs)

pub has_text : HasText
has_text form machines events is fits = (
  schedule_text form machines events,
  (record { form = form; is = is; fits = fits; spelled = refl }, refl),
)

pub has_one_text : HasOneText
has_one_text form machines events a b said also =
    said.0.spelled ∙ ap (λ q. schedule_text q machines events) (said.1 ∙ sym also.1) ∙ sym also.0.spelled

no_bad : (form : Form) (held : ℕ) (others : List Event) (rest : List ℕ) → AllByRecursion IsEvent others →
    rest ≡ rest_text form held others → HasNoEvent form held rest → ⊥
no_bad form held [] rest each e bad = bad.some e
no_bad form held (x ∷ xs) rest each e bad =
    bad.none x (rest_text form (round_after held x) xs) each.0 (e ∙ first_event form held x xs)

pub reads_back : ReadsBack
reads_back text machines events (Ok schedule) said gives =
    stands_for_one text schedule.machines machines schedule.events.items events gives said
reads_back text machines events (Err TooLong) said gives = omega (arith, gives, said.fits)
reads_back text machines events (Err Header) said gives =
    gives.none said.form machines (rest_text said.form 0 events) said.is.some said.is.few said.spelled
reads_back text machines events (Err (Line number)) said gives =
    let both = two_texts said.form gives.form machines gives.machines events gives.events gives.rest said.is gives.is
    (sym said.spelled ∙ gives.spelled) in
    no_bad gives.form (last_round 0 gives.events) both.front.others gives.rest both.front.each both.front.left gives.bad
reads_back text machines events (Err Want) said gives = tt

pub record_is_read : RecordIsRead
record_is_read recording machines events result is each gives =
    reads_back recording.text machines events result
    (record {
      form = Roundless;
      is = record { some = is.some; few = is.few; each = each };
      fits = is.fits;
      spelled = is.spelled;
    })
    gives

-- events in front of some bytes that begin with none are one list
module _ (form : Form) (r s : List ℕ) where
  both_bad : (held : ℕ) (es fs : List Event) → AllByRecursion IsEvent es → AllByRecursion IsEvent fs →
      rest_text form held es ++ r ≡ rest_text form held fs ++ s → HasNoEvent form (last_round held es) r →
      HasNoEvent form (last_round held fs) s → es ≡ fs
  both_bad held [] [] a b e bad worse = refl
  both_bad held [] (f ∷ fs) a b e bad worse = absurd (bad.none f (rest_text form (round_after held f) fs ++ s)
      b.0
      (e ∙ ap (λ t. t ++ s) (first_event form held f fs)
      ∙ append_assoc (text_of (event_lines form held f)) (rest_text form (round_after held f) fs) s))
  both_bad held (x ∷ es) [] a b e bad worse = absurd (worse.none x (rest_text form (round_after held x)
      es ++ r) a.0
      (sym e ∙ ap (λ t. t ++ r) (first_event form held x es)
      ∙ append_assoc (text_of (event_lines form held x)) (rest_text form (round_after held x) es) r))
  both_bad held (x ∷ es) (f ∷ fs) a b e bad worse =
      let own : text_of (event_lines form held x) ++ (rest_text form (round_after held x) es ++ r)
      ≡ text_of (event_lines form held f) ++ (rest_text form (round_after held f) fs ++ s) =
      sym (ap (λ t. t ++ r) (first_event form held x es)
      ∙ append_assoc (text_of (event_lines form held x)) (rest_text form (round_after held x) es) r)
      ∙ e ∙ ap (λ t. t ++ s) (first_event form held f fs)
      ∙ append_assoc (text_of (event_lines form held f)) (rest_text form (round_after held f) fs) s in
      let one = one_event form held x f (rest_text form (round_after held x) es ++ r)
      (rest_text form (round_after held f) fs ++ s) a.0 b.0 own in
      let more = both_bad (round_after held f) es fs a.1 b.1
      (ap (λ q. rest_text form (round_after held q) es ++ r) (sym one.0) ∙ one.1)
      (subst (λ q. HasNoEvent form (last_round (round_after held q) es) r) one.0 bad) worse in
      ap (λ q. q ∷ es) one.0 ∙ ap (λ t. f ∷ t) more

bad_same : (text : List ℕ) (m n : ℕ) → HasBadLine text m → HasBadLine text n → m ≡ n
bad_same text m n a b =
    let same = one_header a.form b.form a.machines b.machines (rest_text a.form 0 a.events ++ a.rest)
    (rest_text b.form 0 b.events ++ b.rest) a.is.some a.is.few b.is.some b.is.few
    (sym (append_assoc (header_line a.form a.machines) (10 ∷ rest_text a.form 0 a.events) a.rest) ∙ sym a.spelled
    ∙ b.spelled ∙ append_assoc (header_line b.form b.machines) (10 ∷ rest_text b.form 0 b.events) b.rest) in
    let events = both_bad b.form a.rest b.rest 0 a.events b.events a.is.each b.is.each
    (ap (λ q. rest_text q 0 a.events ++ a.rest) (sym same.form) ∙ same.behind)
    (subst (λ q. HasNoEvent q (last_round 0 a.events) a.rest) same.form a.bad) b.bad in
    a.counted
    ∙ ap (λ q. length (schedule_lines q a.machines a.events) + 1) same.form
    ∙ ap (λ es. length (schedule_lines b.form a.machines es) + 1) events
    ∙ sym b.counted

no_header_no_line : (text : List ℕ) (number : ℕ) → HasNoHeader text → HasBadLine text number → ⊥
no_header_no_line text number lacks bad =
    lacks.none bad.form bad.machines (rest_text bad.form 0 bad.events ++ bad.rest) bad.is.some bad.is.few
    (bad.spelled ∙ append_assoc (header_line bad.form bad.machines) (10 ∷ rest_text bad.form 0 bad.events) bad.rest)

pub has_one_fault : HasOneFault
has_one_fault text TooLong TooLong a b long also = refl
has_one_fault text TooLong Header a b long also = absurd (omega (arith, long, also.fits))
has_one_fault text TooLong (Line n) a b long also = absurd (omega (arith, long, also.fits))
has_one_fault text TooLong Want a b long also = absurd (b refl)
has_one_fault text Header TooLong a b lacks also = absurd (omega (arith, also, lacks.fits))
has_one_fault text Header Header a b lacks also = refl
has_one_fault text Header (Line n) a b lacks also = absurd (no_header_no_line text n lacks also)
has_one_fault text Header Want a b lacks also = absurd (b refl)
has_one_fault text (Line m) TooLong a b bad also = absurd (omega (arith, also, bad.fits))
has_one_fault text (Line m) Header a b bad also = absurd (no_header_no_line text m also bad)
has_one_fault text (Line m) (Line n) a b bad also = ap Line (bad_same text m n bad also)
has_one_fault text (Line m) Want a b bad also = absurd (b refl)
has_one_fault text Want TooLong a b bad also = absurd (a refl)
has_one_fault text Want Header a b bad also = absurd (a refl)
has_one_fault text Want (Line n) a b bad also = absurd (a refl)
has_one_fault text Want Want a b bad also = refl
