-- One event more in a schedule.
use Rattle.std.proofs.Common.{◌≡◌, ℕ, ◌+◌, ◌<◌, ◌≤◌, List, [], ◌∷◌, ◌++◌, length, refl, ap, sym, subst, ◌∙◌, arith, append_assoc}
use Rattle.std.proofs.lemmas.List.{append-nil, length-append}
use Rattle.vert_base.specs.declared.message.Event.{Event}
use Rattle.vert_base.specs.declared.message.Event.TheVariants.{Go, Take}
use Rattle.vert_base.proofs.Orders.{all_append}
use Rattle.delivery_log.specs.declared.form.Form.{Form}
use Rattle.delivery_log.specs.ScheduleTexts.{IsEvent, IsSchedule, round_lines, take_line, text_of, event_lines, events_lines, header_line, last_round, round_after, schedule_lines, schedule_text}

pub text-append : (xs ys : List (List ℕ)) → text_of (xs ++ ys) ≡ text_of xs ++ text_of ys
text-append [] ys = refl
text-append (x ∷ xs) ys = ap (λ t. x ++ 10 ∷ t) (text-append xs ys)
    ∙ sym (append_assoc x (10 ∷ text_of xs) (text_of ys))

pub round_more : (held : ℕ) (es : List Event) (e : Event) →
    last_round held (es ++ e ∷ []) ≡ round_after (last_round held es) e
round_more held [] e = refl
round_more held (x ∷ xs) e = round_more (round_after held x) xs e

events_more : (form : Form) (held : ℕ) (es : List Event) (e : Event) →
    events_lines form held (es ++ e ∷ []) ≡ events_lines form held es ++ event_lines form (last_round held es) e
events_more form held [] e = append-nil (event_lines form held e)
events_more form held (x ∷ xs) e =
    ap (λ t. event_lines form held x ++ t) (events_more form (round_after held x) xs e)
    ∙ sym (append_assoc (event_lines form held x) (events_lines form (round_after held x) xs)
    (event_lines form (last_round (round_after held x) xs) e))

pub lines_more : (form : Form) (machines : ℕ) (es : List Event) (e : Event) →
    schedule_lines form machines (es ++ e ∷ []) ≡ schedule_lines form machines es
    ++ event_lines form (last_round 0 es) e
lines_more form machines es e = ap (λ t. header_line form machines ∷ t) (events_more form 0 es e)

pub text_more : (form : Form) (machines : ℕ) (es : List Event) (e : Event) →
    schedule_text form machines (es ++ e ∷ []) ≡ schedule_text form machines es
    ++ text_of (event_lines form (last_round 0 es) e)
text_more form machines es e = ap text_of (lines_more form machines es e)
    ∙ text-append (schedule_lines form machines es) (event_lines form (last_round 0 es) e)

-- behind a schedule stands an event
pub schedule_more :
    (form : Form) (machines held : ℕ) (es : List Event) (e : Event) (text rest behind : List ℕ) →
    held ≡ last_round 0 es →
    text ≡ schedule_text form machines es ++ rest →
    rest ≡ text_of (event_lines form held e) ++ behind →
    text ≡ schedule_text form machines (es ++ e ∷ []) ++ behind
schedule_more form machines held es e text rest behind h t r =
    t
    ∙ (ap (λ q. schedule_text form machines es ++ q) (r ∙ ap (λ q. text_of (event_lines form q e) ++ behind) h)
    ∙ (sym (append_assoc (schedule_text form machines es) (text_of (event_lines form (last_round 0 es) e)) behind)
    ∙ ap (λ q. q ++ behind) (sym (text_more form machines es e))))

module _ (form : Form) (machines held : ℕ) (es : List Event) (e : Event) (number lines : ℕ) where
  pub count_more : held ≡ last_round 0 es → number ≡ length (schedule_lines form machines es) + 1 →
      lines ≡ length (event_lines form held e) →
      number + lines ≡ length (schedule_lines form machines (es ++ e ∷ [])) + 1
  count_more h n l =
      let here : lines ≡ length (event_lines form (last_round 0 es) e) = l ∙ ap (λ q. length (event_lines form q
      e)) h in
      let whole = ap length (lines_more form machines es e)
      ∙ length-append (schedule_lines form machines es) (event_lines form (last_round 0 es) e) in
      omega (arith, n, here, whole)

-- each line has a byte or more
pub lines_small : (lines : List (List ℕ)) (rest : List ℕ) → length lines + length rest ≤ length (text_of lines ++ rest)
lines_small [] rest = omega arith
lines_small (l ∷ ls) rest =
    let more = lines_small ls rest in
    let a = length-append (text_of (l ∷ ls)) rest in
    let b = length-append l (10 ∷ text_of ls) in
    let d = length-append (text_of ls) rest in
    omega (arith, more, a, b, d)

pub is_more : (form : Form) (machines : ℕ) (es new : List Event) (e : Event) → IsSchedule form machines es →
    IsEvent e → new ≡ es ++ e ∷ [] → IsSchedule form machines new
is_more form machines es new e is one n =
    let more : IsSchedule form machines (es ++ e ∷ []) =
    record { some = is.some; few = is.few; each = all_append IsEvent es (e ∷ []) is.each (one, tt) } in
    subst (λ q. IsSchedule form machines q) (sym n) more

some_lines : (form : Form) (held : ℕ) (e : Event) → 1 ≤ length (event_lines form held e)
some_lines form held (Go m) = omega arith
some_lines form held (Take x) =
    let own = length-append (round_lines form held x.round) (take_line form x ∷ []) in
    omega (arith, own)

-- the lines of an event take a byte or more each, and there is one
pub left_small : (form : Form) (held : ℕ) (e : Event) (rest behind : List ℕ) →
    rest ≡ text_of (event_lines form held e) ++ behind → (length behind < length rest) ×
    (length (event_lines form held e) + length behind ≤ length rest)
left_small form held e rest behind r =
    let all = lines_small (event_lines form held e) behind in
    let some = some_lines form held e in
    let same = ap length r in
    (omega (arith, all, some, same), omega (arith, all, same))
