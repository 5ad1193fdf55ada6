-- A text of lines settles the event that begins it.
use Rattle.std.proofs.Common.{◌≡◌, ℕ, ◌<◌, ◌^◌, ◌++◌, Bool, true, false, List, [], ◌∷◌, length, get_or, drop, refl, ap, sym, subst, ◌∙◌, arith, ⊎_elim}
use Rattle.std.specs.Prelude.{◌==◌, ◌&&◌, ◌||◌, ◌⊎◌, if◌then◌else◌, decimal}
use Rattle.std.specs.List.{AllByRecursion}
use Rattle.std.specs.Str.Parse.{AllDigits}
use Rattle.std.proofs.lemmas.Fmt.{decimal_injective, decimal_is_IsNumeral}
use Rattle.vert_base.specs.declared.message.Event.{Event}
use Rattle.vert_base.specs.declared.message.Event.TheVariants.{Go, Take}
use Rattle.vert_base.specs.declared.message.Name.{Name}
use Rattle.vert_base.specs.declared.message.NameKind.{NameKind}
use Rattle.vert_base.specs.declared.message.NameKind.TheVariants.{Refresh, Dep, Update, Push, Tally, Verdict}
use Rattle.vert_base.specs.HeaderBytes.{has_steps}
use Rattle.vert_base.specs.NameTexts.{IsName, kind_text, numbers_text, numbers_behind}
use Rattle.vert_base.specs.NameReading.{EndsNumber, letter_of}
use Rattle.vert_base.proofs.TextLaws.{first_letter, kind_back, same_parts, space_ends}
use Rattle.delivery_log.specs.declared.form.Form.{Form}
use Rattle.delivery_log.specs.declared.form.Form.TheVariants.{Whole, Roundless}
use Rattle.delivery_log.specs.LineReading.{IsRoundFor, TellsRound}
use Rattle.delivery_log.specs.ScheduleTexts.{IsEvent, event_lines, go_line, take_line, take_lines, text_of}
use Rattle.delivery_log.proofs.LineLaws.{same_line}
use Rattle.delivery_log.proofs.PlainLaws.{behind_small, go_is_line, take_is_line}
use Rattle.delivery_log.proofs.TakeLaws.{HasLine, IsHeldTake, IsToldTake, event_has_line, first_line, go_no_take, some_name, take_cases, told_not_held}

-- ---- numbers
two_cuts : (ds es r s : List ℕ) → AllDigits 10 ds → AllDigits 10 es → EndsNumber r × EndsNumber s →
    ds ++ r ≡ es ++ s → (ds ≡ es) × (r ≡ s)
two_cuts [] [] r s a b ends e = (refl, e)
two_cuts [] (y ∷ es) [] s a b ends e = absurd (cc)
two_cuts [] (y ∷ es) (x ∷ r) s a b ends e =
    let same : x ≡ y = cc in
    let digit = subst (λ q. AllDigits 10 (q ∷ es)) (sym same) b in
    absurd (ends.0 digit.0)
two_cuts (x ∷ ds) [] r [] a b ends e = absurd (cc)
two_cuts (x ∷ ds) [] r (y ∷ s) a b ends e =
    let same : y ≡ x = cc in
    let digit = subst (λ q. AllDigits 10 (q ∷ ds)) (sym same) a in
    absurd (ends.1 digit.0)
two_cuts (x ∷ ds) (y ∷ es) r s a b ends e =
    let same : x ≡ y = cc in
    let more = two_cuts ds es r s a.1 b.1 ends (ap (drop 1) e) in
    (ap (λ q. q ∷ ds) same ∙ ap (λ t. y ∷ t) more.0, more.1)

module _ (m n : ℕ) (r s : List ℕ) where
  one_number : m < 2 ^ 32 → n < 2 ^ 32 → EndsNumber r → EndsNumber s → decimal m ++ r ≡ decimal n ++ s →
      (m ≡ n) × (r ≡ s)
  one_number below low a b e =
      let cut = two_cuts (decimal m) (decimal n) r s (decimal_is_IsNumeral m (omega arith)).0.1
      (decimal_is_IsNumeral n (omega arith)).0.1 (a, b) e in
      (decimal_injective m n (omega arith) (omega arith) cut.0, cut.1)

numbers_end : (ns : List ℕ) → EndsNumber (numbers_text ns)
numbers_end [] = tt
numbers_end (n ∷ ns) = space_ends (decimal n ++ numbers_text ns)

one_list : (ms ns : List ℕ) → AllByRecursion (λ n. n < 2 ^ 32) ms → AllByRecursion (λ n. n < 2 ^ 32) ns →
    numbers_text ms ≡ numbers_text ns → ms ≡ ns
one_list [] [] a b e = refl
one_list [] (n ∷ ns) a b e = absurd (cc)
one_list (m ∷ ms) [] a b e = absurd (cc)
one_list (m ∷ ms) (n ∷ ns) a b e =
    let cut = one_number m n (numbers_text ms) (numbers_text ns) a.0 b.0 (numbers_end ms) (numbers_end ns)
    (ap (drop 1) e) in
    ap (λ q. q ∷ ms) cut.0 ∙ ap (λ t. n ∷ t) (one_list ms ns a.1 b.1 cut.1)

-- ---- names
kind_by : ℕ → NameKind
kind_by letter =
    if letter == 114 then Refresh
    else if letter == 100 then Dep
    else if letter == 117 then Update
    else if letter == 112 then Push
    else if letter == 116 then Tally
    else Verdict

known : (kind : NameKind) → kind_by (letter_of kind) ≡ kind
unfolding kind_by
known Refresh = refl
known Dep = refl
known Update = refl
known Push = refl
known Tally = refl
known Verdict = refl

-- words at the front settle their kinds, and what stands behind
one_kind : (j k : NameKind) (r s : List ℕ) → kind_text j ++ r ≡ kind_text k ++ s → (j ≡ k) × (r ≡ s)
one_kind j k r s e =
    let letters : letter_of j ≡ letter_of k =
    sym (first_letter j r) ∙ ap (λ t. get_or t 0 0) e ∙ first_letter k s in
    let kinds : j ≡ k = sym (known j) ∙ ap kind_by letters ∙ known k in (
      kinds,
      sym (kind_back k r) ∙ ap (drop (length (kind_text k))) (sym (ap (λ q. kind_text q ++ r) kinds) ∙ e)
          ∙ kind_back k s,
    )

-- the numbers behind the round
abbrev behind_by : Bool → ℕ → ℕ → ℕ → ℕ → List ℕ
behind_by steps step half from to = if steps then step ∷ half ∷ from ∷ to ∷ [] else from ∷ to ∷ []

pub record SameNumbers (x y : Name) : Type 0 where
  pub step : y.step ≡ x.step
  pub half : y.half ≡ x.half
  pub from : y.from ≡ x.from
  pub to : y.to ≡ x.to

none_of : (step half : ℕ) → (step == 0 && half == 0) ≡ true → (step ≡ 0) × (half ≡ 0)
none_of step half e = (grind arith, grind arith)

same_numbers : (x y : Name) (steps : Bool) → (steps || (x.step == 0 && x.half == 0)) ≡ true →
    (steps || (y.step == 0 && y.half == 0)) ≡ true →
    behind_by steps x.step x.half x.from x.to ≡ behind_by steps y.step y.half y.from y.to → SameNumbers x y
same_numbers x y true a b e = record {
  step = sym (ap (λ t. get_or t 0 0) e);
  half = sym (ap (λ t. get_or t 1 0) e);
  from = sym (ap (λ t. get_or t 2 0) e);
  to = sym (ap (λ t. get_or t 3 0) e);
}
same_numbers x y false a b e =
    let own = none_of x.step x.half a in
    let other = none_of y.step y.half b in
    record {
      step = other.0 ∙ sym own.0;
      half = other.1 ∙ sym own.1;
      from = sym (ap (λ t. get_or t 0 0) e);
      to = sym (ap (λ t. get_or t 1 0) e);
    }

same_behind : (x y : Name) → IsName x → IsName y → x.kind ≡ y.kind → x.round ≡ y.round →
    numbers_behind x ≡ numbers_behind y → x ≡ y
same_behind x y is also kinds rounds e =
    let own = ap (λ k. has_steps k || (x.step == 0 && x.half == 0)) (sym kinds) ∙ is.proper in
    let numbers = same_numbers x y (has_steps y.kind) own also.proper
    (ap (λ k. behind_by (has_steps k) x.step x.half x.from x.to) (sym kinds) ∙ e) in
    some_name x y (same_parts y x.kind x.round x.step x.half x.from x.to (sym kinds) (sym rounds) (sym numbers.step)
    (sym numbers.half) (sym numbers.from) (sym numbers.to))

-- a line says one message
module _ (held : ℕ) (x y : Name) where
  pub one_taken : (form : Form) → IsName x → IsName y → IsRoundFor form held x → IsRoundFor form held y →
      take_line form x ≡ take_line form y → x ≡ y
  one_taken Whole is also a b e =
      let cut = one_kind x.kind y.kind (numbers_text (x.round ∷ numbers_behind x))
      (numbers_text (y.round ∷ numbers_behind y)) (ap (drop 5) e) in
      let numbers = one_list (x.round ∷ numbers_behind x) (y.round ∷ numbers_behind y) (is.round, behind_small x is)
      (also.round, behind_small y also) cut.1 in
      same_behind x y is also cut.0 (ap (λ t. get_or t 0 0) numbers) (ap (drop 1) numbers)
  one_taken Roundless is also a b e =
      let cut = one_kind x.kind y.kind (numbers_text (numbers_behind x)) (numbers_text (numbers_behind y))
      (ap (drop 5) e) in
      same_behind x y is also cut.0 (a ∙ sym b)
      (one_list (numbers_behind x) (numbers_behind y) (behind_small x is) (behind_small y also) cut.1)

-- ---- events
abbrev Settled : Event → Event → List ℕ → List ℕ → Type 0
Settled e f r s = (e ≡ f) × (r ≡ s)

one_go : (m n : ℕ) (r s : List ℕ) → m < 256 → n < 256 → go_line m ++ 10 ∷ r ≡ go_line n ++ 10 ∷ s →
    Settled (Go m) (Go n) r s
one_go m n r s below low e =
    let same = same_line (go_line m) (go_line n) r s (go_is_line m below) (go_is_line n low) e in
    (ap Go (decimal_injective m n (omega arith) (omega arith) (ap (drop 3) same.0)), same.1)

module _ (held m n : ℕ) (line : List ℕ) where
  one_round : (form : Form) → m < 2 ^ 32 → n < 2 ^ 32 → TellsRound form held m line →
      TellsRound form held n line → m ≡ n
  one_round Whole below low a b = absurd a
  one_round Roundless below low a b =
      decimal_injective m n (omega arith) (omega arith) (ap (drop 6) (sym a.1 ∙ b.1))

module _ (form : Form) (held : ℕ) (x y : Name) (line left r s : List ℕ) where
  both_told : IsName x → IsName y → IsToldTake form held x line left r → IsToldTake form held y line left s →
      Settled (Take x) (Take y) r s
  both_told is also a b =
      let rounds = one_round held x.round y.round line form is.round also.round a.told b.told in
      let same = same_line (take_line form x) (take_line form y) r s (take_is_line form x is) (take_is_line form y
      also)
      (sym a.left ∙ b.left) in
      let for : IsRoundFor form x.round y = subst (λ q. IsRoundFor form q y) (sym rounds) b.for in
      (ap Take (one_taken x.round x y form is also a.for for same.0), same.1)

module _ (form : Form) (held : ℕ) (x y : Name) (line left r s : List ℕ) where
  one_take : IsName x → IsName y → IsHeldTake form held x line left r ⊎ IsToldTake form held x line left r →
      IsHeldTake form held y line left s ⊎ IsToldTake form held y line left s → Settled (Take x) (Take y) r s
  one_take is also a b =
      ⊎_elim
      (λ (own : IsHeldTake form held x line left r). ⊎_elim
      (λ (other : IsHeldTake form held y line left s). (
        ap Take (one_taken held x y form is also own.for other.for (sym own.spelled ∙ other.spelled)),
        sym own.left ∙ other.left,
      ))
      (λ (other : IsToldTake form held y line left s).
      absurd (told_not_held form held y.round x line other.told own.spelled))
      b)
      (λ (own : IsToldTake form held x line left r). ⊎_elim
      (λ (other : IsHeldTake form held y line left s).
      absurd (told_not_held form held x.round y line own.told other.spelled))
      (λ (other : IsToldTake form held y line left s). both_told form held x y line left r s is also own other)
      b)
      a

module _ (form : Form) (held : ℕ) (x y : Name) (r s : List ℕ) where
  takes : IsName x → IsName y → text_of (take_lines form held x) ++ r ≡ text_of (take_lines form held y) ++ s →
      Settled (Take x) (Take y) r s
  takes is also e =
      let at : HasLine (text_of (take_lines form held x) ++ r) =
      event_has_line form held (Take x) r (text_of (take_lines form held x) ++ r) is refl in
      one_take form held x y at.line at.left r s is also
      (take_cases form held x at.line at.left r is at.plain (sym at.spelled))
      (take_cases form held y at.line at.left s also at.plain (sym at.spelled ∙ e))

-- lines of an event at the front settle the event, and what stands behind
module _ (form : Form) (held : ℕ) where
  pub one_event : (e f : Event) (r s : List ℕ) → IsEvent e → IsEvent f →
      text_of (event_lines form held e) ++ r ≡ text_of (event_lines form held f) ++ s → Settled e f r s
  one_event (Go m) (Go n) r s is also e =
      one_go m n r s is also (sym (first_line (go_line m) [] r) ∙ e ∙ first_line (go_line n) [] s)
  one_event (Go m) (Take y) r s is also e = absurd
      (go_no_take form held m y (go_line m) r s also (go_is_line m is) refl (sym (first_line (go_line m) [] r) ∙ e))
  one_event (Take x) (Go n) r s is also e = absurd
      (go_no_take form held n x (go_line n) s r is (go_is_line n also) refl (sym (first_line (go_line n) [] s) ∙
      sym e))
  one_event (Take x) (Take y) r s is also e = takes form held x y r s is also e
