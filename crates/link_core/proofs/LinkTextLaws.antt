-- A text of form 3 stands for one run, or has one fault.
use Rattle.std.proofs.Common.{◌≡◌, ◌≢◌, ℕ, ◌+◌, ◌*◌, ◌≤◌, List, [], ◌∷◌, ◌++◌, drop, length, refl, ap, sym, ◌∙◌, arith, append_assoc, append-nil}
use Rattle.std.specs.Prelude.{Err, codes, decimal, flat_map}
use Rattle.std.specs.List.{AllByRecursion}
use Rattle.std.proofs.lemmas.Fmt.{decimal_injective}
use Rattle.delivery_log.proofs.LineLaws.{same_line}
use Rattle.delivery_log.proofs.OneLaws.{one_event}
use Rattle.delivery_log.specs.declared.form.Form.TheVariants.{Whole}
use Rattle.delivery_log.specs.ScheduleTexts.{text_of}
use Rattle.link_core.proofs.PlainLines.{event_plain, header_plain}
use Rattle.link_core.specs.declared.event.LinkEvent.{LinkEvent}
use Rattle.link_core.specs.declared.event.LinkEvent.TheVariants.{Go, Take, Lose, Again, Ack, Drop}
use Rattle.link_core.specs.declared.fault.LinkTextFault.{LinkTextFault}
use Rattle.link_core.specs.declared.fault.LinkTextFault.TheVariants.{Header, Line, TooLong, Want}
use Rattle.link_core.specs.LinkLaws.{LinksHaveOneFault, LinksStandForOne}
use Rattle.link_core.specs.LinkSays.{GivesLinks, HasBadLinkLine, HasNoLinkHeader, SaysLinks}
use Rattle.link_core.specs.LinkTexts.{IsLinkEvent, event_front, event_line, header_line, links_text}
use Rattle.vert_base.specs.declared.message.Event.TheVariants as plain
use Rattle.vert_base.specs.declared.message.Name.{Name}
use Rattle.vert_base.specs.NameTexts.{IsName, name_text}

-- ---- the line of an event settles it, and what stands behind
-- the number of an event's kind, as the first letters of its line tell it
abbrev kind_by : List ℕ → ℕ
kind_by [] = 6
kind_by (a ∷ []) = 6
kind_by (a ∷ b ∷ rest) = 2 * a + b

-- the names are one where they are spelled alike
same_names : (x y : Name) → IsName x → IsName y → name_text x ≡ name_text y → x ≡ y
same_names x y is also same =
    let taken = one_event Whole 0 (plain.Take x) (plain.Take y) [] [] is also
    (ap (λ (t : List ℕ). text_of ((codes "take " ++ t) ∷ []) ++ []) same) in
    taken_name x y taken.0
  where
    taken_name : (x y : Name) → plain.Take x ≡ plain.Take y → x ≡ y
    taken_name x y is = cc

same_front : (e f : LinkEvent) → IsLinkEvent e → IsLinkEvent f → event_front e ≡ event_front f → e ≡ f
same_front (Go m) (Go n) is also same =
    ap Go (decimal_injective m n (omega (arith, is)) (omega (arith, also)) (ap (drop 3) same))
same_front (Go m) (Take y) is also same = let k : 317 ≡ 329 = ap kind_by same in absurd (omega (arith, k))
same_front (Go m) (Lose y) is also same = let k : 317 ≡ 327 = ap kind_by same in absurd (omega (arith, k))
same_front (Go m) (Again y) is also same = let k : 317 ≡ 297 = ap kind_by same in absurd (omega (arith, k))
same_front (Go m) (Ack y) is also same = let k : 317 ≡ 293 = ap kind_by same in absurd (omega (arith, k))
same_front (Go m) (Drop y) is also same = let k : 317 ≡ 314 = ap kind_by same in absurd (omega (arith, k))
same_front (Take x) (Go n) is also same = let k : 329 ≡ 317 = ap kind_by same in absurd (omega (arith, k))
same_front (Take x) (Take y) is also same = ap Take (same_names x y is also (ap (drop 5) same))
same_front (Take x) (Lose y) is also same = let k : 329 ≡ 327 = ap kind_by same in absurd (omega (arith, k))
same_front (Take x) (Again y) is also same = let k : 329 ≡ 297 = ap kind_by same in absurd (omega (arith, k))
same_front (Take x) (Ack y) is also same = let k : 329 ≡ 293 = ap kind_by same in absurd (omega (arith, k))
same_front (Take x) (Drop y) is also same = let k : 329 ≡ 314 = ap kind_by same in absurd (omega (arith, k))
same_front (Lose x) (Go n) is also same = let k : 327 ≡ 317 = ap kind_by same in absurd (omega (arith, k))
same_front (Lose x) (Take y) is also same = let k : 327 ≡ 329 = ap kind_by same in absurd (omega (arith, k))
same_front (Lose x) (Lose y) is also same = ap Lose (same_names x y is also (ap (drop 5) same))
same_front (Lose x) (Again y) is also same = let k : 327 ≡ 297 = ap kind_by same in absurd (omega (arith, k))
same_front (Lose x) (Ack y) is also same = let k : 327 ≡ 293 = ap kind_by same in absurd (omega (arith, k))
same_front (Lose x) (Drop y) is also same = let k : 327 ≡ 314 = ap kind_by same in absurd (omega (arith, k))
same_front (Again x) (Go n) is also same = let k : 297 ≡ 317 = ap kind_by same in absurd (omega (arith, k))
same_front (Again x) (Take y) is also same = let k : 297 ≡ 329 = ap kind_by same in absurd (omega (arith, k))
same_front (Again x) (Lose y) is also same = let k : 297 ≡ 327 = ap kind_by same in absurd (omega (arith, k))
same_front (Again x) (Again y) is also same = ap Again (same_names x y is also (ap (drop 6) same))
same_front (Again x) (Ack y) is also same = let k : 297 ≡ 293 = ap kind_by same in absurd (omega (arith, k))
same_front (Again x) (Drop y) is also same = let k : 297 ≡ 314 = ap kind_by same in absurd (omega (arith, k))
same_front (Ack x) (Go n) is also same = let k : 293 ≡ 317 = ap kind_by same in absurd (omega (arith, k))
same_front (Ack x) (Take y) is also same = let k : 293 ≡ 329 = ap kind_by same in absurd (omega (arith, k))
same_front (Ack x) (Lose y) is also same = let k : 293 ≡ 327 = ap kind_by same in absurd (omega (arith, k))
same_front (Ack x) (Again y) is also same = let k : 293 ≡ 297 = ap kind_by same in absurd (omega (arith, k))
same_front (Ack x) (Ack y) is also same = ap Ack (same_names x y is also (ap (drop 4) same))
same_front (Ack x) (Drop y) is also same = let k : 293 ≡ 314 = ap kind_by same in absurd (omega (arith, k))
same_front (Drop x) (Go n) is also same = let k : 314 ≡ 317 = ap kind_by same in absurd (omega (arith, k))
same_front (Drop x) (Take y) is also same = let k : 314 ≡ 329 = ap kind_by same in absurd (omega (arith, k))
same_front (Drop x) (Lose y) is also same = let k : 314 ≡ 327 = ap kind_by same in absurd (omega (arith, k))
same_front (Drop x) (Again y) is also same = let k : 314 ≡ 297 = ap kind_by same in absurd (omega (arith, k))
same_front (Drop x) (Ack y) is also same = let k : 314 ≡ 293 = ap kind_by same in absurd (omega (arith, k))
same_front (Drop x) (Drop y) is also same = ap Drop (same_names x y is also (ap (drop 5) same))

one_link : (e f : LinkEvent) (r s : List ℕ) → IsLinkEvent e → IsLinkEvent f →
    event_line e ++ r ≡ event_line f ++ s → (e ≡ f) × (r ≡ s)
one_link e f r s is also same =
    let both = same_line (event_front e) (event_front f) r s (event_plain e is) (event_plain f also)
    (sym (append_assoc (event_front e) (10 ∷ []) r) ∙ same ∙ append_assoc (event_front f) (10 ∷ []) s) in
    (same_front e f is also both.0, both.1)

-- ---- a text settles its machines and events, as far as they go
-- no event's line stands at the front
abbrev HasNoLink : List ℕ → Type 0
HasNoLink rest = (e : LinkEvent) (behind : List ℕ) → IsLinkEvent e → rest ≢ event_line e ++ behind

no_line : HasNoLink []
no_line e behind is same = starts (event_front e) same
  where
    starts : (front : List ℕ) → [] ≡ (front ++ 10 ∷ []) ++ behind → ⊥
    starts [] same = cc
    starts (x ∷ xs) same = cc

module _ (a b : List ℕ) where
  lines_settle : (es fs : List LinkEvent) → AllByRecursion IsLinkEvent es → AllByRecursion IsLinkEvent fs →
      HasNoLink a → HasNoLink b → flat_map event_line es ++ a ≡ flat_map event_line fs ++ b →
      (es ≡ fs) × (a ≡ b)
  lines_settle [] [] is also none bare same = (refl, same)
  lines_settle [] (f ∷ fs) is also none bare same =
      absurd (none f (flat_map event_line fs ++ b) also.0
      (same ∙ append_assoc (event_line f) (flat_map event_line fs) b))
  lines_settle (e ∷ es) [] is also none bare same =
      absurd (bare e (flat_map event_line es ++ a) is.0
      (sym same ∙ append_assoc (event_line e) (flat_map event_line es) a))
  lines_settle (e ∷ es) (f ∷ fs) is also none bare same =
      let one = one_link e f (flat_map event_line es ++ a) (flat_map event_line fs ++ b) is.0 also.0
      (sym (append_assoc (event_line e) (flat_map event_line es) a) ∙ same
      ∙ append_assoc (event_line f) (flat_map event_line fs) b) in
      let rest = lines_settle es fs is.1 also.1 none bare one.1 in
      (ap (λ (x : LinkEvent). x ∷ es) one.0 ∙ ap (λ (xs : List LinkEvent). f ∷ xs) rest.0, rest.1)

headers_settle : (m n : ℕ) (r s : List ℕ) → m ≤ 64 → n ≤ 64 → header_line m ++ r ≡ header_line n ++ s →
    (m ≡ n) × (r ≡ s)
headers_settle m n r s few less same =
    let front = λ (k : ℕ). codes "schedule 3 machines " ++ decimal k in
    let both = same_line (front m) (front n) r s (header_plain m few) (header_plain n less)
    (sym (append_assoc (front m) (10 ∷ []) r) ∙ same ∙ append_assoc (front n) (10 ∷ []) s) in
    (decimal_injective m n (omega (arith, few)) (omega (arith, less)) (ap (drop 20) both.0), both.1)

module _ (m n : ℕ) (es fs : List LinkEvent) (a b : List ℕ) where
  texts_settle : m ≤ 64 → n ≤ 64 → AllByRecursion IsLinkEvent es → AllByRecursion IsLinkEvent fs → HasNoLink a →
      HasNoLink b → links_text m es ++ a ≡ links_text n fs ++ b → (m ≡ n) × (es ≡ fs) × (a ≡ b)
  texts_settle few less is also none bare same =
      let both = headers_settle m n (flat_map event_line es ++ a) (flat_map event_line fs ++ b) few less
      (sym (append_assoc (header_line m) (flat_map event_line es) a) ∙ same
      ∙ append_assoc (header_line n) (flat_map event_line fs) b) in
      let rest = lines_settle a b es fs is also none bare both.1 in
      (both.0, rest.0, rest.1)

-- a text tells one run
pub tells_one : LinksStandForOne
tells_one text m n es fs a b =
    let all = texts_settle m n es fs [] [] a.is.few b.is.few a.is.each b.is.each no_line no_line
    (append-nil (links_text m es) ∙ sym a.spelled ∙ b.spelled ∙ sym (append-nil (links_text n fs))) in
    (all.0, all.1)

-- or has one first bad line
pub one_bad_line : (text : List ℕ) (a b : ℕ) → HasBadLinkLine text a → HasBadLinkLine text b → a ≡ b
one_bad_line text a b is also =
    let all = texts_settle is.machines also.machines is.events also.events is.rest also.rest is.is.few also.is.few
    is.is.each also.is.each is.bad.none also.bad.none (sym is.spelled ∙ also.spelled) in
    is.counted ∙ ap (λ (xs : List LinkEvent). length xs + 2) all.1 ∙ sym also.counted

-- not both
pub not_bad : (text : List ℕ) (m number : ℕ) (es : List LinkEvent) → SaysLinks text m es →
    HasBadLinkLine text number → ⊥
not_bad text m number es says bad =
    let all = texts_settle m bad.machines es bad.events [] bad.rest says.is.few bad.is.few says.is.each bad.is.each
    no_line bad.bad.none (append-nil (links_text m es) ∙ sym says.spelled ∙ bad.spelled) in
    bad.bad.some (sym all.2)

-- and either has a first line
pub says_header : (text : List ℕ) (m : ℕ) (es : List LinkEvent) → SaysLinks text m es → HasNoLinkHeader text → ⊥
says_header text m es says none = none.none m (flat_map event_line es) says.is.some says.is.few says.spelled

pub bad_header : (text : List ℕ) (number : ℕ) → HasBadLinkLine text number → HasNoLinkHeader text → ⊥
bad_header text number bad none =
    none.none bad.machines (flat_map event_line bad.events ++ bad.rest) bad.is.some bad.is.few
    (bad.spelled ∙ append_assoc (header_line bad.machines) (flat_map event_line bad.events) bad.rest)

-- so a text has one fault
pub one_link_fault : LinksHaveOneFault
one_link_fault text TooLong TooLong some also long other = refl
one_link_fault text TooLong Header some also long none = absurd (let fits = none.fits in omega (arith, long, fits))
one_link_fault text TooLong (Line b) some also long bad = absurd (let fits = bad.fits in omega (arith, long, fits))
one_link_fault text Header TooLong some also none long = absurd (let fits = none.fits in omega (arith, long, fits))
one_link_fault text Header Header some also none other = refl
one_link_fault text Header (Line b) some also none bad = absurd (bad_header text b bad none)
one_link_fault text (Line a) TooLong some also bad long = absurd (let fits = bad.fits in omega (arith, long, fits))
one_link_fault text (Line a) Header some also bad none = absurd (bad_header text a bad none)
one_link_fault text (Line a) (Line b) some also bad other = ap Line (one_bad_line text a b bad other)
one_link_fault text Want b some also gives other = absurd (some refl)
one_link_fault text TooLong Want some also gives other = absurd (also refl)
one_link_fault text Header Want some also gives other = absurd (also refl)
one_link_fault text (Line a) Want some also gives other = absurd (also refl)
