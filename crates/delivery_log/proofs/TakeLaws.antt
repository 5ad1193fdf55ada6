-- The lines of an event at the front of a text.
use Rattle.std.proofs.Common.{◌≡◌, ◌≢◌, ℕ, ◌<◌, ◌^◌, Bool, true, false, List, [], ◌∷◌, ◌++◌, get_or, refl, ap, sym, subst, ◌∙◌, append_assoc, ⊎_elim, inl, inr}
use Rattle.std.specs.Prelude.{◌==◌, ◌⊎◌, if◌then◌else◌, Option, Some, None}
use Rattle.std.proofs.lemmas.Bool.{cases_Bool, eq-eqb, ne_eqb, eqb-true}
use Rattle.vert_base.specs.declared.message.Name.{Name}
use Rattle.vert_base.specs.declared.message.Event.{Event}
use Rattle.vert_base.specs.declared.message.Event.TheVariants.{Go, Take}
use Rattle.vert_base.specs.NameTexts.{IsName}
use Rattle.delivery_log.specs.declared.form.Form.{Form}
use Rattle.delivery_log.specs.declared.form.Form.TheVariants.{Whole, Roundless}
use Rattle.delivery_log.specs.LineReading.{IsHeader, IsLine, IsRoundFor, TellsRound}
use Rattle.delivery_log.specs.ScheduleTexts.{IsEvent, event_lines, text_of, go_line, round_line, round_lines, take_line, take_lines}
use Rattle.delivery_log.proofs.LineLaws.{same_line}
use Rattle.delivery_log.proofs.PlainLaws.{go_is_line, round_is_line, take_is_line}

never : (a b : ℕ) → (a == b) ≡ false → a ≡ b → ⊥
never a b other e = both (eq-eqb a b e) other
  where
    both : {t : Bool} → t ≡ true → t ≡ false → ⊥
    both s t = cc

-- ---- first lines
pub one_form : (line : List ℕ) (f g : Form) (m n : ℕ) → IsHeader f m line → IsHeader g n line → f ≡ g
one_form line Whole Whole m n a b = refl
one_form line Roundless Roundless m n a b = refl
one_form line Whole Roundless m n a b =
    absurd (never 49 50 refl (ap (λ t. get_or t 9 0) (sym a.spelled ∙ b.spelled)))
one_form line Roundless Whole m n a b =
    absurd (never 50 49 refl (ap (λ t. get_or t 9 0) (sym a.spelled ∙ b.spelled)))

pub some_same : (a b : ℕ) → ◌≡◌ {A = Option ℕ} (Some a) (Some b) → a ≡ b
some_same a b e = cc

none_some : (r : Option ℕ) (m : ℕ) → r ≡ None → r ≡ Some m → ⊥
none_some r m e f = cc

pub no_header :
    (line : List ℕ) (form : Form) (machines : ℕ) (r s : Option ℕ) →
    ((m : ℕ) → IsHeader Whole m line → r ≡ Some m) →
    r ≡ None →
    ((m : ℕ) → IsHeader Roundless m line → s ≡ Some m) →
    s ≡ None →
    IsHeader form machines line →
    ⊥
no_header line Whole machines r s f e g h is = none_some r machines e (f machines is)
no_header line Roundless machines r s f e g h is = none_some s machines h (g machines is)

pub not_whole : (line : List ℕ) (form : Form) (machines : ℕ) (r : Option ℕ) →
    ((m : ℕ) → IsHeader Whole m line → r ≡ Some m) → r ≡ None → IsHeader form machines line → Roundless ≡ form
not_whole line Whole machines r f e is = absurd (none_some r machines e (f machines is))
not_whole line Roundless machines r f e is = refl

-- ---- lines of a text
pub first_line : (line : List ℕ) (lines : List (List ℕ)) (rest : List ℕ) → text_of (line ∷ lines) ++ rest ≡ line ++ 10
    ∷ (text_of lines ++ rest)
first_line line lines rest = append_assoc line (10 ∷ text_of lines) rest

go_not_take : (line : List ℕ) (m : ℕ) (form : Form) (x : Name) → line ≡ go_line m → line ≡ take_line form x → ⊥
go_not_take line m form x a b =
    never 103 116 refl (ap (λ t. get_or t 0 0) (sym a ∙ b))

go_not_round : (line : List ℕ) (m round : ℕ) → line ≡ go_line m → line ≡ round_line round → ⊥
go_not_round line m round a b =
    never 103 114 refl (ap (λ t. get_or t 0 0) (sym a ∙ b))

round_not_take : (line : List ℕ) (round : ℕ) (form : Form) (x : Name) → line ≡ round_line round →
    line ≡ take_line form x → ⊥
round_not_take line round form x a b =
    never 114 116 refl (ap (λ t. get_or t 0 0) (sym a ∙ b))

-- ---- the lines of a take
held_lines : (form : Form) (held : ℕ) (x : Name) → IsRoundFor form held x → round_lines form held x.round ≡ []
held_lines Whole held x for = refl
held_lines Roundless held x for = ap (λ b. if b then [] else round_line x.round ∷ []) (eq-eqb held x.round (sym for))

told_lines : (held : ℕ) (x : Name) → x.round ≢ held → round_lines Roundless held x.round ≡ round_line x.round ∷ []
told_lines held x ne = ap (λ b. if b then [] else round_line x.round ∷ []) (ne_eqb held x.round (λ e. ne (sym e)))

pub held_take : (form : Form) (held : ℕ) (x : Name) → IsRoundFor form held x →
    take_lines form held x ≡ take_line form x ∷ []
held_take form held x for = ap (λ ls. ls ++ take_line form x ∷ []) (held_lines form held x for)

pub told_take : (form : Form) (held round : ℕ) (x : Name) (line : List ℕ) → TellsRound form held round line →
    IsRoundFor form round x → take_lines form held x ≡ line ∷ take_line form x ∷ []
told_take Whole held round x line told for = absurd told
told_take Roundless held round x line told for =
    let other : x.round ≢ held = λ e. told.0 (sym for ∙ e) in
    let said : round_line x.round ≡ line = ap round_line for ∙ sym told.1 in
    ap (λ ls. ls ++ take_line Roundless x ∷ []) (told_lines held x other ∙ ap (λ l. l ∷ []) said)

-- of a round that the first line tells
pub told_spelled :
    (form : Form) (held round : ℕ) (x : Name) (line next behind rest : List ℕ) →
    TellsRound form held round line →
    IsRoundFor form round x →
    next ≡ take_line form x →
    behind ≡ next ++ 10 ∷ rest →
    line ++ 10 ∷ behind ≡ text_of (take_lines form held x) ++ rest
told_spelled form held round x line next behind rest told for e b =
    ap (λ t. line ++ 10 ∷ t) (b ∙ ap (λ l. l ++ 10 ∷ rest) e)
    ∙ sym (ap (λ ls. text_of ls ++ rest) (told_take form held round x line told for)
    ∙ (first_line line (take_line form x ∷ []) rest ∙ ap (λ t. line ++ 10 ∷ t) (first_line (take_line form x) [] rest)))

-- what a take at the front says of the first line, and of what stands behind it
pub record IsHeldTake (form : Form) (held : ℕ) (x : Name) (line behind rest : List ℕ) : Type 0 where
  pub for : IsRoundFor form held x
  pub spelled : line ≡ take_line form x
  pub left : behind ≡ rest

pub record IsToldTake (form : Form) (held : ℕ) (x : Name) (line behind rest : List ℕ) : Type 0 where
  pub told : TellsRound form held x.round line
  pub for : IsRoundFor form x.round x
  pub left : behind ≡ take_line form x ++ 10 ∷ rest

held_case :
    (form : Form) (held : ℕ) (x : Name) (line behind rest : List ℕ) →
    IsName x →
    IsLine line →
    IsRoundFor form held x →
    line ++ 10 ∷ behind ≡ text_of (take_lines form held x) ++ rest →
    IsHeldTake form held x line behind rest
held_case form held x line behind rest is plain for e =
    let same = same_line line (take_line form x) behind rest plain (take_is_line form x is)
    (e ∙ (ap (λ ls. text_of ls ++ rest) (held_take form held x for) ∙ first_line (take_line form x) [] rest)) in
    record { for = for; spelled = same.0; left = same.1 }

told_case :
    (held : ℕ) (x : Name) (line behind rest : List ℕ) →
    IsName x →
    IsLine line →
    x.round ≢ held →
    line ++ 10 ∷ behind ≡ text_of (take_lines Roundless held x) ++ rest →
    IsToldTake Roundless held x line behind rest
told_case held x line behind rest is plain other e =
    let lines : take_lines Roundless held x ≡ round_line x.round ∷ take_line Roundless x ∷ [] =
    ap (λ ls. ls ++ take_line Roundless x ∷ []) (told_lines held x other) in
    let whole = e ∙ (ap (λ ls. text_of ls ++ rest) lines
    ∙ first_line (round_line x.round) (take_line Roundless x ∷ []) rest) in
    let same = same_line line (round_line x.round) behind (text_of (take_line Roundless x ∷ []) ++ rest) plain
    (round_is_line x.round is.round) whole in
    record { told = (other, same.0); for = refl; left = same.1 ∙ first_line (take_line Roundless x) [] rest }

pub take_cases :
    (form : Form) (held : ℕ) (x : Name) (line behind rest : List ℕ) →
    IsName x →
    IsLine line →
    line ++ 10 ∷ behind ≡ text_of (take_lines form held x) ++ rest →
    IsHeldTake form held x line behind rest ⊎ IsToldTake form held x line behind rest
take_cases Whole held x line behind rest is plain e = inl (held_case Whole held x line behind rest is plain tt e)
take_cases Roundless held x line behind rest is plain e =
    ⊎_elim
    (λ (same : (x.round == held) ≡ true). inl
    (held_case Roundless held x line behind rest is plain (eqb-true x.round held same) e))
    (λ (other : (x.round == held) ≡ false). inr (told_case held x line behind rest is plain (apart other) e))
    (cases_Bool (x.round == held))
  where
    both : {b : Bool} → b ≡ true → b ≡ false → ⊥
    both s t = cc

    apart : (x.round == held) ≡ false → x.round ≢ held
    apart other e = both (eq-eqb x.round held e) other

-- where no round is told, the take is of the round that is held
pub held_found :
    (form : Form) (held : ℕ) (x : Name) (line behind rest : List ℕ) (r : Option ℕ) →
    IsName x →
    IsLine line →
    ((round : ℕ) → round < 2 ^ 32 → TellsRound form held round line → r ≡ Some round) →
    r ≡ None →
    line ++ 10 ∷ behind ≡ text_of (take_lines form held x) ++ rest →
    IsHeldTake form held x line behind rest
held_found form held x line behind rest r is plain found none e =
    ⊎_elim
    (λ (held_so : IsHeldTake form held x line behind rest). held_so)
    (λ (told : IsToldTake form held x line behind rest).
    absurd (none_some r x.round none (found x.round is.round told.told)))
    (take_cases form held x line behind rest is plain e)

pub told_not_held : (form : Form) (held round : ℕ) (x : Name) (line : List ℕ) → TellsRound form held round line →
    line ≡ take_line form x → ⊥
told_not_held Whole held round x line told e = told
told_not_held Roundless held round x line told e = round_not_take line round Roundless x told.1 e

-- where a round is told, the take is of that round
pub told_found :
    (form : Form) (held round : ℕ) (x : Name) (line behind rest : List ℕ) (r : Option ℕ) →
    IsName x →
    IsLine line →
    TellsRound form held round line →
    ((q : ℕ) → q < 2 ^ 32 → TellsRound form held q line → r ≡ Some q) →
    r ≡ Some round →
    line ++ 10 ∷ behind ≡ text_of (take_lines form held x) ++ rest →
    IsRoundFor form round x × (behind ≡ take_line form x ++ 10 ∷ rest)
told_found form held round x line behind rest r is plain told found some e =
    ⊎_elim
    (λ (so : IsHeldTake form held x line behind rest). absurd (told_not_held form held round x line told so.spelled))
    (λ (so : IsToldTake form held x line behind rest).
    let same : round ≡ x.round = some_same round x.round (sym some ∙ found x.round is.round so.told) in
    (subst (λ q. IsRoundFor form q x) (sym same) so.for, so.left))
    (take_cases form held x line behind rest is plain e)

-- a line that says that a machine goes begins no take
module _ (form : Form) (held m : ℕ) (x : Name) (line behind rest : List ℕ) where
  pub go_no_take : IsName x → IsLine line → line ≡ go_line m →
      line ++ 10 ∷ behind ≡ text_of (take_lines form held x) ++ rest → ⊥
  go_no_take is plain go e =
      ⊎_elim
      (λ (so : IsHeldTake form held x line behind rest). go_not_take line m form x go so.spelled)
      (λ (so : IsToldTake form held x line behind rest). told_no_go form held m x line so.told go)
      (take_cases form held x line behind rest is plain e)
    where
      told_no_go : (form : Form) (held m : ℕ) (x : Name) (line : List ℕ) → TellsRound form held x.round line →
          line ≡ go_line m → ⊥
      told_no_go Whole held m x line told go = told
      told_no_go Roundless held m x line told go = go_not_round line m x.round go told.1

pub some_name : (a b : Name) → ◌≡◌ {A = Option Name} (Some a) (Some b) → a ≡ b
some_name a b e = cc

-- ---- the lines of an event
pub record HasLine (text : List ℕ) : Type 0 where
  pub line : List ℕ
  pub left : List ℕ
  pub plain : IsLine line
  pub spelled : text ≡ line ++ 10 ∷ left

-- an event begins with a line
pub event_has_line : (form : Form) (held : ℕ) (event : Event) (rest text : List ℕ) → IsEvent event →
    text ≡ text_of (event_lines form held event) ++ rest → HasLine text
event_has_line form held (Go m) rest text is e = record {
  line = go_line m;
  left = rest;
  plain = go_is_line m is;
  spelled = e ∙ first_line (go_line m) [] rest;
}
event_has_line Whole held (Take x) rest text is e = record {
  line = take_line Whole x;
  left = rest;
  plain = take_is_line Whole x is;
  spelled = e ∙ first_line (take_line Whole x) [] rest;
}
event_has_line Roundless held (Take x) rest text is e = by_round (held == x.round) e
  where
    by_round : (b : Bool) → text ≡ text_of ((if b then [] else round_line x.round ∷ []) ++ take_line Roundless x ∷ [])
        ++ rest → HasLine text
    by_round true e = record {
      line = take_line Roundless x;
      left = rest;
      plain = take_is_line Roundless x is;
      spelled = e ∙ first_line (take_line Roundless x) [] rest;
    }
    by_round false e = record {
      line = round_line x.round;
      left = text_of (take_line Roundless x ∷ []) ++ rest;
      plain = round_is_line x.round is.round;
      spelled = e ∙ first_line (round_line x.round) (take_line Roundless x ∷ []) rest;
    }

-- where the first line says that a machine goes
pub go_found :
    (form : Form) (held m : ℕ) (event : Event) (line behind rest text : List ℕ) →
    IsEvent event →
    IsLine line →
    line ≡ go_line m →
    text ≡ line ++ 10 ∷ behind →
    ((q : ℕ) → q < 256 → line ≡ go_line q → ◌≡◌ {A = Option ℕ} (Some m) (Some q)) →
    text ≡ text_of (event_lines form held event) ++ rest →
    (Go m ≡ event) × (behind ≡ rest)
go_found form held m (Go q) line behind rest text is plain go t found e =
    let same = same_line line (go_line q) behind rest plain (go_is_line q is)
    (sym t ∙ (e ∙ first_line (go_line q) [] rest)) in
    (ap Go (some_same m q (found q is same.0)), same.1)
go_found form held m (Take x) line behind rest text is plain go t found e = absurd
    (go_no_take form held m x line behind rest is plain go (sym t ∙ e))

-- where the first line says no machine, and no take stands at the front
pub no_event :
    (form : Form) (held : ℕ) (event : Event) (line behind rest text : List ℕ) (r : Option ℕ) →
    IsEvent event →
    IsLine line →
    text ≡ line ++ 10 ∷ behind →
    ((q : ℕ) → q < 256 → line ≡ go_line q → r ≡ Some q) →
    r ≡ None →
    ((x : Name) (left : List ℕ) → IsName x → line ++ 10 ∷ behind ≡ text_of (take_lines form held x) ++ left → ⊥) →
    text ≡ text_of (event_lines form held event) ++ rest →
    ⊥
no_event form held (Go q) line behind rest text r is plain t found none takes e =
    let same = same_line line (go_line q) behind rest plain (go_is_line q is)
    (sym t ∙ (e ∙ first_line (go_line q) [] rest)) in
    none_some r q none (found q is same.0)
no_event form held (Take x) line behind rest text r is plain t found none takes e = takes x rest is (sym t ∙ e)
