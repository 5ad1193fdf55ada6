-- The lines of a schedule have no line feed.
use Rattle.std.proofs.Common.{◌≡◌, ◌≢◌, ℕ, ◌<◌, ◌≤◌, ◌^◌, Bool, true, false, List, [], ◌∷◌, ◌++◌, refl, arith}
use Rattle.std.specs.Prelude.{◌==◌, if◌then◌else◌, codes, decimal}
use Rattle.std.specs.List.{AllByRecursion}
use Rattle.std.specs.Char.{digit_value}
use Rattle.std.specs.Str.Parse.{AllDigits}
use Rattle.std.proofs.lemmas.Fmt.{decimal_is_IsNumeral}
use Rattle.std.proofs.lemmas.Str.Parse.{digit_from_value}
use Rattle.vert_base.specs.declared.message.Name.{Name}
use Rattle.vert_base.specs.declared.message.NameKind.{NameKind}
use Rattle.vert_base.specs.declared.message.NameKind.TheVariants.{Refresh, Dep, Update, Push, Tally, Verdict}
use Rattle.vert_base.specs.HeaderBytes.{has_steps}
use Rattle.vert_base.specs.NameTexts.{IsName, kind_text, number_text, numbers_text, numbers_behind}
use Rattle.vert_base.proofs.Orders.{all_append}
use Rattle.delivery_log.specs.declared.form.Form.{Form}
use Rattle.delivery_log.specs.declared.form.Form.TheVariants.{Whole, Roundless}
use Rattle.delivery_log.specs.LineReading.{IsLine}
use Rattle.delivery_log.specs.ScheduleTexts.{go_line, header_line, most_machines, round_line, take_line, taken_text}
use Rattle.delivery_log.proofs.LineLaws.{not_feed}

abbrev is_plain : List ℕ → Bool
is_plain [] = true
is_plain (b ∷ bs) = if b == 10 then false else is_plain bs

plain_step : (b : ℕ) (bs : List ℕ) (t : Bool) → (b == 10) ≡ t → (if t then false else is_plain bs) ≡ true →
    (is_plain bs ≡ true → IsLine bs) → IsLine (b ∷ bs)
plain_step b bs true same e more = absurd (grind arith)
plain_step b bs false other e more = (not_feed b other, more e)

pub plain_line : (bytes : List ℕ) → is_plain bytes ≡ true → IsLine bytes
plain_line [] e = tt
plain_line (b ∷ bs) e = plain_step b bs (b == 10) refl e (plain_line bs)

pub joined : (xs ys : List ℕ) → IsLine xs → IsLine ys → IsLine (xs ++ ys)
joined xs ys a b = all_append (λ byte. byte ≢ 10) xs ys a b

no_digit : (b : ℕ) → digit_value b < 10 → b ≢ 10
no_digit b h e = let d = digit_from_value b h in omega (arith, d, e)

digits_are_line : (bytes : List ℕ) → AllDigits 10 bytes → IsLine bytes
digits_are_line [] all = tt
digits_are_line (b ∷ bs) all = (no_digit b all.0, digits_are_line bs all.1)

pub decimal_line : (n : ℕ) → n < 2 ^ 32 → IsLine (decimal n)
decimal_line n small = digits_are_line (decimal n) (decimal_is_IsNumeral n (omega arith)).0.1

-- ---- names
spaced : (n : ℕ) → n < 2 ^ 32 → IsLine (number_text n)
spaced n small = joined (codes " ") (decimal n) (plain_line (codes " ") refl) (decimal_line n small)

numbers_line : (numbers : List ℕ) → AllByRecursion (λ n. n < 2 ^ 32) numbers → IsLine (numbers_text numbers)
numbers_line [] all = tt
numbers_line (n ∷ ns) all = joined (number_text n) (numbers_text ns) (spaced n all.0) (numbers_line ns all.1)

pub wide : (n : ℕ) → n < 256 → n < 2 ^ 32
wide n small = omega arith

pub behind_small : (x : Name) → IsName x → AllByRecursion (λ n. n < 2 ^ 32) (numbers_behind x)
behind_small x is = choose (has_steps x.kind)
  where
    choose : (b : Bool) → AllByRecursion (λ n. n < 2 ^ 32) (if b then x.step ∷ x.half ∷ x.from ∷ x.to ∷ []
        else x.from ∷ x.to ∷ [])
    choose true = (wide x.step is.step, (wide x.half is.half, (wide x.from is.from, (wide x.to is.to, tt))))
    choose false = (wide x.from is.from, (wide x.to is.to, tt))

kind_line : (kind : NameKind) → IsLine (kind_text kind)
kind_line Refresh = plain_line (codes "refresh") refl
kind_line Dep = plain_line (codes "dep") refl
kind_line Update = plain_line (codes "update") refl
kind_line Push = plain_line (codes "push") refl
kind_line Tally = plain_line (codes "tally") refl
kind_line Verdict = plain_line (codes "verdict") refl

-- a name's own text
pub name_line : (x : Name) → IsName x → IsLine (kind_text x.kind ++ numbers_text (x.round ∷ numbers_behind x))
name_line x is =
    joined (kind_text x.kind) (numbers_text (x.round ∷ numbers_behind x)) (kind_line x.kind)
    (numbers_line (x.round ∷ numbers_behind x) (is.round, behind_small x is))

taken_line : (form : Form) (x : Name) → IsName x → IsLine (taken_text form x)
taken_line Whole x is = name_line x is
taken_line Roundless x is =
    joined (kind_text x.kind) (numbers_text (numbers_behind x)) (kind_line x.kind)
    (numbers_line (numbers_behind x) (behind_small x is))

-- ---- the four kinds of lines
pub take_is_line : (form : Form) (x : Name) → IsName x → IsLine (take_line form x)
take_is_line form x is = joined (codes "take ") (taken_text form x) (plain_line (codes "take ") refl)
    (taken_line form x is)

pub round_is_line : (round : ℕ) → round < 2 ^ 32 → IsLine (round_line round)
round_is_line round small = joined (codes "round ") (decimal round) (plain_line (codes "round ") refl)
    (decimal_line round small)

pub go_is_line : (machine : ℕ) → machine < 256 → IsLine (go_line machine)
go_is_line machine small = joined (codes "go ") (decimal machine) (plain_line (codes "go ") refl)
    (decimal_line machine (wide machine small))

pub header_is_line : (form : Form) (machines : ℕ) → machines ≤ most_machines form → IsLine (header_line form machines)
header_is_line Whole machines few =
    let small : machines ≤ 16 = few in
    joined (codes "schedule 1 machines ") (decimal machines) (plain_line (codes "schedule 1 machines ") refl)
    (decimal_line machines (omega arith))
header_is_line Roundless machines few =
    let small : machines ≤ 64 = few in
    joined (codes "schedule 2 machines ") (decimal machines) (plain_line (codes "schedule 2 machines ") refl)
    (decimal_line machines (omega arith))
