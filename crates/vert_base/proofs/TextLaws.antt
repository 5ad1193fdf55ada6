-- Numbers and names at the front of a text.
use Rattle.std.proofs.Common.{◌≡◌, ℕ, zero, suc, ◌<◌, ◌^◌, true, false, List, [], ◌∷◌, ◌++◌, length, get_or, take, drop, refl, ap, sym, subst, ◌∙◌, arith, append_assoc, ⊎_elim, Option, Some, None}
use Rattle.std.specs.Prelude.{decimal, IfSome, if◌then◌else◌, ◌==◌}
use Rattle.std.specs.Cmp.Lexicographic.{pointwise}
use Rattle.std.specs.Str.Parse.{AllDigits, digits_value}
use Rattle.std.proofs.lemmas.Bool.{cases_eq}
use Rattle.std.proofs.lemmas.Fmt.{decimal_is_IsNumeral, decimal-digits_value, decimal_digit, decimal_nonempty, first_decimal}
use Rattle.std.proofs.lemmas.Str.Parse.{digit_from_value, numerals_by_value, tells_digits}
use Rattle.std.proofs.lemmas.List.{drop_at}
use Rattle.vert_base.specs.declared.message.Name.{Name}
use Rattle.vert_base.specs.declared.message.NameKind.{NameKind}
use Rattle.vert_base.specs.declared.message.NameKind.TheVariants.{Refresh, Dep, Update, Push, Tally, Verdict}
use Rattle.vert_base.specs.HeaderBytes.{has_steps}
use Rattle.vert_base.specs.NameTexts.{IsName, kind_text, number_text, numbers_text, numbers_behind}
use Rattle.vert_base.specs.NameReading.{EndsNumber, are_proper, letter_of, steps_text}
use Rattle.vert_base.proofs.LetterLaws.{name_of}

-- ---- where a number ends
pub space_ends : (bytes : List ℕ) → EndsNumber (32 ∷ bytes)
space_ends bytes h = let d = digit_from_value 32 h in omega (arith, d)

-- the digits at the front are those of the number that stands there
pub same_cut :
    (digits rest : List ℕ) (k : ℕ) →
    AllDigits 10 digits →
    EndsNumber rest →
    AllDigits 10 (take k (digits ++ rest)) →
    EndsNumber (drop k (digits ++ rest)) →
    (take k (digits ++ rest) ≡ digits) × (drop k (digits ++ rest) ≡ rest)
same_cut [] rest zero all end taken left = (refl, refl)
same_cut [] [] (suc k) all end taken left = (refl, refl)
same_cut [] (b ∷ bs) (suc k) all end taken left = absurd (end taken.0)
same_cut (d ∷ ds) rest zero all end taken left = absurd (left all.0)
same_cut (d ∷ ds) rest (suc k) all end taken left =
    let more = same_cut ds rest k all.1 end taken.1 left in
    (ap (λ xs. d ∷ xs) more.0, more.1)

pub same_number :
    (text : List ℕ) (number : ℕ) (rest : List ℕ) (k : ℕ) →
    number < 2 ^ 32 →
    EndsNumber rest →
    text ≡ decimal number ++ rest →
    AllDigits 10 (take k text) →
    EndsNumber (drop k text) →
    (decimal number ≡ take k text) × (drop k text ≡ rest)
same_number text number rest k small end e taken left =
    let cut = same_cut (decimal number) rest k (decimal_is_IsNumeral number (omega arith)).0.1 end
    (subst (λ t. AllDigits 10 (take k t)) e taken) (subst (λ t. EndsNumber (drop k t)) e left) in
    (sym (ap (take k) e ∙ cut.0), ap (drop k) e ∙ cut.1)

-- ---- decimals
pub no_lead : (number : ℕ) → number < 2 ^ 32 → get_or (decimal number) 0 0 ≡ 48 → length (decimal number) ≡ 1
no_lead number small lead =
    ⊎_elim
    (λ (none : number ≡ 0). ap (λ n. length (decimal n)) none ∙ ap length (decimal_digit 0 (omega arith)))
    (λ (some : number ≡ 0 → ⊥).
    let first = first_decimal number (omega arith) (omega arith) in
    absurd (omega (arith, first, lead)))
    (cases_eq number 0)

pub no_decimal : (word : List ℕ) (number : ℕ) → number < 2 ^ 32 → decimal number ≡ word → length word ≡ 0 → ⊥
no_decimal word number small e none = let some = decimal_nonempty number (omega arith) in
    omega (arith, some, ap length e, none)

pub no_zeros : (word : List ℕ) (number : ℕ) → number < 2 ^ 32 → decimal number ≡ word → 1 < length word →
    get_or word 0 0 ≡ 48 → ⊥
no_zeros word number small e long lead =
    let one = no_lead number small (ap (λ w. get_or w 0 0) e ∙ lead) in
    omega (arith, one, ap length e, long)

pub spelled_value :
    (word : List ℕ) (read : Option ℕ) →
    0 < length word →
    (get_or word 0 0 ≡ 48 → length word ≡ 1) →
    IfSome read (λ value. AllDigits 10 word × (digits_value 10 word ≡ value) × (value < 2 ^ 32)) →
    IfSome read (λ number. decimal number ≡ word)
spelled_value word None some lead h = tt
spelled_value word (Some value) some lead h =
    ap decimal (sym h.1) ∙ decimal-digits_value (numerals_by_value _ tells_digits) word h.0 some lead
    (omega (arith, h.1, h.2))

pub value_of_decimal : (word : List ℕ) (number : ℕ) → number < 2 ^ 32 → decimal number ≡ word → AllDigits 10 word ×
    (digits_value 10 word ≡ number)
value_of_decimal word number small e =
    let numeral = decimal_is_IsNumeral number (omega arith) in
    (subst (AllDigits 10) e numeral.0.1, sym (ap (digits_value 10) e) ∙ numeral.1)

-- ---- kinds
pub first_letter : (kind : NameKind) (rest : List ℕ) → get_or (kind_text kind ++ rest) 0 0 ≡ letter_of kind
first_letter Refresh rest = refl
first_letter Dep rest = refl
first_letter Update rest = refl
first_letter Push rest = refl
first_letter Tally rest = refl
first_letter Verdict rest = refl

pub kind_front : (kind : NameKind) (rest : List ℕ) → take (length (kind_text kind)) (kind_text kind ++ rest)
    ≡ kind_text kind
kind_front Refresh rest = refl
kind_front Dep rest = refl
kind_front Update rest = refl
kind_front Push rest = refl
kind_front Tally rest = refl
kind_front Verdict rest = refl

pub kind_back : (kind : NameKind) (rest : List ℕ) → drop (length (kind_text kind)) (kind_text kind ++ rest) ≡ rest
kind_back kind rest = drop_at (kind_text kind) rest (length (kind_text kind)) refl

-- ---- the numbers behind the round
behind_by :
    (kind : NameKind) (step half from to : ℕ) →
    numbers_text (if has_steps kind then step ∷ half ∷ from ∷ to ∷ [] else from ∷ to ∷ [])
    ≡ steps_text kind step half ++ (number_text from ++ (number_text to ++ []))
behind_by Refresh step half from to = refl
behind_by Dep step half from to = sym (append_assoc (number_text step) (number_text half)
    (number_text from ++ (number_text to ++ [])))
behind_by Update step half from to = sym (append_assoc (number_text step) (number_text half)
    (number_text from ++ (number_text to ++ [])))
behind_by Push step half from to = refl
behind_by Tally step half from to = refl
behind_by Verdict step half from to = refl

pub behind_is : (x : Name) → numbers_text (numbers_behind x) ≡ steps_text x.kind x.step x.half
    ++ (number_text x.from ++ (number_text x.to ++ []))
behind_is x = behind_by x.kind x.step x.half x.from x.to

abbrev pub behind_text : Name → List ℕ
behind_text x = number_text x.from ++ (number_text x.to ++ [])

pub from_behind :
    (x : Name) (kind : NameKind) (text : List ℕ) →
    IsName x →
    x.kind ≡ kind →
    numbers_text (numbers_behind x) ≡ text →
    (are_proper kind x.step x.half ≡ true) × (text ≡ steps_text kind x.step x.half ++ behind_text x)
from_behind x kind text is same e = (
  ap (λ k. are_proper k x.step x.half) (sym same) ∙ is.proper,
  sym e ∙ (behind_is x ∙ ap (λ k. steps_text k x.step x.half ++ behind_text x) same),
)

pub same_parts :
    (x : Name) (kind : NameKind) (round step half from to : ℕ) →
    x.kind ≡ kind →
    x.round ≡ round →
    step ≡ x.step →
    half ≡ x.half →
    from ≡ x.from →
    to ≡ x.to →
    ◌≡◌ {A = Option Name} (Some (record {
      kind = kind;
      round = round;
      step = step;
      half = half;
      from = from;
      to = to;
    })) (Some x)
same_parts x kind round step half from to k r s h f t =
    ap Some
    (sym
    (ap (λ q. name_of q x.round x.step x.half x.from x.to) k
    ∙ ap (λ q. name_of kind q x.step x.half x.from x.to) r
    ∙ ap (λ q. name_of kind round q x.half x.from x.to) (sym s)
    ∙ ap (λ q. name_of kind round step q x.from x.to) (sym h)
    ∙ ap (λ q. name_of kind round step half q x.to) (sym f)
    ∙ ap (λ q. name_of kind round step half from q) (sym t)))

-- the word of the kind at the front is found there
pub word_there :
    (text word : List ℕ) (kind : NameKind) (rest : List ℕ) →
    text ≡ kind_text kind ++ rest →
    word ≡ kind_text kind →
    pointwise ◌==◌ (take (length word) text) word ≡ false →
    ⊥
word_there text word kind rest e w other =
    let front : take (length word) text ≡ word =
    ap (λ q. take (length q) text) w ∙ (ap (take (length (kind_text kind))) e ∙ (kind_front kind rest ∙ sym w)) in
    let same : pointwise ◌==◌ (take (length word) text) word ≡ true = ap (λ q. pointwise ◌==◌ q word) front
    ∙ pointwise_self word in
    let clash : true ≡ false = sym same ∙ other in
    cc
  where
    pointwise_self : (xs : List ℕ) → pointwise ◌==◌ xs xs ≡ true
    pointwise_self [] = refl
    pointwise_self (x ∷ xs) = rw (pointwise_self xs) (grind arith)
