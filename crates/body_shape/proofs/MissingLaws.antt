-- What a body without bytes is read as.
use Rattle.std.proofs.Common.{◌≡◌, ℕ, zero, suc, ◌*◌, ◌/◌, ◌%◌, eqb, ℤ, pos, true, Option, None, List, [], ◌∷◌, ◌++◌, drop, replicate, refl, sym, ap, subst, ◌∙◌, lit<, arith}
use Rattle.std.specs.Int.{w64}
use Rattle.std.specs.Int.RustNames.{FitsSigned}
use Rattle.std.specs.List.{AllByRecursion, list_all}
use Rattle.std.proofs.Math.Seq.{take-nil, drop-nil}
use Rattle.std.proofs.lemmas.Bool.{and_from, or_right}
use Rattle.std.proofs.lemmas.List.{length-replicate}
use borrow.Author.Rules.{sfits_of}
use Rattle.dep_layout.specs.Spelling.{are_typed}
use Rattle.dep_layout.specs.Judgement.{word_of, words_in, rows_in}
use Rattle.dep_layout.proofs.StateLaws.{fits_zeros}
use Rattle.vert_base.specs.declared.value.Ruling.TheVariants.{Stop}
use Rattle.body_shape.specs.Fit.{bit_len, number_of}
use Rattle.body_shape.specs.Places.{there, mask_of, set_count, placed, flags_of}
use Rattle.body_shape.specs.Refresh.{IsWords, PlainRow, row_of, rows_read, IsRow, SuitsRefresh}
use Rattle.body_shape.specs.Update.{Sent, values_in, sent_at, sents_read, AreValues, IsSent, SuitsUpdate}
use Rattle.body_shape.specs.Push.{flags_in, padded, sends_read, SuitsPush}
use Rattle.body_shape.specs.Missing.{still_row, nothing_sent, RefreshMissing, UpdateMissing, PushMissing, TallyMissing, VerdictMissing}
use Rattle.body_shape.proofs.RowLaws.{are_words_in}

no_word : word_of [] ≡ pos 0
unfolding word_of
no_word = refl

no_number : number_of [] ≡ 0
unfolding number_of
no_number = refl

pub no_words : (n : ℕ) → words_in n [] ≡ replicate n (pos 0)
no_words zero = refl
no_words (suc n) = ap (λ w. w ∷ words_in n []) no_word ∙ ap (λ ws. pos 0 ∷ ws) (no_words n)

no_rows : (width n : ℕ) → rows_in width n [] ≡ replicate n (replicate width (pos 0))
no_rows width zero = refl
no_rows width (suc n) =
    ap (λ row. row ∷ rows_in width n (drop (8 * width) [])) (no_words width)
    ∙ ap (λ bytes. replicate width (pos 0) ∷ rows_in width n bytes) (drop-nil (8 * width))
    ∙ ap (λ rows. replicate width (pos 0) ∷ rows) (no_rows width n)

each_same : {X : Type 0} (P : X → Type 0) (x : X) (n : ℕ) → P x → AllByRecursion P (replicate n x)
each_same P x zero p = tt
each_same P x (suc n) p = (p, each_same P x n p)

-- ---- refresh

row_zeros : (width : ℕ) → row_of width (replicate (suc width) (pos 0)) ≡ still_row width
row_zeros zero = refl
row_zeros (suc width) = ap (λ row. record { fields = pos 0 ∷ row.fields; active = row.active }) (row_zeros width)

zeros_typed : (width bools : ℕ) → are_typed bools (replicate width (pos 0) ++ pos 0 ∷ []) ≡ true
zeros_typed zero bools = and_from _ _ (or_right (eqb (bools % 2) 0) true refl) refl
zeros_typed (suc width) bools = and_from _ _ (or_right (eqb (bools % 2) 0) true refl) (zeros_typed width (bools / 2))

rows_are : (width count : ℕ) → rows_read width count [] ≡ replicate count (still_row width)
rows_are width zero = refl
rows_are width (suc count) =
    ap (λ words. row_of width words ∷ rows_read width count (drop (8 * suc width) [])) (no_words (suc width))
    ∙ ap (λ row. row ∷ rows_read width count (drop (8 * suc width) [])) (row_zeros width)
    ∙ ap (λ bytes. still_row width ∷ rows_read width count bytes) (drop-nil (8 * suc width))
    ∙ ap (λ rows. still_row width ∷ rows) (rows_are width count)

pub refresh_missing : RefreshMissing
refresh_missing count width bools =
    let same = rows_are width count in
    let P : List PlainRow → Type 0 = λ rows. SuitsRefresh count width bools rows in
    let still : IsRow width bools (still_row width) =
    ((length-replicate width (pos 0), fits_zeros width), zeros_typed width bools) in (
      same,
      subst P (sym same) (
        length-replicate count (still_row width),
        each_same (IsRow width bools) (still_row width) count still,
      ),
    )

-- ---- update

pub no_values : (n : ℕ) → values_in n 0 [] ≡ replicate n None
no_values zero = refl
no_values (suc n) = ap (λ xs. None ∷ xs) (no_values n)

no_mask : (n : ℕ) → mask_of {X = ℤ} (replicate n None) ≡ 0
no_mask zero = refl
no_mask (suc n) = omega (arith, no_mask n)

pub none_there : {X : Type 0} (n : ℕ) → there {X = X} (replicate n None) ≡ []
none_there zero = refl
none_there (suc n) = none_there n

are_missing : (n : ℕ) → AreValues n (replicate n None)
are_missing n =
    let P : List ℤ → Type 0 = λ ws. AllByRecursion (FitsSigned w64) ws in
    record { count = length-replicate n None; mask = omega (arith, no_mask n); fits = subst P (sym (none_there n)) tt }

sent_nothing : (slots reduced : ℕ) → sent_at slots reduced [] ≡ nothing_sent slots reduced
sent_nothing slots reduced =
    let values = no_values slots in
    let operands = ap (values_in reduced 0) (drop-nil (8 * set_count (flags_of slots 0))) ∙ no_values reduced in
    λ i. record { values = values i; operands = operands i }

sents_are : (slots reduced count : ℕ) → sents_read slots reduced count [] ≡ replicate count (nothing_sent slots reduced)
sents_are slots reduced zero = refl
sents_are slots reduced (suc count) =
    ap (λ s. s ∷ sents_read slots reduced count []) (sent_nothing slots reduced)
    ∙ ap (λ ss. nothing_sent slots reduced ∷ ss) (sents_are slots reduced count)

pub update_missing : UpdateMissing
update_missing count slots reduced =
    let same = sents_are slots reduced count in
    let P : List Sent → Type 0 = λ sents. SuitsUpdate count slots reduced sents in
    let nothing : IsSent slots reduced (nothing_sent slots reduced) = (are_missing slots, are_missing reduced) in (
      same,
      subst P (sym same) (
        length-replicate count (nothing_sent slots reduced),
        each_same (IsSent slots reduced) (nothing_sent slots reduced) count nothing,
      ),
    )

-- ---- push

none_placed : (n : ℕ) (rows : List (List ℤ)) → placed (padded n []) rows ≡ replicate n None
none_placed zero rows = refl
none_placed (suc n) rows = ap (λ xs. None ∷ xs) (none_placed n rows)

sends_are : (words count : ℕ) → sends_read words count [] ≡ replicate count None
sends_are words count =
    ap (λ marks. placed (padded count (flags_in marks))
    (rows_in words (set_count (padded count (flags_in marks))) (drop (bit_len count) [])))
    (take-nil (bit_len count))
    ∙ none_placed count _

pub push_missing : PushMissing
push_missing count words bools =
    let same = sends_are words count in
    let P : List (Option (List ℤ)) → Type 0 = λ sends. SuitsPush count words bools sends in
    let Q : List (List ℤ) → Type 0 = λ rows. AllByRecursion (IsWords words) rows in
    let none : SuitsPush count words bools (replicate count None) =
    record {
      count = length-replicate count None;
      each = subst Q (sym (none_there count)) tt;
      typed = ap (list_all (are_typed bools)) (none_there count);
    } in
    (same, subst P (sym same) none)

-- ---- tally and verdict

pub tally_missing : TallyMissing
tally_missing totals =
    let words = no_words totals in
    let n = no_number in (
      λ i. record { active = n i; edges = n i; reads = n i; totals = words i },
      record {
        active = omega (arith, no_number);
        edges = omega (arith, no_number);
        reads = omega (arith, no_number);
        totals = are_words_in totals [];
      },
    )

pub verdict_missing : VerdictMissing
verdict_missing dense sparse totals =
    let words = no_words totals in
    (λ i. record { ruling = Stop; totals = words i }, (refl, are_words_in totals []))
