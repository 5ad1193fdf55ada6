-- The laws of verdicts.
use Rattle.std.proofs.Common.{◌≡◌, ℕ, zero, suc, ◌*◌, eqb, Bool, true, [], ◌∷◌, length, refl, ap, ◌∙◌}
use Rattle.std.proofs.lemmas.Bool.{and_parts, and_from, eqb-true, eq-eqb}
use Rattle.dep_layout.specs.Judgement.{words_in}
use Rattle.dep_layout.proofs.WordLaws.{AreBelow}
use Rattle.vert_base.specs.declared.value.Ruling.{Ruling}
use Rattle.vert_base.specs.declared.value.Ruling.TheVariants.{Stop, Dense, Sparse}
use Rattle.dep_layout.proofs.SpellingLaws.{below_from_All}
use Rattle.body_shape.specs.Fit.{is_ruling}
use Rattle.body_shape.specs.Refresh.{words_bytes}
use Rattle.body_shape.specs.Verdict.{ruling_byte, ruling_with, may_be, VerdictReadsBack, VerdictFits, VerdictSuits, VerdictIsSpelled}
use Rattle.body_shape.proofs.RowLaws.{words_whole, words_spelled, are_words_in, words_count}

ruling_again : (r : Ruling) → ruling_with (ruling_byte r) ≡ r
ruling_again Stop = refl
ruling_again Dense = refl
ruling_again Sparse = refl

ruling_fits : (dense sparse : Bool) (r : Ruling) → may_be dense sparse r ≡ true →
    is_ruling dense sparse (ruling_byte r) ≡ true
ruling_fits dense sparse Stop e = refl
ruling_fits dense sparse Dense e = e
ruling_fits dense sparse Sparse e = e

ruling_suits : (dense sparse : Bool) (byte : ℕ) → is_ruling dense sparse byte ≡ true →
    may_be dense sparse (ruling_with byte) ≡ true
ruling_suits dense sparse zero e = refl
ruling_suits dense sparse (suc zero) e = e
ruling_suits dense sparse (suc (suc zero)) e = e
ruling_suits dense sparse (suc (suc (suc n))) e = absurd (cc)

byte_again : (dense sparse : Bool) (byte : ℕ) → is_ruling dense sparse byte ≡ true →
    ruling_byte (ruling_with byte) ≡ byte
byte_again dense sparse zero e = refl
byte_again dense sparse (suc zero) e = refl
byte_again dense sparse (suc (suc zero)) e = refl
byte_again dense sparse (suc (suc (suc n))) e = absurd (cc)

pub verdict_back : VerdictReadsBack
verdict_back totals j is =
    let ruling = ruling_again j.ruling in
    let words = words_whole totals j.totals is in
    λ i. record { ruling = ruling i; totals = words i }

pub verdict_fits : VerdictFits
verdict_fits dense sparse totals j suit = and_from _ _ (ruling_fits dense sparse j.ruling suit.0)
    (eq-eqb _ _ (words_count totals j.totals suit.1))

pub verdict_suits : VerdictSuits
verdict_suits dense sparse totals [] fit = absurd (cc)
verdict_suits dense sparse totals (byte ∷ bytes) fit =
    let parts = and_parts (is_ruling dense sparse byte) (eqb (length bytes) (8 * totals)) fit in
    (ruling_suits dense sparse byte parts.0, are_words_in totals bytes)

pub verdict_spelled : VerdictIsSpelled
verdict_spelled dense sparse totals [] fits fit = absurd (cc)
verdict_spelled dense sparse totals (byte ∷ bytes) fits fit =
    let parts = and_parts (is_ruling dense sparse byte) (eqb (length bytes) (8 * totals)) fit in
    let below = below_from_All (byte ∷ bytes) fits in
    let behind : AreBelow bytes = λ i. below (suc i) in
    ap (λ b. b ∷ words_bytes (words_in totals bytes)) (byte_again dense sparse byte parts.0)
    ∙ ap (λ bs. byte ∷ bs) (words_spelled totals bytes (eqb-true _ _ parts.1) behind)
