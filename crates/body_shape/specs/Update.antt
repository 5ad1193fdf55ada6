-- Updates, as bytes and back.
use Rattle.std.specs.Prelude.{◌≡◌, ℕ, zero, suc, ◌*◌, ◌<◌, ℤ, true, Option, List, [], ◌∷◌, ◌++◌, length, drop}
use Rattle.std.specs.Int.{w64}
use Rattle.std.specs.Int.RustNames.{FitsSigned}
use Rattle.std.specs.List.{AllByRecursion, flat_map}
use Rattle.dep_layout.specs.Judgement.{words_in}
use Rattle.dep_layout.specs.Laws.{AreBytes}
use Rattle.body_shape.specs.declared.shape.BodyShape.TheVariants.{Update}
use Rattle.body_shape.specs.Fit.{is_fit}
use Rattle.body_shape.specs.Places.{there, mask_of, set_count, placed, flags_of}
use Rattle.body_shape.specs.Refresh.{words_bytes}

-- what is sent of a vertex: a word for each slot, and for each reduced let, where one is there
pub record Sent : Type 0 where
  pub values : List (Option ℤ)
  pub operands : List (Option ℤ)

-- two masks, then the words that are there
abbrev pub sent_bytes : Sent → List ℕ
sent_bytes s = mask_of s.values ∷ mask_of s.operands ∷ words_bytes (there s.values) ++ words_bytes (there s.operands)

abbrev pub update_body : List Sent → List ℕ
update_body sents = flat_map sent_bytes sents

-- the values of a mask, of so many places, whose words are at the front of bytes
abbrev pub values_in : ℕ → ℕ → List ℕ → List (Option ℤ)
values_in count mask bytes = placed (flags_of count mask) (words_in (set_count (flags_of count mask)) bytes)

-- the bytes behind them
abbrev pub behind_values : ℕ → ℕ → List ℕ → List ℕ
behind_values count mask bytes = drop (8 * set_count (flags_of count mask)) bytes

-- what two masks say, and the bytes behind them
abbrev pub sent_with : ℕ → ℕ → ℕ → ℕ → List ℕ → Sent
sent_with slots reduced low high bytes =
    record { values = values_in slots low bytes; operands = values_in reduced high (behind_values slots low bytes) }

abbrev pub sent_at : ℕ → ℕ → List ℕ → Sent
sent_at slots reduced [] = sent_with slots reduced 0 0 []
sent_at slots reduced (low ∷ []) = sent_with slots reduced 0 0 []
sent_at slots reduced (low ∷ high ∷ bytes) = sent_with slots reduced low high bytes

abbrev pub behind_sent : ℕ → ℕ → List ℕ → List ℕ
behind_sent slots reduced [] = []
behind_sent slots reduced (low ∷ []) = []
behind_sent slots reduced (low ∷ high ∷ bytes) = behind_values reduced high (behind_values slots low bytes)

-- what is sent of so many vertices
abbrev pub sents_read : ℕ → ℕ → ℕ → List ℕ → List Sent
sents_read slots reduced zero bytes = []
sents_read slots reduced (suc count) bytes = sent_at slots reduced bytes
    ∷ sents_read slots reduced count (behind_sent slots reduced bytes)

-- a place for each of so many, a mask that is a byte, and words of 64 bits
pub record AreValues (size : ℕ) (values : List (Option ℤ)) : Type 0 where
  pub count : length values ≡ size
  pub mask : mask_of values < 256
  pub fits : AllByRecursion (FitsSigned w64) (there values)

abbrev pub IsSent : ℕ → ℕ → Sent → Type 0
IsSent slots reduced s = AreValues slots s.values × AreValues reduced s.operands

abbrev pub SuitsUpdate : ℕ → ℕ → ℕ → List Sent → Type 0
SuitsUpdate count slots reduced sents = (length sents ≡ count) × AllByRecursion (IsSent slots reduced) sents

-- updates are read from what is spelled of them
abbrev pub UpdateReadsBack : Type 0
UpdateReadsBack = (count slots reduced : ℕ) (sents : List Sent) → SuitsUpdate count slots reduced sents →
    sents_read slots reduced count (update_body sents) ≡ sents

-- what is spelled of updates that suit a shape fits it
abbrev pub UpdateFits : Type 0
UpdateFits = (count slots reduced : ℕ) (sents : List Sent) → SuitsUpdate count slots reduced sents →
    is_fit (Update count slots reduced) (update_body sents) ≡ true

-- the updates of a body that fits suit its shape
abbrev pub UpdateSuits : Type 0
UpdateSuits = (count slots reduced : ℕ) (body : List ℕ) → AreBytes body → is_fit (Update count slots reduced) body
    ≡ true →
    SuitsUpdate count slots reduced (sents_read slots reduced count body)

-- a body that fits is the spelling of its updates
abbrev pub UpdateIsSpelled : Type 0
UpdateIsSpelled = (count slots reduced : ℕ) (body : List ℕ) → AreBytes body → is_fit (Update count slots reduced) body
    ≡ true →
    update_body (sents_read slots reduced count body) ≡ body
