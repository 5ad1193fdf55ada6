-- The words of a generator, one after another.
use Rattle.std.specs.Prelude.{ℕ, zero, suc, List, [], ◌∷◌}
use Rattle.rand_pcg.specs.Lcg.{Lcg, increment_of, started}
use Rattle.rand_pcg.specs.Pcg.{multiplier_64, pcg32}

-- the generator of a seed on one of its streams
abbrev pub generator_on : ℕ → ℕ → Lcg
generator_on stream seed = started 64 multiplier_64 seed (increment_of 64 stream)

-- the next word of a generator, and the generator behind it
abbrev pub word_of : Lcg → ℕ
word_of g = (pcg32 g).0

abbrev pub behind_word : Lcg → Lcg
behind_word g = (pcg32 g).1

-- so many words from a generator on
unfoldable pub words_of : ℕ → Lcg → List ℕ
words_of zero g = []
words_of (suc n) g = word_of g ∷ words_of n (behind_word g)
