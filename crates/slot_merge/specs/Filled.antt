-- Partials told by their buckets: the words that came under each key.
use Rattle.std.specs.Prelude.{◌≡◌, ◌≤◌, ◌<◌, ◌==◌, ◌+◌, ⊤, ℕ, ℤ, List, [], ◌∷◌, ◌++◌, map, filter, if◌then◌else◌}
use Rattle.std.specs.List.{flat_map, range_with_len}
use Rattle.vert_base.specs.declared.value.Combine.{Combine}
use Rattle.slot_merge.specs.declared.partial.Partial.{Partial}
use Rattle.slot_merge.specs.Combine.{Emission, combined, words_for}
use Rattle.slot_merge.specs.Partials.{above, empty_partial, with_emissions, with_word, with_words}

-- the words under a key, in the order in which they came
abbrev pub under_key : ℕ → List (ℕ × ℤ) → List ℤ
under_key key words = map (λ w. w.1) (filter (λ w. w.0 == key) words)

-- the partial is what words make that lie in these buckets, all keys being below a bound
pub record Filled (op : Combine) (bucket : ℕ → List ℤ) (bound : ℕ) (q : Partial) : Type 0 where
  pub words : List (ℕ × ℤ)
  pub is : q ≡ with_words words (empty_partial op)
  pub each : (key : ℕ) → under_key key words ≡ bucket key
  pub low : above words ≤ bound

-- the buckets with more words under a key
abbrev pub with_more : (ℕ → List ℤ) → ℕ → List ℤ → ℕ → List ℤ
with_more bucket key words k = if key == k then bucket k ++ words else bucket k

-- the buckets with one word more under a key
abbrev pub one_more : (ℕ → List ℤ) → ℕ → ℤ → ℕ → List ℤ
one_more bucket key word = with_more bucket key (word ∷ [])

-- the partials of a list, from slot number `at` on, each by the buckets of its slot
abbrev pub AreFilled : ℕ → List Combine → (ℕ → ℕ → List ℤ) → ℕ → List Partial → Type 0
AreFilled at [] buckets bound [] = ⊤
AreFilled at [] buckets bound (q ∷ qs) = ⊥
AreFilled at (op ∷ ops) buckets bound [] = ⊥
AreFilled at (op ∷ ops) buckets bound (q ∷ qs) =
    Filled op (buckets at) bound q × AreFilled (at + 1) ops buckets bound qs

-- a partial to which nothing came has empty buckets
abbrev pub BeginsEmpty : Type 0
BeginsEmpty = (op : Combine) (bound : ℕ) → Filled op (λ key. []) bound (empty_partial op)

-- a word goes to the end of the bucket of its key
abbrev pub FillsMore : Type 0
FillsMore =
    (op : Combine) (bucket : ℕ → List ℤ) (bound key : ℕ) (word : ℤ) (q : Partial) → key < bound →
    Filled op bucket bound q → Filled op (one_more bucket key word) bound (with_word key word q)

-- and so do emissions under one key, each to the partial of its slot
abbrev pub FillsEmissions : Type 0
FillsEmissions =
    (ops : List Combine) (buckets : ℕ → ℕ → List ℤ) (bound key : ℕ) (es : List Emission) (qs : List Partial) →
    key < bound →
    AreFilled 0 ops buckets bound qs →
    AreFilled 0 ops (λ slot. with_more (buckets slot) key (words_for slot es)) bound (with_emissions key qs es)

-- the value of a partial is that of all its buckets by ascending key
abbrev pub HasValue : Type 0
HasValue =
    (op : Combine) (bucket : ℕ → List ℤ) (bound : ℕ) (q : Partial) →
    Filled op bucket bound q → q.value ≡ combined op (flat_map bucket (range_with_len 0 bound))
