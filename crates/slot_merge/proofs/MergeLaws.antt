-- What a partial holds after other partials.
use Rattle.std.proofs.Common.{◌≡◌, ◌≢◌, ℕ, ℤ, List, [], ◌∷◌, ◌++◌, cond, refl, sym, ap, subst, ◌∙◌, Bool, true, false, Option, Some, None, IsSome, nat_lt}
use Rattle.std.specs.Prelude.{⊤}
use Rattle.vert_base.specs.declared.value.Combine.{Combine}
use Rattle.vert_base.specs.declared.value.Combine.TheVariants.{Min, Max, Sum, First}
use Rattle.slot_merge.specs.declared.partial.Partial.{Partial}
use Rattle.slot_merge.specs.Combine.{combined_of}
use Rattle.slot_merge.specs.Partials.{empty_partial, with_word, with_words, with_partial}
use Rattle.slot_merge.specs.Mergeable.{CanMerge}
use Rattle.slot_merge.specs.Laws.{partial_of}
use Rattle.slot_merge.proofs.CombineLaws.{combined_of-assoc, combined_of-comm, Min≢First, Max≢First, Sum≢First}
use Rattle.slot_merge.proofs.OrderLaws.{Keyed}
use Rattle.slot_merge.proofs.PartialLaws.{holding, hold, nearer, nearer-assoc, nearer-comm, word-First}

abbrev partial : Combine → ℕ → Option ℤ → Partial
partial op key value = record { op = op; key = key; value = value }

-- a word keeps the kind

op-First : (w v : Keyed) (b : Bool) → (cond b (hold v) (hold w)).op ≡ First
op-First w v true = refl
op-First w v false = refl

word-op : (op : Combine) (key : ℕ) (value : Option ℤ) (w : Keyed) → (with_word w.0 w.1 (partial op key value)).op ≡ op
word-op op key None w = refl
word-op Min key (Some x) w = refl
word-op Max key (Some x) w = refl
word-op Sum key (Some x) w = refl
word-op First key (Some x) w = op-First (key, x) w (nat_lt w.0 key)

words-op : (ws : List Keyed) (p : Partial) → (with_words ws p).op ≡ p.op
words-op [] p = refl
words-op (w ∷ ws) p = words-op ws (with_word w.0 w.1 p) ∙ word-op p.op p.key p.value w

words-append : (ws more : List Keyed) (p : Partial) → with_words (ws ++ more) p ≡ with_words more (with_words ws p)
words-append [] more p = refl
words-append (w ∷ ws) more p = words-append ws more (with_word w.0 w.1 p)

-- a word that a partial has got is merged as if it came itself

none-First : (w v : Keyed) (k : ℕ) (b : Bool) →
    with_partial (cond b (hold v) (hold w)) (partial First k None) ≡ cond b (hold v) (hold w)
none-First w v k true = refl
none-First w v k false = refl

word-merged : (op : Combine) (j : ℕ) (held : Option ℤ) (k : ℕ) (value : Option ℤ) (w : Keyed) →
    with_partial (with_word w.0 w.1 (partial op j held)) (partial op k value) ≡ with_word w.0 w.1
    (with_partial (partial op j held) (partial op k value))
word-merged First j None k value w = refl
word-merged Min j None k None w = refl
word-merged Max j None k None w = refl
word-merged Sum j None k None w = refl
word-merged Min j None k (Some x) w = refl
word-merged Max j None k (Some x) w = refl
word-merged Sum j None k (Some x) w = refl
word-merged Min j (Some y) k None w = refl
word-merged Max j (Some y) k None w = refl
word-merged Sum j (Some y) k None w = refl
word-merged Min j (Some y) k (Some x) w = ap (holding Min k) (sym (combined_of-assoc Min x y w.1))
word-merged Max j (Some y) k (Some x) w = ap (holding Max k) (sym (combined_of-assoc Max x y w.1))
word-merged Sum j (Some y) k (Some x) w = ap (holding Sum k) (sym (combined_of-assoc Sum x y w.1))
word-merged First j (Some y) k None w = none-First (j, y) w k (nat_lt w.0 j)
word-merged First j (Some y) k (Some x) w =
    let u : Keyed = (k, x) in
    let v : Keyed = (j, y) in
    ap (λ q. with_partial q (hold u)) (word-First v w)
    ∙ word-First u (nearer v w)
    ∙ ap hold (nearer-assoc u v w)
    ∙ sym (word-First (nearer u v) w)
    ∙ sym (ap (with_word w.0 w.1) (word-First u v))

word-merged_alike : (q p : Partial) (w : Keyed) → q.op ≡ p.op →
    with_partial (with_word w.0 w.1 q) p ≡ with_word w.0 w.1 (with_partial q p)
word-merged_alike q p w e =
    subst (λ op. with_partial (with_word w.0 w.1 q) (record p { op = op }) ≡ with_word w.0 w.1
    (with_partial q (record p { op = op }))) e
    (word-merged q.op q.key q.value p.key p.value w)

words-merged : (ws : List Keyed) (q p : Partial) → q.op ≡ p.op →
    with_partial (with_words ws q) p ≡ with_words ws (with_partial q p)
words-merged [] q p e = refl
words-merged (w ∷ ws) q p e =
    words-merged ws (with_word w.0 w.1 q) p (word-op q.op q.key q.value w ∙ e)
    ∙ ap (with_words ws) (word-merged_alike q p w e)

pub merged_is_joined : (op : Combine) (ws more : List Keyed) →
    with_partial (partial_of op more) (partial_of op ws) ≡ partial_of op (ws ++ more)
merged_is_joined op ws more =
    words-merged more (empty_partial op) (partial_of op ws) (sym (words-op ws (empty_partial op)))
    ∙ sym (words-append ws more (empty_partial op))

-- the key is 0 where there is none
abbrev Plain : Combine → ℕ → Option ℤ → Type 0
Plain First key (Some x) = ⊤
Plain op key value = key ≡ 0

plain-First : (w v : Keyed) (b : Bool) →
    Plain (cond b (hold v) (hold w)).op (cond b (hold v) (hold w)).key (cond b (hold v) (hold w)).value
plain-First w v true = tt
plain-First w v false = tt

plain-word : (op : Combine) (key : ℕ) (value : Option ℤ) (w : Keyed) → Plain op key value →
    Plain (with_word w.0 w.1 (partial op key value)).op (with_word w.0 w.1 (partial op key value)).key
    (with_word w.0 w.1 (partial op key value)).value
plain-word First key None w h = tt
plain-word Min key None w h = h
plain-word Max key None w h = h
plain-word Sum key None w h = h
plain-word Min key (Some x) w h = h
plain-word Max key (Some x) w h = h
plain-word Sum key (Some x) w h = h
plain-word First key (Some x) w h = plain-First (key, x) w (nat_lt w.0 key)

plain-words : (ws : List Keyed) (p : Partial) → Plain p.op p.key p.value →
    Plain (with_words ws p).op (with_words ws p).key (with_words ws p).value
plain-words [] p h = h
plain-words (w ∷ ws) p h = plain-words ws (with_word w.0 w.1 p) (plain-word p.op p.key p.value w h)

plain-empty : (op : Combine) → Plain op 0 None
plain-empty Min = refl
plain-empty Max = refl
plain-empty Sum = refl
plain-empty First = refl

either : (op : Combine) (k : ℕ) (value : Option ℤ) (j : ℕ) (held : Option ℤ) → Plain op k value → Plain op j held →
    (op ≡ First → IsSome value → IsSome held → k ≢ j) →
    with_partial (partial op j held) (partial op k value) ≡ with_partial (partial op k value) (partial op j held)
either First k None j None p q other = ap (λ n. partial First n None) (p ∙ sym q)
either First k (Some x) j None p q other = refl
either First k None j (Some y) p q other = refl
either First k (Some x) j (Some y) p q other =
    word-First (k, x) (j, y) ∙ ap hold (nearer-comm (k, x) (j, y) (other refl refl refl))
    ∙ sym (word-First (j, y) (k, x))
either Min k None j None p q other = ap (λ n. partial Min n None) (p ∙ sym q)
either Max k None j None p q other = ap (λ n. partial Max n None) (p ∙ sym q)
either Sum k None j None p q other = ap (λ n. partial Sum n None) (p ∙ sym q)
either Min k (Some x) j None p q other = ap (λ n. holding Min n x) (p ∙ sym q)
either Max k (Some x) j None p q other = ap (λ n. holding Max n x) (p ∙ sym q)
either Sum k (Some x) j None p q other = ap (λ n. holding Sum n x) (p ∙ sym q)
either Min k None j (Some y) p q other = ap (λ n. holding Min n y) (p ∙ sym q)
either Max k None j (Some y) p q other = ap (λ n. holding Max n y) (p ∙ sym q)
either Sum k None j (Some y) p q other = ap (λ n. holding Sum n y) (p ∙ sym q)
either Min k (Some x) j (Some y) p q other =
    ap (λ n. holding Min n (combined_of Min x y)) (p ∙ sym q) ∙ ap (holding Min j) (combined_of-comm Min Min≢First x y)
either Max k (Some x) j (Some y) p q other =
    ap (λ n. holding Max n (combined_of Max x y)) (p ∙ sym q) ∙ ap (holding Max j) (combined_of-comm Max Max≢First x y)
either Sum k (Some x) j (Some y) p q other =
    ap (λ n. holding Sum n (combined_of Sum x y)) (p ∙ sym q) ∙ ap (holding Sum j) (combined_of-comm Sum Sum≢First x y)

either_alike : (p q : Partial) → Plain p.op p.key p.value → Plain q.op q.key q.value → CanMerge p q →
    with_partial q p ≡ with_partial p q
either_alike p q hp hq can =
    subst (λ op. Plain op q.key q.value → with_partial (record q { op = op }) p ≡ with_partial p (record q { op = op }))
    (sym can.op)
    (λ h. either p.op p.key p.value q.key q.value hp h can.keys) hq

pub merged_either_way : (op : Combine) (ws more : List Keyed) → CanMerge (partial_of op ws) (partial_of op more) →
    with_partial (partial_of op more) (partial_of op ws) ≡ with_partial (partial_of op ws) (partial_of op more)
merged_either_way op ws more can =
    either_alike (partial_of op ws) (partial_of op more) (plain-words ws (empty_partial op) (plain-empty op))
    (plain-words more (empty_partial op) (plain-empty op)) can

-- two words, either one first

turned : (op : Combine) → op ≢ First → (x y z : ℤ) →
    combined_of op (combined_of op x y) z ≡ combined_of op (combined_of op x z) y
turned op other x y z =
    combined_of-assoc op x y z ∙ ap (combined_of op x) (combined_of-comm op other y z)
    ∙ sym (combined_of-assoc op x z y)

word-word : (op : Combine) (k : ℕ) (value : Option ℤ) (w v : Keyed) → (op ≡ First → w.0 ≢ v.0) →
    with_word v.0 v.1 (with_word w.0 w.1 (partial op k value)) ≡ with_word w.0 w.1
    (with_word v.0 v.1 (partial op k value))
word-word Min k None w v other = ap (holding Min k) (combined_of-comm Min Min≢First w.1 v.1)
word-word Max k None w v other = ap (holding Max k) (combined_of-comm Max Max≢First w.1 v.1)
word-word Sum k None w v other = ap (holding Sum k) (combined_of-comm Sum Sum≢First w.1 v.1)
word-word Min k (Some x) w v other = ap (holding Min k) (turned Min Min≢First x w.1 v.1)
word-word Max k (Some x) w v other = ap (holding Max k) (turned Max Max≢First x w.1 v.1)
word-word Sum k (Some x) w v other = ap (holding Sum k) (turned Sum Sum≢First x w.1 v.1)
word-word First k None w v other = word-First w v ∙ ap hold (nearer-comm w v (other refl)) ∙ sym (word-First v w)
word-word First k (Some x) w v other =
    let u : Keyed = (k, x) in
    ap (with_word v.0 v.1) (word-First u w)
    ∙ word-First (nearer u w) v
    ∙ ap hold (sym (nearer-assoc u w v) ∙ ap (nearer u) (nearer-comm w v (other refl)) ∙ nearer-assoc u v w)
    ∙ sym (word-First (nearer u v) w)
    ∙ sym (ap (with_word w.0 w.1) (word-First u v))

pub partial-partial : (p q r : Partial) → (p.op ≡ First → IsSome q.value → IsSome r.value → q.key ≢ r.key) →
    with_partial r (with_partial q p) ≡ with_partial q (with_partial r p)
partial-partial p q r other = from q.value r.value other
  where
    from : (a b : Option ℤ) → (p.op ≡ First → IsSome a → IsSome b → q.key ≢ r.key) →
        with_partial (record r { value = b }) (with_partial (record q { value = a }) p) ≡ with_partial
        (record q { value = a }) (with_partial (record r { value = b }) p)
    from None b h = refl
    from (Some x) None h = refl
    from (Some x) (Some y) h = word-word p.op p.key p.value (q.key, x) (r.key, y) (λ e. h e refl refl)

partial-op_from : (q p : Partial) (value : Option ℤ) → (with_partial (record q { value = value }) p).op ≡ p.op
partial-op_from q p None = refl
partial-op_from q p (Some x) = word-op p.op p.key p.value (q.key, x)

pub partial-op : (q p : Partial) → (with_partial q p).op ≡ p.op
partial-op q p = partial-op_from q p q.value
