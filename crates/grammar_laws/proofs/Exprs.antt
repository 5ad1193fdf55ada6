-- The laws of an expression at each layer and each depth.
use Rattle.std.proofs.Common.{◌≡◌, ℕ, zero, suc, ◌≤◌, ◌<◌, List, [], ◌++◌, Ok, Err, refl, sym, subst, ◌∙◌, arith, inl, inr, ◌⊎◌}
use Rattle.std.proofs.lemmas.Bool.{cases_lt}
use Rattle.vert_lex.specs.Text.{Placed}
use Rattle.vert_grammar.specs.Grammar.{Limits}
use Rattle.vert_grammar.specs.Reading.{Stop, chain, choice, tree_at}
use Rattle.grammar_laws.specs.Notions.{deep, Took, Sound, Complete, Fault, First, IsReader}
use Rattle.grammar_laws.proofs.Readers.{bind_err, grows_covers, carry}
use Rattle.vert_grammar.proofs.Steps.{bind_ok, six_is, layer_is}
use Rattle.grammar_laws.proofs.Trees.{tree_notion, tree_run, depth_pos, Reads-looser, leaf, leaf_tokens, leaf_reads}
use Rattle.grammar_laws.proofs.Unary.{unary_sound, unary_complete, unary_first}
use Rattle.grammar_laws.proofs.Chains.{chain_sound, chain_complete, chain_first}
use Rattle.grammar_laws.proofs.Choices.{choice_sound, choice_complete, choice_first}

-- a layer past the first is a chain or the conditional
five_or : (k : ℕ) → suc k ≤ 6 → (k < 5) ⊎ (k ≡ 5)
five_or k le = elim (cases_lt k 5) [ inl lt ↦ inl lt | inr ge ↦ inr (omega arith) ]

-- ---- what is read is of the grammar
layer_sound : (lim : Limits) (b k : ℕ) → suc k ≤ 6 →
    ((j : ℕ) → j ≤ 6 → Sound (tree_notion j) (deep lim b) (tree_at b j)) →
    Sound (tree_notion k) (deep lim (suc b)) (tree_at (suc b) k) →
    Sound (tree_notion (suc k)) (deep lim (suc b)) (tree_at (suc b) (suc k))
layer_sound lim b k le below here ts x r e =
    elim (five_or k le) [
      | inl lt ↦
          let s = bind_ok (tree_at (suc b) k ts) (λ y. chain b (suc k) (tree_at b k) b y.0 y.1) (x, r)
          (sym (layer_is b k ts lt) ∙ e) in
          let t = here ts s.0.0 s.0.1 s.1 in
          subst (λ l. Took (tree_notion (suc k)) (deep lim (suc b)) l x r) (sym t.parts)
          (chain_sound lim b k (tree_at b k) lt (below k (omega arith)) b s.0.0 t.used s.0.1 x r
          (Reads-looser k (suc k) (omega arith) s.0.0 t.used t.reads) t.fits t.ends s.2)
      | inr five ↦ subst (λ n. Took (tree_notion (suc n)) (deep lim (suc b)) ts x r) (sym five)
          (last (subst (λ n. Sound (tree_notion n) (deep lim (suc b)) (tree_at (suc b) n)) five here)
          (subst (λ n. tree_at (suc b) (suc n) ts ≡ Ok (x, r)) five e))
    ]
  where
    last : Sound (tree_notion 5) (deep lim (suc b)) (tree_at (suc b) 5) → tree_at (suc b) 6 ts ≡ Ok (x, r) →
        Took (tree_notion 6) (deep lim (suc b)) ts x r
    last h f =
        let s = bind_ok (tree_at (suc b) 5 ts) (λ y. choice b (tree_at b 6) y.0 y.1) (x, r) (sym (six_is b ts) ∙ f) in
        let t = h ts s.0.0 s.0.1 s.1 in
        subst (λ l. Took (tree_notion 6) (deep lim (suc b)) l x r) (sym t.parts)
        (choice_sound lim b (below 6 (omega arith)) s.0.0 t.used s.0.1 x r t.reads t.fits t.ends s.2)

layers_sound : (lim : Limits) (b : ℕ) → ((j : ℕ) → j ≤ 6 → Sound (tree_notion j) (deep lim b) (tree_at b j)) →
    (k : ℕ) → k ≤ 6 → Sound (tree_notion k) (deep lim (suc b)) (tree_at (suc b) k)
layers_sound lim b below zero le = unary_sound lim b below
layers_sound lim b below (suc k) le = layer_sound lim b k le below (layers_sound lim b below k (omega arith))

sound_at : (lim : Limits) (b k : ℕ) → k ≤ 6 → Sound (tree_notion k) (deep lim b) (tree_at b k)
unfolding tree_at
sound_at lim zero k le = λ ts x r e. absurd cc
sound_at lim (suc b) k le = layers_sound lim b (sound_at lim b) k le

pub tree_sound : (l : Limits) (k : ℕ) → k ≤ 6 → Sound (tree_notion k) l (tree_at l.depth k)
tree_sound l k le = sound_at l l.depth k le

-- ---- what is of the grammar is read
layer_complete : (lim : Limits) (b k : ℕ) → suc k ≤ 6 →
    ((j : ℕ) → j ≤ 6 → Complete (tree_notion j) (deep lim b) (tree_at b j)) →
    Complete (tree_notion k) (deep lim (suc b)) (tree_at (suc b) k) →
    Complete (tree_notion (suc k)) (deep lim (suc b)) (tree_at (suc b) (suc k))
layer_complete lim b k le below here =
    elim (five_or k le) [
      | inl lt ↦ chain_complete lim b k lt here (below k (omega arith))
      | inr five ↦ subst (λ n. Complete (tree_notion (suc n)) (deep lim (suc b)) (tree_at (suc b) (suc n))) (sym five)
          (choice_complete lim b (subst (λ n. Complete (tree_notion n) (deep lim (suc b)) (tree_at (suc b) n)) five
          here) (below 6 (omega arith)))
    ]

layers_complete : (lim : Limits) (b : ℕ) → ((j : ℕ) → j ≤ 6 → Complete (tree_notion j) (deep lim b) (tree_at b j)) →
    (k : ℕ) → k ≤ 6 → Complete (tree_notion k) (deep lim (suc b)) (tree_at (suc b) k)
layers_complete lim b below zero le = unary_complete lim b below
layers_complete lim b below (suc k) le = layer_complete lim b k le below (layers_complete lim b below k (omega arith))

complete_at : (lim : Limits) (b k : ℕ) → k ≤ 6 → Complete (tree_notion k) (deep lim b) (tree_at b k)
complete_at lim zero k le = λ t u r h d f. absurd (let p = depth_pos t in omega arith)
complete_at lim (suc b) k le = layers_complete lim b (complete_at lim b) k le

pub tree_complete : (l : Limits) (k : ℕ) → k ≤ 6 → Complete (tree_notion k) l (tree_at l.depth k)
tree_complete l k le = complete_at l l.depth k le

-- ---- a fault is the first
-- what stops a layer stops the next
looser_first : (lim : Limits) (b k : ℕ) → suc k ≤ 6 → (ts : List Placed) (s : Stop) →
    Fault (tree_notion k) (tree_run k) (deep lim (suc b)) ts s →
    Fault (tree_notion (suc k)) (tree_run (suc k)) (deep lim (suc b)) ts s
looser_first lim b k le ts s f =
    carry (tree_notion k) (tree_notion (suc k)) (tree_run k) (tree_run (suc k)) (λ m. m) (deep lim (suc b)) ts [] s f
    (λ m c. c)
    (λ u w. (w.0, w.1, Reads-looser k (suc k) (omega arith) w.1 (u ++ w.0) w.2, w.3))
    (λ u w. (w.0, w.1, Reads-looser k (suc k) (omega arith) w.1 (u ++ w.0) w.2, w.3))
    (λ u w. (w.0, w.1, Reads-looser k (suc k) (omega arith) w.1 (u ++ w.0) w.2, tt))
    (λ m u more w c sh parts q. stops m.depth (u ++ more) (record { why = w; rest = more })
    (let d = (grows_covers w (deep lim (suc b)) m c).depth in omega arith) q)
  where
    stops : (c : ℕ) (l : List Placed) (s : Stop) → 1 ≤ c → tree_at c k l ≡ Err s → tree_at c (suc k) l ≡ Err s
    stops zero l s le q = absurd (omega arith)
    stops (suc c) l s le' q = elim (five_or k le) [
      | inl lt ↦ layer_is c k l lt ∙ rw q refl
      | inr five ↦ subst (λ n. tree_at (suc c) (suc n) l ≡ Err s) (sym five)
          (six_is c l ∙ (let p : tree_at (suc c) 5 l ≡ Err s = subst (λ n. tree_at (suc c) n l ≡ Err s) five q in
          rw p refl))
    ]

layer_first : (lim : Limits) (b k : ℕ) → suc k ≤ 6 →
    (1 ≤ b → (j : ℕ) → j ≤ 6 → First (tree_notion j) (tree_run j) (deep lim b)) →
    First (tree_notion k) (tree_run k) (deep lim (suc b)) →
    First (tree_notion (suc k)) (tree_run (suc k)) (deep lim (suc b))
layer_first lim b k le below here ts s e =
    elim (five_or k le) [
      | inl lt ↦ elim (bind_err (tree_at (suc b) k ts) (λ y. chain b (suc k) (tree_at b k) b y.0 y.1) s
          (sym (layer_is b k ts lt) ∙ e)) [
            | inl g ↦ looser_first lim b k le ts s (here ts s g)
            | inr g ↦
                let t = sound_at lim (suc b) k (omega arith) ts g.0.0 g.0.1 g.1 in
                subst (λ l. Fault (tree_notion (suc k)) (tree_run (suc k)) (deep lim (suc b)) l s) (sym t.parts)
                (chain_first lim b k lt (sound_at lim b k (omega arith)) (λ c. complete_at lim c k (omega arith))
                (λ some.
                below some k (omega arith))
                b g.0.0 t.used g.0.1 s (Reads-looser k (suc k) (omega arith) g.0.0 t.used t.reads) t.fits
                (let p = depth_pos g.0.0 in omega arith) t.ends g.2)
          ]
      | inr five ↦ subst (λ n. Fault (tree_notion (suc n)) (tree_run (suc n)) (deep lim (suc b)) ts s) (sym five)
          (last (subst (λ n. First (tree_notion n) (tree_run n) (deep lim (suc b))) five here)
          (subst (λ n. tree_at (suc b) (suc n) ts ≡ Err s) five e))
    ]
  where
    last : First (tree_notion 5) (tree_run 5) (deep lim (suc b)) → tree_at (suc b) 6 ts ≡ Err s →
        Fault (tree_notion 6) (tree_run 6) (deep lim (suc b)) ts s
    last h f =
        elim (bind_err (tree_at (suc b) 5 ts) (λ y. choice b (tree_at b 6) y.0 y.1) s (sym (six_is b ts) ∙ f)) [
          | inl g ↦ looser_first lim b 5 (omega arith) ts s (h ts s g)
          | inr g ↦
              let t = sound_at lim (suc b) 5 (omega arith) ts g.0.0 g.0.1 g.1 in
              subst (λ l. Fault (tree_notion 6) (tree_run 6) (deep lim (suc b)) l s) (sym t.parts)
              (choice_first lim b (sound_at lim b 6 (omega arith)) (λ m. tree_complete m 5 (omega arith)) (λ m.
              tree_complete m 6 (omega arith)) (λ some. below some 6 (omega arith)) g.0.0 t.used g.0.1 s t.reads
              t.fits g.2)
        ]

layers_first : (lim : Limits) (b : ℕ) → (1 ≤ b → (j : ℕ) → j ≤ 6 → First (tree_notion j) (tree_run j) (deep lim b)) →
    (k : ℕ) → k ≤ 6 → First (tree_notion k) (tree_run k) (deep lim (suc b))
layers_first lim b below zero le = unary_first lim b tree_sound tree_complete below
layers_first lim b below (suc k) le = layer_first lim b k le below (layers_first lim b below k (omega arith))

first_at : (lim : Limits) (b : ℕ) → 1 ≤ b → (k : ℕ) → k ≤ 6 → First (tree_notion k) (tree_run k) (deep lim b)
first_at lim zero some = absurd (omega arith)
first_at lim (suc b) some = layers_first lim b (first_at lim b)

pub tree_first : (l : Limits) → 1 ≤ l.depth → (k : ℕ) → k ≤ 6 → First (tree_notion k) (tree_run k) l
tree_first l some k le = first_at l l.depth some k le

-- an expression of any layer
pub tree_reader : (k : ℕ) → k ≤ 6 → IsReader (tree_notion k) (tree_run k)
tree_reader k le = record {
  sound = λ l. tree_sound l k le;
  complete = λ l. tree_complete l k le;
  first = λ l some.
      tree_first l some k le;
  word = λ l some. (leaf, leaf_tokens, leaf_reads k, some);
}
