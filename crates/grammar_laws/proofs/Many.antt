-- Lists of any length: the bound by the number of tokens is never felt.
use Rattle.std.proofs.Common.{◌≡◌, ℕ, zero, suc, ◌≤◌, ◌<◌, Bool, true, false, cond, List, [], ◌∷◌, ◌++◌, length, Ok, Err, refl, sym, ap, subst, ◌∙◌, arith, append_assoc, length-append}
use Rattle.std.proofs.lemmas.List.{append-nil}
use Rattle.std.specs.List.{AllByRecursion}
use Rattle.vert_lex.specs.Text.{Placed}
use Rattle.vert_lex.specs.Tokens.{Kind}
use Rattle.vert_grammar.specs.Grammar.{Form, Each, Limits}
use Rattle.vert_grammar.specs.Reading.{Stop, Res, Parser, ◌>>=◌, both, made, begins, many_from, many}
use Rattle.vert_grammar.proofs.Steps.{in_front}
use Rattle.grammar_laws.specs.Notions.{SameHead, Notion, Took, Sound, Complete, Fault, First, Front, Any}
use Rattle.grammar_laws.proofs.Readers.{ok_is, err_is, same_behind, begins_same, grows_covers, carry}
use Rattle.grammar_laws.proofs.Lists.{all_wider, all_weaker}

-- what is read is never nothing
abbrev pub Shrinks : {A : Type 0} → Parser A → Type 0
Shrinks {A} p = (ts : List Placed) (x : A) (r : List Placed) → p ts ≡ Ok (x, r) → length r < length ts

module _ {A : Type 0} (f : Kind → Bool) (p : Parser A) where
  from_suc : (n : ℕ) (ts : List Placed) → many_from f p (suc n) ts
      ≡ cond (begins f ts) (made (λ x. x.0 ∷ x.1) (both p (many_from f p n)) ts) (Ok ([], ts))
  unfolding many_from
  from_suc n ts = refl

  from_zero : (ts : List Placed) → many_from f p zero ts ≡ Ok ([], ts)
  unfolding many_from
  from_zero ts = refl

  none_left : (n : ℕ) (ts : List Placed) → begins f ts ≡ false → many_from f p n ts ≡ Ok ([], ts)
  none_left zero ts b = from_zero ts
  none_left (suc n) ts b = from_suc n ts ∙ rw b refl

  one_fails : (n : ℕ) (ts : List Placed) (s : Stop) → begins f ts ≡ true → p ts ≡ Err s →
      many_from f p (suc n) ts ≡ Err s
  one_fails n ts s b e = from_suc n ts ∙ rw (b, e) refl

  one_more : (n : ℕ) (ts : List Placed) (y : A × List Placed) → begins f ts ≡ true → p ts ≡ Ok y →
      many_from f p (suc n) ts ≡ in_front y.0 (many_from f p n y.1)
  one_more n ts y b e = from_suc n ts ∙ rw (b, e) refl

  enough : Shrinks p → (n m : ℕ) (ts : List Placed) → length ts ≤ n → n ≤ m → many_from f p m ts ≡ many_from f p n ts
  enough h zero m [] le k = none_left m [] refl ∙ sym (none_left zero [] refl)
  enough h zero m (t ∷ ts) le k = absurd (omega arith)
  enough h (suc n) zero ts le k = absurd (omega arith)
  enough h (suc n) (suc m) ts le k = go (begins f ts) refl (p ts) refl (λ r lt. enough h n m r lt (omega arith))
    where
      go : (v : Bool) → begins f ts ≡ v → (w : Res A) → p ts ≡ w →
          ((r : List Placed) → length r ≤ n → many_from f p m r ≡ many_from f p n r) →
          many_from f p (suc m) ts ≡ many_from f p (suc n) ts
      go false b w e ih = none_left (suc m) ts b ∙ sym (none_left (suc n) ts b)
      go true b (Err s) e ih = one_fails m ts s b e ∙ sym (one_fails n ts s b e)
      go true b (Ok y) e ih =
          let lt = h ts y.0 y.1 e in
          one_more m ts y b e ∙ ap (in_front y.0) (ih y.1 (omega arith)) ∙ sym (one_more n ts y b e)

  -- the equation that a loop follows
  pub many_goes_on : Shrinks p → (ts : List Placed) (y : A) (r : List Placed) → begins f ts ≡ true →
      p ts ≡ Ok (y, r) → many f p ts ≡ in_front y (many f p r)
  unfolding many
  many_goes_on h [] y r b e = absurd cc
  many_goes_on h (t ∷ ts) y r b e =
      one_more (length ts) (t ∷ ts) (y, r) b e
      ∙ ap (in_front y) (enough h (length r) (length ts) r (omega arith) (let lt = h (t ∷ ts) y r e in omega arith))

  pub many_ends : (ts : List Placed) → begins f ts ≡ false → many f p ts ≡ Ok ([], ts)
  unfolding many
  many_ends ts b = none_left (length ts) ts b

  pub many_fails : (ts : List Placed) (s : Stop) → begins f ts ≡ true → p ts ≡ Err s → many f p ts ≡ Err s
  unfolding many
  many_fails [] s b e = absurd cc
  many_fails (t ∷ ts) s b e = one_fails (length ts) (t ∷ ts) s b e

-- ---- the three laws
-- what may follow a list: no further item, and what may follow the last one
abbrev pub ListEnds : {A : Type 0} → Notion A → (Kind → Bool) → List A → Form
ListEnds N f [] r = begins f r ≡ false
ListEnds N f (x ∷ []) r = (begins f r ≡ false) × N.follow x r
ListEnds N f (x ∷ y ∷ ys) r = ListEnds N f (y ∷ ys) r

pub ListEnds-same : {A : Type 0} (N : Notion A) (f : Kind → Bool) (xs : List A) (a b : List Placed) → SameHead a b →
    ListEnds N f xs b → ListEnds N f xs a
ListEnds-same N f [] a b sh h = begins_same f a b sh ∙ h
ListEnds-same N f (x ∷ []) a b sh h = (begins_same f a b sh ∙ h.0, N.ahead x a b sh h.1)
ListEnds-same N f (x ∷ y ∷ ys) a b sh h = ListEnds-same N f (y ∷ ys) a b sh h

ListEnds-test : {A : Type 0} (N : Notion A) (f : Kind → Bool) (xs : List A) (r : List Placed) → ListEnds N f xs r →
    begins f r ≡ false
ListEnds-test N f [] r h = h
ListEnds-test N f (x ∷ []) r h = h.0
ListEnds-test N f (x ∷ y ∷ ys) r h = ListEnds-test N f (y ∷ ys) r h

module _ {A : Type 0} (N : Notion A) (f : Kind → Bool) (y : A) where
  ListEnds-cons : (ys : List A) (mid used r : List Placed) → mid ≡ used ++ r → Each N.form ys used →
      N.follow y mid → ListEnds N f ys r → ListEnds N f (y ∷ ys) r
  ListEnds-cons [] mid used r e h g k = (k, subst (N.follow y) (e ∙ ap (λ l. l ++ r) h) g)
  ListEnds-cons (z ∷ zs) mid used r e h g k = k

abbrev pub all_notion : {A : Type 0} → Notion A → (Kind → Bool) → Notion (List A)
all_notion N f = record {
  form = Each N.form;
  within = λ l xs. AllByRecursion (N.within l) xs;
  shallow = λ b xs. AllByRecursion (N.shallow b) xs;
  follow = ListEnds N f;
  wider = λ k l xs c h. all_wider N xs k l c h;
  weaker = λ l xs h. all_weaker N xs l h;
  ahead = ListEnds-same N f;
}

in_front_ok : {A : Type 0} (y : A) (q : Res (List A)) (xs : List A) (r : List Placed) → in_front y q ≡ Ok (xs, r) →
    (ys : List A) × (q ≡ Ok (ys, r)) × (y ∷ ys ≡ xs)
in_front_ok y (Ok z) xs r e = (
  z.0,
  ap (λ (l : List Placed). Ok (z.0, l))
      (ap (λ (w : _ × List Placed). w.1) (ok_is _ _ e)),
  ap (λ (w : _ × List Placed). w.0) (ok_is _ _ e),
)
in_front_ok y (Err s) xs r e = absurd cc

in_front_err : {A : Type 0} (y : A) (q : Res (List A)) (s : Stop) → in_front y q ≡ Err s → q ≡ Err s
in_front_err y (Ok z) s e = absurd cc
in_front_err y (Err t) s e = (let z = e in cc)

module _ {A : Type 0} (N : Notion A) (f : Kind → Bool) (next : (x y : A) (v r : List Placed) → N.form y v →
    N.follow x (v ++ r)) (opens : (x : A) (u r : List Placed) → N.form x u → begins f (u ++ r) ≡ true)
    (solid : (x : A) (u : List Placed) → N.form x u → 1 ≤ length u) where
  shrinks : (b : Limits) (p : Parser A) → Sound N b p → Shrinks p
  shrinks b p h ts x r e = let t = h ts x r e in let l = ap length t.parts ∙ length-append t.used r in
      let s = solid x t.used t.reads in omega arith

  module _ (b : Limits) (p : Parser A) where
    many_sound_by : Sound N b p → (n : ℕ) (ts : List Placed) → length ts ≤ n → (xs : List A) (r : List Placed) →
        many f p ts ≡ Ok (xs, r) → Took (all_notion N f) b ts xs r
    many_sound_by hp n ts le xs r e = go n ts le xs r e
      where
        stop_here : (ts : List Placed) (xs : List A) (r : List Placed) → begins f ts ≡ false → many f p ts ≡ Ok
            (xs, r)
            → Took (all_notion N f) b ts xs r
        stop_here ts xs r v e = subst (λ (w : List A × List Placed). Took (all_notion N f) b ts w.0 w.1)
            (ok_is _ _ (sym (many_ends f p ts v) ∙ e))
            (record { used = []; parts = refl; reads = refl; fits = tt; ends = v })

        one : (ts : List Placed) (xs : List A) (r : List Placed) → begins f ts ≡ true → (w : Res A) → p ts ≡ w →
            many f p ts ≡ Ok (xs, r) → ((l : List Placed) → length l < length ts → (ys : List A) (r : List Placed) →
            many f p l ≡ Ok (ys, r) → Took (all_notion N f) b l ys r) → Took (all_notion N f) b ts xs r
        one ts xs r v (Err s) q e ih = absurd (let z = sym (many_fails f p ts s v q) ∙ e in cc)
        one ts xs r v (Ok y) q e ih =
            let t = hp ts y.0 y.1 q in
            let k = in_front_ok y.0 (many f p y.1) xs r (sym (many_goes_on f p (shrinks b p hp) ts y.0 y.1 v q) ∙
            e) in
            let u = ih y.1 (shrinks b p hp ts y.0 y.1 q) k.0 r k.1 in
            subst (λ zs. Took (all_notion N f) b ts zs r) k.2
            (record {
              used = t.used ++ u.used;
              parts = t.parts ∙ ap (λ l. t.used ++ l) u.parts ∙ sym (append_assoc t.used u.used r);
              reads = record { front = t.used; back = u.used; whole = refl; first = t.reads; second = u.reads };
              fits = (t.fits, u.fits);
              ends = ListEnds-cons N f y.0 k.0 y.1 u.used r u.parts u.reads t.ends u.ends;
            })

        go : (n : ℕ) (ts : List Placed) → length ts ≤ n → (xs : List A) (r : List Placed) → many f p ts ≡ Ok (xs, r) →
            Took (all_notion N f) b ts xs r
        go zero [] le xs r e = stop_here [] xs r refl e
        go zero (t ∷ ts) le xs r e = absurd (omega arith)
        go (suc n) ts le xs r e = by_test (begins f ts) refl (λ l lt ys r e. go n l (omega arith) ys r e)
          where
            by_test : (v : Bool) → begins f ts ≡ v →
                ((l : List Placed) → length l < length ts → (ys : List A) (r : List Placed) → many f p l ≡ Ok (
                  ys,
                  r,
                ) →
                Took (all_notion N f) b l ys r) → Took (all_notion N f) b ts xs r
            by_test false v ih = stop_here ts xs r v e
            by_test true v ih = one ts xs r v (p ts) refl e ih

  pub many_sound : (b : Limits) (p : Parser A) → Sound N b p → Sound (all_notion N f) b (many f p)
  many_sound b p hp ts xs r e = many_sound_by b p hp (length ts) ts (omega arith) xs r e

  behind : (x : A) (xs : List A) (v r : List Placed) → Each N.form xs v → ListEnds N f (x ∷ xs) r →
      N.follow x (v ++ r) × ListEnds N f xs r
  behind x [] v r h g = (subst (λ l. N.follow x (l ++ r)) (sym h) g.1, g.0)
  behind x (y ∷ ys) v r h g = (
    subst (N.follow x) (sym (ap (λ l. l ++ r) h.whole ∙ append_assoc h.front h.back r))
        (next x y h.front (h.back ++ r) h.first),
    g,
  )

  pub many_complete : (b : Limits) (p : Parser A) → Sound N b p → Complete N b p →
      Complete (all_notion N f) b (many f p)
  many_complete b p hs hp [] u r h w g = ap (λ l. many f p (l ++ r)) h ∙ many_ends f p r g
  many_complete b p hs hp (x ∷ xs) u r h w g =
      let whole : u ++ r ≡ h.front ++ (h.back ++ r) = ap (λ l. l ++ r) h.whole ∙ append_assoc h.front h.back r in
      let q = behind x xs h.back r h.second g in
      let e : p (h.front ++ (h.back ++ r)) ≡ Ok (x, h.back ++ r) = hp x h.front (h.back ++ r) h.first w.0 q.0 in
      let ih : many f p (h.back ++ r) ≡ Ok (xs, r) = many_complete b p hs hp xs h.back r h.second w.1 q.1 in
      ap (many f p) whole ∙ many_goes_on f p (shrinks b p hs) (h.front ++ (h.back ++ r)) x (h.back ++ r)
      (opens x h.front (h.back ++ r) h.first) e ∙ ap (in_front x) ih

  module _ (b : Limits) (p : Limits → Parser A) (hs : (c : Limits) → Sound N c (p c)) (hp : (c : Limits) →
      Complete N c (p c)) (fp : First N p b) where
    abbrev Stops : List Placed → Stop → Type 0
    Stops ts s = Fault (all_notion N f) (λ c. many f (p c)) b ts s

    in_first : (ts : List Placed) (s : Stop) → begins f ts ≡ true → Fault N p b ts s → Stops ts s
    in_first ts s v g =
        carry N (all_notion N f) p (λ c. many f (p c)) (λ c. c) b ts [] s g (λ c le. le)
        (λ u w. (w.0, w.1 ∷ [], alone w.1 (u ++ w.0) w.2, (w.3, tt)))
        (λ u w. (w.0, w.1 ∷ [], alone w.1 (u ++ w.0) w.2, (w.3, tt)))
        (λ u w. (w.0, w.1 ∷ [], alone w.1 (u ++ w.0) w.2, tt))
        (λ c u more w le sh parts q. many_fails f (p c) (u ++ more) (record { why = w; rest = more })
        (begins_same f (u ++ more) (u ++ s.rest) (same_behind u more s.rest sh) ∙ ap (begins f) (sym parts) ∙ v) q)
      where
        alone : (x : A) (u : List Placed) → N.form x u → Each N.form (x ∷ []) u
        alone x u h = record { front = u; back = []; whole = sym (append-nil u); first = h; second = refl }

    in_later : (ts : List Placed) (s : Stop) (y : A) (r : List Placed) → begins f ts ≡ true → p b ts ≡ Ok (y, r) →
        Stops r s → Stops ts s
    in_later ts s y r v e g =
        let t = hs b ts y r e in
        let on : (W V : List A → Type 0) → ((xs : List A) → V xs → W (y ∷ xs)) → (u : List Placed) →
        Front (Each N.form) V u → Front (Each N.form) W (t.used ++ u) =
        λ W V ok u w. (
          w.0,
          y ∷ w.1,
          record {
            front = t.used;
            back = u ++ w.0;
            whole = append_assoc t.used u w.0;
            first = t.reads;
            second = w.2;
          },
          ok w.1 w.3,
        ) in
        subst (λ l. Stops l s) (sym t.parts)
        (carry (all_notion N f) (all_notion N f) (λ c. many f (p c)) (λ c. many f (p c)) (λ c. c) b r t.used s g
        (λ c le. le)
        (on ((all_notion N f).within b) ((all_notion N f).within b) (λ xs h. (t.fits, h)))
        (on ((all_notion N f).shallow b.depth) ((all_notion N f).shallow b.depth) (λ xs h. (N.weaker b y t.fits, h)))
        (on Any Any (λ xs h. tt))
        (λ c u more w le sh parts q.
        let k : p c (t.used ++ (u ++ more)) ≡ Ok (y, u ++ more) =
        hp c y t.used (u ++ more) t.reads (N.wider b c y (grows_covers w b c le) t.fits)
        (N.ahead y (u ++ more) (u ++ s.rest) (same_behind u more s.rest sh) (subst (N.follow y) parts t.ends)) in
        many_goes_on f (p c) (shrinks c (p c) (hs c)) (t.used ++ (u ++ more)) y (u ++ more)
        (opens y t.used (u ++ more) t.reads) k ∙ ap (in_front y) q))

    first_by : (n : ℕ) (ts : List Placed) → length ts ≤ n → (s : Stop) → many f (p b) ts ≡ Err s → Stops ts s
    first_by zero [] le s e = absurd (let z = sym (many_ends f (p b) [] refl) ∙ e in cc)
    first_by zero (t ∷ ts) le s e = absurd (omega arith)
    first_by (suc n) ts le s e = by_test (begins f ts) refl (p b ts) refl (λ l lt e. first_by n l (omega arith) s e)
      where
        by_test : (v : Bool) → begins f ts ≡ v → (w : Res A) → p b ts ≡ w →
            ((l : List Placed) → length l < length ts → many f (p b) l ≡ Err s → Stops l s) → Stops ts s
        by_test false v w q ih = absurd (let z = sym (many_ends f (p b) ts v) ∙ e in cc)
        by_test true v (Err t) q ih = subst (Stops ts)
            (err_is (List A × List Placed) _ _ (sym (many_fails f (p b) ts t v q) ∙ e)) (in_first ts t v (fp ts t q))
        by_test true v (Ok y) q ih = in_later ts s y.0 y.1 v q
            (ih y.1 (shrinks b (p b) (hs b) ts y.0 y.1 q)
            (in_front_err y.0 (many f (p b) y.1) s (sym (many_goes_on f (p b) (shrinks b (p b) (hs b)) ts y.0 y.1 v q)
            ∙ e)))

    pub many_first : First (all_notion N f) (λ c. many f (p c)) b
    many_first ts s e = first_by (length ts) ts (omega arith) s e
