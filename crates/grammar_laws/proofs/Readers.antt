-- Readers one after the other, and faults carried from a part to the whole.
use Rattle.std.proofs.Common.{◌≡◌, ℕ, zero, suc, pred, ◌≤◌, Bool, true, false, cond, List, [], ◌∷◌, ◌++◌, Result, Ok, Err, refl, sym, ap, subst, ◌∙◌, append_assoc, arith, inl, inr, ◌⊎◌}
use Rattle.vert_lex.specs.Text.{Placed}
use Rattle.vert_lex.specs.Tokens.{Kind}
use Rattle.vert_grammar.specs.Grammar.{Limits}
use Rattle.vert_grammar.specs.Faults.{Why, Unexpected, TooDeep, TooMany}
use Rattle.vert_grammar.specs.Reading.{Stop, Parser, ◌>>=◌, stop, both_by, begins}
use Rattle.vert_grammar.proofs.Steps.{bind_ok}
use Rattle.grammar_laws.specs.Notions.{Covers, Grows, inside, SameHead, Notion, Took, Sound, Complete, Front, Any, Beyond, Fault, First, HasWord, FollowsBy, both_by_notion}

-- where a step failed: at once, or in what follows
pub bind_err : {A B : Type 0} (r : Result A Stop) (f : A → Result B Stop) (s : Stop) → (r >>= f) ≡ Err s →
    (r ≡ Err s) ⊎ ((x : A) × (r ≡ Ok x) × (f x ≡ Err s))
bind_err (Ok x) f s e = inr (x, refl, e)
bind_err (Err d) f s e = inl cc

pub chosen : {A : Type 0} (b : Bool) (x y z : A) → cond b x y ≡ z → ((b ≡ true) × (x ≡ z)) ⊎ ((b ≡ false) × (y ≡ z))
chosen true x y z e = inl (refl, e)
chosen false x y z e = inr (refl, e)

abbrev pub okay : {A : Type 0} → A → Result A Stop
okay x = Ok x

abbrev pub failed : {A : Type 0} → Stop → Result A Stop
failed s = Err s

pub ok_is : {A : Type 0} (x y : A) → okay x ≡ okay y → x ≡ y
ok_is x y e = cc

pub err_is : (A : Type 0) (s t : Stop) → failed {A = A} s ≡ failed {A = A} t → s ≡ t
err_is A s t e = cc

pub not_ok : {A : Type 0} (x : A) (s : Stop) → okay x ≡ failed s → ⊥
not_ok x s e = cc

pub same_refl : (a : List Placed) → SameHead a a
same_refl [] = tt
same_refl (x ∷ xs) = refl

pub same_behind : (u a b : List Placed) → SameHead a b → SameHead (u ++ a) (u ++ b)
same_behind [] a b h = h
same_behind (x ∷ u) a b h = refl

pub begins_same : (f : Kind → Bool) (a b : List Placed) → SameHead a b → begins f a ≡ begins f b
begins_same f [] [] h = refl
begins_same f [] (y ∷ ys) h = absurd h
begins_same f (x ∷ xs) [] h = absurd h
begins_same f (x ∷ xs) (y ∷ ys) h = ap (λ (t : Placed). f t.kind) h

-- ---- limits
pub covers_refl : (l : Limits) → Covers l l
covers_refl l = record {
  depth = omega arith;
  fields = omega arith;
  slots = omega arith;
  totals = omega arith;
  lets = omega arith;
  sends = omega arith;
}

pub grows_covers : (w : Why) (l m : Limits) → Grows w l m → Covers l m
grows_covers Unexpected l m g = g
grows_covers TooDeep l m g = g.1
grows_covers TooMany l m g = subst (Covers l) g (covers_refl l)

pub grows_refl : (w : Why) (l : Limits) → Grows w l l
grows_refl Unexpected l = covers_refl l
grows_refl TooDeep l = (refl, covers_refl l)
grows_refl TooMany l = refl

pred_mono : (a b : ℕ) → a ≤ b → pred a ≤ pred b
pred_mono zero b le = omega arith
pred_mono (suc a) zero le = absurd (omega arith)
pred_mono (suc a) (suc b) le = omega arith

covers_inside : (l m : Limits) → Covers l m → Covers (inside l) (inside m)
covers_inside l m c = record {
  depth = pred_mono l.depth m.depth c.depth;
  fields = c.fields;
  slots = c.slots;
  totals = c.totals;
  lets = c.lets;
  sends = c.sends;
}

pub grows_inside : (w : Why) (l m : Limits) → Grows w l m → Grows w (inside l) (inside m)
grows_inside Unexpected l m g = covers_inside l m g
grows_inside TooDeep l m g = (ap pred g.0, covers_inside l m g.1)
grows_inside TooMany l m g = ap inside g

-- A fault inside becomes one outside, behind what stands in front; the inner limits are a function of the outer ones.
module _ {A B : Type 0} (N : Notion A) (M : Notion B) (p : Limits → Parser A) (q : Limits → Parser B)
    (inner : Limits → Limits) (l : Limits) (ts pre : List Placed) (s : Stop) where
  pub carry : Fault N p (inner l) ts s
      → ((m : Limits) → Grows s.why l m → Grows s.why (inner l) (inner m))
      → ((u : List Placed) → Front N.form (N.within (inner l)) u → Front M.form (M.within l) (pre ++ u))
      → ((u : List Placed) → Front N.form (N.shallow (inner l).depth) u → Front M.form (M.shallow l.depth) (pre ++ u))
      → ((u : List Placed) → Front N.form Any u → Front M.form Any (pre ++ u))
      → ((m : Limits) (u more : List Placed) (w : Why) → Grows w l m → SameHead more s.rest → ts ≡ u ++ s.rest →
      p (inner m) (u ++ more) ≡ stop w more → q m (pre ++ (u ++ more)) ≡ stop w more)
      → Fault M q l (pre ++ ts) s
  carry f mono wi sh an run = record {
    used = pre ++ f.used;
    parts = ap (λ l. pre ++ l) f.parts ∙ sym (append_assoc pre f.used s.rest);
    front = wi f.used f.front;
    stays = λ m more g h. ap (q m) (append_assoc pre f.used more)
        ∙ run m f.used more s.why g h f.parts (f.stays (inner m) more (mono m g) h);
    beyond = go s.why s.rest f.beyond;
  }
    where
      go : (w : Why) (rest : List Placed) → Beyond N (inner l) w f.used rest → Beyond M l w (pre ++ f.used) rest
      go Unexpected rest k = tt
      go TooDeep [] k = k
      go TooDeep (t ∷ rest) k = subst (Front M.form Any) (sym (append_assoc pre f.used (t ∷ [])))
          (an (f.used ++ t ∷ []) k)
      go TooMany [] k = k
      go TooMany (t ∷ rest) k = subst (Front M.form (M.shallow l.depth)) (sym (append_assoc pre f.used (t ∷ [])))
          (sh (f.used ++ t ∷ []) k)

-- ---- one after the other
module _ {A B : Type 0} (N : Notion A) (M : A → Notion B) where
  pub both_sound : (l : Limits) (p : Parser A) (q : A → Parser B) → Sound N l p → ((x : A) → Sound (M x) l (q x)) →
      Sound (both_by_notion N M) l (both_by p q)
  both_sound l p q hp hq ts z r e =
      let s1 = bind_ok (p ts) (λ x. q x.0 x.1 >>= λ y. Ok ((x.0, y.0), y.1)) (z, r) e in
      let x = s1.0 in
      let s2 = bind_ok (q x.0 x.1) (λ y. Ok ((x.0, y.0), y.1)) (z, r) s1.2 in
      let y = s2.0 in
      let t1 = hp ts x.0 x.1 s1.1 in
      let t2 = hq x.0 x.1 y.0 y.1 s2.1 in
      let t : Took (both_by_notion N M) l ts (x.0, y.0) y.1 = record {
        used = t1.used ++ t2.used;
        parts = t1.parts ∙ ap (λ l. t1.used ++ l) t2.parts ∙ sym (append_assoc t1.used t2.used y.1);
        reads = record { front = t1.used; back = t2.used; whole = refl; first = t1.reads; second = t2.reads };
        fits = (t1.fits, t2.fits);
        ends = t2.ends;
      } in
      subst (λ (w : (A × B) × List Placed). Took (both_by_notion N M) l ts w.0 w.1) (ok_is _ _ s2.2) t

  pub both_complete : (l : Limits) (p : Parser A) (q : A → Parser B) → FollowsBy N M → Complete N l p →
      ((x : A) → Complete (M x) l (q x)) → Complete (both_by_notion N M) l (both_by p q)
  both_complete l p q fol hp hq z u r h w f =
      let e1 : p (u ++ r) ≡ Ok (z.0, h.back ++ r) =
      ap (λ l. p (l ++ r)) h.whole ∙ ap p (append_assoc h.front h.back r)
      ∙ hp z.0 h.front (h.back ++ r) h.first w.0 (fol z.0 z.1 h.back r h.second f) in
      let e2 : q z.0 (h.back ++ r) ≡ Ok (z.1, r) = hq z.0 z.1 h.back r h.second w.1 f in
      rw (e1, e2) refl

  module _ (l : Limits) (p : Limits → Parser A) (q : A → Limits → Parser B) where
    pub both_first : FollowsBy N M → ((x : A) → HasWord (M x) l) → Sound N l (p l) →
        ((m : Limits) → Covers l m → Complete N m (p m)) → First N p l → ((x : A) → First (M x) (q x) l) →
        First (both_by_notion N M) (λ m. both_by (p m) (λ x. q x m)) l
    both_first fol word hp cp fp fq ts s e =
        elim (bind_err (p l ts) (λ x. q x.0 l x.1 >>= λ y. Ok ((x.0, y.0), y.1)) s e) [
          | inl h ↦ in_first (fp ts s h)
          | inr h ↦ in_second h.0 h.1 (elim (bind_err (q h.0.0 l h.0.1) (λ y. Ok ((h.0.0, y.0), y.1)) s h.2)
              [ inl g ↦ g | inr g ↦ absurd (not_ok _ _ g.2) ])
        ]
      where
        on : (W V : A × B → Type 0) (U : A → Type 0) → ((x : A) → U x → W (x, (word x).0)) → (u : List Placed) →
            Front N.form U u → Front (both_by_notion N M).form W u
        on W V U ok u f = let w = word f.1 in (
          f.0 ++ w.1,
          (f.1, w.0),
          record {
            front = u ++ f.0;
            back = w.1;
            whole = sym (append_assoc u f.0 w.1);
            first = f.2;
            second = w.2;
          },
          ok f.1 f.3,
        )

        in_first : Fault N p l ts s → Fault (both_by_notion N M) (λ m. both_by (p m) (λ x. q x m)) l ts s
        in_first f = carry N (both_by_notion N M) p (λ m. both_by (p m) (λ x. q x m)) (λ m. m) l ts [] s f (λ m g. g)
            (on ((both_by_notion N M).within l) ((both_by_notion N M).within l) (N.within l) (λ x h. (h, (word x).3)))
            (on ((both_by_notion N M).shallow l.depth) ((both_by_notion N M).within l) (N.shallow l.depth) (λ x h.
            (h, (M x).weaker l (word x).0 (word x).3)))
            (on Any Any Any (λ x h. tt))
            (λ m u more w g sh parts k. ap (λ z. z >>= λ x. q x.0 m x.1 >>= λ y. Ok ((x.0, y.0), y.1)) k)

        in_second : (z : A × List Placed) → p l ts ≡ Ok z → q z.0 l z.1 ≡ Err s →
            Fault (both_by_notion N M) (λ m. both_by (p m) (λ x. q x m)) l ts s
        in_second z e1 e2 =
            let t = hp ts z.0 z.1 e1 in
            let behind : (W : A × B → Type 0) (V : B → Type 0) → ((y : B) → V y → W (z.0, y)) → (u : List Placed) →
            Front (M z.0).form V u → Front (both_by_notion N M).form W (t.used ++ u) =
            λ W V ok u f. (
              f.0,
              (z.0, f.1),
              record {
                front = t.used;
                back = u ++ f.0;
                whole = append_assoc t.used u f.0;
                first = t.reads;
                second = f.2;
              },
              ok f.1 f.3,
            ) in
            subst (λ l'. Fault (both_by_notion N M) (λ m. both_by (p m) (λ x. q x m)) l l' s) (sym t.parts)
            (carry (M z.0) (both_by_notion N M) (q z.0) (λ m. both_by (p m) (λ x. q x m)) (λ m. m) l z.1 t.used s
            (fq z.0 z.1 s e2) (λ m g. g)
            (behind ((both_by_notion N M).within l) ((M z.0).within l) (λ y h. (t.fits, h)))
            (behind ((both_by_notion N M).shallow l.depth) ((M z.0).shallow l.depth) (λ y h. (
              N.weaker l z.0
                  t.fits,
              h,
            )))
            (behind Any Any (λ y h. tt))
            (λ m u more w g sh parts k.
            let c = grows_covers w l m g in
            let f : N.follow z.0 (u ++ more) =
            N.ahead z.0 (u ++ more) (u ++ s.rest) (same_behind u more s.rest sh) (subst (N.follow z.0) parts t.ends)
            in
            let e3 : p m (t.used ++ (u ++ more)) ≡ Ok (z.0, u ++ more) =
            cp m c z.0 t.used (u ++ more) t.reads (N.wider l m z.0 c t.fits) f in
            rw (e3, k) refl))
